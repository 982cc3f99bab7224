-- The numbers that rows have, found from the recorded ones, and one row after another.
use Rattle.std.proofs.Common.{ℕ, zero, suc, ◌≡◌, ◌∙◌, ◌⊎◌, ◌↔◌, ◌++◌, ◌==◌, ◌<◌, ◌≤◌, ◌+◌, true, false, cond, List, [], ◌∷◌, length, take, get_or, flat_map, Contains, Option, Some, None, refl, sym, ap, subst, inl, inr, arith}
use Rattle.std.proofs.lemmas.Bool.{eqb-true}
use Rattle.std.proofs.lemmas.List.{take_more, take_all}
use Rattle.std.proofs.lemmas.List.Elements.{Contains-append_left, Contains-append_right, Contains-append_cases}
use Rattle.std.proofs.lemmas.Option.{none-some, same_Some}
use Rattle.std.specs.Option.{option_to_list}
use Rattle.um_model.specs.Transitions.{HasNumber, live_numbers}
use Rattle.um_model.specs.declared.service.UnitState.{UnitState}
use Rattle.um_state.specs.Finding.{Finds, IsHad, IsTold, row_at}
use Rattle.um_state.specs.LiveRows.{told}
use Rattle.um_state.specs.declared.finder.Finder.{Finder}
use Rattle.um_state.specs.declared.live.Live.{Live}
use Rattle.um_state.proofs.FindingLaws.{nobody}

-- ---- one of the recorded numbers

-- one of them is still the row's
abbrev pub AreTold : List UnitState → List Live → ℕ → Type 0
AreTold rows [] n = ⊥
AreTold rows (live ∷ more) n = IsTold rows live n ⊎ AreTold rows more n

behind : (rows : List UnitState) (list : List Live) (live : Live) (n : ℕ) → AreTold rows list n ⊎ IsTold rows live n → AreTold rows (list ++ live ∷ []) n
behind rows [] live n (inl none) = absurd none
behind rows [] live n (inr last) = inl last
behind rows (first ∷ more) live n (inl (inl here)) = inl here
behind rows (first ∷ more) live n (inl (inr later)) = inr (behind rows more live n (inl later))
behind rows (first ∷ more) live n (inr last) = inr (behind rows more live n (inr last))

either : (rows : List UnitState) (list : List Live) (live : Live) (n : ℕ) → AreTold rows (list ++ live ∷ []) n → AreTold rows list n ⊎ IsTold rows live n
either rows [] live n (inl last) = inr last
either rows [] live n (inr none) = absurd none
either rows (first ∷ more) live n (inl here) = inl (inl here)
either rows (first ∷ more) live n (inr later) = elim (either rows more live n later) as (λ _. AreTold rows (first ∷ more) n ⊎ IsTold rows live n) [
  | inl there ↦ inl (inr there)
  | inr last ↦ inr last
]

-- none is looked at yet
pub told_none : (rows : List UnitState) (list : List Live) (numbers : List ℕ) → numbers ≡ [] → (n : ℕ) → Contains numbers n ↔ AreTold rows (take 0 list) n
told_none rows list numbers is n = subst (λ ns. Contains ns n ↔ AreTold rows (take 0 list) n) (sym is) (λ (k, h, e). absurd (omega (arith, h)), λ none. absurd none)

-- one more is looked at
pub told_more : (rows : List UnitState) (list : List Live) (k : ℕ) (live : Live) (before after : List ℕ) → k < length list → live ≡ get_or list k live
    → ((n : ℕ) → Contains before n ↔ AreTold rows (take k list) n) → ((n : ℕ) → Contains after n ↔ (Contains before n ⊎ IsTold rows live n))
    → (n : ℕ) → Contains after n ↔ AreTold rows (take (k + 1) list) n
told_more rows list k live before after h at so_far step n = (there, here)
  where
    is : take (k + 1) list ≡ take k list ++ live ∷ []
    is = take_more list k live h ∙ ap (λ l. take k list ++ l ∷ []) (sym at)

    there : Contains after n → AreTold rows (take (k + 1) list) n
    there c = subst (λ ls. AreTold rows ls n) (sym is) (behind rows (take k list) live n (elim ((step n).0 c) as (λ _. AreTold rows (take k list) n ⊎ IsTold rows live n) [
      | inl old ↦ inl ((so_far n).0 old)
      | inr new ↦ inr new
    ]))

    here : AreTold rows (take (k + 1) list) n → Contains after n
    here t = (step n).1 (elim (either rows (take k list) live n (subst (λ ls. AreTold rows ls n) is t)) as (λ _. Contains before n ⊎ IsTold rows live n) [
      | inl old ↦ inl ((so_far n).1 old)
      | inr new ↦ inr new
    ])

-- ---- those are the numbers that rows have

had : (rows : List UnitState) (list : List Live) (n : ℕ) → AreTold rows list n → IsHad rows n
had rows [] n none = absurd none
had rows (live ∷ more) n (inl (is, has)) = (live.row, has)
had rows (live ∷ more) n (inr later) = had rows more n later

one_has : (rows : List UnitState) (list : List Live) (n i : ℕ) → told list n ≡ Some i → HasNumber (row_at rows i) n → AreTold rows list n
one_has rows [] n i is has = absurd (none-some i is)
one_has rows (live ∷ more) n i is has = elim (live.number == n) as (λ b. (live.number == n) ≡ b → AreTold rows (live ∷ more) n) [
  | true ↦ λ e.
      let same = same_Some live.row i (ap (λ b. cond b (Some live.row) (told more n)) (sym e) ∙ is) in
      inl (eqb-true live.number n e, subst (λ j. HasNumber (row_at rows j) n) (sym same) has)
  | false ↦ λ e. inr (one_has rows more n i (ap (λ b. cond b (Some live.row) (told more n)) (sym e) ∙ is) has)
] refl

had_exactly : (rows : List UnitState) (finder : Finder) → Finds rows finder → finder.is_partial ≡ false → (n : ℕ) → AreTold rows finder.live.list.items n ↔ IsHad rows n
had_exactly rows finder finds whole n = (had rows finder.live.list.items n, λ (i, has). one_has rows finder.live.list.items n i (finds i n has whole) has)

-- all are looked at
pub told_all : (rows : List UnitState) (finder : Finder) (list : List Live) (k : ℕ) (numbers : List ℕ) → Finds rows finder → finder.is_partial ≡ false → list ≡ finder.live.list.items
    → length list ≤ k → ((n : ℕ) → Contains numbers n ↔ AreTold rows (take k list) n) → (n : ℕ) → Contains numbers n ↔ IsHad rows n
told_all rows finder list k numbers finds whole is h so_far n =
    let all : take k list ≡ finder.live.list.items = take_all k list h ∙ is in
    let exactly = had_exactly rows finder finds whole n in
    (λ c. exactly.0 (subst (λ ls. AreTold rows ls n) all ((so_far n).0 c)), λ has. (so_far n).1 (subst (λ ls. AreTold rows ls n) (sym all) (exactly.1 has)))

-- ---- and those of the rows one after another

of_option : (o : Option ℕ) (n : ℕ) → Contains (option_to_list o) n → o ≡ Some n
of_option None n (k, h, e) = absurd (omega (arith, h))
of_option (Some m) n (zero, h, e) = ap Some e
of_option (Some m) n (suc k, h, e) = absurd (omega (arith, h))

in_option : (o : Option ℕ) (n : ℕ) → o ≡ Some n → Contains (option_to_list o) n
in_option o n is = subst (λ p. Contains (option_to_list p) n) (sym is) (0, omega arith, refl)

of_unit : (u : UnitState) (n : ℕ) → Contains (live_numbers u) n → HasNumber u n
of_unit u n c = elim (Contains-append_cases (option_to_list u.main) (option_to_list u.control) n c) as (λ _. HasNumber u n) [
  | inl main ↦ inl (of_option u.main n main)
  | inr control ↦ inr (of_option u.control n control)
]

in_unit : (u : UnitState) (n : ℕ) → HasNumber u n → Contains (live_numbers u) n
in_unit u n (inl main) = Contains-append_left (option_to_list u.main) (option_to_list u.control) n (in_option u.main n main)
in_unit u n (inr control) = Contains-append_right (option_to_list u.main) (option_to_list u.control) n (in_option u.control n control)

in_rows : (rows : List UnitState) (n i : ℕ) → HasNumber (row_at rows i) n → Contains (flat_map live_numbers rows) n
in_rows [] n i has = absurd (nobody n has)
in_rows (u ∷ rows) n zero has = Contains-append_left (live_numbers u) (flat_map live_numbers rows) n (in_unit u n has)
in_rows (u ∷ rows) n (suc i) has = Contains-append_right (live_numbers u) (flat_map live_numbers rows) n (in_rows rows n i has)

of_rows : (rows : List UnitState) (n : ℕ) → Contains (flat_map live_numbers rows) n → IsHad rows n
of_rows [] n (k, h, e) = absurd (omega (arith, h))
of_rows (u ∷ rows) n c = elim (Contains-append_cases (live_numbers u) (flat_map live_numbers rows) n c) as (λ _. IsHad (u ∷ rows) n) [
  | inl here ↦ (0, of_unit u n here)
  | inr later ↦ let one = of_rows rows n later in (suc one.0, one.1)
]

-- so they are those of the units
pub had_in_units : (rows : List UnitState) (all numbers : List ℕ) → flat_map live_numbers rows ≡ all → ((n : ℕ) → Contains numbers n ↔ IsHad rows n)
    → (n : ℕ) → Contains numbers n ↔ Contains all n
had_in_units rows all numbers is exactly n = (
  λ c. subst (λ ns. Contains ns n) is (let one = (exactly n).0 c in in_rows rows n one.0 one.1),
  λ c. (exactly n).1 (of_rows rows n (subst (λ ns. Contains ns n) (sym is) c)),
)
