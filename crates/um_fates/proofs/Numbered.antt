-- The numbers of live processes: unit by unit, by look-ups, sorted.
use Rattle.std.proofs.Common.{◌⊎◌, ◌↔◌, MatchOption, ◌≡◌, ◌==◌, ◌<◌, ℕ, suc, List, [], ◌∷◌, ◌++◌, flat_map, map as each, Bool, true, false, not, ◌||◌, ◌&&◌, Option, Some, None, is_some, unwrap_or, cond, Contains, get_or, refl, sym, ap, subst, ◌∙◌, inl, inr, arith}
use Rattle.std.specs.FinMap as map
use Rattle.std.specs.List.{list_all, dedup, dedup_from}
use Rattle.std.proofs.lemmas.Bool.{eqb-true, eq-eqb, true≢false}
use Rattle.std.proofs.lemmas.List.Folds.{list_any-append, list_any_at}
use Rattle.um_model.proofs.EntriesLaws.{at_each, from_each}
use Rattle.um_laws.proofs.ScanLaws.{held_with_number}
use Rattle.um_model.specs.Machine.{IsOver, IsProcessOf}
use Rattle.um_model.specs.Service.{ByUnit, state_of_unit, dead_unit}
use Rattle.um_model.specs.StateSpellings.{numbers_in}
use Rattle.um_model.specs.Transitions.{live_numbers, HasNumber}
use Rattle.um_model.specs.declared.service.UnitState.{UnitState}
use Rattle.um_laws.proofs.MachineLaws.{one_process}
use Rattle.um_model.specs.declared.service.SubState.{SubState}
use Rattle.std.specs.List.{AllPairs}
use Rattle.std.specs.List.Sorted.{IsPermutation, IsSorted}
use Rattle.std.specs.Ordering.{nat_cmp}
use Rattle.std.specs.List.Retain.{IsFiltered, DiffersFromLast}
use Rattle.std.proofs.lemmas.List.Filters.{dedup_is}
use Rattle.std.proofs.lemmas.List.Kept.{AllPairs-from_increasing}
use Rattle.std.proofs.lemmas.List.Sorted.{list_any-IsPermutation}
use Rattle.std.proofs.lemmas.Map.Keys.{IsStrictlyIncreasing-dedup}
use Rattle.um_model.proofs.Forms.{numbers}
use Rattle.um_fates.specs.Live.{has, is_live, AreLive, IsIn}

abbrev Entries : Type 0
Entries = List (List ℕ × UnitState)

or_true : (a : Bool) → (a || true) ≡ true
or_true true = refl
or_true false = refl

or_same : (a b : Bool) → (a || (a || b)) ≡ (a || b)
or_same true b = refl
or_same false b = refl

not_or : (a b : Bool) → (not a && not b) ≡ not (a || b)
not_or true b = refl
not_or false b = refl

false_of : (a : Bool) → (a ≡ true → ⊥) → a ≡ false
false_of true h = absurd (h refl)
false_of false h = refl

-- ---- one unit

at_front : (n : ℕ) (ns : List ℕ) → has n (n ∷ ns) ≡ true
at_front n ns = ap (λ b. b || has n ns) (eq-eqb n n refl)

behind : (n m : ℕ) (ns : List ℕ) → has n ns ≡ true → has n (m ∷ ns) ≡ true
behind n m ns h = ap (λ b. (m == n) || b) h ∙ or_true (m == n)

listed : (n : ℕ) (a b : Option ℕ) → (a ≡ Some n) ⊎ (b ≡ Some n) → has n (numbers a ++ numbers b) ≡ true
listed n a b (inl e) = subst (λ o. has n (numbers o ++ numbers b) ≡ true) (sym e) (at_front n (numbers b))
listed n None b (inr e) = subst (λ o. has n (numbers o) ≡ true) (sym e) (at_front n [])
listed n (Some m) b (inr e) = behind n m (numbers b) (subst (λ o. has n (numbers o) ≡ true) (sym e) (at_front n []))

first_or : (n m : ℕ) (ns : List ℕ) (b : Bool) → (m == n) ≡ b → (b || has n ns) ≡ true → (m ≡ n) ⊎ (has n ns ≡ true)
first_or n m ns true e h = inl (eqb-true m n e)
first_or n m ns false e h = inr h

-- a number of a list is the first of it or one of the rest
either : (n m : ℕ) (ns : List ℕ) → has n (m ∷ ns) ≡ true → (m ≡ n) ⊎ (has n ns ≡ true)
either n m ns h = first_or n m ns (m == n) refl h

alone : (n : ℕ) (b : Option ℕ) → has n (numbers b) ≡ true → b ≡ Some n
alone n None h = absurd (true≢false (sym h))
alone n (Some m) h = elim (either n m [] h) [
  | inl e ↦ ap Some e
  | inr none ↦ absurd (true≢false (sym none))
]

unlisted : (n : ℕ) (a b : Option ℕ) → has n (numbers a ++ numbers b) ≡ true → (a ≡ Some n) ⊎ (b ≡ Some n)
unlisted n None b h = inr (alone n b h)
unlisted n (Some m) b h = elim (either n m (numbers b) h) [
  | inl e ↦ inl (ap Some e)
  | inr later ↦ inr (alone n b later)
]

unit_has : (n : ℕ) (u : UnitState) → HasNumber u n → has n (live_numbers u) ≡ true
unit_has n u h = listed n u.main u.control h

has_unit : (n : ℕ) (u : UnitState) → has n (live_numbers u) ≡ true → HasNumber u n
has_unit n u h = unlisted n u.main u.control h

-- ---- those that stand in both

has_there : (n : ℕ) (ns : List ℕ) → Contains ns n → has n ns ≡ true
has_there n ns (k, h, e) = list_any_at (λ m. m == n) ns k n h (eq-eqb (get_or ns k n) n e)

there_has : (n : ℕ) (ns : List ℕ) → has n ns ≡ true → Contains ns n
there_has n [] h = absurd (true≢false (sym h))
there_has n (m ∷ ns) h = elim (either n m ns h) [
  | inl e ↦ (0, omega arith, e)
  | inr later ↦ let c = there_has n ns later in (suc c.0, omega (arith, c.1), c.2)
]

same_test : (a b : Bool) → (a ≡ true → b ≡ true) → (b ≡ true → a ≡ true) → a ≡ b
same_test true b there back = sym (there refl)
same_test false true there back = back refl
same_test false false there back = refl

-- lists with the same numbers answer the same
pub same_numbers : (a b : List ℕ) → ((n : ℕ) → Contains a n ↔ Contains b n) → (n : ℕ) → has n a ≡ has n b
same_numbers a b same n = same_test (has n a) (has n b) (λ h. has_there n b ((same n).0 (there_has n a h))) (λ h. has_there n a ((same n).1 (there_has n b h)))

-- ---- entries

abbrev lacks : ℕ → List ℕ × UnitState → Bool
lacks n e = not (has n (live_numbers e.1))

all_lack : (n : ℕ) (es : Entries) → list_all (lacks n) es ≡ not (has n (flat_map (λ e. live_numbers e.1) es))
all_lack n [] = refl
all_lack n (e ∷ es) =
    ap (λ b. lacks n e && b) (all_lack n es) ∙ not_or (has n (live_numbers e.1)) (has n (flat_map (λ e. live_numbers e.1) es))
    ∙ ap not (sym (list_any-append (λ m. m == n) (live_numbers e.1) (flat_map (λ e. live_numbers e.1) es)))

at_unit : (units : ByUnit UnitState) (unit : List ℕ) (u : UnitState) → map.get units unit ≡ Some u → state_of_unit units unit ≡ u
at_unit units unit u is = ap (λ o. unwrap_or o dead_unit) is

held_as : (units : ByUnit UnitState) (unit : List ℕ) (o : Option UnitState) → map.get units unit ≡ o → is_some o ≡ true → map.get units unit ≡ Some (state_of_unit units unit)
held_as units unit (Some u) is some = is ∙ ap Some (sym (at_unit units unit u is))
held_as units unit None is some = absurd (true≢false (sym some))

not_true : (b : Bool) → not b ≡ true → b ≡ false
not_true true e = absurd (true≢false (sym e))
not_true false e = refl

-- no live process has the number
pub over_dead : (units : ByUnit UnitState) (n : ℕ) → IsOver units n → is_live units n ≡ false
over_dead units n over =
    not_true (has n (numbers_in units)) (sym (all_lack n (map.entries units)) ∙ from_each (lacks n) units (λ k v at.
    ap not (false_of (has n (live_numbers v)) (λ h. over k (subst (λ u. HasNumber u n) (sym (at_unit units k v at)) (has_unit n v h))))))

-- a unit has it
pub process_live : (units : ByUnit UnitState) (n : ℕ) (unit : List ℕ) → HasNumber (state_of_unit units unit) n → is_live units n ≡ true
process_live units n unit h =
    let at = held_as units unit (map.get units unit) refl (held_with_number units unit n h) in
    not_false' (has n (numbers_in units)) (λ none.
    let all = all_lack n (map.entries units) ∙ ap not none in
    true≢false (sym (at_each (lacks n) units all unit (state_of_unit units unit) at) ∙ ap not (unit_has n (state_of_unit units unit) h)))
  where
    not_false' : (b : Bool) → (b ≡ false → ⊥) → b ≡ true
    not_false' true h = refl
    not_false' false h = absurd (h refl)

-- ---- none twice

has_from : (n k : ℕ) (ns : List ℕ) → has n (dedup_from (λ a b. a == b) k ns) ≡ ((k == n) || has n ns)
has_from n k [] = refl
has_from n k (x ∷ ns) = by (x == k) refl (has_from n k ns) (has_from n x ns)
  where
    by : (b : Bool) → (x == k) ≡ b → has n (dedup_from (λ a b. a == b) k ns) ≡ ((k == n) || has n ns) → has n (dedup_from (λ a b. a == b) x ns) ≡ ((x == n) || has n ns)
        → has n (cond b (dedup_from (λ a b. a == b) k ns) (k ∷ dedup_from (λ a b. a == b) x ns)) ≡ ((k == n) || ((x == n) || has n ns))
    by true e p q = p ∙ sym (ap (λ m. (k == n) || ((m == n) || has n ns)) (eqb-true x k e) ∙ or_same (k == n) (has n ns))
    by false e p q = ap (λ b. (k == n) || b) q

pub has_dedup : (n : ℕ) (ns : List ℕ) → has n (dedup (λ a b. a == b) ns) ≡ has n ns
has_dedup n [] = refl
has_dedup n (x ∷ ns) = has_from n x ns

-- ---- look-ups

-- a look-up finds the unit exactly if the number is live
pub looked_up : (units : ByUnit UnitState) (n : ℕ) {A : Type 0} (found : Option A) (name : A → List ℕ) → MatchOption found (IsOver units n) (λ a. IsProcessOf units n (name a)) → is_some found ≡ is_live units n
looked_up units n None name over = sym (over_dead units n over)
looked_up units n (Some a) name process = sym (process_live units n (name a) process.has)

-- the unit of the number is the one that stands there
pub stands_in : (units : ByUnit UnitState) (n : ℕ) (unit : List ℕ) (sub : SubState) → IsProcessOf units n unit → IsIn units sub n → (state_of_unit units unit).sub ≡ sub
stands_in units n unit sub process is = ap (λ u. (state_of_unit units u).sub) (one_process units n unit is.unit process is.process) ∙ is.state

-- ---- sorted

dedup_from_same : (E : ℕ → ℕ → Bool) → ((a b : ℕ) → E a b ≡ (a == b)) → (k : ℕ) (ns : List ℕ) → dedup_from E k ns ≡ dedup_from (λ a b. a == b) k ns
dedup_from_same E same k [] = refl
dedup_from_same E same k (x ∷ ns) =
    ap (λ b. cond b (dedup_from E k ns) (k ∷ dedup_from E x ns)) (same x k)
    ∙ ap (λ l. cond (x == k) l (k ∷ dedup_from E x ns)) (dedup_from_same E same k ns)
    ∙ ap (λ l. cond (x == k) (dedup_from (λ a b. a == b) k ns) (k ∷ l)) (dedup_from_same E same x ns)

dedup_same : (E : ℕ → ℕ → Bool) → ((a b : ℕ) → E a b ≡ (a == b)) → (ns : List ℕ) → dedup E ns ≡ dedup (λ a b. a == b) ns
dedup_same E same [] = refl
dedup_same E same (x ∷ ns) = dedup_from_same E same x ns

-- numbers that are those of the live processes, once they are sorted and none stands twice
pub live_sorted : (units : ByUnit UnitState) (E : ℕ → ℕ → Bool) → ((a b : ℕ) → E a b ≡ (a == b)) → (found sorted new : List ℕ) → ((n : ℕ) → has n found ≡ is_live units n)
    → IsPermutation found sorted → IsSorted nat_cmp sorted → IsFiltered (DiffersFromLast E) [] sorted new → AreLive units new
live_sorted units E same found sorted new live moved order filtered =
    let is = dedup_is E sorted new filtered ∙ dedup_same E same sorted in
    record {
      each = λ n. ap (has n) is ∙ has_dedup n sorted ∙ sym (list_any-IsPermutation (λ m. m == n) found sorted moved) ∙ live n;
      ascending = subst (λ l. AllPairs (λ x y. x < y) l) (sym is) (AllPairs-from_increasing (dedup (λ a b. a == b) sorted) (IsStrictlyIncreasing-dedup sorted order));
    }
