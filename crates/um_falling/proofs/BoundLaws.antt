-- The units that fall with one stand in its row, which is walked from its end: the effect of one more neighbour, and that these are all.
use Rattle.std.proofs.Common.{◌≡◌, ◌≢◌, ◌∙◌, ◌+◌, ◌<◌, ◌≤◌, ◌==◌, ◌&&◌, ◌||◌, ◌++◌, ℕ, zero, suc, Bool, true, false, cond, List, [], ◌∷◌, length, drop, get_or, All, refl, sym, ap, inl, inr, arith}
use Rattle.std.proofs.Math.Seq.{drop-cons, drop-length}
use Rattle.std.proofs.lemmas.Bool.{cases_eq}
use Rattle.std.proofs.lemmas.Bool.Decides.{Decides-eqb}
use Rattle.std.proofs.lemmas.List.Elements.{All-head, All-tail}
use Rattle.std.proofs.lemmas.Option.{slice_get-get_or}
use Rattle.um_model.specs.Machine.{State}
use Rattle.um_graph.specs.Graph.{GraphView, IsNumberOf}
use Rattle.um_graph.specs.Sorted.{IsAscending}
use Rattle.um_graph.specs.declared.row.Neighbour.{Neighbour}
use Rattle.um_falling.specs.Falling.{binds, falling_from, goes, is_bound}

module _ (s : State) (g : GraphView) where
  abbrev pub name_of : ℕ → List ℕ
  name_of unit = get_or g.names unit []

  -- of these neighbours those that are bound and go
  abbrev pub falling_in : List Neighbour → List ℕ
  falling_in [] = []
  falling_in (n ∷ ns) = cond (binds n && goes s (name_of n.unit)) (n.unit ∷ falling_in ns) (falling_in ns)

  pub has_name : (unit : ℕ) → unit < length g.names → IsNumberOf g unit (name_of unit)
  has_name unit h = slice_get-get_or g.names unit [] h

  -- ---- from the last place down
  pub none_past : (row : List Neighbour) (place : ℕ) (list : List ℕ) → place ≡ length row → list ≡ falling_in (drop place row) ++ list
  none_past row place list e = sym (ap (λ ns. falling_in ns ++ list) (ap (λ k. drop k row) e ∙ drop-length row))

  module _ (row : List Neighbour) (d : Neighbour) (p place : ℕ) (is : place ≡ suc p) (within : place ≤ length row) where
    abbrev n : Neighbour
    n = get_or row p d

    abbrev later : List ℕ
    later = falling_in (drop place row)

    fall_by : (b : Bool) → (binds n && goes s (name_of n.unit)) ≡ b → falling_in (drop p row) ≡ cond b (n.unit ∷ later) later
    fall_by b e =
        ap falling_in (drop-cons row p d (omega (arith, is, within)))
        ∙ ap (λ t. cond t (n.unit ∷ falling_in (drop (suc p) row)) (falling_in (drop (suc p) row))) e
        ∙ ap (λ k. cond b (n.unit ∷ falling_in (drop k row)) (falling_in (drop k row))) (sym is)

    -- one that is bound and goes is put before them
    pub one_more : (rest list after : List ℕ) → binds n ≡ true → goes s (name_of n.unit) ≡ true → list ≡ later ++ rest → after ≡ n.unit ∷ list
        → after ≡ falling_in (drop p row) ++ rest
    one_more rest list after bound going e f =
        f ∙ ap (λ l. n.unit ∷ l) e ∙ sym (ap (λ l. l ++ rest) (fall_by true (ap (λ b. b && goes s (name_of n.unit)) bound ∙ going)))

    -- any other isn't
    pub none_more : (rest list : List ℕ) → (binds n && goes s (name_of n.unit)) ≡ false → list ≡ later ++ rest → list ≡ falling_in (drop p row) ++ rest
    none_more rest list none e = e ∙ sym (ap (λ l. l ++ rest) (fall_by false none))

  -- ---- these are all that fall
  others : (a b : ℕ) → a ≢ b → (a == b) ≡ false
  others a b ne = by (a == b) refl
    where
      by : (c : Bool) → (a == b) ≡ c → c ≡ false
      by true t = absurd (ne ((Decides-eqb a b).0 t))
      by false t = refl

  -- a unit isn't bound by neighbours of greater numbers
  not_bound : (unit : ℕ) (row : List Neighbour) → All (λ (n : Neighbour). unit < n.unit) row → is_bound row unit ≡ false
  not_bound unit [] a = refl
  not_bound unit (n ∷ ns) a =
      let above : unit < n.unit = All-head (λ (n : Neighbour). unit < n.unit) n ns a in
      ap (λ b. (b && binds n) || is_bound ns unit) (others n.unit unit (λ e. absurd (omega (arith, above, e))))
      ∙ not_bound unit ns (All-tail (λ (n : Neighbour). unit < n.unit) n ns a)

  -- a neighbour doesn't concern greater numbers
  passed : (n : Neighbour) (ns : List Neighbour) (unit : ℕ) (names : List (List ℕ)) → n.unit < unit → falling_from s (n ∷ ns) unit names ≡ falling_from s ns unit names
  passed n ns unit [] h = refl
  passed n ns unit (name ∷ names) h =
      ap (λ b. cond (((b && binds n) || is_bound ns unit) && goes s name) (unit ∷ falling_from s (n ∷ ns) (suc unit) names) (falling_from s (n ∷ ns) (suc unit) names))
      (others n.unit unit (λ e. absurd (omega (arith, h, e))))
      ∙ ap (λ l. cond (is_bound ns unit && goes s name) (unit ∷ l) l) (passed n ns (suc unit) names (omega (arith, h)))

  -- the neighbours after one have greater numbers
  behind_above : (n : Neighbour) (ns : List Neighbour) → IsAscending (n ∷ ns) → All (λ (m : Neighbour). n.unit < m.unit) ns
  behind_above n ns up k d h = up 0 (suc k) d (omega arith) (omega (arith, h))

  behind_ascends : (n : Neighbour) (ns : List Neighbour) → IsAscending (n ∷ ns) → IsAscending ns
  behind_ascends n ns up i j d lt le = up (suc i) (suc j) d (omega (arith, lt)) (omega (arith, le))

  -- these are all of the units with these names, numbered from this number on
  abbrev AreAll : ℕ → List (List ℕ) → List Neighbour → Type 0
  AreAll unit names row =
      ((i : ℕ) → get_or names i [] ≡ name_of (unit + i)) → IsAscending row → All (λ (n : Neighbour). unit ≤ n.unit) row
      → All (λ (n : Neighbour). n.unit < unit + length names) row → falling_from s row unit names ≡ falling_in row

  or_false : (b : Bool) → (b || false) ≡ b
  or_false true = refl
  or_false false = refl

  module _ (unit : ℕ) (name : List ℕ) (names : List (List ℕ)) (at : (i : ℕ) → get_or (name ∷ names) i [] ≡ name_of (unit + i))
      (rest : (row : List Neighbour) → AreAll (suc unit) names row) where
    at_rest : (i : ℕ) → get_or names i [] ≡ name_of (suc unit + i)
    at_rest i = let moved : unit + suc i ≡ suc unit + i = omega arith in at (suc i) ∙ ap name_of moved

    named : name ≡ name_of unit
    named = let none : unit + 0 ≡ unit = omega arith in at 0 ∙ ap name_of none

    below : (m : Neighbour) → m.unit < unit + length (name ∷ names) → m.unit < suc unit + length names
    below m h = omega (arith, h)

    module _ (n : Neighbour) (ns : List Neighbour) (up : IsAscending (n ∷ ns)) (to : All (λ (n : Neighbour). n.unit < unit + length (name ∷ names)) (n ∷ ns)) where
      above : All (λ (m : Neighbour). n.unit < m.unit) ns
      above = behind_above n ns up

      -- the first neighbour is the unit with this number
      here : n.unit ≡ unit → falling_from s (n ∷ ns) unit (name ∷ names) ≡ falling_in (n ∷ ns)
      here same =
          let none : is_bound ns unit ≡ false = not_bound unit ns (λ k d h. let greater = above k d h in omega (arith, greater, same)) in
          let behind : falling_from s ns (suc unit) names ≡ falling_in ns
          = rest ns at_rest (behind_ascends n ns up) (λ k d h. let greater = above k d h in omega (arith, greater, same)) (λ k d h. below (get_or ns k d) (to (suc k) d (omega (arith, h)))) in
          let all : falling_from s (n ∷ ns) (suc unit) names ≡ falling_in ns = passed n ns (suc unit) names (omega (arith, same)) ∙ behind in
          ap (λ b. cond (((b && binds n) || is_bound ns unit) && goes s name) (unit ∷ falling_from s (n ∷ ns) (suc unit) names) (falling_from s (n ∷ ns) (suc unit) names)) ((Decides-eqb n.unit unit).1 same)
          ∙ ap (λ b. cond ((binds n || b) && goes s name) (unit ∷ falling_from s (n ∷ ns) (suc unit) names) (falling_from s (n ∷ ns) (suc unit) names)) none
          ∙ ap (λ b. cond (b && goes s name) (unit ∷ falling_from s (n ∷ ns) (suc unit) names) (falling_from s (n ∷ ns) (suc unit) names)) (or_false (binds n))
          ∙ ap (λ l. cond (binds n && goes s name) (unit ∷ l) l) all
          ∙ ap (λ x. cond (binds n && goes s x) (unit ∷ falling_in ns) (falling_in ns)) (named ∙ ap name_of (sym same))
          ∙ ap (λ u. cond (binds n && goes s (name_of n.unit)) (u ∷ falling_in ns) (falling_in ns)) (sym same)

      -- all neighbours have greater numbers
      further : unit < n.unit → falling_from s (n ∷ ns) unit (name ∷ names) ≡ falling_in (n ∷ ns)
      further first =
          ap (λ b. cond (b && goes s name) (unit ∷ falling_from s (n ∷ ns) (suc unit) names) (falling_from s (n ∷ ns) (suc unit) names)) (not_bound unit (n ∷ ns) greater)
          ∙ rest (n ∷ ns) at_rest up (λ k d h. let more = greater k d h in omega (arith, more)) (λ k d h. below (get_or (n ∷ ns) k d) (to k d h))
        where
          greater : All (λ (m : Neighbour). unit < m.unit) (n ∷ ns)
          greater zero d h = first
          greater (suc k) d h = let more = above k d (omega (arith, h)) in omega (arith, more, first)

  all_from : (unit : ℕ) (names : List (List ℕ)) (row : List Neighbour) → AreAll unit names row
  all_from unit [] [] at up from to = refl
  all_from unit [] (n ∷ ns) at up from to =
      let least = All-head (λ (n : Neighbour). unit ≤ n.unit) n ns from in
      let most = All-head (λ (n : Neighbour). n.unit < unit + 0) n ns to in
      absurd (omega (arith, least, most))
  all_from unit (name ∷ names) [] at up from to =
      all_from (suc unit) names [] (at_rest unit name names at (all_from (suc unit) names)) up (λ k d h. absurd (omega (arith, h))) (λ k d h. absurd (omega (arith, h)))
  all_from unit (name ∷ names) (n ∷ ns) at up from to = elim (cases_eq n.unit unit) as (λ _. falling_from s (n ∷ ns) unit (name ∷ names) ≡ falling_in (n ∷ ns)) [
    | inl same ↦ here unit name names at (all_from (suc unit) names) n ns up to same
    | inr other ↦
        let least = All-head (λ (n : Neighbour). unit ≤ n.unit) n ns from in
        further unit name names at (all_from (suc unit) names) n ns up to (omega (arith, least, other))
  ]

  pub all_fall : (around : List Neighbour) → IsAscending around → All (λ (n : Neighbour). n.unit < length g.names) around
      → falling_from s around 0 g.names ≡ falling_in around
  all_fall around up within =
      all_from 0 g.names around (λ i. let same : i ≡ 0 + i = omega arith in ap name_of same) up (λ k d h. omega arith)
      (λ k d h. let below = within k d h in omega (arith, below))
