-- Rows over others: the value of each, and one that is set.
use Rattle.std.proofs.Common.{◌≡◌, ◌⊎◌, ◌∙◌, ◌+◌, ◌<◌, ◌≤◌, ◌++◌, not, ℕ, zero, suc, false, List, [], ◌∷◌, length, set, replicate, refl, sym, ap, subst, inl, inr, arith}
use Rattle.std.proofs.lemmas.Bool.{cases_eq}
use Rattle.std.proofs.lemmas.List.{ext_get_or, get_or-set_same, get_or-set_other, get_or_append_left, get_or_at, length-map, length-replicate, length-set}
use Rattle.um_model.specs.Service.{dead_unit}
use Rattle.um_model.specs.declared.service.UnitState.{UnitState}
use Rattle.um_state.specs.Finding.{row_at}
use Rattle.um_state.specs.Overlays.{AreLaid, laid_over, place_at, placed, row_placed, units_in}
use Rattle.um_state.specs.declared.overlay.ChangedRow.{ChangedRow}
use Rattle.um_state.specs.Working.{is_same_unit}
use Rattle.um_state.proofs.SameRows.{unit_itself}

pub units_length : (changed : List ChangedRow) → length (units_in changed) ≡ length changed
units_length changed = length-map changed (λ (r : ChangedRow). r.unit)

pub laid_length : (rows : List UnitState) (places : List ℕ) (changed : List UnitState) → length (laid_over rows places changed) ≡ length rows
laid_length [] places changed = refl
laid_length (row ∷ rows) [] changed = refl
laid_length (row ∷ rows) (place ∷ places) changed = ap suc (laid_length rows places changed)

-- past the last row none has a place
pub laid_at : (rows : List UnitState) (places : List ℕ) (changed : List UnitState) → length places ≡ length rows → (i : ℕ)
    → row_at (laid_over rows places changed) i ≡ row_placed (row_at rows i) changed (place_at places i)
laid_at [] [] changed l i = refl
laid_at [] (place ∷ places) changed l i = absurd (omega (arith, l))
laid_at (row ∷ rows) [] changed l i = absurd (omega (arith, l))
laid_at (row ∷ rows) (place ∷ places) changed l zero = refl
laid_at (row ∷ rows) (place ∷ places) changed l (suc i) = laid_at rows places changed (omega (arith, l)) i

-- ---- no row has changed

none_laid : (rows changed : List UnitState) (n : ℕ) → laid_over rows (replicate n 0) changed ≡ rows
none_laid [] changed n = refl
none_laid (row ∷ rows) changed zero = refl
none_laid (row ∷ rows) changed (suc n) = ap (λ xs. row ∷ xs) (none_laid rows changed n)

none_placed : (n : ℕ) → placed (replicate n 0) ≡ 0
none_placed zero = refl
none_placed (suc n) = none_placed n

no_place : (n i : ℕ) → place_at (replicate n 0) i ≡ 0
no_place zero i = refl
no_place (suc n) zero = refl
no_place (suc n) (suc i) = no_place n i

pub laid_first : (rows changed : List UnitState) (places : List ℕ) (n : ℕ) → places ≡ replicate n 0 → laid_over rows places changed ≡ rows
laid_first rows changed places n e = ap (λ ps. laid_over rows ps changed) e ∙ none_laid rows changed n

pub are_first : (places : List ℕ) (n changed room : ℕ) → places ≡ replicate n 0 → changed ≡ 0 → n ≤ room → AreLaid n places changed room
are_first places n changed room e z h = record {
  len = ap length e ∙ length-replicate n 0;
  within = λ i k p. absurd (omega (arith, p, none i));
  apart = λ i j k p q. absurd (omega (arith, p, none i));
  count = ap placed e ∙ (none_placed n ∙ sym z);
  room = h;
}
  where
    none : (i : ℕ) → place_at places i ≡ 0
    none i = ap (λ ps. place_at ps i) e ∙ no_place n i

-- the same rows are laid out the same way
pub are_kept : (rows : ℕ) (ps qs : List ℕ) (c d m n : ℕ) → AreLaid rows ps c m → qs ≡ ps → d ≡ c → n ≡ m → AreLaid rows qs d n
are_kept rows ps qs c d m n are p e q = subst (λ x. AreLaid rows qs d x) (sym q) (subst (λ x. AreLaid rows qs x m) (sym e) (subst (λ x. AreLaid rows x c m) (sym p) are))

-- ---- a row that has a place is set

module _ (rows : List UnitState) (places : List ℕ) (changed : List UnitState) (n room : ℕ) (are : AreLaid (length rows) places n room) (count : n ≡ length changed)
    (i : ℕ) (u : UnitState) (here : i < length rows) where
  row_of : (j : ℕ) → row_at (laid_over rows places changed) j ≡ row_placed (row_at rows j) changed (place_at places j)
  row_of j = laid_at rows places changed are.len j

  pub set_again : (k : ℕ) → place_at places i ≡ k + 1 → laid_over rows places (set changed k u) ≡ set (laid_over rows places changed) i u
  set_again k p = ext_get_or dead_unit (laid_over rows places (set changed k u)) (set (laid_over rows places changed) i u)
      (laid_length rows places (set changed k u) ∙ (sym (laid_length rows places changed) ∙ sym (length-set (laid_over rows places changed) i u)))
      (λ j h. laid_at rows places (set changed k u) are.len j ∙ by_row j (cases_eq j i))
    where
      q : place_at places i ≡ suc k
      q = omega (arith, p)

      within : k < length changed
      within = omega (arith, are.within i k q, count)

      other : (j : ℕ) → (j ≡ i → ⊥) → (place : ℕ) → place_at places j ≡ place → row_placed (row_at rows j) (set changed k u) place ≡ row_placed (row_at rows j) changed place
      other j apart zero e = refl
      other j apart (suc m) e = get_or-set_other changed k m u dead_unit (λ same. apart (are.apart i j k q (e ∙ ap suc same)))

      by_row : (j : ℕ) → (j ≡ i) ⊎ (j ≡ i → ⊥) → row_placed (row_at rows j) (set changed k u) (place_at places j) ≡ row_at (set (laid_over rows places changed) i u) j
      by_row j (inl same) =
          ap (λ x. row_placed (row_at rows x) (set changed k u) (place_at places x)) same
          ∙ (ap (row_placed (row_at rows i) (set changed k u)) q
          ∙ (get_or-set_same changed k u dead_unit within
          ∙ (sym (get_or-set_same (laid_over rows places changed) i u dead_unit (omega (arith, laid_length rows places changed, here)))
          ∙ ap (row_at (set (laid_over rows places changed) i u)) (sym same))))
      by_row j (inr apart) =
          other j apart (place_at places j) refl
          ∙ (sym (row_of j) ∙ sym (get_or-set_other (laid_over rows places changed) i j u dead_unit apart))

  -- ---- a row that has none is set

  set_more : (k : ℕ) (ps : List ℕ) → place_at ps i ≡ 0 → i < length ps → placed (set ps i (suc k)) ≡ suc (placed ps)
  set_more k ps = by i ps
    where
      by : (x : ℕ) (qs : List ℕ) → place_at qs x ≡ 0 → x < length qs → placed (set qs x (suc k)) ≡ suc (placed qs)
      by x [] e h = absurd (omega (arith, h))
      by zero (zero ∷ qs) e h = refl
      by zero (suc m ∷ qs) e h = absurd (omega (arith, e))
      by (suc x) (zero ∷ qs) e h = by x qs e (omega (arith, h))
      by (suc x) (suc m ∷ qs) e h = ap suc (by x qs e (omega (arith, h)))

  fewer : (ps : List ℕ) → place_at ps i ≡ 0 → i < length ps → placed ps < length ps
  fewer ps = by i ps
    where
      most : (qs : List ℕ) → placed qs ≤ length qs
      most [] = omega arith
      most (zero ∷ qs) = omega (arith, most qs)
      most (suc m ∷ qs) = omega (arith, most qs)

      by : (x : ℕ) (qs : List ℕ) → place_at qs x ≡ 0 → x < length qs → placed qs < length qs
      by x [] e h = absurd (omega (arith, h))
      by zero (zero ∷ qs) e h = omega (arith, most qs)
      by zero (suc m ∷ qs) e h = absurd (omega (arith, e))
      by (suc x) (zero ∷ qs) e h = omega (arith, by x qs e (omega (arith, h)))
      by (suc x) (suc m ∷ qs) e h = omega (arith, by x qs e (omega (arith, h)))

  module _ (free : place_at places i ≡ 0) where
    pub has_room : n < room
    has_room = omega (arith, fewer places free (omega (arith, are.len, here)), are.len, are.count, are.room)

    pub set_first : laid_over rows (set places i (n + 1)) (changed ++ u ∷ []) ≡ set (laid_over rows places changed) i u
    set_first = ext_get_or dead_unit (laid_over rows (set places i (n + 1)) (changed ++ u ∷ [])) (set (laid_over rows places changed) i u)
        (laid_length rows (set places i (n + 1)) (changed ++ u ∷ []) ∙ (sym (laid_length rows places changed) ∙ sym (length-set (laid_over rows places changed) i u)))
        (λ j h. laid_at rows (set places i (n + 1)) (changed ++ u ∷ []) (length-set places i (n + 1) ∙ are.len) j ∙ by_row j (cases_eq j i))
      where
        next : n + 1 ≡ suc n
        next = omega arith

        other : (j : ℕ) (place : ℕ) → place_at places j ≡ place → row_placed (row_at rows j) (changed ++ u ∷ []) place ≡ row_placed (row_at rows j) changed place
        other j zero e = refl
        other j (suc m) e = get_or_append_left changed (u ∷ []) dead_unit m (omega (arith, are.within j m e, count))

        by_row : (j : ℕ) → (j ≡ i) ⊎ (j ≡ i → ⊥) → row_placed (row_at rows j) (changed ++ u ∷ []) (place_at (set places i (n + 1)) j) ≡ row_at (set (laid_over rows places changed) i u) j
        by_row j (inl same) =
            ap (λ x. row_placed (row_at rows x) (changed ++ u ∷ []) (place_at (set places i (n + 1)) x)) same
            ∙ (ap (row_placed (row_at rows i) (changed ++ u ∷ [])) (get_or-set_same places i (n + 1) 0 (omega (arith, are.len, here)) ∙ next)
            ∙ (get_or_at changed u [] dead_unit n (sym count)
            ∙ (sym (get_or-set_same (laid_over rows places changed) i u dead_unit (omega (arith, laid_length rows places changed, here)))
            ∙ ap (row_at (set (laid_over rows places changed) i u)) (sym same))))
        by_row j (inr apart) =
            ap (row_placed (row_at rows j) (changed ++ u ∷ [])) (get_or-set_other places i j (n + 1) 0 apart)
            ∙ (other j (place_at places j) refl
            ∙ (sym (row_of j) ∙ sym (get_or-set_other (laid_over rows places changed) i j u dead_unit apart)))

    pub are_more : AreLaid (length rows) (set places i (n + 1)) (n + 1) room
    are_more = record {
      len = length-set places i (n + 1) ∙ are.len;
      within = λ j k p. within j k p (cases_eq j i);
      apart = λ j l k p q. apart j l k p q (cases_eq j i) (cases_eq l i);
      count = ap (λ m. placed (set places i m)) next ∙ (set_more n places free (omega (arith, are.len, here)) ∙ (ap suc are.count ∙ sym next));
      room = are.room;
    }
      where
        next : n + 1 ≡ suc n
        next = omega arith

        new : place_at (set places i (n + 1)) i ≡ n + 1
        new = get_or-set_same places i (n + 1) 0 (omega (arith, are.len, here))

        old : (j : ℕ) → (j ≡ i → ⊥) → place_at (set places i (n + 1)) j ≡ place_at places j
        old j other = get_or-set_other places i j (n + 1) 0 other

        -- the place that is given
        given : (j k : ℕ) → place_at (set places i (n + 1)) j ≡ suc k → j ≡ i → k ≡ n
        given j k p same = let e : place_at (set places i (n + 1)) i ≡ suc k = subst (λ x. place_at (set places i (n + 1)) x ≡ suc k) same p in omega (arith, e, new)

        -- and one that was before
        before : (j k : ℕ) → place_at (set places i (n + 1)) j ≡ suc k → (j ≡ i → ⊥) → k < n
        before j k p other = are.within j k (sym (old j other) ∙ p)

        within : (j k : ℕ) → place_at (set places i (n + 1)) j ≡ suc k → (j ≡ i) ⊎ (j ≡ i → ⊥) → k < n + 1
        within j k p (inl same) = omega (arith, given j k p same)
        within j k p (inr other) = omega (arith, before j k p other)

        apart : (j l k : ℕ) → place_at (set places i (n + 1)) j ≡ suc k → place_at (set places i (n + 1)) l ≡ suc k → (j ≡ i) ⊎ (j ≡ i → ⊥) → (l ≡ i) ⊎ (l ≡ i → ⊥) → l ≡ j
        apart j l k p q (inl same) (inl too) = too ∙ sym same
        apart j l k p q (inl same) (inr other) = absurd (omega (arith, given j k p same, before l k q other))
        apart j l k p q (inr other) (inl same) = absurd (omega (arith, given l k q same, before j k p other))
        apart j l k p q (inr other) (inr another) = are.apart j l k (sym (old j other) ∙ p) (sym (old l another) ∙ q)

-- ---- reading a row

pub row_changed : (rows : List UnitState) (places : List ℕ) (changed : List UnitState) → length places ≡ length rows → (i k : ℕ) → place_at places i ≡ k + 1
    → row_at changed k ≡ row_at (laid_over rows places changed) i
row_changed rows places changed l i k p =
    let next : k + 1 ≡ suc k = omega arith in
    sym (laid_at rows places changed l i ∙ ap (row_placed (row_at rows i) changed) (p ∙ next))

pub row_same : (rows : List UnitState) (places : List ℕ) (changed : List UnitState) → length places ≡ length rows → (i : ℕ) → place_at places i ≡ 0
    → row_at rows i ≡ row_at (laid_over rows places changed) i
row_same rows places changed l i p = sym (laid_at rows places changed l i ∙ ap (row_placed (row_at rows i) changed) p)

-- a unit that hasn't changed doesn't differ
pub not_changed : (a b : UnitState) → a ≡ b → not (is_same_unit a b) ≡ false
not_changed a b e = subst (λ x. not (is_same_unit a x) ≡ false) e (ap not (unit_itself a))
