-- The images that picks of candidates choose are those that a crash may leave.
use Rattle.std.proofs.Common.{◌≡◌, ⊎_elim, ℕ, zero, suc, ◌+◌, ◌<◌, ◌≤◌, List, [], ◌∷◌, ◌++◌, length, get_or, refl, sym, ◌∙◌, ap, subst, arith, add-one, add-zero, length-append}
use Rattle.std.specs.List.{Contains}
use Rattle.std.proofs.lemmas.Bool.{cases_eq, cases_lt}
use Rattle.std.proofs.lemmas.List.{get_or-append-add, get_or_past, get_or_default, get_or_append_left}
use Rattle.std.proofs.lemmas.List.Elements.{Contains-get_or}
use Rattle.um_model.specs.Disk.{Sector, Image, Past, IsImage, candidates}
use Rattle.um_laws.proofs.DiskLaws.{some_candidate, one_only}
use Rattle.um_sector.specs.Unsynced.{unsynced, picked}
use Rattle.um_sector.proofs.Notes.{unsynced_no, turn_yes}

-- each sector has a candidate
pub some_length : (past : Past) (k : ℕ) → 0 < length (candidates past k)
some_length past k = let has = (some_candidate past.start past.calls k).1 in let below : has.0 < length (candidates past k) = has.1 in omega (arith, below)

-- a choice with a default is a candidate
chosen_candidate : (xs : List Sector) (p : ℕ) → 0 < length xs → Contains xs (get_or xs p (get_or xs 0 []))
chosen_candidate xs p some = ⊎_elim
    (λ below. Contains-get_or xs p (get_or xs 0 []) below)
    (λ past. subst (Contains xs) (sym (get_or_past xs p (get_or xs 0 []) past)) (Contains-get_or xs 0 [] some))
    (cases_lt p (length xs))

-- the image that picks choose is one of the disk's
pub picked_is_image : (past : Past) (picks : List ℕ) → IsImage past (picked past picks)
picked_is_image past picks k = chosen_candidate (candidates past k) (get_or picks (length (unsynced past k)) 0) (some_length past k)

-- a list of one element at most has one at most
at_most_one : (xs : List Sector) (x y : Sector) → length xs ≤ 1 → Contains xs x → Contains xs y → x ≡ y
at_most_one [] x y short has_x has_y = let below : has_x.0 < 0 = has_x.1 in absurd (omega (arith, below))
at_most_one (z ∷ []) x y short has_x has_y = one_only z x has_x ∙ sym (one_only z y has_y)
at_most_one (z ∷ w ∷ zs) x y short has_x has_y = absurd (omega (arith, short))

module _ (past : Past) (image : Image) (is : IsImage past image) where
  -- a sector with one candidate needs no pick
  settled_pick : (k : ℕ) (picks : List ℕ) → length (candidates past k) ≤ 1 → picked past picks k ≡ image k
  settled_pick k picks short = at_most_one (candidates past k) (picked past picks k) (image k) short (picked_is_image past picks k) (is k)

  step_le : (n : ℕ) → length (unsynced past n) ≤ length (unsynced past (n + 1))
  step_le n = ⊎_elim
      (λ more. let longer : length (unsynced past (n + 1)) ≡ length (unsynced past n) + 1 = turn_yes past n more in omega (arith, longer))
      (λ none. let same : length (unsynced past (n + 1)) ≡ length (unsynced past n) = ap length (unsynced_no past n none) in omega (arith, same))
      (cases_lt 1 (length (candidates past n)))

  counts_le : (k n : ℕ) → k ≤ n → length (unsynced past k) ≤ length (unsynced past n)
  counts_le k zero le = let same : k ≡ 0 = omega (arith, le) in subst (λ j. length (unsynced past j) ≤ length (unsynced past 0)) (sym same) (omega arith)
  counts_le k (suc n) le = ⊎_elim
      (λ same. subst (λ j. length (unsynced past j) ≤ length (unsynced past (suc n))) (sym same) (omega arith))
      (λ ne. let before : length (unsynced past k) ≤ length (unsynced past n) = counts_le k n (omega (arith, le, ne)) in
      let step : length (unsynced past n) ≤ length (unsynced past (suc n)) = subst (λ j. length (unsynced past n) ≤ length (unsynced past j)) (add-one n) (step_le n) in
      omega (arith, before, step))
      (cases_eq k (suc n))

  -- picks for the sectors below n
  abbrev Picks : ℕ → Type 0
  Picks n = (picks : List ℕ) × (length picks ≡ length (unsynced past n)) × ((k : ℕ) → k < n → picked past picks k ≡ image k)

  kept : (n : ℕ) → Picks n → length (candidates past n) ≤ 1 → Picks (n + 1)
  kept n so_far none = (
    so_far.0,
    so_far.1 ∙ sym (ap length (unsynced_no past n none)),
    λ k below. ⊎_elim
        (λ same. subst (λ j. picked past so_far.0 j ≡ image j) (sym same) (settled_pick n so_far.0 none))
        (λ ne. so_far.2 k (omega (arith, below, ne)))
        (cases_eq k n),
  )

  -- the new sector's pick
  new_pick : (n : ℕ) (so_far : Picks n) → picked past (so_far.0 ++ (is n).0 ∷ []) n ≡ image n
  new_pick n so_far =
      let choices = candidates past n in
      let turn : get_or (so_far.0 ++ (is n).0 ∷ []) (length (unsynced past n)) 0 ≡ (is n).0 =
      subst (λ t. get_or (so_far.0 ++ (is n).0 ∷ []) t 0 ≡ (is n).0) so_far.1
      (subst (λ t. get_or (so_far.0 ++ (is n).0 ∷ []) t 0 ≡ (is n).0) (add-zero (length so_far.0)) (get_or-append-add so_far.0 ((is n).0 ∷ []) 0 0)) in
      ap (λ p. get_or choices p (get_or choices 0 [])) turn ∙ get_or_default choices (is n).0 (get_or choices 0 []) (image n) (is n).1 ∙ (is n).2

  -- the picks of the sectors before it stay
  old_pick : (n : ℕ) (so_far : Picks n) (k : ℕ) → k < n → picked past (so_far.0 ++ (is n).0 ∷ []) k ≡ image k
  old_pick n so_far k below = ⊎_elim
      (λ more. let early : length (unsynced past k) < length so_far.0 =
      let longer : length (unsynced past (k + 1)) ≡ length (unsynced past k) + 1 = turn_yes past k more in
      let within : length (unsynced past (k + 1)) ≤ length (unsynced past n) = counts_le (k + 1) n (omega (arith, below)) in
      let same : length so_far.0 ≡ length (unsynced past n) = so_far.1 in
      omega (arith, longer, within, same) in
      ap (λ p. get_or (candidates past k) p (get_or (candidates past k) 0 [])) (get_or_append_left so_far.0 ((is n).0 ∷ []) 0 (length (unsynced past k)) early) ∙ so_far.2 k below)
      (λ none. settled_pick k (so_far.0 ++ (is n).0 ∷ []) none)
      (cases_lt 1 (length (candidates past k)))

  extended : (n : ℕ) → Picks n → 1 < length (candidates past n) → Picks (n + 1)
  extended n so_far more = (
    so_far.0 ++ (is n).0 ∷ [],
    length-append so_far.0 ((is n).0 ∷ []) ∙ ap (λ m. m + 1) so_far.1 ∙ sym (turn_yes past n more),
    λ k below. ⊎_elim
        (λ same. subst (λ j. picked past (so_far.0 ++ (is n).0 ∷ []) j ≡ image j) (sym same) (new_pick n so_far))
        (λ ne. old_pick n so_far k (omega (arith, below, ne)))
        (cases_eq k n),
  )

  picks_for : (n : ℕ) → Picks n
  picks_for zero = ([], refl, λ k below. absurd (omega (arith, below)))
  picks_for (suc n) = let so_far = picks_for n in
      subst Picks (add-one n) (⊎_elim (λ more. extended n so_far more) (λ none. kept n so_far none) (cases_lt 1 (length (candidates past n))))

  -- each image is chosen by some picks
  pub image_is_picked : (n : ℕ) → (picks : List ℕ) × ((k : ℕ) → k < n → picked past picks k ≡ image k)
  image_is_picked n = let found = picks_for n in (found.0, found.2)
