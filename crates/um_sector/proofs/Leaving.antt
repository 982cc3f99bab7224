-- The image that a crash leaves of a disk in memory is the one found next.
use Rattle.std.proofs.Common.{◌≡◌, inl, inr, ℕ, zero, suc, zero-add, ◌+◌, ◌<◌, ◌≤◌, List, [], ◌∷◌, ◌++◌, length, take, drop, get_or, map, reverse, refl, sym, ◌∙◌, ap, subst, arith, true, append_assoc}
use Rattle.std.specs.List.{Contains, range_with_len, AllPass}
use Rattle.std.specs.Prelude.{nat_lt, Result, Ok, Err, IfOk}
use Rattle.std.proofs.lemmas.Bool.{cases_lt, false≢true}
use Rattle.std.proofs.lemmas.Bool.Decides.{nat_tests}
use Rattle.std.proofs.lemmas.List.{get_or_past, take-append-drop, reverse-append, map-append}
use Rattle.std.proofs.lemmas.List.Elements.{Contains-push}
use Rattle.std.proofs.lemmas.List.FromFn.{length-map-range_with_len, get_or-map-range_with_len}
use Rattle.um_laws.proofs.DiskLaws.{one_only, candidates-wrote_other}
use Rattle.um_model.specs.Disk.{Sector, Image, Call, Past, candidates_after, candidates, IsImage}
use Rattle.um_sector.proofs.Picks.{picked_is_image}
use Rattle.um_sector.specs.Left.{IsLeftBy}
use Rattle.um_sector.specs.Noted.{call_of, image_of, past_of, seen_is_image, is_write_within}
use Rattle.um_sector.specs.Unsynced.{picked}
use Rattle.um_sector.specs.declared.noted.Noted.{Noted}
use Rattle.um_sector.specs.declared.noted.Noted.TheVariants.{Write, Sync}

-- the calls of one note and those after it
parts_of : (note : Noted) (notes : List Noted) (early : List Call) → map call_of (reverse (note ∷ notes)) ++ early ≡ map call_of (reverse notes) ++ call_of note ∷ early
parts_of note notes early =
    ap (λ l. map call_of l ++ early) (reverse-append (note ∷ []) notes) ∙ ap (λ l. l ++ early) (map-append call_of (reverse notes) (note ∷ []))
    ∙ append_assoc (map call_of (reverse notes)) (call_of note ∷ []) early

-- a write of a sector below n adds no candidate to one from there on
not_here : (n k : ℕ) (note : Noted) (start : Image) (early : List Call) → n ≤ k → is_write_within n note ≡ true
    → candidates_after start (call_of note ∷ early) k ≡ candidates_after start early k
not_here n k (Write j value) start early far is = candidates-wrote_other start early j k value value (λ same. apart same)
  where
    apart : k ≡ j → ⊥
    apart same = let low : j < n = grind (arith, nat_tests, is) in omega (arith, far, low, same)
not_here n k Sync start early far is = absurd (false≢true is)

not_written : (n k : ℕ) (notes : List Noted) (start : Image) (early : List Call) → n ≤ k → AllPass (is_write_within n) notes
    → candidates_after start (map call_of (reverse notes) ++ early) k ≡ candidates_after start early k
not_written n k [] start early far all = refl
not_written n k (note ∷ notes) start early far all =
    ap (λ l. candidates_after start l k) (parts_of note notes early) ∙ not_written n k notes start (call_of note ∷ early) far (λ i d below. all (suc i) d (omega (arith, below)))
    ∙ not_here n k note start early far (all 0 note (omega arith))

-- a sector that isn't there has no bytes
none_there : (start synced : List Sector) (notes : List Noted) (since n k : ℕ) → length synced ≡ n → n ≤ k
    → ((j : ℕ) → candidates (past_of start (take since notes)) j ≡ get_or synced j [] ∷ []) → AllPass (is_write_within n) (drop since notes)
    → candidates (past_of start notes) k ≡ [] ∷ []
none_there start synced notes since n k long far at_sync behind =
    ap (λ calls. candidates_after (image_of start) calls k)
    (ap (λ l. map call_of (reverse l)) (sym (take-append-drop since notes)) ∙ ap (map call_of) (reverse-append (take since notes) (drop since notes))
    ∙ map-append call_of (reverse (drop since notes)) (reverse (take since notes)))
    ∙ not_written n k (drop since notes) (image_of start) (map call_of (reverse (take since notes))) far behind ∙ at_sync k
    ∙ ap (λ v. v ∷ []) (get_or_past synced k [] (omega (arith, long, far)))

pub left_by : (start synced made : List Sector) (notes : List Noted) (since n : ℕ) (picks : List ℕ) → length synced ≡ n
    → ((j : ℕ) → candidates (past_of start (take since notes)) j ≡ get_or synced j [] ∷ []) → AllPass (is_write_within n) (drop since notes)
    → made ≡ map (picked (past_of start notes) picks) (range_with_len 0 n) → IsLeftBy (past_of start notes) (past_of made [])
left_by start synced made notes since n picks long at_sync behind are = record {
  no_other = λ image is k. subst (λ v. Contains (candidates (past_of start notes) k) v) (sym (one_only (get_or made k []) (image k) (is k))) (held k);
  read = seen_is_image made [];
}
  where
    wide : length made ≡ n
    wide = ap length are ∙ length-map-range_with_len (picked (past_of start notes) picks) 0 n

    held : (k : ℕ) → Contains (candidates (past_of start notes) k) (get_or made k [])
    held k = elim (cases_lt k n) [
      | inl low ↦ subst (λ v. Contains (candidates (past_of start notes) k) v)
          (sym (ap (λ l. get_or l k []) are ∙ get_or-map-range_with_len (picked (past_of start notes) picks) 0 n k k [] low (zero-add k)))
          (picked_is_image (past_of start notes) picks k)
      | inr far ↦ subst (λ v. Contains (candidates (past_of start notes) k) v) (sym (get_or_past made k [] (omega (arith, wide, far))))
          (subst (λ l. Contains l []) (sym (none_there start synced notes since n k long far at_sync behind)) (Contains-push [] []))
    ]

-- two facts of an Ok value join
pub if_both : {T E : Type 0} (result : Result T E) (P Q R : T → Type 0) → IfOk result P → IfOk result Q → ((made : T) → P made → Q made → R made) → IfOk result R
if_both (Ok made) P Q R one two both = both made one two
if_both (Err e) P Q R one two both = tt
