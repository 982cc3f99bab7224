-- The notes of a disk in memory, one call more at a time.
use Rattle.std.proofs.Common.{◌≡◌, ℕ, ◌+◌, ◌<◌, Bool, cond, List, [], ◌∷◌, ◌++◌, length, take, get_or, map, reverse, refl, ◌∙◌, ap, arith, true, false, ◌≤◌, zero-add, length-append}
use Rattle.std.specs.Prelude.{count_by, nat_lt}
use Rattle.std.proofs.lemmas.Bool.Decides.{nat_tests}
use Rattle.std.proofs.lemmas.List.Sums.{fold-append}
use Rattle.std.proofs.lemmas.List.Recursion.{is_count_by}
use Rattle.std.proofs.lemmas.List.FromFn.{filter_of_map_range_with_len_more}
use Rattle.std.proofs.lemmas.List.{append-nil, take_more, reverse-append, map-append}
use Rattle.um_model.specs.Disk.{Past, candidates}
use Rattle.um_sector.specs.Unsynced.{is_sync, candidate_count, unsynced}
use Rattle.um_sector.specs.declared.noted.Noted.{Noted}
use Rattle.um_sector.specs.Noted.{call_of}

-- the calls up to the next note, the newest first
pub noted_more : (notes : List Noted) (i : ℕ) (d : Noted) → i < length notes → map call_of (reverse (take (i + 1) notes)) ≡ call_of (get_or notes i d) ∷ map call_of (reverse (take i notes))
noted_more notes i d below = ap (λ l. map call_of (reverse l)) (take_more notes i d below) ∙ ap (map call_of) (reverse-append (take i notes) (get_or notes i d ∷ []))

-- of a list with one element more at its end
count_last : {X : Type 0} (p : X → Bool) (x : X) (xs : List X) → count_by p (xs ++ x ∷ []) ≡ cond (p x) (1 + count_by p xs) (count_by p xs)
count_last p x xs = fold-append (λ a y. a + cond (p y) 1 0) 0 xs (x ∷ []) ∙ added (p x) (count_by p xs)
  where
    added : (b : Bool) (n : ℕ) → n + cond b 1 0 ≡ cond b (1 + n) n
    added true n = omega arith
    added false n = omega arith

-- the syncs among the notes
pub sync_count-notes : (notes : List Noted) → count_by is_sync (map call_of (reverse notes)) ≡ count_by (λ note. is_sync (call_of note)) notes
sync_count-notes notes = is_count_by (λ l. count_by is_sync (map call_of (reverse l))) (λ note. is_sync (call_of note)) refl
    (λ note l. ap (λ m. count_by is_sync (map call_of m)) (reverse-append (note ∷ []) l) ∙ ap (count_by is_sync) (map-append call_of (reverse l) (note ∷ [])) ∙ count_last is_sync (call_of note) (map call_of (reverse l)))
    notes

-- the sectors with more than one candidate, one sector more
pub unsynced_more : (past : Past) (k : ℕ) → unsynced past (k + 1) ≡ unsynced past k ++ cond (nat_lt 1 (length (candidates past k))) (candidate_count past k ∷ []) []
unsynced_more past k = filter_of_map_range_with_len_more (λ sector. nat_lt 1 sector.1) (candidate_count past) 0 k k (zero-add k)

pub unsynced_yes : (past : Past) (k : ℕ) → 1 < length (candidates past k) → unsynced past (k + 1) ≡ unsynced past k ++ candidate_count past k ∷ []
unsynced_yes past k some = let is : nat_lt 1 (length (candidates past k)) ≡ true = grind (arith, nat_tests) in unsynced_more past k ∙ ap (λ b. unsynced past k ++ cond b (candidate_count past k ∷ []) []) is

pub unsynced_no : (past : Past) (k : ℕ) → length (candidates past k) ≤ 1 → unsynced past (k + 1) ≡ unsynced past k
unsynced_no past k none = let is : nat_lt 1 (length (candidates past k)) ≡ false = grind (arith, nat_tests) in unsynced_more past k ∙ ap (λ b. unsynced past k ++ cond b (candidate_count past k ∷ []) []) is ∙ append-nil (unsynced past k)

pub turn_yes : (past : Past) (k : ℕ) → 1 < length (candidates past k) → length (unsynced past (k + 1)) ≡ length (unsynced past k) + 1
turn_yes past k some = ap length (unsynced_yes past k some) ∙ length-append (unsynced past k) (candidate_count past k ∷ [])
