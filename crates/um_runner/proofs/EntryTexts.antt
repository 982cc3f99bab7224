-- The entries that a text holds, entry by entry, and that the text written for entries is read back.
use Rattle.std.proofs.Common.{◌≡◌, ◌<◌, ℕ, suc, ◌+◌, Bool, true, false, not, cond, List, [], ◌∷◌, ◌++◌, length, take, drop, Option, Some, None, option_map, refl, sym, ap, ◌∙◌, arith, append_assoc}
use Rattle.std.specs.List.{list_all, list_any, before_first, after_first, position_or_len}
use Rattle.std.proofs.lemmas.Bool.{and_parts, or_parts, cond-true, cond-false, false≢true}
use Rattle.std.proofs.lemmas.List.{append-nil}
use Rattle.um_model.specs.Text.{is_empty}
use Rattle.um_runner.specs.Handed.{is_zero, ended, entries_behind, entries_in, entries_text, can_be_handed}

-- one entry in front of the others
abbrev pub onto : List ℕ → Option (List (List ℕ)) → Option (List (List ℕ))
onto entry told = option_map (λ entries. entry ∷ entries) told

-- all entries in front of the others
abbrev pub all_onto : List (List ℕ) → Option (List (List ℕ)) → Option (List (List ℕ))
all_onto [] told = told
all_onto (entry ∷ entries) told = onto entry (all_onto entries told)

pub all_onto_more : (entries : List (List ℕ)) (entry : List ℕ) (told : Option (List (List ℕ))) → all_onto (entries ++ entry ∷ []) told ≡ all_onto entries (onto entry told)
all_onto_more [] entry told = refl
all_onto_more (first ∷ entries) entry told = ap (onto first) (all_onto_more entries entry told)

pub all_onto_end : (entries : List (List ℕ)) → all_onto entries (Some []) ≡ Some entries
all_onto_end [] = refl
all_onto_end (first ∷ entries) = ap (onto first) (all_onto_end entries)

pub all_onto_none : (entries : List (List ℕ)) → all_onto entries None ≡ None
all_onto_none [] = refl
all_onto_none (first ∷ entries) = ap (onto first) (all_onto_none entries)

-- the entries read once one has ended
abbrev pub told_at : List ℕ → List ℕ → Option (List (List ℕ))
told_at entry others = cond (is_empty entry) (Some []) (onto entry (entries_in others))

take_one : (k p b : ℕ) (bs : List ℕ) → k ≡ suc p → take k (b ∷ bs) ≡ b ∷ take p bs
take_one k p b bs is = ap (λ n. take n (b ∷ bs)) is

drop_one : (k p b : ℕ) (bs : List ℕ) → k ≡ suc p → drop k (b ∷ bs) ≡ drop p bs
drop_one k p b bs is = ap (λ n. drop n (b ∷ bs)) is

-- by the first zero byte
pub told_behind : (begun text : List ℕ) → position_or_len is_zero text < length text
    → entries_behind begun text ≡ told_at (begun ++ before_first is_zero text) (after_first is_zero text)
told_behind begun [] below = absurd (omega (arith, below))
told_behind begun (b ∷ bs) below =
    (elim (is_zero b) as (λ x. cond (not x) (1 + position_or_len is_zero bs) 0 < length (b ∷ bs)
    → cond x (told_at begun bs) (entries_behind (begun ++ b ∷ []) bs)
    ≡ told_at (begun ++ take (cond (not x) (1 + position_or_len is_zero bs) 0) (b ∷ bs)) (drop (cond (not x) (1 + position_or_len is_zero bs) 0 + 1) (b ∷ bs))) [
      | true ↦ λ under. ap (λ entry. told_at entry bs) (sym (append-nil begun))
      | false ↦ λ under.
          let p = position_or_len is_zero bs in
          told_behind (begun ++ b ∷ []) bs (omega (arith, under)) ∙ ap (λ entry. told_at entry (after_first is_zero bs)) (append_assoc begun (b ∷ []) (before_first is_zero bs))
          ∙ ap (λ entry. told_at (begun ++ entry) (drop (p + 1) bs)) (sym (take_one (1 + p) p b bs (omega arith)))
          ∙ ap (told_at (begun ++ take (1 + p) (b ∷ bs))) (sym (drop_one (1 + p + 1) (p + 1) b bs (omega arith)))
    ]) below

-- without a zero byte no entries are read
pub told_never : (begun text : List ℕ) → position_or_len is_zero text ≡ length text → entries_behind begun text ≡ None
told_never begun [] all = refl
told_never begun (b ∷ bs) all =
    (elim (is_zero b) as (λ x. cond (not x) (1 + position_or_len is_zero bs) 0 ≡ length (b ∷ bs)
    → cond x (told_at begun bs) (entries_behind (begun ++ b ∷ []) bs) ≡ None) [
      | true ↦ λ over. absurd (omega (arith, over))
      | false ↦ λ over. told_never (begun ++ b ∷ []) bs (omega (arith, over))
    ]) all

-- an entry without a zero byte, and one after it
told_whole : (begun entry others : List ℕ) → list_any is_zero entry ≡ false → entries_behind begun (entry ++ 0 ∷ others) ≡ told_at (begun ++ entry) others
told_whole begun [] others none = ap (λ entry. told_at entry others) (sym (append-nil begun))
told_whole begun (b ∷ bs) others none =
    let parts = or_parts (is_zero b) (list_any is_zero bs) none in
    cond-false (is_zero b) _ _ parts.0 ∙ told_whole (begun ++ b ∷ []) bs others parts.1 ∙ ap (λ entry. told_at entry others) (append_assoc begun (b ∷ []) bs)

one_more : (entry : List ℕ) (entries : List (List ℕ)) (rest : List ℕ) → can_be_handed entry ≡ true → entries_in (ended entries ++ rest) ≡ Some entries
    → entries_in ((entry ++ 0 ∷ ended entries) ++ rest) ≡ Some (entry ∷ entries)
one_more [] entries rest can so_far = absurd (false≢true can)
one_more (b ∷ bs) entries rest can so_far =
    ap entries_in (append_assoc (b ∷ bs) (0 ∷ ended entries) rest)
    ∙ told_whole [] (b ∷ bs) (ended entries ++ rest) (not_to_false (list_any is_zero (b ∷ bs)) can) ∙ ap (onto (b ∷ bs)) so_far
  where
    not_to_false : (x : Bool) → not x ≡ true → x ≡ false
    not_to_false false is = refl
    not_to_false true is = absurd (false≢true is)

-- entries are read back, whatever follows them
pub read_back : (entries : List (List ℕ)) (rest : List ℕ) → list_all can_be_handed entries ≡ true → entries_in (ended entries ++ rest) ≡ Some entries
read_back [] rest can = refl
read_back (entry ∷ entries) rest can =
    let parts = and_parts (can_be_handed entry) (list_all can_be_handed entries) can in
    one_more entry entries rest parts.0 (read_back entries rest parts.1)

-- those that are written
pub written_back : (entries : List (List ℕ)) → list_all can_be_handed entries ≡ true → entries_in (entries_text entries) ≡ Some entries
written_back entries can = read_back entries _ can

-- ---- reading, entry by entry

-- the end: an empty entry
pub read_end : (entries : List (List ℕ)) (text rest entry others : List ℕ) → all_onto entries (entries_in rest) ≡ entries_in text
    → (entry ≡ before_first is_zero rest) × (others ≡ after_first is_zero rest) × (position_or_len is_zero rest < length rest) → is_empty entry ≡ true
    → Some entries ≡ entries_in text
read_end entries text rest entry others so_far cut is =
    sym (all_onto_end entries)
    ∙ ap (all_onto entries) (sym (told_behind [] rest cut.2 ∙ ap (λ e. told_at e (after_first is_zero rest)) (sym cut.0) ∙ cond-true (is_empty entry) _ _ is)) ∙ so_far

-- one entry more
pub read_more : (entries : List (List ℕ)) (text rest entry others : List ℕ) → all_onto entries (entries_in rest) ≡ entries_in text
    → (entry ≡ before_first is_zero rest) × (others ≡ after_first is_zero rest) × (position_or_len is_zero rest < length rest) → is_empty entry ≡ false
    → all_onto (entries ++ entry ∷ []) (entries_in others) ≡ entries_in text
read_more entries text rest entry others so_far cut is =
    all_onto_more entries entry (entries_in others)
    ∙ ap (all_onto entries) (sym (told_behind [] rest cut.2 ∙ ap (λ e. told_at e (after_first is_zero rest)) (sym cut.0) ∙ cond-false (is_empty entry) _ _ is ∙ ap (λ o. onto entry (entries_in o)) (sym cut.1))) ∙ so_far

-- the end is missing
pub read_none : (entries : List (List ℕ)) (text rest : List ℕ) → all_onto entries (entries_in rest) ≡ entries_in text → position_or_len is_zero rest ≡ length rest
    → None ≡ entries_in text
read_none entries text rest so_far all = sym (all_onto_none entries) ∙ ap (all_onto entries) (sym (told_never [] rest all)) ∙ so_far
