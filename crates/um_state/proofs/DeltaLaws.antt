-- Rows put one after another, a row at a time.
use Rattle.std.proofs.Common.{◌≡◌, ◌∙◌, ◌+◌, ◌<◌, ◌≤◌, ◌++◌, ℕ, zero, suc, List, [], ◌∷◌, length, set, get_or, take, drop, refl, sym, ap, arith, add-one, drop-cons}
use Rattle.std.proofs.lemmas.List.{drop-set-lt, take_more_set}
use Rattle.um_model.specs.Standing.{Standing}
use Rattle.um_state.specs.Rows.{put_row, rows_after, rows_before}
use Rattle.um_state.specs.declared.row.Row.{Row}

pub before_last : (rows : List Row) (r : Row) (s : Standing) → rows_before (rows ++ r ∷ []) s ≡ rows_before rows (put_row r s)
before_last [] r s = refl
before_last (q ∷ rows) r s = ap (put_row q) (before_last rows r s)

-- one more row is exchanged: the rows left to put
pub after_more : (rows : List Row) (i : ℕ) (d new : Row) (s t : Standing) → i < length rows → t ≡ put_row (get_or rows i d) s
    → rows_after (drop (i + 1) (set rows i new)) t ≡ rows_after (drop i rows) s
after_more rows i d new s t h e =
    ap (λ xs. rows_after xs t) (drop-set-lt (i + 1) rows i new (omega arith))
    ∙ (ap (rows_after (drop (i + 1) rows)) e ∙ ap (λ xs. rows_after xs s) (sym (drop_more rows i d h)))
  where
    drop_more : (rows : List Row) (i : ℕ) (d : Row) → i < length rows → drop i rows ≡ get_or rows i d ∷ drop (i + 1) rows
    drop_more rows i d h = rw (add-one, drop-cons rows i d)

-- and the rows that lead back
pub back_more : (rows : List Row) (i : ℕ) (new : Row) (s t : Standing) → i < length rows → put_row new t ≡ s
    → rows_before (take (i + 1) (set rows i new)) t ≡ rows_before (take i rows) s
back_more rows i new s t h e =
    ap (λ xs. rows_before xs t) (take_more_set rows i new h) ∙ (before_last (take i rows) new t ∙ ap (rows_before (take i rows)) e)
