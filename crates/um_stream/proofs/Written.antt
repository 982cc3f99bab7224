-- A frame, as its parts are written.
use Rattle.std.proofs.Common.{◌≡◌, ℕ, ◌+◌, ◌-◌, List, ◌++◌, length, take, drop, Result, Ok, Err, OnOk, OnErr, sym, ap, ◌∙◌, append_assoc}
use Rattle.std.proofs.lemmas.List.{take_rest}
use Rattle.byteorder.specs.Endian.{big_bytes}
use lib.Seq.{take-add}
use Rattle.um_model.specs.Frames.{frame_of}

pub frame_front : (t h x more : List ℕ) → h ≡ big_bytes 4 (length t) → h ≡ x ++ more → frame_of t ≡ x ++ (more ++ t)
unfolding frame_of
frame_front t h x more is split = ap (λ l. l ++ t) (sym is ∙ split) ∙ append_assoc x more t

pub frame_more : (t h x more : List ℕ) → h ≡ big_bytes 4 (length t) → t ≡ x ++ more → frame_of t ≡ (h ++ x) ++ more
unfolding frame_of
frame_more t h x more is split = ap (λ l. l ++ t) (sym is) ∙ ap (λ l. h ++ l) split ∙ sym (append_assoc h x more)

pub frame_whole : (t h : List ℕ) → h ≡ big_bytes 4 (length t) → frame_of t ≡ h ++ t
unfolding frame_of
frame_whole t h is = ap (λ l. l ++ t) (sym is)

-- the bytes before a place, and some more of those after it
pub take_more : (xs : List ℕ) (a n : ℕ) → take a xs ++ take n (take (length xs - a) (drop a xs)) ≡ take (a + n) xs
take_more xs a n = ap (λ l. take a xs ++ take n l) (take_rest xs a) ∙ sym (take-add a n xs)

-- a fact that holds anyhow holds at Ok, and at Err
pub on_ok : {T E P : Type 0} (r : Result T E) → P → OnOk r P
on_ok (Ok x) p = p
on_ok (Err e) p = tt

pub on_err : {T E P : Type 0} (r : Result T E) → P → OnErr r P
on_err (Ok x) p = tt
on_err (Err e) p = p
