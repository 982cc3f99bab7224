-- A sector that is filled from its front.
use Rattle.std.specs.Prelude.{◌≡◌, ◌+◌, ◌-◌, ◌≤◌, ℕ, List, ◌++◌, length, take, drop, replicate}
use Rattle.std.proofs.Common.{sym, ◌∙◌, ap, arith, append_assoc}
use Rattle.std.proofs.lemmas.List.{take-append-drop, length-take, length-append, take_at, drop_at, drop-drop, drop-replicate}
use Rattle.um_model.specs.Store.{filled}

-- bytes laid after the front are part of it
module _ (old bytes new : List ℕ) (at : ℕ) (long : length old ≡ 512) (room : at + length bytes ≤ 512) (is : new ≡ take at old ++ (bytes ++ drop (at + length bytes) old)) where
  grown : new ≡ (take at old ++ bytes) ++ drop (at + length bytes) old
  grown = is ∙ sym (append_assoc (take at old) bytes (drop (at + length bytes) old))

  size : length (take at old ++ bytes) ≡ at + length bytes
  size = omega (arith, length-append (take at old) bytes, length-take at old, long, room)

  pub front_grown : take (at + length bytes) new ≡ take at old ++ bytes
  front_grown = ap (take (at + length bytes)) grown ∙ take_at (take at old ++ bytes) (drop (at + length bytes) old) (at + length bytes) size

  pub zeros_kept : drop at old ≡ replicate (512 - at) 0 → drop (at + length bytes) new ≡ replicate (512 - (at + length bytes)) 0
  zeros_kept zeros =
      let count : 512 - at - length bytes ≡ 512 - (at + length bytes) = omega arith in
      ap (drop (at + length bytes)) grown ∙ drop_at (take at old ++ bytes) (drop (at + length bytes) old) (at + length bytes) size
      ∙ sym (drop-drop (length bytes) at old) ∙ ap (drop (length bytes)) zeros ∙ drop-replicate _ _ _ ∙ ap (λ (n : ℕ). replicate n 0) count

-- the front and the zeros after it are the sector
pub is_filled : (sector : List ℕ) (at : ℕ) → length sector ≡ 512 → at ≤ 512 → drop at sector ≡ replicate (512 - at) 0 → sector ≡ filled (take at sector)
unfolding filled
is_filled sector at long room zeros =
    let size : at ≡ length (take at sector) = omega (arith, length-take at sector, long, room) in
    sym (take-append-drop at sector) ∙ ap (λ (l : List ℕ). take at sector ++ l) (zeros ∙ ap (λ (n : ℕ). replicate (512 - n) 0) size)

-- the front is as long as its length says
pub front_room : (sector front bytes : List ℕ) (at : ℕ) → length sector ≡ 512 → at ≤ 512 → take at sector ≡ front → length front + length bytes ≤ 512 → at + length bytes ≤ 512
front_room sector front bytes at long low is room = omega (arith, length-take at sector, ap length is, long, low, room)
