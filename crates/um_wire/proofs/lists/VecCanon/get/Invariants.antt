use Rattle.std.proofs.Common.{◌≡◌, ◌≤◌, ◌-◌, ℕ, List, length, map, drop}
use Rattle.um_model.specs.Bytes.{Decoder, many_at}
use Rattle.um_wire.proofs.Items.{with_front}
use Rattle.um_wire.proofs.lists.VecCanon.get.Given as goal

-- the items read before, with those in the remaining bytes, are all items
pub record IsRead {A : Type 0} (one : Decoder A) (front : List A) (count counter at start : ℕ) (bytes : List ℕ) : Type 0 where
  pub within : at ≤ length bytes
  pub so_far : with_front front (many_at one (count - counter) (drop at bytes)) ≡ many_at one count (drop start bytes)

abbrev pub invariant-loop : goal.invariant-loop
invariant-loop g l = IsRead g.T.Canon.reading (map g.T.Canon.value l.items.items) l.count l.counter l.at l.n l.bytes
