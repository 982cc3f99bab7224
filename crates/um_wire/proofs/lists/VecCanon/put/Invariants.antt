use Rattle.std.proofs.Common.{◌≡◌, ◌++◌, ℕ, List, length, map, take}
use Rattle.std.specs.List.{flat_map, AllByRecursion}
use Rattle.byteorder.specs.Endian.{big_bytes}
use Rattle.um_wire.proofs.lists.VecCanon.put.Given as goal

-- the items put before
pub record IsPut {A : Type 0} (fits : A → Type 0) (spelling : A → List ℕ) (done : List A) (count : ℕ) (old out : List ℕ) : Type 0 where
  pub bytes : out ≡ (old ++ big_bytes 4 count) ++ flat_map spelling done
  pub fit : AllByRecursion fits done

abbrev pub invariant-loop-item : goal.invariant-loop-item
invariant-loop-item g l = IsPut g.T.Canon.fits g.T.Canon.spelling (map g.T.Canon.value (take l.item-index l.self.items)) (length l.self.items) l.fn.out.items l.out.items
