use Rattle.std.proofs.Common.{◌++◌, length}
use Rattle.byteorder.specs.Endian.{big_bytes}
use Rattle.um_wire.specs.Entries.{seen}
use Rattle.um_wire.proofs.MapEntries.{IsPut}
use Rattle.um_wire.proofs.maps.BTreeMapCanon.put.Given as goal

abbrev pub invariant-loop-key : goal.invariant-loop-key
invariant-loop-key g l =
    IsPut g.K.Key.is_key g.V.Canon.fits g.V.Canon.spelling (seen g.K.Key.bytes g.V.Canon.value l.key-iterator) (seen g.K.Key.bytes g.V.Canon.value l.initial.key-iterator)
    (l.fn.out.items ++ big_bytes 4 (length l.initial.key-iterator)) l.fn.out.items l.out.items
