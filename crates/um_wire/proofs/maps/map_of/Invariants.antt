use Rattle.std.specs.String.{string_bytes}
use Rattle.std.specs.Vec.Iter.{into_iter_items}
use Rattle.um_wire.specs.Entries.{seen}
use Rattle.um_wire.proofs.MapEntries.{IsMade}
use Rattle.um_wire.proofs.maps.map_of.Given as goal

abbrev pub invariant-loop-text : goal.invariant-loop-text
invariant-loop-text g l =
    IsMade g.K.Key.is_key (seen g.K.Key.bytes g.V.Canon.value l.map.entries) (seen string_bytes g.V.Canon.value (into_iter_items l.text-iterator))
    (seen string_bytes g.V.Canon.value (into_iter_items l.initial.text-iterator))
