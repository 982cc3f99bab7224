use Rattle.std.proofs.Common.{rules, ◌≡◌, ◌∷◌, true, cond, Some, None, option_map, string_bytes}
use Rattle.std.specs.Vec.Iter.{into_iter_items}
use Rattle.um_model.specs.Bytes.{ascends}
use Rattle.um_wire.specs.Entries.{seen}
use Rattle.um_wire.proofs.MapEntries.{IsMade, made_more, key_is}
use Rattle.um_wire.proofs.maps.map_of.Goals as goal

pub loop-text-preserved : goal.loop-text-preserved
loop-text-preserved g c =
    let is_key = g.K.Key.is_key in
    let value = g.V.Canon.value in
    let t = string_bytes c.in-Some.text in
    let left = seen string_bytes value (into_iter_items c.next.new.self) in
    let all = seen string_bytes value (into_iter_items c.into_iter-text-iterator.result) in
    let up : ascends all ≡ true = search rules in
    let told : option_map g.K.Key.bytes c.in_ok-key.field-0 ≡ cond (is_key t) (Some t) None = search rules in
    let key = key_is g.K.Key.bytes is_key t c.in_ok-key.field-0 c.in-Some-2.key told c.in-Some-2.is in
    let so_far : IsMade is_key (seen g.K.Key.bytes value c.loop-text.map.entries) ((t, value c.in-Some.value) ∷ left) all = search rules in
    made_more g.K.Key.bytes value g.K.Ord.cmp g.met.K.Key.order g.met.K.Ord.total is_key c.loop-text.map.entries c.insert.new.self.entries c.in-Some-2.key c.in-Some.value t left all up key.0 key.1
    c.in_ok-insert-in-Some-2.ensures.entries so_far
