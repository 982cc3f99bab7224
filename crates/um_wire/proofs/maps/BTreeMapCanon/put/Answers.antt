use Rattle.std.proofs.Common.{rules, arith, ◌<◌, ◌^◌, ◌++◌, length, ◌∙◌}
use Rattle.byteorder.specs.Endian.{big_bytes}
use Rattle.um_wire.proofs.MapEntries.{all_put, all_fits}
use Rattle.um_wire.proofs.maps.BTreeMapCanon.put.Goals as goal

pub returns-clause-put : goal.returns-clause-put
returns-clause-put g c =
    let all = c.into_iter-key-iterator.ensures.into_iter_gives ∙ c.iter-key-items.ensures.rest in
    all_put g.K.Key.bytes g.V.Canon.value g.K.Ord.cmp g.met.K.Key.order g.K.Key.is_key g.V.Canon.fits g.V.Canon.spelling c.args.self.now.entries c.into_iter-key-iterator.result c.loop-key.key-iterator c.args.out.now.items c.loop-key.out.items
    c.iter-key-items.ensures.ordered c.in-None.ensures.steps.0 all c.loop-key.invariant

pub returns-clause-fits : goal.returns-clause-fits
returns-clause-fits g c =
    let all = c.into_iter-key-iterator.ensures.into_iter_gives ∙ c.iter-key-items.ensures.rest in
    let low : length c.args.self.now.entries < 2 ^ 32 = search (rules, arith) in
    all_fits g.K.Key.bytes g.V.Canon.value g.K.Ord.cmp g.met.K.Key.order g.K.Key.is_key g.V.Canon.fits g.V.Canon.spelling c.args.self.now.entries c.into_iter-key-iterator.result c.loop-key.key-iterator
    (c.args.out.now.items ++ big_bytes 4 (length c.into_iter-key-iterator.result)) c.args.out.now.items c.loop-key.out.items
    c.iter-key-items.ensures.ordered c.in-None.ensures.steps.0 all low c.loop-key.invariant
