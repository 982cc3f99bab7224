use Rattle.std.proofs.Common.{rules, ◌++◌, map, filter_map, string_bytes, sym, ap, ◌∙◌}
use Rattle.std.proofs.lemmas.List.{map-id}
use Rattle.std.proofs.lemmas.Iterator.Adapters.{YieldsList-from_vec}
use Rattle.std.proofs.lemmas.Iterator.Consumers.{YieldsList-end}
use Rattle.std.specs.Result.{result_ok}
use Rattle.um_unit.proofs.ReadingLemmas.{named_more, named_no_more, names_nothing, said_seen}
use Rattle.um_unit.proofs.lists.add_names.Goals as goal

pub loop-reading-preserved-in-Continue-1 : goal.loop-reading-preserved-in-Continue-1
loop-reading-preserved-in-Continue-1 c =
    named_more string_bytes (map string_bytes c.args.names.now.items) c.loop-reading.names.items c.push.new.self.items c.loop-reading.yielded c.in-Some.reading c.in-Ok.name
    c.in-Ok.is c.in_ok-push.ensures.items c.loop-reading.invariant

pub loop-reading-preserved : goal.loop-reading-preserved
loop-reading-preserved c =
    named_no_more string_bytes (map string_bytes c.args.names.now.items) c.loop-reading.names.items c.loop-reading.yielded c.in-Some.reading
    (names_nothing c.in-Some.reading (λ name is. c.in_default.not-Ok name is)) c.loop-reading.invariant

pub returns : goal.returns
returns c =
    let end = YieldsList-end (YieldsList-from_vec {s = c.into_iter-reading-iterator.result} c.args.readings.items (search rules) (search rules)) c.loop-reading.yielded c.loop-reading.reading-iterator c.loop-reading.yielded_by c.next.result c.next.new.self c.in-None.is c.next.ensures.steps in
    c.loop-reading.invariant
    ∙ ap (λ readings. map string_bytes c.args.names.now.items ++ map string_bytes (filter_map result_ok readings)) (sym (map-id c.loop-reading.yielded) ∙ end.0)
    ∙ ap (λ names. map string_bytes c.args.names.now.items ++ names) (said_seen string_bytes c.args.readings.items)
