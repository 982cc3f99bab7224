use Rattle.std.proofs.Common.{rules, ◌≡◌, drop, length, suc, sym, ap, ◌∙◌}
use Rattle.std.proofs.lemmas.List.{map-id}
use Rattle.std.proofs.lemmas.Iterator.Adapters.{YieldsList-from_vec}
use Rattle.std.proofs.lemmas.Iterator.Consumers.{YieldsList-end, YieldsList-so_far, YieldsList-turn}
use Rattle.um_model.specs.Readings.{all_read}
use Rattle.um_unit.proofs.ListLemmas.{comes_now}
use Rattle.um_unit.proofs.ReadingLemmas.{all_are_read, read_stops}
use Rattle.um_unit.proofs.readings.all_read.Goals as goal

pub returns-in-Err : goal.returns-in-Err
returns-in-Err g c =
    let items = c.args.readings.items in
    let came = c.loop-reading.yielded in
    let list = YieldsList-from_vec {s = c.into_iter-reading-iterator.result} items (search rules) (search rules) in
    let now = YieldsList-turn list came c.loop-reading.reading-iterator c.loop-reading.yielded_by c.next.result c.next.new.self c.in-Some.reading c.in-Some.is c.next.ensures.steps in
    let all = comes_now items came c.in-Some.reading (YieldsList-so_far list came c.loop-reading.reading-iterator c.loop-reading.yielded_by) now in
    sym (ap all_read all ∙ read_stops came c.loop-reading.all.items c.in-Some.reading c.in-Err.warning (drop (suc (length came)) items) c.loop-reading.invariant c.in-Err.is)

pub returns : goal.returns
returns g c =
    let items = c.args.readings.items in
    let came = c.loop-reading.yielded in
    let list = YieldsList-from_vec {s = c.into_iter-reading-iterator.result} items (search rules) (search rules) in
    let end = YieldsList-end list came c.loop-reading.reading-iterator c.loop-reading.yielded_by c.next.result c.next.new.self c.in-None.is c.next.ensures.steps in
    let all : came ≡ items = sym (map-id came) ∙ end.0 in
    sym (ap all_read (sym all) ∙ all_are_read came c.loop-reading.all.items c.loop-reading.invariant)
