use Rattle.std.proofs.Common.{◌≡◌, ◌<◌, ◌≢◌, ℕ, get_or, length, set, ap, arith}
use Rattle.std.proofs.lemmas.Grind.{get_or-set_at}
use Rattle.std.proofs.lemmas.List.{get_or-set_other}
use Rattle.um_graph.specs.declared.row.Neighbour.{Neighbour}
use Rattle.um_jobs.specs.declared.counts.Blockers.{Blockers}
use Rattle.um_jobs.specs.Counts.{before_start, before_stop, behind, blockers_at, start_at, stop_at}
use Rattle.um_jobs.proofs.SumLaws.{counted_more, taken_le}
use Rattle.um_jobs.proofs.counts.count_anew.Goals as goal

abbrev nobody : Neighbour
nobody = record { unit = 0; kinds = record { 0 = 0 } }

abbrev none : Blockers
none = record { stop = 0; start = 0 }

pub recounted-requires-clause-stop : goal.recounted-requires-clause-stop
recounted-requires-clause-stop c =
    let i = c.loop-neighbour.neighbour-index in
    let n = get_or c.args.row.now i nobody in
    let t = taken_le (behind before_stop c.args.old) c.args.row.now i nobody (omega arith) in
    let so_far = c.loop-neighbour.invariant.stops n.unit in
    let least = c.requires.stops.least n.unit in
    let was = c.behind-was.ensures.stop in omega arith

pub recounted-requires-clause-start : goal.recounted-requires-clause-start
recounted-requires-clause-start c =
    let i = c.loop-neighbour.neighbour-index in
    let n = get_or c.args.row.now i nobody in
    let t = taken_le (behind before_start c.args.old) c.args.row.now i nobody (omega arith) in
    let so_far = c.loop-neighbour.invariant.starts n.unit in
    let least = c.requires.starts.least n.unit in
    let was = c.behind-was.ensures.start in omega arith

pub recounted-requires-clause-stop_room : goal.recounted-requires-clause-stop_room
recounted-requires-clause-stop_room c =
    let i = c.loop-neighbour.neighbour-index in
    let n = get_or c.args.row.now i nobody in
    let t = taken_le (behind before_stop c.args.new) c.args.row.now i nobody (omega arith) in
    let so_far = c.loop-neighbour.invariant.stops n.unit in
    let most = c.requires.stops.most n.unit in
    let is = c.behind-is.ensures.stop in omega arith

pub recounted-requires-clause-start_room : goal.recounted-requires-clause-start_room
recounted-requires-clause-start_room c =
    let i = c.loop-neighbour.neighbour-index in
    let n = get_or c.args.row.now i nobody in
    let t = taken_le (behind before_start c.args.new) c.args.row.now i nobody (omega arith) in
    let so_far = c.loop-neighbour.invariant.starts n.unit in
    let most = c.requires.starts.most n.unit in
    let is = c.behind-is.ensures.start in omega arith

pub loop-neighbour-preserved : goal.loop-neighbour-preserved
loop-neighbour-preserved c =
    let i = c.loop-neighbour.neighbour-index in
    let row = c.args.row.now in
    let counts = c.loop-neighbour.counts in
    let x = (get_or row i nobody).unit in
    let h : i < length row = omega arith in
    let w = c.requires.within i nobody h in
    let len = c.loop-neighbour.auto.counts in
    let within : x < length counts = omega arith in
    let put : blockers_at (set counts x c.recounted.result) x ≡ c.recounted.result = get_or-set_at counts x x c.recounted.result none (λ k. x) within in
    let others : (u : ℕ) → u ≢ x → blockers_at (set counts x c.recounted.result) u ≡ blockers_at counts u = λ u s. get_or-set_other counts x u c.recounted.result none s in
    record {
      stops = counted_more (behind before_stop c.args.old) (behind before_stop c.args.new) (stop_at c.args.counts.now) (stop_at counts) (stop_at (set counts x c.recounted.result)) row i nobody h
          c.loop-neighbour.invariant.stops
          (let p : stop_at (set counts x c.recounted.result) x ≡ c.recounted.result.stop = ap (λ (b : Blockers). b.stop) put in
          let was = c.behind-was.ensures.stop in let is = c.behind-is.ensures.stop in let e = c.recounted.ensures.stop in omega arith)
          (λ u s. ap (λ (b : Blockers). b.stop) (others u s));
      starts = counted_more (behind before_start c.args.old) (behind before_start c.args.new) (start_at c.args.counts.now) (start_at counts) (start_at (set counts x c.recounted.result)) row i nobody h
          c.loop-neighbour.invariant.starts
          (let p : start_at (set counts x c.recounted.result) x ≡ c.recounted.result.start = ap (λ (b : Blockers). b.start) put in
          let was = c.behind-was.ensures.start in let is = c.behind-is.ensures.start in let e = c.recounted.ensures.start in omega arith)
          (λ u s. ap (λ (b : Blockers). b.start) (others u s));
    }
