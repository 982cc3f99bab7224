use Rattle.std.proofs.Common.{take}
use Rattle.um_jobs.specs.Counts.{IsCountedAnew, before_start, before_stop, start_at, stop_at}
use Rattle.um_jobs.proofs.counts.count_anew.Given as goal

-- the neighbours so far are counted again
abbrev pub invariant-loop-neighbour : goal.invariant-loop-neighbour
invariant-loop-neighbour l = record {
  stops : IsCountedAnew before_stop (stop_at l.initial.counts) (stop_at l.counts) l.old l.new (take l.neighbour-index l.row);
  starts : IsCountedAnew before_start (start_at l.initial.counts) (start_at l.counts) l.old l.new (take l.neighbour-index l.row);
}
