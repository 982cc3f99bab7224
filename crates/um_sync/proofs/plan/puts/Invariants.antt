use Rattle.std.proofs.Common.{◌≡◌, ◌++◌, flat_map, map}
use Rattle.um_sync.specs.Sync.{put_at}
use Rattle.um_sync.specs.View.{mark_at, step_of}
use Rattle.um_sync.proofs.plan.puts.Given as goal

-- the steps so far and those of the entries that are left are all
abbrev pub invariant-loop-path : goal.invariant-loop-path
invariant-loop-path l =
    map step_of l.steps.items ++ flat_map (put_at l.all (mark_at l.ledger)) l.path-iterator ≡ flat_map (put_at l.all (mark_at l.ledger)) l.initial.path-iterator
