use Rattle.std.proofs.Common.{◌≡◌, ◌++◌, map}
use Rattle.um_sync.specs.Sync.{removals}
use Rattle.um_sync.specs.View.{marked_path, step_of}
use Rattle.um_sync.proofs.plan.with_removals.Given as goal

-- the steps so far and those of the paths that are left are all
abbrev pub invariant-loop-path : goal.invariant-loop-path
invariant-loop-path l =
    map step_of l.steps.items ++ removals l.tree (map (λ e. e.0) (map marked_path l.path-iterator))
    ≡ map step_of l.fn.steps.items ++ removals l.tree (map (λ e. e.0) (map marked_path l.initial.path-iterator))
