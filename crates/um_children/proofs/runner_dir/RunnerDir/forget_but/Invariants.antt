use Rattle.std.proofs.Common.{◌≡◌}
use Rattle.um_children.proofs.runner_dir.RunnerDir.forget_but.Given as goal

-- no call has failed yet
abbrev pub invariant-loop-number : goal.invariant-loop-number
invariant-loop-number g l = l.self.failures ≡ l.initial.self.failures
