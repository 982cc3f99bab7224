use Rattle.std.proofs.Common.{◌≡◌, replicate}
use Rattle.um_backlog.specs.Backlog.{nothing}
use Rattle.um_backlog.proofs.backlog.Backlog.new.Given as goal

abbrev pub invariant-loop : goal.invariant-loop
invariant-loop l = l.waiting.items ≡ replicate l.counter nothing
