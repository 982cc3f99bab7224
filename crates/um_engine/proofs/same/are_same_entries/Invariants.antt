use Rattle.std.proofs.Common.{◌≡◌, ◌↔◌}
use Rattle.um_engine.proofs.same.are_same_entries.Given as goal

-- all are the same where those that are left are
abbrev pub invariant-loop-path : goal.invariant-loop-path
invariant-loop-path l = (l.path-iterator ≡ l.others) ↔ (l.initial.path-iterator ≡ l.initial.others)
