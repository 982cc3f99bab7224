use Rattle.std.proofs.Common.{◌≡◌, ◌-◌, length}
use Rattle.um_output.specs.Lines.{behind, feeds}
use Rattle.um_output.proofs.lines.behind_feeds.Given as goal

-- the bytes and feeds that are left end as the whole does
abbrev pub invariant-loop-left : goal.invariant-loop-left
invariant-loop-left l = record {
  rest : behind l.left l.rest ≡ behind l.initial.left l.initial.rest;
  left : l.left - feeds l.rest ≡ l.initial.left - feeds l.initial.rest;
}

abbrev pub decreases-loop-left : goal.decreases-loop-left
decreases-loop-left l = length l.rest
