use Rattle.std.proofs.Common.{◌≡◌, ◌≤◌, ◌==◌, count_by, take}
use Rattle.um_verify.proofs.marking.line_start.Given as goal

-- this number of line feeds so far
abbrev pub invariant-loop-place : goal.invariant-loop-place
invariant-loop-place l = record {
  counted : l.feeds ≡ count_by (λ b. b == 10) (take l.place l.text);
  few : l.feeds ≤ l.place;
}
