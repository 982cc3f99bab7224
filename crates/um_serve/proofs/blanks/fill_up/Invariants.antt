use Rattle.std.proofs.Common.{◌≤◌, vec_len}
use Rattle.um_serve.proofs.blanks.fill_up.Given as goal

abbrev pub invariant-loop : goal.invariant-loop
invariant-loop l = record { enough : l.counter ≤ vec_len l.blanks }
