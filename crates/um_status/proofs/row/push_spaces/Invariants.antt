use Rattle.std.proofs.Common.{◌≡◌, ◌++◌, replicate, string_bytes}
use Rattle.um_status.proofs.row.push_spaces.Given as goal

-- this number of spaces so far
abbrev pub invariant-loop-space : goal.invariant-loop-space
invariant-loop-space l = string_bytes l.text ≡ string_bytes l.initial.text ++ replicate l.space 32
