use Rattle.std.proofs.Common.{◌≡◌, ◌≤◌, length}
use Rattle.um_runner.proofs.files.fill.Given as goal

-- the bytes read are within the buffer
abbrev pub invariant-parts : goal.invariant-parts
invariant-parts g l = record {
  within : l.size ≤ length l.buffer;
  same : length l.buffer ≡ length l.initial.buffer;
}
