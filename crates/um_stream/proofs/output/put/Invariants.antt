use Rattle.std.proofs.Common.{◌≤◌, length, take}
use Rattle.std.specs.Io.KnownBytes.{Appends}
use Rattle.um_stream.proofs.output.put.Given as goal

-- the bytes written so far
abbrev pub invariant-parts : goal.invariant-parts
invariant-parts g l = record {
  within : l.written ≤ length l.bytes;
  done : Appends (g.W.Write.contents l.initial.output) (g.W.Write.contents l.output) (take l.written l.bytes);
}
