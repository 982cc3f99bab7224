use Rattle.std.proofs.Common.{◌≡◌, length}
use Rattle.std.specs.Io.KnownBytes.{Keeps}
use Rattle.um_stream.proofs.input.read_part.Given as goal

-- nothing was taken from the input yet
abbrev pub invariant-tries : goal.invariant-tries
invariant-tries g l = record {
  size : length l.part.items ≡ l.limit;
  kept : Keeps (g.R.Read.remaining l.initial.input) (g.R.Read.remaining l.input);
}
