use Rattle.std.proofs.Common.{◌≤◌, ◌-◌, length}
use Rattle.std.specs.Io.KnownBytes.{Consumes}
use Rattle.um_stream.proofs.input.read_up_to.Given as goal

-- the bytes taken from the input so far
abbrev pub invariant-parts : goal.invariant-parts
invariant-parts g l = record {
  bound : length l.got.items ≤ l.size;
  taken : Consumes (g.R.Read.remaining l.initial.input) (g.R.Read.remaining l.input) l.got.items;
}

abbrev pub decreases-parts : goal.decreases-parts
decreases-parts g l = l.size - length l.got.items
