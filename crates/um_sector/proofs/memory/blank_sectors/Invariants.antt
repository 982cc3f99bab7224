use Rattle.std.proofs.Common.{◌≡◌, replicate}
use Rattle.um_sector.specs.Noted.{blank}
use Rattle.um_sector.proofs.memory.blank_sectors.Given as goal

abbrev pub invariant-loop : goal.invariant-loop
invariant-loop l = (l.sectors.items ≡ replicate l.counter blank) × (l.blank ≡ blank)
