use Rattle.std.specs.Prelude.{IsTrue}
use Rattle.um_laws.proofs.DiskLaws.{at_end}
use Rattle.um_sector.proofs.laws.a_run_of_calls_ends.Goals as goal

pub returns : goal.returns
returns c = λ old new p. at_end old new (λ image. IsTrue (p image))
