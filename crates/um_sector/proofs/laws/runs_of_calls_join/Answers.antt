use Rattle.std.specs.Prelude.{IsTrue}
use Rattle.um_laws.proofs.DiskLaws.{followed}
use Rattle.um_sector.proofs.laws.runs_of_calls_join.Goals as goal

pub returns : goal.returns
returns c = λ old mid new p. followed old mid new (λ image. IsTrue (p image))
