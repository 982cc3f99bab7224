-- A pending job and a known unit as the code shows them, as those of the definitions.
use Rattle.um_model.specs.Jobs as model
use Rattle.um_model.specs.Machine as machine
use Rattle.um_state.specs.declared.reply.JobShown.{JobShown}
use Rattle.um_state.specs.declared.reply.UnitListed.{UnitListed}

abbrev pub job_of : JobShown → model.JobShown
job_of j = record { unit = j.unit; kind = j.kind; state = j.state }

abbrev pub listed_of : UnitListed → machine.UnitListed
listed_of u = record { unit = u.unit; sub = u.sub }
