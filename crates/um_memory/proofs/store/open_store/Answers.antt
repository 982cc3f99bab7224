use Rattle.std.proofs.Common.{refl}
use Rattle.um_memory.proofs.Opened.{stands_in}
use Rattle.um_memory.proofs.store.open_store.Goals as goal

pub returns-in-Ok-clause-stands : goal.returns-in-Ok-clause-stands
returns-in-Ok-clause-stands c = stands_in (c.in-Ok.ensures.stands refl)

pub returns-in-Ok-clause-size : goal.returns-in-Ok-clause-size
returns-in-Ok-clause-size c = c.in-Ok.ensures.sized
