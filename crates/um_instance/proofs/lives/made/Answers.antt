use Rattle.std.proofs.Common.{refl}
use Rattle.um_sector.specs.Noted.{seen_is_image}
use Rattle.um_instance.proofs.lives.made.Goals as goal

pub returns-in-Ok-create-clause-created : goal.returns-in-Ok-create-clause-created
returns-in-Ok-create-clause-created c = c.in-Ok-create.ensures.ok refl

pub returns-in-Ok-create-clause-read : goal.returns-in-Ok-create-clause-read
returns-in-Ok-create-clause-read c = seen_is_image c.create.new.disk.start.items c.create.new.disk.noted.items
