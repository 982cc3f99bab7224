use Rattle.um_sector.proofs.Picks.{image_is_picked}
use Rattle.um_sector.proofs.laws.each_image_is_picked.Goals as goal

pub returns : goal.returns
returns c = image_is_picked
