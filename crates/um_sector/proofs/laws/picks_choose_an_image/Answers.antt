use Rattle.um_sector.proofs.Picks.{picked_is_image}
use Rattle.um_sector.proofs.laws.picks_choose_an_image.Goals as goal

pub returns : goal.returns
returns c = picked_is_image
