use Rattle.um_laws.proofs.StoreLaws.{same_newest}
use Rattle.um_slot.proofs.laws.the_newest_body_is_one.Goals as goal

pub returns : goal.returns
returns c = λ layout image s t g h x y one two. same_newest one two
