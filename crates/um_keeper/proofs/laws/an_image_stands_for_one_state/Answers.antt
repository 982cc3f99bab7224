use Rattle.um_laws.proofs.StandsLaws.{one_state, one_layout}
use Rattle.um_keeper.proofs.laws.an_image_stands_for_one_state.Goals as goal

pub returns : goal.returns
returns c = record { state = one_state; layout = λ l m image s t one two. one_layout one.format two.format l m image one.first two.first }
