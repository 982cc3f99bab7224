use Rattle.um_laws.proofs.LightLaws.{happening_done, happening_light}
use Rattle.um_engine.proofs.laws.what_happens_never_raises_the_weight.Goals as goal

pub returns : goal.returns
returns c = λ size s profile moment happening reply actions t step.
    (happening_done {profile = profile} size s moment happening reply actions t step, happening_light {profile = profile} size s moment happening reply actions t step)
