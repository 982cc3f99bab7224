use Rattle.std.proofs.Common.{◌∙◌, ap, false}
use Rattle.um_falling.specs.Acting.{Acts, acts_as}
use Rattle.um_model.specs.Settings.{ServiceSettings}
use Rattle.um_falling.proofs.acting.Acting.in_graph.Goals as goal

abbrev with_settings : ServiceSettings → Acts
with_settings s = record { settings = s; loadable = false }

pub returns-in-Some : goal.returns-in-Some
returns-in-Some c = λ s name serves known. ap acts_as (c.in-Some.ensures s name serves known)

pub returns-in-None : goal.returns-in-None
returns-in-None c = λ s name serves known. ap with_settings c.requires ∙ ap acts_as (c.in-None.ensures s name serves known)
