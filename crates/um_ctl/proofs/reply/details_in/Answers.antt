use Rattle.std.proofs.Common.{option_map, refl, ap, ◌∙◌}
use Rattle.um_ctl.specs.Told.{data_in}
use Rattle.um_ctl.proofs.Details.{details_seen}
use Rattle.um_ctl.proofs.reply.details_in.Goals as goal

pub returns : goal.returns
returns c = details_seen c.as_array.result ∙ ap (option_map data_in) c.as_array.ensures ∙ rw (← c.in_ok-get.ensures) refl
