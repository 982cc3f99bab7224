use Rattle.std.proofs.Common.{◌∙◌, ap, refl}
use Rattle.um_model.specs.StateSpellings.{numbers_in}
use Rattle.um_model.specs.Transitions.{live_numbers}
use Rattle.um_state.proofs.EntryLaws.{unit_flat}
use Rattle.um_state.proofs.Results.{if_ok_more}
use Rattle.um_state.proofs.units.Units.live_numbers.Goals as goal

pub returns : goal.returns
returns c =
    if_ok_more c.numbers_of.result
    (λ numbers are. are ∙ (unit_flat live_numbers refl c.args.self.now.names c.rows.result.now c.rows.ensures.ascending c.rows.ensures.len ∙ ap numbers_in c.rows.ensures.held)) c.numbers_of.ensures
