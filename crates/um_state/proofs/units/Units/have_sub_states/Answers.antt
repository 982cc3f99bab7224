use Rattle.std.proofs.Common.{◌∙◌, ap, refl}
use Rattle.um_model.specs.StateSpellings.{have_sub_states, is_sub_state_in}
use Rattle.um_state.proofs.EntryLaws.{unit_all}
use Rattle.um_state.proofs.units.Units.have_sub_states.Goals as goal

pub returns : goal.returns
returns c =
    c.have_all_sub_states.ensures
    ∙ (unit_all (λ u. is_sub_state_in c.args.profile u.sub) refl c.args.self.now.names c.rows.result.now c.rows.ensures.ascending c.rows.ensures.len ∙ ap (have_sub_states c.args.profile) c.rows.ensures.held)
