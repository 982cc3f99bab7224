use Rattle.std.proofs.Common.{◌∙◌, ap, refl}
use Rattle.um_model.specs.StateSpellings.{have_begun}
use Rattle.um_model.proofs.Forms.{has_begun}
use Rattle.um_state.proofs.EntryLaws.{unit_all}
use Rattle.um_state.proofs.units.Units.have_begun.Goals as goal

pub returns : goal.returns
returns c =
    c.have_all_begun.ensures
    ∙ (unit_all (λ u. has_begun c.args.clock u.window) refl c.args.self.now.names c.rows.result.now c.rows.ensures.ascending c.rows.ensures.len ∙ ap (have_begun c.args.clock) c.rows.ensures.held)
