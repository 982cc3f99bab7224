use Rattle.std.proofs.Common.{◌∙◌, ap, refl}
use Rattle.um_state.specs.Due.{are_later, is_later}
use Rattle.um_state.proofs.EntryLaws.{unit_all}
use Rattle.um_state.proofs.units.Units.are_later.Goals as goal

pub returns : goal.returns
returns c =
    c.are_all_later.ensures
    ∙ (unit_all (λ u. is_later c.args.moment u.deadline) refl c.args.self.now.names c.rows.result.now c.rows.ensures.ascending c.rows.ensures.len ∙ ap (are_later c.args.moment) c.rows.ensures.held)
