use Rattle.std.proofs.Common.{◌∙◌, ap, sym, subst}
use Rattle.um_model.specs.Service.{AreTidyUnits, state_of_unit}
use Rattle.um_name.specs.Names.{IsApart}
use Rattle.um_state.proofs.Results.{if_ok_more}
use Rattle.um_state.proofs.units.Units.renumbered.Goals as goal

pub returns-clause-held : goal.returns-clause-held
returns-clause-held c =
    let same = c.in_ok-entries.ensures.map in
    if_ok_more c.over.result (λ made held apart. held (subst AreTidyUnits (sym same) c.to_map.ensures.tidy) (λ x a. ap (λ m. state_of_unit m x) same ∙ apart x (subst (λ ns. IsApart ns x) c.in_ok-names.ensures.same a)) ∙ same) c.over.ensures.held

pub returns-clause-names : goal.returns-clause-names
returns-clause-names c = if_ok_more c.over.result (λ made named. named ∙ c.in_ok-names.ensures.same) c.over.ensures.names
