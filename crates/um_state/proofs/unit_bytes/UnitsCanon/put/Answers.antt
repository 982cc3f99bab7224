use Rattle.std.proofs.Common.{◌++◌, ap, subst, ◌∙◌}
use Rattle.um_model.specs.Bytes.{FitMap}
use Rattle.um_model.specs.Names.{is_unit_name}
use Rattle.um_model.specs.Spellings.{FitUnit}
use Rattle.um_model.specs.StateSpellings.{units_spelling}
use Rattle.um_state.proofs.Results.{on_ok_more}
use Rattle.um_state.proofs.UnitsRead.{same_map}
use Rattle.um_state.proofs.unit_bytes.UnitsCanon.put.Goals as goal

pub returns-clause-put : goal.returns-clause-put
returns-clause-put c =
    let same = same_map c.in_ok-entries.entries.entries ∙ c.in_ok-entries.ensures.map in
    on_ok_more c.put.result (λ put. put ∙ ap (λ units. c.args.out.now.items ++ units_spelling units) same) c.put.ensures.put

pub returns-clause-fits : goal.returns-clause-fits
returns-clause-fits c =
    let same = same_map c.in_ok-entries.entries.entries ∙ c.in_ok-entries.ensures.map in
    on_ok_more c.put.result (λ fit. record { named = subst (FitMap is_unit_name FitUnit) same fit; tidy = c.to_map.ensures.tidy }) c.put.ensures.fits
