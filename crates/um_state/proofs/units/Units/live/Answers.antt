use Rattle.std.proofs.Common.{◌∙◌, ap, arith, flat_map, refl}
use Rattle.um_model.specs.Standing.{Table}
use Rattle.um_model.specs.StateSpellings.{numbers_in}
use Rattle.um_model.specs.Transitions.{live_numbers}
use Rattle.um_model.specs.declared.service.UnitState.{UnitState}
use Rattle.um_state.proofs.EntryLaws.{unit_flat}
use Rattle.um_state.proofs.HadLaws.{had_in_units}
use Rattle.um_state.proofs.Results.{if_ok_more}
use Rattle.um_state.proofs.units.Units.live.Goals as goal

pub returns : goal.returns
returns c =
    let s = c.self.inside in
    let held = ap (λ (t : Table UnitState). numbers_in t.held) c.self.view_is in
    let all = ap (flat_map live_numbers) c.deref.ensures.value ∙ (unit_flat live_numbers refl s.names s.states.items c.self.invariant.1 (omega arith) ∙ held) in
    if_ok_more c.numbers.result (λ numbers each. had_in_units c.deref.result.now (numbers_in c.args.self.now.held) numbers.items all each) c.numbers.ensures
