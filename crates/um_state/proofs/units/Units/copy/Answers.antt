use Rattle.std.proofs.Common.{◌≡◌, ◌∙◌}
use Rattle.std.proofs.lemmas.List.Elements.{same_from_all_zip}
use Rattle.um_state.specs.Tables.{units_by}
use Rattle.um_state.proofs.Results.{if_ok_both}
use Rattle.um_state.proofs.units.Units.copy.Goals as goal

pub returns : goal.returns
returns c =
    let s = c.self.inside in
    let names : c.in_ok-names.names ≡ s.names = c.in_ok-names.ensures.same in
    let states : c.in_ok-clone.field-0.items ≡ s.states.items = same_from_all_zip _ s.states.items c.in_ok-clone.field-0.items c.in_ok-clone.ensures.cases.0 (λ x y e. e) in
    if_ok_both c.made-2.result (λ u named held.
    let named' : u.names ≡ s.names = named ∙ names in
    let held' : u.held ≡ units_by s.names s.states.items = held ∙ (λ j. units_by (names j) (states j)) in
    (λ j. record { names = named' j; held = held' j }) ∙ c.self.view_is) c.made-2.ensures.names c.made-2.ensures.held
