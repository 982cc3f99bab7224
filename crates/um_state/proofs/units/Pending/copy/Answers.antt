use Rattle.std.proofs.Common.{◌≡◌, ◌∙◌}
use Rattle.std.proofs.lemmas.List.Elements.{same_from_all_zip}
use Rattle.um_state.specs.Tables.{jobs_by}
use Rattle.um_state.proofs.units.Pending.copy.Goals as goal

pub returns : goal.returns
returns c =
    let s = c.self.inside in
    let names : c.in_ok-copy.field-0 ≡ s.names = c.in_ok-copy.ensures.same in
    let jobs : c.in_ok-clone.field-0.items ≡ s.jobs.items = same_from_all_zip _ s.jobs.items c.in_ok-clone.field-0.items c.in_ok-clone.ensures.cases.0 (λ x y e. e) in
    (λ j. record { names = names j; held = jobs_by (names j) (jobs j) }) ∙ c.self.view_is
