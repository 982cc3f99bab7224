use Rattle.std.proofs.Common.{[], codes, map, ap, ◌∙◌}
use Rattle.std.proofs.lemmas.List.{take_all}
use Rattle.std.specs.List.{after_last, flat_map}
use Rattle.std.specs.Result.{result_unwrap_or}
use Rattle.um_model.specs.Readings.{environment_reading}
use Rattle.um_model.specs.Text.{is_empty}
use Rattle.um_model.specs.Units.{since_empty}
use Rattle.um_unit.proofs.SettingLemmas.{lists_said}
use Rattle.um_unit.specs.Sources.{assigned_of}
use Rattle.um_unit.proofs.lists.environment_of.Goals as goal

pub returns : goal.returns
returns c =
    let said = flat_map (λ value. result_unwrap_or (environment_reading c.args.unit.now value) []) in
    c.loop-value.invariant
    ∙ ap (λ values. said (map (λ v. v.now) values)) (take_all _ c.since_empty-value-items.result.now c.loop-value-test.false)
    ∙ ap said c.since_empty-value-items.ensures
    ∙ ap (λ values. said (after_last is_empty (map (λ v. v.now) values))) c.as_slice.ensures.value
    ∙ ap (λ values. said (after_last is_empty values)) c.in_ok-values.ensures
    ∙ lists_said (environment_reading c.args.unit.now) (since_empty (codes "Service", codes "Environment") (map assigned_of c.args.assigned.now))
