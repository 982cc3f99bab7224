use Rattle.std.proofs.Common.{[], ◌∷◌, ◌||◌, codes, map, take, filter_map, sym, ap, ◌∙◌}
use Rattle.std.proofs.Math.Path.{fun_ext}
use Rattle.std.proofs.lemmas.List.{take_all}
use Rattle.std.specs.List.{after_last}
use Rattle.um_model.specs.Text.{is_empty}
use Rattle.um_unit.specs.Tests.{tells_any}
use Rattle.um_model.specs.Units.{since_empty}
use Rattle.um_unit.specs.Sources.{assigned_of}
use Rattle.um_model.specs.Values.{exits_of}
use Rattle.um_unit.proofs.SettingLemmas.{ends_more, ones_said, value_more}
use Rattle.um_unit.proofs.lists.exits_in.Goals as goal

pub returns : goal.returns
returns c = fun_ext (λ end. c.loop-value.invariant end
    ∙ ap (λ values. tells_any (filter_map exits_of (map (λ v. v.now) values)) end) (take_all _ c.since_empty-value-items.result.now c.loop-value-test.false)
    ∙ ap (λ values. tells_any (filter_map exits_of values) end) c.since_empty-value-items.ensures
    ∙ ap (λ values. tells_any (filter_map exits_of (after_last is_empty (map (λ v. v.now) values))) end) c.as_slice.ensures.value
    ∙ ap (λ values. tells_any (filter_map exits_of (after_last is_empty values)) end) c.in_ok-values.ensures
    ∙ ap (λ sets. tells_any sets end) (sym (ones_said exits_of (since_empty (codes "Service", c.args.key.now) (map assigned_of c.args.assigned.now)))))

pub loop-value-preserved : goal.loop-value-preserved
loop-value-preserved c = λ end.
    let values = c.since_empty-value-items.result.now in
    let i = c.loop-value.value-index in
    let more = value_more values i (record { ref_ptr = (0, 0); now = [] }) c.loop-value-test.true in
    c.add.ensures end
    ∙ (λ k. c.loop-value.invariant end k || c.exits_said.ensures end k)
    ∙ sym (ends_more (map (λ v. v.now) (take i values)) (_ ∷ []) end)
    ∙ ap (λ vs. tells_any (filter_map exits_of vs) end) (sym more)
