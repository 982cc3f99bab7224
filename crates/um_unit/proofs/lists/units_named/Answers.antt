use Rattle.std.proofs.Common.{◌≡◌, [], ◌∷◌, map, string_bytes, ap, ◌∙◌}
use Rattle.std.proofs.lemmas.Result.{IfOk-weaker}
use Rattle.um_model.specs.FileForms.{names_of}
use Rattle.um_model.specs.Names.{is_unit_name}
use Rattle.um_model.specs.Units.{all_said, values_of}
use Rattle.um_model.specs.declared.units.ValueKind.TheVariants as kinds
use Rattle.um_unit.specs.Sources.{assigned_of}
use Rattle.um_unit.proofs.lists.units_named.Goals as goal

pub returns : goal.returns
returns c =
    let values = map (λ v. v.now) c.as_slice.result.now in
    IfOk-weaker c.names_of.result (λ names. map string_bytes names.items ≡ names_of is_unit_name c.args.unit.now values)
    (λ names. map string_bytes names.items ≡ all_said c.args.unit.now kinds.Units (values_of ((c.args.key.0.now, c.args.key.1.now) ∷ []) (map assigned_of c.args.assigned.now)))
    (λ names said.
    said
    ∙ ap (λ all. names_of is_unit_name c.args.unit.now (map (λ v. v.now) all)) c.as_slice.ensures.value
    ∙ ap (names_of is_unit_name c.args.unit.now) c.in_ok-values.ensures)
    c.names_of.ensures
