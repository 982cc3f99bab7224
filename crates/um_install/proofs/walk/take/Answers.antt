use Rattle.std.proofs.Common.{string_bytes, cond, ap, sym, ◌∙◌, ◌≡◌, false}
use Rattle.std.specs.FinMap as map
use Rattle.um_model.specs.Units as model
use Rattle.um_unit.specs.View.{loading_of, tree_read}
use Rattle.um_install.specs.View.{units_of}
use Rattle.um_install.proofs.Members.{inserted}
use Rattle.um_install.proofs.walk.take.Goals as goal

pub returns-clause-units : goal.returns-clause-units
returns-clause-units c =
    let units = units_of c.args.units.now.entries in
    let absent : map.contains_key units c.args.unit.now ≡ false =
    ap (λ q. map.contains_key units q) (sym c.as_str.ensures.value) ∙ (sym c.contains.ensures ∙ c.if-contains.false) in
    inserted loading_of c.args.units.now c.insert.new.self (string_bytes c.in_ok-from_str.field-0) c.args.unit.now c.in_ok-loading.loading
    (model.load (tree_read c.args.reading) c.args.unit.now) (c.in_ok-from_str.ensures.ok ∙ c.as_str-2.ensures.value) c.in_ok-loading.ensures c.in_ok-insert.ensures.updates
    ∙ sym (ap (λ b. cond b units (map.insert units c.args.unit.now (model.load (tree_read c.args.reading) c.args.unit.now))) absent)
