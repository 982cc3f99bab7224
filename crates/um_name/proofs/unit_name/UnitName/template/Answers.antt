use Rattle.std.proofs.Common.{◌≡◌, Option, Some, None, is_some, not, option_copied, Bor, List, ℕ, true, refl, sym, ap, ◌∙◌}
use Rattle.um_model.specs.Names.{instance_of, is_unit_name}
use Rattle.um_model.proofs.NamesLaws.{template_of-named}
use Rattle.um_name.proofs.unit_name.UnitName.template.Goals as goal

is_some-copied : (o : Option (Bor (List ℕ))) → is_some (option_copied o) ≡ is_some o
is_some-copied None = refl
is_some-copied (Some x) = refl

pub returns : goal.returns
returns c =
    let name : is_unit_name c.args.self.now ≡ true = ap is_unit_name (sym c.self.view_is) ∙ c.self.invariant.name in
    let some : is_some (instance_of c.args.self.now) ≡ true = ap is_some (sym c.instance.ensures) ∙ is_some-copied c.instance.result ∙ c.is_none.ensures ∙ ap not c.if-is_none.false in
    let told = template_of-named c.args.self.now name some in
    rw told at c.with_instance.ensures
