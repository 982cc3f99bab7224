use Rattle.std.proofs.Common.{◌≡◌, List, ℕ, Option, Some, None, Result, Ok, Err, String, Global, IfOk, string_bytes, option_map, sym, ap, subst, ◌∙◌}
use Rattle.um_model.specs.Pieces.{reading}
use Rattle.um_model.specs.Specifiers.{specifier_front, unescaped_of, expanded_of}
use Rattle.um_model.proofs.SpecifiersLaws.{one_unescaped, IsUnescaped-unescaped_of}
use Rattle.um_model.specs.Specifiers.{IsUnescaped}
use Rattle.um_spec.proofs.expansion.expand.Goals as goal
use Rattle.um_model.specs.Names.{instance_or_empty}

-- the reading with the one unescaped instance is the text's reading
same_with : {E : Type 0} (name text : List ℕ) (unescaped : Option (List ℕ)) (r : Result (Option (String Global)) E) → IsUnescaped (instance_or_empty name) unescaped
    → IfOk r (λ o. option_map string_bytes o ≡ reading (specifier_front name unescaped) text) → IfOk r (λ o. option_map string_bytes o ≡ expanded_of name text)
unfolding expanded_of
same_with name text unescaped (Err e) is told = tt
same_with name text unescaped (Ok o) is told =
    let instance = instance_or_empty name in
    told ∙ ap (λ u. reading (specifier_front name u) text) (one_unescaped instance unescaped (unescaped_of instance) is (IsUnescaped-unescaped_of instance))

-- the instance's text, as the code has it
unescaped_so : (name escaped : List ℕ) (r : Option (String Global)) (text : Option (List ℕ)) → escaped ≡ instance_or_empty name → IsUnescaped escaped (option_map string_bytes r)
    → option_map string_bytes r ≡ text → IsUnescaped (instance_or_empty name) text
unescaped_so name escaped r text e is same = subst (IsUnescaped (instance_or_empty name)) same (subst (λ i. IsUnescaped i (option_map string_bytes r)) e is)

pub returns-in-Some : goal.returns-in-Some
returns-in-Some c =
    let name = c.args.unit.now in
    let some : option_map string_bytes c.in_ok-instance.field-0 ≡ Some c.as_str.result.now = ap (option_map string_bytes) c.in-Some.is ∙ ap Some (sym c.as_str.ensures.value) in
    same_with name c.args.text.now (Some c.as_str.result.now) c.expand_with.result
    (unescaped_so name c.instance_or_empty.result.now c.in_ok-instance.field-0 _ c.instance_or_empty.ensures c.in_ok-instance.ensures some) c.expand_with.ensures

pub returns-in-None : goal.returns-in-None
returns-in-None c =
    let name = c.args.unit.now in
    same_with name c.args.text.now None c.expand_with-in-None.result
    (unescaped_so name c.instance_or_empty.result.now c.in_ok-instance.field-0 None c.instance_or_empty.ensures c.in_ok-instance.ensures (ap (option_map string_bytes) c.in-None.is)) c.expand_with-in-None.ensures
