use Rattle.std.proofs.Common.{◌≡◌, ◌∙◌, ◌<◌, ◌++◌, ◌∷◌, [], Some, ap, arith, length, sym, take}
use Rattle.std.proofs.lemmas.List.{take_all, take_more}
use Rattle.std.proofs.lemmas.Option.{get_or_from_slice_get}
use Rattle.std.specs.Prelude.{slice_get}
use Rattle.std.specs.List.{list_any}
use Rattle.std.specs.Str.{bytes_eq}
use Rattle.um_state.proofs.NameLists.{same_names}
use Rattle.um_engine.proofs.known.names_of.Goals as goal

pub returns : goal.returns
returns c =
    let names = c.args.graph.now.names in
    let all = c.deref.ensures.value ∙ (c.loop-unit.invariant ∙ take_all c.loop-unit.unit names (omega arith)) in
    same_names c.in_ok-names.names names c.in_ok-names.ensures.ascending c.len-unit-end.ensures.graph.sorted (λ x. c.in_ok-names.ensures.whole x ∙ ap (list_any (bytes_eq x)) all)

pub loop-unit-preserved : goal.loop-unit-preserved
loop-unit-preserved c =
    let names = c.args.graph.now.names in
    let i = c.loop-unit.unit in
    let x = c.in-Some.name.now in
    let low : i < length names = omega (arith, c.loop-unit-test.true, c.len-unit-end.ensures.len) in
    let at : slice_get names i ≡ Some x = sym c.in-Some.ensures in
    c.in_ok-push-in-Some.ensures.items
    ∙ (ap (λ n. c.loop-unit.listed.items ++ n ∷ []) c.in_ok-copy-in-Some.ensures
    ∙ (ap (λ l. l ++ x ∷ []) c.loop-unit.invariant
    ∙ sym (take_more names i x low ∙ ap (λ y. take i names ++ y ∷ []) (get_or_from_slice_get names i x x at))))
