use Rattle.std.proofs.Common.{◌∙◌, ap, sym, subst, arith}
use Rattle.um_model.specs.Profiles.{ReadTree}
use Rattle.um_model.specs.Weight.{tree_weight}
use Rattle.um_state.specs.View.{state_of}
use Rattle.um_engine.specs.Known.{KnownView, KnowsFor}
use Rattle.um_engine.proofs.KnownLaws.{none_apart}
use Rattle.um_engine.proofs.served.Served.numbered.Goals as goal

pub returns-clause-state : goal.returns-clause-state
returns-clause-state c =
    let names = c.names.ensures ∙ ap (λ (k : KnownView). k.graph.names) c.deref.ensures in
    c.in_ok-number.ensures.state (none_apart c.args.known.value (state_of c.args.state) c.requires c.names.result.now names)

pub invariant_of-result : goal.invariant_of-result
invariant_of-result c =
    let names = c.names.ensures ∙ ap (λ (k : KnownView). k.graph.names) c.deref.ensures in
    let same = c.in_ok-number.ensures.state (none_apart c.args.known.value (state_of c.args.state) c.requires c.names.result.now names) in
    let tree = c.weight.ensures.weight ∙ ap tree_weight c.tree.ensures in
    let loaded = c.weight-2.ensures.weight ∙ ap (λ (t : ReadTree). tree_weight t.entries) c.loaded.ensures in
    ((c.in_ok-number.ensures.common, c.in_ok-number.ensures.names ∙ names), subst (KnowsFor c.args.known.value) (sym same) c.requires, omega (arith, tree, loaded))
