use Rattle.std.proofs.Common.{◌≡◌, ◌∙◌, ◌<◌, true, false, refl, ap, arith, length, slice_index_or, subst, sym}
use Rattle.um_engine.specs.Known.{AreMarked, KnownView}
use Rattle.um_engine.proofs.known.Known.is_extra_at.Goals as goal

pub returns-in-Some-true-clause-told : goal.returns-in-Some-true-clause-told
returns-in-Some-true-clause-told c unit number =
    let marks = c.self.inside.is_extra.items in
    let marked = subst (λ (k : KnownView). AreMarked k.graph.names k.extra marks) c.self.view_is c.self.invariant.2 in
    let yes : slice_index_or marks c.args.number false ≡ true =
    sym (ap (λ xs. slice_index_or xs c.args.number false) c.deref.ensures.value) ∙ (sym (c.in-Some-true.ensures.lookup.4 (omega arith) false) ∙ c.in-Some-true.field-0-test) in
    ((λ told. (marked.each c.args.number unit number).0 yes), (λ among. refl))

pub returns-in-Some-true-clause-within : goal.returns-in-Some-true-clause-within
returns-in-Some-true-clause-within c told =
    let marks = c.self.inside.is_extra.items in
    let marked = subst (λ (k : KnownView). AreMarked k.graph.names k.extra marks) c.self.view_is c.self.invariant.2 in
    let same : length c.deref.result.now ≡ length marks = ap length c.deref.ensures.value in
    let low : c.args.number < length c.deref.result.now = c.in-Some-true.ensures.lookup.3.0 in
    omega (arith, low, same, marked.long)
