use Rattle.std.proofs.Common.{◌∙◌, ◌++◌, ◌∷◌, [], Contains, ap, inl, inr, subst, sym}
use Rattle.std.proofs.lemmas.List.Elements.{Contains-append_left, Contains-push, Contains-push_cases}
use Rattle.um_engine.proofs.known.push_other.Goals as goal

pub returns-then-is_named-clause-has : goal.returns-then-is_named-clause-has
returns-then-is_named-clause-has c = inr (c.is_named.ensures c.if-is_named.true)

pub returns-clause-keeps : goal.returns-clause-keeps
returns-clause-keeps c name there = subst (λ xs. Contains xs name) (sym c.in_ok-push.ensures.items) (Contains-append_left c.args.others.now.items _ name there)

pub returns-clause-has : goal.returns-clause-has
returns-clause-has c =
    let unit = c.args.unit.now in
    let is = c.in_ok-push.ensures.items ∙ ap (λ n. c.args.others.now.items ++ n ∷ []) c.in_ok-copy.ensures in
    inl (subst (λ xs. Contains xs unit) (sym is) (Contains-push c.args.others.now.items unit))

pub returns-clause-only : goal.returns-clause-only
returns-clause-only c name there =
    let unit = c.args.unit.now in
    let is = c.in_ok-push.ensures.items ∙ ap (λ n. c.args.others.now.items ++ n ∷ []) c.in_ok-copy.ensures in
    Contains-push_cases c.args.others.now.items unit name (subst (λ xs. Contains xs name) is there)
