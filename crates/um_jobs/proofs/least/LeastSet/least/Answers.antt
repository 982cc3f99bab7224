use Rattle.std.proofs.Common.{◌≡◌, ◌<◌, ◌≤◌, ◌∙◌, get_or, length, sym, subst, arith}
use Rattle.std.proofs.lemmas.List.{get_or_default}
use Rattle.um_jobs.specs.Least.{IsLeastIn, IsNone}
use Rattle.um_jobs.proofs.LeastLaws.{root_least, root_none}
use Rattle.um_jobs.proofs.least.LeastSet.least.Goals as goal

pub returns-then-least-limit : goal.returns-then-least-limit
returns-then-least-limit c =
    let marks = c.self.inside.marks.items in
    let tree = c.self.inside.tree.items in
    let some : 0 < length marks = omega arith in
    let root : c.index-least.result.now ≡ get_or tree 1 0 = c.index-least.ensures ∙ get_or_default tree 1 c.index-least.result.now 0 (omega (arith, c.self.invariant.size)) in
    let low : get_or tree 1 0 < length marks = omega arith in
    subst (λ m. IsLeastIn m c.index-least.result.now) c.self.view_is (subst (IsLeastIn marks) (sym root) (root_least marks tree c.self.invariant some low))

pub returns-else-least-limit : goal.returns-else-least-limit
returns-else-least-limit c =
    let marks = c.self.inside.marks.items in
    let tree = c.self.inside.tree.items in
    let some : 0 < length marks = omega arith in
    let root : c.index-least.result.now ≡ get_or tree 1 0 = c.index-least.ensures ∙ get_or_default tree 1 c.index-least.result.now 0 (omega (arith, c.self.invariant.size)) in
    let high : length marks ≤ get_or tree 1 0 = omega arith in
    subst IsNone c.self.view_is (root_none marks tree c.self.invariant high)
