use Rattle.std.proofs.Common.{[], ◌∷◌, ◌++◌, ap, ◌∙◌, arith}
use Rattle.std.proofs.lemmas.List.{get_or_default}
use Rattle.um_unit.specs.View.{tree_read}
use Rattle.um_install.specs.View.{units_of}
use Rattle.um_install.specs.Walk.{name_taken}
use Rattle.um_install.proofs.WalkLaws.{begun_walk, stepped, finished}
use Rattle.um_install.proofs.walk.walk.Goals as goal

pub loop-next-init : goal.loop-next-init
loop-next-init c =
    begun_walk c.args.naming (tree_read c.args.reading) c.args.asked.now (units_of c.new-units.result.entries) c.push.new.self.items (ap units_of c.new-units.ensures.empty)
    (c.in_ok-push.ensures.items ∙ (ap (λ xs. xs ++ (c.in_ok-copy.field-0 ∷ [])) c.new-waiting.ensures.items ∙ ap (λ x. x ∷ []) c.in_ok-copy.ensures))

pub loop-next-preserved : goal.loop-next-preserved
loop-next-preserved c =
    stepped c.args.naming (tree_read c.args.reading) c.args.asked.now (units_of c.loop-next.units.entries) c.loop-next.waiting.items c.in_ok-unit.unit c.loop-next.next c.loop-next.invariant
    (omega (arith, c.loop-next-test.true, c.len.ensures)) (c.in_ok-unit.ensures
    ∙ ap (name_taken c.args.naming c.args.reading.tree.now)
    (c.index.ensures ∙ get_or_default c.loop-next.waiting.items c.loop-next.next c.index.result.now [] (omega (arith, c.loop-next-test.true, c.len.ensures))))
    (units_of c.take.new.units.entries) c.take.new.waiting.items c.in_ok-take.ensures.units c.in_ok-take.ensures.waiting

pub returns : goal.returns
returns c =
    finished c.args.naming (tree_read c.args.reading) c.args.asked.now (units_of c.loop-next.units.entries) c.loop-next.waiting.items c.loop-next.next c.loop-next.invariant
    (λ less. omega (arith, c.loop-next-test.false, c.len.ensures, less))
