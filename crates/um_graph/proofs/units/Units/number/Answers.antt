use Rattle.std.proofs.Common.{rules, ◌∙◌}
use Rattle.std.specs.Cmp.Lexicographic.{slice_cmp}
use Rattle.std.specs.Ordering.{nat_cmp}
use Rattle.std.proofs.lemmas.Fn.{always_returns_same}
use Rattle.um_graph.specs.declared.units.Unit.{Unit}
use Rattle.um_graph.proofs.NumberLaws.{searched}
use Rattle.um_graph.proofs.units.Units.number.Goals as goal

pub returns-clause-number : goal.returns-clause-number
returns-clause-number c =
    let facts = c.binary_search_by.ensures in
    let by_name = facts.position (λ (u : Unit). slice_cmp nat_cmp u.name c.args.name.now) (always_returns_same _ _ _ (λ a r g called. search rules)) in
    c.ok.ensures.value ∙ rw (← c.deref.ensures.value) (searched _ (rw c.deref.ensures.value c.requires) c.args.name.now _ facts.bound by_name)
