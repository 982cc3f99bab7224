use Rattle.std.proofs.Common.{◌≡◌, ◌++◌, ◌∙◌, map, sym, ap, subst, All, []}
use Rattle.std.proofs.lemmas.List.Elements.{All-push}
use Rattle.um_graph.specs.Edges.{unit_seen}
use Rattle.um_graph.specs.declared.units.Unit.{Unit}
use Rattle.um_graph.proofs.ListLaws.{map_pushed}
use Rattle.um_graph.proofs.RowLaws.{rows_nothing}
use Rattle.um_graph.proofs.units.Units.of.Goals as goal

pub loop-name-preserved : goal.loop-name-preserved
loop-name-preserved c =
    let u : Unit = record { name = c.in-Some.name; loading = c.in-Some.loading; row = c.new.result } in
    record {
      units = ap (λ us. map unit_seen us ++ c.next.new.self) c.in_ok-push.ensures.items
          ∙ (map_pushed unit_seen c.loop-name.units.items u c.next.new.self
          ∙ (ap (λ es. map unit_seen c.loop-name.units.items ++ es) (sym c.in-Some.ensures.steps) ∙ c.loop-name.invariant.units));
      empty = subst (All (λ (u : Unit). u.row.neighbours.entries ≡ [])) (sym c.in_ok-push.ensures.items) (All-push (λ (u : Unit). u.row.neighbours.entries ≡ []) c.loop-name.units.items u c.loop-name.invariant.empty c.new.ensures);
    }

pub returns-clause-rows : goal.returns-clause-rows
returns-clause-rows c = rows_nothing c.loop-name.units.items c.loop-name.invariant.empty
