use Rattle.std.proofs.Common.{◌≡◌, ℕ, List, Contains, Option, option_map, rules, subst}
use Rattle.um_wire.specs.declared.refusal.Refusal.TheVariants as refusals
use Rattle.um_model.specs.declared.refusals.Limit.TheVariants as limits
use Rattle.um_graph.specs.Graph.{IsGraphOf}
use Rattle.um_unit.specs.View.{tree_read}
use Rattle.um_engine.specs.Known.{AreLasting, AreMarked, IsFull, IsGraphFor}
use Rattle.um_engine.proofs.KnownLaws.{lasting_known}
use Rattle.um_engine.proofs.known.Known.with_units.Goals as goal

pub returns-in_err-graph-clause-refused : goal.returns-in_err-graph-clause-refused
returns-in_err-graph-clause-refused c =
    let e = c.in_err-graph.field-0.0 in
    let step : ¬ (e ≡ refusals.NoMemory) → (e ≡ refusals.TooLarge limits.Units) × IsFull (tree_read c.args.reading) (Contains c.args.extra.items) =
    λ differs. let r = c.in_err-graph.ensures.refused differs in (r.0, subst (λ xs. IsFull (tree_read c.args.reading) (Contains xs)) c.as_slice.ensures.value r.1) in
    search (rules, step)

pub returns-clause-made : goal.returns-clause-made
returns-clause-made c =
    subst (λ xs. IsGraphFor (tree_read c.args.reading) (Contains xs) c.in_ok-graph.graph) c.as_slice.ensures.value
    (record { graph = c.in_ok-graph.ensures.whole; of = c.in_ok-graph.ensures.graph; count = c.in_ok-graph.ensures.count; few = c.in_ok-graph.ensures.few })

pub returns-clause-few : goal.returns-clause-few
returns-clause-few c = subst (λ xs. ¬ IsFull (tree_read c.args.reading) (Contains xs)) c.as_slice.ensures.value c.in_ok-graph.ensures.few

pub returns-clause-lasting : goal.returns-clause-lasting
returns-clause-lasting c =
    let lasting : Option (List (List ℕ)) = option_map (λ names. names.items) c.in_ok-lasting.lasting in
    lasting_known (tree_read c.args.reading) c.args.extra.items c.in_ok-graph.graph lasting
    (subst (λ xs. IsGraphOf (tree_read c.args.reading) (Contains xs) c.in_ok-graph.graph) c.as_slice.ensures.value c.in_ok-graph.ensures.graph)
    (subst (λ xs. AreLasting (tree_read c.args.reading) xs lasting) c.as_slice-2.ensures.value c.in_ok-lasting.ensures)

pub invariant_of-result : goal.invariant_of-result
invariant_of-result c = (
  c.in_ok-names.ensures,
  c.in_ok-passing.ensures,
  subst (λ xs. AreMarked c.in_ok-graph.graph.names xs c.in_ok-is_extra.is_extra.items) c.deref.ensures.value c.in_ok-is_extra.ensures,
)
