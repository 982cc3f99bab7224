use Rattle.std.proofs.Common.{◌≡◌, ◌∙◌, Contains, Some, ap, sym, subst, inl, inr, arith}
use Rattle.std.specs.Prelude.{slice_get}
use Rattle.std.proofs.lemmas.Option.{slice_get-get_or}
use Rattle.um_graph.specs.Graph.{IsNumberOf}
use Rattle.um_engine.specs.Known.{ArePassing, KnownView}
use Rattle.um_engine.proofs.known.Known.lasts_for.Goals as goal

pub returns : goal.returns
returns c told unit known held =
    let k = c.args.self.now in
    let all = subst (λ (k : KnownView). ArePassing k.graph.names k.lasting c.self.inside.passing.items) c.self.view_is c.self.invariant.1 in
    let at : slice_get k.graph.names known.0 ≡ Some unit = slice_get-get_or k.graph.names known.0 unit known.1 ∙ ap Some known.2 in
    elim (all known.0 unit at) as (λ _. Contains k.lasting unit) [
      | inl lasts ↦ lasts
      | inr passes ↦
          let there = subst (λ xs. Contains xs known.0) (sym c.deref-number-items.ensures.value) passes in
          c.loop-number.invariant there.0 (omega (arith, there.1, c.loop-number-test.false)) known.0 unit (subst (λ n. IsNumberOf k.graph n unit) (sym there.2) at) held
    ]
