-- The recorded tests of units are true: of no unit at first, and one answer more.
use Rattle.std.proofs.Common.{◌≡◌, ℕ, zero, suc, Bool, List, [], Option, None, Some, length, replicate, refl, sym, ap, ◌∙◌}
use Rattle.std.proofs.lemmas.List.{length-replicate}
use Rattle.um_model.specs.declared.service.ActiveState.{ActiveState}
use Rattle.um_graph.specs.Graph.{GraphView}
use Rattle.um_transact.specs.Situation.{AreTested, tested_at}

none_at : (n u : ℕ) → tested_at (replicate n None) u ≡ None
none_at zero u = refl
none_at (suc n) zero = refl
none_at (suc n) (suc u) = none_at n u

module _ (g : GraphView) (activity : List ActiveState) where
  pub none_tested : (tested : List (Option Bool)) → tested ≡ replicate (length g.names) None → AreTested g activity tested
  none_tested tested e = record {
    long = ap length e ∙ length-replicate (length g.names) None;
    told = λ u b h. let no : None ≡ Some b = sym (none_at (length g.names) u) ∙ (ap (λ ts. tested_at ts u) (sym e) ∙ h) in cc;
  }
