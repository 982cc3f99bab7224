use Rattle.std.proofs.Common.{◌≡◌, ◌∙◌, Bool, true, false, true≢false, Option, Some, None, IfSome, is_some, not, sym, ap}
use Rattle.std.specs.Option.{option_map_or}
use Rattle.um_model.proofs.TreeLaws.{without_run_same}
use Rattle.um_model.specs.Tree.{Tree, has_run, without_run}
use Rattle.um_state.proofs.shared_tree.SharedTree.clear_run.Goals as goal

-- a shared tree is the same after a boot
shared_same : {X : Type 0} (value : X → Tree) (shared : Option X) (own : Tree) → IfSome shared (λ x. has_run (value x) ≡ false) → is_some shared ≡ true
    → option_map_or value shared own ≡ without_run (option_map_or value shared own)
shared_same value None own no_run some = absurd (true≢false (sym some))
shared_same value (Some x) own no_run some = sym (without_run_same (value x) no_run)

pub returns-else-is_none : goal.returns-else-is_none
returns-else-is_none c =
    let s = c.self.inside in
    sym c.self.view_is ∙ (shared_same (λ rc. rc.value) s.shared s.own c.self.invariant (c.is_none.ensures ∙ ap not c.if-is_none.false) ∙ ap without_run c.self.view_is)
