use Rattle.std.proofs.Common.{◌≡◌, ◌∙◌, ap}
use Rattle.um_model.specs.Machine.{State, as_loaded}
use Rattle.um_model.specs.Profiles.{read_by}
use Rattle.um_state.specs.View.{state_of}
use Rattle.um_state.proofs.state.State.load_tree.Goals as goal

pub returns-clause-ok : goal.returns-clause-ok
returns-clause-ok c =
    let s = c.self.inside in
    let tree = c.args.tree in
    let loaded : c.in_ok-self-inside.field-0 ≡ tree = c.in_ok-self-inside.ensures ∙ c.in_ok-tree.ensures in
    ◌∙◌ {A = State} (λ j. record { tree = c.in_ok-tree.ensures j; loaded = read_by (c.later-self-inside.ensures j) (loaded j); boot = s.boot; clock = s.clock; next = s.next; units = s.units.held; pending = s.pending.held })
    (ap (λ s. record (state_of s) { tree = tree; loaded = as_loaded c.args.profile (state_of s) tree }) c.self.view_is)
