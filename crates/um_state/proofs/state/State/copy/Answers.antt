use Rattle.std.proofs.Common.{◌≡◌, ◌∙◌, ap}
use Rattle.um_model.specs.Machine.{State}
use Rattle.um_model.specs.Profiles.{read_by}
use Rattle.um_state.specs.View.{state_of}
use Rattle.um_state.proofs.state.State.copy.Goals as goal

pub returns : goal.returns
returns c =
    let s = c.self.inside in
    let boot : c.in_ok-copy.field-0 ≡ s.boot = c.in_ok-copy.ensures in
    let tree : c.in_ok-copy-2.field-0 ≡ s.tree = c.in_ok-copy-2.ensures in
    let loaded : c.in_ok-copy-3.field-0 ≡ s.loaded = c.in_ok-copy-3.ensures in
    let pending : c.in_ok-copy-4.field-0 ≡ s.pending = c.in_ok-copy-4.ensures in
    let units : c.in_ok-copy-5.field-0 ≡ s.units = c.in_ok-copy-5.ensures in
    ◌∙◌ {A = State} (λ j. record { tree = tree j; loaded = read_by s.profile (loaded j); boot = boot j; clock = s.clock; next = s.next; units = (units j).held; pending = (pending j).held }) (ap state_of c.self.view_is)
