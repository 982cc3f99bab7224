use Rattle.std.proofs.Common.{◌<◌, length, get_or, refl, sym, subst, arith}
use Rattle.um_keeper.specs.Keepers.{disk_in}
use Rattle.um_manager.proofs.Continuing.{output_at, set_other, output_takes}
use Rattle.um_manager.specs.Going.{is_taking}
use Rattle.um_manager.specs.Histories.{takes}
use Rattle.um_manager.specs.Turns.{now_in}
use Rattle.um_model.specs.Sessions.{Session, Does, Take}
use Rattle.um_manager.proofs.manager.Manager.output.Goals as goal

pub returns-clause-history : goal.returns-clause-history
returns-clause-history g c = λ disk before past.
    let m = c.args.self.now in
    let k = c.get.result in
    let new = c.take_output.new.self in
    let out = c.take_output.result.items in
    let a = now_in m.keeper (g.C.Children.past m.children) m.marks m.sessions.items (g.D.Disk.past (disk_in m.keeper)) in
    let low : k < length m.sessions.items = omega (arith, c.get.ensures.value, c.get.ensures.small, m.each) in
    let does = subst (λ (s : Session). Does s (Take out) new) c.index_mut-session.ensures.value c.take_output.ensures in
    let taken = output_takes a _ k out c.failed.result refl (output_at m.sessions.items k _ new out c.failed.result low does c.failed.ensures) (set_other m.sessions.items k new) in
    (takes past taken, is_taking taken)
