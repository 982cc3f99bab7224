use Rattle.std.proofs.Common.{◌∙◌, ap, refl, sym, length}
use Rattle.um_keeper.specs.Keepers.{layout_in}
use Rattle.um_manager.proofs.Beginning.{opened_place}
use Rattle.um_manager.proofs.Continuing.{put_back, script_history, turns_continue}
use Rattle.um_manager.proofs.manager.Manager.run_script.Goals as goal

pub returns-clause-history : goal.returns-clause-history
returns-clause-history g c = λ disk before past.
    let sessions = c.as_mut_slice.ensures in
    script_history c.args.steps.now sessions.value
    (put_back _ c.run.new.sessions c.args.self.now.sessions.items (c.run.auto.sessions ∙ sessions.len) (ap length (sym sessions.value) ∙ sessions.len))
    c.run.ensures.runs past

pub returns-clause-life : goal.returns-clause-life
returns-clause-life g c = λ sure working disk before past gone.
    let k = c.args.self.now.keeper in
    let (all, turns) = returns-clause-history g c disk before past in
    (all, turns, turns_continue (layout_in k) c.args.steps.now c.run.result past all turns gone (opened_place (sym k.holds.size_is) refl sure working))
