use Rattle.std.proofs.Common.{◌≡◌, ◌∙◌, ◌++◌, ◌∷◌, [], map, true, Ok, Err, ap, sym, subst}
use Rattle.std.specs.Bool.{IsTrue}
use Rattle.um_fates.specs.Fates.{Heard, inputs_in, lost}
use Rattle.std.specs.Prelude.{IfErr}
use Rattle.um_keeper.specs.Keepers.{disk_in, state_in, has_failed}
use Rattle.um_manager.proofs.Adoption.{adopted, unadopted_calls}
use Rattle.um_manager.proofs.FewLive.{few_live}
use Rattle.um_manager.proofs.Placing.{same_err, device_alone}
use Rattle.um_wire.specs.declared.refusal.Refusal.TheVariants.{Device}
use Rattle.um_manager.specs.Frames.{KeepsStore}
use Rattle.um_manager.specs.Opening.{Ends}
use Rattle.um_manager.specs.Places.{place_in, log_in}
use Rattle.um_manager.specs.Stores.{Submits}
use Rattle.um_manager.specs.Turns.{now_in}
use Rattle.um_model.specs.Children.{ForgotOthers}
use Rattle.um_state.specs.View.{reply_of}
use Rattle.um_manager.proofs.opening.adopt.Goals as goal

pub returns-clause-adopts : goal.returns-clause-adopts
returns-clause-adopts g c =
    let D = g.D.Disk in
    let past = g.C.Children.past in
    let honest = g.C.Children.honest in
    let whole = g.C.Children.whole in
    let old = c.args.keeper.now in
    let new = c.submit.new.keeper in
    let here = place_in (D.honest (disk_in old)) old in
    let live = c.args.live.now in
    let heard = past c.claim_live.new.children in
    let grown = past c.submit.new.children in
    adopted here c.args.moment (state_in old) (state_in new) (past c.args.children.now) heard grown (past c.end_all.new.children) live c.args.marks.now c.submit.new.marks
    (D.past (disk_in old)) (D.past (disk_in new)) (log_in old) (log_in new) (inputs_in c.claim_live.new.inputs.items) (map reply_of c.submit.new.replies.items)
    (honest c.args.children.now) (honest c.claim_live.new.children) (honest c.submit.new.children) (whole c.end_all.new.children) (whole c.submit.new.children) (whole c.claim_live.new.children)
    c.requires.live (few_live (state_in new) new.holds.servable.few) c.requires.marked
    (subst (λ n. Heard lost c.args.moment (λ m. true) (honest c.args.children.now) (whole c.claim_live.new.children) (past c.args.children.now ++ ForgotOthers live n ∷ []) heard live []
    (inputs_in c.claim_live.new.inputs.items)) (c.next-next.ensures ∙ ap (λ s. s.next) c.state.ensures)
    (subst (λ xs. Heard lost c.args.moment (λ n. true) (honest c.args.children.now) (whole c.claim_live.new.children) (past c.args.children.now ++ ForgotOthers live c.next-next.result ∷ []) heard live
    (inputs_in xs) (inputs_in c.claim_live.new.inputs.items)) c.requires.no_inputs c.claim_live.ensures.hears))
    (subst (λ r. Submits here r (inputs_in c.claim_live.new.inputs.items) (map reply_of c.submit.new.replies.items) (honest c.claim_live.new.children) (whole c.submit.new.children)
    (now_in old heard c.args.marks.now [] (D.past (disk_in old))) (now_in new grown c.submit.new.marks [] (D.past (disk_in new)))) c.in_ok-submit.was c.submit.ensures.submits)
    (λ h w. subst (λ units. Ends units live grown (past c.end_all.new.children)) (c.units.ensures ∙ ap (λ s. s.units) c.state-2.ensures) (c.end_all.ensures.ends h w))
    (subst IsTrue (sym c.claim_live.ensures.children.honest)) (λ h. subst IsTrue (sym c.submit.ensures.frame.children.honest) (subst IsTrue (sym c.claim_live.ensures.children.honest) h)) c.end_all.ensures.children.whole c.submit.ensures.frame.children.whole

pub returns-in_err-submit-clause-adopts : goal.returns-in_err-submit-clause-adopts
returns-in_err-submit-clause-adopts g c =
    let D = g.D.Disk in
    let past = g.C.Children.past in
    let honest = g.C.Children.honest in
    let whole = g.C.Children.whole in
    let old = c.args.keeper.now in
    let new = c.submit.new.keeper in
    let here = place_in (D.honest (disk_in old)) old in
    let live = c.args.live.now in
    let heard = past c.claim_live.new.children in
    let grown = past c.submit.new.children in
    let same : c.from_residual.result ≡ c.submit.result = same_err c.from_residual.result c.submit.result _ c.from_residual.ensures.1 c.in_err-submit.was in
    let alone = device_alone c.submit.result (has_failed old) c.requires.working c.submit.ensures.refused c.submit.ensures.reopen in
    unadopted_calls here c.from_residual.result c.args.moment (state_in old) (state_in new) (past c.args.children.now) heard grown live c.args.marks.now c.submit.new.marks
    (D.past (disk_in old)) (D.past (disk_in new)) (log_in old) (log_in new) (inputs_in c.claim_live.new.inputs.items) (map reply_of c.submit.new.replies.items)
    (honest c.args.children.now) (honest c.claim_live.new.children) (whole c.submit.new.children) (whole c.submit.new.children) (whole c.claim_live.new.children)
    c.requires.live
    (subst (λ n. Heard lost c.args.moment (λ m. true) (honest c.args.children.now) (whole c.claim_live.new.children) (past c.args.children.now ++ ForgotOthers live n ∷ []) heard live []
    (inputs_in c.claim_live.new.inputs.items)) (c.next-next.ensures ∙ ap (λ s. s.next) c.state.ensures)
    (subst (λ xs. Heard lost c.args.moment (λ n. true) (honest c.args.children.now) (whole c.claim_live.new.children) (past c.args.children.now ++ ForgotOthers live c.next-next.result ∷ []) heard live
    (inputs_in xs) (inputs_in c.claim_live.new.inputs.items)) c.requires.no_inputs c.claim_live.ensures.hears))
    (subst (λ r. Submits here r (inputs_in c.claim_live.new.inputs.items) (map reply_of c.submit.new.replies.items) (honest c.claim_live.new.children) (whole c.submit.new.children)
    (now_in old heard c.args.marks.now [] (D.past (disk_in old))) (now_in new grown c.submit.new.marks [] (D.past (disk_in new)))) (sym same) c.submit.ensures.submits)
    (same ∙ c.in_err-submit.was ∙ ap Err (subst (λ r. IfErr r (λ e. e ≡ Device)) c.in_err-submit.was alone))
    (subst IsTrue (sym c.claim_live.ensures.children.honest)) (λ x. x) c.submit.ensures.frame.children.whole

pub returns-in_err-submit-clause-frame : goal.returns-in_err-submit-clause-frame
returns-in_err-submit-clause-frame g c =
    let same : c.from_residual.result ≡ c.submit.result = same_err c.from_residual.result c.submit.result _ c.from_residual.ensures.1 c.in_err-submit.was in
    let claimed = c.claim_live.ensures.children in
    let frame = c.submit.ensures.frame in
    record {
      store = subst (λ r. KeepsStore {T = Unit} g.D.Disk r c.args.keeper.now c.submit.new.keeper) (sym same) frame.store;
      children = record { honest = frame.children.honest ∙ claimed.honest; whole = λ is. claimed.whole (frame.children.whole is) };
    }
