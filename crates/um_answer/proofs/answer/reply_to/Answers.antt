use Rattle.std.proofs.Common.{inl, inr, ap, subst, sym}
use Rattle.std.proofs.lemmas.Result.{IfOk-weaker}
use Rattle.um_state.specs.View.{query_of, state_of, reply_of}
use Rattle.um_model.specs.Machine.{IsReplyTo}
use Rattle.um_answer.proofs.Answered.{shows_so, tells_activity_so, tells_failure_so, tells_files_so, tells_enabling_so, lists_jobs_so}
use Rattle.um_answer.proofs.answer.reply_to.Goals as goal

pub returns-in-Show : goal.returns-in-Show
returns-in-Show c loads =
    rw c.in-Show.is (IfOk-weaker c.show.result _ _ (λ r is. shows_so (state_of c.args.state.now) c.in-Show.unit (reply_of r) is) (c.show.ensures loads))

pub returns-in-IsActive : goal.returns-in-IsActive
returns-in-IsActive c loads =
    let s = state_of c.args.state.now in
    IfOk-weaker c.activity.result _ (λ r. IsReplyTo s (query_of c.args.query.now) (reply_of r))
    (λ r told. elim c.in-IsActive.is as (λ _. IsReplyTo s (query_of c.args.query.now) (reply_of r)) [
      | inl is ↦ subst (λ q. IsReplyTo s q (reply_of r)) (sym (ap query_of is)) (tells_activity_so s c.in-IsActive.unit (reply_of r) told)
      | inr is ↦ subst (λ q. IsReplyTo s q (reply_of r)) (sym (ap query_of is)) (tells_failure_so s c.in-IsActive.unit (reply_of r) told)
    ]) (c.activity.ensures loads)

pub returns-in-Cat : goal.returns-in-Cat
returns-in-Cat c loads =
    let files = rw c.tree.ensures at c.cat.ensures in
    rw c.in-Cat.is (IfOk-weaker c.cat.result _ _ (λ r is. tells_files_so (state_of c.args.state.now) c.in-Cat.unit (reply_of r) is) files)

pub returns-in-IsEnabled : goal.returns-in-IsEnabled
returns-in-IsEnabled c loads =
    let enabled = rw c.in_hand.ensures at c.enabled_as.ensures in
    rw c.in-IsEnabled.is (IfOk-weaker c.enabled_as.result _ _ (λ r is. tells_enabling_so (state_of c.args.state.now) c.in-IsEnabled.unit (reply_of r) is) enabled)

pub returns-in-ListUnits : goal.returns-in-ListUnits
returns-in-ListUnits c loads = rw c.in-ListUnits.is c.list_units.ensures

pub returns-in-ListJobs : goal.returns-in-ListJobs
returns-in-ListJobs c loads =
    rw c.in-ListJobs.is (IfOk-weaker c.list_jobs.result _ _ (λ r is. lists_jobs_so (state_of c.args.state.now) (reply_of r) is) c.list_jobs.ensures)
