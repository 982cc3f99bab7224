use Rattle.std.proofs.Common.{◌≡◌, ◌∙◌, ◌++◌, ℕ, length, map, replicate, ap, sym, subst, rules}
use Rattle.std.proofs.lemmas.List.{length-map}
use Rattle.um_model.specs.Machine.{Refusal}
use Rattle.um_keeper.specs.Answering.{all_asked}
use Rattle.um_keeper.specs.Keepers.{disk_in, state_in, has_failed}
use Rattle.um_state.specs.View.{input_of, reply_of}
use Rattle.um_wire.specs.Refusal.{refused_of}
use Rattle.um_fates.specs.Fates.{inputs_in}
use Rattle.um_manager.specs.Orders.{Carries}
use Rattle.um_manager.specs.Places.{place_in, log_in}
use Rattle.um_manager.specs.Replies.{reply_in}
use Rattle.um_manager.specs.Stores.{refusal_of}
use Rattle.um_manager.specs.Turns.{Holds}
use Rattle.um_manager.proofs.Offering.{ok_not_err, length-told, trusts, untrusted, answers_of, failed_answered, failed_denied, submitted_all, refused_reopen, denied_all}
use Rattle.um_manager.proofs.Offering.{answered_refused, answered_counts, answered_reopen, denied_refused, denied_counts, denied_reopen}
use Rattle.um_manager.proofs.submitting.submit.Goals as goal

pub carry_all-requires : goal.carry_all-requires
carry_all-requires g c =
    let old = c.args.keeper.now in
    let new = c.submit_all.new.self in
    let place = place_in (g.D.Disk.honest (disk_in old)) old in
    let n : length c.in-Ok.answers.items ≡ length c.args.inputs.items =
    length-told place (state_in old) (state_in new) (inputs_in c.args.inputs.items) c.in-Ok.answers.items
    (answers_of place (state_in old) (state_in new) (inputs_in c.args.inputs.items) c.in-Ok.answers.items (has_failed new) c.in-Ok.ensures.ok c.in-Ok.ensures.fell)
    ∙ length-map c.args.inputs.items input_of in
    record { room = search (rules, n) }

pub returns-in-Ok-clause-len : goal.returns-in-Ok-clause-len
returns-in-Ok-clause-len g c =
    let old = c.args.keeper.now in
    let new = c.submit_all.new.self in
    let place = place_in (g.D.Disk.honest (disk_in old)) old in
    let n : length c.in-Ok.answers.items ≡ length c.args.inputs.items =
    length-told place (state_in old) (state_in new) (inputs_in c.args.inputs.items) c.in-Ok.answers.items
    (answers_of place (state_in old) (state_in new) (inputs_in c.args.inputs.items) c.in-Ok.answers.items (has_failed new) c.in-Ok.ensures.ok c.in-Ok.ensures.fell)
    ∙ length-map c.args.inputs.items input_of in
    let m : length c.carry_all.new.replies.items ≡ length c.args.inputs.items =
    sym (length-map c.carry_all.new.replies.items reply_of) ∙ ap length (c.carry_all.ensures.replies ∙ ap (λ l. map reply_of l ++ map reply_in c.in-Ok.answers.items) c.requires.empty)
    ∙ length-map c.in-Ok.answers.items reply_in ∙ n in
    search (rules, m)

pub returns-in-Ok-clause-submits : goal.returns-in-Ok-clause-submits
returns-in-Ok-clause-submits g c =
    let D = g.D.Disk in
    let old = c.args.keeper.now in
    let new = c.submit_all.new.self in
    let honest = D.honest (disk_in old) in
    submitted_all (place_in honest old) (state_in old) (state_in new) (inputs_in c.args.inputs.items) c.in-Ok.answers.items (has_failed new) c.faults.result (g.C.Children.past c.args.children.now)
    (g.C.Children.past c.carry_all.new.children) c.args.marks.now c.carry_all.new.marks (D.past (disk_in old)) (D.past (disk_in new)) (log_in old) (log_in new) (map reply_of c.carry_all.new.replies.items)
    (g.C.Children.honest c.args.children.now) (g.C.Children.whole c.carry_all.new.children)
    c.faults.ensures
    c.in-Ok.ensures.ok c.in-Ok.ensures.fell c.in-Ok.ensures.told c.in-Ok.ensures.order (λ from free. c.in-Ok.ensures.spent from (record { start = free.start; behind = free.behind })) c.in-Ok.ensures.few_calls c.in-Ok.ensures.begins (c.carry_all.ensures.replies ∙ ap (λ l. map reply_of l ++ map reply_in c.in-Ok.answers.items) c.requires.empty)
    (subst (λ units. Carries (g.C.Children.honest c.args.children.now) (g.C.Children.whole c.carry_all.new.children) units (g.C.Children.past c.args.children.now)
    (g.C.Children.past c.carry_all.new.children) c.args.marks.now c.carry_all.new.marks (all_asked c.in-Ok.answers.items))
    (c.units.ensures ∙ ap (λ s. s.units) c.state.ensures) c.carry_all.ensures.carries)
    (λ t. c.in-Ok.ensures.during (trusts honest (has_failed old) t).0)
    (λ t f. c.submit_all.ensures.stored f (trusts honest (has_failed old) t).0)

pub returns-in-Ok-clause-frame : goal.returns-in-Ok-clause-frame
returns-in-Ok-clause-frame g c =
    record {
      store = record {
        place = search rules;
        disk = search rules;
        failed = failed_answered _ c.faults.result c.faults.ensures (λ was. ok_not_err (sym c.in-Ok.is ∙ c.submit_all.ensures.reopen.1 was));
      };
      children = search rules;
    }

pub returns-in-Err-clause-submits : goal.returns-in-Err-clause-submits
returns-in-Err-clause-submits g c =
    let D = g.D.Disk in
    let old = c.args.keeper.now in
    let new = c.submit_all.new.self in
    let honest = D.honest (disk_in old) in
    let place = place_in honest old in
    let f = c.fault_of-fault.result in
    let count : c.len-count.result ≡ length c.args.inputs.items = search rules in
    let same = ap D.past c.in-Err.ensures.unwritten in
    denied_all place f c.answer.result (state_in old) (state_in new) (inputs_in c.args.inputs.items) (g.C.Children.past c.args.children.now) c.args.marks.now
    (D.past (disk_in old)) (D.past (disk_in new)) (log_in old) (log_in new) _ (g.C.Children.honest c.args.children.now) (g.C.Children.whole c.args.children.now) c.answer.ensures c.in-Err.ensures.state
    (c.deny.ensures.items ∙ ap (λ l. map reply_of l ++ replicate c.len-count.result (Refusal (refused_of (refusal_of f)))) c.requires.empty
    ∙ ap (λ n. replicate n (Refusal (refused_of (refusal_of f)))) (count ∙ sym (length-map c.args.inputs.items input_of)))
    (λ so. untrusted honest (refused_reopen c.submit_all.result c.in-Err.refusal f c.in-Err.is c.fault_of-fault.ensures c.submit_all.ensures.reopen so))
    same
    (c.in-Err.ensures.still.0, ap D.calls c.in-Err.ensures.unwritten)
    (λ t.
    let (h, w) = trusts honest (has_failed old) t in
    subst (λ x. Holds place (state_in old) x) same (subst (λ y. Holds place y (D.past (disk_in new))) c.in-Err.ensures.state (c.submit_all.ensures.stored (c.in-Err.ensures.failed ∙ w) h)))

pub returns-in-Err-clause-frame : goal.returns-in-Err-clause-frame
returns-in-Err-clause-frame g c =
    record {
      store = record {
        place = search rules;
        disk = search rules;
        failed = failed_denied c.fault_of-fault.result c.answer.result c.answer.ensures c.in-Err.ensures.failed;
      };
      children = search rules;
    }

pub returns-in-Ok-clause-refused : goal.returns-in-Ok-clause-refused
returns-in-Ok-clause-refused g c = answered_refused _ c.faults.result c.faults.ensures

pub returns-in-Ok-clause-device : goal.returns-in-Ok-clause-device
returns-in-Ok-clause-device g c =
    let D = g.D.Disk in
    answered_counts _ c.faults.result c.in-Ok.answers.items (D.failures (disk_in c.args.keeper.now)) (D.failures (disk_in c.submit_all.new.self)) c.faults.ensures c.in-Ok.ensures.told c.in-Ok.ensures.device

pub returns-in-Ok-clause-reopen : goal.returns-in-Ok-clause-reopen
returns-in-Ok-clause-reopen g c = answered_reopen _ c.faults.result c.faults.ensures (λ was. ok_not_err (sym c.in-Ok.is ∙ c.submit_all.ensures.reopen.1 was))

pub returns-in-Err-clause-refused : goal.returns-in-Err-clause-refused
returns-in-Err-clause-refused g c = denied_refused c.fault_of-fault.result c.answer.result c.answer.ensures

pub returns-in-Err-clause-device : goal.returns-in-Err-clause-device
returns-in-Err-clause-device g c = denied_counts c.fault_of-fault.result c.answer.result _ _ c.answer.ensures (ap g.D.Disk.failures c.in-Err.ensures.unwritten)

pub returns-in-Err-clause-reopen : goal.returns-in-Err-clause-reopen
returns-in-Err-clause-reopen g c = denied_reopen c.submit_all.result c.in-Err.refusal c.fault_of-fault.result c.answer.result c.in-Err.is c.fault_of-fault.ensures c.answer.ensures c.submit_all.ensures.reopen
