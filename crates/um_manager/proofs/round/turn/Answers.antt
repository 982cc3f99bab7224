use Rattle.std.proofs.Common.{◌≡◌, ◌∙◌, ◌++◌, ◌∷◌, [], length, map, drop, ap, sym, subst, rules}
use Rattle.std.specs.Bool.{IsTrue}
use Rattle.std.proofs.lemmas.List.{length-map, drop-map}
use Rattle.um_keeper.specs.Keepers.{disk_in, state_in, has_failed}
use Rattle.um_state.specs.View.{input_of, reply_of}
use Rattle.um_manager.specs.Connections.{Took}
use Rattle.um_fates.specs.Fates.{Heard, inputs_in, unexecuted}
use Rattle.um_fates.specs.Live.{has, AreLive}
use Rattle.std.specs.Prelude.{IfErr}
use Rattle.um_manager.specs.Orders.{LetGo}
use Rattle.um_manager.specs.Places.{place_in}
use Rattle.um_manager.specs.Replies.{PaysAll}
use Rattle.um_manager.specs.Turns.{now_in}
use Rattle.um_manager.proofs.FewLive.{few_live}
use Rattle.um_manager.proofs.Stepping.{answered_works, answered_same, still_trusted, still_same, counted, either_refuses, not_want, reopens, store_kept}
use Rattle.um_manager.proofs.Turning.{turned}
use Rattle.um_manager.proofs.round.turn.Goals as goal

pub write_on-requires : goal.write_on-requires
write_on-requires g c =
    record { working = answered_works (has_failed c.submit-submitted.new.keeper) c.submit-submitted.result c.submit-submitted.ensures.frame.store.failed c.submit-submitted.ensures.reopen }

pub returns-clause-turns : goal.returns-clause-turns
returns-clause-turns g c =
    let live = subst (λ units. AreLive units c.in-Ok.live.items) (c.units.ensures ∙ ap (λ s. s.units) c.state.ensures) c.in-Ok.ensures in
    let tick = c.put.ensures.items ∙ ap (λ i. inputs_in c.hear.new.inputs.items ++ i ∷ []) c.tick.ensures in
    let count : c.len-firsts.result ≡ length c.put.new.inputs.items = search rules in
    let took = subst (λ l. Took c.args.moment c.room_all.new.sessions c.args.pieces.now c.take_all.new.sessions (inputs_in c.put.new.inputs.items) (inputs_in c.take_all.new.inputs.items) l c.take_all.new.owed.items) c.in-Ok-of.ensures.owed.0 c.take_all.ensures.took in
    let D = g.D.Disk in
    let store = c.submit-submitted.result in
    let old = c.args.keeper.now in
    let mid = c.submit-submitted.new.keeper in
    let new = c.write_on.new.keeper in
    let here = place_in (D.honest (disk_in old)) old in
    let there = place_in (D.honest (disk_in mid)) mid in
    let frame = c.submit-submitted.ensures.frame.store in
    let grown = g.C.Children.past c.submit-submitted.new.children in
    let after = g.C.Children.past c.forget_recorded.new.children in
    let rest = ap (map reply_of) (c.behind-replies.ensures ∙ ap (drop c.len-firsts.result) c.as_slice-3.ensures.value) ∙ sym (drop-map reply_of c.len-firsts.result c.submit-submitted.new.replies.items) in
    let pays = subst (λ l. PaysAll (state_in mid) l (map reply_of c.behind-replies.result.now) c.take_all.new.sessions c.pay_all.new.sessions) c.as_slice-4.ensures.value c.pay_all.ensures in
    let wants = not_want store c.write_on.result c.submit-submitted.ensures.submits.0 c.write_on.ensures.refused c.write_on.ensures.stays in (
      (λ e. absurd (wants e)),
      (λ ne.
          turned here there store c.write_on.result c.args.moment c.args.pieces.now
          (now_in old (g.C.Children.past c.args.children.now) c.args.marks.now c.args.sessions.now (D.past (disk_in old)))
          (now_in mid [] [] [] (D.past (disk_in mid)))
          (now_in new after c.submit-submitted.new.marks c.pay_all.new.sessions (D.past (disk_in new)))
          c.in-Ok.live.items (g.C.Children.past c.hear.new.children) grown c.room_all.new.sessions c.take_all.new.sessions
          (inputs_in c.hear.new.inputs.items) (inputs_in c.put.new.inputs.items) (inputs_in c.take_all.new.inputs.items) c.len-firsts.result c.take_all.new.owed.items
          (map reply_of c.submit-submitted.new.replies.items) (map reply_of c.behind-replies.result.now)
          (g.C.Children.honest c.args.children.now) (g.C.Children.honest c.hear.new.children) (g.C.Children.whole c.submit-submitted.new.children) (g.C.Children.whole c.hear.new.children)
          (g.C.Children.whole c.forget_recorded.new.children)
          live (few_live (state_in mid) mid.holds.servable.few) c.room_all.ensures.same
          (subst (λ xs. Heard unexecuted c.args.moment (λ n. has n c.args.marks.now) (g.C.Children.honest c.args.children.now) (g.C.Children.whole c.hear.new.children) (g.C.Children.past c.args.children.now) (g.C.Children.past c.hear.new.children) c.in-Ok.live.items xs (inputs_in c.hear.new.inputs.items)) (ap inputs_in c.in-Ok-of.ensures.inputs.0)
          (subst (λ l. Heard unexecuted c.args.moment (λ n. has n c.args.marks.now) (g.C.Children.honest c.args.children.now) (g.C.Children.whole c.hear.new.children) (g.C.Children.past c.args.children.now) (g.C.Children.past c.hear.new.children) l (inputs_in c.in-Ok-of.room.inputs.items) (inputs_in c.hear.new.inputs.items)) c.as_slice-2.ensures.value c.hear.ensures.hears))
          tick (count ∙ sym (length-map c.put.new.inputs.items input_of)) took c.submit-submitted.ensures.submits
          c.write_on.ensures.writes frame.place.layout
          (λ t ok. still_trusted (D.honest (disk_in old)) (D.honest (disk_in mid)) (has_failed old) (has_failed mid) frame.disk (answered_same store ok frame.failed) t)
          old.holds.size_is
          (λ h w. subst (λ units. LetGo units grown after) (c.units-2.ensures ∙ ap (λ s. s.units) c.state-2.ensures)
          (c.forget_recorded.ensures.let_go (subst IsTrue (sym c.submit-submitted.ensures.frame.children.honest) h) w))
          (λ e is. subst (λ r. IfErr r (λ x. after ≡ grown)) is c.forget_recorded.ensures.kept) rest pays c.hear.ensures.children.honest c.submit-submitted.ensures.frame.children.whole c.forget_recorded.ensures.children.whole),
    )

pub returns-clause-refused : goal.returns-clause-refused
returns-clause-refused g c =
    either_refuses c.submit-submitted.result c.write_on.result c.submit-submitted.ensures.refused c.write_on.ensures.refused c.write_on.ensures.stays

pub returns-clause-device : goal.returns-clause-device
returns-clause-device g c =
    let failures = g.D.Disk.failures in
    let mid = c.submit-submitted.new.keeper in
    let new = c.write_on.new.keeper in
    counted c.submit-submitted.result c.write_on.result (failures (disk_in c.args.keeper.now)) (failures (disk_in mid)) (failures (disk_in new))
    c.submit-submitted.ensures.device c.write_on.ensures.device c.write_on.ensures.stays
    (still_same c.submit-submitted.result (λ k. failures (disk_in k)) mid new c.write_on.ensures.still)

pub returns-clause-reopen : goal.returns-clause-reopen
returns-clause-reopen g c = λ other.
    reopens c.submit-submitted.result c.write_on.result (has_failed c.args.keeper.now) c.submit-submitted.ensures.reopen c.write_on.ensures.refused c.write_on.ensures.stays

pub returns-clause-frame : goal.returns-clause-frame
returns-clause-frame g c =
    record {
      store = store_kept g.D.Disk c.submit-submitted.result c.write_on.result c.args.keeper.now c.submit-submitted.new.keeper c.write_on.new.keeper
          c.submit-submitted.ensures.frame.store c.write_on.ensures.store c.write_on.ensures.stays c.write_on.ensures.still;
      children = search rules;
    }
