use Rattle.std.proofs.Common.{◌≡◌, ◌∙◌, ◌+◌, ◌-◌, ◌≤◌, ◌<◌, ◌++◌, ℕ, zero, suc, Bool, true, false, List, [], ◌∷◌, length, map, replicate, inl, inr, refl, sym, ap, subst, arith, append-nil}
use Rattle.std.specs.Prelude.{Err}
use Rattle.std.proofs.lemmas.Bool.{cases_Bool, true≢false}
use Rattle.std.proofs.lemmas.List.{length-map}
use Rattle.um_engine.specs.Engine.{state_in}
use Rattle.um_model.specs.Disk.{During}
use Rattle.um_model.specs.Machine.{State, Input}
use Rattle.um_state.specs.View.{input_of}
use Rattle.um_keeper.specs.Answering.{Answer, at_sync, denied, NeedNoRecord, HaveNoRecord}
use Rattle.um_keeper.specs.Keeping.{IsBegun}
use Rattle.um_keeper.specs.Underway.{owed}
use Rattle.um_keeper.specs.declared.ahead.Ahead.{Ahead}
use Rattle.um_keeper.proofs.Batching.{same_length, taken_over, need_no_record, no_record_front, unrecorded_meant}
use Rattle.um_keeper.proofs.Results.{err_from}
use Rattle.um_keeper.proofs.Taking.{takes_all, begins_all, spent_all, spent_meant}
use Rattle.um_keeper.proofs.Underway.{then_settled, kept_clean}
use Rattle.um_keeper.proofs.Judged.{owed_most}
use Rattle.um_keeper.proofs.Kept.{on_disk_at}
use Rattle.um_wire.specs.declared.refusal.Refusal.TheVariants.{Device}
use Rattle.um_keeper.proofs.batch.record_all.Goals as goal

-- an input without a record leaves nothing to sync
still_clean : (s : State) (inputs : List Input) (answers : List Answer) (rest : ℕ) → length answers ≡ length inputs → NeedNoRecord s inputs (map denied answers ++ replicate rest (Err Device)) → HaveNoRecord s inputs answers
still_clean s inputs answers rest same none =
    no_record_front s inputs answers (replicate rest (Err Device)) (need_no_record s inputs (answers ++ replicate rest (Err Device)) (unrecorded_meant s inputs answers (replicate rest (Err Device)) none)) same

-- at least one more is answered E16
one_fault : (s : State) (inputs : List Input) (answers : List Answer) (rest : ℕ) → length answers < length inputs → length inputs ≤ length answers + rest
    → NeedNoRecord s inputs (map denied answers ++ replicate rest (Err Device)) → (more : List Answer) × NeedNoRecord s inputs (answers ++ Err Device ∷ more)
one_fault s inputs answers zero fewer most none = absurd (omega (arith, fewer, most))
one_fault s inputs answers (suc rest) fewer most none = (replicate rest (Err Device), unrecorded_meant s inputs answers (replicate (suc rest) (Err Device)) none)

-- the disk has one sync more
one_more : (b : Bool) (now mid old : ℕ) → b ≡ true → now ≡ mid + owed b → mid ≡ old → now ≡ old + 1
one_more true now mid old is synced same = omega (arith, synced, same)
one_more false now mid old is synced same = absurd cc

-- ---- after the sync

pub returns-clause-ok : goal.returns-clause-ok
returns-clause-ok g c = c.in_ok-take_all.ensures.ok

pub returns-clause-during : goal.returns-clause-during
returns-clause-during g c h k = then_settled c.take_all.ensures.layout (c.in_ok-take_all.ensures.during h k)
    (c.settle.ensures.during (c.take_all.ensures.honest ∙ h) _ _ _ (c.in_ok-take_all.ensures.under h k))

pub returns-clause-kept : goal.returns-clause-kept
returns-clause-kept g c h k =
    let h1 = c.take_all.ensures.honest ∙ h in
    kept_clean (c.in_ok-settle.ensures.ok h1 _ _ _ (c.in_ok-take_all.ensures.under h k)) refl (g.met.D.Disk.seen_is_image c.settle.new.disk (c.settle.ensures.honest ∙ h1))
    (on_disk_at c.take_all.ensures.layout k)

pub returns-clause-unrecorded : goal.returns-clause-unrecorded
returns-clause-unrecorded g c none =
    let same = c.in_ok-take_all.ensures.unrecorded none in
    c.settle.ensures.untouched (ap (λ (a : Ahead). a.unsynced) same.1 ∙ c.requires.synced) ∙ same.0

pub returns-clause-one_sync : goal.returns-clause-one_sync
returns-clause-one_sync g c h =
    let made = c.in_ok-take_all.ensures.takes in (
      made.takes.sectors,
      made.takes.recorded,
      λ room some.
          let is : c.take_all.new.ahead.unsynced ≡ true = elim (cases_Bool c.take_all.new.ahead.unsynced) [ inl is_so ↦ is_so | inr not_so ↦ absurd (some (c.in_ok-take_all.ensures.clean not_so)) ] in
          one_more c.take_all.new.ahead.unsynced _ _ _ is (c.in_ok-settle.ensures.syncs (c.take_all.ensures.honest ∙ h)) (made.unsynced h room),
    )

pub returns-clause-few_calls : goal.returns-clause-few_calls
returns-clause-few_calls g c =
    let owes = owed_most c.take_all.new.ahead.unsynced in
    takes_all c.in_ok-take_all.ensures.takes.takes (g.D.Disk.calls c.settle.new.disk) (omega (arith, c.settle.ensures.calls, owes))

pub returns-clause-begins : goal.returns-clause-begins
returns-clause-begins g c idle rose =
    let owes = owed_most c.take_all.new.ahead.unsynced in
    begins_all c.in_ok-take_all.ensures.takes.takes (g.D.Disk.calls c.settle.new.disk) (omega (arith, c.settle.ensures.calls, owes)) idle rose

same_low : (n : ℕ) → n ≤ n
same_low n = omega arith

pub returns-clause-spent : goal.returns-clause-spent
returns-clause-spent g c from free = spent_all c.in_ok-take_all.ensures.takes.takes c.take_all.new.ahead.log.generation from (same_low c.take_all.new.ahead.log.generation) free

pub returns-clause-idle : goal.returns-clause-idle
returns-clause-idle g c none =
    let same = c.take_all.ensures.idle none in
    c.settle.ensures.untouched (ap (λ (a : Ahead). a.unsynced) same.1 ∙ c.requires.synced) ∙ same.0

-- ---- where it failed

pub returns-in_err-settle-clause-stopped : goal.returns-in_err-settle-clause-stopped
returns-in_err-settle-clause-stopped g c = err_from c.from_residual-in_err-settle.result (record {
  judged = map input_of c.args.inputs.now;
  rest = [];
  parts = sym (append-nil (map input_of c.args.inputs.now));
  u = state_in c.take_all.new.engine;
  were = c.in_ok-take_all.ensures.ok;
  fails = at_sync (λ none. true≢false (sym c.in_err-settle.ensures.needed ∙ ap (λ (a : Ahead). a.unsynced) (c.in_ok-take_all.ensures.unrecorded none).1 ∙ c.requires.synced));
  sectors = c.in_ok-take_all.ensures.takes.takes.sectors;
  recorded = c.in_ok-take_all.ensures.takes.takes.recorded;
  few = λ room.
      let calls = (c.in_ok-take_all.ensures.takes.takes.fits (omega (arith, room))).2 in
      let owes = owed_most c.take_all.new.ahead.unsynced in
      omega (arith, c.settle.ensures.calls, owes, calls);
})

pub returns-in_err-settle-clause-lost : goal.returns-in_err-settle-clause-lost
returns-in_err-settle-clause-lost g c =
    let D = g.D.Disk in
    let all = map input_of c.args.inputs.now in
    err_from c.from_residual-in_err-settle.result (λ h k.
    subst (λ l. During (D.past c.args.disk.now) (D.past c.settle.new.disk) (IsBegun c.args.ahead.now.log.layout (state_in c.args.engine.now) l))
    (sym (taken_over all c.take_all.new.answers.items (same_length c.in_ok-take_all.ensures.ok)))
    (then_settled c.take_all.ensures.layout (c.in_ok-take_all.ensures.during h k) (c.settle.ensures.during (c.take_all.ensures.honest ∙ h) _ _ _ (c.in_ok-take_all.ensures.under h k))))

pub returns-in_err-settle-clause-idle : goal.returns-in_err-settle-clause-idle
returns-in_err-settle-clause-idle g c none =
    let same = c.take_all.ensures.idle none in
    c.settle.ensures.untouched (ap (λ (a : Ahead). a.unsynced) same.1 ∙ c.requires.synced) ∙ same.0

pub returns-in_err-settle-clause-unwritten : goal.returns-in_err-settle-clause-unwritten
returns-in_err-settle-clause-unwritten g c = err_from c.from_residual-in_err-settle.result (λ rest most none.
    let same = c.in_ok-take_all.ensures.unrecorded (still_clean (state_in c.args.engine.now) (map input_of c.args.inputs.now) c.take_all.new.answers.items rest (same_length c.in_ok-take_all.ensures.ok) none) in
    c.settle.ensures.untouched (ap (λ (a : Ahead). a.unsynced) same.1 ∙ c.requires.synced) ∙ same.0)

pub returns-in_err-settle-clause-spent_meant : goal.returns-in_err-settle-clause-spent_meant
returns-in_err-settle-clause-spent_meant g c =
    let inputs = c.args.inputs.now in
    let answers = c.take_all.new.answers.items in
    let size = same_length c.in_ok-take_all.ensures.ok in
    let counted = length-map inputs input_of in
    err_from c.from_residual-in_err-settle.result (λ from free. spent_meant [] (length inputs - length answers) (sym (append-nil (map input_of inputs))) (omega (arith, size, counted))
    (spent_all c.in_ok-take_all.ensures.takes.takes c.take_all.new.ahead.log.generation from (same_low c.take_all.new.ahead.log.generation) free))

pub returns-in_err-take_all-clause-unwritten : goal.returns-in_err-take_all-clause-unwritten
returns-in_err-take_all-clause-unwritten g c = err_from c.from_residual.result (λ rest most none.
    let counted = length-map c.args.inputs.now input_of in
    let fewer = c.in_err-take_all.ensures.left in
    let (more, here) = one_fault (state_in c.args.engine.now) (map input_of c.args.inputs.now) c.take_all.new.answers.items rest (omega (arith, counted, fewer)) (omega (arith, counted, most)) none in
    c.in_err-take_all.ensures.unwritten more here)

pub returns-in_err-take_all-clause-spent_meant : goal.returns-in_err-take_all-clause-spent_meant
returns-in_err-take_all-clause-spent_meant g c = err_from c.from_residual.result c.in_err-take_all.ensures.spent

pub returns-in_err-take_all-clause-lost : goal.returns-in_err-take_all-clause-lost
returns-in_err-take_all-clause-lost g c = err_from c.from_residual.result c.in_err-take_all.ensures.lost
