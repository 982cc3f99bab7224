use Rattle.std.proofs.Common.{◌≡◌, ◌∙◌, ◌++◌, ◌-◌, ℕ, List, true, length, map, replicate, Err, inl, inr, refl, sym, ap, subst, arith, rules}
use Rattle.std.proofs.lemmas.Bool.{true≢false}
use Rattle.std.proofs.lemmas.List.{length-map}
use Rattle.um_engine.specs.Engine as machine
use Rattle.um_engine.specs.declared.engine.Back.{Back}
use Rattle.um_model.specs.Disk.{During}
use Rattle.um_model.specs.Standing.{Standing}
use Rattle.um_model.specs.Store.{body_limit, log_end}
use Rattle.um_sector.specs.Unsynced.{sync_count}
use Rattle.um_state.specs.View.{input_of}
use Rattle.um_state.specs.declared.input.Input.{Input}
use Rattle.um_keeper.specs.Answering.{Answer, AreAnswered, FellBack, FellThere, NeedNoRecord, HaveNoRecord, Recorded, AreSpentAt, AreSpentAsMeant, as_told, TakesCalls, BeginsOne, denied, taken, state_before_all}
use Rattle.um_keeper.specs.Keepers.{disk_in, standing_in, state_in, size_in, layout_in, log_generation_in, next_in}
use Rattle.um_keeper.specs.Keeping.{IsBegun}
use Rattle.um_keeper.proofs.Batching.{numbers_asked, denied_new, no_fault, need_no_record, fell_whole, fell_back, fell_there, fell_told, fell_during, fell_unrecorded}
use Rattle.um_keeper.proofs.Judged.{idle_left}
use Rattle.um_keeper.proofs.Kept.{stores, stores_at, keeps_for}
use Rattle.um_keeper.proofs.Offered.{each_stays, fell_stays, list_goes_on}
use Rattle.um_keeper.proofs.Results.{of_first}
use Rattle.um_keeper.proofs.Spent.{free_at}
use Rattle.um_wire.specs.declared.refusal.Refusal.TheVariants.{Device}
use Rattle.um_keeper.proofs.keeper.Keeper.submit_all.Goals as goal

pub returns-in_err-backs-clause-stored : goal.returns-in_err-backs-clause-stored
returns-in_err-backs-clause-stored g c f h = stores (g.met.D.Disk.seen_is_image c.args.self.now.disk h) (c.args.self.now.kept f h)

pub returns-in_err-answers-clause-stored : goal.returns-in_err-answers-clause-stored
returns-in_err-answers-clause-stored g c f h = stores (g.met.D.Disk.seen_is_image c.args.self.now.disk h) (c.args.self.now.kept f h)

pub returns-in-Ok-clause-told : goal.returns-in-Ok-clause-told
returns-in-Ok-clause-told g c = ((λ f. absurd (true≢false (sym f ∙ c.if-self.false))), (λ has. absurd (no_fault c.in-Ok.ensures.ok has)))

pub returns-in-Ok-clause-order : goal.returns-in-Ok-clause-order
returns-in-Ok-clause-order g c = numbers_asked c.in-Ok.ensures.ok

pub invariant_of-self-clause-kept : goal.invariant_of-self-clause-kept
invariant_of-self-clause-kept g c f h =
    let early = sym c.record_all.ensures.honest ∙ h in
    keeps_for (c.in-Ok.ensures.kept early (c.args.self.now.kept f early)) c.record_all.ensures.size refl

pub returns-in-Ok-clause-stored : goal.returns-in-Ok-clause-stored
returns-in-Ok-clause-stored g c f h = stores_at (g.met.D.Disk.seen_is_image c.record_all.new.disk (c.record_all.ensures.honest ∙ h)) (c.in-Ok.ensures.kept h (c.args.self.now.kept c.if-self.false h)) c.record_all.ensures.layout

pub returns-in-Ok-clause-life : goal.returns-in-Ok-clause-life
returns-in-Ok-clause-life g c s before h come =
    let D = g.D.Disk in
    let first = c.args.self.now in
    let layout = layout_in first in
    let t = state_in first in
    let u = machine.state_in c.record_all.new.engine in
    let old = D.past (disk_in first) in
    let new = D.past c.record_all.new.disk in
    let answers = c.record_all.new.answers.items in
    let told = subst (λ n. AreAnswered n t (map input_of c.deref.result.now) answers u) first.holds.size_is c.in-Ok.ensures.ok in
    let during = c.in-Ok.ensures.during h (first.kept c.if-self.false h) in
    list_goes_on layout s t u before (map input_of c.args.inputs.items) answers old new _ come (each_stays told)
    (subst (λ i. During old new (IsBegun layout t (taken (map input_of i) answers))) c.deref.ensures.value during)
    (λ works. subst (λ i. AreAnswered (body_limit layout) t (map input_of i) answers u) c.deref.ensures.value told)
    (λ works. returns-in-Ok-clause-stored g c works h)

pub returns-in-Ok-clause-device : goal.returns-in-Ok-clause-device
returns-in-Ok-clause-device g c = inr (no_fault c.in-Ok.ensures.ok, c.in-Ok.ensures.device)

pub returns-in-Ok-clause-spent : goal.returns-in-Ok-clause-spent
returns-in-Ok-clause-spent g c from free =
    let first = c.args.self.now in
    as_told (subst (λ i. AreSpentAt (layout_in first) c.record_all.new.ahead.log.generation (size_in first) from (state_in first) (map input_of i) c.record_all.new.answers.items) c.deref.ensures.value
    (c.in-Ok.ensures.spent from (free_at free)))

pub returns-in-Ok-clause-unrecorded : goal.returns-in-Ok-clause-unrecorded
returns-in-Ok-clause-unrecorded g c none =
    let s = state_in c.args.self.now in
    let answers = c.record_all.new.answers.items in
    c.in-Ok.ensures.unrecorded (need_no_record s (map input_of c.deref.result.now) answers (subst (λ i. NeedNoRecord s (map input_of i) answers) (sym c.deref.ensures.value) none))

pub returns-in-Ok-clause-no_call : goal.returns-in-Ok-clause-no_call
returns-in-Ok-clause-no_call g c works none =
    let s = state_in c.args.self.now in
    let answers = c.record_all.new.answers.items in
    c.in-Ok.ensures.unrecorded (subst (λ i. HaveNoRecord s (map input_of i) answers) (sym c.deref.ensures.value) none)

pub returns-in-Ok-clause-one_sync : goal.returns-in-Ok-clause-one_sync
returns-in-Ok-clause-one_sync g c works h =
    let first = c.args.self.now in
    let s = state_in first in
    let answers = c.record_all.new.answers.items in
    let (sectors, recorded, synced) = c.in-Ok.ensures.one_sync h in (
      sectors,
      subst (λ i. Recorded (size_in first) s (map input_of i) answers sectors (machine.state_in c.record_all.new.engine)) c.deref.ensures.value recorded,
      λ room. (
        (λ none. ap (λ d. sync_count (g.D.Disk.past d)) (c.in-Ok.ensures.unrecorded (subst (λ i. HaveNoRecord s (map input_of i) answers) (sym c.deref.ensures.value) none))),
        (λ some. synced room (λ none. some (subst (λ i. HaveNoRecord s (map input_of i) answers) c.deref.ensures.value none))),
      ),
    )

pub returns-in-Ok-clause-few_calls : goal.returns-in-Ok-clause-few_calls
returns-in-Ok-clause-few_calls g c works =
    let first = c.args.self.now in
    let calls = g.D.Disk.calls in
    subst (λ i. TakesCalls (layout_in first) (next_in first) (log_generation_in first) c.record_all.new.ahead.log.generation (calls (disk_in first)) (calls c.record_all.new.disk)
    (size_in first) (state_in first) (map input_of i) c.record_all.new.answers.items (machine.state_in c.record_all.new.engine)) c.deref.ensures.value c.in-Ok.ensures.few_calls

pub returns-in-Ok-clause-begins : goal.returns-in-Ok-clause-begins
returns-in-Ok-clause-begins g c works none rose =
    let first = c.args.self.now in
    let calls = g.D.Disk.calls in
    subst (λ i. BeginsOne (calls (disk_in first)) (calls c.record_all.new.disk) (size_in first) (state_in first) (map input_of i) c.record_all.new.answers.items
    (machine.state_in c.record_all.new.engine)) c.deref.ensures.value (c.in-Ok.ensures.begins (idle_left first.ahead none) rose)

-- ---- where the disk failed

-- the number of inputs
counted : (n : ℕ) (now items : List Input) → n ≡ length items → now ≡ items → n ≡ length (map input_of now)
counted n now items is same = is ∙ sym (ap (λ (l : List Input). length l) same) ∙ sym (length-map now input_of)

pub returns-clause-fell : goal.returns-clause-fell
returns-clause-fell g c failed =
    let first = c.args.self.now in
    let n : c.len-count.result ≡ length c.args.inputs.items = search rules in
    let same = ap (λ (s : Standing). s.state) (c.go_back.ensures.state ∙ c.record_all.ensures.back ∙ ap (λ (b : List Back). state_before_all b (standing_in first)) c.in_ok-backs.ensures.items) in
    subst (λ i. FellBack (size_in first) (state_in first) (map input_of i) c.deny.new.answers.items (machine.state_in c.go_back.new.engine)) c.deref.ensures.value
    (fell_back c.in-Err.ensures.stopped c.len-count.result (counted c.len-count.result c.deref.result.now c.args.inputs.items n c.deref.ensures.value) c.deny.ensures same)

pub returns-clause-fell_there : goal.returns-clause-fell_there
returns-clause-fell_there g c failed =
    let D = g.D.Disk in
    let first = c.args.self.now in
    let n : c.len-count.result ≡ length c.args.inputs.items = search rules in
    let same = ap (λ (s : Standing). s.state) (c.go_back.ensures.state ∙ c.record_all.ensures.back ∙ ap (λ (b : List Back). state_before_all b (standing_in first)) c.in_ok-backs.ensures.items) in
    subst (λ i. FellThere (next_in first) (log_end (layout_in first) (log_generation_in first)) (D.calls (disk_in first)) (D.calls c.record_all.new.disk)
    (size_in first) (state_in first) (map input_of i) c.deny.new.answers.items (machine.state_in c.go_back.new.engine)) c.deref.ensures.value
    (fell_there c.in-Err.ensures.stopped c.len-count.result (counted c.len-count.result c.deref.result.now c.args.inputs.items n c.deref.ensures.value) c.deny.ensures same)

pub returns-clause-told : goal.returns-clause-told
returns-clause-told g c =
    let n : c.len-count.result ≡ length c.args.inputs.items = search rules in (
      (λ failed. fell_told c.in-Err.ensures.stopped c.len-count.result (counted c.len-count.result c.deref.result.now c.args.inputs.items n c.deref.ensures.value) c.deny.ensures),
      (λ has. refl),
    )

pub returns-clause-during : goal.returns-clause-during
returns-clause-during g c h =
    let D = g.D.Disk in
    let first = c.args.self.now in
    let n : c.len-count.result ≡ length c.args.inputs.items = search rules in
    subst (λ i. During (D.past (disk_in first)) (D.past c.record_all.new.disk) (IsBegun (layout_in first) (state_in first) (taken (map input_of i) c.deny.new.answers.items))) c.deref.ensures.value
    (fell_during c.in-Err.ensures.stopped c.len-count.result (counted c.len-count.result c.deref.result.now c.args.inputs.items n c.deref.ensures.value) c.deny.ensures (c.in-Err.ensures.lost h (c.args.self.now.kept c.if-self.false h)))

pub returns-clause-life : goal.returns-clause-life
returns-clause-life g c s before h come =
    let D = g.D.Disk in
    let first = c.args.self.now in
    list_goes_on (layout_in first) s (state_in first) (machine.state_in c.go_back.new.engine) before (map input_of c.args.inputs.items) c.deny.new.answers.items
    (D.past (disk_in first)) (D.past c.record_all.new.disk) true come (fell_stays (returns-clause-fell g c refl)) (returns-clause-during g c h)
    (λ works. absurd (true≢false works)) (λ works. absurd (true≢false works))

pub returns-clause-order : goal.returns-clause-order
returns-clause-order g c =
    let first = c.args.self.now in
    let same = ap (λ (s : Standing). s.state) (c.go_back.ensures.state ∙ c.record_all.ensures.back ∙ ap (λ (b : List Back). state_before_all b (standing_in first)) c.in_ok-backs.ensures.items) in
    denied_new (state_in first) (machine.state_in c.go_back.new.engine) c.record_all.new.answers.items (c.len-count.result - length c.record_all.new.answers.items) c.deny.new.answers.items same c.deny.ensures

pub returns-clause-unrecorded : goal.returns-clause-unrecorded
returns-clause-unrecorded g c none =
    let first = c.args.self.now in
    let stopped = c.in-Err.ensures.stopped in
    let n : c.len-count.result ≡ length c.args.inputs.items = search rules in
    let size = fell_whole stopped in
    let counted_now = length-map c.deref.result.now input_of in
    c.in-Err.ensures.unwritten (length stopped.rest) (omega (arith, size, counted_now))
    (fell_unrecorded stopped c.len-count.result (counted c.len-count.result c.deref.result.now c.args.inputs.items n c.deref.ensures.value) c.deny.ensures
    (subst (λ i. NeedNoRecord (state_in first) (map input_of i) c.deny.new.answers.items) (sym c.deref.ensures.value) none))

pub returns-clause-device : goal.returns-clause-device
returns-clause-device g c =
    let n : c.len-count.result ≡ length c.args.inputs.items = search rules in
    inl (fell_told c.in-Err.ensures.stopped c.len-count.result (counted c.len-count.result c.deref.result.now c.args.inputs.items n c.deref.ensures.value) c.deny.ensures, of_first c.in-Err.ensures.refused c.in-Err.ensures.device)

pub returns-clause-spent : goal.returns-clause-spent
returns-clause-spent g c from free =
    let first = c.args.self.now in
    let meant = c.record_all.new.answers.items in
    let n : c.len-count.result ≡ length c.args.inputs.items = search rules in
    let same = ap (λ (l : List Input). length l) c.deref.ensures.value ∙ sym n in
    let spent : List Input → List Answer → Type 0 =
    λ i l. AreSpentAsMeant (layout_in first) c.record_all.new.ahead.log.generation (size_in first) from (state_in first) (map input_of i) l in
    subst (λ i. spent i c.deny.new.answers.items) c.deref.ensures.value
    (subst (spent c.deref.result.now) (ap (λ n. map denied meant ++ replicate (n - length meant) (Err Device)) same ∙ sym c.deny.ensures) (c.in-Err.ensures.spent_meant from (free_at free)))
