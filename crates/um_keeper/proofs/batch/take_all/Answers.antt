use Rattle.std.proofs.Common.{◌≡◌, ◌∙◌, ◌<◌, ◌≤◌, ◌+◌, ◌-◌, ◌++◌, ℕ, List, [], ◌∷◌, append-nil, length, take, drop, map, get_or, inl, inr, refl, sym, ap, subst, arith}
use Rattle.std.specs.Prelude.{Err}
use Rattle.std.proofs.lemmas.List.{take_more, take_all, drop_more, take-append-drop, map-append, nil_from_length, length-drop, length-take, length-map}
use Rattle.um_engine.specs.Engine.{state_in, size_in}
use Rattle.um_model.specs.Disk.{During}
use Rattle.um_model.specs.Machine as model
use Rattle.um_model.specs.Store.{log_end}
use Rattle.um_model.specs.declared.layout.Layout.{Layout}
use Rattle.um_sector.specs.Unsynced.{sync_count}
use Rattle.um_state.specs.View.{input_of}
use Rattle.um_state.specs.declared.input.Input.{Input}
use Rattle.um_keeper.specs.Answering.{Answer, Answered, AreAnswered, all_answered, where_step, taken, IsIdle, NeedsRecord, at_record, NeedNoRecord, HasNoRecord, HaveNoRecord, most_calls, most_snapshot_calls}
use Rattle.um_keeper.specs.Keeping.{IsBegun, record_calls}
use Rattle.um_keeper.specs.Underway.{UnderwayIn, TakesUnsynced, owed}
use Rattle.um_keeper.proofs.Batching.{appended, answered_more, same_length, taken_more, idle_left, need_no_record, no_record_left, no_record_more}
use Rattle.um_keeper.proofs.Results.{err_from}
use Rattle.um_keeper.proofs.Taking.{unsynced_none, unsynced_without, unsynced_with, unsynced_same, unsynced_still, spent_all, spent_meant}
use Rattle.um_keeper.proofs.Underway.{still_begun, underway_kept, then_begun}
use Rattle.um_wire.specs.declared.refusal.Refusal.TheVariants.{Device}
use Rattle.um_keeper.proofs.batch.take_all.Goals as goal

-- the inputs that are left are one and those after it
one_more : (xs : List Input) (i : ℕ) (x : Input) → i < length xs → x ≡ get_or xs i x → drop i xs ≡ x ∷ drop (i + 1) xs
one_more xs i x low is = drop_more xs i x low ∙ ap (λ y. y ∷ drop (i + 1) xs) (sym is)

none_left : (xs : List Input) (i : ℕ) → length xs ≤ i → map input_of (drop i xs) ≡ []
none_left xs i high = ap (map input_of) (nil_from_length (drop i xs) (omega (arith, high, length-drop i xs)))

-- those that were taken, and one more
taken_further : (xs : List Input) (i : ℕ) (x : Input) → i < length xs → x ≡ get_or xs i x → take (i + 1) xs ≡ take i xs ++ x ∷ []
taken_further xs i x low is = take_more xs i x low ∙ ap (λ y. take i xs ++ y ∷ []) (sym is)

fewer : (now old sectors own left more first total : ℕ) → now ≤ old + sectors + own → left ≡ sectors + own + more → old + left ≤ first + total → now + more ≤ first + total
fewer now old sectors own left more first total one is most = omega (arith, one, is, most)

-- the calls of those after it
calls_left : {layout l : Layout} {left more : List model.Input} {input : model.Input} → l ≡ layout → left ≡ input ∷ more → (now old first total : ℕ)
    → now ≤ old + most_snapshot_calls l + record_calls input → old + most_calls layout left ≤ first + total → now + most_calls layout more ≤ first + total
calls_left {layout} {l} {left} {more} {input} same is now old first total one most =
    fewer now old (most_snapshot_calls layout) (record_calls input) (most_calls layout left) (most_calls layout more) first total
    (subst (λ (z : Layout). now ≤ old + most_snapshot_calls z + record_calls input) same one) (ap (most_calls layout) is) most

-- the value that is read of one more
behind_same : {A : Type 0} (f : A → ℕ) (x y : A) (n : ℕ) → x ≡ y → f y ≡ n → f x ≡ n
behind_same f x y n is same = ap f is ∙ same

room_left : (len next cap next_cap left more : ℕ) → next ≤ len + 1 → cap ≤ next_cap → left ≡ more + 1 → len + left ≤ cap → next + more ≤ next_cap
room_left len next cap next_cap left more one grown is room = omega (arith, one, grown, is, room)

one_longer : (x : Input) (xs all : List Input) → all ≡ x ∷ xs → length all ≡ length xs + 1
one_longer x xs all is = omega (arith, ap length is)

-- an input that is answered E16 and needs no record has no effect
idle_at : (s : model.State) (front : List model.Input) (answers : List Answer) (rest : List Answer) (input : model.Input) (more : List model.Input) → length answers ≡ length front
    → NeedNoRecord s (front ++ input ∷ more) (answers ++ Err Device ∷ rest) → IsIdle s input
idle_at s [] [] rest input more same none = elim none.0 [ inl idle ↦ idle | inr refusal ↦ absurd (refusal.0 refl) ]
idle_at s [] (a ∷ answers) rest input more same none = absurd (omega (arith, same))
idle_at s (x ∷ front) [] rest input more same none = absurd (omega (arith, same))
idle_at s (x ∷ front) (a ∷ answers) rest input more same none = idle_at s front answers rest input more (omega (arith, same)) none.1

idle_there : (s : model.State) (all : List model.Input) (answers rest : List Answer) (front : List model.Input) (input : model.Input) (more : List model.Input) → all ≡ front ++ input ∷ more → length answers ≡ length front
    → NeedNoRecord s all (answers ++ Err Device ∷ rest) → IsIdle s input
idle_there s all answers rest front input more is same none = idle_at s front answers rest input more same (subst (λ l. NeedNoRecord s l (answers ++ Err Device ∷ rest)) is none)

pub loop-input-init : goal.loop-input-init
loop-input-init g c =
    let D = g.D.Disk in
    let first = c.args.engine.now in
    let a = c.args.ahead.now in
    let all = map input_of c.args.inputs.now in
    let none = c.requires.none in
    let past = D.past c.args.disk.now in
    record {
      answered = subst (λ l. AreAnswered (size_in first) (state_in first) [] l (state_in first)) (sym none) all_answered;
      during = λ h k. still_begun (underway_kept a.unsynced (g.met.D.Disk.seen_is_image c.args.disk.now h) k);
      under = λ h k. underway_kept a.unsynced (g.met.D.Disk.seen_is_image c.args.disk.now h) k;
      back = refl;
      idle = λ here. (refl, refl, refl, here);
      unrecorded = λ rest here. (refl, refl, refl, subst (λ l. HaveNoRecord (state_in first) all (l ++ rest)) none here);
      clean = λ is. (tt, refl);
      takes = subst (λ l. TakesUnsynced (D.honest c.args.disk.now) (sync_count past) (sync_count past) (size_in first) a a (D.calls c.args.disk.now) (D.calls c.args.disk.now)
          (state_in first) [] l (state_in first)) (sym none) (unsynced_none (D.honest c.args.disk.now) (sync_count past) (size_in first) a (D.calls c.args.disk.now) (state_in first));
      calls = let clean = ap owed c.requires.synced in omega (arith, clean);
      held = c.requires.held;
      sized = refl;
      layout = refl;
      failures = refl;
      sectors = refl;
      honest = refl;
      capacity = omega (arith, c.requires.room);
      room = c.requires.room;
      ways = c.requires.ways;
    }

pub loop-input-preserved : goal.loop-input-preserved
loop-input-preserved g c =
    let D = g.D.Disk in
    let at = c.loop-input in
    let inv = at.invariant in
    let first = c.args.engine.now in
    let a = c.args.ahead.now in
    let layout = a.log.layout in
    let all = map input_of c.args.inputs.now in
    let front = map input_of (take at.input-index c.args.inputs.now) in
    let input = input_of c.input-item.result in
    let answer = c.in_ok-answer.answer in
    let told = c.in_ok-answer.ensures in
    let call = c.take_one.ensures in
    let made = c.take_one.new in
    let answers = c.note.new.answers.items in
    let left = one_more c.args.inputs.now at.input-index c.input-item.result c.loop-input-test.true c.input-item.is in
    let step = ap (map input_of) left in
    let further : map input_of (take (at.input-index + 1) c.args.inputs.now) ≡ front ++ input ∷ [] =
    ap (map input_of) (taken_further c.args.inputs.now at.input-index c.input-item.result c.loop-input-test.true c.input-item.is) ∙ map-append input_of (take at.input-index c.args.inputs.now) (c.input-item.result ∷ []) in
    let longer = one_longer c.input-item.result (drop (at.input-index + 1) c.args.inputs.now) (drop at.input-index c.args.inputs.now) left in
    let more : (rest : List Answer) → answers ++ rest ≡ at.answers.items ++ (answer ∷ rest) = λ rest. appended at.answers.items answers answer rest c.note.ensures.items in
    let size = same_length inv.answered in
    let sum : taken (map input_of (take (at.input-index + 1) c.args.inputs.now)) answers ≡ taken front at.answers.items ++ where_step answer input =
    ap (λ l. taken l answers) further ∙ ap (taken (front ++ input ∷ [])) c.note.ensures.items ∙ taken_more front at.answers.items input [] answer size in
    record {
      answered =
          subst (λ l. AreAnswered (size_in first) (state_in first) l answers (state_in made.engine)) (sym further)
          (subst (λ l. AreAnswered (size_in first) (state_in first) (front ++ input ∷ []) l (state_in made.engine)) (sym c.note.ensures.items)
          (answered_more inv.answered (subst (λ n. Answered n (state_in at.engine) input answer (state_in made.engine)) inv.sized told.ok)));
      during = λ h k. subst (λ l. During (D.past c.args.disk.now) (D.past made.disk) (IsBegun layout (state_in first) l)) (sym sum)
          (then_begun (where_step answer input) inv.layout (inv.during h k) (told.during (inv.honest ∙ h) (state_in first) (taken front at.answers.items) (inv.under h k)));
      under = λ h k. subst (λ l. UnderwayIn (state_in first) l (D.past made.disk) made.ahead (state_in made.engine)) (sym sum)
          (told.under (inv.honest ∙ h) (state_in first) (taken front at.answers.items) (inv.under h k));
      back = call.back ∙ inv.back;
      idle = λ none.
          let (d, a, s, here) = inv.idle none in
          let (one, others) = idle_left (state_in first) step here in
          let same = call.idle (subst (λ z. IsIdle z input) (sym s) one) in
          (same.0 ∙ d, same.1 ∙ a, same.2 ∙ s, others);
      unrecorded = λ rest none.
          let (d, a, s, here) = inv.unrecorded (answer ∷ rest) (subst (HaveNoRecord (state_in first) all) (more rest) none) in
          let (one, others) = no_record_left (state_in first) answer rest step here in
          let same = told.unrecorded (subst (λ z. HasNoRecord z input answer) (sym s) one) in
          (same.0 ∙ d, same.1 ∙ a, same.2 ∙ s, others);
      clean = λ is.
          let (before, one) = told.clean is in
          let (all_before, s) = inv.clean before in (
            subst (λ l. HaveNoRecord (state_in first) l answers) (sym further)
                (subst (HaveNoRecord (state_in first) (front ++ input ∷ [])) (sym c.note.ensures.items)
                (no_record_more (state_in first) front at.answers.items input answer size all_before (subst (λ z. HasNoRecord z input answer) s one))),
            (told.unrecorded one).2 ∙ s,
          );
      takes = elim told.either [
        | inl none ↦
            let same = told.unrecorded none in
            unsynced_still (ap (λ d. sync_count (D.past d)) same.0) same.1 (ap (λ d. D.calls d) same.0) same.2
            (unsynced_same further c.note.ensures.items (unsynced_without input answer inv.takes inv.layout none told.spent))
        | inr some ↦ unsynced_same further c.note.ensures.items (unsynced_with inv.takes inv.layout call.grows
            (subst (λ n. Answered n (state_in at.engine) input answer (state_in made.engine)) inv.sized told.ok) some
            (λ room. let (syncs, next, calls, stays) = told.fitted room in ((λ h. syncs (inv.honest ∙ h)), next, calls, stays)) told.rises told.free)
      ];
      calls = calls_left inv.layout step _ _ _ _ call.calls inv.calls;
      held = call.held;
      sized = call.sized ∙ inv.sized;
      layout = call.layout ∙ inv.layout;
      failures = told.device ∙ inv.failures;
      sectors = call.size ∙ inv.sectors;
      honest = call.honest ∙ inv.honest;
      capacity = omega (arith, inv.capacity, c.note.ensures.capacity);
      room = room_left _ _ _ _ _ _ (omega (arith, c.note.ensures.len)) c.note.ensures.capacity longer inv.room;
      ways = room_left _ _ _ _ _ _ call.one call.capacity longer inv.ways;
    }

-- ---- after the last

pub returns-clause-ok : goal.returns-clause-ok
returns-clause-ok g c =
    let at = c.loop-input in
    let first = c.args.engine.now in
    subst (λ l. AreAnswered (size_in first) (state_in first) (map input_of l) at.answers.items (state_in at.engine))
    (take_all at.input-index c.args.inputs.now c.loop-input-test.false) at.invariant.answered

pub returns-clause-during : goal.returns-clause-during
returns-clause-during g c h k =
    let D = g.D.Disk in
    let at = c.loop-input in
    subst (λ l. During (D.past c.args.disk.now) (D.past at.disk) (IsBegun c.args.ahead.now.log.layout (state_in c.args.engine.now) (taken (map input_of l) at.answers.items)))
    (take_all at.input-index c.args.inputs.now c.loop-input-test.false) (at.invariant.during h k)

pub returns-clause-under : goal.returns-clause-under
returns-clause-under g c h k =
    let at = c.loop-input in
    subst (λ l. UnderwayIn (state_in c.args.engine.now) (taken (map input_of l) at.answers.items) (g.D.Disk.past at.disk) at.ahead (state_in at.engine))
    (take_all at.input-index c.args.inputs.now c.loop-input-test.false) (at.invariant.under h k)

pub returns-clause-unrecorded : goal.returns-clause-unrecorded
returns-clause-unrecorded g c none =
    let at = c.loop-input in
    let same = at.invariant.unrecorded [] (subst (HaveNoRecord (state_in c.args.engine.now) (map input_of c.args.inputs.now)) (sym (append-nil at.answers.items)) none) in
    (same.0, same.1)

pub returns-clause-idle : goal.returns-clause-idle
returns-clause-idle g c none = let same = c.loop-input.invariant.idle none in (same.0, same.1)

pub returns-clause-clean : goal.returns-clause-clean
returns-clause-clean g c is =
    let at = c.loop-input in
    subst (λ l. HaveNoRecord (state_in c.args.engine.now) (map input_of l) at.answers.items) (take_all at.input-index c.args.inputs.now c.loop-input-test.false) (at.invariant.clean is).0

pub returns-clause-takes : goal.returns-clause-takes
returns-clause-takes g c =
    let D = g.D.Disk in
    let at = c.loop-input in
    let first = c.args.engine.now in
    let past = D.past c.args.disk.now in
    subst (λ l. TakesUnsynced (D.honest c.args.disk.now) (sync_count past) (sync_count (D.past at.disk)) (size_in first) c.args.ahead.now at.ahead
    (D.calls c.args.disk.now) (D.calls at.disk) (state_in first) (map input_of l) at.answers.items (state_in at.engine)) (take_all at.input-index c.args.inputs.now c.loop-input-test.false) at.invariant.takes

pub returns-clause-calls : goal.returns-clause-calls
returns-clause-calls g c = omega (arith, c.loop-input.invariant.calls)

-- ---- where a disk call fails

pub returns-in_err-answer-clause-stopped : goal.returns-in_err-answer-clause-stopped
returns-in_err-answer-clause-stopped g c =
    let at = c.loop-input in
    let inv = at.invariant in
    let a = c.args.ahead.now in
    let inputs = c.args.inputs.now in
    let input = input_of c.input-item.result in
    let front = map input_of (take at.input-index inputs) in
    let rest = map input_of (drop (at.input-index + 1) inputs) in
    let left = one_more inputs at.input-index c.input-item.result c.loop-input-test.true c.input-item.is in
    let parts : map input_of inputs ≡ front ++ input ∷ rest = ap (map input_of) (sym (take-append-drop at.input-index inputs) ∙ ap (λ l. take at.input-index inputs ++ l) left)
    ∙ map-append input_of (take at.input-index inputs) (c.input-item.result ∷ drop (at.input-index + 1) inputs) in
    err_from c.from_residual.result (record {
      judged = front;
      rest = input ∷ rest;
      parts = parts;
      u = state_in at.engine;
      were = inv.answered;
      sectors = inv.takes.takes.sectors;
      recorded = inv.takes.takes.recorded;
      fails = at_record (subst (λ n. NeedsRecord n (state_in at.engine) input) inv.sized c.in_err-answer.ensures.fault);
      few = λ room.
          let (none, next, calls) = inv.takes.takes.fits (omega (arith, room)) in
          let still : at.ahead.log.generation ≡ a.log.generation = omega (arith, inv.takes.takes.risen_by, none) in
          let same_end : log_end at.ahead.log.layout at.ahead.log.generation ≡ log_end a.log.layout a.log.generation = λ k. log_end (inv.layout k) (still k) in
          let last = c.in_err-answer.ensures.few (omega (arith, room, same_end, next)) in
          omega (arith, calls, last);
    })

pub returns-in_err-answer-clause-left : goal.returns-in_err-answer-clause-left
returns-in_err-answer-clause-left g c =
    let at = c.loop-input in
    let size = same_length at.invariant.answered in
    let counted = length-map (take at.input-index c.args.inputs.now) input_of in
    let short = length-take at.input-index c.args.inputs.now in
    let inside = c.loop-input-test.true in
    err_from c.from_residual.result (omega (arith, size, counted, short, inside))

pub returns-in_err-answer-clause-lost : goal.returns-in_err-answer-clause-lost
returns-in_err-answer-clause-lost g c =
    let D = g.D.Disk in
    let at = c.loop-input in
    let inv = at.invariant in
    let first = c.args.engine.now in
    let inputs = c.args.inputs.now in
    let input = input_of c.input-item.result in
    let front = map input_of (take at.input-index inputs) in
    let rest = map input_of (drop (at.input-index + 1) inputs) in
    let left = one_more inputs at.input-index c.input-item.result c.loop-input-test.true c.input-item.is in
    let parts : map input_of inputs ≡ front ++ input ∷ rest = ap (map input_of) (sym (take-append-drop at.input-index inputs) ∙ ap (λ l. take at.input-index inputs ++ l) left)
    ∙ map-append input_of (take at.input-index inputs) (c.input-item.result ∷ drop (at.input-index + 1) inputs) in
    let all : taken (map input_of inputs) (at.answers.items ++ Err Device ∷ []) ≡ taken front at.answers.items ++ input ∷ [] =
    ap (λ l. taken l (at.answers.items ++ Err Device ∷ [])) parts ∙ taken_more front at.answers.items input rest (Err Device) (same_length inv.answered) in
    err_from c.from_residual.result (λ h k.
    subst (λ l. During (D.past c.args.disk.now) (D.past c.take_one.new.disk) (IsBegun c.args.ahead.now.log.layout (state_in first) l)) (sym all)
    (then_begun (input ∷ []) inv.layout (inv.during h k) (c.in_err-answer.ensures.lost (inv.honest ∙ h) (state_in first) (taken front at.answers.items) (inv.under h k))))

pub returns-in_err-answer-clause-idle : goal.returns-in_err-answer-clause-idle
returns-in_err-answer-clause-idle g c none =
    let at = c.loop-input in
    let left = ap (map input_of) (one_more c.args.inputs.now at.input-index c.input-item.result c.loop-input-test.true c.input-item.is) in
    let (d, a, s, here) = at.invariant.idle none in
    let (one, others) = idle_left (state_in c.args.engine.now) left here in
    let same = c.take_one.ensures.idle (subst (λ z. IsIdle z (input_of c.input-item.result)) (sym s) one) in
    (same.0 ∙ d, same.1 ∙ a)

pub returns-in_err-answer-clause-unwritten : goal.returns-in_err-answer-clause-unwritten
returns-in_err-answer-clause-unwritten g c =
    let at = c.loop-input in
    let first = c.args.engine.now in
    let all = map input_of c.args.inputs.now in
    let input = input_of c.input-item.result in
    let left = ap (map input_of) (one_more c.args.inputs.now at.input-index c.input-item.result c.loop-input-test.true c.input-item.is) in
    err_from c.from_residual.result (λ rest none.
    let (d, a, s, here) = at.invariant.unrecorded (Err Device ∷ rest) (need_no_record (state_in first) all (at.answers.items ++ Err Device ∷ rest) none) in
    let idle : IsIdle (state_in first) input = idle_there (state_in first) all (at.answers.items) rest (map input_of (take at.input-index c.args.inputs.now)) input (map input_of (drop (at.input-index + 1) c.args.inputs.now))
    (ap (map input_of) (sym (take-append-drop at.input-index c.args.inputs.now)) ∙ map-append input_of (take at.input-index c.args.inputs.now) (drop at.input-index c.args.inputs.now) ∙ ap (λ l. map input_of (take at.input-index c.args.inputs.now) ++ l) left)
    (same_length at.invariant.answered) none in
    (c.take_one.ensures.idle (subst (λ z. IsIdle z input) (sym s) idle)).0 ∙ d)

pub returns-in_err-answer-clause-spent : goal.returns-in_err-answer-clause-spent
returns-in_err-answer-clause-spent g c =
    let at = c.loop-input in
    let inv = at.invariant in
    let inputs = c.args.inputs.now in
    let layout = c.args.ahead.now.log.layout in
    let generation = c.take_one.new.ahead.log.generation in
    let size = same_length inv.answered in
    let counted = length-map (take at.input-index inputs) input_of in
    let left = length-map (drop at.input-index inputs) input_of in
    let short = length-take at.input-index inputs in
    let long = length-drop at.input-index inputs in
    let inside = c.loop-input-test.true in
    err_from c.from_residual.result (λ from free.
    spent_meant (map input_of (drop at.input-index inputs)) (length inputs - length at.answers.items) (ap (map input_of) (sym (take-append-drop at.input-index inputs)) ∙ map-append input_of (take at.input-index inputs) (drop at.input-index inputs))
    (omega (arith, size, counted, left, short, long, inside)) (spent_all inv.takes.takes generation from c.take_one.ensures.grows free))
