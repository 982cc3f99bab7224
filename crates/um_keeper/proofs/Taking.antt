-- The sectors and disk calls that the inputs of a list take, in order.
use Rattle.std.proofs.Common.{◌≡◌, ◌⊎◌, ◌∙◌, ℕ, zero, suc, Bool, false, IsTrue, ◌+◌, ◌*◌, ◌≤◌, arith, List, [], ◌∷◌, ◌++◌, append_assoc, append-nil, add_assoc, add-zero, length, map, replicate, refl, sym, ap, subst, inl, inr}
use Rattle.std.proofs.Math.Nat.{add-mul}
use Rattle.std.specs.Prelude.{Err}
use Rattle.um_model.specs.InputSpellings.{input_spelling}
use Rattle.um_model.specs.Machine.{State, Input}
use Rattle.um_model.specs.Store.{log_end}
use Rattle.um_model.specs.declared.layout.Layout.{Layout}
use Rattle.um_wire.specs.declared.refusal.Refusal.TheVariants.{Device, GenerationsSpent}
use Rattle.um_keeper.specs.Answering.{Answer, Answered, all_recorded, denied, record_sectors, HasNoRecord, AreSpentAt, none_spent, spent_without, spent_with, AreSpentAsMeant, as_meant, TakesCalls, BeginsOne, most_snapshot_calls}
use Rattle.um_keeper.specs.Underway.{IsFreeAt, LacksRoom, MayRise, Takes, TakesUnsynced, is_renewing}
use Rattle.um_keeper.specs.declared.ahead.Ahead.{Ahead}
use Rattle.um_keeper.proofs.Batching.{recorded_with, recorded_without}
use Rattle.um_keeper.proofs.Spent.{spent_at}

-- none takes nothing
pub takes_none : (size : ℕ) (log : Ahead) (calls : ℕ) (s : State) → Takes size log log calls calls s [] [] s
takes_none size log calls s = record {
  sectors = 0;
  recorded = all_recorded;
  rises = 0;
  risen_by = omega arith;
  few = omega arith;
  stays = λ none. refl;
  begins = λ idle one. omega arith;
  fits = λ room. (refl, omega arith, omega arith);
  free = λ from free. subst (IsFreeAt log.log) (sym (add-zero from)) free;
  spent = λ generation from high free more rest behind. subst (λ n. AreSpentAt log.log.layout generation size n s more rest) (add-zero from) behind;
}

-- those that are left, with one of them among those that were taken
one_further : (layout : Layout) (generation size from : ℕ) (s : State) (inputs more : List Input) (answers rest : List Answer) (input : Input) (answer : Answer)
    → AreSpentAt layout generation size from s (inputs ++ (input ∷ more)) (answers ++ (answer ∷ rest))
    → AreSpentAt layout generation size from s ((inputs ++ input ∷ []) ++ more) ((answers ++ answer ∷ []) ++ rest)
one_further layout generation size from s inputs more answers rest input answer spent =
    subst (λ l. AreSpentAt layout generation size from s l ((answers ++ answer ∷ []) ++ rest)) (sym (append_assoc inputs (input ∷ []) more))
    (subst (AreSpentAt layout generation size from s (inputs ++ (input ∷ more))) (sym (append_assoc answers (answer ∷ []) rest)) spent)

-- one more of which no record is written
pub takes_without : {size : ℕ} {old log : Ahead} {before now : ℕ} {s t : State} {inputs : List Input} {answers : List Answer} (input : Input) (answer : Answer)
    → Takes size old log before now s inputs answers t → log.log.layout ≡ old.log.layout → HasNoRecord t input answer
    → (answer ≡ Err GenerationsSpent → LacksRoom log.log (length (input_spelling input)))
    → Takes size old log before now s (inputs ++ input ∷ []) (answers ++ answer ∷ []) t
takes_without {size} {old} {s = s} {inputs = inputs} {answers} input answer w same none told = record {
  sectors = w.sectors;
  recorded = recorded_without input answer w.recorded none;
  rises = w.rises;
  risen_by = w.risen_by;
  few = w.few;
  stays = w.stays;
  begins = w.begins;
  fits = w.fits;
  free = w.free;
  spent = λ generation from high free more rest behind. one_further old.log.layout generation size from s inputs more answers rest input answer
      (w.spent generation from high free (input ∷ more) (answer ∷ rest) (spent_without (spent_at input answer (w.free from free) same high told) none behind));
}

-- after `more` calls more, where the log and the snapshot under way are of the same kind
pub rises_more : (old mid : Ahead) {before between now : ℕ} (finish more : ℕ) → MayRise old mid finish before between → {generation : ℕ} {renewing : Bool} → generation ≡ mid.log.generation
    → renewing ≡ is_renewing mid → now ≤ between + more
    → ((generation ≡ old.log.generation) × (renewing ≡ is_renewing old) × (now ≤ before + more))
    ⊎ ((generation ≡ old.log.generation + 1) × (now ≤ before + more + finish + 1) × (is_renewing old ≡ false → now ≤ before + more + 1))
rises_more old mid finish more (inl (still, stays, few)) same keeps calls = inl (same ∙ still, keeps ∙ stays, omega (arith, few, calls))
rises_more old mid finish more (inr (one, few, begins)) same keeps calls =
    inr (same ∙ one, omega (arith, few, calls), λ idle. let least = begins idle in omega (arith, least, calls))

-- by how many generations it rose
record Rose (log new : Ahead) (finish most made : ℕ) : Type 0 where
  pub up : ℕ
  pub up_is : new.log.generation ≡ log.log.generation + up
  pub few : made ≤ most + up * (finish + 1)
  pub stays : up ≡ 0 → is_renewing new ≡ is_renewing log
  pub begins : is_renewing log ≡ false → made ≤ most + up

up_of : (log new : Ahead) (finish most made : ℕ) → MayRise log new finish most made → Rose log new finish most made
up_of log new finish most made (inl (same, stays, few)) = record { up = 0; up_is = omega (arith, same); few = omega (arith, few); stays = λ _. stays; begins = λ idle. omega (arith, few) }
up_of log new finish most made (inr (one, few, begins)) = record { up = 1; up_is = one; few = omega (arith, few); stays = λ none. absurd (omega (arith, none)); begins = begins }

both_fewer : (before now made sectors own x y : ℕ) → now ≤ before + sectors + x → made ≤ now + own + y → made ≤ before + (sectors + own) + (x + y)
both_fewer before now made sectors own x y first one = omega (arith, first, one)

fewer : (before now made sectors own rises up snapshot : ℕ) → now ≤ before + sectors + rises * snapshot → made ≤ now + own + up * snapshot → made ≤ before + (sectors + own) + (rises + up) * snapshot
fewer before now made sectors own rises up snapshot first one =
    subst (λ n. made ≤ before + (sectors + own) + n) (sym (add-mul rises up snapshot)) (both_fewer before now made sectors own (rises * snapshot) (up * snapshot) first one)

-- the one that begins isn't written
begins_with : (before now made sectors own rises up calls : ℕ) → rises + up ≤ 1 → (rises ≤ 1 → now ≤ before + sectors + rises) → made ≤ now + own + up * calls
    → (rises ≡ 0 → made ≤ now + own + up) → made ≤ before + (sectors + own) + (rises + up)
begins_with before now made sectors own zero up calls one first few begins = let here = first (omega arith) in let there = begins refl in omega (arith, here, there)
begins_with before now made sectors own (suc rises) zero calls one first few begins = let here = first (omega (arith, one)) in omega (arith, here, few, one)
begins_with before now made sectors own (suc rises) (suc up) calls one first few begins = absurd (omega (arith, one))

-- where the log rose by none
none_up : (first mid last rises up : ℕ) → mid ≡ first + rises → last ≡ mid + up → rises ≡ 0 → last ≡ mid → rises + up ≡ 0
none_up first mid last rises up is up_is none same = omega (arith, is, up_is, none, same)

-- where there is room for one more
room_for : {size : ℕ} {old log : Ahead} {before now : ℕ} {s t : State} {inputs : List Input} {answers : List Answer} (w : Takes size old log before now s inputs answers t) (own : ℕ)
    → log.log.layout ≡ old.log.layout → old.log.next + (w.sectors + own) ≤ log_end old.log.layout old.log.generation → log.log.next + own ≤ log_end log.log.layout log.log.generation
room_for {old = old} {log} w own same room =
    let (none, next, calls) = w.fits (omega (arith, room)) in
    let here : log_end log.log.layout log.log.generation ≡ log_end old.log.layout old.log.generation =
    ap (λ (l : Layout). log_end l log.log.generation) same ∙ ap (log_end old.log.layout) (w.risen_by ∙ ap (λ n. old.log.generation + n) none ∙ add-zero old.log.generation) in
    omega (arith, room, next, here)

-- one more with its record
pub takes_with : {size : ℕ} {old log new : Ahead} {before now made : ℕ} {s t u : State} {inputs : List Input} {answers : List Answer} {input : Input} {answer : Answer}
    → Takes size old log before now s inputs answers t → log.log.layout ≡ old.log.layout → log.log.generation ≤ new.log.generation → Answered size t input answer u
    → ¬ HasNoRecord t input answer
    → (log.log.next + record_sectors input ≤ log_end log.log.layout log.log.generation
    → (new.log.next ≤ log.log.next + record_sectors input) × (made ≤ now + record_sectors input) × (new.log.generation ≡ log.log.generation))
    → MayRise log new (most_snapshot_calls log.log.layout) (now + record_sectors input) made
    → ((from : ℕ) → IsFreeAt log.log from → IsFreeAt new.log (from + record_sectors input))
    → Takes size old new before made s (inputs ++ input ∷ []) (answers ++ answer ∷ []) u
takes_with {size} {old} {log} {new} {before} {now} {made} {s} {u = u} {inputs} {answers} {input} {answer} w same grows one some fitted may free_more =
    let own = record_sectors input in
    let rose = up_of log new (most_snapshot_calls log.log.layout) (now + own) made may in
    let up = rose.up in
    let up_is = rose.up_is in
    let few_is : made ≤ now + own + up * (most_snapshot_calls old.log.layout + 1) = subst (λ (l : Layout). made ≤ now + own + up * (most_snapshot_calls l + 1)) same rose.few in
    record {
      sectors = w.sectors + own;
      recorded = recorded_with w.recorded one some;
      rises = w.rises + up;
      risen_by = up_is ∙ ap (λ n. n + up) w.risen_by ∙ add_assoc old.log.generation w.rises up;
      few = fewer before now made w.sectors own w.rises up (most_snapshot_calls old.log.layout + 1) w.few few_is;
      stays = λ none. rose.stays (omega (arith, none)) ∙ w.stays (omega (arith, none));
      begins = λ idle one. begins_with before now made w.sectors own w.rises up (most_snapshot_calls old.log.layout + 1) one (w.begins idle) few_is
          (λ none. rose.begins (w.stays none ∙ idle));
      fits = λ room.
          let (none, next, calls) = w.fits (omega (arith, room)) in
          let (next_is, calls_are, stays) = fitted (room_for w own same room) in
          (none_up old.log.generation log.log.generation new.log.generation w.rises up w.risen_by up_is none stays, omega (arith, next, next_is), omega (arith, calls, calls_are));
      free = λ from free. subst (IsFreeAt new.log) (add_assoc from w.sectors own) (free_more (from + w.sectors) (w.free from free));
      spent = λ generation from high free more rest behind. one_further old.log.layout generation size from s inputs more answers rest input answer
          (w.spent generation from (omega (arith, grows, high)) free (input ∷ more) (answer ∷ rest) (spent_with one some
          (subst (λ n. AreSpentAt old.log.layout generation size n u more rest) (sym (add_assoc from w.sectors own)) behind)));
    }

-- ---- with the syncs

pub unsynced_none : (trusted : Bool) (first size : ℕ) (log : Ahead) (calls : ℕ) (s : State) → TakesUnsynced trusted first first size log log calls calls s [] [] s
unsynced_none trusted first size log calls s = record { takes = takes_none size log calls s; unsynced = λ h room. refl }

pub unsynced_without : {trusted : Bool} {first last size : ℕ} {old log : Ahead} {before now : ℕ} {s t : State} {inputs : List Input} {answers : List Answer} (input : Input) (answer : Answer)
    → TakesUnsynced trusted first last size old log before now s inputs answers t → log.log.layout ≡ old.log.layout → HasNoRecord t input answer
    → (answer ≡ Err GenerationsSpent → LacksRoom log.log (length (input_spelling input)))
    → TakesUnsynced trusted first last size old log before now s (inputs ++ input ∷ []) (answers ++ answer ∷ []) t
unfolding takes_without
unsynced_without input answer w same none told = record { takes = takes_without input answer w.takes same none told; unsynced = w.unsynced }

pub unsynced_with : {trusted : Bool} {first mid last size : ℕ} {old log new : Ahead} {before now made : ℕ} {s t u : State} {inputs : List Input} {answers : List Answer} {input : Input} {answer : Answer}
    → TakesUnsynced trusted first mid size old log before now s inputs answers t → log.log.layout ≡ old.log.layout → log.log.generation ≤ new.log.generation → Answered size t input answer u
    → ¬ HasNoRecord t input answer
    → (log.log.next + record_sectors input ≤ log_end log.log.layout log.log.generation
    → (IsTrue trusted → last ≡ mid) × (new.log.next ≤ log.log.next + record_sectors input) × (made ≤ now + record_sectors input) × (new.log.generation ≡ log.log.generation))
    → MayRise log new (most_snapshot_calls log.log.layout) (now + record_sectors input) made
    → ((from : ℕ) → IsFreeAt log.log from → IsFreeAt new.log (from + record_sectors input))
    → TakesUnsynced trusted first last size old new before made s (inputs ++ input ∷ []) (answers ++ answer ∷ []) u
unfolding takes_with
unsynced_with {trusted} {first} {mid} {last} {input = input} w same grows one some fitted may free_more = record {
  takes = takes_with w.takes same grows one some (λ room. let (syncs, next, calls, stays) = fitted room in (next, calls, stays)) may free_more;
  unsynced = λ h room. (fitted (room_for w.takes (record_sectors input) same room)).0 h ∙ w.unsynced h (omega (arith, room));
}

-- the same of other names for them
pub unsynced_same : {trusted : Bool} {first last size : ℕ} {old log : Ahead} {before now : ℕ} {s t : State} {inputs more : List Input} {answers told : List Answer} → more ≡ inputs → told ≡ answers
    → TakesUnsynced trusted first last size old log before now s inputs answers t → TakesUnsynced trusted first last size old log before now s more told t
unsynced_same {trusted} {first} {last} {size} {old} {log} {before} {now} {s} {t} {inputs} {more} {answers} {told} are is w =
    subst (λ l. TakesUnsynced trusted first last size old log before now s l told t) (sym are)
    (subst (λ l. TakesUnsynced trusted first last size old log before now s inputs l t) (sym is) w)

-- where nothing changed
pub unsynced_still : {trusted : Bool} {first last synced size : ℕ} {old log new : Ahead} {before now made : ℕ} {s t u : State} {inputs : List Input} {answers : List Answer}
    → synced ≡ last → new ≡ log → made ≡ now → u ≡ t
    → TakesUnsynced trusted first last size old log before now s inputs answers t → TakesUnsynced trusted first synced size old new before made s inputs answers u
unsynced_still {trusted} {first} {last} {synced} {size} {old} {log} {new} {before} {now} {made} {s} {t} {u} {inputs} {answers} syncs logs calls states w =
    subst (λ n. TakesUnsynced trusted first n size old new before made s inputs answers u) (sym syncs)
    (subst (λ (l : Ahead). TakesUnsynced trusted first last size old l before made s inputs answers u) (sym logs)
    (subst (λ n. TakesUnsynced trusted first last size old log before n s inputs answers u) (sym calls)
    (subst (λ (z : State). TakesUnsynced trusted first last size old log before now s inputs answers z) (sym states) w)))

-- one call after them
one_behind : (before now made sectors x : ℕ) → now ≤ before + sectors + x → made ≤ now + 1 → made ≤ before + sectors + 1 + x
one_behind before now made sectors x few one = omega (arith, few, one)

-- the calls that all of them take
pub takes_all : {size : ℕ} {old new : Ahead} {before now : ℕ} {s t : State} {inputs : List Input} {answers : List Answer} (w : Takes size old new before now s inputs answers t)
    (made : ℕ) → made ≤ now + 1 → TakesCalls old.log.layout old.log.next old.log.generation new.log.generation before made size s inputs answers t
takes_all {old = old} {before = before} {now = now} w made one = record {
  sectors = w.sectors;
  recorded = w.recorded;
  rises = w.rises;
  risen_by = w.risen_by;
  stays = λ room. (w.fits room).0;
  few = one_behind before now made w.sectors (w.rises * (most_snapshot_calls old.log.layout + 1)) w.few one;
}

-- where one snapshot began at most, and none was under way
pub begins_all : {size : ℕ} {old new : Ahead} {before now : ℕ} {s t : State} {inputs : List Input} {answers : List Answer} (w : Takes size old new before now s inputs answers t)
    (made : ℕ) → made ≤ now + 1 → is_renewing old ≡ false → new.log.generation ≤ old.log.generation + 1 → BeginsOne before made size s inputs answers t
begins_all {before = before} {now = now} w made one idle rose =
    let few = w.begins idle (omega (arith, rose, w.risen_by)) in
    record { sectors = w.sectors; recorded = w.recorded; few = omega (arith, few, one, rose, w.risen_by) }

-- which of all of them were turned away in the last generation
pub spent_all : {size : ℕ} {old new : Ahead} {before now : ℕ} {s t : State} {inputs : List Input} {answers : List Answer} → Takes size old new before now s inputs answers t
    → (generation from : ℕ) → new.log.generation ≤ generation → IsFreeAt old.log from → AreSpentAt old.log.layout generation size from s inputs answers
spent_all {size} {old} {s = s} {inputs = inputs} {answers} w generation from high free =
    subst (λ l. AreSpentAt old.log.layout generation size from s l answers) (append-nil inputs)
    (subst (AreSpentAt old.log.layout generation size from s (inputs ++ [])) (append-nil answers) (w.spent generation from high free [] [] none_spent))

-- the same of those before a fault
pub spent_meant : {layout : Layout} {generation size from : ℕ} {s : State} {inputs judged : List Input} {meant : List Answer} (rest : List Input) (count : ℕ) → inputs ≡ judged ++ rest → count ≡ length rest
    → AreSpentAt layout generation size from s judged meant → AreSpentAsMeant layout generation size from s inputs (map denied meant ++ replicate count (Err Device))
spent_meant {meant = meant} rest count parts counts spent = as_meant rest parts (ap (λ n. map denied meant ++ replicate n (Err Device)) counts) spent
