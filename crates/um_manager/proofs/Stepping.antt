-- The writes of a turn after the answer of its store.
use Rattle.std.specs.Prelude.{IfErr, OnOk, min}
use Rattle.std.proofs.Common.{◌≡◌, ◌≢◌, ◌⊎◌, ◌↔◌, ◌∙◌, ◌+◌, ◌≤◌, inl, inr, ℕ, List, [], ◌∷◌, ◌++◌, length, Bool, true, false, if◌then◌else◌, IsTrue, Result, Ok, Err, refl, sym, ap, subst, arith, true≢false}
use Rattle.std.proofs.Math.Nat.{min-le_left}
use Rattle.std.proofs.lemmas.List.{take_all}
use Rattle.um_keeper.specs.Answering.{Answer, AreAnswered, all_answered, and_next, accepted, refused, turned_away, taken, BeginsOne}
use Rattle.um_keeper.specs.Keepers.{has_failed, IsSamePlace}
use Rattle.um_keeper.specs.Keeping.{IsBegun}
use Rattle.um_keeper.specs.declared.keeper.Keeper.{Keeper}
use Rattle.um_laws.proofs.DiskLaws.{followed, weaker}
use Rattle.um_model.specs.Disk.{Image, Past, During}
use Rattle.um_model.specs.Machine.{State, Input, Refusal, Run, rests, goes}
use Rattle.um_model.specs.Stands.{IsStoreOf}
use Rattle.um_model.specs.Store.{body_limit}
use Rattle.um_model.specs.declared.layout.Layout.{Layout}
use Rattle.um_sector.specs.Refused.{CountsDevice, IsLost}
use Rattle.um_sector.specs.declared.disk.Disk as disk
use Rattle.um_wire.specs.Refusal.{refused_of}
use Rattle.um_wire.specs.declared.refusal.Refusal as declared
use Rattle.um_wire.specs.declared.refusal.Refusal.TheVariants.{NoMemory, Device, Reopen}
use Rattle.um_manager.specs.Frames.{KeepsStore}
use Rattle.um_manager.proofs.Placing.{same_failed}
use Rattle.um_manager.specs.Places.{Place, LogEnd, is_trusted}
use Rattle.um_manager.specs.Turns.{Now, MakesFewCalls, MakesFewerCalls, step_calls, with_step, WritesOn}

-- ---- a store of the state that follows

-- inputs that were answered lead to the state that follows, over those that were taken
run_taken : (size : ℕ) (s t : State) (inputs : List Input) (answers : List Answer) → AreAnswered size s inputs answers t → Run size s (taken inputs answers) t
run_taken size s t [] [] all_answered = rests
run_taken size s t [] (answer ∷ answers) are = elim are [ ]
run_taken size s t (input ∷ inputs) [] are = elim are [ ]
run_taken size s t (input ∷ inputs) (Ok given ∷ answers) (and_next {t = u} (accepted {reply = reply} {actions = actions} step done) more) =
    goes reply actions step (run_taken size u t inputs answers more)
run_taken size s t (input ∷ inputs) (Err e ∷ answers) (and_next (refused of_step unturned step) more) =
    subst (λ (b : Bool). Run size s ((if b then [] else (input ∷ [])) ++ taken inputs answers) t) (sym unturned)
    (goes (Refusal (refused_of e)) [] step (run_taken size s t inputs answers more))
run_taken size s t (input ∷ inputs) (Err e ∷ answers) (and_next (turned_away is) more) =
    subst (λ (b : Bool). Run size s ((if b then [] else (input ∷ [])) ++ taken inputs answers) t) (sym is) (run_taken size s t inputs answers more)

-- so it is one of a beginning of the inputs that were taken
pub all_begun : (layout : Layout) (size : ℕ) (s t : State) (inputs : List Input) (answers : List Answer) (image : Image) → size ≡ body_limit layout
    → AreAnswered size s inputs answers t → IsStoreOf layout image t → IsBegun layout s (taken inputs answers) image
all_begun layout size s t inputs answers image on are store = record {
  count = length (taken inputs answers);
  state = t;
  run = subst (λ l. Run (body_limit layout) s l t) (sym (take_all (length (taken inputs answers)) (taken inputs answers) (omega arith)))
      (subst (λ n. Run n s (taken inputs answers) t) on (run_taken size s t inputs answers are));
  store = store;
}

-- ---- on to the end

-- a fact up to the answer of the store, which also holds of each store of the state that follows, holds up to the end
pub and_behind : (place at : Place) (store result : Result Unit declared.Refusal) (a b : Now) → WritesOn at store result a b → at.layout ≡ place.layout
    → (store ≡ Ok tt → IsTrue at.trusted) → (disk : Past) (P : Image → Type 0) → (store ≡ Ok tt → (image : Image) → IsStoreOf place.layout image a.state → P image)
    → During disk a.disk P → During disk b.disk P
and_behind place at (Ok tt) result a b writes same sure disk P each first =
    followed disk a.disk b.disk P first
    (weaker a.disk b.disk (λ image. IsStoreOf at.layout image a.state) P
    (λ image store. each refl image (subst (λ l. IsStoreOf l image a.state) same store)) (writes.steady (sure refl) refl))
and_behind place at (Err e) result a b writes same sure disk P each first = subst (λ d. During disk d P) (sym (writes.still e refl)) first

more_calls : (before mid now sectors snapshots : ℕ) → mid ≤ before + sectors + 1 + snapshots → now ≤ mid + step_calls → now ≤ before + step_calls + sectors + 1 + snapshots
more_calls before mid now sectors snapshots few more = omega (arith, few, more)

two_calls : (before mid now sectors : ℕ) → mid ≤ before + sectors + 2 → now ≤ mid + step_calls → now ≤ before + step_calls + sectors + 2
two_calls before mid now sectors few more = omega (arith, few, more)

-- few calls, and those after them
pub few_behind : (place at : Place) (store result : Result Unit declared.Refusal) (s t : State) (inputs : List Input) (answers : List Answer) (old : LogEnd) (a b : Now)
    → WritesOn at store result a b → MakesFewCalls place s inputs answers t old a.log → MakesFewCalls place s inputs answers t (with_step old) b.log
few_behind place at store result s t inputs answers old a b writes few = record {
  sectors = few.sectors;
  recorded = few.recorded;
  rises = few.rises;
  risen_by = writes.generation ∙ few.risen_by;
  stays = few.stays;
  few = more_calls old.calls a.log.calls b.log.calls few.sectors _ few.few writes.calls;
}

pub fewer_behind : (place at : Place) (store result : Result Unit declared.Refusal) (s t : State) (inputs : List Input) (answers : List Answer) (old : LogEnd) (a b : Now)
    → WritesOn at store result a b → MakesFewerCalls place s inputs answers t old a.log → MakesFewerCalls place s inputs answers t (with_step old) b.log
fewer_behind place at store result s t inputs answers old a b writes fewer none_left one =
    let first = fewer none_left (subst (λ n. n ≤ old.generation + 1) writes.generation one) in
    record {
      sectors = first.sectors;
      recorded = first.recorded;
      few = two_calls old.calls a.log.calls b.log.calls first.sectors first.few writes.calls;
    }

-- ---- the answer of the whole

-- the frame of a store's call and of the writes after it
pub store_kept : {D : Type 0} {g : disk.Ghosts D} (d : disk.Ghosts D) (store result : Result Unit declared.Refusal) (old mid new : Keeper D g) → KeepsStore d store old mid
    → OnOk store (KeepsStore d result mid new) → IfErr store (λ e. result ≡ Err e) → IfErr store (λ e. new ≡ mid) → KeepsStore d result old new
store_kept d (Ok tt) result old mid new first later so still = record {
  place = record { layout = later.place.layout ∙ first.place.layout; size = later.place.size ∙ first.place.size; opened = later.place.opened ∙ first.place.opened };
  disk = later.disk ∙ first.disk;
  failed = (
    (λ is. elim (later.failed.0 is) [
      | inl was ↦ elim (first.failed.0 was) [ inl before ↦ inl before | inr none ↦ absurd (ok_not_err none) ]
      | inr device ↦ inr device
    ]),
    (λ either. elim either [ inl before ↦ later.failed.1 (inl (first.failed.1 (inl before))) | inr device ↦ later.failed.1 (inr device) ]),
  );
}
  where
    ok_not_err : Ok tt ≡ Err Device → ⊥
    ok_not_err p = cc
store_kept d (Err e) result old mid new first later so still =
    subst (λ r. KeepsStore d r old new) (sym so) (subst (λ k. KeepsStore {T = Unit} d (Err e) old k) (sym still) first)

-- the count of failures, over both
pub counted : (store result : Result Unit declared.Refusal) (first mid last : ℕ) → CountsDevice store first mid → OnOk store (CountsDevice result mid last)
    → IfErr store (λ e. result ≡ Err e) → IfErr store (λ e. last ≡ mid) → CountsDevice result first last
counted (Ok tt) result first mid last counts later so still = subst (λ n. CountsDevice result n last) counts later
counted (Err e) result first mid last counts later so still =
    subst (λ r. CountsDevice r first last) (sym so) (subst (λ n. CountsDevice {T = Unit} (Err e) first n) (sym still) counts)

device_not_reopen : Device ≡ Reopen → ⊥
device_not_reopen p = cc

device_not_memory : Device ≡ NoMemory → ⊥
device_not_memory p = cc

same_refusal : {T E : Type 0} {d e : E} → ◌≡◌ {A = Result T E} (Err d) (Err e) → d ≡ e
same_refusal p = cc

not_both : {T E : Type 0} {x : T} {e : E} → Ok x ≡ Err e → ⊥
not_both p = cc

-- it is E17 exactly where an earlier call failed
pub reopens : (store result : Result Unit declared.Refusal) (failed : Bool) → (store ≡ Err Reopen) ↔ (failed ≡ true) → OnOk store (IfErr result (λ e. e ≡ Device))
    → IfErr store (λ e. result ≡ Err e) → (result ≡ Err Reopen) ↔ (failed ≡ true)
reopens (Ok tt) (Ok u) failed exactly later still = ((λ is. absurd (not_both is)), (λ was. absurd (not_both (exactly.1 was))))
reopens (Ok tt) (Err e) failed exactly later still = (
  (λ is. absurd (device_not_reopen (sym later ∙ same_refusal is))),
  (λ was. absurd (not_both (exactly.1 was))),
)
reopens (Err e) result failed exactly later still = subst (λ r. (r ≡ Err Reopen) ↔ (failed ≡ true)) (sym still) exactly

-- a result that isn't a refusal for want of memory isn't one after it
pub not_want : (store result : Result Unit declared.Refusal) → store ≢ Err NoMemory → OnOk store (IfErr result (λ e. e ≡ Device)) → IfErr store (λ e. result ≡ Err e)
    → result ≢ Err NoMemory
not_want (Ok tt) (Ok u) other later still is = not_both is
not_want (Ok tt) (Err e) other later still is = device_not_memory (sym later ∙ same_refusal is)
not_want (Err e) result other later still is = other (sym still ∙ is)

-- a refusal of either is one of the turn
pub either_refuses : (store result : Result Unit declared.Refusal) → IfErr store (λ e. (e ≡ Device) ⊎ (e ≡ Reopen)) → OnOk store (IfErr result (λ e. e ≡ Device))
    → IfErr store (λ e. result ≡ Err e) → IfErr result (λ e. IsLost e ⊎ (e ≡ Reopen))
either_refuses (Ok tt) (Ok u) either later still = tt
either_refuses (Ok tt) (Err e) either later still = inl (inr later)
either_refuses (Err e) result either later still =
    subst (λ r. IfErr r (λ x. IsLost x ⊎ (x ≡ Reopen))) (sym still) (elim either [ inl device ↦ inl (inr device) | inr again ↦ inr again ])

-- ---- the store as it answered

-- where it answered Ok it has failed where it had
pub answered_same : {o n : Bool} (store : Result Unit declared.Refusal) → store ≡ Ok tt → ((n ≡ true) ↔ ((o ≡ true) ⊎ (store ≡ Err Device))) → n ≡ o
answered_same store ok failed = same_failed ok failed

-- and then no call had failed before
pub answered_works : {o : Bool} (n : Bool) (store : Result Unit declared.Refusal) → ((n ≡ true) ↔ ((o ≡ true) ⊎ (store ≡ Err Device))) → ((store ≡ Err Reopen) ↔ (o ≡ true))
    → OnOk store (n ≡ false)
answered_works {o = true} n (Ok tt) failed exactly = absurd (not_both (exactly.1 refl))
answered_works {o = false} n (Ok tt) failed exactly = same_failed {r = Ok tt} refl failed
answered_works n (Err e) failed exactly = tt

-- so a disk that was trusted is
pub still_trusted : (honest sure failed now : Bool) → sure ≡ honest → now ≡ failed → IsTrue (is_trusted honest failed) → IsTrue (is_trusted sure now)
still_trusted honest sure failed now same worked is = subst (λ f. IsTrue (is_trusted sure f)) (sym worked) (subst (λ h. IsTrue (is_trusted h failed)) (sym same) is)

-- the values of a store that stays are as before
pub still_same : {K : Type 0} (store : Result Unit declared.Refusal) (f : K → ℕ) (mid new : K) → IfErr store (λ e. new ≡ mid) → IfErr store (λ e. f new ≡ f mid)
still_same (Ok tt) f mid new still = tt
still_same (Err e) f mid new still = ap f still

-- ---- the step itself

pub refusal_not_ok : {T E : Type 0} {x : T} {e : E} → Err e ≡ Ok x → ⊥
refusal_not_ok p = cc

-- after a store that works the only fault is the device's
pub only_device : {T : Type 0} {failed : Bool} (result : Result T declared.Refusal) (e : declared.Refusal) → result ≡ Err e → (e ≡ Device) ⊎ (e ≡ Reopen)
    → ((result ≡ Err Reopen) ↔ (failed ≡ true)) → failed ≡ false → e ≡ Device
only_device result e is either exactly works =
    elim either [ inl device ↦ device | inr again ↦ absurd (true≢false (sym (exactly.0 (is ∙ ap Err again)) ∙ works)) ]

pub few_sectors : (before now left : ℕ) → now ≤ before + min 16 left + 3 → now ≤ before + step_calls
few_sectors before now left few = omega (arith, min-le_left 16 left, few)

pub was_working : {failed : Bool} (store : Result Unit declared.Refusal) (u : Unit) → store ≡ Ok u → OnOk store (failed ≡ false) → failed ≡ false
was_working {failed} store u is working = subst (λ r. OnOk r (failed ≡ false)) is working

pub still_few : (calls : ℕ) → calls ≤ calls + step_calls
still_few calls = omega arith
