-- A list of inputs that is offered: answered in order, or refused as a whole.
use Rattle.std.proofs.Common.{◌≡◌, ◌≢◌, ◌⊎◌, ◌↔◌, inl, inr, ℕ, suc, List, [], ◌∷◌, ◌++◌, length, length-append, map, replicate, Bool, true, false, if◌then◌else◌, IsTrue, Result, Ok, Err, refl, sym, ap, subst, ◌∙◌, true≢false, arith}
use Rattle.std.proofs.lemmas.List.{length-map, length-replicate}
use Rattle.std.specs.Prelude.{IfErr}
use Rattle.std.proofs.lemmas.List.Elements.{All-contains, All-replicate}
use Rattle.um_keeper.specs.Answering.{Answer, AreAnswered, all_answered, and_next, FellBack, HasFault, CountsFault, Recorded, all_recorded, without_record, AreSpentAt, none_spent, spent_without, as_told, denied, turned_away, all_asked, taken}
use Rattle.um_keeper.specs.Keeping.{IsBegun}
use Rattle.um_model.specs.Children.{Call}
use Rattle.um_model.specs.Disk.{Past, Image, Images, During}
use Rattle.um_model.specs.Machine.{State, Input, Reply, Refusal, rests}
use Rattle.um_model.specs.Numbers.{AreNew, started_numbers}
use Rattle.um_model.specs.Stands.{IsStoreOf}
use Rattle.um_model.specs.declared.layout.Layout.{Layout}
use Rattle.um_laws.proofs.DiskLaws.{started}
use Rattle.um_sector.specs.Refused.{CountsDevice}
use Rattle.um_wire.specs.Refusal.{refused_of}
use Rattle.um_wire.specs.declared.refusal.Refusal as declared
use Rattle.um_wire.specs.declared.refusal.Refusal.TheVariants as refusal
use Rattle.um_manager.proofs.Carrying.{grew_none}
use Rattle.um_manager.specs.Orders.{Grew}
use Rattle.um_manager.specs.Replies.{reply_in}
use Rattle.um_manager.specs.Stores.{refusal_of, StoreAnswers, Submits}
use Rattle.um_manager.specs.Places.{Place, LogEnd, is_trusted}
use Rattle.um_manager.specs.Turns.{Answers, each, fell, reopen, Tells, AreSpent, MakesFewCalls, MakesFewerCalls, Leaves, Holds, Submitted, now}
use Rattle.um_manager.specs.declared.submitting.StoreFault.{StoreFault}
use Rattle.um_manager.specs.declared.submitting.StoreFault.TheVariants as fault

-- each input has one answer
pub length-answers : (size : ℕ) (s t : State) (inputs : List Input) (answers : List Answer) → AreAnswered size s inputs answers t → length answers ≡ length inputs
length-answers size s t inputs answers all_answered = refl
length-answers size s t inputs answers (and_next one more) = ap suc (length-answers size _ t _ _ more)

length-fell : (size : ℕ) (s t : State) (inputs : List Input) (answers : List Answer) → FellBack size s inputs answers t → length answers ≡ length inputs
length-fell size s t inputs answers f =
    let denials : List Answer = replicate (length f.rest) (Err refusal.Device) in
    let told = ap (λ (l : List Answer). length l) f.are in
    let both = length-append (map denied f.meant) denials in
    let meant = length-map f.meant denied in
    let left = length-replicate {A = Answer} (length f.rest) (Err refusal.Device) in
    let judged = length-answers size s f.u f.judged f.meant f.were in
    let parts = ap (λ (l : List Input). length l) f.parts in
    let inputs_of = length-append f.judged f.rest in
    omega (arith, told, both, meant, left, judged, parts, inputs_of)

pub length-told : (place : Place) (s t : State) (inputs : List Input) (answers : List Answer) → Answers place s inputs answers t → length answers ≡ length inputs
length-told place s t inputs answers (each are) = length-answers place.size s t inputs answers are
length-told place s t inputs answers (fell back) = length-fell place.size s t inputs answers back
length-told place s t inputs answers (reopen lost are same) = ap (λ (l : List Answer). length l) are ∙ length-replicate (length inputs) (Err refusal.Reopen)

-- each may be turned away for want of memory
all_denied : (size : ℕ) (s : State) (inputs : List Input) → AreAnswered size s inputs (replicate (length inputs) (Err refusal.NoMemory)) s
all_denied size s [] = all_answered
all_denied size s (input ∷ inputs) = and_next (turned_away refl) (all_denied size s inputs)

none_asked : (n : ℕ) (e : declared.Refusal) → all_asked (replicate n (Err e)) ≡ []
none_asked Prim.Native.Nat.zero e = refl
none_asked (suc n) e = none_asked n e

denied_replies : (n : ℕ) (e : declared.Refusal) → replicate n (Refusal (refused_of e)) ≡ map reply_in (replicate n (Err e))
denied_replies Prim.Native.Nat.zero e = refl
denied_replies (suc n) e = ap (λ l. Refusal (refused_of e) ∷ l) (denied_replies n e)

none_new : (n : ℕ) → AreNew n n []
none_new n = record { rises = omega arith; within = λ i number is. cc; once = λ i j number is too. cc }

-- ---- refusals

pub ok_not_err : {T E : Type 0} {x : T} {e : E} → Ok x ≡ Err e → ⊥
ok_not_err p = cc

err_not_ok : {T E : Type 0} {x : T} {e : E} → Err e ≡ Ok x → ⊥
err_not_ok p = cc

memory_not_device : refusal.NoMemory ≡ refusal.Device → ⊥
memory_not_device p = cc

reopen_not_device : refusal.Reopen ≡ refusal.Device → ⊥
reopen_not_device p = cc

pub same_refusal : {T E : Type 0} {d e : E} → ◌≡◌ {A = Result T E} (Err d) (Err e) → d ≡ e
same_refusal p = cc

differs : {b : Bool} → b ≡ true → b ≡ false → ⊥
differs p q = true≢false (sym p ∙ q)

-- ---- the disk

-- where the disk is to be trusted, it does what it answers and no call on it failed
pub trusts : (honest failed : Bool) → IsTrue (is_trusted honest failed) → IsTrue honest × (failed ≡ false)
trusts honest true t = absurd (true≢false (sym t))
trusts honest false t = (t, refl)

pub trusted_in : {honest sure failed : Bool} → honest ≡ sure → failed ≡ false → IsTrue sure → IsTrue (is_trusted honest failed)
trusted_in {honest} {sure} {failed} same working is = subst (λ f. IsTrue (is_trusted honest f)) (sym working) (subst IsTrue (sym same) is)

pub untrusted : (honest : Bool) {failed : Bool} → failed ≡ true → is_trusted honest failed ≡ false
untrusted honest is = ap (is_trusted honest) is

-- a store of the state is one of a beginning of any inputs
pub none_begun : (layout : Layout) (s : State) (inputs : List Input) (image : Image) → IsStoreOf layout image s → IsBegun layout s inputs image
none_begun layout s inputs image is = record { count = 0; state = s; run = rests; store = is }

-- where nothing was offered yet
pub not_begun : {layout : Layout} {s : State} {past : Past} (inputs : List Input) → Images past (λ image. IsStoreOf layout image s) → During past past (IsBegun layout s inputs)
not_begun {layout} {s} {past} inputs stored = started past (IsBegun layout s inputs) (λ image is. none_begun layout s inputs image (stored image is))

kept_on : (place : Place) (s : State) (inputs : List Input) (answers : List Answer) (d e : Past) → e ≡ d → Holds place s d → Leaves place s inputs answers d e
kept_on place s inputs answers d e same holds =
    subst (λ x. During d x (IsBegun place.layout s (taken inputs answers))) (sym same)
    (started d (IsBegun place.layout s (taken inputs answers)) (λ image is. none_begun place.layout s (taken inputs answers) image (holds image is)))

-- ---- a list that is refused as a whole

-- no input that is refused so is answered E16
no_fault_of : (n : ℕ) (e : declared.Refusal) → e ≢ refusal.Device → ¬ HasFault (replicate n (Err e))
no_fault_of n e other has =
    All-contains (λ (a : Answer). a ≢ Err refusal.Device) (replicate n (Err e)) (Err refusal.Device)
    (All-replicate (λ (a : Answer). a ≢ Err refusal.Device) n (Err e) (λ is. other (same_refusal is))) has refl

-- nor is it E20
never_spent : (layout : Layout) (generation size from : ℕ) (s : State) (inputs : List Input) (e : declared.Refusal) → e ≢ refusal.GenerationsSpent
    → AreSpentAt layout generation size from s inputs (replicate (length inputs) (Err e))
never_spent layout generation size from s [] e other = none_spent
never_spent layout generation size from s (input ∷ inputs) e other =
    spent_without (λ is. absurd (other (same_refusal is))) tt (never_spent layout generation size from s inputs e other)

-- and no record is written
never_recorded : (size : ℕ) (s : State) (inputs : List Input) (e : declared.Refusal) → Recorded size s inputs (replicate (length inputs) (Err e)) 0 s
never_recorded size s [] e = all_recorded
never_recorded size s (input ∷ inputs) e = without_record tt (never_recorded size s inputs e)

-- the log is of the same generation, after as many calls
abbrev pub IsQuiet : LogEnd → LogEnd → Type 0
IsQuiet l m = (m.generation ≡ l.generation) × (m.calls ≡ l.calls)

never_called : (place : Place) (s : State) (inputs : List Input) (e : declared.Refusal) (l m : LogEnd) → IsQuiet l m → MakesFewCalls place s inputs (replicate (length inputs) (Err e)) s l m
never_called place s inputs e l m quiet = record {
  sectors = 0;
  recorded = never_recorded place.size s inputs e;
  rises = 0;
  risen_by = omega (arith, quiet.0);
  stays = λ room. refl;
  few = omega (arith, quiet.1);
}

fewer_called : (place : Place) (s : State) (inputs : List Input) (e : declared.Refusal) (l m : LogEnd) → IsQuiet l m → MakesFewerCalls place s inputs (replicate (length inputs) (Err e)) s l m
fewer_called place s inputs e l m quiet none_left one = record { sectors = 0; recorded = never_recorded place.size s inputs e; few = omega (arith, quiet.1) }

memory_not_spent : refusal.NoMemory ≡ refusal.GenerationsSpent → ⊥
memory_not_spent p = cc

reopen_not_spent : refusal.Reopen ≡ refusal.GenerationsSpent → ⊥
reopen_not_spent p = cc

-- a refusal of all inputs is one of each
denied_as : (place : Place) (e : declared.Refusal) (store : Result Unit declared.Refusal) (s : State) (inputs : List Input) (past : List Call) (marks : List ℕ) (d f : Past) (l m : LogEnd) (replies : List Reply) (h w : Bool)
    → e ≢ refusal.GenerationsSpent → IsQuiet l m → Answers place s inputs (replicate (length inputs) (Err e)) s → Tells store place.size s inputs (replicate (length inputs) (Err e)) s
    → replies ≡ replicate (length inputs) (Refusal (refused_of e))
    → (IsTrue place.trusted → Leaves place s inputs (replicate (length inputs) (Err e)) d f) → (IsTrue place.trusted → store ≡ Ok tt → Holds place s f)
    → Submitted place store inputs replies h w (now s past marks [] d l) (now s past marks [] f m)
denied_as place e store s inputs past marks d f l m replies h w other quiet answered tells is leaves holds = record {
  answers = replicate (length inputs) (Err e);
  answered = answered;
  tells = tells;
  order = subst (λ actions. AreNew s.next s.next (started_numbers actions)) (sym (none_asked (length inputs) e)) (none_new s.next);
  spent = λ from free. as_told (never_spent place.layout m.generation place.size from s inputs e other);
  few = λ ok. never_called place s inputs e l m quiet;
  fewer = λ ok. fewer_called place s inputs e l m quiet;
  replies_are = is ∙ denied_replies (length inputs) e;
  grew = λ ho wh. subst (λ actions. Grew s.units past past marks marks actions) (sym (none_asked (length inputs) e)) (grew_none s.units past marks);
  left = leaves;
  stored = holds;
}

tells_memory : (size : ℕ) (s : State) (inputs : List Input) → Tells (Ok tt) size s inputs (replicate (length inputs) (Err refusal.NoMemory)) s
tells_memory size s inputs = record {
  ok = λ is. all_denied size s inputs;
  device = ((λ is. absurd (ok_not_err is)), (λ has. absurd (no_fault_of (length inputs) refusal.NoMemory memory_not_device has)));
  other = λ e is otherwise. absurd (ok_not_err is);
}

tells_reopen : (size : ℕ) (s : State) (inputs : List Input) → Tells (Err refusal.Reopen) size s inputs (replicate (length inputs) (Err refusal.Reopen)) s
tells_reopen size s inputs = record {
  ok = λ is. absurd (err_not_ok is);
  device = ((λ is. absurd (reopen_not_device (same_refusal is))), (λ has. absurd (no_fault_of (length inputs) refusal.Reopen reopen_not_device has)));
  other = λ e is otherwise. (ap (λ x. replicate (length inputs) (Err x)) (same_refusal is), refl);
}

denied_at : (place : Place) (f : StoreFault) (result : Result Unit declared.Refusal) (s : State) (inputs : List Input) (past : List Call) (marks : List ℕ) (d e : Past) (l m : LogEnd) (replies : List Reply) (h w : Bool)
    → StoreAnswers f result → replies ≡ replicate (length inputs) (Refusal (refused_of (refusal_of f)))
    → (f ≡ fault.Reopen → place.trusted ≡ false) → e ≡ d → IsQuiet l m → (IsTrue place.trusted → Holds place s d)
    → Submits place result inputs replies h w (now s past marks [] d l) (now s past marks [] e m)
denied_at place fault.NoMemory result s inputs past marks d e l m replies h w answers is lost same quiet held =
    subst (λ r. Submits place r inputs replies h w (now s past marks [] d l) (now s past marks [] e m)) (sym answers) (
      (λ x. cc),
      denied_as place refusal.NoMemory (Ok tt) s inputs past marks d e l m replies h w memory_not_spent quiet (each (all_denied place.size s inputs)) (tells_memory place.size s inputs) is
          (λ t. kept_on place s inputs (replicate (length inputs) (Err refusal.NoMemory)) d e same (held t))
          (λ t ok. subst (λ x. Holds place s x) (sym same) (held t)),
    )
denied_at place fault.Reopen result s inputs past marks d e l m replies h w answers is lost same quiet held =
    subst (λ r. Submits place r inputs replies h w (now s past marks [] d l) (now s past marks [] e m)) (sym answers) (
      (λ x. cc),
      denied_as place refusal.Reopen (Err refusal.Reopen) s inputs past marks d e l m replies h w reopen_not_spent quiet (reopen (lost refl) refl refl) (tells_reopen place.size s inputs) is
          (λ t. absurd (differs t (lost refl)))
          (λ t ok. absurd (err_not_ok ok)),
    )

pub denied_all : (place : Place) (f : StoreFault) (result : Result Unit declared.Refusal) (s t : State) (inputs : List Input) (past : List Call) (marks : List ℕ) (d e : Past) (l m : LogEnd) (replies : List Reply) (h w : Bool)
    → StoreAnswers f result → t ≡ s → replies ≡ replicate (length inputs) (Refusal (refused_of (refusal_of f)))
    → (f ≡ fault.Reopen → place.trusted ≡ false) → e ≡ d → IsQuiet l m → (IsTrue place.trusted → Holds place s d)
    → Submits place result inputs replies h w (now s past marks [] d l) (now t past marks [] e m)
denied_all place f result s t inputs past marks d e l m replies h w answers same is lost still quiet held =
    subst (λ u. Submits place result inputs replies h w (now s past marks [] d l) (now u past marks [] e m)) (sym same)
    (denied_at place f result s inputs past marks d e l m replies h w answers is lost still quiet held)

-- the list is refused so only where a call failed before
pub refused_reopen : {T : Type 0} (r : Result T declared.Refusal) (x : declared.Refusal) (f : StoreFault) {failed : Bool} → r ≡ Err x → x ≡ refusal_of f
    → ((r ≡ Err refusal.Reopen) ↔ (failed ≡ true)) → f ≡ fault.Reopen → failed ≡ true
refused_reopen r x f is of exactly so = exactly.0 (is ∙ ap Err (of ∙ ap refusal_of so))

-- a refusal of all inputs is none of the device
denied_otherwise : (f : StoreFault) (result : Result Unit declared.Refusal) → StoreAnswers f result → result ≢ Err refusal.Device
denied_otherwise fault.NoMemory result answers is = ok_not_err (sym answers ∙ is)
denied_otherwise fault.Reopen result answers is = reopen_not_device (same_refusal (sym answers ∙ is))

pub failed_denied : (f : StoreFault) (result : Result Unit declared.Refusal) {o n : Bool} → StoreAnswers f result → n ≡ o → ((n ≡ true) ↔ ((o ≡ true) ⊎ (result ≡ Err refusal.Device)))
failed_denied f result answers same = (
  (λ is. inl (sym same ∙ is)),
  (λ either. elim either [ inl was ↦ same ∙ was | inr device ↦ absurd (denied_otherwise f result answers device) ]),
)

-- which refusal it is
pub denied_refused : (f : StoreFault) (result : Result Unit declared.Refusal) → StoreAnswers f result → IfErr result (λ e. (e ≡ refusal.Device) ⊎ (e ≡ refusal.Reopen))
denied_refused fault.NoMemory result answers = subst (λ r. IfErr r (λ e. (e ≡ refusal.Device) ⊎ (e ≡ refusal.Reopen))) (sym answers) tt
denied_refused fault.Reopen result answers = subst (λ r. IfErr r (λ e. (e ≡ refusal.Device) ⊎ (e ≡ refusal.Reopen))) (sym answers) (inr refl)

-- no call on the disk was made
pub denied_counts : (f : StoreFault) (result : Result Unit declared.Refusal) (m n : ℕ) → StoreAnswers f result → n ≡ m → CountsDevice result m n
denied_counts fault.NoMemory result m n answers same = subst (λ r. CountsDevice r m n) (sym answers) same
denied_counts fault.Reopen result m n answers same = subst (λ r. CountsDevice r m n) (sym answers) (inr (reopen_not_device, same))

memory_not_reopen : refusal.NoMemory ≡ refusal.Reopen → ⊥
memory_not_reopen p = cc

-- it is E17 exactly where an earlier call failed
pub denied_reopen : {T : Type 0} {failed : Bool} (r : Result T declared.Refusal) (x : declared.Refusal) (f : StoreFault) (result : Result Unit declared.Refusal) → r ≡ Err x → x ≡ refusal_of f
    → StoreAnswers f result → ((r ≡ Err refusal.Reopen) ↔ (failed ≡ true)) → ((result ≡ Err refusal.Reopen) ↔ (failed ≡ true))
denied_reopen r x fault.NoMemory result is of answers exactly = (
  (λ so. absurd (ok_not_err (sym answers ∙ so))),
  (λ was. absurd (memory_not_reopen (sym of ∙ same_refusal (sym is ∙ exactly.1 was)))),
)
denied_reopen r x fault.Reopen result is of answers exactly = ((λ so. exactly.0 (is ∙ ap Err of)), (λ was. answers))

-- ---- a list of which each input is answered

-- it was taken, or a call on the disk failed
pub answers_of : (place : Place) (s t : State) (inputs : List Input) (answers : List Answer) (failed : Bool) → (failed ≡ false → AreAnswered place.size s inputs answers t)
    → (failed ≡ true → FellBack place.size s inputs answers t) → Answers place s inputs answers t
answers_of place s t inputs answers true taken back = fell (back refl)
answers_of place s t inputs answers false taken back = each (taken refl)

-- the result shows whether one failed
record Reports (failed : Bool) (result : Result Unit declared.Refusal) : Type 0 where
  pub good : result ≡ Ok tt → failed ≡ false
  pub bad : (e : declared.Refusal) → result ≡ Err e → (e ≡ refusal.Device) × (failed ≡ true)
  pub is_bad : failed ≡ true → result ≡ Err refusal.Device

reports_of : (failed : Bool) (result : Result Unit declared.Refusal) → result ≡ (if failed then Err refusal.Device else Ok tt) → Reports failed result
reports_of true result is = record {
  good = λ ok. absurd (err_not_ok (sym is ∙ ok));
  bad = λ e err. (same_refusal (sym err ∙ is), refl);
  is_bad = λ same. is;
}
reports_of false result is = record {
  good = λ ok. refl;
  bad = λ e err. absurd (ok_not_err (sym is ∙ err));
  is_bad = λ same. absurd (true≢false (sym same));
}

-- which refusal it is
pub answered_refused : (failed : Bool) (result : Result Unit declared.Refusal) → result ≡ (if failed then Err refusal.Device else Ok tt)
    → IfErr result (λ e. (e ≡ refusal.Device) ⊎ (e ≡ refusal.Reopen))
answered_refused true result is = subst (λ r. IfErr r (λ e. (e ≡ refusal.Device) ⊎ (e ≡ refusal.Reopen))) (sym is) (inl refl)
answered_refused false result is = subst (λ r. IfErr r (λ e. (e ≡ refusal.Device) ⊎ (e ≡ refusal.Reopen))) (sym is) tt

-- the count of failures rises exactly where it is E16
pub answered_counts : (failed : Bool) (result : Result Unit declared.Refusal) (answers : List Answer) (m n : ℕ) → result ≡ (if failed then Err refusal.Device else Ok tt)
    → ((failed ≡ true) ↔ HasFault answers) → CountsFault answers m n → CountsDevice result m n
answered_counts true result answers m n is told counts =
    subst (λ r. CountsDevice r m n) (sym is) (elim counts [ inl rose ↦ inl (refl, rose.1) | inr still ↦ absurd (still.0 (told.0 refl)) ])
answered_counts false result answers m n is told counts =
    subst (λ r. CountsDevice r m n) (sym is) (elim counts [ inl rose ↦ absurd (true≢false (sym (told.1 rose.0))) | inr still ↦ still.1 ])

-- none is E17 where no earlier call failed
pub answered_reopen : {o : Bool} (failed : Bool) (result : Result Unit declared.Refusal) → result ≡ (if failed then Err refusal.Device else Ok tt) → ¬ (o ≡ true)
    → ((result ≡ Err refusal.Reopen) ↔ (o ≡ true))
answered_reopen failed result is worked =
    let reports = reports_of failed result is in
    ((λ so. absurd (reopen_not_device (reports.bad refusal.Reopen so).0)), (λ was. absurd (worked was)))

tells_of : (size : ℕ) (s t : State) (inputs : List Input) (answers : List Answer) (failed : Bool) (result : Result Unit declared.Refusal) → Reports failed result
    → (failed ≡ false → AreAnswered size s inputs answers t) → ((failed ≡ true) ↔ HasFault answers) → Tells result size s inputs answers t
tells_of size s t inputs answers failed result reports taken told = record {
  ok = λ is. taken (reports.good is);
  device = ((λ is. told.0 (reports.bad refusal.Device is).1), (λ has. reports.is_bad (told.1 has)));
  other = λ e is otherwise. absurd (otherwise (reports.bad e is).0);
}

pub failed_answered : {o : Bool} (n : Bool) (result : Result Unit declared.Refusal) → result ≡ (if n then Err refusal.Device else Ok tt) → ¬ (o ≡ true) → ((n ≡ true) ↔ ((o ≡ true) ⊎ (result ≡ Err refusal.Device)))
failed_answered n result told worked =
    let reports = reports_of n result told in (
      (λ is. inr (reports.is_bad is)),
      (λ either. elim either [ inl was ↦ absurd (worked was) | inr device ↦ (reports.bad refusal.Device device).1 ]),
    )

pub submitted_all : (place : Place) (s t : State) (inputs : List Input) (answers : List Answer) (failed : Bool) (result : Result Unit declared.Refusal) (old new : List Call) (marks marked : List ℕ) (d e : Past)
    (l m : LogEnd) (replies : List Reply) (h w : Bool) → result ≡ (if failed then Err refusal.Device else Ok tt)
    → (failed ≡ false → AreAnswered place.size s inputs answers t) → (failed ≡ true → FellBack place.size s inputs answers t) → ((failed ≡ true) ↔ HasFault answers)
    → AreNew s.next t.next (started_numbers (all_asked answers)) → AreSpent place s inputs answers l m → (failed ≡ false → MakesFewCalls place s inputs answers t l m) → (failed ≡ false → MakesFewerCalls place s inputs answers t l m) → replies ≡ map reply_in answers
    → (IsTrue h → IsTrue w → Grew t.units old new marks marked (all_asked answers))
    → (IsTrue place.trusted → During d e (IsBegun place.layout s (taken inputs answers))) → (IsTrue place.trusted → failed ≡ false → Holds place t e)
    → Submits place result inputs replies h w (now s old marks [] d l) (now t new marked [] e m)
submitted_all place s t inputs answers failed result old new marks marked d e l m replies h w reported taken back told order spent few fewer is grew leaves holds =
    let reports = reports_of failed result reported in (
      (λ x. absurd (memory_not_device (reports.bad refusal.NoMemory x).0)),
      record {
        answers = answers;
        answered = answers_of place s t inputs answers failed taken back;
        tells = tells_of place.size s t inputs answers failed result reports taken told;
        order = order;
        spent = spent;
        few = λ ok. few (reports.good ok);
        fewer = λ ok. fewer (reports.good ok);
        replies_are = is;
        grew = grew;
        left = leaves;
        stored = λ y ok. holds y (reports.good ok);
      },
    )
