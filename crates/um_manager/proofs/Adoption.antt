-- The parts of adoption, taken together.
use Rattle.std.proofs.Common.{◌≡◌, ◌||◌, ◌⊎◌, inl, inr, ℕ, zero, suc, List, [], ◌∷◌, ◌++◌, length, map, replicate, Bool, true, false, true≢false, IsTrue, Result, Ok, Err, refl, sym, ap, subst, ◌∙◌, append_assoc, append-nil}
use Rattle.std.proofs.lemmas.List.{map-append}
use Rattle.um_engine.specs.OfStore.{is_of_store}
use Rattle.um_keeper.specs.Answering.{Answer, Answered, accepted, refused as declined, turned_away, AreAnswered, all_answered, and_next, FellBack, HasFault, denied, is_turned_away, all_asked}
use Rattle.um_laws.proofs.AmongLaws.{among_contained}
use Rattle.um_model.proofs.LeastLaws.{Among}
use Rattle.std.specs.List.{list_any}
use Rattle.um_children.specs.History.{lets_any}
use Rattle.um_model.specs.Children.{Call, ForgotOthers, Signalled as sent, orders, tales, refused}
use Rattle.um_model.specs.Disk.{Past}
use Rattle.um_model.specs.Machine.{State, Input, Reply}
use Rattle.um_model.specs.Service.{ByUnit, Action, SendSignal}
use Rattle.um_model.specs.declared.service.Signal.{Signal}
use Rattle.um_model.specs.declared.service.Signal.TheVariants.{Term, Kill}
use Rattle.um_model.specs.declared.service.SubState.{SubState}
use Rattle.um_model.specs.declared.service.SubState.TheVariants.{StopSigterm, StopSigkill}
use Rattle.um_model.specs.declared.service.UnitState.{UnitState}
use Rattle.um_wire.specs.declared.refusal.Refusal.{Refusal}
use Rattle.um_wire.specs.declared.refusal.Refusal.TheVariants.{Device, Reopen}
use Rattle.um_fates.specs.Fates.{Heard, asks_for, lost}
use Rattle.um_fates.specs.Live.{has, AreLive, HasFewLive, IsIn, AreIn, none, chosen_next, passed_over}
use Rattle.um_manager.proofs.Carrying.{grew_more, none_given}
use Rattle.um_manager.proofs.Offering.{same_refusal}
use Rattle.um_manager.proofs.Turning.{called}
use Rattle.um_manager.specs.Opening.{Signalled, Adopted, CallsOf, Ends}
use Rattle.um_manager.specs.Orders.{Grew, signals}
use Rattle.um_manager.specs.Places.{Place, LogEnd}
use Rattle.um_manager.specs.Stores.{Submits}
use Rattle.um_manager.specs.Turns.{now, Answers, each, fell, reopen, Tells, AreSpent, MakesFewCalls, Leaves}

joined : (units : ByUnit UnitState) (sub : SubState) (ms ks ns ls : List ℕ) → AreIn units sub ms ks → AreIn units sub ns ls → AreIn units sub (ms ++ ns) (ks ++ ls)
joined units sub ms ks ns ls none q = q
joined units sub ms ks ns ls (chosen_next is p) q = chosen_next is (joined units sub _ _ ns ls p q)
joined units sub ms ks ns ls (passed_over isnt p) q = passed_over isnt (joined units sub _ _ ns ls p q)

sent-append : (signal : Signal) (ks ls : List ℕ) → map (λ n. sent n signal) (ks ++ ls) ≡ map (λ n. sent n signal) ks ++ map (λ n. sent n signal) ls
sent-append signal ks ls = map-append (λ n. sent n signal) ks ls

pub signalled_none : (units : ByUnit UnitState) (sub : SubState) (signal : Signal) (a : List Call) → Signalled units sub signal [] a a
signalled_none units sub signal a = record { chosen = []; are = none; past_is = sym (append-nil a) }

pub signalled_more : (units : ByUnit UnitState) (sub : SubState) (signal : Signal) (ms ns : List ℕ) (a b c : List Call) → Signalled units sub signal ms a b → Signalled units sub signal ns b c → Signalled units sub signal (ms ++ ns) a c
signalled_more units sub signal ms ns a b c p q = record {
  chosen = p.chosen ++ q.chosen;
  are = joined units sub ms p.chosen ns q.chosen p.are q.are;
  past_is = q.past_is ∙ ap (λ l. l ++ map (λ n. sent n signal) q.chosen) p.past_is ∙ append_assoc a (map (λ n. sent n signal) p.chosen) (map (λ n. sent n signal) q.chosen)
      ∙ ap (λ l. a ++ l) (sym (sent-append signal p.chosen q.chosen));
}

pub signalled_it : (units : ByUnit UnitState) (sub : SubState) (signal : Signal) (n : ℕ) (a b : List Call) → IsIn units sub n → b ≡ a ++ sent n signal ∷ [] → Signalled units sub signal (n ∷ []) a b
signalled_it units sub signal n a b is e = record { chosen = n ∷ []; are = chosen_next is none; past_is = e }

pub signalled_not : (units : ByUnit UnitState) (sub : SubState) (signal : Signal) (n : ℕ) (a : List Call) → ¬ IsIn units sub n → Signalled units sub signal (n ∷ []) a a
signalled_not units sub signal n a isnt = record { chosen = []; are = passed_over isnt none; past_is = sym (append-nil a) }

-- ---- signals in the history

sent_orders : (signal : Signal) (ns : List ℕ) → orders (map (λ n. sent n signal) ns) ≡ signals signal ns
sent_orders signal [] = refl
sent_orders signal (n ∷ ns) = ap (λ l. SendSignal n signal ∷ l) (sent_orders signal ns)

sent_tales : (signal : Signal) (ns : List ℕ) → tales (map (λ n. sent n signal) ns) ≡ []
sent_tales signal [] = refl
sent_tales signal (n ∷ ns) = sent_tales signal ns

sent_refusals : (signal : Signal) (ns : List ℕ) → refused (map (λ n. sent n signal) ns) ≡ []
sent_refusals signal [] = refl
sent_refusals signal (n ∷ ns) = sent_refusals signal ns

sent_kept : (signal : Signal) (ns : List ℕ) → list_any lets_any (map (λ n. sent n signal) ns) ≡ false
sent_kept signal [] = refl
sent_kept signal (n ∷ ns) = sent_kept signal ns

or_false : (a : Bool) → (a || false) ≡ a
or_false true = refl
or_false false = refl

-- a signal after the others starts no process
grew_signals : (units : ByUnit UnitState) (signal : Signal) (ns : List ℕ) (a b : List Call) (marks : List ℕ) → b ≡ a ++ map (λ n. sent n signal) ns → Grew units a b marks marks (signals signal ns)
grew_signals units signal ns a b marks is = record {
  given = map (λ n. sent n signal) ns;
  past_is = is;
  orders_are = sent_orders signal ns;
  no_tale = sent_tales signal ns;
  kept = sent_kept signal ns;
  marks_are = λ few n live. sym (ap (λ l. has n marks || has n l) (sent_refusals signal ns) ∙ or_false (has n marks));
}

-- marks of exactly the live numbers, and those beside them
marked_live : {units : ByUnit UnitState} {a b : List Call} {live marks marked : List ℕ} {actions : List Action} → ((n : ℕ) → has n marks ≡ has n live) → Grew units a b marks marked actions
    → Grew units a b live marked actions
marked_live same grew = record {
  given = grew.given;
  past_is = grew.past_is;
  orders_are = grew.orders_are;
  no_tale = grew.no_tale;
  kept = grew.kept;
  marks_are = λ few n live. grew.marks_are few n live ∙ ap (λ b. b || has n (refused grew.given)) (same n);
}

-- ---- adoption

-- fates that were queried after another call
pub heard_behind : (moment : ℕ) (claims : ℕ → Bool) (h k w v : Bool) (a b c : List Call) (ns : List ℕ) (x y : List Input) → (IsTrue h → IsTrue k) → (IsTrue w → IsTrue v)
    → (IsTrue h → IsTrue v → b ≡ a) → Heard lost moment claims k w b c ns x y → Heard lost moment claims h w a c ns x y
heard_behind moment claims h k w v a b c ns x y same fewer is heard = record {
  told = heard.told;
  of_live = heard.of_live;
  inputs_are = heard.inputs_are;
  past_is = λ honest whole. heard.past_is (same honest) whole ∙ ap (λ l. l ++ map asks_for heard.told) (is honest (fewer whole));
}

ok_isnt_err : {e : Refusal} → (◌≡◌ {A = Result Unit Refusal} (Ok tt) (Err e)) → ⊥
ok_isnt_err is = cc

pub adopted : (place : Place) (moment : ℕ) (s t : State) (old heard grown new : List Call) (live marks marked : List ℕ) (d e : Past) (p q : LogEnd) (inputs : List Input) (replies : List Reply)
    (h k l w v m : Bool) → AreLive s.units live → HasFewLive t.units → ((n : ℕ) → has n marks ≡ has n live) → Heard lost moment (λ n. true) h m (old ++ ForgotOthers live s.next ∷ []) heard live [] inputs
    → Submits place (Ok tt) inputs replies k v (now s heard marks [] d p) (now t grown marked [] e q)
    → (IsTrue l → IsTrue w → Ends t.units live grown new)
    → (IsTrue h → IsTrue k) → (IsTrue h → IsTrue l) → (IsTrue w → IsTrue v) → (IsTrue v → IsTrue m)
    → Adopted place h w (Ok tt) moment (now s old marks [] d p) (now t new marked [] e q)
adopted place moment s t old heard grown new live marks marked d e p q inputs replies h k l w v m are_live few marks_live told submits ends hk hl wv vm =
    let sub = submits.1 in
    record {
      live = live;
      are_live = are_live;
      told = told.told;
      of_live = told.of_live;
      answers = sub.answers;
      answered = subst (λ l. Answers place s l sub.answers t) told.inputs_are sub.answered;
      tells = subst (λ l. Tells (Ok tt) place.size s l sub.answers t) told.inputs_are sub.tells;
      order = sub.order;
      spent = subst (λ l. AreSpent place s l sub.answers p q) told.inputs_are sub.spent;
      few = λ ok. subst (λ l. MakesFewCalls place s l sub.answers t p q) told.inputs_are (sub.few ok);
      left = λ x. subst (λ l. Leaves place s l sub.answers d e) told.inputs_are (sub.left x);
      stored = sub.stored;
      called = λ honest whole.
          let end = ends (hl honest) whole in
          let term = end.terms in
          let kill = end.kills in
          let grew = marked_live marks_live (sub.grew (hk honest) (wv whole)) in
          record {
            termed = term.chosen;
            are_termed = term.are;
            killed = kill.chosen;
            are_killed = kill.are;
            called = called t.units (Ok tt) told.told (all_asked sub.answers ++ (signals Term term.chosen ++ signals Kill kill.chosen)) (old ++ ForgotOthers live s.next ∷ []) heard end.killed new live
                marked few (told.past_is honest (vm (wv whole)))
                (grew_more t.units heard grown end.killed live marked marked (all_asked sub.answers) (signals Term term.chosen ++ signals Kill kill.chosen) grew
                (grew_more t.units grown end.termed end.killed marked marked marked (signals Term term.chosen) (signals Kill kill.chosen)
                (grew_signals t.units Term term.chosen grown end.termed marked term.past_is) (grew_signals t.units Kill kill.chosen end.termed end.killed marked kill.past_is)))
                end.let_go (λ x is. absurd (ok_isnt_err is));
          };
    }

-- no order is given where the store failed
none_asked : (meant : List Answer) (count : ℕ) → all_asked (map denied meant ++ replicate count (Err Device)) ≡ []
none_asked [] zero = refl
none_asked [] (suc count) = none_asked [] count
none_asked (Ok given ∷ meant) count = none_asked meant count
none_asked (Err e ∷ meant) count = none_asked meant count

pub none_again : (count : ℕ) (e : Refusal) → all_asked (replicate count (Err e)) ≡ []
none_again zero e = refl
none_again (suc count) e = none_again count e

one_fault : {size : ℕ} {s t : State} {input : Input} {answer : Answer} → Answered size s input answer t → Err Device ≡ answer → ⊥
one_fault (accepted step ok) is = cc
one_fault (declined {e} of_step stays step) is = true≢false (ap is_of_store (same_refusal is) ∙ of_step)
one_fault (turned_away {e} away) is = true≢false (sym away ∙ sym (ap is_turned_away (same_refusal is)))

no_fault : {size : ℕ} {s t : State} {inputs : List Input} {answers : List Answer} → AreAnswered size s inputs answers t → Among answers (Err Device) → ⊥
no_fault all_answered among = absurd among
no_fault (and_next one more) (inl is) = one_fault one is
no_fault (and_next one more) (inr later) = no_fault more later

pub asks_none : (place : Place) (size : ℕ) (s t : State) (inputs : List Input) (answers : List Answer) → Answers place s inputs answers t → HasFault answers → all_asked answers ≡ []
asks_none place size s t inputs answers (each are) fault = absurd (no_fault are (among_contained answers (Err Device) fault))
asks_none place size s t inputs answers (fell back) fault = ap all_asked back.are ∙ none_asked back.meant (length back.rest)
asks_none place size s t inputs answers (reopen untrusted are same) fault = ap all_asked are ∙ none_again (length inputs) Reopen

-- if the store failed all but the live numbers were forgotten, the fates were queried, and nothing else
pub unadopted_calls : (place : Place) (store : Result Unit Refusal) (moment : ℕ) (s t : State) (old heard new : List Call) (live marks marked : List ℕ) (d e : Past) (p q : LogEnd) (inputs : List Input)
    (replies : List Reply) (h k w v m : Bool) → AreLive s.units live → Heard lost moment (λ n. true) h m (old ++ ForgotOthers live s.next ∷ []) heard live [] inputs
    → Submits place store inputs replies k v (now s heard marks [] d p) (now t new marked [] e q) → store ≡ Err Device
    → (IsTrue h → IsTrue k) → (IsTrue w → IsTrue v) → (IsTrue v → IsTrue m)
    → Adopted place h w store moment (now s old marks [] d p) (now t new marked [] e q)
unadopted_calls place store moment s t old heard new live marks marked d e p q inputs replies h k w v m are_live told submits device hk wv vm =
    let sub = submits.1 in
    record {
      live = live;
      are_live = are_live;
      told = told.told;
      of_live = told.of_live;
      answers = sub.answers;
      answered = subst (λ l. Answers place s l sub.answers t) told.inputs_are sub.answered;
      tells = subst (λ l. Tells store place.size s l sub.answers t) told.inputs_are sub.tells;
      order = sub.order;
      spent = subst (λ l. AreSpent place s l sub.answers p q) told.inputs_are sub.spent;
      few = λ ok. subst (λ l. MakesFewCalls place s l sub.answers t p q) told.inputs_are (sub.few ok);
      left = λ x. subst (λ l. Leaves place s l sub.answers d e) told.inputs_are (sub.left x);
      stored = sub.stored;
      called = λ honest whole.
          let grew = sub.grew (hk honest) (wv whole) in
          let none = none_given grew.given (grew.orders_are ∙ asks_none place place.size s t inputs sub.answers sub.answered (sub.tells.device.0 device)) grew.no_tale grew.kept in
          subst (λ r. CallsOf r t.units live s.next told.told (all_asked sub.answers) old new marked) (sym device)
          (grew.past_is ∙ ap (λ l. heard ++ l) none ∙ append-nil heard ∙ told.past_is honest (vm (wv whole))
          ∙ append_assoc old (ForgotOthers live s.next ∷ []) (map asks_for told.told));
    }
