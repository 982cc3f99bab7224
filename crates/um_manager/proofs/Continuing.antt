-- A life goes on with the calls of its manager.
use Rattle.std.proofs.Common.{◌≡◌, ◌≢◌, ◌⊎◌, ◌∙◌, inl, inr, ℕ, zero, suc, Bool, true, false, List, [], ◌∷◌, ◌++◌, map, length, take, drop, Option, Some, None, Result, Ok, Err, slice_get, get_or, set, ◌<◌, append_assoc, append-nil, refl, sym, ap, subst, arith}
use Rattle.std.specs.Bool.{IsTrue}
use Rattle.std.proofs.lemmas.Bool.{false≢true}
use Rattle.um_fates.specs.Fates.{asks_for}
use Rattle.um_keeper.specs.Answering.{Answer, all_asked}
use Rattle.um_keeper.specs.Offers.{offers, untold_offers}
use Rattle.um_model.proofs.TimersLaws.{same_number}
use Rattle.um_model.specs.Children.{Call, ForgotOthers, orders}
use Rattle.um_model.specs.Disk.{Image, Past, During}
use Rattle.um_model.specs.Lives.{Offer}
use Rattle.um_model.specs.Machine.{State, Input}
use Rattle.um_model.specs.Sessions.{Session, Does, Take}
use Rattle.um_model.specs.Store.{body_limit}
use Rattle.um_model.specs.declared.layout.Layout.{Layout}
use Rattle.um_wire.specs.declared.refusal.Refusal.{Refusal}
use Rattle.um_wire.specs.declared.refusal.Refusal.TheVariants.{NoMemory, Device}
use Rattle.um_manager.proofs.Adoption.{asks_none, none_again}
use Rattle.um_manager.proofs.Living.{orders_both, orders_told, is_sure, store_ok, untouched}
use Rattle.um_manager.specs.Going.{IsJustOpened, IsTurn, is_turn, is_none, IsTaking, is_taking, offers_told, offers_in_turn, told_before, stopped, EndsThere, IsRefusedLife, Continues, goes_on, has_stopped}
use Rattle.um_manager.specs.Connections.{AllSame}
use Rattle.um_manager.specs.Done.{IsTaken, TakesOut}
use Rattle.um_manager.specs.Histories.{History, opens, turns, takes, told_to, answered_at, offers_in, HasGoneOn, AreTrusted}
use Rattle.um_manager.specs.Living.{ManagerLife, Way, behind, in_turn, in_refused, offers_of, told_of, IsByDisk, OrdersNone, IsByChildren}
use Rattle.um_manager.specs.Offered.{offered_in, offers_of_turn, all_untold, untold_of_refused}
use Rattle.um_manager.specs.Opening.{Opened, IsRefused, untaken, taken_up, unbooted, unadopted}
use Rattle.um_manager.specs.Places.{Place, place, place_on}
use Rattle.um_manager.specs.Replies.{IsOutput}
use Rattle.um_manager.specs.Scripts.{Runs, Stops, AreTurns, no_step, last_step, and_step, offers_in_turns}
use Rattle.um_manager.specs.Turns.{Now, Answers, Tells, first_refusal, Turned, Turns, Untouched, IsMeanwhile}
use Rattle.um_manager.specs.declared.pieces.Piece.{Piece}
use Rattle.um_manager.specs.declared.script.Step.{Step}

-- ---- a turn that the store refused

-- one refusal among all
is_device : (e : Refusal) → (e ≡ Device) ⊎ (e ≢ Device)
is_device Device = inl refl
is_device other = inr (λ is. cc)

pub is_want : (result : Result Unit Refusal) → (result ≡ Err NoMemory) ⊎ (result ≢ Err NoMemory)
is_want (Ok tt) = inr (λ is. cc)
is_want (Err NoMemory) = inl refl
is_want (Err other) = inr (λ is. cc)

-- a store that refused a list has nothing to ask for
nothing_asked : (place : Place) (size : ℕ) (s t : State) (inputs : List Input) (answers : List Answer) (store : Result Unit Refusal) (e : Refusal)
    → Answers place s inputs answers t → Tells store size s inputs answers t → store ≡ Err e → all_asked answers ≡ []
nothing_asked place size s t inputs answers store e told tells is = elim (is_device e) [
  | inl device ↦ asks_none place size s t inputs answers told (tells.device.0 (is ∙ ap Err device))
  | inr other ↦ ap all_asked (tells.other e is other).0 ∙ none_again (length inputs) e
]

-- a turn whose store refused gave the children no order
silent_turn : {at : Place} {result : Result Unit Refusal} {moment : ℕ} {pieces : List Piece} {a b : Now} (turned : Turned at true true result moment pieces a b) (e : Refusal)
    → turned.store ≡ Err e → (more : List Call) × (orders more ≡ []) × (a.past ++ more ≡ b.past)
silent_turn {at} {a = a} {b = b} turned e refused =
    let called = turned.called refl refl in
    let given = map asks_for turned.told ++ called.given in
    let none : all_asked turned.answers ≡ [] =
    nothing_asked at _ a.state b.state (offered_in turned) turned.answers turned.store e turned.answered turned.tells refused in (
      given,
      orders_both (map asks_for turned.told) called.given ∙ ap (λ l. l ++ orders called.given) (orders_told turned.told) ∙ called.orders_are ∙ none,
      sym called.past_is,
    )

err_not_ok : (result : Result Unit Refusal) (e : Refusal) → result ≡ Err e → result ≡ Ok tt → ⊥
err_not_ok result e is ok = cc

module _ (layout : Layout) {disk : Past} {before : List Call} where
  -- where a life stops in a turn that its store refused
  stop_in_turn : {at : Place} (honest whole : Bool) {result : Result Unit Refusal} {moment : ℕ} {pieces : List Piece} {a b : Now} (past : History disk before a)
      (turned : Turned at honest whole result moment pieces a b) (e : Refusal) → HasGoneOn layout past → at ≡ place_on layout → turned.store ≡ Err e
      → (life : ManagerLife)
      × EndsThere layout (turns past turned) (offers_in past ++ all_untold (offers_of_turn turned)) (λ k. told_before k (turns past turned)) life
  stop_in_turn {at} honest whole {a = a} {b = b} past turned e gone is refused =
      let left = turned.left (is_sure layout at is) in (
        stopped (in_turn past turned) b.disk b.past,
        record {
          by_disk = (gone, is, record { calls = left.calls; later = []; at_is = left.is; new_is = refl });
          found = refl;
          stop = refl;
          offers = refl;
          told_is = λ k. refl;
          asked = λ trust. ((trust.0, none honest whole turned refused trust.1 trust.2), refl, refl);
        },
      )
    where
      none : {at : Place} (honest whole : Bool) {result : Result Unit Refusal} {moment : ℕ} {pieces : List Piece} {a b : Now}
          (turned : Turned at honest whole result moment pieces a b) → turned.store ≡ Err e → IsTrue honest → IsTrue whole → OrdersNone a.past b.past
      none true true turned refused sure known =
          let (more, empty, all) = silent_turn turned e refused in
          (more, sym all, empty)
      none true false turned refused sure known = absurd (false≢true known)
      none false whole turned refused sure known = absurd (false≢true sure)

  -- a life goes on with a turn by the answer of its store
  pub turned_continues : {at : Place} (honest whole : Bool) (result : Result Unit Refusal) {moment : ℕ} {pieces : List Piece} {a b : Now} (past : History disk before a)
      (turned : Turned at honest whole result moment pieces a b) (store : Result Unit Refusal) → turned.store ≡ store → HasGoneOn layout past → at ≡ place_on layout
      → Continues layout past (turns past turned) (offers_told turned.store (offers_of_turn turned)) result
  turned_continues honest whole result past turned (Ok tt) answered gone is =
      goes_on (gone, is, answered) (ap (λ r. offers_in past ++ offers_told r (offers_of_turn turned)) (sym answered))
  turned_continues honest whole result past turned (Err e) answered gone is =
      let (life, ends) = stop_in_turn honest whole past turned e gone is answered in
      has_stopped (err_not_ok result e (turned.result_is ∙ ap (λ r. first_refusal r turned.behind) answered)) life
      (subst (λ l. EndsThere layout (turns past turned) l (λ k. told_before k (turns past turned)) life)
      (ap (λ r. offers_in past ++ offers_told r (offers_of_turn turned)) (sym answered)) ends)

  pub turn_continues : {at : Place} {honest whole : Bool} {result : Result Unit Refusal} {moment : ℕ} {pieces : List Piece} {a b : Now} (past : History disk before a)
      (all : History disk before b) (turn : IsTurn at honest whole result moment pieces past all) → HasGoneOn layout past → at ≡ place_on layout
      → Continues layout past all (offers_in_turn turn) result
  turn_continues {honest = honest} {whole = whole} {result = result} past all (is_turn turned) gone is =
      turned_continues honest whole result past turned turned.store refl gone is
  turn_continues past all (is_none want still out) gone is = goes_on gone (sym (append-nil (offers_in past)))

  -- calls after one that ended Ok
  pub further : {a mid b : Now} (past : History disk before a) (so_far : History disk before mid) (all : History disk before b) (first more : List Offer) (result : Result Unit Refusal)
      → offers_in so_far ≡ offers_in past ++ first → Continues layout so_far all more result → Continues layout past all (first ++ more) result
  further past so_far all first more result are (goes_on gone is) =
      goes_on gone (is ∙ ap (λ l. l ++ more) are ∙ append_assoc (offers_in past) first more)
  further past so_far all first more result are (has_stopped refused life ends) =
      has_stopped refused life
      (subst (λ l. EndsThere layout all l (λ k. told_before k all) life) (ap (λ l. l ++ more) are ∙ append_assoc (offers_in past) first more) ends)

  pub turns_continue : {at : Place} {honest whole : Bool} (steps : List Step) (result : Result Unit Refusal) {a b : Now} (past : History disk before a) (all : History disk before b)
      (run : AreTurns at honest whole steps result a b past all) → HasGoneOn layout past → at ≡ place_on layout → Continues layout past all (offers_in_turns run) result
  turns_continue steps result past all no_step gone is = goes_on gone (sym (append-nil (offers_in past)))
  turns_continue steps result past all (last_step refused turn) gone is = turn_continues past all turn gone is
  turns_continue steps result past all (and_step {steps = later} turned rest) gone is =
      let answered = store_ok turned.store turned.behind turned.result_is in
      further past (turns past turned) all (offers_told turned.store (offers_of_turn turned)) (offers_in_turns rest) result
      (ap (λ r. offers_in past ++ offers_told r (offers_of_turn turned)) (sym answered))
      (turns_continue later result (turns past turned) all rest (gone, is, answered) is)

-- ---- how the history goes on

none_taken_at : (k : ℕ) (ts us : List Session) → AllSame ts us → IsTaken (slice_get ts k) (slice_get us k)
none_taken_at k [] [] same = tt
none_taken_at k [] (u ∷ us) same = absurd same
none_taken_at k (t ∷ ts) [] same = absurd same
none_taken_at zero (t ∷ ts) (u ∷ us) same = inl same.0
none_taken_at (suc k) (t ∷ ts) (u ∷ us) same = none_taken_at k ts us same.1

-- after a turn that found no memory nothing is taken
pub none_taken : (a b : Now) → Untouched a b → TakesOut a b
none_taken a b same = record { rest = untouched a b same; each = λ k low. none_taken_at k a.sessions b.sessions same.sessions }

pub turn_goes_on : {at : Place} {honest whole : Bool} (result : Result Unit Refusal) {moment : ℕ} {pieces : List Piece} {disk : Past} {before : List Call} {a b : Now}
    (past : History disk before a) → Turns at result honest whole moment pieces a b
    → (all : History disk before b) × IsTurn at honest whole result moment pieces past all
turn_goes_on result past call = elim (is_want result) [
  | inl want ↦ (takes past (none_taken _ _ (call.0 want)), is_none want (call.0 want) (none_taken _ _ (call.0 want)))
  | inr other ↦ (turns past (call.1 other), is_turn (call.1 other))
]

pub script_goes_on : {at : Place} {honest whole : Bool} (steps : List Step) (result : Result Unit Refusal) {disk : Past} {before : List Call} (a b : Now) (past : History disk before a)
    → Runs at honest whole steps result a b → (all : History disk before b) × AreTurns at honest whole steps result a b past all
script_goes_on {at} {honest} {whole} [] result {disk} {before} a b past runs =
    subst (λ (n : Now). (all : History disk before n) × AreTurns at honest whole [] result a n past all) (sym runs.1)
    (subst (λ r. (all : History disk before a) × AreTurns at honest whole [] r a a past all) (sym runs.0) (past, no_step))
script_goes_on {at} {honest} {whole} (step ∷ steps) result a b past (inl stops) =
    let call : Turns at result honest whole step.moment step.pieces a b = (stops.1, stops.2) in
    let (all, turn) = turn_goes_on result past call in
    (all, last_step stops.0 turn)
script_goes_on (step ∷ steps) result a b past (inr (mid, turned, rest)) =
    let (all, run) = script_goes_on steps result mid b (turns past turned) rest in
    (all, and_step turned run)

-- the same of sessions and pieces that are borrowed
pub turn_history : {at : Place} {honest whole : Bool} {result : Result Unit Refusal} {moment : ℕ} {lent pieces : List Piece} {a b : Now} {old new : List Session} → lent ≡ pieces
    → a.sessions ≡ old → b.sessions ≡ new → Turns at result honest whole moment lent a b → {disk : Past} {before : List Call}
    (past : History disk before (record a { sessions = old })) → (all : History disk before (record b { sessions = new })) × IsTurn at honest whole result moment pieces past all
turn_history {at} {honest} {whole} {result} {moment} {lent} {pieces} {a} {b} {old} {new} same was is call past =
    turn_goes_on result past
    (subst (λ (ps : List Piece). Turns at result honest whole moment ps (record a { sessions = old }) (record b { sessions = new })) same
    (subst (λ (l : List Session). Turns at result honest whole moment lent (record a { sessions = l }) (record b { sessions = new })) was
    (subst (λ (l : List Session). Turns at result honest whole moment lent a (record b { sessions = l })) is call)))

pub script_history : {at : Place} {honest whole : Bool} (steps : List Step) {result : Result Unit Refusal} {a b : Now} {old new : List Session} → a.sessions ≡ old
    → b.sessions ≡ new → Runs at honest whole steps result a b → {disk : Past} {before : List Call} (past : History disk before (record a { sessions = old }))
    → (all : History disk before (record b { sessions = new })) × AreTurns at honest whole steps result (record a { sessions = old }) (record b { sessions = new }) past all
script_history {at} {honest} {whole} steps {result} {a} {b} {old} {new} was is runs past =
    script_goes_on steps result (record a { sessions = old }) (record b { sessions = new }) past
    (subst (λ (l : List Session). Runs at honest whole steps result (record a { sessions = l }) (record b { sessions = new })) was
    (subst (λ (l : List Session). Runs at honest whole steps result a (record b { sessions = l })) is runs))

-- ---- openings

-- a history that was just opened over a disk that does what it answers has gone on
pub just_gone : (layout : Layout) (honest whole : Bool) (moment : ℕ) (boot : List ℕ) (count sectors : ℕ) {disk : Past} {before : List Call} {b : Now} (past : History disk before b)
    → IsJustOpened (place_on layout) honest whole moment boot count sectors past → HasGoneOn layout past
just_gone layout honest whole moment boot count sectors (opens sessions opened anew) is = is.0
just_gone layout honest whole moment boot count sectors (turns past turned) is = absurd is
just_gone layout honest whole moment boot count sectors (takes past out) is = absurd is

-- an opening that is refused gave the children no order
refused_calls : (layout : Layout) {moment : ℕ} {boot : List ℕ} {sectors : ℕ} {disk left : Past} {past calls : List Call}
    → IsRefused layout true true moment boot sectors disk left past calls → (more : List Call) × (orders more ≡ []) × (past ++ more ≡ calls)
refused_calls layout {past = past} (untaken none stays) = ([], refl, append-nil past ∙ sym none)
refused_calls layout {past = past} (taken_up a b found unasked stays (unbooted same quiet during) disk_is calls_is) =
    ([], refl, append-nil past ∙ sym (calls_is ∙ quiet ∙ unasked))
refused_calls layout {past = past} (taken_up a b found unasked stays (unadopted device began) disk_is calls_is) =
    let more = ForgotOthers began.adopted.live began.mid.state.next ∷ map asks_for began.adopted.told in
    (more, orders_told began.adopted.told, sym (calls_is ∙ began.adopted.called refl refl ∙ ap (λ p. p ++ more) (began.asked_none ∙ unasked)))

-- A life that was an opening which was refused, and no more.
pub refused_life : (layout : Layout) (honest whole : Bool) {moment : ℕ} {boot : List ℕ} {sectors : ℕ} {disk left : Past} {past calls : List Call}
    → IsMeanwhile disk left left → (refused : IsRefused layout honest whole moment boot sectors disk left past calls) → (life : ManagerLife) × IsRefusedLife layout refused life
refused_life layout honest whole {disk = disk} {left = left} {calls = calls} while refused = (
  stopped (in_refused refused) left calls,
  record {
    by_disk = (refl, while);
    found = refl;
    stop = refl;
    offers = refl;
    told_is = λ k. refl;
    asked = λ sure known. (none honest whole refused sure known, refl, refl);
  },
)
  where
    none : (honest whole : Bool) {moment : ℕ} {boot : List ℕ} {sectors : ℕ} {disk left : Past} {past calls : List Call}
        → IsRefused layout honest whole moment boot sectors disk left past calls → IsTrue honest → IsTrue whole → OrdersNone past calls
    none true true refused sure known =
        let (more, empty, all) = refused_calls layout refused in
        (more, sym all, empty)
    none true false refused sure known = absurd (false≢true known)
    none false whole refused sure known = absurd (false≢true sure)

all_taken : {X : Type 0} (xs : List X) → take (length xs) (xs ++ []) ≡ xs
all_taken [] = refl
all_taken (x ∷ xs) = ap (λ l. x ∷ l) (all_taken xs)

all_dropped : {X : Type 0} (xs ys : List X) → length ys ≡ length xs → drop (length xs) ys ≡ []
all_dropped [] [] same = refl
all_dropped [] (y ∷ ys) same = absurd (omega (arith, same))
all_dropped (x ∷ xs) [] same = refl
all_dropped (x ∷ xs) (y ∷ ys) same = all_dropped xs ys (omega (arith, same))

-- a borrow of a whole list puts it back
pub put_back : {X : Type 0} (n : ℕ) (xs ys : List X) → length xs ≡ n → length ys ≡ n → xs ≡ take n (xs ++ drop (length xs) ys)
put_back n xs ys is was = sym
    (ap (λ l. take n (xs ++ l)) (all_dropped xs ys (was ∙ sym is)) ∙ ap (λ k. take k (xs ++ [])) (sym is) ∙ all_taken xs)

-- ---- between two calls

-- after the answer of its store a manager's disk has reached the place where it stands
meanwhile_at : (layout : Layout) {disk : Past} {before : List Call} {b : Now} (past : History disk before b) → HasGoneOn layout past → IsMeanwhile (answered_at past) b.disk b.disk
meanwhile_at layout (opens sessions opened anew) gone = record { calls = []; later = []; at_is = refl; new_is = refl }
meanwhile_at layout (turns {at} past turned) gone =
    let steady = turned.steady (is_sure layout at gone.1) gone.2 in
    record { calls = steady.calls; later = []; at_is = steady.is; new_is = refl }
meanwhile_at layout (takes past out) gone =
    subst (λ (p : Past). IsMeanwhile (answered_at past) p p) (sym (ap (λ (n : Now). n.disk) out.rest)) (meanwhile_at layout past gone)

-- a life may stop between two calls
pub stops_there : (layout : Layout) {disk : Past} {before : List Call} {b : Now} (past : History disk before b) → HasGoneOn layout past
    → EndsThere layout past (offers_in past) (λ k. told_to k past) (stopped (behind past) b.disk b.past)
stops_there layout {b = b} past gone = record {
  by_disk = (gone, meanwhile_at layout past gone);
  found = refl;
  stop = refl;
  offers = refl;
  told_is = λ k. refl;
  asked = λ trust. ((trust, ([], sym (append-nil b.past))), refl, refl);
}

pub taking_gone : (layout : Layout) {disk : Past} {before : List Call} {a b : Now} (past : History disk before a) (all : History disk before b) → IsTaking past all
    → HasGoneOn layout past → HasGoneOn layout all × (offers_in all ≡ offers_in past)
taking_gone layout past all (is_taking out) gone = (gone, refl)

-- ---- output is taken

same_taken : (t u : Option Session) → u ≡ t → IsTaken t u
same_taken t u same = subst (λ x. IsTaken t x) (sym same) (by t)
  where
    by : (t : Option Session) → IsTaken t t
    by None = tt
    by (Some t) = inl (refl, refl, refl)

is_taken : (t u : Option Session) (out : List ℕ) (failed : Bool) → IsOutput t out failed u → IsTaken t u
is_taken None u out failed output = absurd output
is_taken (Some t) None out failed output = absurd output
is_taken (Some t) (Some u) out failed output = inr (out, output.0)

-- the output of one connection is taken, and the others stay
pub output_takes : (a b : Now) (k : ℕ) (out : List ℕ) (failed : Bool) → b ≡ record a { sessions = b.sessions } → IsOutput (slice_get a.sessions k) out failed (slice_get b.sessions k)
    → ((other : ℕ) → other ≢ k → slice_get b.sessions other ≡ slice_get a.sessions other) → TakesOut a b
output_takes a b k out failed rest output others = record {
  rest = rest;
  each = λ j lt. elim (same_number j k) [
    | inl same ↦ subst (λ n. IsTaken (slice_get a.sessions n) (slice_get b.sessions n)) (sym same) (is_taken (slice_get a.sessions k) (slice_get b.sessions k) out failed output)
    | inr other ↦ same_taken (slice_get a.sessions j) (slice_get b.sessions j) (others j other)
  ];
}

-- the output of one session is taken of it in a list of them
pub output_at : (xs : List Session) (k : ℕ) (d new : Session) (out : List ℕ) (failed : Bool) → k < length xs → Does (get_or xs k d) (Take out) new → failed ≡ new.failed
    → IsOutput (slice_get xs k) out failed (slice_get (set xs k new) k)
output_at [] k d new out failed low does is = absurd (omega (arith, low))
output_at (x ∷ xs) zero d new out failed low does is = (does, is)
output_at (x ∷ xs) (suc k) d new out failed low does is = output_at xs k d new out failed (omega (arith, low)) does is

pub set_other : (xs : List Session) (k : ℕ) (new : Session) (j : ℕ) → j ≢ k → slice_get (set xs k new) j ≡ slice_get xs j
set_other [] k new j other = refl
set_other (x ∷ xs) zero new zero other = absurd (other refl)
set_other (x ∷ xs) zero new (suc j) other = refl
set_other (x ∷ xs) (suc k) new zero other = refl
set_other (x ∷ xs) (suc k) new (suc j) other = set_other xs k new j (λ e. other (ap suc e))
