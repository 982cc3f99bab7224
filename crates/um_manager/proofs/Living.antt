-- A life of a manager, by the promises of its calls.
use Rattle.std.proofs.Common.{◌≡◌, ◌∙◌, inl, inr, ◌≤◌, arith, length, ℕ, List, [], ◌∷◌, ◌++◌, map, Bool, true, Result, Ok, Err, append_assoc, append-nil, refl, sym, ap, subst, true≢false}
use Rattle.std.specs.Bool.{IsTrue}
use Rattle.std.specs.List.{AllByRecursion}
use Rattle.std.proofs.lemmas.Grind.{flat_map-append}
use Rattle.um_keeper.specs.Answering.{Answer, AreAnswered, all_asked, taken}
use Rattle.um_keeper.specs.Keeping.{IsBegun}
use Rattle.um_keeper.specs.Finished.{RepeatsNone}
use Rattle.um_keeper.specs.Offers.{outcome_of, offers, untold, untold_offers, HasCome}
use Rattle.um_keeper.specs.Opening.{IsAsBefore}
use Rattle.um_keeper.specs.Parts.{NoReopen, ArePartsOfLives}
use Rattle.um_fates.specs.Fates.{asks_for}
use Rattle.um_laws.proofs.DiskLaws.{counts_now, started}
use Rattle.um_laws.proofs.LivesLaws.{run_of}
use Rattle.um_laws.proofs.StandsLaws.{one_state}
use Rattle.um_model.specs.Children.{Call, Tale, ForgotOthers, orders}
use Rattle.um_model.specs.Disk.{Image, Past, IsImage, Images, ImageSince, During, onto, moment, seen}
use Rattle.um_model.specs.Disk as disks
use Rattle.um_model.specs.Lives.{Offer, AreUnanswered, lost, MayLeave, holds, takes, RunsOver}
use Rattle.um_model.specs.Machine.{State, Input, Done, Run, Step}
use Rattle.um_model.specs.Numbers.{actions_in}
use Rattle.um_model.specs.Service.{Action, SendSignal}
use Rattle.um_model.specs.Stands.{StandsFor, IsStoreOf}
use Rattle.um_model.specs.Store.{body_limit}
use Rattle.um_model.specs.declared.layout.Layout.{Layout}
use Rattle.um_model.specs.declared.service.Signal.{Signal}
use Rattle.um_model.specs.declared.service.Signal.TheVariants.{Term, Kill}
use Rattle.um_wire.specs.declared.refusal.Refusal.{Refusal}
use Rattle.um_manager.proofs.Beginning.{boot_then, opening_left}
use Rattle.um_manager.proofs.Carried.{stand_none, stand_front, stand_both, stand_all, stand_less, starts_both, Came, did, came_both, all_done, answered_came, Begins, begins}
use Rattle.um_manager.proofs.Outliving.{HasStores, ComesFrom, Carries, MayLead, Opens, outlives}
use Rattle.um_manager.proofs.Telling.{told_at}
use Rattle.um_manager.specs.Done.{Told, where_done, told_in, TakesOut}
use Rattle.um_manager.specs.Histories.{History, opens, turns, takes as took, offers_in, HasGoneOn, AreTrusted, answered_at, told_to}
use Rattle.um_manager.specs.Lives.{StandIn, starts_in, done_in, DiskPremises, Outlives}
use Rattle.um_manager.specs.Going.{stopped}
use Rattle.um_manager.specs.Living.{Way, behind, in_turn, in_opening, in_refused, ManagerLife, offers_of, told_of, IsByDisk, OrdersNone, IsByChildren}
use Rattle.um_manager.specs.Offered.{offered_in, offers_of_opening, all_untold, boot_untold, untold_of_refused}
use Rattle.um_manager.specs.Opening.{Opened, Ended, IsRefused, untaken, taken_up, unbooted, unadopted, IsOfOpening, adoptions, boot_at}
use Rattle.um_manager.specs.Orders.{signals}
use Rattle.um_manager.specs.Places.{Place, place, place_on}
use Rattle.um_manager.specs.Turns.{Now, Answers, each, fell, reopen, first_refusal, Turned, Untouched, IsMeanwhile}
use Rattle.um_manager.specs.declared.pieces.Piece.{Piece}

-- ---- the orders

pub orders_both : (a b : List Call) → orders (a ++ b) ≡ orders a ++ orders b
orders_both a b = flat_map-append _ a b

pub orders_told : (told : List Tale) → orders (map asks_for told) ≡ []
orders_told [] = refl
orders_told (tale ∷ told) = orders_told told

-- the starts of calls in two parts
starts_of_both : (a b : List Call) → starts_in (orders (a ++ b)) ≡ starts_in (orders a) ++ starts_in (orders b)
starts_of_both a b = ap starts_in (orders_both a b) ∙ starts_both (orders a) (orders b)

-- calls of which none is an order start nothing
none_more : (a b : List Call) → orders b ≡ [] → starts_in (orders (a ++ b)) ≡ starts_in (orders a)
none_more a b none = starts_of_both a b ∙ ap (λ l. starts_in (orders a) ++ starts_in l) none ∙ append-nil (starts_in (orders a))

signals_start_none : (signal : Signal) (numbers : List ℕ) → starts_in (signals signal numbers) ≡ []
signals_start_none signal [] = refl
signals_start_none signal (n ∷ numbers) = signals_start_none signal numbers

-- the calls made start the processes that are ordered
called_start : (told : List Tale) (given : List Call) (actions : List Action) → orders given ≡ actions → starts_in (orders (map asks_for told ++ given)) ≡ starts_in actions
called_start told given actions are =
    starts_of_both (map asks_for told) given ∙ ap (λ l. starts_in l ++ starts_in (orders given)) (orders_told told) ∙ ap starts_in are

-- ---- moments of a disk

since_then : (start : Image) (older later : List disks.Call) (t : ℕ) (image : Image) → ImageSince start older t image → ImageSince start (later ++ older) t image
since_then start older [] t image there = there
since_then start older (call ∷ later) t image there = inr (since_then start older later t image there)

-- a fact of the calls' duration holds of each image at a moment of them
pub at_moment : (old new at : Past) (P : Image → Type 0) → During old new P → IsMeanwhile old new at → Images at P
at_moment old new at P during while image there =
    during.each image
    (subst (λ (p : Past). ImageSince p.start p.calls (moment old) image) (sym while.new_is)
    (since_then at.start at.calls while.later (moment old) image
    (counts_now at.start at.calls (moment old) image (later_than old at while.calls while.at_is) there)))
  where
    later_than : (p q : Past) (calls : List disks.Call) → q ≡ onto calls p → moment p ≤ moment q
    later_than p q calls is = subst (λ (r : Past). moment p ≤ moment r) (sym is) (longer calls p.calls)
      where
        longer : (xs ys : List disks.Call) → length ys ≤ length (xs ++ ys)
        longer [] ys = omega arith
        longer (x ∷ xs) ys = omega (arith, longer xs ys)

-- none of the answers of a store that is relied on is E17
pub none_again : ArePartsOfLives → (at : Place) → IsTrue at.trusted → (s t : State) (inputs : List Input) (answers : List Answer) → Answers at s inputs answers t → NoReopen answers
none_again offering at trusted s t inputs answers (each are) = offering.judged at.size s t inputs answers are
none_again offering at trusted s t inputs answers (fell back) = offering.fell at.size s t inputs answers back
none_again offering at trusted s t inputs answers (reopen failed are same) = absurd (true≢false (sym trusted ∙ failed))

-- a turn that ended Ok had its store's Ok
pub store_ok : (store later : Result Unit Refusal) → Ok tt ≡ first_refusal store later → store ≡ Ok tt
store_ok (Ok tt) later is = refl
store_ok (Err e) later is = cc

-- offers whose answers aren't given
untold_are : (inputs : List Input) (answers : List Answer) → all_untold (offers inputs answers) ≡ untold_offers inputs answers
untold_are [] answers = refl
untold_are (input ∷ inputs) [] = refl
untold_are (input ∷ inputs) (answer ∷ answers) = ap (λ l. record { input = input; outcome = untold (outcome_of answer) } ∷ l) (untold_are inputs answers)

-- ---- a life so far

-- A life so far: the state of the store that it found, the way from there to the manager's state, and the actions
-- wanted and commands done on it; each image since its store answered last is a store of the manager's state.
record Stood (layout : Layout) (disk : Past) (before : List Call) (offered : List Offer) (told : ℕ → List Told) (answered : Past) (trusted : Type 0) (b : Now) : Type 0 where
  s : State
  found : StandsFor layout (seen disk) s
  come : HasCome layout s offered b.state
  stored : During answered b.disk (λ image. IsStoreOf layout image b.state)
  asked : List Action
  done : List Told
  came : Came (body_limit layout) s offered asked done b.state
  are_told : (k : ℕ) → StandIn (told k) done
  calls : trusted → (given : List Call) × (b.past ≡ before ++ given) × (starts_in (orders given) ≡ starts_in asked)

-- a turn that found no memory changes nothing but room
pub untouched : (a b : Now) → Untouched a b → b ≡ record a { sessions = b.sessions }
untouched a b same =
    ap (λ x. record b { state = x }) same.state ∙ ap (λ x. record b { state = a.state; past = x }) same.past
    ∙ ap (λ x. record b { state = a.state; past = a.past; marks = x }) same.marks
    ∙ ap (λ x. record b { state = a.state; past = a.past; marks = a.marks; disk = x }) same.disk
    ∙ ap (λ x. record b { state = a.state; past = a.past; marks = a.marks; disk = a.disk; log = x }) same.log

pub is_sure : (layout : Layout) (at : Place) → at ≡ place_on layout → IsTrue at.trusted
is_sure layout at is = subst (λ (p : Place). IsTrue p.trusted) (sym is) refl

module _ (offering : ArePartsOfLives) (layout : Layout) where
  opened_stood : (disk : Past) (before : List Call) (at : Place) (honest whole : Bool) (moment : ℕ) (boot : List ℕ) (count sectors : ℕ) (b : Now)
      (opened : Opened at honest whole moment boot count sectors disk before b) → at ≡ place_on layout
      → Stood layout disk before (offers_of_opening opened) (λ k. []) b.disk (IsTrue honest × IsTrue whole) b
  opened_stood disk before at honest whole moment boot count sectors b opened is =
      let began = opened.began in
      let mid = began.mid in
      let adopted = began.adopted in
      let sure = is_sure layout at is in
      let booted : Step (body_limit layout) opened.a.state (boot_at moment boot) began.reply [] mid.state =
      subst (λ (p : Place). Step p.size opened.a.state (boot_at moment boot) began.reply [] mid.state) is began.booted in
      let told : AreAnswered (body_limit layout) mid.state (adoptions moment adopted.told) adopted.answers b.state =
      subst (λ (p : Place). AreAnswered p.size mid.state (adoptions moment adopted.told) adopted.answers b.state) is (adopted.tells.ok refl) in
      record {
        s = opened.a.state;
        found = subst (λ (p : Place). StandsFor p.layout (seen disk) opened.a.state) is (opened.found sure).stands;
        come = λ more image m. takes began.reply [] refl booted
            (offering.answered layout mid.state b.state (adoptions moment adopted.told) adopted.answers told more image m);
        stored = started b.disk (λ image. IsStoreOf layout image b.state)
            (subst (λ (p : Place). Images b.disk (λ image. IsStoreOf p.layout image b.state)) is (adopted.stored sure refl));
        asked = all_asked adopted.answers;
        done = where_done (boot_at moment boot) began.reply ++ all_done (adoptions moment adopted.told) adopted.answers;
        came = did began.reply [] refl booted (answered_came (body_limit layout) mid.state b.state (adoptions moment adopted.told) adopted.answers told);
        are_told = λ k. stand_none (where_done (boot_at moment boot) began.reply ++ all_done (adoptions moment adopted.told) adopted.answers);
        calls = λ trust. given trust.0 trust.1;
      }
    where
      given : IsTrue honest → IsTrue whole → (given : List Call) × (b.past ≡ before ++ given) × (starts_in (orders given) ≡ starts_in (all_asked opened.began.adopted.answers))
      given true_to_it whole_of_it =
          let began = opened.began in
          let adopted = began.adopted in
          let ended : Ended b.state.units adopted.live began.mid.state.next adopted.told (all_asked adopted.answers) began.mid.past b.past b.marks =
          adopted.called true_to_it whole_of_it in
          let called = ended.called in
          let signalled = signals Term ended.termed ++ signals Kill ended.killed in
          let none : starts_in signalled ≡ [] =
          starts_both (signals Term ended.termed) (signals Kill ended.killed) ∙ ap (λ l. l ++ starts_in (signals Kill ended.killed)) (signals_start_none Term ended.termed)
          ∙ signals_start_none Kill ended.killed in (
            ForgotOthers adopted.live began.mid.state.next ∷ (map asks_for adopted.told ++ called.given),
            called.past_is
                ∙ ap (λ p. (p ++ ForgotOthers adopted.live began.mid.state.next ∷ []) ++ (map asks_for adopted.told ++ called.given)) (began.asked_none ∙ opened.unasked)
                ∙ append_assoc before (ForgotOthers adopted.live began.mid.state.next ∷ []) (map asks_for adopted.told ++ called.given),
            called_start adopted.told called.given _ called.orders_are ∙ starts_both (all_asked adopted.answers) signalled
                ∙ ap (λ l. starts_in (all_asked adopted.answers) ++ l) none ∙ append-nil (starts_in (all_asked adopted.answers)),
          )

  -- a turn whose store answered Ok goes on with it
  turned_stood : (disk : Past) (before : List Call) (offered : List Offer) (told : ℕ → List Told) (answered : Past) (trusted : Type 0) (at : Place) (honest whole : Bool)
      (result : Result Unit Refusal) (moment : ℕ) (pieces : List Piece) (a b : Now) → Stood layout disk before offered told answered trusted a
      → (turned : Turned at honest whole result moment pieces a b) → at ≡ place_on layout → turned.store ≡ Ok tt
      → Stood layout disk before (offered ++ offers (offered_in turned) turned.answers) (λ k. told k ++ told_in k turned) turned.offered (trusted × IsTrue honest × IsTrue whole) b
  turned_stood disk before offered told answered trusted at honest whole result moment pieces a b stood turned is ok =
      let here : AreAnswered (body_limit layout) a.state (offered_in turned) turned.answers b.state =
      subst (λ (p : Place). AreAnswered p.size a.state (offered_in turned) turned.answers b.state) is (turned.tells.ok ok) in
      record {
        s = stood.s;
        found = stood.found;
        come = offering.further layout stood.s a.state b.state offered (offers (offered_in turned) turned.answers) stood.come
            (offering.answered layout a.state b.state (offered_in turned) turned.answers here);
        stored = subst (λ (p : Place). During turned.offered b.disk (λ image. IsStoreOf p.layout image b.state)) is (turned.steady (is_sure layout at is) ok);
        asked = stood.asked ++ all_asked turned.answers;
        done = stood.done ++ all_done (offered_in turned) turned.answers;
        came = came_both (body_limit layout) stood.s a.state b.state offered (offers (offered_in turned) turned.answers) stood.asked (all_asked turned.answers)
            stood.done (all_done (offered_in turned) turned.answers) stood.came (answered_came (body_limit layout) a.state b.state (offered_in turned) turned.answers here);
        are_told = λ k. stand_both (told k) stood.done (told_in k turned) (all_done (offered_in turned) turned.answers) (stood.are_told k) (told_at k turned);
        calls = λ trust.
            let called = turned.called trust.1 trust.2 in
            let (given, past_is, starts) = stood.calls trust.0 in
            let more = map asks_for turned.told ++ called.given in (
              given ++ more,
              called.past_is ∙ ap (λ p. p ++ more) past_is ∙ append_assoc before given more,
              starts_of_both given more ∙ ap (λ l. l ++ starts_in (orders more)) starts
                  ∙ ap (λ l. starts_in stood.asked ++ l) (called_start turned.told called.given (all_asked turned.answers) called.orders_are)
                  ∙ sym (starts_both stood.asked (all_asked turned.answers)),
            );
      }

  -- only sessions changed
  waited_stood : (disk : Past) (before : List Call) (offered : List Offer) (told : ℕ → List Told) (answered : Past) (trusted : Type 0) (a b : Now)
      → Stood layout disk before offered told answered trusted a → b ≡ record a { sessions = b.sessions } → Stood layout disk before offered told answered trusted b
  waited_stood disk before offered told answered trusted a b stood same =
      subst (λ (n : Now). Stood layout disk before offered told answered trusted n) (sym same)
      (record {
        s = stood.s;
        found = stood.found;
        come = stood.come;
        stored = stood.stored;
        asked = stood.asked;
        done = stood.done;
        came = stood.came;
        are_told = stood.are_told;
        calls = stood.calls;
      })

  -- each life so far
  stood_of : {disk : Past} {before : List Call} {b : Now} (past : History disk before b) → HasGoneOn layout past
      → Stood layout disk before (offers_in past) (λ k. told_to k past) (answered_at past) (AreTrusted past) b
  stood_of {disk} {before} (opens {at} {honest} {whole} {moment} {boot} {count} {sectors} {b} sessions opened anew) gone =
      let stood = opened_stood disk before at honest whole moment boot count sectors b opened gone in
      waited_stood disk before (offers_of_opening opened) (λ k. []) b.disk (IsTrue honest × IsTrue whole) b (record b { sessions = sessions }) stood refl
  stood_of {disk} {before} (turns {at} {honest} {whole} {result} {moment} {pieces} {a} {b} past turned) gone =
      turned_stood disk before (offers_in past) (λ k. told_to k past) (answered_at past) (AreTrusted past) at honest whole result moment pieces a b
      (stood_of past gone.0) turned gone.1 gone.2
  stood_of {disk} {before} (took {a} {b} past out) gone =
      waited_stood disk before (offers_in past) (λ k. told_to k past) (answered_at past) (AreTrusted past) a b (stood_of past gone) out.rest

  -- ---- stops

  -- the store that a life found, where each image of its disk is one
  found_store : (disk : Past) (s : State) → HasStores layout disk → IsImage disk (seen disk) → StandsFor layout (seen disk) s → IsStoreOf layout (seen disk) s
  found_store disk s stores read stands =
      let (t, store) = stores (seen disk) read in
      subst (λ u. IsStoreOf layout (seen disk) u) (one_state layout (seen disk) t s store.stands stands) store

  -- a run over the kept inputs of a life begins with the commands done in it, and starts the processes that were
  -- ordered
  carried_on : (disk : Past) (before : List Call) (offered more : List Offer) (told : ℕ → List Told) (answered : Past) (trusted : Type 0) (b : Now)
      (stood : Stood layout disk before offered told answered trusted b) (here : List Input) (t : State) → RunsOver (body_limit layout) stood.s (offered ++ more) here t
      → (run : Run (body_limit layout) stood.s here t) × ((k : ℕ) → StandIn (told k) (done_in run))
      × (trusted → (had : List Action) → StandIn (starts_in (orders before)) had → StandIn (starts_in (orders b.past)) (had ++ starts_in (actions_in run)))
  carried_on disk before offered more told answered trusted b stood here t over =
      let first = begins (body_limit layout) stood.s b.state t offered more stood.asked stood.done here stood.came over in (
        first.run,
        (λ k. subst (λ l. StandIn (told k) l) (sym first.done) (stand_front (told k) stood.done first.others (stood.are_told k))),
        (λ trust had so.
            let (given, past_is, starts) = stood.calls trust in
            let all : starts_in (orders b.past) ≡ starts_in (orders before) ++ starts_in stood.asked =
            ap (λ l. starts_in (orders l)) past_is ∙ starts_of_both before given ∙ ap (λ l. starts_in (orders before) ++ l) starts in
            let run_starts : starts_in (actions_in first.run) ≡ starts_in stood.asked ++ starts_in first.later =
            ap starts_in first.actions ∙ starts_both stood.asked first.later in
            subst (λ l. StandIn l (had ++ starts_in (actions_in first.run))) (sym all)
            (stand_both (starts_in (orders before)) had (starts_in stood.asked) (starts_in (actions_in first.run)) so
            (subst (λ l. StandIn (starts_in stood.asked) l) (sym run_starts)
            (stand_front (starts_in stood.asked) (starts_in stood.asked) (starts_in first.later) (stand_all (starts_in stood.asked)))))),
      )

  -- a stop after an answer of the store
  behind_leads : {disk : Past} {before : List Call} {b : Now} (past : History disk before b) (stop : Past) (calls : List Call) → IsByDisk layout (behind past) stop
      → MayLead layout (stopped (behind past) stop calls)
  behind_leads {disk} {before} {b} past stop calls by stores read image there = record {
    from = seen disk;
    was = read;
    state = stood.s;
    store = found_store disk stood.s stores read stood.found;
    leaves = offering.stored layout stood.s b.state (offers_in past) image stood.come
        (at_moment (answered_at past) b.disk stop (λ i. IsStoreOf layout i b.state) stood.stored by.1 image there);
    carries = λ here t over.
        let (run, told, starts) = carried_on disk before (offers_in past) [] (λ k. told_to k past) (answered_at past) (AreTrusted past) b stood here t
        (subst (λ l. RunsOver (body_limit layout) stood.s l here t) (sym (append-nil (offers_in past))) over) in
        record {
          run = run;
          told = told;
          starts = λ trust had so.
              let (rest, parts) = trust.1 in
              stand_less (starts_in (orders calls)) (starts_in (orders rest)) (had ++ starts_in (actions_in run))
              (subst (λ l. StandIn l (had ++ starts_in (actions_in run))) (ap (λ l. starts_in (orders l)) parts ∙ starts_of_both calls rest) (starts trust.0 had so));
        };
  }
    where
      stood : Stood layout disk before (offers_in past) (λ k. told_to k past) (answered_at past) (AreTrusted past) b
      stood = stood_of past by.0

  -- a stop in a turn before its store answered
  turn_leads : {disk : Past} {before : List Call} {at : Place} {honest whole : Bool} {result : Result Unit Refusal} {moment : ℕ} {pieces : List Piece} {a b : Now}
      (past : History disk before a) (turned : Turned at honest whole result moment pieces a b) (stop : Past) (calls : List Call)
      → IsByDisk layout (in_turn past turned) stop → MayLead layout (stopped (in_turn past turned) stop calls)
  turn_leads {disk} {before} {at} {a = a} {b = b} past turned stop calls by stores read image there = record {
    from = seen disk;
    was = read;
    state = stood.s;
    store = found_store disk stood.s stores read stood.found;
    leaves = stood.come (all_untold (offers inputs turned.answers)) image
        (subst (λ l. MayLeave layout a.state l image) (sym (untold_are inputs turned.answers))
        (offering.begun layout a.state inputs turned.answers image (none_again offering at sure a.state b.state inputs turned.answers turned.answered)
        (subst (λ (p : Place). IsBegun p.layout a.state (taken inputs turned.answers) image) by.1
        (at_moment a.disk b.disk stop (IsBegun at.layout a.state (taken inputs turned.answers)) (turned.left sure) by.2 image there))));
    carries = λ here t over.
        let (run, told, starts) = carried_on disk before (offers_in past) (all_untold (offers inputs turned.answers)) (λ k. told_to k past) (answered_at past) (AreTrusted past) a stood
        here t over in
        record {
          run = run;
          told = told;
          starts = λ trust had so.
              let (more, are, none) = trust.1 in
              subst (λ l. StandIn l (had ++ starts_in (actions_in run))) (sym (ap (λ l. starts_in (orders l)) are ∙ none_more a.past more none)) (starts trust.0 had so);
        };
  }
    where
      stood : Stood layout disk before (offers_in past) (λ k. told_to k past) (answered_at past) (AreTrusted past) a
      stood = stood_of past by.0

      sure : IsTrue at.trusted
      sure = is_sure layout at by.1

      inputs : List Input
      inputs = offered_in turned

  -- a stop before any order carries nothing
  nothing_more : (life : ManagerLife) (s : State) → (IsByChildren life.way life.calls → OrdersNone life.before life.calls) → ((k : ℕ) → told_of k life.way ≡ [])
      → (here : List Input) (t : State) → RunsOver (body_limit layout) s (offers_of life.way) here t → Carries (body_limit layout) life s here t
  nothing_more life s none silent here t over =
      let run = run_of over in
      record {
        run = run;
        told = λ k. subst (λ l. StandIn l (done_in run)) (sym (silent k)) (stand_none (done_in run));
        starts = λ trust had so.
            let (more, are, empty) = none trust in
            stand_front (starts_in (orders life.calls)) had (starts_in (actions_in run))
            (subst (λ l. StandIn l had) (sym (ap (λ l. starts_in (orders l)) are ∙ none_more life.before more empty)) so);
      }

  -- the image that the disk held before
  as_before : (disk : Past) (untold : List Offer) (image : Image) → AreUnanswered untold → HasStores layout disk → IsAsBefore layout disk image
      → (from : Image) × IsImage disk from × (s : State) × IsStoreOf layout from s × MayLeave layout s untold image
  as_before disk untold image untold_are_so stores so =
      let (t, store) = stores so.from so.was in
      let same : t ≡ so.state = one_state layout so.from t so.state store.stands so.before in
      let held : IsStoreOf layout so.from so.state = subst (λ u. IsStoreOf layout so.from u) same store in
      (so.from, so.was, so.state, held, holds (so.now.store held) untold_are_so)

  -- an opening leaves the store that its disk held before, or a beginning of its offers
  opening_comes : (disk : Past) (a : State) (untold : List Offer) (inputs : List Input) (image : Image) → StandsFor layout (seen disk) a → AreUnanswered untold
      → (IsBegun layout a inputs image → MayLeave layout a untold image) → HasStores layout disk → IsImage disk (seen disk) → IsOfOpening layout disk a inputs image
      → (from : Image) × IsImage disk from × (s : State) × IsStoreOf layout from s × MayLeave layout s untold image
  opening_comes disk a untold inputs image found untold_are_so begun stores read (inl so) = as_before disk untold image untold_are_so stores so
  opening_comes disk a untold inputs image found untold_are_so begun stores read (inr is) = (seen disk, read, a, found_store disk a stores read found, begun is)

  -- so a life leads there that ordered nothing
  leads_early : (life : ManagerLife) → (IsByChildren life.way life.calls → OrdersNone life.before life.calls) → ((k : ℕ) → told_of k life.way ≡ []) → (image : Image)
      → ((from : Image) × IsImage life.disk from × (s : State) × IsStoreOf layout from s × MayLeave layout s (offers_of life.way) image) → ComesFrom layout life image
  leads_early life none silent image (from, there, s, store, leaves) =
      record { from = from; was = there; state = s; store = store; leaves = leaves; carries = nothing_more life s none silent }

  -- the boot and the fates reported to adoption, of which a beginning was taken
  boot_leaves : (a : State) (moment : ℕ) (boot : List ℕ) (inputs : List Input) (answers : List Answer) (image : Image) → NoReopen answers
      → IsBegun layout a (boot_at moment boot ∷ taken inputs answers) image → MayLeave layout a (boot_untold moment boot ∷ untold_offers inputs answers) image
  boot_leaves a moment boot inputs answers image stay begun =
      offering.begun layout a (boot_at moment boot ∷ inputs) (booted ∷ answers) image ((λ is. cc), stay) begun
    where
      booted : Answer
      booted = Ok (Done, [])

  opening_leads : {at : Place} {honest whole : Bool} {moment : ℕ} {boot : List ℕ} {count sectors : ℕ} {disk : Past} {before : List Call} {b : Now}
      (opened : Opened at honest whole moment boot count sectors disk before b) (stop : Past) (calls : List Call) → IsByDisk layout (in_opening opened) stop
      → MayLead layout (stopped (in_opening opened) stop calls)
  opening_leads {at} {moment = moment} {boot = boot} {disk = disk} {before = before} {b = b} opened stop calls by stores read image there =
      leads_early (stopped (in_opening opened) stop calls) (λ none. none) (λ k. refl) image
      (subst (λ l. (from : Image) × IsImage disk from × (s : State) × IsStoreOf layout from s × MayLeave layout s l image) (sym untold_is)
      (opening_comes disk opened.a.state (boot_untold moment boot ∷ untold_offers inputs answers) (boot_at moment boot ∷ taken inputs answers) image
      (subst (λ (p : Place). StandsFor p.layout (seen disk) opened.a.state) by.0 (opened.found sure).stands) (lost (offering.untold inputs answers))
      (boot_leaves opened.a.state moment boot inputs answers image stay) stores read
      (subst (λ (p : Place). IsOfOpening p.layout disk opened.a.state (boot_at moment boot ∷ taken inputs answers) image) by.0
      (at_moment disk b.disk stop (IsOfOpening at.layout disk opened.a.state (boot_at moment boot ∷ taken inputs answers))
      (opened.left sure (λ one was. let (s, store) = stores one was in
      record { state = s; stands = subst (λ (p : Place). StandsFor p.layout one s) (sym by.0) store.stands })) by.1 image there))))
    where
      inputs : List Input
      inputs = adoptions moment opened.began.adopted.told

      answers : List Answer
      answers = opened.began.adopted.answers

      sure : IsTrue at.trusted
      sure = is_sure layout at by.0

      stay : NoReopen answers
      stay = none_again offering at sure opened.began.mid.state b.state inputs answers opened.began.adopted.answered

      untold_is : all_untold (offers_of_opening opened) ≡ boot_untold moment boot ∷ untold_offers inputs answers
      untold_is = ap (λ l. boot_untold moment boot ∷ l) (untold_are inputs answers)

  -- an opening that is refused, of a store of this layout
  refused_comes : (honest whole : Bool) (moment : ℕ) (boot : List ℕ) (sectors : ℕ) (disk left stop : Past) (before told : List Call)
      (refused : IsRefused layout honest whole moment boot sectors disk left before told) → IsMeanwhile disk left stop → HasStores layout disk → IsImage disk (seen disk)
      → (image : Image) → IsImage stop image
      → (from : Image) × IsImage disk from × (s : State) × IsStoreOf layout from s × MayLeave layout s (untold_of_refused refused) image
  refused_comes honest whole moment boot sectors disk left stop before told (untaken unasked stays) while stores read image there =
      as_before disk [] image AreUnanswered.none stores (at_moment disk left stop (IsAsBefore layout disk) stays while image there)
  refused_comes honest whole moment boot sectors disk left stop before told (taken_up a b found unasked stays (unbooted same past during) disk_is calls_is) while stores read image there =
      opening_comes disk a.state (boot_untold moment boot ∷ []) (boot_at moment boot ∷ []) image found.stands (lost AreUnanswered.none)
      (boot_leaves a.state moment boot [] [] image tt) stores read
      (at_moment disk b.disk stop (IsOfOpening layout disk a.state (boot_at moment boot ∷ []))
      (opening_left layout a.state (boot_at moment boot ∷ []) disk a.disk b.disk stays (during refl)) (subst (λ p. IsMeanwhile disk p stop) disk_is while) image there)
  refused_comes honest whole moment boot sectors disk left stop before told (taken_up a b found unasked stays (unadopted device began) disk_is calls_is) while stores read image there =
      subst (λ l. (from : Image) × IsImage disk from × (s : State) × IsStoreOf layout from s × MayLeave layout s (boot_untold moment boot ∷ l) image) (sym (untold_are inputs answers))
      (opening_comes disk a.state (boot_untold moment boot ∷ untold_offers inputs answers) (boot_at moment boot ∷ taken inputs answers) image found.stands
      (lost (offering.untold inputs answers)) (boot_leaves a.state moment boot inputs answers image stay) stores read
      (at_moment disk b.disk stop (IsOfOpening layout disk a.state (boot_at moment boot ∷ taken inputs answers))
      (opening_left layout a.state (boot_at moment boot ∷ taken inputs answers) disk a.disk b.disk stays
      (boot_then (place (body_limit layout) layout true) a.state began.mid.state (boot_at moment boot) began.reply (taken inputs answers) a.disk began.mid.disk b.disk refl
      began.booted (began.left refl) (began.adopted.left refl))) (subst (λ p. IsMeanwhile disk p stop) disk_is while) image there))
    where
      inputs : List Input
      inputs = adoptions moment began.adopted.told

      answers : List Answer
      answers = began.adopted.answers

      stay : NoReopen answers
      stay = none_again offering (place (body_limit layout) layout true) refl began.mid.state b.state inputs answers began.adopted.answered

-- ---- all lives

way_leads : ArePartsOfLives → (layout : Layout) {disk : Past} {before : List Call} (way : Way disk before) (stop : Past) (calls : List Call) → IsByDisk layout way stop
    → MayLead layout (stopped way stop calls)
way_leads offering layout (behind past) stop calls by = behind_leads offering layout past stop calls by
way_leads offering layout (in_turn past turned) stop calls by = turn_leads offering layout past turned stop calls by
way_leads offering layout (in_opening opened) stop calls by = opening_leads offering layout opened stop calls by
way_leads offering layout {disk} {before} (in_refused {layout = of} {honest} {whole} {moment} {boot} {sectors} {left} {told} refused) stop calls by = λ stores read image there.
    leads_early offering layout (stopped (in_refused refused) stop calls) (λ none. none) (λ k. refl) image
    (subst (λ (l : Layout). (from : Image) × IsImage disk from × (s : State) × IsStoreOf l from s × MayLeave l s (untold_of_refused refused) image) by.0
    (refused_comes offering of honest whole moment boot sectors disk left stop before told refused by.1 (subst (λ (l : Layout). HasStores l disk) (sym by.0) stores) read image there))

all_leads : ArePartsOfLives → (layout : Layout) (all : List ManagerLife) → AllByRecursion (λ (life : ManagerLife). IsByDisk layout life.way life.stop) all
    → AllByRecursion (MayLead layout) all
all_leads offering layout [] each_is = tt
all_leads offering layout (life ∷ all) each_is = (way_leads offering layout life.way life.stop life.calls each_is.0, all_leads offering layout all each_is.1)

-- A service manager outlives crashes.
pub manager_outlives : ArePartsOfLives → ((size : ℕ) (s t : State) (inputs : List Input) (run : Run size s inputs t) → RepeatsNone run) → Opens → (layout : Layout) (first : State)
    (all : List ManagerLife) (stop : Past) (image : Image) → DiskPremises layout first all stop → IsImage stop image → Outlives layout first all image
manager_outlives offering repeats_none opening layout first all stop image given there =
    outlives repeats_none opening layout first all stop given (all_leads offering layout all given.each) image there
