-- Inputs that were offered as a part of a life: an image that a crash leaves of them is one that a life may leave whose
-- last offers they are.
use Rattle.std.proofs.Common.{⊎_elim, IfOk, IfErr, OnErr, ◌≡◌, ◌≢◌, ◌⊎◌, ◌∙◌, ◌++◌, inl, inr, ℕ, zero, suc, List, [], ◌∷◌, length, map, replicate, take, Bool, true, false, if◌then◌else◌, Result, Ok, Err, append_assoc, refl, sym, ap, subst, true≢false}
use Rattle.std.proofs.lemmas.Bool.{false≢true}
use Rattle.um_engine.specs.OfStore.{is_of_store}
use Rattle.um_keeper.specs.Answering.{Answer, Answered, accepted, refused, turned_away, AreAnswered, all_answered, and_next, FellBack, denied, is_turned_away, where_step, taken}
use Rattle.um_keeper.specs.Keeping.{IsBegun}
use Rattle.um_keeper.specs.Offers.{outcome_of, offers, untold, untold_offers, HasCome, GoesOn}
use Rattle.um_keeper.specs.Opening.{IsSomeStore, IsStill, IsAsBefore}
use Rattle.um_keeper.specs.Parts.{NoReopen}
use Rattle.um_laws.proofs.DiskLaws.{weaker}
use Rattle.um_model.specs.Disk.{Image, Past, During, Images}
use Rattle.um_model.specs.Lives.{Outcome, Offer, AreUnanswered, none, turned, lost, MayLeave, holds, takes, turns_away}
use Rattle.um_model.specs.Lives as lives
use Rattle.um_model.specs.Machine.{State, Input, Run, rests, goes}
use Rattle.um_model.specs.Machine as machine
use Rattle.um_laws.proofs.StandsLaws.{one_state}
use Rattle.um_model.specs.Refusals.{Refused}
use Rattle.um_model.specs.Service.{Action}
use Rattle.um_model.specs.Stands.{StandsFor, IsStoreOf}
use Rattle.um_model.specs.Store.{body_limit}
use Rattle.um_model.specs.declared.layout.Layout.{Layout}
use Rattle.um_wire.specs.Refusal.{refused_of}
use Rattle.um_wire.specs.declared.refusal.Refusal.{Refusal}
use Rattle.um_wire.specs.declared.refusal.Refusal.TheVariants.{BadRequest, UnknownVerb, BadName, NotFound, Masked, BadSetting, NotLoaded, Clash, OrderingCycle, JobConflict, Exists, BadPath, TooLarge, NoRoom, NoMemory, Device, Reopen, Damaged, NotFormatted, GenerationsSpent, NoSuchJob, OtherLayout}

-- ---- the outcome of an input

-- the outcome of an input with this refusal: it was turned away, or not
data Came (e : Refusal) : Type 0 where
  away : (e ≡ NoMemory) ⊎ (e ≡ GenerationsSpent) → is_turned_away e ≡ true → outcome_of (Err e) ≡ lives.turned_away → Came e
  lost_it : e ≡ Device → is_turned_away e ≡ false → outcome_of (Err e) ≡ lives.unanswered → Came e
  again : e ≡ Reopen → Came e
  own : is_turned_away e ≡ false → outcome_of (Err e) ≡ lives.answered (machine.Refusal (refused_of e)) → Came e

came : (e : Refusal) → Came e
came BadRequest = own refl refl
came (UnknownVerb verb) = own refl refl
came (BadName text) = own refl refl
came (NotFound unit) = own refl refl
came (Masked unit) = own refl refl
came (BadSetting unit reason) = own refl refl
came (NotLoaded unit) = own refl refl
came (Clash unit) = own refl refl
came (OrderingCycle units) = own refl refl
came (JobConflict unit) = own refl refl
came (Exists path) = own refl refl
came (BadPath path) = own refl refl
came (TooLarge limit) = own refl refl
came NoRoom = own refl refl
came NoMemory = away (inl refl) refl refl
came Device = lost_it refl refl refl
came Reopen = again refl
came (Damaged sector) = own refl refl
came NotFormatted = own refl refl
came GenerationsSpent = away (inr refl) refl refl
came (NoSuchJob unit) = own refl refl
came OtherLayout = own refl refl

-- a refusal that the engine gives is want of memory, or its step's
pub own_or_memory : (e : Refusal) {P : Type 0} → is_of_store e ≡ false → (¬ (e ≡ NoMemory) → P) → ((e ≡ NoMemory) ⊎ (e ≡ Device)) ⊎ ((e ≡ GenerationsSpent) ⊎ ((is_of_store e ≡ false) × P))
own_or_memory e {P} of_step told = by (came e)
  where
    by : Came e → ((e ≡ NoMemory) ⊎ (e ≡ Device)) ⊎ ((e ≡ GenerationsSpent) ⊎ ((is_of_store e ≡ false) × P))
    by (away (inl memory) is o) = inl (inl memory)
    by (away (inr spent) is o) = inr (inl spent)
    by (lost_it device is o) = inl (inr device)
    by (again reopen) = absurd (false≢true (sym of_step ∙ ap is_of_store reopen))
    by (own is o) = inr (inr (of_step, told (λ memory. false≢true (sym is ∙ ap is_turned_away memory))))

-- the outcome of an input that its step refused
came_own : (e : Refusal) → is_of_store e ≡ false → is_turned_away e ≡ false → outcome_of (Err e) ≡ lives.answered (machine.Refusal (refused_of e))
came_own e of_step stays = by (came e)
  where
    by : Came e → outcome_of (Err e) ≡ lives.answered (machine.Refusal (refused_of e))
    by (away which is o) = absurd (false≢true (sym stays ∙ is))
    by (lost_it is isnt o) = absurd (false≢true (sym of_step ∙ ap is_of_store is))
    by (again is) = absurd (false≢true (sym of_step ∙ ap is_of_store is))
    by (own isnt o) = o

came_away : (e : Refusal) → is_turned_away e ≡ true → outcome_of (Err e) ≡ lives.turned_away
came_away e is = by (came e)
  where
    by : Came e → outcome_of (Err e) ≡ lives.turned_away
    by (away which so o) = o
    by (lost_it device isnt o) = absurd (false≢true (sym isnt ∙ is))
    by (again told) = absurd (false≢true (sym (ap is_turned_away told) ∙ is))
    by (own isnt o) = absurd (false≢true (sym isnt ∙ is))

-- ---- inputs that were answered

one_come : (layout : Layout) (s t : State) (input : Input) (answer : Answer) (more : List Offer) (image : Image) → Answered (body_limit layout) s input answer t
    → MayLeave layout t more image → MayLeave layout s (record { input = input; outcome = outcome_of answer } ∷ more) image
one_come layout s t input answer more image (accepted {reply} {actions} step ok) m = takes reply actions refl step m
one_come layout s t input answer more image (refused {e} of_step stays step) m =
    subst (λ o. MayLeave layout s (record { input = input; outcome = o } ∷ more) image) (sym (came_own e of_step stays))
    (takes (machine.Refusal (refused_of e)) [] refl step m)
one_come layout s t input answer more image (turned_away {e} is) m =
    subst (λ o. MayLeave layout s (record { input = input; outcome = o } ∷ more) image) (sym (came_away e is)) (turns_away m)

-- a life whose inputs were answered has reached the state after them
pub answered_come : (layout : Layout) (s t : State) (inputs : List Input) (answers : List Answer) → AreAnswered (body_limit layout) s inputs answers t
    → HasCome layout s (offers inputs answers) t
answered_come layout s t inputs answers all_answered more image m = m
answered_come layout s t inputs answers (and_next {t = mid} {input = input} {inputs = later} {answer = answer} {answers = others} one others_are) more image m =
    one_come layout s mid input answer (offers later others ++ more) image one (answered_come layout mid t later others others_are more image m)

-- a life that has reached one state, and from there another
pub come_on : (layout : Layout) (s t u : State) (first more : List Offer) → HasCome layout s first t → HasCome layout t more u → HasCome layout s (first ++ more) u
come_on layout s t u first more come further later image m =
    subst (λ l. MayLeave layout s l image) (sym (append_assoc first more later)) (come (more ++ later) image (further later image m))

-- a store of the state that a life has reached is one that it may leave
pub come_leaves : (layout : Layout) (s t : State) (offered : List Offer) (image : Image) → HasCome layout s offered t → IsStoreOf layout image t
    → MayLeave layout s offered image
come_leaves layout s t offered image come store = subst (λ l. MayLeave layout s l image) (ends_so offered) (come [] image (holds store none))
  where
    ends_so : (l : List Offer) → l ++ [] ≡ l
    ends_so [] = refl
    ends_so (x ∷ l) = ap (λ r. x ∷ r) (ends_so l)

-- ---- inputs that a crash interrupts

same_refusal : {T : Type 0} {d e : Refusal} → ◌≡◌ {A = Result T Refusal} (Err d) (Err e) → d ≡ e
same_refusal is = cc

one_stays : {size : ℕ} {s t : State} {input : Input} {answer : Answer} → Answered size s input answer t → answer ≢ Err Reopen
one_stays (accepted step ok) is = cc
one_stays (refused {e} of_step stays step) is = false≢true (sym of_step ∙ ap is_of_store (same_refusal is))
one_stays (turned_away {e} is) told = false≢true (sym (ap is_turned_away (same_refusal told)) ∙ is)

pub each_stays : {size : ℕ} {s t : State} {inputs : List Input} {answers : List Answer} → AreAnswered size s inputs answers t → NoReopen answers
each_stays all_answered = tt
each_stays (and_next one more) = (one_stays one, each_stays more)

faults_stay : (count : ℕ) → NoReopen (replicate count (Err Device))
faults_stay zero = tt
faults_stay (suc count) = ((λ is. cc), faults_stay count)

denied_stay : (meant : List Answer) (count : ℕ) → NoReopen meant → NoReopen (map denied meant ++ replicate count (Err Device))
denied_stay [] count stay = faults_stay count
denied_stay (Ok given ∷ meant) count stay = ((λ is. cc), denied_stay meant count stay.1)
denied_stay (Err e ∷ meant) count stay = (stay.0, denied_stay meant count stay.1)

pub fell_stays : {size : ℕ} {s t : State} {inputs : List Input} {answers : List Answer} → FellBack size s inputs answers t → NoReopen answers
fell_stays back = subst NoReopen (sym back.are) (denied_stay back.meant (length back.rest) (each_stays back.were))

-- the outcome of an input whose answer isn't given yet, and whether it was taken
untold_taken : (answer : Answer) (input : Input) → answer ≢ Err Reopen
    → ((untold (outcome_of answer) ≡ lives.unanswered) × (where_step answer input ≡ input ∷ [])) ⊎ ((untold (outcome_of answer) ≡ lives.turned_away) × (where_step answer input ≡ []))
untold_taken (Ok given) input differs = inl (refl, refl)
untold_taken (Err e) input differs = by (came e)
  where
    stays_in : is_turned_away e ≡ false → where_step (Err e) input ≡ input ∷ []
    stays_in isnt = ap (λ is. if is then [] else input ∷ []) isnt

    by : Came e → ((untold (outcome_of (Err e)) ≡ lives.unanswered) × (where_step (Err e) input ≡ input ∷ [])) ⊎ ((untold (outcome_of (Err e)) ≡ lives.turned_away) × (where_step (Err e) input ≡ []))
    by (away which is o) = inr (ap untold o, ap (λ is. if is then [] else input ∷ []) is)
    by (lost_it is isnt o) = inl (ap untold o, stays_in isnt)
    by (again is) = absurd (differs (ap Err is))
    by (own isnt o) = inl (ap untold o, stays_in isnt)

one_untold : (outcome : Outcome) (input : Input) (more : List Offer) → AreUnanswered more → AreUnanswered (record { input = input; outcome = untold outcome } ∷ more)
one_untold (lives.answered reply) input more others = lost others
one_untold lives.turned_away input more others = turned others
one_untold lives.unanswered input more others = lost others

pub all_untold : (inputs : List Input) (answers : List Answer) → AreUnanswered (untold_offers inputs answers)
all_untold [] answers = none
all_untold (input ∷ inputs) [] = none
all_untold (input ∷ inputs) (answer ∷ answers) = one_untold (outcome_of answer) input (untold_offers inputs answers) (all_untold inputs answers)

still : (layout : Layout) (s t : State) (image : Image) → Run (body_limit layout) s [] t → IsStoreOf layout image t → IsStoreOf layout image s
still layout s t image rests store = store

-- one input of those that were taken
one_taken : (layout : Layout) (s t : State) (input : Input) (outcome : Outcome) (more : List Offer) (others : List Input) (count : ℕ) (image : Image) → outcome ≡ lives.unanswered → AreUnanswered more
    → Run (body_limit layout) s (take count (input ∷ others)) t → IsStoreOf layout image t
    → ((u : State) (n : ℕ) → Run (body_limit layout) u (take n others) t → MayLeave layout u more image)
    → MayLeave layout s (record { input = input; outcome = outcome } ∷ more) image
one_taken layout s t input outcome more others zero image is untold_are run store behind =
    subst (λ o. MayLeave layout s (record { input = input; outcome = o } ∷ more) image) (sym is) (holds (still layout s t image run store) (lost untold_are))
one_taken layout s t input outcome more others (suc count) image is untold_are (goes {t = mid} reply actions step run) store behind =
    subst (λ o. MayLeave layout s (record { input = input; outcome = o } ∷ more) image) (sym is) (takes reply actions tt step (behind mid count run))

some_taken : (layout : Layout) (s t : State) (inputs : List Input) (answers : List Answer) (count : ℕ) (image : Image) → NoReopen answers
    → Run (body_limit layout) s (take count (taken inputs answers)) t → IsStoreOf layout image t → MayLeave layout s (untold_offers inputs answers) image
some_taken layout s t [] answers zero image stay run store = holds (still layout s t image run store) none
some_taken layout s t [] answers (suc count) image stay run store = holds (still layout s t image run store) none
some_taken layout s t (input ∷ inputs) [] zero image stay run store = holds (still layout s t image run store) none
some_taken layout s t (input ∷ inputs) [] (suc count) image stay run store = holds (still layout s t image run store) none
some_taken layout s t (input ∷ inputs) (answer ∷ answers) count image stay run store = by (untold_taken answer input stay.0)
    (λ u n behind. some_taken layout u t inputs answers n image stay.1 behind store)
  where
    more : List Offer
    more = untold_offers inputs answers

    at : (front : List Input) → where_step answer input ≡ front → Run (body_limit layout) s (take count (front ++ taken inputs answers)) t
    at front is = subst (λ l. Run (body_limit layout) s (take count (l ++ taken inputs answers)) t) is run

    by : ((untold (outcome_of answer) ≡ lives.unanswered) × (where_step answer input ≡ input ∷ [])) ⊎ ((untold (outcome_of answer) ≡ lives.turned_away) × (where_step answer input ≡ []))
        → ((u : State) (n : ℕ) → Run (body_limit layout) u (take n (taken inputs answers)) t → MayLeave layout u more image)
        → MayLeave layout s (record { input = input; outcome = untold (outcome_of answer) } ∷ more) image
    by (inl (is, there)) further = one_taken layout s t input (untold (outcome_of answer)) more (taken inputs answers) count image is (all_untold inputs answers) (at (input ∷ []) there) store further
    by (inr (is, there)) further = subst (λ o. MayLeave layout s (record { input = input; outcome = o } ∷ more) image) (sym is) (turns_away (further s count (at [] there)))

-- a store of the state after a beginning of the inputs that were taken
pub begun_leaves : (layout : Layout) (s : State) (inputs : List Input) (answers : List Answer) (image : Image) → NoReopen answers
    → IsBegun layout s (taken inputs answers) image → MayLeave layout s (untold_offers inputs answers) image
begun_leaves layout s inputs answers image stay begun = some_taken layout s begun.state inputs answers begun.count image stay begun.run begun.store

-- ---- calls of a keeper

-- a step of the size that a store of the layout has
pub of_size : {size n : ℕ} {s t : State} {input : Input} {reply : machine.Reply} {actions : List Action} → size ≡ n → machine.Step size s input reply actions t
    → machine.Step n s input reply actions t
of_size {s} {t} {input} {reply} {actions} same step = subst (λ n. machine.Step n s input reply actions t) same step

-- A list of inputs that is offered is a part of a life.
pub list_goes_on : (layout : Layout) (s t u : State) (before : List Offer) (inputs : List Input) (answers : List Answer) (old new : Past) (failed : Bool)
    → HasCome layout s before t → NoReopen answers → During old new (IsBegun layout t (taken inputs answers))
    → (failed ≡ false → AreAnswered (body_limit layout) t inputs answers u) → (failed ≡ false → Images new (λ image. IsStoreOf layout image u))
    → GoesOn layout s before inputs answers old new failed u
list_goes_on layout s t u before inputs answers old new failed come stay during told stored = record {
  meanwhile = weaker old new (IsBegun layout t (taken inputs answers)) (MayLeave layout s (before ++ untold_offers inputs answers))
      (λ image begun. come (untold_offers inputs answers) image (begun_leaves layout t inputs answers image stay begun)) during;
  behind = λ works image there. come_leaves layout s u (before ++ offers inputs answers) image (further works) (stored works image there);
  come = further;
}
  where
    further : failed ≡ false → HasCome layout s (before ++ offers inputs answers) u
    further works = come_on layout s t u before (offers inputs answers) come (answered_come layout t u inputs answers (told works))

-- One input that is offered is a part of a life.
pub one_goes_on : (layout : Layout) (s t u : State) (before : List Offer) (input : Input) (answer : Answer) (old new : Past) (failed : Bool)
    → HasCome layout s before t → answer ≢ Err Reopen → During old new (IsBegun layout t (input ∷ []))
    → (where_step answer input ≡ [] → During old new (λ image. IsStoreOf layout image t))
    → (failed ≡ false → Answered (body_limit layout) t input answer u) → (failed ≡ false → Images new (λ image. IsStoreOf layout image u))
    → GoesOn layout s before (input ∷ []) (answer ∷ []) old new failed u
one_goes_on layout s t u before input answer old new failed come stay during kept told stored =
    list_goes_on layout s t u before (input ∷ []) (answer ∷ []) old new failed come (stay, tt) (by (untold_taken answer input stay))
    (λ works. and_next (told works) all_answered) stored
  where
    by : ((untold (outcome_of answer) ≡ lives.unanswered) × (where_step answer input ≡ input ∷ [])) ⊎ ((untold (outcome_of answer) ≡ lives.turned_away) × (where_step answer input ≡ []))
        → During old new (IsBegun layout t (where_step answer input ++ []))
    by (inl (is, there)) = subst (λ l. During old new (IsBegun layout t (l ++ []))) (sym there) during
    by (inr (is, there)) = subst (λ l. During old new (IsBegun layout t (l ++ []))) (sym there)
        (weaker old new (λ image. IsStoreOf layout image t) (IsBegun layout t []) (λ image store. record { count = 0; state = t; run = rests; store = store }) (kept there))

-- A call that writes no offer is a part of a life, too.
pub nothing_offered : (layout : Layout) (s t : State) (before : List Offer) (old new : Past) → HasCome layout s before t
    → During old new (λ image. IsStoreOf layout image t) → During old new (MayLeave layout s before)
nothing_offered layout s t before old new come = weaker old new (λ image. IsStoreOf layout image t) (MayLeave layout s before)
    (λ image store. come_leaves layout s t before image come store)

-- ---- opening

-- an image that a life may leave is a store of some state
pub leaves_some : (layout : Layout) (s : State) (offered : List Offer) (image : Image) → MayLeave layout s offered image → IsSomeStore layout image
leaves_some layout s offered image (holds store untold_are) = record { state = s; stands = store.stands }
leaves_some layout s (offer ∷ offered) image (takes {t = t} reply actions may step more) = leaves_some layout t offered image more
leaves_some layout s (offer ∷ offered) image (turns_away more) = leaves_some layout s offered image more

-- an image that still is a store of the same states may be left if the other may
still_leaves : (layout : Layout) (s t : State) (offered : List Offer) (from image : Image) → StandsFor layout from t → IsStill layout from t image
    → MayLeave layout s offered from → MayLeave layout s offered image
still_leaves layout s t offered from image stands same (holds store untold_are) =
    let is : t ≡ s = one_state layout from t s stands store.stands in
    holds (subst (λ u. IsStoreOf layout image u) is (same.store (subst (λ u. IsStoreOf layout from u) (sym is) store))) untold_are
still_leaves layout s t (offer ∷ offered) from image stands same (takes {t = u} reply actions may step more) =
    takes reply actions may step (still_leaves layout u t offered from image stands same more)
still_leaves layout s t (offer ∷ offered) from image stands same (turns_away more) = turns_away (still_leaves layout s t offered from image stands same more)

-- Opening adds nothing to the images that a life may have left.
pub opening_leaves : (layout : Layout) (s : State) (before : List Offer) (old new : Past) → Images old (MayLeave layout s before)
    → During old new (IsAsBefore layout old) → During old new (MayLeave layout s before)
opening_leaves layout s before old new left = weaker old new (IsAsBefore layout old) (MayLeave layout s before)
    (λ image before_it. still_leaves layout s before_it.state before before_it.from image before_it.before before_it.now (left before_it.from before_it.was))

pub some_stores : (layout : Layout) (s : State) (before : List Offer) (old : Past) → Images old (MayLeave layout s before) → Images old (IsSomeStore layout)
some_stores layout s before old left image there = leaves_some layout s before image (left image there)

-- ---- one input that is refused

-- each refusal turns the input away, or doesn't
away_or_not : (b : Bool) → (b ≡ true) ⊎ (b ≡ false)
away_or_not true = inl refl
away_or_not false = inr refl

not_taken : (input : Input) (e : Refusal) → e ≡ Device → where_step (Err e) input ≡ [] → ⊥
not_taken input e device nothing = cons_not (sym (ap (λ (d : Refusal). where_step (Err d) input) device) ∙ nothing)
  where
    cons_not : {x : Input} {l : List Input} → x ∷ l ≡ [] → ⊥
    cons_not is = cc

-- A refused input is a part of a life: with E15 and E20 it is no step, with E16 it isn't known, and else it is a step that is refused.
pub refused_goes_on : (layout : Layout) (s t u : State) (before : List Offer) (input : Input) (e : Refusal) (old new : Past) (failed : Bool)
    → HasCome layout s before t → During old new (IsBegun layout t (input ∷ []))
    → ((e ≡ Device) ⊎ During old new (λ image. IsStoreOf layout image t))
    → (((e ≡ NoMemory) ⊎ (e ≡ Device)) ⊎ ((e ≡ GenerationsSpent) ⊎ ((is_of_store e ≡ false) × machine.Step (body_limit layout) t input (machine.Refusal (refused_of e)) [] t)))
    → (e ≡ Device → failed ≡ true) → (failed ≡ false → Images new (λ image. IsStoreOf layout image u)) → u ≡ t
    → GoesOn layout s before (input ∷ []) (Err e ∷ []) old new failed u
refused_goes_on layout s t u before input e old new failed come during kept cause faults stored same =
    one_goes_on layout s t u before input (Err e) old new failed come stays during where_kept told stored
  where
    stays : ◌≡◌ {A = Answer} (Err e) (Err Reopen) → ⊥
    stays is = elim cause [
      | inl either ↦ elim either [ inl memory ↦ differs NoMemory memory (λ q. cc) | inr device ↦ differs Device device (λ q. cc) ]
      | inr other ↦ elim other [ inl spent ↦ differs GenerationsSpent spent (λ q. cc) | inr step ↦ false≢true (sym step.0 ∙ ap is_of_store (same_refusal is)) ]
    ]
      where
        differs : (d : Refusal) → e ≡ d → (d ≡ Reopen → ⊥) → ⊥
        differs d same_one not = not (sym same_one ∙ same_refusal is)

    where_kept : where_step (Err e) input ≡ [] → During old new (λ image. IsStoreOf layout image t)
    where_kept nothing = elim kept [ inl device ↦ absurd (not_taken input e device nothing) | inr still_so ↦ still_so ]

    away : is_turned_away e ≡ true → Answered (body_limit layout) t input (Err e) u
    away is = subst (λ v. Answered (body_limit layout) t input (Err e) v) (sym same) (turned_away is)

    told : failed ≡ false → Answered (body_limit layout) t input (Err e) u
    told works = elim cause [
      | inl either ↦ elim either [
        | inl memory ↦ away (ap is_turned_away memory)
        | inr device ↦ absurd (true≢false (sym (faults device) ∙ works))
      ]
      | inr other ↦ elim other [
        | inl spent ↦ away (ap is_turned_away spent)
        | inr step ↦ elim (away_or_not (is_turned_away e)) [
          | inl is ↦ away is
          | inr isnt ↦ subst (λ v. Answered (body_limit layout) t input (Err e) v) (sym same) (refused step.0 isnt step.1)
        ]
      ]
    ]

-- An input and its answer are a part of a life.
pub step_goes_on : (layout : Layout) (size : ℕ) (s t u : State) (before : List Offer) (input : Input) (answer : Answer) (old new : Past) (failed : Bool)
    → size ≡ body_limit layout → HasCome layout s before t → During old new (IsBegun layout t (input ∷ []))
    → IfOk answer (λ receipt. machine.Step size t input receipt.0 receipt.1 u) → IfOk answer (λ receipt. (r : Refused) → receipt.0 ≢ machine.Refusal r)
    → IfErr answer (λ e. (e ≡ Device) ⊎ During old new (λ image. IsStoreOf layout image t))
    → IfErr answer (λ e. ((e ≡ NoMemory) ⊎ (e ≡ Device)) ⊎ ((e ≡ GenerationsSpent) ⊎ ((is_of_store e ≡ false) × machine.Step size t input (machine.Refusal (refused_of e)) [] t)))
    → (answer ≡ Err Device → failed ≡ true) → (failed ≡ false → Images new (λ image. IsStoreOf layout image u)) → OnErr answer (u ≡ t)
    → GoesOn layout s before (input ∷ []) (answer ∷ []) old new failed u
step_goes_on layout size s t u before input (Ok given) old new failed same come during step told kept cause faults stored still =
    one_goes_on layout s t u before input (Ok given) old new failed come (λ is. cc) during (λ nothing. cc) (λ works. accepted (of_size same step) told) stored
step_goes_on layout size s t u before input (Err e) old new failed same come during step told kept cause faults stored still =
    refused_goes_on layout s t u before input e old new failed come during kept
    (⊎_elim (λ lost. inl lost) (λ other. inr (⊎_elim (λ spent. inl spent) (λ own. inr (own.0, of_size same own.1)) other)) cause)
    (λ device. faults (ap (λ (x : Refusal). Err x) device)) stored still
