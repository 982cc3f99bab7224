-- The answers of a store in a run over the kept inputs: the starts that they want and the commands that they did stand
-- in it, in their order.
use Rattle.std.proofs.Common.{◌≡◌, ◌∙◌, ◌<◌, ◌≤◌, inl, inr, ℕ, zero, suc, List, [], ◌∷◌, ◌++◌, length, flat_map, Bool, true, false, Option, Some, None, Result, Ok, Err, slice_get, append_assoc, append-nil, refl, sym, ap, subst, arith}
use Rattle.std.proofs.lemmas.Bool.{false≢true}
use Rattle.std.proofs.lemmas.Option.{none-some}
use Rattle.um_engine.specs.OfStore.{is_of_store}
use Rattle.um_keeper.specs.Answering.{Answer, Answered, accepted, refused, turned_away, AreAnswered, all_answered, and_next, is_turned_away, asked_by, all_asked}
use Rattle.um_keeper.specs.Offers.{outcome_of, offers}
use Rattle.um_laws.proofs.LivesLaws.{run_of}
use Rattle.um_laws.proofs.MachineLaws.{one_outcome}
use Rattle.um_model.specs.Lives.{Outcome, Offer, AreUnanswered, turned, lost, MayBeStep, RunsOver, stays, steps, leaves_out}
use Rattle.um_model.specs.Lives as lives
use Rattle.um_model.specs.Machine.{State, Input, Reply, Step, Run, goes}
use Rattle.um_model.specs.Machine as machine
use Rattle.um_model.specs.Numbers.{AreNew, started_numbers, actions_in}
use Rattle.um_model.specs.Outcomes.{AlikeBut, the_same, both_name}
use Rattle.um_model.specs.Service.{Action, SpawnProcess, SendSignal}
use Rattle.um_wire.specs.Refusal.{refused_of}
use Rattle.um_wire.specs.declared.refusal.Refusal.{Refusal}
use Rattle.um_wire.specs.declared.refusal.Refusal.TheVariants.{BadRequest, UnknownVerb, BadName, NotFound, Masked, BadSetting, NotLoaded, Clash, OrderingCycle, JobConflict, Exists, BadPath, TooLarge, NoRoom, NoMemory, Device, Reopen, Damaged, NotFormatted, GenerationsSpent, NoSuchJob, OtherLayout}
use Rattle.um_manager.specs.Done.{Told, where_done}
use Rattle.um_manager.specs.Lives.{StandIn, no_others, too, between, starts_in, done_in}

-- ---- one list in another

pub stand_none : {X : Type 0} (ys : List X) → StandIn [] ys
stand_none [] = no_others
stand_none (y ∷ ys) = between (stand_none ys)

pub stand_front : {X : Type 0} (xs ys zs : List X) → StandIn xs ys → StandIn xs (ys ++ zs)
stand_front xs ys zs no_others = stand_none zs
stand_front xs ys zs (too {some = some} {all = all} rest) = too (stand_front some all zs rest)
stand_front xs ys zs (between {all = all} rest) = between (stand_front xs all zs rest)

pub stand_both : {X : Type 0} (xs ys zs ws : List X) → StandIn xs ys → StandIn zs ws → StandIn (xs ++ zs) (ys ++ ws)
stand_both xs ys zs ws no_others more = more
stand_both xs ys zs ws (too {some = some} {all = all} rest) more = too (stand_both some all zs ws rest more)
stand_both xs ys zs ws (between {all = all} rest) more = between (stand_both xs all zs ws rest more)

pub stand_all : {X : Type 0} (xs : List X) → StandIn xs xs
stand_all [] = no_others
stand_all (x ∷ xs) = too (stand_all xs)

abbrev first_of : {X : Type 0} → X → List X → X
first_of other [] = other
first_of other (x ∷ xs) = x

abbrev rest_of : {X : Type 0} → List X → List X
rest_of [] = []
rest_of (x ∷ xs) = xs

stand_from : {X : Type 0} (all ys : List X) → StandIn all ys → (xs zs : List X) → all ≡ xs ++ zs → StandIn xs ys
stand_from all ys stand [] zs is = stand_none ys
stand_from all ys no_others (x ∷ xs) zs is = cc
stand_from all ys (too {x = y} {some = some} {all = more} rest) (x ∷ xs) zs is =
    subst (λ z. StandIn (z ∷ xs) (y ∷ more)) (ap (first_of y) is) (too (stand_from some more rest xs zs (ap rest_of is)))
stand_from all ys (between {all = more} rest) (x ∷ xs) zs is = between (stand_from all more rest (x ∷ xs) zs is)

-- the first of those that stand there stand there
pub stand_less : {X : Type 0} (xs zs ys : List X) → StandIn (xs ++ zs) ys → StandIn xs ys
stand_less xs zs ys stand = stand_from (xs ++ zs) ys stand xs zs refl

-- ---- starts

pub starts_both : (xs ys : List Action) → starts_in (xs ++ ys) ≡ starts_in xs ++ starts_in ys
starts_both [] ys = refl
starts_both (SpawnProcess number words environment ∷ xs) ys = ap (λ l. SpawnProcess number words environment ∷ l) (starts_both xs ys)
starts_both (SendSignal number signal ∷ xs) ys = starts_both xs ys

numbers_of_starts : (xs : List Action) → started_numbers (starts_in xs) ≡ started_numbers xs
numbers_of_starts [] = refl
numbers_of_starts (SpawnProcess number words environment ∷ xs) = ap (λ l. number ∷ l) (numbers_of_starts xs)
numbers_of_starts (SendSignal number signal ∷ xs) = numbers_of_starts xs

-- actions that start nothing have no start
pub no_starts : (xs : List Action) → started_numbers xs ≡ [] → starts_in xs ≡ []
no_starts [] none = refl
no_starts (SpawnProcess number words environment ∷ xs) none = cc
no_starts (SendSignal number signal ∷ xs) none = no_starts xs none

numbers_stand : (xs ys : List Action) → StandIn xs ys → StandIn (started_numbers xs) (started_numbers ys)
numbers_stand xs ys no_others = no_others
numbers_stand (SpawnProcess number words environment ∷ xs) ys (too {all = all} rest) = too (numbers_stand xs all rest)
numbers_stand (SendSignal number signal ∷ xs) ys (too {all = all} rest) = numbers_stand xs all rest
numbers_stand xs (SpawnProcess number words environment ∷ ys) (between rest) = between (numbers_stand xs ys rest)
numbers_stand xs (SendSignal number signal ∷ ys) (between rest) = numbers_stand xs ys rest

-- ---- new numbers

pub none_new : (n : ℕ) → AreNew n n []
none_new n = record {
  rises = omega arith;
  within = λ i m e. absurd (none-some m e);
  once = λ i j m e f. absurd (none-some m e);
}

new_tail : (a b x : ℕ) (xs : List ℕ) → AreNew a b (x ∷ xs) → AreNew a b xs
new_tail a b x xs new = record {
  rises = new.rises;
  within = λ i n e. new.within (suc i) n e;
  once = λ i j n e f. let same = new.once (suc i) (suc j) n e f in omega (arith, same);
}

-- numbers that stand in one list stand in the other
stands_at : (xs ys : List ℕ) → StandIn xs ys → (i n : ℕ) → slice_get xs i ≡ Some n → (j : ℕ) × (slice_get ys j ≡ Some n)
stands_at xs ys no_others i n e = absurd (none-some n e)
stands_at xs ys (too {some = some} {all = all} rest) zero n e = (0, e)
stands_at xs ys (too {some = some} {all = all} rest) (suc i) n e = let (j, f) = stands_at some all rest i n e in (suc j, f)
stands_at xs ys (between {all = all} rest) i n e = let (j, f) = stands_at xs all rest i n e in (suc j, f)

stands_once : (a b : ℕ) (xs ys : List ℕ) → StandIn xs ys → AreNew a b ys → (i j n : ℕ) → slice_get xs i ≡ Some n → slice_get xs j ≡ Some n → i ≡ j
stands_once a b xs ys no_others new i j n e f = absurd (none-some n e)
stands_once a b xs ys (between {x = y} {all = all} rest) new i j n e f = stands_once a b xs all rest (new_tail a b y all new) i j n e f
stands_once a b xs ys (too {x = y} {some = some} {all = all} rest) new zero zero n e f = refl
stands_once a b xs ys (too {x = y} {some = some} {all = all} rest) new zero (suc j) n e f =
    let (k, g) = stands_at some all rest j n f in
    let same = new.once 0 (suc k) n e g in
    absurd (omega (arith, same))
stands_once a b xs ys (too {x = y} {some = some} {all = all} rest) new (suc i) zero n e f =
    let (k, g) = stands_at some all rest i n e in
    let same = new.once 0 (suc k) n f g in
    absurd (omega (arith, same))
stands_once a b xs ys (too {x = y} {some = some} {all = all} rest) new (suc i) (suc j) n e f =
    ap suc (stands_once a b some all rest (new_tail a b y all new) i j n e f)

-- numbers that stand among new ones are new
pub new_among : (a b : ℕ) (xs ys : List ℕ) → StandIn xs ys → AreNew a b ys → AreNew a b xs
new_among a b xs ys stand new = record {
  rises = new.rises;
  within = λ i n e. let (j, f) = stands_at xs ys stand i n e in new.within j n f;
  once = stands_once a b xs ys stand new;
}

-- so a process started by starts among those of others is new if theirs are
pub starts_new : (a b : ℕ) (xs ys : List Action) → StandIn (starts_in xs) (starts_in ys) → AreNew a b (started_numbers ys) → AreNew a b (started_numbers xs)
starts_new a b xs ys stand new =
    new_among a b (started_numbers xs) (started_numbers ys)
    (subst (λ l. StandIn l (started_numbers ys)) (numbers_of_starts xs)
    (subst (λ l. StandIn (started_numbers (starts_in xs)) l) (numbers_of_starts ys) (numbers_stand (starts_in xs) (starts_in ys) stand))) new

-- ---- the outcomes of offers

-- the outcome of an input that its step refused
own_outcome : (e : Refusal) → is_of_store e ≡ false → is_turned_away e ≡ false → outcome_of (Err e) ≡ lives.answered (machine.Refusal (refused_of e))
own_outcome BadRequest of_step unturned = refl
own_outcome (UnknownVerb verb) of_step unturned = refl
own_outcome (BadName text) of_step unturned = refl
own_outcome (NotFound unit) of_step unturned = refl
own_outcome (Masked unit) of_step unturned = refl
own_outcome (BadSetting unit reason) of_step unturned = refl
own_outcome (NotLoaded unit) of_step unturned = refl
own_outcome (Clash unit) of_step unturned = refl
own_outcome (OrderingCycle units) of_step unturned = refl
own_outcome (JobConflict unit) of_step unturned = refl
own_outcome (Exists path) of_step unturned = refl
own_outcome (BadPath path) of_step unturned = refl
own_outcome (TooLarge limit) of_step unturned = refl
own_outcome NoRoom of_step unturned = refl
own_outcome NoMemory of_step unturned = absurd (false≢true (sym unturned))
own_outcome Device of_step unturned = absurd (false≢true (sym of_step))
own_outcome Reopen of_step unturned = absurd (false≢true (sym of_step))
own_outcome (Damaged sector) of_step unturned = absurd (false≢true (sym of_step))
own_outcome NotFormatted of_step unturned = absurd (false≢true (sym of_step))
own_outcome GenerationsSpent of_step unturned = absurd (false≢true (sym of_step))
own_outcome (NoSuchJob unit) of_step unturned = refl
own_outcome OtherLayout of_step unturned = absurd (false≢true (sym of_step))

-- the outcome of one that was turned away
away_outcome : (e : Refusal) → is_turned_away e ≡ true → outcome_of (Err e) ≡ lives.turned_away
away_outcome NoMemory is = refl
away_outcome GenerationsSpent is = refl
away_outcome other is = cc

-- Steps over offers, each answered or turned away: the actions that they want, and the commands that they did.
pub data Came (size : ℕ) : State → List Offer → List Action → List Told → State → Type 0 where
  none_came : {s : State} → Came size s [] [] [] s
  did : {s t u : State} {offer : Offer} {offered : List Offer} {asked : List Action} {told : List Told} (reply : Reply) (actions : List Action)
      → offer.outcome ≡ lives.answered reply → Step size s offer.input reply actions t → Came size t offered asked told u
      → Came size s (offer ∷ offered) (actions ++ asked) (where_done offer.input reply ++ told) u
  passed : {s t : State} {offer : Offer} {offered : List Offer} {asked : List Action} {told : List Told} → offer.outcome ≡ lives.turned_away
      → Came size s offered asked told t → Came size s (offer ∷ offered) asked told t

pub came_both : (size : ℕ) (s t u : State) (xs ys : List Offer) (asked more : List Action) (told others : List Told) → Came size s xs asked told t → Came size t ys more others u
    → Came size s (xs ++ ys) (asked ++ more) (told ++ others) u
came_both size s t u xs ys asked more told others none_came came = came
came_both size s t u xs ys asked more told others (did {t = v} {offer = offer} {offered = offered} {asked = later} {told = then} reply actions is step rest) came =
    subst (λ l. Came size s (offer ∷ (offered ++ ys)) l ((where_done offer.input reply ++ then) ++ others) u) (sym (append_assoc actions later more))
    (subst (λ l. Came size s (offer ∷ (offered ++ ys)) (actions ++ (later ++ more)) l u) (sym (append_assoc (where_done offer.input reply) then others))
    (did reply actions is step (came_both size v t u offered ys later more then others rest came)))
came_both size s t u xs ys asked more told others (passed {offered = offered} is rest) came =
    passed is (came_both size s t u offered ys asked more told others rest came)

-- the input, where its answer is that it was done
abbrev pub done_by : Input → Answer → List Told
done_by input (Ok given) = where_done input given.0
done_by input (Err e) = []

abbrev pub all_done : List Input → List Answer → List Told
all_done (input ∷ inputs) (answer ∷ answers) = done_by input answer ++ all_done inputs answers
all_done inputs answers = []

pub answered_came : (size : ℕ) (s t : State) (inputs : List Input) (answers : List Answer) → AreAnswered size s inputs answers t
    → Came size s (offers inputs answers) (all_asked answers) (all_done inputs answers) t
answered_came size s t [] [] all_answered = none_came
answered_came size s t [] (answer ∷ answers) are = elim are [ ]
answered_came size s t (input ∷ inputs) [] are = elim are [ ]
answered_came size s t (input ∷ inputs) (Ok given ∷ answers) (and_next {t = u} (accepted {reply = reply} {actions = actions} step done) rest) =
    did reply actions refl step (answered_came size u t inputs answers rest)
answered_came size s t (input ∷ inputs) (Err e ∷ answers) (and_next (refused of_step unturned step) rest) =
    did (machine.Refusal (refused_of e)) [] (own_outcome e of_step unturned) step (answered_came size s t inputs answers rest)
answered_came size s t (input ∷ inputs) (Err e ∷ answers) (and_next (turned_away is) rest) =
    passed (away_outcome e is) (answered_came size s t inputs answers rest)

-- ---- a run over the kept inputs

was_answered : (offer : Offer) (offered : List Offer) (reply : Reply) → AreUnanswered (offer ∷ offered) → offer.outcome ≡ lives.answered reply → ⊥
was_answered offer offered reply (turned more) is = cc
was_answered offer offered reply (lost more) is = cc

rest_unanswered : (offer : Offer) (offered : List Offer) → AreUnanswered (offer ∷ offered) → AreUnanswered offered
rest_unanswered offer offered (turned more) = more
rest_unanswered offer offered (lost more) = more

-- a run over the kept inputs begins with the steps that were answered
pub record Begins (size : ℕ) (s : State) (asked : List Action) (told : List Told) (here : List Input) (t : State) : Type 0 where
  pub run : Run size s here t
  pub later : List Action
  pub actions : actions_in run ≡ asked ++ later
  pub others : List Told
  pub done : done_in run ≡ told ++ others

pub begins : (size : ℕ) (s v t : State) (offered more : List Offer) (asked : List Action) (told : List Told) (here : List Input) → Came size s offered asked told v
    → RunsOver size s (offered ++ more) here t → Begins size s asked told here t
begins size s v t offered more asked told here none_came over =
    record { run = run_of over; later = actions_in (run_of over); actions = refl; others = done_in (run_of over); done = refl }
begins size s v t offered more asked told here (did {offer = offer} {offered = rest} reply actions is step came) (stays lost_all) =
    absurd (was_answered offer (rest ++ more) reply lost_all is)
begins size s v t offered more asked told here (did {t = w} {offer = offer} {offered = rest} {asked = then} {told = done} reply actions is step came)
    (steps {t = x} {inputs = inputs} other others may again over) =
    let one = one_outcome size s offer.input other reply others actions x w again step in
    let more_of = begins size w v t rest more then done inputs came (subst (λ z. RunsOver size z (rest ++ more) inputs t) one.state over) in
    record {
      run = goes reply actions step more_of.run;
      later = more_of.later;
      actions = ap (λ l. actions ++ l) more_of.actions ∙ sym (append_assoc actions then more_of.later);
      others = more_of.others;
      done = ap (λ l. where_done offer.input reply ++ l) more_of.done ∙ sym (append_assoc (where_done offer.input reply) done more_of.others);
    }
begins size s v t offered more asked told here (did reply actions is step came) (leaves_out over) = cc
begins size s v t offered more asked told here (passed {offer = offer} {offered = rest} is came) (stays lost_all) =
    begins size s v t rest more asked told [] came (stays (rest_unanswered offer (rest ++ more) lost_all))
begins size s v t offered more asked told here (passed {offer = offer} is came) (steps other others may again over) =
    absurd (subst (λ o. MayBeStep o other) is may)
begins size s v t offered more asked told here (passed {offered = rest} is came) (leaves_out over) = begins size s v t rest more asked told here came over

-- ---- every run

done_alike : (input : Input) (r q : Reply) → AlikeBut r q → where_done input r ≡ where_done input q
done_alike input r q (the_same is) = ap (where_done input) is
done_alike input r q (both_name one other) = refl

-- each run over the same inputs wants the same actions, and does the same
pub same_run : (size : ℕ) (s z t u : State) (inputs : List Input) → s ≡ z → (run : Run size s inputs t) (other : Run size z inputs u)
    → (actions_in run ≡ actions_in other) × (done_in run ≡ done_in other)
same_run size s z t u inputs same Run.rests Run.rests = (refl, refl)
same_run size s z t u (input ∷ inputs) same (goes {t = v} reply actions step run) (goes {t = w} told asked again other) =
    let one = one_outcome size s input reply told actions asked v w step (subst (λ x. Step size x input told asked w) (sym same) again) in
    let (later, done) = same_run size v w t u inputs one.state run other in (
      ap (λ l. l ++ actions_in run) one.actions ∙ ap (λ l. asked ++ l) later,
      ap (λ l. l ++ done_in run) (done_alike input reply told one.reply) ∙ ap (λ l. where_done input told ++ l) done,
    )

-- one run after another
abbrev pub run_both : {size : ℕ} {s t u : State} {xs ys : List Input} → Run size s xs t → Run size t ys u → Run size s (xs ++ ys) u
run_both Run.rests more = more
run_both (goes reply actions step first) more = goes reply actions step (run_both first more)

pub actions_both : {size : ℕ} {s t u : State} {xs ys : List Input} (first : Run size s xs t) (more : Run size t ys u) → actions_in (run_both first more) ≡ actions_in first ++ actions_in more
actions_both Run.rests more = refl
actions_both (goes reply actions step first) more = ap (λ l. actions ++ l) (actions_both first more) ∙ sym (append_assoc actions (actions_in first) (actions_in more))

pub done_both : {size : ℕ} {s t u : State} {xs ys : List Input} (first : Run size s xs t) (more : Run size t ys u) → done_in (run_both first more) ≡ done_in first ++ done_in more
done_both Run.rests more = refl
done_both (goes {input = x} reply actions step first) more =
    ap (λ l. where_done x reply ++ l) (done_both first more) ∙ sym (append_assoc (where_done x reply) (done_in first) (done_in more))
