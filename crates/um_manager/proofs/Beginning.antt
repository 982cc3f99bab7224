-- The parts of an opening, taken together.
use Rattle.std.proofs.Common.{◌≡◌, ◌⊎◌, ◌≤◌, arith, inl, inr, ◌∙◌, ◌++◌, ℕ, zero, suc, List, [], ◌∷◌, length, map, take, Bool, true, false, if◌then◌else◌, Result, Ok, Err, append-nil, refl, sym, ap, subst}
use Rattle.std.specs.Bool.{IsTrue}
use Rattle.std.specs.Prelude.{IfErr}
use Rattle.std.proofs.lemmas.Result.{err_from_is_err_and}
use Rattle.std.specs.Result.{IsErrAnd}
use Rattle.um_keeper.specs.Answering.{Answer, is_turned_away, where_step, taken}
use Rattle.um_keeper.specs.Keeping.{IsBegun, Keeps}
use Rattle.um_keeper.specs.Opening.{IsAsBefore}
use Rattle.um_laws.proofs.DiskLaws.{weaker, followed}
use Rattle.um_model.specs.Children.{Call, Tale, ForgotOthers}
use Rattle.um_log.specs.Reading.{Fits}
use Rattle.um_model.specs.Disk.{Past, Image, During, seen}
use Rattle.um_model.specs.InputSpellings.{input_spelling}
use Rattle.um_model.specs.declared.layout.Slot.{Slot}
use Rattle.um_model.specs.Lives.{HasInOrder, no_others, has, between}
use Rattle.um_model.specs.Machine.{State, Input, Reply, Step, Run, goes, boot_limit}
use Rattle.um_model.specs.Service.{Action}
use Rattle.um_model.specs.Store.{current, body_limit, log_start, records_of, sectors_of}
use Rattle.um_model.specs.declared.layout.Layout.{Layout}
use Rattle.um_wire.specs.declared.refusal.Refusal.{Refusal}
use Rattle.um_fates.specs.Fates.{asks_for}
use Rattle.um_manager.proofs.Booting.{boot_fits}
use Rattle.um_manager.specs.Opening.{adoptions, boot_at, Began, Refuses, unbooted, unadopted, AsksAlone, IsSilentIn, IsSilent, IsFound, IsOfOpening, IsOfRefused}
use Rattle.um_manager.specs.Places.{Place, LogEnd, place, is_trusted}
use Rattle.um_manager.specs.Turns.{Now, now}

-- a fact of each refusal
pub if_err_all : {T E : Type 0} (result : Result T E) (P : E → Type 0) → ((e : E) → P e) → IfErr result P
if_err_all (Ok x) P f = tt
if_err_all (Err e) P f = f e

-- a fact of the refusal that is handed on
pub if_err_same : {T E : Type 0} (result : Result T E) (P : E → Type 0) (e : E) → IsErrAnd result (λ y. y ≡ e) → P e → IfErr result P
if_err_same result P e is p = let (y, err, same) = err_from_is_err_and result is in subst (λ r. IfErr r P) (sym err) (subst P (sym same) p)

-- the boot is refused, or never offered
pub refuses_boot : {T : Type 0} (h w : Bool) (result : Result T Refusal) (place : Place) (moment : ℕ) (boot : List ℕ) (s t : State) (past : List Call) (d e : Past) (p q : LogEnd) → t ≡ s
    → (IsTrue place.trusted → During d e (IsBegun place.layout s (boot_at moment boot ∷ [])))
    → IfErr result (λ x. (marks : List ℕ) × Refuses place h w x moment boot (now s past [] [] d p) (now t past marks [] e q))
refuses_boot h w result place moment boot s t past d e p q same left =
    if_err_all result (λ x. (marks : List ℕ) × Refuses place h w x moment boot (now s past [] [] d p) (now t past marks [] e q))
    (λ x. ([], unbooted same refl left))

-- ---- a beginning of the boot and the inputs that follow

first_taken : (size : ℕ) (s t : State) (i : Input) (xs : List Input) (count : ℕ) → Run size s (take count (i ∷ [])) t → (n : ℕ) × Run size s (take n (i ∷ xs)) t
first_taken size s t i xs zero run = (0, run)
first_taken size s t i xs (suc zero) run = (1, run)
first_taken size s t i xs (suc (suc n)) run = (1, run)

begun_first : (layout : Layout) (s : State) (i : Input) (xs : List Input) (image : Image) → IsBegun layout s (i ∷ []) image → IsBegun layout s (i ∷ xs) image
begun_first layout s i xs image b =
    let (n, run) = first_taken (body_limit layout) s b.state i xs b.count b.run in
    record { count = n; state = b.state; run = run; store = b.store }

begun_then : (layout : Layout) (s t : State) (i : Input) (reply : Reply) (actions : List Action) (xs : List Input) (image : Image) → Step (body_limit layout) s i reply actions t
    → IsBegun layout t xs image → IsBegun layout s (i ∷ xs) image
begun_then layout s t i reply actions xs image step b = record { count = suc b.count; state = b.state; run = goes reply actions step b.run; store = b.store }

-- the images that a crash leaves of the boot and the inputs that follow
pub boot_then : (place : Place) (s t : State) (i : Input) (reply : Reply) (xs : List Input) (d e f : Past) → place.size ≡ body_limit place.layout → Step place.size s i reply [] t
    → During d e (IsBegun place.layout s (i ∷ [])) → During e f (IsBegun place.layout t xs) → During d f (IsBegun place.layout s (i ∷ xs))
boot_then place s t i reply xs d e f on step first more =
    followed d e f (IsBegun place.layout s (i ∷ xs))
    (weaker d e (IsBegun place.layout s (i ∷ [])) (IsBegun place.layout s (i ∷ xs)) (begun_first place.layout s i xs) first)
    (weaker e f (IsBegun place.layout t xs) (IsBegun place.layout s (i ∷ xs)) (λ image. begun_then place.layout s t i reply [] xs image (subst (λ n. Step n s i reply [] t) on step)) more)

-- an opening as a whole
pub opening_left : (layout : Layout) (s : State) (inputs : List Input) (d e f : Past) → During d e (IsAsBefore layout d) → During e f (IsBegun layout s inputs)
    → During d f (IsOfOpening layout d s inputs)
opening_left layout s inputs d e f first more =
    followed d e f (IsOfOpening layout d s inputs)
    (weaker d e (IsAsBefore layout d) (IsOfOpening layout d s inputs) (λ image is. inl is) first)
    (weaker e f (IsBegun layout s inputs) (IsOfOpening layout d s inputs) (λ image is. inr is) more)

none_had : (inputs : List Input) → HasInOrder [] inputs
none_had [] = no_others
none_had (input ∷ inputs) = between (none_had inputs)

had_where : (away : Bool) (input : Input) (some all : List Input) → HasInOrder some all → HasInOrder ((if away then [] else input ∷ []) ++ some) (input ∷ all)
had_where true input some all had = between had
had_where false input some all had = has had

had_more : (answer : Answer) (input : Input) (some all : List Input) → HasInOrder some all → HasInOrder (where_step answer input ++ some) (input ∷ all)
had_more (Ok given) input some all had = has had
had_more (Err e) input some all had = had_where (is_turned_away e) input some all had

taken_had : (inputs : List Input) (answers : List Answer) → HasInOrder (taken inputs answers) inputs
taken_had [] answers = no_others
taken_had (input ∷ inputs) [] = none_had (input ∷ inputs)
taken_had (input ∷ inputs) (answer ∷ answers) = had_more answer input (taken inputs answers) inputs (taken_had inputs answers)

cut_short : (place : Place) (h w : Bool) (moment : ℕ) (boot : List ℕ) (sectors : ℕ) (first : Past) (a b : Now) (told : List Tale) (some : List Input) → IsFound sectors first place.layout a.state
    → (IsTrue h → IsTrue w → IsSilentIn (body_limit place.layout) a.state moment boot told a.past b.past) → HasInOrder some (adoptions moment told) → During first a.disk (IsAsBefore place.layout first)
    → During a.disk b.disk (IsBegun place.layout a.state (boot_at moment boot ∷ some)) → During first b.disk (IsOfRefused place.layout moment boot sectors first h w a.past b.past)
cut_short place h w moment boot sectors first a b told some found asked are before more =
    followed first a.disk b.disk (IsOfRefused place.layout moment boot sectors first h w a.past b.past)
    (weaker first a.disk (IsAsBefore place.layout first) (IsOfRefused place.layout moment boot sectors first h w a.past b.past) (λ image is. inl is) before)
    (weaker a.disk b.disk (IsBegun place.layout a.state (boot_at moment boot ∷ some)) (IsOfRefused place.layout moment boot sectors first h w a.past b.past)
    (λ image is. inr (record { state = a.state; found = found; told = told; asked = asked; some = some; are = are; begun = is })) more)

asks_alone : {place : Place} {h w : Bool} {e : Refusal} {moment : ℕ} {boot : List ℕ} {count : ℕ} {a b : Now} → place.size ≡ body_limit place.layout
    → (began : Began place h w (Err e) moment boot count a b) → IsTrue h → IsTrue w → AsksAlone (body_limit place.layout) a.state moment boot began.adopted.told a.past b.past
asks_alone {moment = moment} {boot = boot} {a = a} on began honest whole = record {
  reply = began.reply;
  booted = began.mid.state;
  boots = subst (λ n. Step n a.state (boot_at moment boot) began.reply [] began.mid.state) on began.booted;
  live = began.adopted.live;
  are_live = began.adopted.are_live;
  past_is = began.adopted.called honest whole ∙ ap (λ l. l ++ (ForgotOthers began.adopted.live began.mid.state.next ∷ map asks_for began.adopted.told)) began.asked_none;
}

-- the images that a crash leaves of an opening that is refused once the store is taken up
pub refused_left : (place : Place) (h w : Bool) (moment : ℕ) (boot : List ℕ) (sectors : ℕ) (first : Past) (a b : Now) (e : Refusal) → place.size ≡ body_limit place.layout → IsTrue place.trusted
    → IsFound sectors first place.layout a.state → During first a.disk (IsAsBefore place.layout first) → Refuses place h w e moment boot a b
    → During first b.disk (IsOfRefused place.layout moment boot sectors first h w a.past b.past)
refused_left place h w moment boot sectors first a b e on sure found before (unbooted same past left) =
    cut_short place h w moment boot sectors first a b [] [] found (λ honest whole. inl (refl, past)) no_others before (left sure)
refused_left place h w moment boot sectors first a b e on sure found before (unadopted device began) =
    let mid = began.mid in
    let adopted = began.adopted in
    let inputs = adoptions moment adopted.told in
    let some = taken inputs adopted.answers in
    cut_short place h w moment boot sectors first a b adopted.told some found
    (λ honest whole. inr (asks_alone on began honest whole)) (taken_had inputs adopted.answers) before
    (boot_then place a.state mid.state (boot_at moment boot) began.reply some a.disk mid.disk b.disk on began.booted (began.left sure) (adopted.left sure))

-- it queried fates alone, or nothing
pub asked_alone : (place : Place) (h w honest : Bool) (moment : ℕ) (boot : List ℕ) (sectors : ℕ) (first : Past) (a b : Now) (e : Refusal) → place.size ≡ body_limit place.layout
    → (IsTrue honest → IsFound sectors first place.layout a.state) → Refuses place h w e moment boot a b → IsTrue h → IsTrue w
    → (b.past ≡ a.past) ⊎ IsSilent sectors first honest moment boot a.past b.past
asked_alone place h w honest moment boot sectors first a b e on found (unbooted same past left) sure whole = inl past
asked_alone place h w honest moment boot sectors first a b e on found (unadopted device began) sure whole =
    inr (record { layout = place.layout; state = a.state; found = found; told = began.adopted.told; asked = asks_alone on began sure whole })

pub opened_place : {m n : ℕ} {k l : Layout} {h i f : Bool} → n ≡ m → l ≡ k → i ≡ h → f ≡ false → place m k (is_trusted i f) ≡ place n l h
opened_place {m} {n} {k} {l} {h} {i} {f} size layout honest working =
    ap (λ x. place m k (is_trusted i x)) working ∙ ap (λ x. place m k x) honest ∙ ap (λ x. place x k h) (sym size) ∙ ap (λ (x : Layout). place n x h) (sym layout)

-- ---- the boot has room

nil_of : {X : Type 0} (xs : List X) → length xs ≡ 0 → xs ≡ []
nil_of [] e = refl
nil_of (x ∷ xs) e = absurd (omega (arith, e))

-- a log without records goes on at its start
empty_end : {past : Past} {sectors newest written generation number next : ℕ} {kept : List ℕ} {layout : Layout} {slot : Slot} {s : State}
    → Keeps past sectors layout slot newest kept written generation number next s → number ≡ 0
    → next ≡ log_start layout generation
empty_end {past = past} {generation = generation} {layout = layout} k none =
    let records = records_of current layout generation (seen past) in
    let no_sectors : sectors_of records ≡ 0 = ap sectors_of (nil_of records (sym k.count ∙ none)) in
    omega (arith, k.place, no_sectors)

-- so the boot isn't refused for want of room there
pub never_spent : {past : Past} {sectors newest written generation number next : ℕ} {kept : List ℕ} {layout : Layout} {slot : Slot} {s : State} (moment : ℕ) (boot : List ℕ)
    → Keeps past sectors layout slot newest kept written generation number next s → number ≡ 0 → length boot ≤ boot_limit
    → ¬ Fits layout generation next (length (input_spelling (boot_at moment boot))) → ⊥
never_spent {generation = generation} {next = next} {layout = layout} moment boot k none short no_room =
    no_room (boot_fits layout generation next moment boot short (empty_end k none))
