-- Laws of inputs that are taken in order.
use Rattle.std.proofs.Common.{◌≡◌, ◌⊎◌, ◌∙◌, ℕ, zero, suc, ◌+◌, ◌-◌, arith, Bool, true, false, List, [], ◌∷◌, ◌++◌, append_assoc, append-nil, length, length-append, map, replicate, take, drop, refl, sym, ap, subst, inl, inr}
use Rattle.std.specs.List.{AllByRecursion, Contains}
use Rattle.std.specs.Prelude.{Ok, Err}
use Rattle.std.proofs.lemmas.Bool.{false≢true}
use Rattle.std.proofs.lemmas.List.{take-append-drop}
use Rattle.std.proofs.lemmas.List.Elements.{Contains-append_left, Contains-append_right, Contains-append_cases, Contains-push_cases}
use Rattle.um_engine.specs.Engine.{state_before}
use Rattle.um_engine.specs.declared.engine.Back.{Back}
use Rattle.um_model.specs.Disk.{Past, During}
use Rattle.um_model.specs.Machine.{State, Input, Reply, Done, Refusal, Run, rests, goes, Step}
use Rattle.um_model.specs.Numbers.{AreNew, started_numbers, actions_in}
use Rattle.um_model.specs.Refusals.{Refused}
use Rattle.um_model.specs.Service.{Action}
use Rattle.um_model.specs.Standing.{Standing}
use Rattle.um_model.specs.declared.layout.Layout.{Layout}
use Rattle.um_laws.proofs.DiskLaws.{weaker}
use Rattle.um_laws.proofs.NumbersLaws.{run_numbers_rise}
use Rattle.um_keeper.specs.Answering.{Answer, is_turned_away, Answered, accepted, refused, turned_away, AreAnswered, all_answered, and_next, Recorded, all_recorded, without_record, with_record, FailsAt, at_sync, at_record, FellBack, FellThere, StopsAt, HasFault, denied, where_step, taken, all_asked, IsIdle, IsRefusal, NeedNoRecord, HasNoRecord, HaveNoRecord, record_sectors, state_before_all}
use Rattle.um_keeper.specs.Keeping.{IsBegun}
use Rattle.um_keeper.proofs.Kept.{begun_longer}
use Rattle.um_engine.specs.OfStore.{is_of_store}
use Rattle.um_sector.specs.Refused.{IsLost}
use Rattle.um_wire.specs.Refusal.{refused_of}
use Rattle.um_wire.specs.declared.refusal.Refusal as declared
use Rattle.um_wire.specs.declared.refusal.Refusal.TheVariants.{Device, GenerationsSpent}

-- ---- numbers

-- the accepted ones are a run, with the actions that they want
run_of : {size : ℕ} {s t : State} {inputs : List Input} {answers : List Answer} → AreAnswered size s inputs answers t
    → (some : List Input) × (run : Run size s some t) × (actions_in run ≡ all_asked answers)
run_of all_answered = ([], rests, refl)
run_of (and_next {input = input} (accepted {reply} {actions} step ok) more) =
    let (some, run, is) = run_of more in (input ∷ some, goes reply actions step run, ap (λ l. actions ++ l) is)
run_of (and_next (refused of_step stays step) more) = run_of more
run_of (and_next (turned_away away) more) = run_of more

pub numbers_asked : {size : ℕ} {s t : State} {inputs : List Input} {answers : List Answer} → AreAnswered size s inputs answers t
    → AreNew s.next t.next (started_numbers (all_asked answers))
numbers_asked {size} {s} {t} answered =
    let (some, run, is) = run_of answered in
    subst (λ l. AreNew s.next t.next (started_numbers l)) is (run_numbers_rise size s t some run)

-- ---- ways back

pub back_append : (xs ys : List Back) (s : Standing) → state_before_all (xs ++ ys) s ≡ state_before_all xs (state_before_all ys s)
back_append [] ys s = refl
back_append (x ∷ xs) ys s = ap (state_before x) (back_append xs ys s)

-- the answers with one more, and those after it
pub appended : (more all : List Answer) (answer : Answer) (rest : List Answer) → all ≡ more ++ answer ∷ [] → all ++ rest ≡ more ++ (answer ∷ rest)
appended more all answer rest is = ap (λ l. l ++ rest) is ∙ append_assoc more (answer ∷ []) rest

-- ---- the records that inputs need

pub idle_left : (s : State) {left more : List Input} {input : Input} → left ≡ input ∷ more → AllByRecursion (IsIdle s) left → IsIdle s input × AllByRecursion (IsIdle s) more
idle_left s is all = subst (AllByRecursion (IsIdle s)) is all

-- a record that isn't needed for an answer that is denied isn't needed for that which was meant
undenied : (answer : Answer) → IsRefusal (denied answer) → IsRefusal answer
undenied (Ok given) refusal = refusal.0 refl
undenied (Err e) refusal = refusal

pub unrecorded_meant : (s : State) (inputs : List Input) (meant rest : List Answer) → NeedNoRecord s inputs (map denied meant ++ rest) → NeedNoRecord s inputs (meant ++ rest)
unrecorded_meant s inputs [] rest none = none
unrecorded_meant s [] (answer ∷ meant) rest none = tt
unrecorded_meant s (input ∷ inputs) (answer ∷ meant) rest none =
    (elim none.0 [ inl idle ↦ inl idle | inr refusal ↦ inr (undenied answer refusal) ], unrecorded_meant s inputs meant rest none.1)

-- an input that needs no record has none
no_record : (s : State) (input : Input) (answer : Answer) → IsIdle s input ⊎ IsRefusal answer → HasNoRecord s input answer
no_record s input (Ok given) (inl idle) = idle
no_record s input (Ok given) (inr refusal) = absurd refusal
no_record s input (Err e) none = tt

pub need_no_record : (s : State) (inputs : List Input) (answers : List Answer) → NeedNoRecord s inputs answers → HaveNoRecord s inputs answers
need_no_record s [] answers none = tt
need_no_record s (input ∷ inputs) [] none = tt
need_no_record s (input ∷ inputs) (answer ∷ answers) none = (no_record s input answer none.0, need_no_record s inputs answers none.1)

pub no_record_left : (s : State) {left more : List Input} {input : Input} (answer : Answer) (rest : List Answer) → left ≡ input ∷ more → HaveNoRecord s left (answer ∷ rest)
    → HasNoRecord s input answer × HaveNoRecord s more rest
no_record_left s answer rest is all = subst (λ l. HaveNoRecord s l (answer ∷ rest)) is all

-- one more that has none
pub no_record_more : (s : State) (inputs : List Input) (answers : List Answer) (input : Input) (answer : Answer) → length answers ≡ length inputs → HaveNoRecord s inputs answers → HasNoRecord s input answer
    → HaveNoRecord s (inputs ++ input ∷ []) (answers ++ answer ∷ [])
no_record_more s [] [] input answer same all one = (one, tt)
no_record_more s [] (a ∷ answers) input answer same all one = absurd (omega (arith, same))
no_record_more s (x ∷ inputs) [] input answer same all one = absurd (omega (arith, same))
no_record_more s (x ∷ inputs) (a ∷ answers) input answer same all one = (all.0, no_record_more s inputs answers input answer (omega (arith, same)) all.1 one)

-- none of those that were judged
pub no_record_front : (s : State) (inputs : List Input) (answers rest : List Answer) → HaveNoRecord s inputs (answers ++ rest) → length answers ≡ length inputs → HaveNoRecord s inputs answers
no_record_front s [] answers rest all same = tt
no_record_front s (input ∷ inputs) [] rest all same = absurd (omega (arith, same))
no_record_front s (input ∷ inputs) (answer ∷ answers) rest all same = (all.0, no_record_front s inputs answers rest all.1 (omega (arith, same)))

-- one more of which there is no record, and one more with its own
pub recorded_without : {size : ℕ} {s t : State} {inputs : List Input} {answers : List Answer} {sectors : ℕ} (input : Input) (answer : Answer) → Recorded size s inputs answers sectors t
    → HasNoRecord t input answer → Recorded size s (inputs ++ input ∷ []) (answers ++ answer ∷ []) sectors t
recorded_without input answer all_recorded none = without_record none all_recorded
recorded_without input answer (without_record first more) none = without_record first (recorded_without input answer more none)
recorded_without input answer (with_record first some more) none = with_record first some (recorded_without input answer more none)

pub recorded_with : {size : ℕ} {s t u : State} {inputs : List Input} {answers : List Answer} {sectors : ℕ} {input : Input} {answer : Answer} → Recorded size s inputs answers sectors t
    → Answered size t input answer u → ¬ HasNoRecord t input answer → Recorded size s (inputs ++ input ∷ []) (answers ++ answer ∷ []) (sectors + record_sectors input) u
recorded_with {size} {u = u} {input = input} {answer} (all_recorded {s}) one some =
    subst (λ n. Recorded size s (input ∷ []) (answer ∷ []) n u) (omega arith) (with_record one some all_recorded)
recorded_with (without_record first more) one some = without_record first (recorded_with more one some)
recorded_with {size} {u = u} {input = input} {answer} (with_record {s} {input = x} {inputs} {answer = a} {answers} {sectors} first needs more) one some =
    subst (λ n. Recorded size s (x ∷ (inputs ++ input ∷ [])) (a ∷ (answers ++ answer ∷ [])) n u) (omega arith) (with_record first needs (recorded_with more one some))

-- ---- where the disk failed

pub answered_more : {size : ℕ} {s t u : State} {inputs : List Input} {answers : List Answer} {input : Input} {answer : Answer} → AreAnswered size s inputs answers t → Answered size t input answer u
    → AreAnswered size s (inputs ++ input ∷ []) (answers ++ answer ∷ []) u
answered_more all_answered one = and_next one all_answered
answered_more (and_next first more) one = and_next first (answered_more more one)

pub same_length : {size : ℕ} {s t : State} {inputs : List Input} {answers : List Answer} → AreAnswered size s inputs answers t → length answers ≡ length inputs
same_length all_answered = refl
same_length (and_next one more) = ap suc (same_length more)

pub taken_none : (inputs : List Input) → taken inputs [] ≡ []
taken_none [] = refl
taken_none (input ∷ inputs) = refl

pub taken_more : (inputs : List Input) (answers : List Answer) (input : Input) (rest : List Input) (answer : Answer) → length answers ≡ length inputs
    → taken (inputs ++ input ∷ rest) (answers ++ answer ∷ []) ≡ taken inputs answers ++ where_step answer input
taken_more [] [] input rest answer same = ap (λ l. where_step answer input ++ l) (taken_none rest) ∙ append-nil (where_step answer input)
taken_more [] (a ∷ answers) input rest answer same = absurd (omega (arith, same))
taken_more (x ∷ inputs) [] input rest answer same = absurd (omega (arith, same))
taken_more (x ∷ inputs) (a ∷ answers) input rest answer same =
    ap (λ l. where_step a x ++ l) (taken_more inputs answers input rest answer (omega (arith, same))) ∙ sym (append_assoc (where_step a x) (taken inputs answers) (where_step answer input))

same_where : (answer : Answer) (input : Input) → where_step (denied answer) input ≡ where_step answer input
same_where (Ok given) input = refl
same_where (Err e) input = refl

taken_faults : (rest : List Input) → taken rest (replicate (length rest) (Err Device)) ≡ rest
taken_faults [] = refl
taken_faults (x ∷ rest) = ap (λ l. x ∷ l) (taken_faults rest)

taken_denied : (judged rest : List Input) (meant : List Answer) → length meant ≡ length judged
    → taken (judged ++ rest) (map denied meant ++ replicate (length rest) (Err Device)) ≡ taken judged meant ++ rest
taken_denied [] rest [] same = taken_faults rest
taken_denied [] rest (a ∷ meant) same = absurd (omega (arith, same))
taken_denied (x ∷ judged) rest [] same = absurd (omega (arith, same))
taken_denied (x ∷ judged) rest (a ∷ meant) same =
    ap (λ l. l ++ taken (judged ++ rest) (map denied meant ++ replicate (length rest) (Err Device))) (same_where a x)
    ∙ ap (λ l. where_step a x ++ l) (taken_denied judged rest meant (omega (arith, same))) ∙ sym (append_assoc (where_step a x) (taken judged meant) rest)

taken_one : (judged rest : List Input) (meant : List Answer) → length meant ≡ length judged → taken (judged ++ rest) (meant ++ Err Device ∷ []) ≡ taken judged meant ++ take 1 rest
taken_one [] [] [] same = refl
taken_one [] (x ∷ rest) [] same = ap (λ l. x ∷ l) (taken_none rest)
taken_one [] rest (a ∷ meant) same = absurd (omega (arith, same))
taken_one (x ∷ judged) rest [] same = absurd (omega (arith, same))
taken_one (x ∷ judged) rest (a ∷ meant) same =
    ap (λ l. where_step a x ++ l) (taken_one judged rest meant (omega (arith, same))) ∙ sym (append_assoc (where_step a x) (taken judged meant) (take 1 rest))

-- a fault after all of them takes none
pub taken_over : (inputs : List Input) (answers : List Answer) → length answers ≡ length inputs → taken inputs (answers ++ Err Device ∷ []) ≡ taken inputs answers
taken_over [] [] same = refl
taken_over [] (a ∷ answers) same = absurd (omega (arith, same))
taken_over (x ∷ inputs) [] same = absurd (omega (arith, same))
taken_over (x ∷ inputs) (a ∷ answers) same = ap (λ l. where_step a x ++ l) (taken_over inputs answers (omega (arith, same)))

-- one of the answers is a receipt
abbrev HasReceipt : List Answer → Type 0
HasReceipt answers = (given : Reply × List Action) × Contains answers (Ok given)

-- where something was recorded one is
has_receipt : (s : State) (inputs : List Input) (answers : List Answer) → ¬ HaveNoRecord s inputs answers → HasReceipt answers
has_receipt s [] answers some = absurd (some tt)
has_receipt s (input ∷ inputs) [] some = absurd (some tt)
has_receipt s (input ∷ inputs) (Ok given ∷ answers) some = (given, (0, omega arith, refl))
has_receipt s (input ∷ inputs) (Err e ∷ answers) some =
    let (given, has) = has_receipt s inputs answers (λ none. some (tt, none)) in
    (given, Contains-append_right (Err e ∷ []) answers (Ok given) has)

-- a receipt that is denied is a fault
denied_fault : (answers : List Answer) → HasReceipt answers → HasFault (map denied answers)
denied_fault [] (given, has) = absurd (omega (arith, has.1))
denied_fault (Ok first ∷ answers) has = (0, omega arith, refl)
denied_fault (Err e ∷ answers) (given, has) = elim (Contains-append_cases (Err e ∷ []) answers (Ok given) has) [
  | inl here ↦ elim (Contains-push_cases [] (Err e) (Ok given) here) [ inl none ↦ absurd (omega (arith, none.1)) | inr is ↦ cc ]
  | inr there ↦ Contains-append_right (Err e ∷ []) (map denied answers) (Err Device) (denied_fault answers (given, there))
]

-- some answer is denied, or there is none of it
some_told : (size : ℕ) (s u : State) (judged rest : List Input) (meant : List Answer) → FailsAt size s judged meant u rest → HasFault (map denied meant ++ replicate (length rest) (Err Device))
some_told size s u judged rest meant (at_sync some) = Contains-append_left (map denied meant) [] (Err Device) (denied_fault meant (has_receipt s judged meant some))
some_told size s u judged rest meant (at_record {behind = behind} needs) =
    Contains-append_right (map denied meant) (Err Device ∷ replicate (length behind) (Err Device)) (Err Device) (0, omega arith, refl)

-- the answers before those that it leaves without one
module _ {next end before now : ℕ} {size : ℕ} {s : State} {inputs : List Input} {meant : List Answer} (stopped : StopsAt next end before now size s inputs meant) where
  pub fell_whole : length inputs ≡ length meant + length stopped.rest
  fell_whole = omega (arith, ap (λ (l : List Input). length l) stopped.parts, length-append stopped.judged stopped.rest, same_length stopped.were)

  module _ {told : List Answer} (count : ℕ) (counts : count ≡ length inputs) (is : told ≡ map denied meant ++ replicate (count - length meant) (Err Device)) where
    are : told ≡ map denied meant ++ replicate (length stopped.rest) (Err Device)
    are =
        let left : count - length meant ≡ length stopped.rest = omega (arith, counts, fell_whole) in
        is ∙ ap (λ n. map denied meant ++ replicate n (Err Device)) left

    pub fell_back : {t : State} → t ≡ s → FellBack size s inputs told t
    fell_back state = record {
      judged = stopped.judged;
      rest = stopped.rest;
      parts = stopped.parts;
      meant = meant;
      u = stopped.u;
      were = stopped.were;
      fails = stopped.fails;
      are = are;
      state = state;
    }

    pub fell_there : {t : State} → t ≡ s → FellThere next end before now size s inputs told t
    unfolding fell_back
    fell_there state = record { fell = fell_back state; sectors = stopped.sectors; recorded = stopped.recorded; few = stopped.few }

    pub fell_told : HasFault told
    fell_told = subst HasFault (sym are) (some_told size s stopped.u stopped.judged stopped.rest meant stopped.fails)

    -- a crash leaves a beginning of the inputs that aren't turned away
    all_taken : taken inputs told ≡ taken stopped.judged meant ++ stopped.rest
    all_taken = ap (λ l. taken l told) stopped.parts ∙ ap (taken (stopped.judged ++ stopped.rest)) are ∙ taken_denied stopped.judged stopped.rest meant (same_length stopped.were)

    one_taken : taken inputs (meant ++ Err Device ∷ []) ≡ taken stopped.judged meant ++ take 1 stopped.rest
    one_taken = ap (λ l. taken l (meant ++ Err Device ∷ [])) stopped.parts ∙ taken_one stopped.judged stopped.rest meant (same_length stopped.were)

    pub fell_during : {old new : Past} {layout : Layout} → During old new (IsBegun layout s (taken inputs (meant ++ Err Device ∷ [])))
        → During old new (IsBegun layout s (taken inputs told))
    fell_during {old} {new} {layout} lost = subst (λ l. During old new (IsBegun layout s l)) all_more
        (weaker old new _ _ (begun_longer (taken inputs (meant ++ Err Device ∷ [])) (drop 1 stopped.rest)) lost)
      where
        all_more : taken inputs (meant ++ Err Device ∷ []) ++ drop 1 stopped.rest ≡ taken inputs told
        all_more = ap (λ l. l ++ drop 1 stopped.rest) one_taken ∙ append_assoc (taken stopped.judged meant) (take 1 stopped.rest) (drop 1 stopped.rest)
            ∙ ap (λ l. taken stopped.judged meant ++ l) (take-append-drop 1 stopped.rest) ∙ sym all_taken

    pub fell_unrecorded : NeedNoRecord s inputs told → NeedNoRecord s inputs (map denied meant ++ replicate (length stopped.rest) (Err Device))
    fell_unrecorded none = subst (NeedNoRecord s inputs) are none

-- where all was denied there are no actions
none_denied : (answers : List Answer) (count : ℕ) → all_asked (map denied answers ++ replicate count (Err Device)) ≡ []
none_denied [] zero = refl
none_denied [] (suc count) = none_denied [] count
none_denied (Ok given ∷ answers) count = none_denied answers count
none_denied (Err e ∷ answers) count = none_denied answers count

none_new : (n : ℕ) → AreNew n n []
none_new n = record { rises = omega arith; within = λ i number is. cc; once = λ i j number is too. cc }

pub denied_new : (s t : State) (meant : List Answer) (count : ℕ) (told : List Answer) → t ≡ s → told ≡ map denied meant ++ replicate count (Err Device)
    → AreNew s.next t.next (started_numbers (all_asked told))
denied_new s t meant count told same is =
    subst (λ (u : State). AreNew s.next u.next (started_numbers (all_asked told))) (sym same)
    (subst (λ l. AreNew s.next s.next (started_numbers l)) (sym (ap all_asked is ∙ none_denied meant count)) (none_new s.next))

-- whether an answer is a refusal of the store
abbrev store_answer : Answer → Bool
store_answer (Ok given) = false
store_answer (Err e) = is_of_store e

abbrev away_answer : Answer → Bool
away_answer (Ok given) = false
away_answer (Err e) = is_turned_away e

-- no step is answered E16
answered_otherwise : {size : ℕ} {s t : State} {input : Input} {answer : Answer} → Answered size s input answer t → answer ≡ Err Device → ⊥
answered_otherwise (accepted step ok) is = cc
answered_otherwise (refused of_step stays step) is = false≢true (sym of_step ∙ ap store_answer is)
answered_otherwise (turned_away away) is = false≢true (sym (ap away_answer is) ∙ away)

pub no_fault : {size : ℕ} {s t : State} {inputs : List Input} {answers : List Answer} → AreAnswered size s inputs answers t → ¬ HasFault answers
no_fault all_answered has = omega (arith, has.1)
no_fault (and_next {answer = answer} {answers = answers} one more) has =
    elim (Contains-append_cases (answer ∷ []) answers (Err Device) has) [ inl here ↦ elim (Contains-push_cases [] answer (Err Device) here) [ inl none ↦ omega (arith, none.1) | inr is ↦ answered_otherwise one is ] | inr there ↦ no_fault more there ]

-- ---- one input

-- one that is done, and has no actions
pub done_answered : {size : ℕ} {s : State} {input : Input} (given : Reply × List Action) → given.0 ≡ Done → given.1 ≡ [] → Step size s input Done [] s
    → Answered size s input (Ok given) s
done_answered {size} {s} {input} given reply actions step = accepted
    (subst (λ r. Step size s input r given.1 s) (sym reply) (subst (λ l. Step size s input Done l s) (sym actions) step))
    (λ r e. done_accepts r (sym reply ∙ e))
  where
    done_accepts : (r : Refused) → Done ≡ Refusal r → ⊥
    done_accepts r e = cc

-- a refusal that is a step's, unless it turns the input away
told_refused : {size : ℕ} {s : State} {input : Input} {e : declared.Refusal} (away : Bool) → is_turned_away e ≡ away → is_of_store e ≡ false
    → Step size s input (Refusal (refused_of e)) [] s → Answered size s input (Err e) s
told_refused true is of_step step = turned_away is
told_refused false is of_step step = refused of_step is step

pub answered_refused : {size : ℕ} {s : State} {input : Input} (e : declared.Refusal) → ¬ (e ≡ Device)
    → IsLost e ⊎ (e ≡ GenerationsSpent) ⊎ ((is_of_store e ≡ false) × Step size s input (Refusal (refused_of e)) [] s) → Answered size s input (Err e) s
answered_refused e other (inl (inl memory)) = turned_away (ap is_turned_away memory)
answered_refused e other (inl (inr device)) = absurd (other device)
answered_refused e other (inr (inl spent)) = turned_away (ap is_turned_away spent)
answered_refused e other (inr (inr told)) = told_refused (is_turned_away e) refl told.0 told.1
