-- A step, from its plan.
use Rattle.um_falling.specs.Carrying.{Adds}
use Rattle.std.proofs.Common.{◌≡◌, ◌≢◌, ◌∙◌, ◌↔◌, ℕ, Bool, true, false, true≢false, List, [], None, refl, sym, ap, subst}
use Rattle.std.specs.Prelude.{IfErr, IfOk, IfSome, Result, Ok, Err}
use Rattle.std.proofs.lemmas.Option.{none-some}
use Rattle.um_model.specs.declared.profile.Profile.{Profile}
use Rattle.um_model.specs.Machine as model
use Rattle.um_model.specs.Machine.{State, Command, Happening, Event, Commanded, Happened, Follows, obeys, Changes, Does, changes, Input, Reply, Done, Refuses, HasNoEffect, IsTooHeavy, TakesEffect, meets, Step, refused, crowded_out, HasNoRoom, idle, taken, reply_after, moment_of}
use Rattle.um_model.specs.Refusals.{Refused, no_room}
use Rattle.um_model.specs.Standing.{Standing}
use Rattle.um_model.specs.Service.{Action}
use Rattle.um_laws.proofs.KeepsLaws.{settles_keeps}
use Rattle.um_state.specs.View.{state_of}
use Rattle.um_wire.specs.Refusal.{refused_of}
use Rattle.um_wire.specs.declared.refusal.Refusal.{Refusal}
use Rattle.um_wire.specs.declared.refusal.Refusal.TheVariants.{NoMemory}
use Rattle.um_engine.specs.Engine.{DiffersInRows, HasSameTables, LacksEffect, LeadsTo, MetBy, Obeys, Settled, SettlesTooHeavy, actions_in, changed, is_change, reply_in, rows_of, state_after}
use Rattle.um_engine.specs.Outcomes.{actions_by, reply_by, state_by}
use Rattle.um_engine.specs.Planned.{Declines, for_cause, for_room}
use Rattle.um_engine.specs.declared.commands.Outcome.{Outcome}
use Rattle.um_engine.specs.declared.engine.Change.{Change}
use Rattle.um_engine.specs.declared.engine.Change.TheVariants.{Nothing, Rows, Tables}
use Rattle.um_engine.specs.declared.engine.Next.{Next}
use Rattle.um_engine.proofs.DoneLaws.{none_differ}

-- for the input itself, by its event
of_input : (size : ℕ) (s : State) (i : Input) (event : Event) (reply : Reply) (actions : List Action) (v : State) → i.event ≡ event
    → Step size s (record { profile = i.profile; moment = i.moment; event = event }) reply actions v → Step size s i reply actions v
of_input size s i event reply actions v e step = subst (λ x. Step size s x reply actions v) (λ j. record { profile = i.profile; moment = i.moment; event = sym e j }) step

pub refused_step : (size : ℕ) (s : State) (i : Input) (command : Command) (r : Refused) → i.event ≡ Commanded command → Refuses i.profile s command r → Step size s i (model.Refusal r) [] s
refused_step size s i command r e h = of_input size s i (Commanded command) (model.Refusal r) [] s e (refused h)

pub declined_step : (size : ℕ) (s : State) (i : Input) (t : ℕ) (command : Command) (r : Refused) → i.event ≡ Commanded command → t ≡ moment_of s i.moment
    → Declines i.profile size t s command r → Step size s i (model.Refusal r) [] s
declined_step size s i t command r e f (for_cause h) = refused_step size s i command r e h
declined_step size s i t command _ e f (for_room {actions = actions} {u = u} takes heavy) =
    of_input size s i (Commanded command) (model.Refusal no_room) [] s e (crowded_out (subst (λ n. TakesEffect i.profile n s (Commanded command) actions u) f takes) heavy)

pub taken_step : (size : ℕ) (s : State) (i : Input) (t : ℕ) (event : Event) (reply : Reply) (all actions : List Action) (u v : State) → i.event ≡ event → t ≡ moment_of s i.moment
    → TakesEffect i.profile t s event actions u → ¬ HasNoRoom size event u → reply ≡ reply_after event s.tree u.tree → all ≡ actions → v ≡ record u { clock = t } → Step size s i reply all v
taken_step size s i t event reply all actions u v e f takes room g h k =
    let input : Input = record { profile = i.profile; moment = i.moment; event = event } in
    of_input size s i event reply all v e
    (subst (λ x. Step size s input x all v) (sym g)
    (subst (λ x. Step size s input (reply_after event s.tree u.tree) x v) (sym h)
    (subst (λ x. Step size s input (reply_after event s.tree u.tree) actions x) (sym (k ∙ ap (λ n. record u { clock = n }) f))
    (taken (subst (λ n. TakesEffect i.profile n s event actions u) f takes) room))))

idle_step : (size : ℕ) (s : State) (i : Input) (t : ℕ) (happening : Happening) (reply : Reply) (all : List Action) (v : State) → i.event ≡ Happened happening → t ≡ moment_of s i.moment
    → HasNoEffect t s happening → reply ≡ Done → all ≡ [] → v ≡ s → Step size s i reply all v
idle_step size s i t happening reply all v e f none g h k =
    let input : Input = record { profile = i.profile; moment = i.moment; event = Happened happening } in
    of_input size s i (Happened happening) reply all v e
    (subst (λ x. Step size s input x all v) (sym g)
    (subst (λ x. Step size s input Done x v) (sym h)
    (subst (λ x. Step size s input Done [] x) (sym k)
    (idle (subst (λ n. HasNoEffect n s happening) f none)))))

-- a happening without effect is done at once
pub idle_lacks : (t : ℕ) (s : State) (event : Event) (happening : Happening) → event ≡ Happened happening → HasNoEffect t s happening → LacksEffect t s event
idle_lacks t s event happening e none = subst (LacksEffect t s) (sym e) none

pub idle_done : (size : ℕ) (s : State) (i : Input) (happening : Happening) → i.event ≡ Happened happening → HasNoEffect (moment_of s i.moment) s happening → Step size s i Done [] s
idle_done size s i happening e none = idle_step size s i (moment_of s i.moment) happening Done [] s e refl none refl refl refl

-- a happening with an effect is an event with one
acts_so : (t t' : ℕ) (s : State) (event : Event) (happening : Happening) (b : Bool) → event ≡ Happened happening → t ≡ t' → b ≡ true → ¬ HasNoEffect t s happening
    → (b ≡ false) ↔ LacksEffect t' s event
acts_so t t' s event happening b e f g effect =
    (λ h. absurd (true≢false (sym g ∙ h)), λ h. absurd (effect (subst (λ n. HasNoEffect n s happening) (sym f) (subst (λ x. LacksEffect t' s x) e h))))

-- a change that leads to the state that follows is the step
leads_step : (size : ℕ) (s : State) (i : Input) (t : ℕ) (happening : Happening) (reply : Reply) (all actions : List Action) (v : State) → i.event ≡ Happened happening
    → t ≡ moment_of s i.moment → ¬ HasNoEffect t s happening → LeadsTo (Follows t s happening) t actions v → reply ≡ Done → all ≡ actions → Step size s i reply all v
leads_step size s i t happening reply all actions v e f effect leads g h =
    taken_step size s i t (Happened happening) reply all actions leads.state v e f (meets effect leads.leads) (λ none. none) g h leads.is

-- the outcome of a happening is the step
pub met_step : (size : ℕ) (s : Standing) (i : Input) (t : ℕ) (happening : Happening) (reply : Reply) (all actions : List Action) (change : Change)
    → i.event ≡ Happened happening → t ≡ moment_of (state_of s) i.moment → MetBy t s happening change actions → reply ≡ Done → all ≡ actions
    → Step size (state_of s) i reply all (state_of (changed change s))
met_step size s i t happening reply all actions Nothing e f met g h = idle_step size (state_of s) i t happening reply all (state_of s) e f met.0 g (h ∙ met.1) refl
met_step size s i t happening reply all actions (Rows delta) e f met g h =
    leads_step size (state_of s) i t happening reply all actions (state_of (changed (Rows delta) s)) e f met.0 met.1.leads g h
met_step size s i t happening reply all actions (Tables given rows) e f met g h =
    leads_step size (state_of s) i t happening reply all actions (state_of (changed (Tables given rows) s)) e f met.0 met.1.leads g h

pub met_effect : (t t' : ℕ) (s : Standing) (event : Event) (happening : Happening) (change : Change) (actions : List Action) (b : Bool)
    → event ≡ Happened happening → t ≡ t' → b ≡ is_change change → MetBy t s happening change actions → (b ≡ false) ↔ LacksEffect t' (state_of s) event
met_effect t t' s event happening Nothing actions b e f g met =
    (λ _. subst (λ x. LacksEffect t' (state_of s) x) (sym e) (subst (λ n. HasNoEffect n (state_of s) happening) f met.0), λ _. g)
met_effect t t' s event happening (Rows delta) actions b e f g met = acts_so t t' (state_of s) event happening b e f g met.0
met_effect t t' s event happening (Tables given rows) actions b e f g met = acts_so t t' (state_of s) event happening b e f g met.0

pub met_nothing : (t : ℕ) (s : Standing) (happening : Happening) (change : Change) (all actions : List Action) → MetBy t s happening change actions → all ≡ actions
    → is_change change ≡ false → (state_of (changed change s) ≡ state_of s) × (all ≡ [])
met_nothing t s happening Nothing all actions met h none = (refl, h ∙ met.1)
met_nothing t s happening (Rows delta) all actions met h none = absurd (true≢false none)
met_nothing t s happening (Tables given rows) all actions met h none = absurd (true≢false none)

-- and it reports how many rows it changes
pub met_rows : (t : ℕ) (s : Standing) (happening : Happening) (change : Change) (actions : List Action) → MetBy t s happening change actions
    → IfSome (rows_of change) (DiffersInRows (state_of s) (state_of (changed change s)))
met_rows t s happening Nothing actions met = none_differ (state_of s)
met_rows t s happening (Rows delta) actions met = met.1.tells.rows
met_rows t s happening (Tables given rows) actions met = met.1.tells.rows

-- if it reports no count, more than rows differs
pub met_tables : (t : ℕ) (s : Standing) (happening : Happening) (change : Change) (actions : List Action) → MetBy t s happening change actions → rows_of change ≡ None
    → ¬ HasSameTables (state_of s) (state_of (changed change s))
met_tables t s happening Nothing actions met none = absurd (none-some 0 (sym none))
met_tables t s happening (Rows delta) actions met none = met.1.tells.tables none
met_tables t s happening (Tables given rows) actions met none = met.1.tells.tables none

pub command_effect : (t : ℕ) (s : State) (event : Event) (command : Command) (b : Bool) → event ≡ Commanded command → b ≡ true → (b ≡ false) ↔ LacksEffect t s event
command_effect t s event command b e f = (λ h. absurd (true≢false (sym f ∙ h)), λ h. absurd (subst (λ x. LacksEffect t s x) e h))

-- ---- a command

-- a command with these effects is done, and takes no action
pub does_so : {profile : Profile} (t : ℕ) (s u v : State) (command : Command) (all : List Action) → Changes profile s command u → v ≡ u → all ≡ [] → Does profile t s command all v
does_so {profile} t s u v command all h e f = subst (λ l. Does profile t s command l v) (sym f) (subst (Does profile t s command []) (sym e) (changes h))

-- a command that isn't refused, with all jobs that begin
pub obeyed_so : (profile : Profile) (t : ℕ) (s u v : State) (command : Command) (first all : List Action) → ((r : Refused) → ¬ Refuses profile s command r) → Does profile t s command first u → Adds (model.Settles t u) first v all
    → TakesEffect profile t s (Commanded command) all v
obeyed_so profile t s u v command first all free does (more, settles, whole) = subst (λ l. TakesEffect profile t s (Commanded command) l v) (sym whole) (obeys free does settles)

pub declined_for_cause : (profile : Profile) (size t : ℕ) (s : State) (command : Command) (e : Refusal) → (e ≢ NoMemory → Refuses profile s command (refused_of e)) → e ≢ NoMemory
    → Declines profile size t s command (refused_of e)
declined_for_cause profile size t s command e refuses differs = for_cause (refuses differs)

-- jobs that begin leave the tree in hand, and so the answer, unchanged
pub same_answer : (t : ℕ) (event : Event) (s u v : State) (first all : List Action) (reply : Reply) → reply ≡ reply_after event s.tree u.tree
    → Adds (model.Settles t u) first v all → reply ≡ reply_after event s.tree v.tree
same_answer t event s u v first all reply is (more, settles, whole) = is ∙ ap (reply_after event s.tree) (sym (settles_keeps t u more v settles).tree)

-- ---- a command, and the jobs that begin then

module _ (profile : Profile) (size t : ℕ) (s : Standing) (command : Command) (o : Outcome) (free : (r : Refused) → ¬ Refuses profile (state_of s) command r)
    (does : Does profile t (state_of s) command (actions_by o) (state_by o)) where
  pub obeys_so : (n : Next) → reply_by o ≡ reply_after (Commanded command) (state_of s).tree (state_by o).tree → Settled size t s (state_by o) (actions_by o) n.change (actions_in n)
      → reply_in n ≡ reply_by o → Obeys profile size t s command n
  obeys_so n answer settled reply =
      let goes : Adds (model.Settles t (state_by o)) (actions_by o) settled.leads.state (actions_in n) = settled.leads.leads.0 in
      record {
        state = settled.leads.state;
        takes = obeyed_so profile t (state_of s) (state_by o) settled.leads.state command (actions_by o) (actions_in n) free does goes;
        is = settled.leads.is;
        reply = same_answer t (Commanded command) (state_of s) (state_by o) settled.leads.state (actions_by o) (actions_in n) (reply_in n) (reply ∙ answer) goes;
        room = settled.leads.leads.1;
        tells = settled.tells;
      }

  pub declines_so : (r : Refused) → SettlesTooHeavy size t (state_by o) (actions_by o) r → Declines profile size t (state_of s) command r
  declines_so r h =
      subst (Declines profile size t (state_of s) command) (sym h.refusal)
      (for_room (obeyed_so profile t (state_of s) (state_by o) h.state command (actions_by o) h.actions free does h.settles) h.heavy)

  -- the result of the call that lets jobs begin holds of the command
  pub obeys_by : (result : Result Next Refusal) → reply_by o ≡ reply_after (Commanded command) (state_of s).tree (state_by o).tree
      → IfOk result (λ n. Settled size t s (state_by o) (actions_by o) n.change (actions_in n)) → IfOk result (λ n. reply_in n ≡ reply_by o) → IfOk result (λ n. Obeys profile size t s command n)
  obeys_by (Ok n) answer settled reply = obeys_so n answer settled reply
  obeys_by (Err e) answer settled reply = settled

  pub declines_by : (result : Result Next Refusal) → IfErr result (λ e. ¬ (e ≡ NoMemory) → SettlesTooHeavy size t (state_by o) (actions_by o) (refused_of e))
      → IfErr result (λ e. ¬ (e ≡ NoMemory) → Declines profile size t (state_of s) command (refused_of e))
  declines_by (Ok n) h = h
  declines_by (Err e) h = λ differs. declines_so (refused_of e) (h differs)

-- a command that is obeyed is a step
pub obeyed_step : (size t : ℕ) (s : Standing) (i : Input) (command : Command) (n : Next) → i.event ≡ Commanded command → t ≡ moment_of (state_of s) i.moment
    → Obeys i.profile size t s command n → Step size (state_of s) i (reply_in n) (actions_in n) (state_of (state_after n s))
obeyed_step size t s i command n e f done =
    taken_step size (state_of s) i t (Commanded command) (reply_in n) (actions_in n) (actions_in n) done.state (state_of (state_after n s)) e f done.takes done.room done.reply refl done.is
