-- One step more of settling and of firing, with the actions before and after.
use Rattle.um_falling.specs.Carrying.{Adds}
use Rattle.um_model.specs.Machine.{Fires, FiresOne, Happens, Settles}
use Rattle.std.proofs.Common.{◌≡◌, ◌≢◌, ℕ, true, false, true≢false, refl, List, [], ◌++◌, Some, sym, ap, ◌∙◌, append_assoc, append-nil}
use Rattle.std.specs.FinMap as map
use Rattle.um_model.specs.Jobs.{Job, BeginsNext}
use Rattle.um_model.specs.Machine.{State, AreDeadlines, Follows, Tick, ticks, begun, begins, IsBefore, IsStill, Restarts, ComesDue, restarts, rests, begins_next, none_due}
use Rattle.um_model.specs.Service.{Action, state_of_unit}
use Rattle.um_model.specs.declared.service.SubState.{SubState}
use Rattle.um_model.specs.declared.service.SubState.TheVariants.{AutoRestart}
use Rattle.um_model.specs.declared.transition.UnitEvent.TheVariants.{DeadlinePasses}
use Rattle.std.specs.Cmp.Lexicographic.{slice_cmp}
use Rattle.std.specs.Ordering.{nat_cmp}
use Rattle.std.proofs.lemmas.Option.{none-some}
use Rattle.um_model.specs.Timers.{Timers}
use Rattle.um_engine.specs.Engine.{waits_to_restart, IsDue, NoneIsDue}

-- where no job is ready, all has settled
pub settled : (t : ℕ) (s : State) (before : List Action) → IsStill s → Adds (Settles t s) before s before
settled t s before none = ([], rests none, sym (append-nil before))

-- a job begins, and then the others
pub settles_more : (t : ℕ) (s u v : State) (before between after : List Action) (j : Job) → BeginsNext (IsBefore s.loaded) s.units s.pending j
    → Adds (Happens t j.unit (begins j.kind) (begun s j)) before u between → Adds (Settles t u) between v after → Adds (Settles t s) before v after
settles_more t s u v before between after j next (first, happened, is) (more, settles, all) =
    (first ++ more, begins_next j next happened settles, all ∙ (ap (λ l. l ++ more) is ∙ append_assoc before first more))

waits_so : (sub : SubState) → waits_to_restart sub ≡ true → sub ≡ AutoRestart
waits_so AutoRestart e = refl
waits_so _ e = absurd (true≢false (sym e))

-- a deadline is there for which the unit waits to be restarted
pub due_restarts : (t : ℕ) (s u : State) (unit : List ℕ) (before : List Action) → waits_to_restart (state_of_unit s.units unit).sub ≡ true → Restarts s unit u
    → Adds (ComesDue t s unit) before u before
due_restarts t s u unit before waits put = ([], restarts (waits_so (state_of_unit s.units unit).sub waits) put, sym (append-nil before))

-- or another one
pub due_passes : (t : ℕ) (s u : State) (unit : List ℕ) (before after : List Action) → waits_to_restart (state_of_unit s.units unit).sub ≡ false
    → Adds (Happens t unit DeadlinePasses s) before u after → Adds (ComesDue t s unit) before u after
due_passes t s u unit before after none (new, happened, is) = (new, ComesDue.passes (λ waits. true≢false (sym (ap waits_to_restart waits) ∙ none)) happened, is)

-- a deadline that stands fires, and jobs begin
pub fires_one : (t deadline : ℕ) (unit : List ℕ) (s u v : State) (before between after : List Action) → (state_of_unit s.units unit).deadline ≡ Some deadline
    → Adds (ComesDue t s unit) before u between → Adds (Settles t u) between v after → Adds (FiresOne t deadline unit s) before v after
fires_one t deadline unit s u v before between after stands (first, due, is) (next, settles, all) =
    (first ++ next, FiresOne.fires stands due settles, all ∙ (ap (λ l. l ++ next) is ∙ append_assoc before first next))

-- where no deadline is due, none fires
pub none_fires : (t : ℕ) (timers : Timers) (s : State) (before : List Action) → NoneIsDue t timers → Adds (Fires t timers s) before s before
none_fires t timers s before none = ([], none_due none, sym (append-nil before))

-- a deadline fires, or has passed, and then the others
pub fires_more : (t : ℕ) (timers : Timers) (deadline : ℕ) (unit : List ℕ) (s u v : State) (before between after : List Action) → IsDue t timers deadline unit
    → Adds (FiresOne t deadline unit s) before u between → Adds (Fires t (map.remove timers unit) u) between v after → Adds (Fires t timers s) before v after
fires_more t timers deadline unit s u v before between after due (first, one, is) (more, later, all) =
    (first ++ more, Fires.fires_next deadline unit due.0 due.1 one later, all ∙ (ap (λ l. l ++ more) is ∙ append_assoc before first more))

-- a deadline that is gone or changed fires nothing
pub gone_one : (t deadline : ℕ) (unit : List ℕ) (s : State) (before : List Action) → (state_of_unit s.units unit).deadline ≢ Some deadline
    → Adds (FiresOne t deadline unit s) before s before
gone_one t deadline unit s before gone = ([], FiresOne.is_gone gone, sym (append-nil before))

-- a tick, by the deadlines that are held
pub tick_fires : (t : ℕ) (timers : Timers) (s v : State) (before after : List Action) → AreDeadlines s.units timers → Adds (Fires t timers s) before v after
    → Adds (Follows t s Tick) before v after
tick_fires t timers s v before after are (new, fired, is) = (new, ticks timers are fired, is)

-- where no deadline stands, none is due
pub none_stands : (t : ℕ) (timers : Timers) → timers ≡ map.empty → NoneIsDue t timers
none_stands t timers e later other at = absurd (none-some later (sym (map.get-empty (slice_cmp nat_cmp) other) ∙ (ap (λ m. map.get m other) (sym e) ∙ at)))
