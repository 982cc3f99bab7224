-- The results of happenings, and whether a happening has an effect, by the state that it leads to.
use Rattle.um_falling.specs.Carrying.{Adds}
use Rattle.um_model.specs.Machine.{Settles}
use Rattle.std.proofs.Common.{◌≡◌, ◌∙◌, ◌&&◌, ◌++◌, ℕ, Bool, true, false, true≢false, cond, List, [], Option, Some, None, refl, sym, ap, subst}
use Rattle.std.specs.Bool.{Decides}
use Rattle.std.specs.Cmp.Lexicographic.{pointwise, same_text, other_text}
use Rattle.std.specs.Prelude.{nat_eq}
use Rattle.std.proofs.lemmas.Bool.{and_parts}
use Rattle.std.proofs.lemmas.Bool.Decides.{Decides-eqb}
use Rattle.um_laws.proofs.KeepsLaws.{fires_keeps, same_state}
use Rattle.um_laws.proofs.MachineLaws.{boot_has_effect, one_process, tick_has_effect}
use Rattle.um_laws.proofs.SettleLaws.{a_deadline_map}
use Rattle.um_model.specs.Ends.{waits_for_report, has_one_command}
use Rattle.um_model.specs.Machine.{State, ProcessEnded, ProcessExecuted, Tick, Booted, IsProcessOf, IsOver, AreDeadlines, none_due, AwaitsReport, settings_in, booted, end_of, Happens, Follows, ends, reports, ticks, boots, HasNoEffect, is_idle, isnt_awaited, is_known}
use Rattle.um_model.specs.Service.{Action, is_number, state_of_unit}
use Rattle.um_model.specs.Timers.{Timers}
use Rattle.um_state.specs.Awaiting.{IsUnawaited}
use Rattle.um_state.specs.Due.{NoneDue}
use Rattle.um_model.specs.declared.service.End.{End}
use Rattle.um_model.specs.declared.transition.UnitEvent.{UnitEvent}
use Rattle.um_model.specs.declared.transition.UnitEvent.TheVariants.{Executed}
use Rattle.um_model.specs.Standing.{Standing}
use Rattle.um_state.specs.View.{state_of}
use Rattle.um_engine.specs.Engine.{FollowsUpon, MetBy, IsSame}
use Rattle.um_engine.specs.Served.{ServedView}
use Rattle.um_engine.specs.declared.engine.Change.TheVariants.{Nothing, Tables}

-- a tick that leaves units, jobs and the next number leaves the state
same_after : (t : ℕ) (s v : State) (new : List Action) → Follows t s Tick new v → IsSame s v → v ≡ s
same_after t s v new (ticks timers are fired) same = same_state s v (fires_keeps t timers s new v fired) (sym same.units) (sym same.pending) (sym same.next)

-- and if it takes no action it has no effect
pub tick_is_idle : (t : ℕ) (s v : State) (new : List Action) → Follows t s Tick new v → new ≡ [] → IsSame s v → HasNoEffect t s Tick
tick_is_idle t s v new follows none same =
    is_idle (subst (λ x. Follows t s Tick [] x) (same_after t s v new follows same) (subst (λ l. Follows t s Tick l v) none follows))

-- else it has one
pub tick_acts : (t : ℕ) (s v : State) (new : List Action) → Follows t s Tick new v → (new ≡ [] → IsSame s v → ⊥) → HasNoEffect t s Tick → ⊥
tick_acts t s v new follows differs =
    tick_has_effect t s new v follows
    (λ (none, same). differs none (record { units = ap (λ x. x.units) (sym same); pending = ap (λ x. x.pending) (sym same); next = ap (λ x. x.next) (sym same) }))

-- something happened to a unit of a copy of the state, and jobs began
pub follows_upon : (t : ℕ) (s copy u v : State) (unit : List ℕ) (event : UnitEvent) (none between all : List Action) → copy ≡ s → none ≡ []
    → Adds (Happens t unit event copy) none u between → Adds (Settles t u) between v all → FollowsUpon t s unit event all v
follows_upon t s copy u v unit event none between all same e happens (more, settles, whole) =
    let (first, happened, is) = subst (λ x. Adds (Happens t unit event x) none u between) same happens in
    record { between = u; first = first; more = more; happens = happened; settles = settles; all = whole ∙ ap (λ l. l ++ more) (is ∙ ap (λ l. l ++ first) e) }

-- the end of a live process, by the result for its unit and for jobs
pub end_follows : (t : ℕ) (s v : State) (number : ℕ) (end : End) (unit : List ℕ) (event : UnitEvent) (all : List Action) → IsProcessOf s.units number unit
    → event ≡ end_of (state_of_unit s.units unit) number end → FollowsUpon t s unit event all v → Follows t s (ProcessEnded number end) all v
end_follows t s v number end unit event all process is h =
    subst (λ l. Follows t s (ProcessEnded number end) l v) (sym h.all) (ends unit process (subst (λ e. Happens t unit e s h.first h.between) is h.happens) h.settles)

-- so with the report that its program runs
pub report_follows : (t : ℕ) (s v : State) (number : ℕ) (unit : List ℕ) (all : List Action) → IsProcessOf s.units number unit → AwaitsReport s number unit
    → FollowsUpon t s unit Executed all v → Follows t s (ProcessExecuted number) all v
report_follows t s v number unit all process awaits h = subst (λ l. Follows t s (ProcessExecuted number) l v) (sym h.all) (reports unit process awaits h.happens h.settles)

-- a report for which the process's unit doesn't wait has no effect
pub report_is_idle : (t : ℕ) (s : State) (number : ℕ) (unit : List ℕ) → IsProcessOf s.units number unit → ¬ AwaitsReport s number unit → HasNoEffect t s (ProcessExecuted number)
report_is_idle t s number unit process none =
    isnt_awaited (λ other is awaits. none (subst (AwaitsReport s number) (one_process s.units number other unit is process) awaits))

-- nor has one of a process that isn't live
pub report_is_over : (t : ℕ) (s : State) (number : ℕ) → IsOver s.units number → HasNoEffect t s (ProcessExecuted number)
report_is_over t s number over = isnt_awaited (λ other is awaits. over other is.has)

-- nor has one for which no unit at all waits
pub report_is_unawaited : (t : ℕ) (s : State) (number : ℕ) → IsUnawaited s.units number → HasNoEffect t s (ProcessExecuted number)
report_is_unawaited t s number none = isnt_awaited (λ unit is awaits.
    none unit (ap (λ b. cond b (state_of_unit s.units unit).main None) awaits.starts ∙ awaits.main))

-- the test of a process's number
number_told : (number : ℕ) (o : Option ℕ) → is_number number o ≡ true → o ≡ Some number
number_told number None t = absurd (true≢false (sym t))
number_told number (Some n) t = ap Some ((Decides-eqb n number).0 t)

number_is : (number : ℕ) (o : Option ℕ) → o ≡ Some number → is_number number o ≡ true
number_is number o e = ap (is_number number) e ∙ (Decides-eqb number number).1 refl

module _ (s : State) (number : ℕ) (unit : List ℕ) (may : Bool) (is : may ≡ (waits_for_report (state_of_unit s.units unit).sub && is_number number (state_of_unit s.units unit).main)) where
  stands_so : AwaitsReport s number unit → may ≡ true
  stands_so h = is ∙ (ap (λ b. b && is_number number (state_of_unit s.units unit).main) h.starts ∙ number_is number (state_of_unit s.units unit).main h.main)

  -- a unit that doesn't stand so waits for no report
  pub waits_for_none : may ≡ false → Decides false (AwaitsReport s number unit)
  waits_for_none none = (λ h. absurd (true≢false (sym h)), λ h. sym none ∙ stands_so h)

  -- and one that does waits for it by its kind
  pub waits_by_kind : (asked : Bool) → may ≡ true → asked ≡ has_one_command (settings_in s.loaded unit).kind → Decides asked (AwaitsReport s number unit)
  waits_by_kind asked so kind = (told, λ h. kind ∙ h.kind)
    where
      told : asked ≡ true → AwaitsReport s number unit
      told h =
          let (a, b) = and_parts (waits_for_report (state_of_unit s.units unit).sub) (is_number number (state_of_unit s.units unit).main) (sym is ∙ so) in
          record { starts = a; kind = sym kind ∙ h; main = number_told number (state_of_unit s.units unit).main b }

-- a tick, by the deadlines that fired
pub tick_follows : (t : ℕ) (s copy v : State) (none all : List Action) → copy ≡ s → none ≡ [] → Adds (Follows t copy Tick) none v all → Follows t s Tick all v
tick_follows t s copy v none all same e fires =
    let (new, follows, is) = subst (λ x. Adds (Follows t x Tick) none v all) same fires in
    subst (λ l. Follows t s Tick l v) (sym (is ∙ ap (λ l. l ++ new) e)) follows

-- a tick at which no deadline is due has no effect
pub none_due_idle : (t : ℕ) (s : State) → NoneDue t s.units → HasNoEffect t s Tick
none_due_idle t s none = by (a_deadline_map s.units)
  where
    by : (timers : Timers) × AreDeadlines s.units timers → HasNoEffect t s Tick
    by (timers, are) = is_idle (ticks timers are (none_due (λ deadline unit is. none unit deadline (sym (are unit) ∙ is))))

-- the boot that is known has no effect
pub boot_is_known : (t : ℕ) (s : Standing) (boot : List ℕ) → boot ≡ (state_of s).boot → MetBy t s (Booted boot) Nothing []
boot_is_known t s boot is = (is_known is, refl)

-- another one has
pub boot_follows : (t : ℕ) (s : Standing) (boot : List ℕ) (after : ServedView) (u : State) → ¬ (boot ≡ (state_of s).boot) → u ≡ booted boot (state_of s)
    → after.state ≡ record u { clock = t } → MetBy t s (Booted boot) (Tables after None) []
boot_follows t s boot after u other is so = (
  boot_has_effect t (state_of s) boot other,
  record {
    leads = record { state = u; leads = subst (Follows t (state_of s) (Booted boot) []) (sym is) boots; is = so };
    tells = record {
      effect = refl;
      rows = tt;
      tables = λ none same. other (sym (ap (λ (v : State). v.boot) (so ∙ ap (λ (v : State). record v { clock = t }) is)) ∙ same.trees.boot);
    };
  },
)

-- texts are tested byte by byte
pub same_boot : (xs ys : List ℕ) (b : Bool) → b ≡ pointwise nat_eq xs ys → b ≡ true → xs ≡ ys
same_boot xs ys b is told = same_text xs ys (sym told ∙ is)

pub other_boot : (xs ys : List ℕ) (b : Bool) → b ≡ pointwise nat_eq xs ys → b ≡ false → ¬ (xs ≡ ys)
other_boot xs ys b is told = other_text xs ys (sym told ∙ is)
