-- The units of which a state holds anything have unit names, and its maps hold no empty value.
use Rattle.std.proofs.Common.{ℕ, ◌≡◌, ◌≢◌, ◌⊎◌, ◌∙◌, true, not, List, Option, Some, None, unwrap_or, refl, sym, ap, subst, inl, inr}
use Rattle.std.proofs.lemmas.Option.{none-some}
use Rattle.std.specs.FinMap as map
use Rattle.std.proofs.lemmas.Bool.{and_parts}
use Rattle.um_model.specs.Profiles.{ReadTree}
use Rattle.um_model.specs.declared.profile.Profile.{Profile}
use Rattle.um_model.specs.Dependencies as model
use Rattle.um_model.specs.Dependencies.{IsKnown, IsNamed, Mentions}
use Rattle.um_model.specs.InputSpellings.{FitCommand, FitEvent}
use Rattle.um_model.specs.Jobs.{Job, stop_job, start_job, no_jobs, jobs_of_unit, jobs_left, AreTidyJobs, cancelled, jobs, job_of, IsPending}
use Rattle.um_model.specs.Machine.{State, Command, Happening, Event, IsHeld, IsHeldOr, Changes, puts, links, removes, reloads, plans, demands_nothing, cancels, installs, Does, units_reset, obeys, meets, Follows, unit_asked, jobs_asked, scene_at, booted, change_of, Becomes, Carries, begun, with_start_alone, TakesEffect}
use Rattle.um_model.specs.Names.{is_template, is_unit_name}
use Rattle.um_model.specs.Plan.{IsPlan}
use Rattle.um_model.specs.Servable.{IsBlank}
use Rattle.um_model.specs.Service.{Action, ByUnit, AreTidyUnits, dead_unit}
use Rattle.um_model.specs.declared.dependencies.Demand.{Demand}
use Rattle.um_model.specs.declared.jobs.JobKind.TheVariants as job
use Rattle.um_model.specs.declared.jobs.JobState.{JobState}
use Rattle.um_model.specs.declared.jobs.JobState.TheVariants.{Waiting}
use Rattle.um_model.specs.declared.jobs.UnitJobs.{UnitJobs}
use Rattle.um_model.specs.declared.transition.Change.{Change}
use Rattle.um_model.specs.declared.transition.UnitEvent.{UnitEvent}
use Rattle.um_laws.proofs.DemandsLaws.{reached_in}
use Rattle.um_laws.proofs.FewLaws.{booted_none, cancel_no_more, blank_none, follows_no_more, resets_no_more, settles_no_more}
use Rattle.um_model.specs.Live.{HoldsNoMore}
use Rattle.um_laws.proofs.FreeLaws.{pending_known}
use Rattle.um_laws.proofs.GivesLaws.{names_of_link, names_mentioned, OwnOrName}
use Rattle.um_laws.proofs.InvariantLaws.{FitUnitEvent, kept_taking}
use Rattle.um_laws.proofs.NamedLaws.{named_by_name}
use Rattle.um_model.proofs.UnitLaws.{tidy_empty, tidy_units, tidy_jobs}
use Rattle.um_model.proofs.Forms.{with_running}

-- ---- known names

abbrev IsName : List ℕ → Type 0
IsName unit = is_unit_name unit ≡ true

module _ (tree : ReadTree) (Extra : List ℕ → Type 0) (extra_names : (x : List ℕ) → Extra x → IsName x) where
  named_name : (x : List ℕ) → IsNamed tree Extra x → IsName x
  named_name x (model.has h) = (and_parts (is_unit_name x) (not (is_template x)) h.plain).0
  named_name x (model.holder {kind = kind} {y = y} by_link) = (names_of_link tree.entries kind x y by_link).0
  named_name x (model.link {kind = kind} {x = holder} by_link) = (names_of_link tree.entries kind holder x by_link).1
  named_name x (model.extra more) = extra_names x more

  mentioned_name : (a b : List ℕ) → IsName a → Mentions tree a b → IsName b
  mentioned_name a b is mentions = by (names_mentioned tree a b mentions)
    where
      by : OwnOrName tree a b → IsName b
      by (inl own) = subst IsName (sym own) (named_by_name tree.entries a is)
      by (inr named) = named

  -- if the names besides the tree's are unit names, so are all known names
  pub known_name : (x : List ℕ) → IsKnown tree Extra x → IsName x
  known_name = reached_in IsName named_name mentioned_name

-- ---- held units

-- each unit of which the state holds anything has a unit name
abbrev pub HoldsNames : State → Type 0
HoldsNames s = (unit : List ℕ) → IsHeld s unit → IsName unit

no_more_names : (s u : State) → HoldsNoMore s u → HoldsNames s → HoldsNames u
no_more_names s u less names unit is = names unit (less.held unit is)

-- a plan puts jobs of known units
module _ (s : State) (named : List ℕ) (is : IsName named) (demand : Demand) (after : ByUnit UnitJobs) (plan : IsPlan (scene_at s named) (demand, named) after) (names : HoldsNames s) where
  held_or_named : (x : List ℕ) → IsHeldOr s named x → IsName x
  held_or_named x (inl held) = names x held
  held_or_named x (inr same) = subst IsName (sym same) is

  of_job : (j : Job) → IsPending after j → IsName j.unit
  of_job j pends = known_name s.loaded (IsHeldOr s named) held_or_named j.unit (pending_known s named demand after plan j pends)

  of_jobs : (x : List ℕ) (stop start : Option JobState) → map.get after x ≡ Some (jobs stop start) → IsName x
  of_jobs x (Some state) start at = of_job (stop_job x) (λ none. none-some state (sym none ∙ ap (λ o. job_of job.Stop (unwrap_or o no_jobs)) at))
  of_jobs x None (Some state) at = of_job (start_job x) (λ none. none-some state (sym none ∙ ap (λ o. job_of job.Start (unwrap_or o no_jobs)) at))
  of_jobs x None None at = absurd (plan.tidy x at)

  of_pending : (x : List ℕ) (o : Option UnitJobs) → map.get after x ≡ o → map.get after x ≢ None → IsName x
  of_pending x None at there = absurd (there at)
  of_pending x (Some j) at there = of_jobs x j.stop j.start at

  plan_names : HoldsNames (record s { pending = after })
  plan_names x (inl there) = names x (inl there)
  plan_names x (inr there) = of_pending x (map.get after x) refl there

changes_names : {profile : Profile} (s : State) (command : Command) (u : State) → FitCommand command → Changes profile s command u → HoldsNames s → HoldsNames u
changes_names s command u fit (puts e) names = names
changes_names s command u fit (links e) names = names
changes_names s command u fit (removes e) names = names
changes_names s command u fit reloads names = names
changes_names s command u fit (installs h) names = names
changes_names s command u fit (cancels {asked = asked}) names = no_more_names s u (cancel_no_more s (unit_asked s asked)) names
changes_names s command u fit (demands_nothing is) names = names
changes_names s command u fit (plans {asked = asked} {demand = demand} {after = after} is plan) names =
    plan_names s (unit_asked s asked) (named_by_name s.loaded.entries asked fit.1) demand after plan names

does_names : {profile : Profile} (t : ℕ) (s : State) (command : Command) (actions : List Action) (u : State) → FitCommand command → Does profile t s command actions u → HoldsNames s → HoldsNames u
does_names t s command actions u fit (Does.changes h) names = changes_names s command u fit h names
does_names t s command actions u fit (Does.resets {asked = asked} h) names = no_more_names s u (resets_no_more t (units_reset s asked) s actions u h) names

follows_names : (t : ℕ) (s : State) (happening : Happening) (actions : List Action) (v : State) → Follows t s happening actions v → HoldsNames s → HoldsNames v
follows_names t s happening actions v h names = by (follows_no_more t s happening actions v h)
  where
    by : HoldsNoMore s v ⊎ ((boot : List ℕ) × (v ≡ booted boot s)) → HoldsNames v
    by (inl less) = no_more_names s v less names
    by (inr (boot, is)) = subst HoldsNames (sym is) (λ x held. absurd (booted_none boot s x held))

-- the effect of an input keeps this
pub takes_names : {profile : Profile} (t : ℕ) (s : State) (event : Event) (actions : List Action) (v : State) → FitEvent event → TakesEffect profile t s event actions v → HoldsNames s → HoldsNames v
takes_names t s event actions v fit (obeys {command = command} {first = x} {more = y} {u = u} none does h) names =
    no_more_names u v (settles_no_more t u y v h) (does_names t s command x u fit does names)
takes_names t s event actions v fit (meets {happening = happening} effect h) names = follows_names t s happening actions v h names

pub blank_names : (s : State) → IsBlank s → HoldsNames s
blank_names s blank x held = absurd (blank_none s blank x held)

-- ---- tidy maps

pub record IsTidyState (s : State) : Type 0 where
  pub units : AreTidyUnits s.units
  pub pending : AreTidyJobs s.pending

becomes_tidy : (s : State) (unit : List ℕ) (c : Change) (v : State) → Becomes s unit c v → IsTidyState s → IsTidyState v
becomes_tidy s unit c v (Becomes.alone isnt) tidy =
    record { units = tidy_units s.units unit c.unit tidy.units; pending = tidy_jobs s.pending unit (jobs_left c.start c.stop_ends (jobs_of_unit s.pending unit)) tidy.pending }
becomes_tidy s unit c v (Becomes.along is a) tidy = record { units = a.tidy_units; pending = a.tidy_jobs }

carried_tidy : (t : ℕ) (unit : List ℕ) (event : UnitEvent) (s : State) (actions : List Action) (v : State) → FitUnitEvent event → Carries t unit event s actions v → IsTidyState s → IsTidyState v
carried_tidy t unit event s actions v fit h = becomes_tidy s unit (change_of t s unit event) v h.state

begun_tidy : (s : State) (j : Job) → IsTidyState s → IsTidyState (begun s j)
begun_tidy s j tidy = record { units = tidy.units; pending = tidy_jobs s.pending j.unit (with_running j.kind (jobs_of_unit s.pending j.unit)) tidy.pending }

restart_tidy : (s : State) (unit : List ℕ) → IsTidyState s → IsTidyState (with_start_alone s unit)
restart_tidy s unit tidy = record { units = tidy.units; pending = tidy_jobs s.pending unit (jobs None (Some Waiting)) tidy.pending }

changes_tidy : {profile : Profile} (s : State) (command : Command) (u : State) → Changes profile s command u → IsTidyState s → IsTidyState u
changes_tidy s command u (puts e) tidy = record { units = tidy.units; pending = tidy.pending }
changes_tidy s command u (links e) tidy = record { units = tidy.units; pending = tidy.pending }
changes_tidy s command u (removes e) tidy = record { units = tidy.units; pending = tidy.pending }
changes_tidy s command u reloads tidy = record { units = tidy.units; pending = tidy.pending }
changes_tidy s command u (installs h) tidy = record { units = tidy.units; pending = tidy.pending }
changes_tidy s command u (cancels {asked = asked}) tidy =
    record { units = tidy.units; pending = tidy_jobs s.pending (unit_asked s asked) (cancelled (jobs_asked s asked)) tidy.pending }
changes_tidy s command u (demands_nothing is) tidy = tidy
changes_tidy s command u (plans is plan) tidy = record { units = tidy.units; pending = plan.tidy }

booted_tidy : (s : State) (boot : List ℕ) → IsTidyState s → IsTidyState (booted boot s)
booted_tidy s boot tidy = record { units = tidy_empty dead_unit; pending = tidy_empty no_jobs }

pub takes_tidy : {profile : Profile} (t : ℕ) (s : State) (event : Event) (actions : List Action) (v : State) → FitEvent event → TakesEffect profile t s event actions v → IsTidyState s → IsTidyState v
takes_tidy t = kept_taking t IsTidyState (carried_tidy t) begun_tidy restart_tidy (λ profile s command u h. changes_tidy s command u h) booted_tidy

pub blank_tidy : (s : State) → IsBlank s → IsTidyState s
blank_tidy s blank = record { units = subst AreTidyUnits (sym blank.units) (tidy_empty dead_unit); pending = subst AreTidyJobs (sym blank.pending) (tidy_empty no_jobs) }
