-- Each state and input has a step: a command is refused or changes the state, and a happening has an effect or none.
use Rattle.std.proofs.Common.{ℕ, ◌≡◌, ◌≢◌, ◌⊎◌, ◌∙◌, Bool, true, false, true≢false, List, [], ◌∷◌, ◌++◌, Option, Some, None, Result, Ok, Err, refl, sym, ap, subst, inl, inr}
use Rattle.std.proofs.lemmas.Option.{none-some, same_Some}
use Rattle.std.specs.FinMap as map
use Rattle.um_model.specs.Profiles.{ReadTree, read_by}
use Rattle.um_model.specs.declared.profile.Profile.{Profile}
use Rattle.um_model.specs.Least.{IsNamedBefore}
use Rattle.um_model.specs.Refusals.{Refused, FirstCause, at_first, at_second, no_room, no_such_job, not_loaded}
use Rattle.um_model.specs.Tree.{Tree, put_file, put_link, remove_at}
use Rattle.um_model.specs.Install.{Installs, RefusesLinks, RefusesUnits}
use Rattle.um_model.specs.Units.{load, Loading, NotFound}
use Rattle.um_model.specs.Service.{Action, ByUnit, state_of_unit}
use Rattle.um_model.specs.Plan.{IsPlan, CausesOfPlan, NamesCycle}
use Rattle.um_model.specs.Ends.{waits_for_report, has_one_command}
use Rattle.um_model.specs.Transitions.{HasNumber}
use Rattle.um_model.specs.Machine.{as_loaded, State, Command, PutFile, PutLink, Remove, DaemonReload, ForUnit, Cancel, ResetFailed, Install, Happening, ProcessEnded, ProcessExecuted, Tick, Booted, Event, Commanded, Happened, Input, Reply, Done, Refusal, IsHeld, IsHeldOr, IsBefore, IsProcessOf, IsOver, end_of, settings_in, AwaitsReport, booted, Follows, ends, reports, ticks, boots, HasNoEffect, is_over, isnt_awaited, is_idle, is_known, active_asked, demand_of, jobs_asked, unit_asked, scene_at, IsCrowded, IsNotThere, to_stop, to_try_restart, IsMissing, PlansTooMany, by_name, by_jobs, HasNoPlan, HasNoneWaiting, CausesOfLoad, LoadsNone, Refuses, Changes, puts, links, removes, reloads, plans, demands_nothing, cancels, installs, units_reset, Does, changes, resets, TakesEffect, obeys, meets, moment_of, HasNoRoom, Step, refused, crowded_out, idle, taken}
use Rattle.um_model.specs.declared.commands.JobMode.{JobMode}
use Rattle.um_model.specs.declared.commands.UnitVerb.{UnitVerb}
use Rattle.um_model.specs.declared.commands.UnitVerb.TheVariants as verbs
use Rattle.um_model.specs.declared.dependencies.Demand.{Demand}
use Rattle.um_model.specs.declared.install.InstallVerb.{InstallVerb}
use Rattle.um_model.specs.declared.jobs.UnitJobs.{UnitJobs}
use Rattle.um_model.specs.declared.service.End.{End}
use Rattle.um_model.specs.declared.service.UnitState.{UnitState}
use Rattle.um_model.specs.declared.transition.UnitEvent.TheVariants.{Executed}
use Rattle.um_laws.proofs.AlongLaws.{before_or_not}
use Rattle.um_laws.proofs.AmongLaws.{both_decided, decided_as, passes_or_not}
use Rattle.um_laws.proofs.CausesLaws.{OneOrNone, first_or_none}
use Rattle.um_laws.proofs.CrowdedLaws.{crowded_or_none, heavy_or_not}
use Rattle.um_laws.proofs.FallTotal.{HasOutcome, a_happening}
use Rattle.um_laws.proofs.InstallLaws.{a_tree_installed, one_install, units_refused_or_not}
use Rattle.um_laws.proofs.KeepsLaws.{fires_keeps, same_state, Keeps}
use Rattle.um_model.proofs.LeastLaws.{IsDecided, a_least}
use Rattle.um_laws.proofs.MachineLaws.{one_process, tick_has_effect, end_has_effect, report_has_effect, boot_has_effect}
use Rattle.um_laws.proofs.PlannedLaws.{IsFinite, a_plan, cause_or_none, cycle_or_no_refusal, one_plan}
use Rattle.um_model.proofs.SameUnits.{same_units, same_pending}
use Rattle.um_laws.proofs.ScanLaws.{held_with_number}
use Rattle.um_laws.proofs.SceneLaws.{finite_scene, held_list, held_or_list}
use Rattle.um_laws.proofs.SettleLaws.{a_settling, a_firing, a_reset, a_deadline_map}
use Rattle.um_laws.proofs.WaitingLaws.{none_told, none_waiting}
use Rattle.um_model.specs.Waiting.{has_waiting}
use Rattle.um_model.proofs.TimersLaws.{same_name, same_number, same_option, one_named_first, named_trans, among_keys}

-- ---- why a command for a unit is refused, if it is

missing_or_not : (s : State) (asked : List ℕ) → OneOrNone (IsMissing s asked)
missing_or_not s asked = by_tests (load s.loaded asked) (map.get s.units asked) refl refl
  where
    by_held : (held : Option UnitState) → load s.loaded asked ≡ NotFound → map.get s.units asked ≡ held → OneOrNone (IsMissing s asked)
    by_held (Some u) f g = inr (λ r h. let is = h.isnt_held in cc)
    by_held None f g = inl (not_loaded asked, record { isnt_found = f; isnt_held = g; refusal = refl })

    by_tests : (found : Loading) (held : Option UnitState) → load s.loaded asked ≡ found → map.get s.units asked ≡ held → OneOrNone (IsMissing s asked)
    by_tests NotFound held f g = by_held held f g
    by_tests _ held f g = inr (λ r h. let isnt = h.isnt_found in cc)

there_or_not : (s : State) (verb : UnitVerb) (asked : List ℕ) → OneOrNone (IsNotThere s verb asked)
there_or_not s verb asked = by_missing verb (missing_or_not s asked)
  where
    by_missing : (verb : UnitVerb) → OneOrNone (IsMissing s asked) → OneOrNone (IsNotThere s verb asked)
    by_missing verbs.Stop (inl missing) = inl (missing.0, to_stop missing.1)
    by_missing verbs.TryRestart (inl missing) = inl (missing.0, to_try_restart missing.1)
    by_missing verbs.Stop (inr there) = inr stops
      where
        stops : (r : Refused) → ¬ IsNotThere s verbs.Stop asked r
        stops r (to_stop h) = there r h
    by_missing verbs.TryRestart (inr there) = inr tries
      where
        tries : (r : Refused) → ¬ IsNotThere s verbs.TryRestart asked r
        tries r (to_try_restart h) = there r h
    by_missing verbs.Start missing = inr starts
      where
        starts : (r : Refused) → ¬ IsNotThere s verbs.Start asked r
        starts r h = absurd (let b : ⊥ = elim h [ ] in b)
    by_missing verbs.Restart missing = inr restarts
      where
        restarts : (r : Refused) → ¬ IsNotThere s verbs.Restart asked r
        restarts r h = absurd (let b : ⊥ = elim h [ ] in b)

-- too many units are known with the jobs of the plan for a command's demand
abbrev CrowdsByJobs : State → UnitVerb → List ℕ → Refused → Type 0
CrowdsByJobs s verb asked r =
    (demand : Demand) × (after : ByUnit UnitJobs) × (demand_of verb (active_asked s asked) ≡ Some demand)
    × IsPlan (scene_at s (unit_asked s asked)) (demand, unit_asked s asked) after × IsCrowded s.loaded (IsHeld (record s { pending = after })) r

-- the plan for a command's demand
module _ (s : State) (verb : UnitVerb) (asked : List ℕ) (mode : JobMode) where
  -- if it demands nothing, no plan is refused
  nothing_planned : demand_of verb (active_asked s asked) ≡ None → (r : Refused) → ¬ (HasNoPlan s verb asked mode r)
  nothing_planned none r h = none-some h.demand (sym none ∙ h.demanded)

  module _ (demand : Demand) (demanded : demand_of verb (active_asked s asked) ≡ Some demand) where
    abbrev named : List ℕ
    named = unit_asked s asked

    a_plan_made : (after : ByUnit UnitJobs) × IsPlan (scene_at s named) (demand, named) after
    a_plan_made = by_scene (finite_scene s named)
      where
        by_scene : (units : List (List ℕ)) × IsFinite (scene_at s named) units → (after : ByUnit UnitJobs) × IsPlan (scene_at s named) (demand, named) after
        by_scene (units, finite) = a_plan (scene_at s named) units finite (demand, named)

    -- a property of one plan for the demand is one of each
    of_this_plan : (Holds : Demand → ByUnit UnitJobs → Type 0) (after : ByUnit UnitJobs) → IsPlan (scene_at s named) (demand, named) after
        → (d : Demand) (other : ByUnit UnitJobs) → demand_of verb (active_asked s asked) ≡ Some d → IsPlan (scene_at s named) (d, named) other
        → Holds d other → Holds demand after
    of_this_plan Holds after plan d other is planned holds =
        let same = same_Some d demand (sym is ∙ demanded) in
        let finite = finite_scene s named in
        subst (Holds demand)
        (one_plan (scene_at s named) finite.0 finite.1 (demand, named) other after (subst (λ e. IsPlan (scene_at s named) (e, named) other) same planned) plan)
        (subst (λ e. Holds e other) same holds)

    -- too many units are known with the jobs of the plan, or not
    jobs_crowd_or_not : OneOrNone (CrowdsByJobs s verb asked)
    jobs_crowd_or_not = by_plan a_plan_made
      where
        none_by : (after : ByUnit UnitJobs) → IsPlan (scene_at s named) (demand, named) after → ((r : Refused) → ¬ IsCrowded s.loaded (IsHeld (record s { pending = after })) r)
            → (r : Refused) → ¬ CrowdsByJobs s verb asked r
        none_by after plan free r (d, other, is, planned, crowded) =
            free r (of_this_plan (λ e jobs. IsCrowded s.loaded (IsHeld (record s { pending = jobs })) r) after plan d other is planned crowded)

        by_test : (after : ByUnit UnitJobs) → IsPlan (scene_at s named) (demand, named) after → OneOrNone (IsCrowded s.loaded (IsHeld (record s { pending = after })))
            → OneOrNone (CrowdsByJobs s verb asked)
        by_test after plan (inl found) = inl (found.0, (demand, after, demanded, plan, found.1))
        by_test after plan (inr free) = inr (none_by after plan free)

        by_plan : (after : ByUnit UnitJobs) × IsPlan (scene_at s named) (demand, named) after → OneOrNone (CrowdsByJobs s verb asked)
        by_plan (after, plan) =
            let held = held_list (record s { pending = after }) in
            by_test after plan (crowded_or_none (IsHeld (record s { pending = after })) held.0 held.1 s.loaded)

    plan_refused_or_not : OneOrNone (HasNoPlan s verb asked mode)
    plan_refused_or_not = by_plan a_plan_made
      where
        none_by : (after : ByUnit UnitJobs) → IsPlan (scene_at s named) (demand, named) after
            → ((r : Refused) → ¬ CausesOfPlan (scene_at s named) (demand, named) mode after r) → (r : Refused) → ¬ HasNoPlan s verb asked mode r
        none_by after plan free r h =
            free r (of_this_plan (λ d jobs. CausesOfPlan (scene_at s named) (d, named) mode jobs r) after plan h.demand h.after h.demanded h.plan h.cause)

        by_cause : (after : ByUnit UnitJobs) → IsPlan (scene_at s named) (demand, named) after
            → OneOrNone (CausesOfPlan (scene_at s named) (demand, named) mode after) → OneOrNone (HasNoPlan s verb asked mode)
        by_cause after plan (inl found) = inl (found.0, record { demand = demand; demanded = demanded; after = after; plan = plan; cause = found.1 })
        by_cause after plan (inr free) = inr (none_by after plan free)

        by_plan : (after : ByUnit UnitJobs) × IsPlan (scene_at s named) (demand, named) after → OneOrNone (HasNoPlan s verb asked mode)
        by_plan (after, plan) =
            let finite = finite_scene s named in
            by_cause after plan (cause_or_none (scene_at s named) finite.0 finite.1 (demand, named) mode after)

  nothing_crowds : demand_of verb (active_asked s asked) ≡ None → (r : Refused) → ¬ CrowdsByJobs s verb asked r
  nothing_crowds none r (demand, after, is, plan, crowded) = none-some demand (sym none ∙ is)

  jobs_crowd_or_none : OneOrNone (CrowdsByJobs s verb asked)
  jobs_crowd_or_none = by_demand (demand_of verb (active_asked s asked)) refl
    where
      by_demand : (o : Option Demand) → demand_of verb (active_asked s asked) ≡ o → OneOrNone (CrowdsByJobs s verb asked)
      by_demand None e = inr (nothing_crowds e)
      by_demand (Some demand) e = jobs_crowd_or_not demand e

  -- too many units would be known, or not
  too_many_or_none : OneOrNone (PlansTooMany s verb asked)
  too_many_or_none =
      let held = held_or_list s (unit_asked s asked) in
      by_tests (crowded_or_none (IsHeldOr s (unit_asked s asked)) held.0 held.1 s.loaded) jobs_crowd_or_none
    where
      neither : ((r : Refused) → ¬ IsCrowded s.loaded (IsHeldOr s (unit_asked s asked)) r) → ((r : Refused) → ¬ CrowdsByJobs s verb asked r)
          → (r : Refused) → ¬ PlansTooMany s verb asked r
      neither few fit r (by_name h) = few r h
      neither few fit r (by_jobs {demand = demand} {after = after} is plan h) = fit r (demand, after, is, plan, h)

      by_tests : OneOrNone (IsCrowded s.loaded (IsHeldOr s (unit_asked s asked))) → OneOrNone (CrowdsByJobs s verb asked) → OneOrNone (PlansTooMany s verb asked)
      by_tests (inl found) other = inl (found.0, by_name found.1)
      by_tests (inr few) (inl (r, (demand, after, is, plan, crowded))) = inl (r, by_jobs is plan crowded)
      by_tests (inr few) (inr fit) = inr (neither few fit)

  -- one cause refuses the demand, or none does
  plan_or_none : OneOrNone (HasNoPlan s verb asked mode)
  plan_or_none = by_demand (demand_of verb (active_asked s asked)) refl
    where
      by_demand : (o : Option Demand) → demand_of verb (active_asked s asked) ≡ o → OneOrNone (HasNoPlan s verb asked mode)
      by_demand None e = inr (nothing_planned e)
      by_demand (Some demand) e = plan_refused_or_not demand e

  -- if nothing refuses the command, a state follows
  a_planned : (profile : Profile) → (u : State) × Changes profile s (ForUnit verb asked mode) u
  a_planned profile = by_demand (demand_of verb (active_asked s asked)) refl
    where
      by_demand : (o : Option Demand) → demand_of verb (active_asked s asked) ≡ o → (u : State) × Changes profile s (ForUnit verb asked mode) u
      by_demand None e = (s, demands_nothing e)
      by_demand (Some demand) e =
          let made = a_plan_made demand e in
          (record s { pending = made.0 }, plans e made.1)

  -- and so of all causes
  planned_or_not : (profile : Profile) → OneOrNone (Refuses profile s (ForUnit verb asked mode))
  planned_or_not profile = first_or_none _ _ too_many_or_none (first_or_none _ _ (there_or_not s verb asked) plan_or_none)

-- ---- a command is refused or changes the state

module _ (profile : Profile) where
  -- the outcome of a command: it is refused, or changes the state
  abbrev Becomes : State → Command → Type 0
  Becomes s command = ((r : Refused) × Refuses profile s command r) ⊎ (((r : Refused) → ¬ (Refuses profile s command r)) × ((u : State) × Changes profile s command u))

  isnt_refused : (result : Result Tree Refused) (tree : Tree) (r : Refused) → result ≡ Ok tree → ¬ (result ≡ Err r)
  isnt_refused result tree r e f = cc

  put_becomes : (s : State) (path text : List ℕ) (result : Result Tree Refused) → put_file s.tree path text ≡ result → Becomes s (PutFile path text)
  put_becomes s path text (Err r) e = inl (r, e)
  put_becomes s path text (Ok tree) e = inr (free, (_, puts e))
    where
      free : (r : Refused) → ¬ (Refuses profile s (PutFile path text) r)
      free r f = isnt_refused (put_file s.tree path text) tree r e f

  link_becomes : (s : State) (path target : List ℕ) (result : Result Tree Refused) → put_link s.tree path target ≡ result → Becomes s (PutLink path target)
  link_becomes s path target (Err r) e = inl (r, e)
  link_becomes s path target (Ok tree) e = inr (free, (_, links e))
    where
      free : (r : Refused) → ¬ (Refuses profile s (PutLink path target) r)
      free r f = isnt_refused (put_link s.tree path target) tree r e f

  removal_becomes : (s : State) (path : List ℕ) (result : Result Tree Refused) → remove_at s.tree path ≡ result → Becomes s (Remove path)
  removal_becomes s path (Err r) e = inl (r, e)
  removal_becomes s path (Ok tree) e = inr (free, (_, removes e))
    where
      free : (r : Refused) → ¬ (Refuses profile s (Remove path) r)
      free r f = isnt_refused (remove_at s.tree path) tree r e f

  -- one cause keeps a tree from being loaded, or none does
  load_or_none : (s : State) (tree : ReadTree) → OneOrNone (CausesOfLoad s tree)
  load_or_none s tree =
      let held = held_list s in
      first_or_none _ _ (crowded_or_none (IsHeld s) held.0 held.1 tree) (cycle_or_no_refusal (IsBefore tree) (before_or_not tree) s.pending)

  reload_becomes : (s : State) → OneOrNone (CausesOfLoad s (as_loaded profile s s.tree)) → Becomes s DaemonReload
  reload_becomes s (inl found) = inl (found.0, found.1)
  reload_becomes s (inr none) = inr (free, (_, reloads))
    where
      free : (r : Refused) → ¬ (Refuses profile s DaemonReload r)
      free r h = none r h

  plan_becomes : (s : State) (verb : UnitVerb) (asked : List ℕ) (mode : JobMode) → OneOrNone (Refuses profile s (ForUnit verb asked mode)) → Becomes s (ForUnit verb asked mode)
  plan_becomes s verb asked mode (inl found) = inl (found.0, found.1)
  plan_becomes s verb asked mode (inr none) = inr (free, a_planned s verb asked mode profile)
    where
      free : (r : Refused) → ¬ (Refuses profile s (ForUnit verb asked mode) r)
      free r h = none r h

  waits_or_not : (s : State) (asked : List ℕ) → OneOrNone (HasNoneWaiting s asked)
  waits_or_not s asked = by_test (has_waiting (jobs_asked s asked)) refl
    where
      by_test : (waits : Bool) → has_waiting (jobs_asked s asked) ≡ waits → OneOrNone (HasNoneWaiting s asked)
      by_test true e = inr (λ r h. true≢false (sym e ∙ none_told (jobs_asked s asked) h.none))
      by_test false e = inl (no_such_job (unit_asked s asked), record { none = none_waiting (jobs_asked s asked) e; refusal = refl })

  cancel_becomes : (s : State) (asked : List ℕ) → OneOrNone (Refuses profile s (Cancel asked)) → Becomes s (Cancel asked)
  cancel_becomes s asked (inl found) = inl (found.0, found.1)
  cancel_becomes s asked (inr none) = inr (free, (_, cancels))
    where
      free : (r : Refused) → ¬ (Refuses profile s (Cancel asked) r)
      free r h = none r h

  install_becomes : (s : State) (verb : InstallVerb) (unit : List ℕ) → Becomes s (Install verb unit)
  install_becomes s verb unit = by_tree (a_tree_installed (read_by profile s.tree) verb unit)
    where
      -- a cause refuses the tree that is made, or none does
      loads_or_none : (tree : Tree) → Installs (read_by profile s.tree) verb unit tree → (Cause : ReadTree → Refused → Type 0) → OneOrNone (Cause (as_loaded profile s tree)) → OneOrNone (LoadsNone profile s verb unit Cause)
      loads_or_none tree made Cause (inl found) = inl (found.0, record { tree = tree; installs = made; cause = found.1 })
      loads_or_none tree made Cause (inr free) =
          inr (λ r h. free r (subst (λ t. Cause (as_loaded profile s t) r) (one_install (read_by profile s.tree) verb unit h.tree tree h.installs made) h.cause))

      later_or_none : (tree : Tree) → Installs (read_by profile s.tree) verb unit tree
          → OneOrNone (FirstCause (LoadsNone profile s verb unit (λ t. IsCrowded t (IsHeld s)))
          (FirstCause (RefusesUnits (read_by profile s.tree) verb unit) (LoadsNone profile s verb unit (λ t. NamesCycle (IsBefore t) s.pending))))
      later_or_none tree made =
          let held = held_list s in
          first_or_none _ _ (loads_or_none tree made (λ t. IsCrowded t (IsHeld s)) (crowded_or_none (IsHeld s) held.0 held.1 (as_loaded profile s tree)))
          (first_or_none _ _ (units_refused_or_not (read_by profile s.tree) verb unit)
          (loads_or_none tree made (λ t. NamesCycle (IsBefore t) s.pending) (cycle_or_no_refusal (IsBefore (as_loaded profile s tree)) (before_or_not (as_loaded profile s tree)) s.pending)))

      is_free : ((r : Refused) → ¬ (RefusesLinks (read_by profile s.tree) verb unit r))
          → ((r : Refused) → ¬ FirstCause (LoadsNone profile s verb unit (λ t. IsCrowded t (IsHeld s)))
          (FirstCause (RefusesUnits (read_by profile s.tree) verb unit) (LoadsNone profile s verb unit (λ t. NamesCycle (IsBefore t) s.pending))) r) → (r : Refused)
          → ¬ (Refuses profile s (Install verb unit) r)
      is_free none free r (at_first h) = none r h
      is_free none free r (at_second _ h) = free r h

      by_later : ((r : Refused) → ¬ (RefusesLinks (read_by profile s.tree) verb unit r)) → (tree : Tree) → Installs (read_by profile s.tree) verb unit tree
          → OneOrNone (FirstCause (LoadsNone profile s verb unit (λ t. IsCrowded t (IsHeld s)))
          (FirstCause (RefusesUnits (read_by profile s.tree) verb unit) (LoadsNone profile s verb unit (λ t. NamesCycle (IsBefore t) s.pending)))) → Becomes s (Install verb unit)
      by_later none tree made (inl found) = inl (found.0, at_second none found.1)
      by_later none tree made (inr free) = inr (is_free none free, (_, installs made))

      by_tree : ((r : Refused) × RefusesLinks (read_by profile s.tree) verb unit r) ⊎ (((r : Refused) → ¬ (RefusesLinks (read_by profile s.tree) verb unit r)) × ((tree : Tree) × Installs (read_by profile s.tree) verb unit tree))
          → Becomes s (Install verb unit)
      by_tree (inl found) = inl (found.0, (at_first found.1))
      by_tree (inr (none, (tree, made))) = by_later none tree made (later_or_none tree made)

  -- ---- a command is refused or obeyed

  -- it is refused, or takes effect at the moment t
  abbrev IsAnswered : ℕ → State → Command → Type 0
  IsAnswered t s command = ((r : Refused) × Refuses profile s command r) ⊎ (((r : Refused) → ¬ (Refuses profile s command r)) × HasOutcome (Does profile t s command))

  by_change : (t : ℕ) (s : State) (command : Command) → Becomes s command → IsAnswered t s command
  by_change t s command (inl found) = inl found
  by_change t s command (inr changed) = inr (changed.0, ([], changed.1.0, changes changed.1.1))

  reset_done : (t : ℕ) (s : State) (asked : Option (List ℕ)) → HasOutcome (Does profile t s (ResetFailed asked))
  reset_done t s asked =
      let done = a_reset t (units_reset s asked) s in
      (done.0, done.1, resets done.2)

  reset_one : (t : ℕ) (s : State) (asked : List ℕ) → OneOrNone (IsMissing s asked) → IsAnswered t s (ResetFailed (Some asked))
  reset_one t s asked (inl found) = inl (found.0, found.1)
  reset_one t s asked (inr none) = inr (free, reset_done t s (Some asked))
    where
      free : (r : Refused) → ¬ (Refuses profile s (ResetFailed (Some asked)) r)
      free r h = none r h

  reset_all : (t : ℕ) (s : State) → IsAnswered t s (ResetFailed None)
  reset_all t s = inr (λ r h. elim h [ ], reset_done t s None)

  command_answered : (t : ℕ) (s : State) (command : Command) → IsAnswered t s command
  command_answered t s (PutFile path text) = by_change t s _ (put_becomes s path text (put_file s.tree path text) refl)
  command_answered t s (PutLink path target) = by_change t s _ (link_becomes s path target (put_link s.tree path target) refl)
  command_answered t s (Remove path) = by_change t s _ (removal_becomes s path (remove_at s.tree path) refl)
  command_answered t s DaemonReload = by_change t s _ (reload_becomes s (load_or_none s (as_loaded profile s s.tree)))
  command_answered t s (ForUnit verb asked mode) = by_change t s _ (plan_becomes s verb asked mode (planned_or_not s verb asked mode profile))
  command_answered t s (Cancel asked) = by_change t s _ (cancel_becomes s asked (first_or_none _ _ (missing_or_not s asked) (waits_or_not s asked)))
  command_answered t s (ResetFailed None) = reset_all t s
  command_answered t s (ResetFailed (Some asked)) = reset_one t s asked (missing_or_not s asked)
  command_answered t s (Install verb unit) = by_change t s _ (install_becomes s verb unit)

-- ---- a happening has an effect or none

-- a step from the state, by this input
abbrev HasStep : ℕ → State → Profile → ℕ → Event → Type 0
HasStep size s profile moment event = (reply : Reply) × (actions : List Action) × (t : State) × Step size s (record { profile = profile; moment = moment; event = event }) reply actions t

-- an effect
abbrev HasEffect : ℕ → State → Happening → Type 0
HasEffect t s happening = HasNoEffect t s happening ⊎ ((¬ (HasNoEffect t s happening)) × HasOutcome (Follows t s happening))

-- no live process has the number, or one unit has it and the least name
process_or_over : (units : ByUnit UnitState) (number : ℕ) → IsOver units number ⊎ ((unit : List ℕ) × IsProcessOf units number unit)
process_or_over units number =
    a_least IsNamedBefore (λ unit. HasNumber (state_of_unit units unit) number) same_name named_trans one_named_first (λ unit. number_or_not (state_of_unit units unit))
    (map.keys units) (λ unit has. among_keys units unit (held_with_number units unit number has))
  where
    number_or_not : (u : UnitState) → IsDecided (HasNumber u number)
    number_or_not u = by_numbers (same_option same_number u.main (Some number)) (same_option same_number u.control (Some number))
      where
        neither : u.main ≢ Some number → u.control ≢ Some number → ¬ (HasNumber u number)
        neither a b (inl e) = a e
        neither a b (inr e) = b e

        by_numbers : IsDecided (u.main ≡ Some number) → IsDecided (u.control ≡ Some number) → IsDecided (HasNumber u number)
        by_numbers (inl is) control = inl (inl is)
        by_numbers (inr isnt) (inl is) = inl (inr is)
        by_numbers (inr isnt) (inr too) = inr (neither isnt too)

an_end : (t : ℕ) (s : State) (number : ℕ) (end : End) → HasEffect t s (ProcessEnded number end)
an_end t s number end = elim (process_or_over s.units number) as (λ _. HasEffect t s (ProcessEnded number end)) [
  | inl over ↦ inl (is_over over)
  | inr found ↦
      let now = a_happening t found.0 (end_of (state_of_unit s.units found.0) number end) s in
      let more = a_settling t now.1 in
      inr (end_has_effect t s number end found.0 found.1.has, (_, more.1, ends found.0 found.1 now.2 more.2))
]

-- a unit waits for the report or not
awaits_or_not : (s : State) (number : ℕ) (unit : List ℕ) → IsDecided (AwaitsReport s number unit)
awaits_or_not s number unit =
    decided_as (λ h. record { starts = h.0; kind = h.1.0; main = h.1.1 }) (λ a. (a.starts, (a.kind, a.main)))
    (both_decided (passes_or_not (waits_for_report (state_of_unit s.units unit).sub) true)
    (both_decided (passes_or_not (has_one_command (settings_in s.loaded unit).kind) true) (same_option same_number (state_of_unit s.units unit).main (Some number))))

a_report : (t : ℕ) (s : State) (number : ℕ) → HasEffect t s (ProcessExecuted number)
a_report t s number = by_process (process_or_over s.units number)
  where
    by_unit : (unit : List ℕ) → IsProcessOf s.units number unit → IsDecided (AwaitsReport s number unit) → HasEffect t s (ProcessExecuted number)
    by_unit unit is (inl awaits) =
        let now = a_happening t unit Executed s in
        let more = a_settling t now.1 in
        inr (report_has_effect t s number unit is awaits, (_, more.1, reports unit is awaits now.2 more.2))
    by_unit unit is (inr none) =
        inl (isnt_awaited (λ other too awaits. none (subst (AwaitsReport s number) (one_process s.units number other unit too is) awaits)))

    by_process : IsOver s.units number ⊎ ((unit : List ℕ) × IsProcessOf s.units number unit) → HasEffect t s (ProcessExecuted number)
    by_process (inl over) = inl (isnt_awaited (λ unit is awaits. over unit is.has))
    by_process (inr (unit, is)) = by_unit unit is (awaits_or_not s number unit)

a_boot : (t : ℕ) (s : State) (boot : List ℕ) → IsDecided (boot ≡ s.boot) → HasEffect t s (Booted boot)
a_boot t s boot (inl known) = inl (is_known known)
a_boot t s boot (inr other) = inr (boot_has_effect t s boot other, ([], booted boot s, boots))

same_or_not : (s v : State) → Keeps s v → IsDecided (v ≡ s)
same_or_not s v keeps = by_parts (same_units v.units s.units) (same_pending v.pending s.pending) (same_number v.next s.next)
  where
    by_parts : IsDecided (v.units ≡ s.units) → IsDecided (v.pending ≡ s.pending) → IsDecided (v.next ≡ s.next) → IsDecided (v ≡ s)
    by_parts (inl units) (inl pending) (inl next) = inl (same_state s v keeps units pending next)
    by_parts (inr apart) pending next = inr (λ e. apart (ap (λ (x : State). x.units) e))
    by_parts (inl units) (inr apart) next = inr (λ e. apart (ap (λ (x : State). x.pending) e))
    by_parts (inl units) (inl pending) (inr apart) = inr (λ e. apart (ap (λ (x : State). x.next) e))

-- a tick with these actions that leads to this state has an effect or none
effect_of : (t : ℕ) (s : State) (actions : List Action) (v : State) → IsDecided (v ≡ s) → Follows t s Tick actions v → HasEffect t s Tick
effect_of t s [] v (inl same) follows = inl (is_idle (subst (Follows t s Tick []) same follows))
effect_of t s [] v (inr apart) follows = inr (tick_has_effect t s [] v follows (λ both. apart both.1), ([], v, follows))
effect_of t s (action ∷ actions) v same follows =
    inr (tick_has_effect t s (action ∷ actions) v follows (λ both. let nothing = both.0 in cc), (action ∷ actions, v, follows))

a_tick : (t : ℕ) (s : State) → HasEffect t s Tick
a_tick t s =
    let timers = a_deadline_map s.units in
    let fired = a_firing t timers.0 s in
    effect_of t s fired.0 fired.1 (same_or_not s fired.1 (fires_keeps t timers.0 s fired.0 fired.1 fired.2)) (ticks timers.0 timers.1 fired.2)

happening_has_effect : (t : ℕ) (s : State) (happening : Happening) → HasEffect t s happening
happening_has_effect t s (ProcessEnded number end) = an_end t s number end
happening_has_effect t s (ProcessExecuted number) = a_report t s number
happening_has_effect t s Tick = a_tick t s
happening_has_effect t s (Booted boot) = a_boot t s boot (same_name boot s.boot)

-- ---- a step

-- the state after an event has room or not
room_or_not : (size : ℕ) (event : Event) (u : State) → IsDecided (HasNoRoom size event u)
room_or_not size (Commanded command) u = heavy_or_not size u
room_or_not size (Happened happening) u = inr (λ never. never)

-- so that it is taken or crowded out
taken_or_not : {profile : Profile} (size : ℕ) (s : State) (moment : ℕ) (event : Event) (actions : List Action) (u : State) → TakesEffect profile (moment_of s moment) s event actions u
    → IsDecided (HasNoRoom size event u) → HasStep size s profile moment event
taken_or_not size s moment event actions u takes (inl heavy) = (Refusal no_room, [], s, crowded_out takes heavy)
taken_or_not size s moment event actions u takes (inr light) = (_, actions, _, taken takes light)

command_steps : (size : ℕ) (s : State) (profile : Profile) (moment : ℕ) (command : Command) → IsAnswered profile (moment_of s moment) s command → HasStep size s profile moment (Commanded command)
command_steps size s profile moment command (inl found) = (Refusal found.0, [], s, refused found.1)
command_steps size s profile moment command (inr (free, (first, u, done))) =
    let settled = a_settling (moment_of s moment) u in
    taken_or_not size s moment (Commanded command) (first ++ settled.0) settled.1 (obeys free done settled.2) (room_or_not size (Commanded command) settled.1)

happening_steps : (size : ℕ) (s : State) (profile : Profile) (moment : ℕ) (happening : Happening) → HasEffect (moment_of s moment) s happening → HasStep size s profile moment (Happened happening)
happening_steps size s profile moment happening (inl none) = (Done, [], s, idle none)
happening_steps size s profile moment happening (inr effect) =
    taken_or_not size s moment (Happened happening) effect.1.0 effect.1.1 (meets effect.0 effect.1.2) (room_or_not size (Happened happening) effect.1.1)

event_steps : (size : ℕ) (s : State) (profile : Profile) (moment : ℕ) (event : Event) → HasStep size s profile moment event
event_steps size s profile moment (Commanded command) = command_steps size s profile moment command (command_answered profile (moment_of s moment) s command)
event_steps size s profile moment (Happened happening) = happening_steps size s profile moment happening (happening_has_effect (moment_of s moment) s happening)

-- each state and input has a step
pub a_step : (size : ℕ) (s : State) (input : Input) → (reply : Reply) × (actions : List Action) × (t : State) × Step size s input reply actions t
a_step size s input = event_steps size s input.profile input.moment input.event
