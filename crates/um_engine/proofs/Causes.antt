-- Why commands are refused and what they change, from the contracts of the functions called.
use Rattle.std.proofs.Common.{◌≡◌, ◌≢◌, ◌∙◌, ℕ, List, Some, None, false, Result, Ok, Err, sym, ap, subst, true, true≢false}
use Rattle.um_model.specs.declared.profile.Profile.{Profile}
use Rattle.um_model.specs.Machine.{as_loaded}
use Rattle.um_model.specs.Profiles.{ReadTree, current, read_by}
use Rattle.um_model.specs.Jobs.{cancelled, jobs_of_unit}
use Rattle.um_model.specs.Machine as model
use Rattle.um_model.specs.Machine.{State, IsCrowded, IsHeld, IsHeldOr, IsNotThere, to_stop, to_try_restart, IsMissing, HasNoneWaiting, PlansTooMany, by_name, by_jobs, HasNoPlan, LoadsNone, Refuses, scene_at, active_asked, demand_of, demands_nothing, Changes, puts, links, removes, reloads, plans, cancels, installs}
use Rattle.um_model.specs.Servable.{IsFew}
use Rattle.um_model.specs.Refusals.{Refused, no_such_job, unless_refused, at_first, at_second}
use Rattle.std.specs.FinMap as map
use Rattle.um_model.specs.Tree.{Tree, File, Link, put_cause, link_cause, remove_cause, put_file, put_link, remove_at}
use Rattle.um_model.specs.Install.{Installs, RefusesLinks, RefusesUnits}
use Rattle.um_model.specs.Service.{ByUnit}
use Rattle.um_model.specs.declared.commands.JobMode.{JobMode}
use Rattle.um_model.specs.declared.commands.UnitVerb.{UnitVerb}
use Rattle.um_model.specs.declared.commands.UnitVerb.TheVariants as verbs
use Rattle.um_model.specs.declared.install.InstallVerb.{InstallVerb}
use Rattle.um_model.specs.declared.jobs.UnitJobs.{UnitJobs}
use Rattle.um_laws.proofs.InstallLaws.{one_install}
use Rattle.um_laws.proofs.WaitingLaws.{none_told, none_waiting}
use Rattle.um_model.specs.Waiting.{has_waiting}
use Rattle.um_engine.specs.Planned.{HasPlan}
use Rattle.um_model.specs.Plan.{IsPlan, CausesOfPlan, NamesCycle}
use Rattle.um_model.specs.declared.dependencies.Demand.{Demand}
use Rattle.um_laws.proofs.PlannedLaws.{one_plan}
use Rattle.um_laws.proofs.SceneLaws.{finite_scene}
use Rattle.std.proofs.lemmas.Option.{none-some, same_Some}
use Rattle.um_laws.proofs.RefusesLaws.{missing_there}
use Rattle.um_engine.specs.Demanded.{wants_it_there}
use Rattle.um_wire.specs.Gives.{RefusesBy}
use Rattle.um_wire.specs.Refusal.{refused_of}
use Rattle.um_wire.specs.declared.refusal.Refusal.{Refusal}
use Rattle.um_wire.specs.declared.refusal.Refusal.TheVariants.{NoMemory}

-- ---- the tree in hand

pub puts_to : {profile : Profile} (s u v : State) (path text : List ℕ) → u ≡ s → put_file u.tree path text ≡ Ok v.tree → v ≡ record u { tree = v.tree } → Changes profile s (model.PutFile path text) v
puts_to {profile} s u v path text same ok rest =
    subst (Changes profile s (model.PutFile path text)) (sym (rest ∙ ap (λ (x : State). record x { tree = v.tree }) same))
    (puts (sym (ap (λ (x : State). put_file x.tree path text) same) ∙ ok))

pub links_to : {profile : Profile} (s u v : State) (path target : List ℕ) → u ≡ s → put_link u.tree path target ≡ Ok v.tree → v ≡ record u { tree = v.tree } → Changes profile s (model.PutLink path target) v
links_to {profile} s u v path target same ok rest =
    subst (Changes profile s (model.PutLink path target)) (sym (rest ∙ ap (λ (x : State). record x { tree = v.tree }) same))
    (links (sym (ap (λ (x : State). put_link x.tree path target) same) ∙ ok))

pub removes_to : {profile : Profile} (s u v : State) (path : List ℕ) → u ≡ s → remove_at u.tree path ≡ Ok v.tree → v ≡ record u { tree = v.tree } → Changes profile s (model.Remove path) v
removes_to {profile} s u v path same ok rest =
    subst (Changes profile s (model.Remove path)) (sym (rest ∙ ap (λ (x : State). record x { tree = v.tree }) same))
    (removes (sym (ap (λ (x : State). remove_at x.tree path) same) ∙ ok))

pub reloads_to : (profile : Profile) (s u v : State) → u ≡ s → v ≡ record u { loaded = as_loaded profile u u.tree } → Changes profile s model.DaemonReload v
reloads_to profile s u v same is =
    subst (Changes profile s model.DaemonReload) (sym (is ∙ ap (λ (x : State). record x { loaded = as_loaded profile x x.tree }) same)) reloads

pub installs_to : (profile : Profile) (s u v : State) (verb : InstallVerb) (unit : List ℕ) (tree : Tree) → u ≡ s → Installs (read_by profile s.tree) verb unit tree
    → v ≡ record u { tree = tree; loaded = as_loaded profile u tree } → Changes profile s (model.Install verb unit) v
installs_to profile s u v verb unit tree same made is =
    subst (Changes profile s (model.Install verb unit)) (sym (is ∙ ap (λ (x : State). record x { tree = tree; loaded = as_loaded profile x tree }) same)) (installs made)

pub puts_none_to : (s u : State) (path text : List ℕ) (e : Refusal) → u ≡ s → (e ≢ NoMemory → put_file u.tree path text ≡ Err (refused_of e))
    → e ≢ NoMemory → Refuses current s (model.PutFile path text) (refused_of e)
puts_none_to s u path text e same refused differs = (sym (ap (λ (x : State). put_file x.tree path text) same) ∙ refused differs)

pub links_none_to : (s u : State) (path target : List ℕ) (e : Refusal) → u ≡ s → (e ≢ NoMemory → put_link u.tree path target ≡ Err (refused_of e))
    → e ≢ NoMemory → Refuses current s (model.PutLink path target) (refused_of e)
links_none_to s u path target e same refused differs = (sym (ap (λ (x : State). put_link x.tree path target) same) ∙ refused differs)

pub removes_none_to : (s u : State) (path : List ℕ) (e : Refusal) → u ≡ s → (e ≢ NoMemory → remove_at u.tree path ≡ Err (refused_of e))
    → e ≢ NoMemory → Refuses current s (model.Remove path) (refused_of e)
removes_none_to s u path e same refused differs = (sym (ap (λ (x : State). remove_at x.tree path) same) ∙ refused differs)

pub free_to_reload : (profile : Profile) (s : State) → ((r : Refused) → ¬ model.CausesOfLoad s (as_loaded profile s s.tree) r) → (r : Refused) → Refuses profile s model.DaemonReload r → ⊥
free_to_reload profile s free r h = free r h

-- ---- the causes, found before anything is copied

pub put_refused : (tree : Tree) (path text : List ℕ) (r q : Refused) → put_cause tree path text ≡ Some r → q ≡ r → put_file tree path text ≡ Err q
unfolding put_file
put_refused tree path text r q e f = ap (λ o. unless_refused o (map.insert tree path (File text))) e ∙ ap Err (sym f)

pub link_refused : (tree : Tree) (path target : List ℕ) (r q : Refused) → link_cause tree path target ≡ Some r → q ≡ r → put_link tree path target ≡ Err q
unfolding put_link
link_refused tree path target r q e f = ap (λ o. unless_refused o (map.insert tree path (Link target))) e ∙ ap Err (sym f)

pub remove_refused : (tree : Tree) (path : List ℕ) (r q : Refused) → remove_cause tree path ≡ Some r → q ≡ r → remove_at tree path ≡ Err q
unfolding remove_at
remove_refused tree path r q e f = ap (λ o. unless_refused o (map.remove tree path)) e ∙ ap Err (sym f)

-- ---- a command for a unit

module _ (s : State) (verb : UnitVerb) (asked : List ℕ) (mode : JobMode) where
  abbrev Crowds : Refused → Type 0
  Crowds = IsCrowded s.loaded (IsHeldOr s (model.unit_asked s asked))

  pub by_absence : (r : Refused) → ((q : Refused) → ¬ PlansTooMany s verb asked q) → IsNotThere s verb asked r → Refuses current s (model.ForUnit verb asked mode) r
  by_absence r few h = at_second few (at_first h)

  free_by : ((q : Refused) → ¬ PlansTooMany s verb asked q) → ((q : Refused) → ¬ IsNotThere s verb asked q) → ((q : Refused) → ¬ HasNoPlan s verb asked mode q)
      → (r : Refused) → ¬ Refuses current s (model.ForUnit verb asked mode) r
  free_by few there planned r (at_first h) = few r h
  free_by few there planned r (at_second n (at_first h)) = there r h
  free_by few there planned r (at_second n (at_second m h)) = planned r h

  -- ---- nothing is demanded
  module _ (few : (q : Refused) → ¬ Crowds q) (nothing : demand_of verb (active_asked s asked) ≡ None) where
    pub few_at_rest : (q : Refused) → ¬ PlansTooMany s verb asked q
    few_at_rest q (by_name h) = few q h
    few_at_rest q (by_jobs {demand = d} is plan h) = none-some d (sym nothing ∙ is)

    pub free_to_rest : ((q : Refused) → ¬ IsNotThere s verb asked q) → (r : Refused) → ¬ Refuses current s (model.ForUnit verb asked mode) r
    free_to_rest there = free_by few_at_rest there (λ q h. none-some h.demand (sym nothing ∙ h.demanded))

  pub rests_so : {profile : Profile} (u : State) → demand_of verb (active_asked s asked) ≡ None → u ≡ s → Changes profile s (model.ForUnit verb asked mode) u
  rests_so {profile} u nothing is = subst (Changes profile s (model.ForUnit verb asked mode)) (sym is) (demands_nothing nothing)

  -- ---- the plan for a demand
  module _ (demand : Demand) (demanded : demand_of verb (active_asked s asked) ≡ Some demand) (u : State) (planned : HasPlan s (demand, model.unit_asked s asked) u) where
    abbrev named : List ℕ
    named = model.unit_asked s asked

    -- a property of some plan for the demand is a property of this one
    of_this_plan : (Holds : Demand → ByUnit UnitJobs → Type 0) (d : Demand) (other : ByUnit UnitJobs) → demand_of verb (active_asked s asked) ≡ Some d
        → IsPlan (scene_at s named) (d, named) other → Holds d other → Holds demand u.pending
    of_this_plan Holds d other is plan holds =
        let same = same_Some d demand (sym is ∙ demanded) in
        let finite = finite_scene s named in
        subst (Holds demand)
        (one_plan (scene_at s named) finite.0 finite.1 (demand, named) other u.pending (subst (λ e. IsPlan (scene_at s named) (e, named) other) same plan) planned.plan)
        (subst (λ e. Holds e other) same holds)

    -- too many units would be known with it
    pub by_fullness : (r : Refused) → IsCrowded u.loaded (IsHeld u) r → Refuses current s (model.ForUnit verb asked mode) r
    by_fullness r h = at_first (by_jobs demanded planned.plan (subst (λ (x : State). IsCrowded x.loaded (IsHeld x) r) planned.rest h))

    pub few_planned : ((q : Refused) → ¬ Crowds q) → IsFew u → (q : Refused) → ¬ PlansTooMany s verb asked q
    few_planned few fits q (by_name h) = few q h
    few_planned few fits q (by_jobs {demand = d} {after = other} is plan h) =
        fits q
        (subst (λ (x : State). IsCrowded x.loaded (IsHeld x) q) (sym planned.rest)
        (of_this_plan (λ e jobs. IsCrowded s.loaded (IsHeld (record s { pending = jobs })) q) d other is plan h))

    pub by_plan : ((q : Refused) → ¬ PlansTooMany s verb asked q) → ((q : Refused) → ¬ IsNotThere s verb asked q) → (r : Refused)
        → CausesOfPlan (scene_at s named) (demand, named) mode u.pending r → Refuses current s (model.ForUnit verb asked mode) r
    by_plan few there r h = at_second few (at_second there (record { demand = demand; demanded = demanded; after = u.pending; plan = planned.plan; cause = h }))

    pub free_to_plan : ((q : Refused) → ¬ PlansTooMany s verb asked q) → ((q : Refused) → ¬ IsNotThere s verb asked q)
        → ((q : Refused) → ¬ CausesOfPlan (scene_at s named) (demand, named) mode u.pending q) → (r : Refused) → ¬ Refuses current s (model.ForUnit verb asked mode) r
    free_to_plan few there unrefused =
        free_by few there
        (λ q h. unrefused q (of_this_plan (λ e jobs. CausesOfPlan (scene_at s named) (e, named) mode jobs q) h.demand h.after h.demanded h.plan h.cause))

    pub plans_to : {profile : Profile} → Changes profile s (model.ForUnit verb asked mode) u
    plans_to {profile} = subst (Changes profile s (model.ForUnit verb asked mode)) (sym planned.rest) (plans demanded planned.plan)

-- ---- a unit that is there already

not_there : (s : State) (verb : UnitVerb) (asked : List ℕ) (r : Refused) → wants_it_there verb ≡ true → IsMissing s asked r → IsNotThere s verb asked r
not_there s verbs.Stop asked r wanted h = to_stop h
not_there s verbs.TryRestart asked r wanted h = to_try_restart h
not_there s verbs.Start asked r wanted h = absurd (true≢false (sym wanted))
not_there s verbs.Restart asked r wanted h = absurd (true≢false (sym wanted))

-- a command for a unit that is there already is refused where that is missing
pub refuses_there : {X : Type 0} (s : State) (verb : UnitVerb) (asked : List ℕ) → wants_it_there verb ≡ true → (result : Result X Refusal)
    → RefusesBy (IsMissing s asked) result → RefusesBy (IsNotThere s verb asked) result
refuses_there s verb asked wanted (Ok done) none = λ r h. none r (missing_there h)
refuses_there s verb asked wanted (Err e) cause = λ differs. not_there s verb asked (refused_of e) wanted (cause differs)

-- ---- the waiting jobs of a unit

module _ (s : State) (asked : List ℕ) where
  pub by_none_waiting : (r : Refused) → ((q : Refused) → ¬ IsMissing s asked q) → HasNoneWaiting s asked r → Refuses current s (model.Cancel asked) r
  by_none_waiting r there h = at_second there h

  pub free_to_cancel : ((q : Refused) → ¬ IsMissing s asked q) → ((q : Refused) → ¬ HasNoneWaiting s asked q) → (r : Refused) → Refuses current s (model.Cancel asked) r → ⊥
  free_to_cancel there waits r (at_first h) = there r h
  free_to_cancel there waits r (at_second n h) = waits r h

  pub cancels_to : {profile : Profile} (u v : State) (unit : List ℕ) (jobs : UnitJobs) → u ≡ s → unit ≡ model.unit_asked s asked → jobs ≡ cancelled (model.jobs_asked s asked)
      → v ≡ model.with_plan u unit jobs → Changes profile s (model.Cancel asked) v
  cancels_to {profile} u v unit jobs same e f is =
      subst (Changes profile s (model.Cancel asked))
      (sym (is ∙ (ap (λ (x : State). model.with_plan x unit jobs) same ∙ (ap (λ x. model.with_plan s x jobs) e ∙ ap (λ x. model.with_plan s (model.unit_asked s asked) x) f)))) cancels

-- ---- a unit without a waiting job, and a tree that isn't loaded

pub none_waits : (s : State) (asked unit : List ℕ) (jobs : UnitJobs) → unit ≡ model.unit_asked s asked → jobs ≡ jobs_of_unit s.pending unit
    → (r : Refused) → (has_waiting jobs ≡ false) × (r ≡ no_such_job unit) → HasNoneWaiting s asked r
none_waits s asked unit jobs is held r h = record {
  none = none_waiting (model.jobs_asked s asked) (ap has_waiting (sym (held ∙ ap (jobs_of_unit s.pending) is)) ∙ h.0);
  refusal = h.1 ∙ ap no_such_job is;
}

pub some_waits : (s : State) (asked unit : List ℕ) (jobs : UnitJobs) → unit ≡ model.unit_asked s asked → jobs ≡ jobs_of_unit s.pending unit
    → ((r : Refused) → ¬ ((has_waiting jobs ≡ false) × (r ≡ no_such_job unit))) → (r : Refused) → ¬ HasNoneWaiting s asked r
some_waits s asked unit jobs is held waits r h =
    waits r (ap has_waiting (held ∙ ap (jobs_of_unit s.pending) is) ∙ none_told (model.jobs_asked s asked) h.none, h.refusal ∙ ap no_such_job (sym is))

-- ---- enabling and its kin

module _ (profile : Profile) (s : State) (verb : InstallVerb) (unit : List ℕ) where
  abbrev Crowded : ReadTree → Refused → Type 0
  Crowded tree = IsCrowded tree (IsHeld s)

  abbrev Circles : ReadTree → Refused → Type 0
  Circles tree = NamesCycle (model.IsBefore tree) s.pending

  pub by_links : (r : Refused) → RefusesLinks (read_by profile s.tree) verb unit r → Refuses profile s (model.Install verb unit) r
  by_links r h = at_first h

  module _ (tree : Tree) (made : Installs (read_by profile s.tree) verb unit tree) (linked : (q : Refused) → ¬ RefusesLinks (read_by profile s.tree) verb unit q) where
    told : (Cause : ReadTree → Refused → Type 0) (r : Refused) → Cause (as_loaded profile s tree) r → LoadsNone profile s verb unit Cause r
    told Cause r h = record { tree = tree; installs = made; cause = h }

    none_loads : (Cause : ReadTree → Refused → Type 0) → ((q : Refused) → ¬ Cause (as_loaded profile s tree) q) → (q : Refused) → ¬ LoadsNone profile s verb unit Cause q
    none_loads Cause none q h = none q (subst (λ (x : Tree). Cause (as_loaded profile s x) q) (one_install (read_by profile s.tree) verb unit h.tree tree h.installs made) h.cause)

    pub by_crowd_of_install : (r : Refused) → Crowded (as_loaded profile s tree) r → Refuses profile s (model.Install verb unit) r
    by_crowd_of_install r h = at_second linked (at_first (told Crowded r h))

    module _ (few : (q : Refused) → ¬ Crowded (as_loaded profile s tree) q) where
      pub by_units : (r : Refused) → RefusesUnits (read_by profile s.tree) verb unit r → Refuses profile s (model.Install verb unit) r
      by_units r h = at_second linked (at_second (none_loads Crowded few) (at_first h))

      module _ (able : (q : Refused) → ¬ RefusesUnits (read_by profile s.tree) verb unit q) where
        pub by_circle : (r : Refused) → Circles (as_loaded profile s tree) r → Refuses profile s (model.Install verb unit) r
        by_circle r h = at_second linked (at_second (none_loads Crowded few) (at_second able (told Circles r h)))

        pub free_to_install : ((q : Refused) → ¬ Circles (as_loaded profile s tree) q) → (r : Refused) → ¬ Refuses profile s (model.Install verb unit) r
        free_to_install free r (at_first h) = linked r h
        free_to_install free r (at_second n (at_first h)) = none_loads Crowded few r h
        free_to_install free r (at_second n (at_second m (at_first h))) = able r h
        free_to_install free r (at_second n (at_second m (at_second k h))) = none_loads Circles free r h
