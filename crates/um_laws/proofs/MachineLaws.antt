-- A step has one outcome, but for the cycle that a refusal names; a run has one end, and runs join.
use Rattle.std.proofs.Common.{ℕ, ◌≡◌, ◌≢◌, ◌⊎◌, ◌∙◌, List, [], ◌∷◌, ◌++◌, map as each, Option, Some, None, refl, sym, ap, subst, inl, inr, arith}
use Rattle.std.proofs.lemmas.Option.{none-some, same_Some}
use Rattle.std.specs.FinMap as map
use Rattle.std.specs.FinMap.{slice_cmp-IsAntisymmetric, nat_cmp-IsAntisymmetric}
use Rattle.std.specs.Cmp.Lexicographic.{nat_list_cmp_total}
use Rattle.um_model.specs.Profiles.{ReadTree, read_by, current}
use Rattle.um_model.specs.declared.profile.Profile.{Profile}
use Rattle.um_model.specs.Refusals.{Refused, FirstCause, at_first, at_second, too_large}
use Rattle.um_model.specs.Tree.{Tree, put_file, put_link, remove_at}
use Rattle.um_model.specs.Least.{IsNamedBefore}
use Rattle.um_model.specs.Service.{Action, ByUnit, state_of_unit}
use Rattle.um_model.specs.Jobs.{Job, IsReady, IsToldBefore, by_name, stop_first, BeginsNext}
use Rattle.um_model.specs.Plan.{IsPlan, CausesOfPlan, NamesCycle, units_of}
use Rattle.um_model.specs.Timers.{Timers}
use Rattle.um_model.specs.Transitions.{HasNumber}
use Rattle.um_model.specs.Machine.{as_loaded, State, Command, PutFile, PutLink, Remove, DaemonReload, ForUnit, Cancel, ResetFailed, Install, Happening, ProcessEnded, ProcessExecuted, Tick, Booted, Event, Input, Reply, EnabledAs, Listed, Refusal, Query, IsReplyTo, shows, tells_activity, tells_failure, tells_files, tells_enabling, unit_listed, lists_units, lists_jobs, Becomes, alone, along, Carries, change_of, settings_in, around, FallsWith, AreByName, FallDown, all_told, told_next, Happens, happens, begins, begun, IsBefore, Settles, begins_next, IsProcessOf, AreDeadlines, end_of, Restarts, isnt_put, ComesDue, restarts, Fires, FiresOne, none_due, AwaitsReport, IsHeld, scene_at, IsCrowded, IsNotThere, IsMissing, PlansTooMany, by_name, by_jobs, HasNoPlan, HasNoneWaiting, CausesOfLoad, LoadsNone, active_asked, demand_of, unit_asked, Refuses, Changes, puts, links, removes, reloads, plans, demands_nothing, cancels, installs, units_reset, AreReset, all_reset, reset_next, Does, changes, resets, Follows, ends, reports, ticks, boots, HasNoEffect, is_over, isnt_awaited, is_idle, is_known, TakesEffect, obeys, meets, HasNoRoom, moment_of, Step, refused, crowded_out, idle, taken, reply_after, Run, goes}
use Rattle.um_model.specs.Outcomes.{NamesACycle, AlikeBut, the_same, both_name, IsSameOutcome}
use Rattle.um_model.specs.declared.commands.JobMode.{JobMode}
use Rattle.um_model.specs.declared.commands.UnitVerb.{UnitVerb}
use Rattle.um_model.specs.declared.dependencies.Demand.{Demand}
use Rattle.um_model.specs.declared.install.InstallVerb.{InstallVerb}
use Rattle.um_model.specs.declared.jobs.JobKind.{JobKind}
use Rattle.um_model.specs.declared.jobs.JobKind.TheVariants.{Stop, Start}
use Rattle.um_model.specs.declared.jobs.UnitJobs.{UnitJobs}
use Rattle.um_model.specs.declared.service.End.{End}
use Rattle.um_model.specs.declared.refusals.Limit.TheVariants.{Units}
use Rattle.um_model.specs.declared.service.UnitState.{UnitState}
use Rattle.um_model.specs.declared.transition.Change.{Change}
use Rattle.um_model.specs.declared.transition.UnitEvent.{UnitEvent}
use Rattle.um_model.specs.declared.transition.UnitEvent.TheVariants.{BoundStop, Executed, DeadlinePasses, Reset}
use Rattle.um_laws.proofs.AlongLaws.{one_along}
use Rattle.um_laws.proofs.InstallLaws.{one_install, one_link_refusal, one_unit_refusal, one_enabling}
use Rattle.um_laws.proofs.CausesLaws.{same_ok, same_err, one_first}
use Rattle.um_model.proofs.LeastLaws.{one_least}
use Rattle.um_laws.proofs.PlannedLaws.{one_plan}
use Rattle.um_laws.proofs.PlannedLaws as planned
use Rattle.um_laws.proofs.RefusesLaws.{missing_there}
use Rattle.um_laws.proofs.SceneLaws.{finite_scene, one_list_by_name, one_list_of_known}
use Rattle.um_laws.proofs.TransitionLaws.{same_actions}
use Rattle.um_model.proofs.TimersLaws.{one_due_first, same_name, names_one_way}

-- ---- refusals

-- refusals for a cause are one, or each names a cycle
abbrev AreOneBut : (Refused → Type 0) → Type 0
AreOneBut Cause = (r q : Refused) → Cause r → Cause q → (r ≡ q) ⊎ (NamesACycle r × NamesACycle q)

-- so they are for the first of two causes, if they are for each
first_but : (A B : Refused → Type 0) → AreOneBut A → AreOneBut B → AreOneBut (FirstCause A B)
first_but A B one other r q (at_first h) (at_first k) = one r q h k
first_but A B one other r q (at_first h) (at_second none k) = absurd (none r h)
first_but A B one other r q (at_second none h) (at_first k) = absurd (none q k)
first_but A B one other r q (at_second none h) (at_second neither k) = other r q h k

names_a_cycle : (Before : List ℕ → List ℕ → Type 0) (pending : ByUnit UnitJobs) (r : Refused) → NamesCycle Before pending r → NamesACycle r
names_a_cycle Before pending r h = (units_of h.cycle, h.refusal)

-- ---- events of a unit

-- a change of a unit has one end
pub one_becomes : (s : State) (unit : List ℕ) (c : Change) (v w : State) → Becomes s unit c v → Becomes s unit c w → v ≡ w
one_becomes s unit c v w (alone holds) (alone too) = refl
one_becomes s unit c v w (alone holds) (along fails h) = absurd (holds fails)
one_becomes s unit c v w (along fails h) (alone holds) = absurd (holds fails)
one_becomes s unit c v w (along fails h) (along too k) = one_along _ unit v w h k

-- an event of a unit is carried out in one way
pub one_carried : (t : ℕ) (unit : List ℕ) (event : UnitEvent) (s : State) (a b : List Action) (v w : State)
    → Carries t unit event s a v → Carries t unit event s b w → (a ≡ b) × (v ≡ w)
one_carried t unit event s a b v w h k = (
  same_actions (settings_in s.loaded unit) (around t s unit) (change_of t s unit event).unit (change_of t s unit event).order a b h.asked k.asked,
  one_becomes s unit (change_of t s unit event) v w h.state k.state,
)

-- ---- the units that fall with one

-- they are one list
pub one_falling : (s u : State) (unit : List ℕ) (xs ys : List (List ℕ)) → AreByName (FallsWith s u unit) xs → AreByName (FallsWith s u unit) ys → xs ≡ ys
one_falling s u unit xs ys h k = one_list_by_name (FallsWith s u unit) xs ys h.each k.each h.sorted k.sorted

-- their bound stops have one end, with one list of actions
pub one_fall : (t : ℕ) (units : List (List ℕ)) (s : State) (a b : List Action) (v w : State)
    → FallDown t units s a v → FallDown t units s b w → (a ≡ b) × (v ≡ w)
one_fall t units s a b v w all_told all_told = (refl, refl)
one_fall t (unit ∷ units) s a b v w (told_next {falling = falling} {u = u} {first = first} {more = more} h are k)
    (told_next {falling = others} {u = x} {first = other} {more = rest} g too l) =
    let both = one_carried t unit BoundStop s first other u x h g in
    let same = one_falling s u unit others falling (subst (λ y. AreByName (FallsWith s y unit) others) (sym both.1) too) are in
    let later = one_fall t (falling ++ units) u more rest v w k
    (subst (λ y. FallDown t (y ++ units) u rest w) same (subst (λ y. FallDown t (others ++ units) y rest w) (sym both.1) l)) in
    (ap (λ q. q ++ more) both.0 ∙ ap (λ q. other ++ q) later.0, later.1)

-- and so an event of a unit has one end, with all units that fall with it
pub one_happened : (t : ℕ) (unit : List ℕ) (event : UnitEvent) (s : State) (a b : List Action) (v w : State)
    → Happens t unit event s a v → Happens t unit event s b w → (a ≡ b) × (v ≡ w)
one_happened t unit event s a b v w (happens {falling = falling} {u = u} {first = first} {more = more} h are k)
    (happens {falling = others} {u = x} {first = other} {more = rest} g too l) =
    let both = one_carried t unit event s first other u x h g in
    let same = one_falling s u unit others falling (subst (λ y. AreByName (FallsWith s y unit) others) (sym both.1) too) are in
    let later = one_fall t falling u more rest v w k (subst (λ y. FallDown t y u rest w) same (subst (λ y. FallDown t others y rest w) (sym both.1) l)) in
    (ap (λ q. q ++ more) both.0 ∙ ap (λ q. other ++ q) later.0, later.1)

-- ---- which jobs begin

-- of two jobs not each is named before the other
pub told_one_way : (j k : Job) → IsToldBefore j k → IsToldBefore k j → ⊥
told_one_way j k (by_name l) (by_name m) = names_one_way j.unit k.unit l m
told_one_way j k (by_name l) (stop_first {unit = unit}) = names_one_way unit unit l l
told_one_way j k (stop_first {unit = unit}) (by_name l) = names_one_way unit unit l l

-- a job is another one or not
pub same_job : (j k : Job) → (j ≡ k) ⊎ (j ≢ k)
same_job j k = elim (same_name j.unit k.unit) as (λ _. (j ≡ k) ⊎ (j ≢ k)) [
  | inl same ↦ of_unit j.kind k.kind refl refl same
  | inr apart ↦ inr (λ e. apart (ap (λ (x : Job). x.unit) e))
]
  where
    of_unit : (a b : JobKind) → j.kind ≡ a → k.kind ≡ b → j.unit ≡ k.unit → (j ≡ k) ⊎ (j ≢ k)
    of_unit Stop Stop e f same = inl (λ i. record { unit = same i; kind = (e ∙ sym f) i })
    of_unit Start Start e f same = inl (λ i. record { unit = same i; kind = (e ∙ sym f) i })
    of_unit Stop Start e f same = inr (λ is. let g = ap (λ (x : Job). x.kind) is in cc)
    of_unit Start Stop e f same = inr (λ is. let g = ap (λ (x : Job). x.kind) is in cc)

-- one job begins next
pub one_next : (Before : List ℕ → List ℕ → Type 0) (units : ByUnit UnitState) (pending : ByUnit UnitJobs) (j k : Job)
    → BeginsNext Before units pending j → BeginsNext Before units pending k → j ≡ k
one_next Before units pending j k h l = one_least IsToldBefore (IsReady Before units pending) told_one_way same_job j k h l

-- jobs begin to one end, with one list of actions
pub one_settled : (t : ℕ) (s : State) (a b : List Action) (v w : State) → Settles t s a v → Settles t s b w → (a ≡ b) × (v ≡ w)
one_settled t s a b v w (Settles.rests none) (Settles.rests too) = (refl, refl)
one_settled t s a b v w (Settles.rests none) (begins_next j n h k) = absurd (none j n.has)
one_settled t s a b v w (begins_next j n h k) (Settles.rests none) = absurd (none j n.has)
one_settled t s a b v w (begins_next {u = u} {first = first} {more = more} j n h k) (begins_next {u = x} {first = other} {more = others} i m g l) =
    let same : i ≡ j = one_next (IsBefore s.loaded) s.units s.pending i j m n in
    let both = one_happened t j.unit (begins j.kind) (begun s j) first other u x h (subst (λ (q : Job). Happens t q.unit (begins q.kind) (begun s q) other x) same g) in
    let later = one_settled t u more others v w k (subst (λ q. Settles t q others w) (sym both.1) l) in
    (ap (λ q. q ++ more) both.0 ∙ ap (λ q. other ++ q) later.0, later.1)

-- a live process is of one unit
pub one_process : (units : ByUnit UnitState) (number : ℕ) (a b : List ℕ) → IsProcessOf units number a → IsProcessOf units number b → a ≡ b
one_process units number = one_least IsNamedBefore (λ unit. HasNumber (state_of_unit units unit) number) names_one_way same_name

-- the deadlines are one map
pub one_deadlines : (units : ByUnit UnitState) (a b : Timers) → AreDeadlines units a → AreDeadlines units b → a ≡ b
one_deadlines units a b h k =
    map.same_map nat_list_cmp_total (slice_cmp-IsAntisymmetric nat_cmp-IsAntisymmetric) a b (λ unit. h unit ∙ sym (k unit))

-- an automatic restart puts one job or none
pub one_restart : (s : State) (unit : List ℕ) (v w : State) → Restarts s unit v → Restarts s unit w → v ≡ w
one_restart s unit v w (Restarts.puts none free) (Restarts.puts too also) = refl
one_restart s unit v w (Restarts.puts none free) (isnt_put not) = absurd (not (none, free))
one_restart s unit v w (isnt_put not) (Restarts.puts none free) = absurd (not (none, free))
one_restart s unit v w (isnt_put not) (isnt_put too) = refl

-- a deadline that is due has one end, with one list of actions
pub one_come_due : (t : ℕ) (s : State) (unit : List ℕ) (a b : List Action) (v w : State) → ComesDue t s unit a v → ComesDue t s unit b w → (a ≡ b) × (v ≡ w)
one_come_due t s unit a b v w (restarts is h) (restarts too k) = (refl, one_restart s unit v w h k)
one_come_due t s unit a b v w (restarts is h) (ComesDue.passes isnt k) = absurd (isnt is)
one_come_due t s unit a b v w (ComesDue.passes isnt h) (restarts is k) = absurd (isnt is)
one_come_due t s unit a b v w (ComesDue.passes isnt h) (ComesDue.passes too k) = one_happened t unit DeadlinePasses s a b v w h k

one_firing : (t deadline : ℕ) (unit : List ℕ) (s : State) (a b : List Action) (v w : State) → FiresOne t deadline unit s a v → FiresOne t deadline unit s b w → (a ≡ b) × (v ≡ w)
one_firing t deadline unit s a b v w (FiresOne.fires {u = u} {first = x} {next = y} is h k) (FiresOne.fires {u = u'} {first = x'} {next = y'} was g m) =
    let happened = one_come_due t s unit x x' u u' h g in
    let settled = one_settled t u y y' v w k (subst (λ i. Settles t i y' w) (sym happened.1) m) in
    (ap (λ i. i ++ y) happened.0 ∙ ap (λ i. x' ++ i) settled.0, settled.1)
one_firing t deadline unit s a b v w (FiresOne.fires is h k) (FiresOne.is_gone isnt) = absurd (isnt is)
one_firing t deadline unit s a b v w (FiresOne.is_gone isnt) (FiresOne.fires is h k) = absurd (isnt is)
one_firing t deadline unit s a b v w (FiresOne.is_gone isnt) (FiresOne.is_gone too) = (refl, refl)

-- a tick has one end, with one list of actions
pub one_fired : (t : ℕ) (timers : Timers) (s : State) (a b : List Action) (v w : State) → Fires t timers s a v → Fires t timers s b w → (a ≡ b) × (v ≡ w)
one_fired t timers s a b v w (none_due none) (none_due too) = (refl, refl)
one_fired t timers s a b v w (none_due none) (Fires.fires_next d n first due f l) = absurd (let late = none d n first.has in omega arith)
one_fired t timers s a b v w (Fires.fires_next d n first due f l) (none_due none) = absurd (let late = none d n first.has in omega arith)
one_fired t timers s a b v w (Fires.fires_next {u = p} {first = x} {more = z} d n first due f l) (Fires.fires_next {u = p'} {first = x'} {more = z'} e o too late g q) =
    let same = one_due_first timers e d o n too first in
    let firing = one_firing t d n s x x' p p' f (subst (λ i. FiresOne t i n s x' p') same.0 (subst (λ i. FiresOne t e i s x' p') same.1 g)) in
    let fired = one_fired t (map.remove timers n) p z z' v w l (subst (λ i. Fires t (map.remove timers n) i z' w) (sym firing.1) (subst (λ i. Fires t (map.remove timers i) p' z' w) same.1 q)) in
    (ap (λ i. i ++ z) firing.0 ∙ ap (λ i. x' ++ i) fired.0, fired.1)

-- ---- a command has one refusal, and changes the state in one way

one_crowded : (tree : ReadTree) (Extra : List ℕ → Type 0) → AreOneBut (IsCrowded tree Extra)
one_crowded tree Extra r q h k = inl (h.refusal ∙ sym k.refusal)

one_cycle : (Before : List ℕ → List ℕ → Type 0) (pending : ByUnit UnitJobs) → AreOneBut (NamesCycle Before pending)
one_cycle Before pending r q h k = inr (names_a_cycle Before pending r h, names_a_cycle Before pending q k)

-- a command for a unit makes one plan, and that is refused in one way
module _ (s : State) (verb : UnitVerb) (asked : List ℕ) where
  one_planned_map : (d e : Demand) (u v : ByUnit UnitJobs) → demand_of verb (active_asked s asked) ≡ Some d → demand_of verb (active_asked s asked) ≡ Some e
      → IsPlan (scene_at s (unit_asked s asked)) (d, unit_asked s asked) u → IsPlan (scene_at s (unit_asked s asked)) (e, unit_asked s asked) v → (d ≡ e) × (u ≡ v)
  one_planned_map d e u v f g h k =
      let same : d ≡ e = same_Some d e (sym f ∙ g) in
      let finite = finite_scene s (unit_asked s asked) in (
        same,
        one_plan (scene_at s (unit_asked s asked)) finite.0 finite.1 (d, unit_asked s asked) u v h
            (subst (λ x. IsPlan (scene_at s (unit_asked s asked)) (x, unit_asked s asked) v) (sym same) k),
      )

  -- a plan is refused for one cause, but for the cycle that it names
  plan_in_one_way : (demand : Demand) (mode : JobMode) (after : ByUnit UnitJobs)
      → AreOneBut (CausesOfPlan (scene_at s (unit_asked s asked)) (demand, unit_asked s asked) mode after)
  plan_in_one_way demand mode after r q h k =
      let finite = finite_scene s (unit_asked s asked) in
      by_cause (planned.one_cause (scene_at s (unit_asked s asked)) finite.0 finite.1 (demand, unit_asked s asked) mode after r q h k)
    where
      by_cause : (r ≡ q) ⊎ (NamesCycle (scene_at s (unit_asked s asked)).IsBefore after r × NamesCycle (scene_at s (unit_asked s asked)).IsBefore after q)
          → (r ≡ q) ⊎ (NamesACycle r × NamesACycle q)
      by_cause (inl is) = inl is
      by_cause (inr both) = inr (names_a_cycle _ after r both.0, names_a_cycle _ after q both.1)

  abbrev Causes : JobMode → Demand → ByUnit UnitJobs → Refused → Type 0
  Causes mode demand after = CausesOfPlan (scene_at s (unit_asked s asked)) (demand, unit_asked s asked) mode after

  refused_in_one_way : (mode : JobMode) → AreOneBut (HasNoPlan s verb asked mode)
  refused_in_one_way mode r q h k =
      let same = one_planned_map h.demand k.demand h.after k.after h.demanded k.demanded h.plan k.plan in
      plan_in_one_way h.demand mode h.after r q h.cause
      (subst (λ x. Causes mode h.demand x q) (sym same.1) (subst (λ x. Causes mode x k.after q) (sym same.0) k.cause))

  too_many_told : (r : Refused) → PlansTooMany s verb asked r → r ≡ too_large Units
  too_many_told r (by_name h) = h.refusal
  too_many_told r (by_jobs demanded plan h) = h.refusal

one_planned : (profile : Profile) (s : State) (verb : UnitVerb) (asked : List ℕ) (mode : JobMode) → AreOneBut (Refuses profile s (ForUnit verb asked mode))
one_planned profile s verb asked mode =
    first_but (PlansTooMany s verb asked) _ (λ r q h k. inl (too_many_told s verb asked r h ∙ sym (too_many_told s verb asked q k)))
    (first_but (IsNotThere s verb asked) (HasNoPlan s verb asked mode) (λ r q h k. inl ((missing_there h).refusal ∙ sym (missing_there k).refusal)) (refused_in_one_way s verb asked mode))

one_loaded : (s : State) (tree : ReadTree) → AreOneBut (CausesOfLoad s tree)
one_loaded s tree = first_but _ _ (one_crowded tree (IsHeld s)) (one_cycle (IsBefore tree) s.pending)

one_unloaded : (profile : Profile) (s : State) (verb : InstallVerb) (unit : List ℕ) (Cause : ReadTree → Refused → Type 0) → ((tree : ReadTree) → AreOneBut (Cause tree))
    → AreOneBut (LoadsNone profile s verb unit Cause)
one_unloaded profile s verb unit Cause one r q h k =
    one (as_loaded profile s h.tree) r q h.cause
    (subst (λ x. Cause (as_loaded profile s x) q) (one_install (read_by profile s.tree) verb unit k.tree h.tree k.installs h.installs) k.cause)

one_cancelled : (profile : Profile) (s : State) (asked : List ℕ) (r q : Refused) → Refuses profile s (Cancel asked) r → Refuses profile s (Cancel asked) q → r ≡ q
one_cancelled profile s asked =
    one_first (IsMissing s asked) (HasNoneWaiting s asked) (λ r q h k. h.refusal ∙ sym k.refusal) (λ r q h k. h.refusal ∙ sym k.refusal)

-- a command has one refusal, but for the cycle that it names
pub one_refusal : (profile : Profile) (s : State) (command : Command) (r q : Refused) → Refuses profile s command r → Refuses profile s command q → (r ≡ q) ⊎ (NamesACycle r × NamesACycle q)
one_refusal profile s (PutFile path text) r q e f = inl (same_err (put_file s.tree path text) r q e f)
one_refusal profile s (PutLink path target) r q e f = inl (same_err (put_link s.tree path target) r q e f)
one_refusal profile s (Remove path) r q e f = inl (same_err (remove_at s.tree path) r q e f)
one_refusal profile s DaemonReload r q h k = one_loaded s (as_loaded profile s s.tree) r q h k
one_refusal profile s (ForUnit verb asked mode) r q h k = one_planned profile s verb asked mode r q h k
one_refusal profile s (Cancel asked) r q h k = inl (one_cancelled profile s asked r q h k)
one_refusal profile s (ResetFailed (Some asked)) r q h k = inl (h.refusal ∙ sym k.refusal)
one_refusal profile s (ResetFailed None) r q h k = absurd h
one_refusal profile s (Install verb unit) r q h k =
    first_but _ _ (λ x y g l. inl (one_link_refusal (read_by profile s.tree) verb unit x y g l))
    (first_but _ _ (one_unloaded profile s verb unit (λ tree. IsCrowded tree (IsHeld s)) (λ tree. one_crowded tree (IsHeld s)))
    (first_but _ _ (λ x y g l. inl (one_unit_refusal (read_by profile s.tree) verb unit x y g l))
    (one_unloaded profile s verb unit (λ tree. NamesCycle (IsBefore tree) s.pending) (λ tree. one_cycle (IsBefore tree) s.pending)))) r q h k

-- and changes the state in one way
pub one_change : {profile : Profile} (s : State) (command : Command) (u v : State) → Changes profile s command u → Changes profile s command v → u ≡ v
one_change s command u v (puts {path = path} {text = text} {tree = tree} e) (puts {tree = other} f) =
    ap (λ (x : Tree). record s { tree = x }) (same_ok (put_file s.tree path text) tree other e f)
one_change s command u v (links {path = path} {target = target} {tree = tree} e) (links {tree = other} f) =
    ap (λ (x : Tree). record s { tree = x }) (same_ok (put_link s.tree path target) tree other e f)
one_change s command u v (removes {path = path} {tree = tree} e) (removes {tree = other} f) =
    ap (λ (x : Tree). record s { tree = x }) (same_ok (remove_at s.tree path) tree other e f)
one_change s command u v reloads reloads = refl
one_change s command u v (plans {verb = verb} {asked = asked} {demand = d} {after = x} f h) (plans {demand = e} {after = y} g k) =
    ap (λ (x : ByUnit UnitJobs). record s { pending = x }) (one_planned_map s verb asked d e x y f g h k).1
one_change s command u v (plans {demand = d} f h) (demands_nothing none) = absurd (none-some d (sym none ∙ f))
one_change s command u v (demands_nothing none) (plans {demand = d} f h) = absurd (none-some d (sym none ∙ f))
one_change s command u v (demands_nothing none) (demands_nothing too) = refl
one_change s command u v cancels cancels = refl
one_change {profile} s command u v (installs {verb = verb} {unit = unit} {tree = tree} h) (installs {tree = other} k) =
    ap (λ (x : Tree). record s { tree = x; loaded = as_loaded profile s x }) (one_install (read_by profile s.tree) verb unit tree other h k)

-- failures are forgotten to one end, with one list of actions
pub one_reset : (t : ℕ) (units : List (List ℕ)) (s : State) (a b : List Action) (v w : State)
    → AreReset t units s a v → AreReset t units s b w → (a ≡ b) × (v ≡ w)
one_reset t units s a b v w all_reset all_reset = (refl, refl)
one_reset t (unit ∷ units) s a b v w (reset_next {u = u} {first = first} {more = more} h k) (reset_next {u = x} {first = other} {more = rest} g l) =
    let both = one_happened t unit Reset s first other u x h g in
    let later = one_reset t units u more rest v w k (subst (λ y. AreReset t units y rest w) (sym both.1) l) in
    (ap (λ q. q ++ more) both.0 ∙ ap (λ q. other ++ q) later.0, later.1)

-- to forget failures changes nothing by itself
no_change : {profile : Profile} (s : State) (asked : Option (List ℕ)) (u : State) → ¬ Changes profile s (ResetFailed asked) u
no_change s asked u h = elim h [ ]

-- a command does one thing, with one list of actions
pub one_done : {profile : Profile} (t : ℕ) (s : State) (command : Command) (a b : List Action) (v w : State) → Does profile t s command a v → Does profile t s command b w → (a ≡ b) × (v ≡ w)
one_done t s command a b v w (changes h) (changes k) = (refl, one_change s command v w h k)
one_done t s command a b v w (changes h) (resets {asked = asked} k) = absurd (no_change s asked v h)
one_done t s command a b v w (resets {asked = asked} h) (changes k) = absurd (no_change s asked w k)
one_done t s command a b v w (resets {asked = asked} h) (resets k) = one_reset t (units_reset s asked) s a b v w h k

-- a query has one reply
pub one_reply_to : (s : State) (query : Query) (r q : Reply) → IsReplyTo s query r → IsReplyTo s query q → r ≡ q
one_reply_to s query r q shows shows = refl
one_reply_to s query r q tells_activity tells_activity = refl
one_reply_to s query r q tells_failure tells_failure = refl
one_reply_to s query r q tells_files tells_files = refl
one_reply_to s query r q (tells_enabling {asked = asked} {answer = a} h) (tells_enabling {answer = b} k) = ap EnabledAs (one_enabling (read_by current s.tree) asked a b h k)
one_reply_to s query r q (lists_units {names = xs} h) (lists_units {names = ys} k) = ap (λ names. Listed (each (unit_listed s) names)) (one_list_of_known s xs ys h k)
one_reply_to s query r q lists_jobs lists_jobs = refl

-- ---- a happening has one outcome

-- it has one end, with one list of actions
pub one_followed : (t : ℕ) (s : State) (happening : Happening) (a b : List Action) (v w : State)
    → Follows t s happening a v → Follows t s happening b w → (a ≡ b) × (v ≡ w)
one_followed t s happening a b v w (ends {number = number} {end = end} {first = first} {more = more} {u = u} unit is h k) (ends {first = other} {more = others} {u = x} unit' is' h' k') =
    let same = one_process s.units number unit' unit is' is in
    let both = one_happened t unit (end_of (state_of_unit s.units unit) number end) s first other u x h
    (subst (λ i. Happens t i (end_of (state_of_unit s.units i) number end) s other x) same h') in
    let later = one_settled t u more others v w k (subst (λ i. Settles t i others w) (sym both.1) k') in
    (ap (λ q. q ++ more) both.0 ∙ ap (λ q. other ++ q) later.0, later.1)
one_followed t s happening a b v w (reports {number = number} {first = first} {more = more} {u = u} unit is awaits h k)
    (reports {first = other} {more = others} {u = x} unit' is' awaits' h' k') =
    let same = one_process s.units number unit' unit is' is in
    let both = one_happened t unit Executed s first other u x h (subst (λ i. Happens t i Executed s other x) same h') in
    let later = one_settled t u more others v w k (subst (λ i. Settles t i others w) (sym both.1) k') in
    (ap (λ q. q ++ more) both.0 ∙ ap (λ q. other ++ q) later.0, later.1)
one_followed t s happening a b v w boots boots = (refl, refl)
one_followed t s happening a b v w (ticks timers are h) (ticks others too k) =
    let same = one_deadlines s.units others timers too are in
    one_fired t timers s a b v w h (subst (λ i. Fires t i s b w) same k)

-- a tick that gives an action or changes the state has an effect
pub tick_has_effect : (t : ℕ) (s : State) (actions : List Action) (v : State) → Follows t s Tick actions v → ¬ ((actions ≡ []) × (v ≡ s)) → ¬ HasNoEffect t s Tick
tick_has_effect t s actions v follows differs (is_idle quiet) = differs (one_followed t s Tick actions [] v s follows quiet)

-- the end of a live process has an effect
pub end_has_effect : (t : ℕ) (s : State) (number : ℕ) (end : End) (unit : List ℕ) → HasNumber (state_of_unit s.units unit) number → ¬ HasNoEffect t s (ProcessEnded number end)
end_has_effect t s number end unit live (is_over none) = none unit live

-- a report for which a unit waits has an effect
pub report_has_effect : (t : ℕ) (s : State) (number : ℕ) (unit : List ℕ) → IsProcessOf s.units number unit → AwaitsReport s number unit
    → ¬ HasNoEffect t s (ProcessExecuted number)
report_has_effect t s number unit is awaits (isnt_awaited none) = none unit is awaits

-- a boot with another id has an effect
pub boot_has_effect : (t : ℕ) (s : State) (boot : List ℕ) → boot ≢ s.boot → ¬ HasNoEffect t s (Booted boot)
boot_has_effect t s boot other (is_known same) = other same

-- an event has one effect, with one list of actions
pub one_taken : {profile : Profile} (t : ℕ) (s : State) (event : Event) (a b : List Action) (v w : State) → TakesEffect profile t s event a v → TakesEffect profile t s event b w → (a ≡ b) × (v ≡ w)
one_taken t s event a b v w (obeys {command = command} {first = first} {more = more} {u = u} free h k) (obeys {first = other} {more = rest} {u = x} also g l) =
    let done = one_done t s command first other u x h g in
    let later = one_settled t u more rest v w k (subst (λ i. Settles t i rest w) (sym done.1) l) in
    (ap (λ q. q ++ more) done.0 ∙ ap (λ q. other ++ q) later.0, later.1)
one_taken t s event a b v w (meets {happening = happening} effect h) (meets also k) = one_followed t s happening a b v w h k

alike_refusals : (r q : Refused) → (r ≡ q) ⊎ (NamesACycle r × NamesACycle q) → AlikeBut (Refusal r) (Refusal q)
alike_refusals r q (inl is) = the_same (ap Refusal is)
alike_refusals r q (inr both) = both_name both.0 both.1

-- a step has one outcome, but for the cycle that a refusal names
pub one_outcome : (size : ℕ) (s : State) (input : Input) (r q : Reply) (a b : List Action) (t u : State)
    → Step size s input r a t → Step size s input q b u → IsSameOutcome r q a b t u
one_outcome size s input r q a b t u (refused {profile = profile} {command = command} {r = x} e) (refused {r = y} f) =
    record { reply = alike_refusals x y (one_refusal profile s command x y e f); actions = refl; state = refl }
one_outcome size s input r q a b t u (refused {r = x} e) (crowded_out (obeys free h k) heavy) = absurd (free x e)
one_outcome size s input r q a b t u (refused {r = x} e) (taken (obeys free h k) fits) = absurd (free x e)
one_outcome size s input r q a b t u (idle e) (idle f) = record { reply = the_same refl; actions = refl; state = refl }
one_outcome size s input r q a b t u (idle e) (crowded_out h never) = absurd never
one_outcome size s input r q a b t u (idle e) (taken (meets effect h) fits) = absurd (effect e)
one_outcome size s input r q a b t u (crowded_out (obeys free h k) heavy) (refused {r = x} e) = absurd (free x e)
one_outcome size s input r q a b t u (crowded_out h never) (idle e) = absurd never
one_outcome size s input r q a b t u (crowded_out h heavy) (crowded_out k too) = record { reply = the_same refl; actions = refl; state = refl }
one_outcome size s input r q a b t u (crowded_out {moment = moment} {event = event} {actions = c} {u = v} h heavy) (taken {actions = d} {u = w} k fits) =
    absurd (fits (subst (HasNoRoom size event) (one_taken (moment_of s moment) s event c d v w h k).1 heavy))
one_outcome size s input r q a b t u (taken {moment = moment} {event = event} {actions = c} {u = v} h fits) (crowded_out {actions = d} {u = w} k heavy) =
    absurd (fits (subst (HasNoRoom size event) (sym (one_taken (moment_of s moment) s event c d v w h k).1) heavy))
one_outcome size s input r q a b t u (taken (obeys free h k) fits) (refused {r = x} e) = absurd (free x e)
one_outcome size s input r q a b t u (taken (meets effect h) fits) (idle e) = absurd (effect e)
one_outcome size s input r q a b t u (taken {moment = moment} {event = event} {u = v} h fits) (taken {u = w} k suits) =
    let same = one_taken (moment_of s moment) s event a b v w h k in
    record {
      reply = the_same (ap (λ (x : State). reply_after event s.tree x.tree) same.1);
      actions = same.0;
      state = ap (λ (x : State). record x { clock = moment_of s moment }) same.1;
    }

-- a run over a list and one over another are one over both
pub run-append : (size : ℕ) (s t u : State) (p q : List Input) → Run size s p t → Run size t q u → Run size s (p ++ q) u
run-append size s t u p q Run.rests later = later
run-append size s t u p q (goes reply actions step run) later = goes reply actions step (run-append size _ t u _ q run later)

-- a run over both lists is a run over one and then one over the other
pub run-cut : (size : ℕ) (s u : State) (p q : List Input) → Run size s (p ++ q) u → (t : State) × Run size s p t × Run size t q u
run-cut size s u [] q run = (s, Run.rests, run)
run-cut size s u (i ∷ p) q (goes reply actions step run) =
    let later = run-cut size _ u p q run in
    (later.0, goes reply actions step later.1, later.2)

-- a run has one end
pub one_run : (size : ℕ) (s t u : State) (inputs : List Input) → Run size s inputs t → Run size s inputs u → t ≡ u
one_run size s t u inputs Run.rests Run.rests = refl
one_run size s t u (i ∷ inputs) (goes {t = v} reply actions step run) (goes {t = w} other others again later) =
    let same = (one_outcome size s i reply other actions others v w step again).state in
    one_run size v t u inputs run (subst (λ x. Run size x inputs u) (sym same) later)
