-- Failures are forgotten one after another. A unit of which nothing is held has no failure to forget.
use Rattle.um_falling.specs.Carrying.{Adds}
use Rattle.std.proofs.Common.{◌≡◌, ◌∙◌, ◌+◌, ◌<◌, ℕ, Bool, true, false, cond, List, [], ◌∷◌, ◌++◌, Contains, Option, None, unwrap_or, refl, sym, ap, subst, inl, inr, arith, append_assoc, append-nil}
use Rattle.std.specs.Cmp.Lexicographic.{slice_cmp, nat_list_cmp_total}
use Rattle.std.specs.FinMap as map
use Rattle.std.specs.Ordering.{nat_cmp, eq_by_cmp}
use Rattle.um_model.specs.declared.profile.Profile.{Profile}
use Rattle.um_model.specs.Jobs.{no_jobs, jobs_left, with_jobs}
use Rattle.um_model.specs.Machine.{State, IsHeld, Does, ResetFailed, units_reset, settings_in, around, change_of, changed, Becomes, alone, Carries, AreByName, FallsWith, all_told, Happens, happens, AreReset, all_reset, reset_next, resets}
use Rattle.um_model.specs.Service.{Action, ByUnit, dead_unit}
use Rattle.um_model.specs.Settings.{ServiceSettings}
use Rattle.um_model.specs.Transitions.{AreActions, just, nothing, transition}
use Rattle.um_model.specs.declared.service.UnitState.{UnitState}
use Rattle.um_model.specs.declared.transition.Around.{Around}
use Rattle.um_model.specs.declared.transition.StartJob.TheVariants.{Stays}
use Rattle.um_model.specs.declared.transition.UnitEvent.TheVariants.{Reset}
use Rattle.um_laws.proofs.FewLaws.{none_there}
use Rattle.um_laws.proofs.KeepsLaws.{resets_keep}
use Rattle.um_model.proofs.TimersLaws.{same_name}
use Rattle.um_model.proofs.UnitLaws.{unlike}
use Rattle.um_state.specs.View.{state_of}
use Rattle.um_falling.specs.Work.{Goes, Keeps, WorkView}
use Rattle.um_engine.specs.Served.{ServedView, WorksOn, begun_at, standing_of}

-- ---- a unit of which nothing is held

out_of_none : {A : Type 0} (b : Bool) (o : Option A) → o ≡ None → cond b None o ≡ o
out_of_none true o none = sym none
out_of_none false o none = refl

-- removing an absent key changes nothing
removed_same : {A : Type 0} (m : ByUnit A) (k : List ℕ) → map.get m k ≡ None → map.remove m k ≡ m
removed_same m k none =
    map.same_map nat_list_cmp_total (map.slice_cmp-IsAntisymmetric map.nat_cmp-IsAntisymmetric) (map.remove m k) m each
  where
    each : (q : List ℕ) → map.get (map.remove m k) q ≡ map.get m q
    each q = elim (same_name q k) as (λ _. map.get (map.remove m k) q ≡ map.get m q) [
      | inl is ↦ map.get-remove nat_list_cmp_total m k q ∙ out_of_none (eq_by_cmp (slice_cmp nat_cmp) q k) (map.get m q) (ap (map.get m) is ∙ none)
      | inr apart ↦ map.get-remove nat_list_cmp_total m k q ∙ ap (λ b. cond b None (map.get m q)) (unlike q k apart)
    ]

forgotten : (settings : ServiceSettings) (c : Around) (u : UnitState) → u ≡ dead_unit → transition settings c u Reset ≡ just dead_unit
forgotten settings c u is = ap (λ x. transition settings c x Reset) is

module _ (t : ℕ) (s : State) (unit : List ℕ) (isnt : ¬ IsHeld s unit) where
  no_state : map.get s.units unit ≡ None
  no_state = none_there (map.get s.units unit) (λ is. isnt (inl is))

  no_job : map.get s.pending unit ≡ None
  no_job = none_there (map.get s.pending unit) (λ is. isnt (inr is))

  follows_none : change_of t s unit Reset ≡ just dead_unit
  follows_none = forgotten (settings_in s.loaded unit) (around t s unit) (unwrap_or (map.get s.units unit) dead_unit) (ap (λ o. unwrap_or o dead_unit) no_state)

  jobs_stay : with_jobs s.pending unit (jobs_left Stays false (unwrap_or (map.get s.pending unit) no_jobs)) ≡ s.pending
  jobs_stay = ap (λ o. with_jobs s.pending unit (jobs_left Stays false (unwrap_or o no_jobs))) no_job ∙ removed_same s.pending unit no_job

  next_stays : s.next + 0 ≡ s.next
  next_stays = omega arith

  all_stays : changed s unit (just dead_unit) ≡ s
  all_stays =
      ap (λ p. record s { units = map.remove s.units unit; pending = p; next = s.next + 0 }) jobs_stay
      ∙ (ap (λ u. record s { units = u; next = s.next + 0 }) (removed_same s.units unit no_state)
      ∙ ap (λ n. record s { next = n }) next_stays)

  carries_none : Carries t unit Reset s [] s
  carries_none = record {
    state = subst (λ c. Becomes s unit c s) (sym follows_none) (subst (Becomes s unit (just dead_unit)) all_stays (alone (λ fails. let is = fails.0 in cc)));
    asked = subst (λ c. AreActions (settings_in s.loaded unit) (around t s unit) c.unit c.order []) (sym follows_none) nothing;
  }

  none_fall : AreByName (FallsWith s s unit) []
  none_fall = record {
    each = λ other. (
      λ in_none. absurd (no_place other in_none),
      λ falls. absurd (falls.anew refl),
    );
    sorted = λ i j d less low. absurd (no_number j low);
  }
    where
      no_number : (n : ℕ) → ¬ (n < 0)
      no_number n low = omega (arith, low)

      no_place : (other : List ℕ) → ¬ Contains [] other
      no_place other (i, low, is) = no_number i low

  pub resets_none : (before : List Action) → Adds (AreReset t (unit ∷ []) s) before s before
  resets_none before = ([], reset_next (happens carries_none none_fall all_told) all_reset, sym (append-nil before))

-- ---- one that is held, and one after another

pub resets_one : (t : ℕ) (unit : List ℕ) (s u : State) (before after : List Action) → Adds (Happens t unit Reset s) before u after → Adds (AreReset t (unit ∷ []) s) before u after
resets_one t unit s u before after (new, h, is) = (new ++ [], reset_next h all_reset, is ∙ ap (λ l. before ++ l) (sym (append-nil new)))

resets_joined : (t : ℕ) (xs ys : List (List ℕ)) (s u v : State) (a b : List Action) → AreReset t xs s a u → AreReset t ys u b v → AreReset t (xs ++ ys) s (a ++ b) v
resets_joined t xs ys s u v a b all_reset k = k
resets_joined t (x ∷ xs) ys s u v a b (reset_next {u = w} {first = first} {more = more} h r) k =
    subst (λ l. AreReset t (x ∷ (xs ++ ys)) s l v) (sym (append_assoc first more b)) (reset_next h (resets_joined t xs ys w u v more b r k))

pub resets_more : (t : ℕ) (xs ys all : List (List ℕ)) (s u v : State) (before between after : List Action) → all ≡ xs ++ ys → Adds (AreReset t xs s) before u between → Adds (AreReset t ys u) between v after
    → Adds (AreReset t all s) before v after
resets_more t xs ys all s u v before between after e (a, h, is) (b, k, so) = (
  a ++ b,
  subst (λ l. AreReset t l s (a ++ b) v) (sym e) (resets_joined t xs ys s u v a b h k),
  so ∙ (ap (λ l. l ++ b) is ∙ append_assoc before a b),
)

-- with no units, nothing is forgotten
pub resets_no_unit : (t : ℕ) (s : State) (before : List Action) → Adds (AreReset t [] s) before s before
resets_no_unit t s before = ([], all_reset, sym (append-nil before))

-- ---- in a work that begins in the served state

module _ (v : ServedView) (t : ℕ) (asked : Option (List ℕ)) (units : List (List ℕ)) (u w : WorkView) (begun : u ≡ begun_at (standing_of v) v.known.graph t) (is : units ≡ units_reset v.state asked)
    (keeps : Keeps u w) (goes : Goes (AreReset u.moment units (state_of u.now)) u w) where
  reset_here : Adds (AreReset t units v.state) [] (state_of w.now) w.actions
  reset_here = subst (λ (x : WorkView). Adds (AreReset x.moment units (state_of x.now)) x.actions (state_of w.now) w.actions) begun goes

  pub does_reset : {profile : Profile} → Does profile t v.state (ResetFailed asked) w.actions (state_of w.now)
  does_reset {profile} =
      let (new, h, same) = reset_here in
      subst (λ l. Does profile t v.state (ResetFailed asked) l (state_of w.now)) (sym same) (resets (subst (λ l. AreReset t l v.state new (state_of w.now)) is h))

  pub works_reset : WorksOn v w
  works_reset =
      let (new, h, same) = reset_here in
      let kept = resets_keep t units v.state new (state_of w.now) h in
      record {
        graph = keeps.graph ∙ ap (λ (x : WorkView). x.graph) begun;
        base = keeps.base ∙ ap (λ (x : WorkView). x.base) begun;
        tree = kept.tree;
        loaded = kept.loaded;
      }

  pub moment_reset : w.moment ≡ t
  moment_reset = keeps.moment ∙ ap (λ (x : WorkView). x.moment) begun
