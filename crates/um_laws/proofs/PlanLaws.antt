-- Scenes that say the same of the units that are known: the same is demanded in both, a plan of the one is a plan of the other, and both
-- are refused for the same causes.
use Rattle.std.proofs.Common.{◌≡◌, ◌↔◌, ◌∙◌, ℕ, List, Option, Some, refl, sym, subst, inl, inr}
use Rattle.um_model.specs.Jobs.{Job, ComesBefore, DropsOne, GoesBefore, starts, stops, stops_then_starts, stops_then_starts_before, of_one_unit, jobs_of_unit, jobs_for}
use Rattle.um_model.specs.Least.{IsLeast, IsNamedBefore, NamesLeast}
use Rattle.um_model.specs.Plan.{CausesOfPlan, Clashes, Counts, Demands, IsBarred, IsPlan, IsStarted, NamesCycle, NamesDrop, Scene}
use Rattle.um_model.specs.Plan.{restarted, started, stopped, left}
use Rattle.um_model.specs.Refusals.{Refused, FirstCause, at_first, at_second, clash}
use Rattle.um_model.specs.Service.{ByUnit}
use Rattle.um_model.specs.declared.commands.JobMode.{JobMode}
use Rattle.um_model.specs.declared.dependencies.Demand.{Demand}
use Rattle.um_model.specs.declared.dependencies.Demand.TheVariants.{Start, Stop, Restart}
use Rattle.um_model.specs.declared.dependencies.DependencyKind.{DependencyKind}
use Rattle.um_model.specs.declared.jobs.UnitJobs.{UnitJobs}
use Rattle.um_model.specs.declared.service.ActiveState.TheVariants.{Active}
use Rattle.um_laws.proofs.DemandsLaws.{demanded_forth}
use Rattle.um_laws.proofs.OrderLaws.{cycle_weaker}

-- the scenes say the same of the units that are known, and units depend on known ones alone
pub record AreAlike (IsKnown : List ℕ → Type 0) (s t : Scene) : Type 0 where
  pub within : (kind : DependencyKind) (x y : List ℕ) → s.Depends kind x y → IsKnown x × IsKnown y
  pub depends : (kind : DependencyKind) (x y : List ℕ) → s.Depends kind x y ↔ t.Depends kind x y
  pub before : (x y : List ℕ) → s.IsBefore x y ↔ t.IsBefore x y
  pub loadable : (x : List ℕ) → IsKnown x → s.IsLoadable x ↔ t.IsLoadable x
  pub cannot : (x : List ℕ) → IsKnown x → (r : Refused) → s.CannotStart x r ↔ t.CannotStart x r
  pub activity : (x : List ℕ) → IsKnown x → s.activity x ≡ t.activity x
  pub pending : (x : List ℕ) → jobs_of_unit s.pending x ≡ jobs_of_unit t.pending x

pub alike_back : (IsKnown : List ℕ → Type 0) (s t : Scene) → AreAlike IsKnown s t → AreAlike IsKnown t s
alike_back IsKnown s t a = record {
  within = λ kind x y h. a.within kind x y ((a.depends kind x y).1 h);
  depends = λ kind x y. ((a.depends kind x y).1, (a.depends kind x y).0);
  before = λ x y. ((a.before x y).1, (a.before x y).0);
  loadable = λ x k. ((a.loadable x k).1, (a.loadable x k).0);
  cannot = λ x k r. ((a.cannot x k r).1, (a.cannot x k r).0);
  activity = λ x k. sym (a.activity x k);
  pending = λ x. sym (a.pending x);
}

-- the first of two causes, by causes that hold where these do
first_same : (A B C D : Refused → Type 0) → ((r : Refused) → A r → C r) → ((r : Refused) → C r → A r) → ((r : Refused) → B r → D r)
    → (r : Refused) → FirstCause A B r → FirstCause C D r
first_same A B C D f g h r (at_first a) = at_first (f r a)
first_same A B C D f g h r (at_second none b) = at_second (λ other c. none other (g other c)) (h r b)

least_same : (P Q : List ℕ → Type 0) → ((x : List ℕ) → P x → Q x) → ((x : List ℕ) → Q x → P x) → (x : List ℕ) → IsLeast IsNamedBefore P x → IsLeast IsNamedBefore Q x
least_same P Q f g x l = record { has = f x l.has; first = λ other has apart. l.first other (g other has) apart }

goes_same : (P Q : List ℕ → List ℕ → Type 0) → ((x y : List ℕ) → P x y → Q x y) → (j k : Job) → GoesBefore P j k → GoesBefore Q j k
goes_same P Q f j k (starts {x = x} {y = y} h) = starts (f x y h)
goes_same P Q f j k (stops {x = x} {y = y} h) = stops (f x y h)
goes_same P Q f j k (stops_then_starts {x = x} {y = y} h) = stops_then_starts (f x y h)
goes_same P Q f j k (stops_then_starts_before {x = x} {y = y} h) = stops_then_starts_before (f x y h)
goes_same P Q f j k of_one_unit = of_one_unit

comes_same : (P Q : List ℕ → List ℕ → Type 0) (after : ByUnit UnitJobs) → ((x y : List ℕ) → P x y → Q x y) → (j k : Job) → ComesBefore P after j k → ComesBefore Q after j k
comes_same P Q after f j k c = record { pends = c.pends; waits = c.waits; goes = goes_same P Q f j k c.goes }

-- ---- one way; the other way is the same with the scenes changed about
module _ (IsKnown : List ℕ → Type 0) (root : Demand × List ℕ) (known : IsKnown root.1) where
  module _ (s t : Scene) (a : AreAlike IsKnown s t) where
    -- each demanded unit is known, and demanded in the other scene
    pub demands_same : (p : Demand × List ℕ) → Demands s root p → IsKnown p.1 × Demands t root p
    demands_same p d =
        demanded_forth (λ x. x) IsKnown s.Depends t.Depends (λ x. s.activity x ≡ Active) (λ x. t.activity x ≡ Active) s.IsLoadable t.IsLoadable
        (λ i j _ _ e. e) a.within (λ kind i j. (a.depends kind i j).0) (λ kind x y h. (x, y, refl, refl, (a.depends kind x y).1 h))
        (λ i k. (λ e. sym (a.activity i k) ∙ e, λ e. a.activity i k ∙ e)) (λ i k. a.loadable i k) root known p d

    started_known : (x : List ℕ) → IsStarted s root x → IsKnown x
    started_known x (inl h) = (demands_same (Start, x) h).0
    started_known x (inr h) = (demands_same (Restart, x) h).0

    started_same : (x : List ℕ) → IsStarted s root x → IsStarted t root x
    started_same x (inl h) = inl (demands_same (Start, x) h).1
    started_same x (inr h) = inr (demands_same (Restart, x) h).1

    barred_same : (x : List ℕ) → IsBarred s root x → IsBarred t root x
    barred_same x h = record { started = started_same x h.started; refusal = h.refusal; cause = (a.cannot x (started_known x h.started) h.refusal).0 h.cause }

    clashes_same : (x : List ℕ) → Clashes s root x → Clashes t root x
    clashes_same x h = record { started = started_same x h.started; stopped = (demands_same _ h.stopped).1 }

    drops_same : (after : ByUnit UnitJobs) (x : List ℕ) → DropsOne (jobs_of_unit s.pending x) (jobs_of_unit after x) → DropsOne (jobs_of_unit t.pending x) (jobs_of_unit after x)
    drops_same after x d = subst (λ j. DropsOne j (jobs_of_unit after x)) (a.pending x) d

    cycle_same : (after : ByUnit UnitJobs) (r : Refused) → NamesCycle s.IsBefore after r → NamesCycle t.IsBefore after r
    cycle_same after r n = record {
      cycle = n.cycle;
      closed = cycle_weaker (ComesBefore s.IsBefore after) (ComesBefore t.IsBefore after) (comes_same s.IsBefore t.IsBefore after (λ x y. (a.before x y).0)) n.cycle n.closed;
      least = n.least;
      refusal = n.refusal;
    }

  module _ (s t : Scene) (a : AreAlike IsKnown s t) where
    there : (p : Demand × List ℕ) → Demands s root p → Demands t root p
    there p d = (demands_same s t a p d).1

    here : (p : Demand × List ℕ) → Demands t root p → Demands s root p
    here p d = (demands_same t s (alike_back IsKnown s t a) p d).1

    counts_same : (x : List ℕ) (o : Option Demand) → Counts t root x o → Counts s root x o
    counts_same x o (restarted r) = restarted (here _ r)
    counts_same x o (started nr st) = started (λ r. nr (there _ r)) (here _ st)
    counts_same x o (stopped nr ns sp) = stopped (λ r. nr (there _ r)) (λ r. ns (there _ r)) (here _ sp)
    counts_same x o (left nr ns np) = left (λ r. nr (there _ r)) (λ r. ns (there _ r)) (λ r. np (there _ r))

    -- the demand that counts for a unit gives the same jobs
    jobs_same : (x : List ℕ) (o : Option Demand) → Counts s root x o → jobs_for o (s.activity x) (jobs_of_unit s.pending x) ≡ jobs_for o (t.activity x) (jobs_of_unit t.pending x)
    jobs_same x o (restarted r) = let k = (demands_same s t a _ r).0 in λ i. jobs_for (Some Restart) (a.activity x k i) (a.pending x i)
    jobs_same x o (started nr st) = let k = (demands_same s t a _ st).0 in λ i. jobs_for (Some Start) (a.activity x k i) (a.pending x i)
    jobs_same x o (stopped nr ns sp) = let k = (demands_same s t a _ sp).0 in λ i. jobs_for (Some Stop) (a.activity x k i) (a.pending x i)
    jobs_same x o (left nr ns np) = a.pending x

    -- a plan of the one scene is a plan of the other
    pub plan_same : (after : ByUnit UnitJobs) → IsPlan s root after → IsPlan t root after
    plan_same after p = record {
      tidy = p.tidy;
      jobs = λ x o c. let d = counts_same x o c in p.jobs x o d ∙ jobs_same x o d;
    }

  named_barred : (s t : Scene) → AreAlike IsKnown s t → (r : Refused) → NamesLeast (IsBarred s root) s.CannotStart r → NamesLeast (IsBarred t root) t.CannotStart r
  named_barred s t a r n = record {
    name = n.name;
    least = least_same (IsBarred s root) (IsBarred t root) (barred_same s t a) (barred_same t s (alike_back IsKnown s t a)) n.name n.least;
    told = (a.cannot n.name (started_known s t a n.name n.least.has.started) r).0 n.told;
  }

  named_clash : (s t : Scene) → AreAlike IsKnown s t → (r : Refused) → NamesLeast (Clashes s root) (λ unit r. r ≡ clash unit) r → NamesLeast (Clashes t root) (λ unit r. r ≡ clash unit) r
  named_clash s t a r n = record {
    name = n.name;
    least = least_same (Clashes s root) (Clashes t root) (clashes_same s t a) (clashes_same t s (alike_back IsKnown s t a)) n.name n.least;
    told = n.told;
  }

  named_drop : (s t : Scene) → AreAlike IsKnown s t → (mode : JobMode) (after : ByUnit UnitJobs) (r : Refused) → NamesDrop mode s.pending after r → NamesDrop mode t.pending after r
  named_drop s t a mode after r n = record {
    fails = n.fails;
    names = record {
      name = n.names.name;
      least = least_same (λ u. DropsOne (jobs_of_unit s.pending u) (jobs_of_unit after u)) (λ u. DropsOne (jobs_of_unit t.pending u) (jobs_of_unit after u))
          (drops_same s t a after) (drops_same t s (alike_back IsKnown s t a) after) n.names.name n.names.least;
      told = n.names.told;
    };
  }

  -- both are refused for the same causes
  pub causes_same : (s t : Scene) → AreAlike IsKnown s t → (mode : JobMode) (after : ByUnit UnitJobs) (r : Refused) → CausesOfPlan s root mode after r → CausesOfPlan t root mode after r
  causes_same s t a mode after r c =
      let b = alike_back IsKnown s t a in
      first_same (NamesLeast (IsBarred s root) s.CannotStart)
      (FirstCause (NamesLeast (Clashes s root) (λ unit r. r ≡ clash unit)) (FirstCause (NamesDrop mode s.pending after) (NamesCycle s.IsBefore after)))
      (NamesLeast (IsBarred t root) t.CannotStart)
      (FirstCause (NamesLeast (Clashes t root) (λ unit r. r ≡ clash unit)) (FirstCause (NamesDrop mode t.pending after) (NamesCycle t.IsBefore after)))
      (named_barred s t a) (named_barred t s b)
      (first_same (NamesLeast (Clashes s root) (λ unit r. r ≡ clash unit)) (FirstCause (NamesDrop mode s.pending after) (NamesCycle s.IsBefore after))
      (NamesLeast (Clashes t root) (λ unit r. r ≡ clash unit)) (FirstCause (NamesDrop mode t.pending after) (NamesCycle t.IsBefore after))
      (named_clash s t a) (named_clash t s b)
      (first_same (NamesDrop mode s.pending after) (NamesCycle s.IsBefore after) (NamesDrop mode t.pending after) (NamesCycle t.IsBefore after)
      (named_drop s t a mode after) (named_drop t s b mode after) (cycle_same s t a after))) r c
