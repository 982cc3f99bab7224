-- The effect of a command in rows, from its work and from the delta that results.
use Rattle.std.proofs.Common.{◌≡◌, ◌≢◌, ◌∙◌, ◌↔◌, ℕ, true≢false, List, [], ◌∷◌, length, Contains, Ok, Err, vec_len, refl, sym, ap, subst, arith}
use Rattle.std.proofs.lemmas.Option.{none-some}
use Rattle.std.specs.Prelude.{IfErr, IsErrAnd, Result}
use Rattle.um_falling.specs.Carrying.{Adds}
use Rattle.um_falling.specs.Work.{Goes, Keeps, WorkView}
use Rattle.um_model.specs.Jobs.{jobs_of_unit}
use Rattle.um_model.specs.Machine.{State, AwaitsReport, Follows, Happening, Happens, HasNoEffect, IsProcessOf, IsTooHeavy, ProcessEnded, ProcessExecuted, Settles, Tick, end_of}
use Rattle.um_model.specs.Service.{Action, state_of_unit}
use Rattle.um_model.specs.Standing.{Standing}
use Rattle.um_model.specs.declared.service.End.{End}
use Rattle.um_model.specs.declared.transition.UnitEvent.{UnitEvent}
use Rattle.um_model.specs.declared.transition.UnitEvent.TheVariants.{Executed}
use Rattle.um_laws.proofs.MachineLaws.{end_has_effect, report_has_effect}
use Rattle.um_state.specs.Deltas.{delta_after}
use Rattle.um_state.specs.Rows.{put_row, rows_after, timed}
use Rattle.um_state.specs.View.{state_of}
use Rattle.um_state.specs.Working.{CountsDiffering, Differs}
use Rattle.um_state.specs.declared.delta.Delta.{Delta}
use Rattle.um_state.specs.declared.row.Row.{Row}
use Rattle.um_wire.specs.Refusal.{refused_of}
use Rattle.um_wire.specs.declared.refusal.Refusal.{Refusal}
use Rattle.um_wire.specs.declared.refusal.Refusal.TheVariants.{NoMemory}
use Rattle.um_engine.specs.Engine.{AreTrees, DiffersInRows, DoesBy, DoesRows, FollowsUpon, HasSameTrees, LeadsTo, MetBy, SettlesTooHeavy, TellsRows, changed}
use Rattle.um_engine.specs.Served.{ServedView, WorksOn, begun_at, standing_of}
use Rattle.um_laws.proofs.KeepsLaws.{settles_keeps}
use Rattle.um_engine.specs.declared.between.Trees.{Trees}
use Rattle.um_engine.specs.declared.between.Trees.TheVariants.{Stay, Differ, Untold}
use Rattle.um_engine.specs.declared.engine.Change.{Change}
use Rattle.um_engine.specs.declared.engine.Change.TheVariants.{Nothing, Rows, Tables}
use Rattle.um_engine.proofs.Ticks.{end_follows, follows_upon, report_follows, tick_acts, tick_follows, tick_is_idle}

-- ---- rows leave the trees

rows_tree : (rows : List Row) (s : Standing) → (rows_after rows s).state.tree ≡ s.state.tree
rows_tree [] s = refl
rows_tree (r ∷ rows) s = rows_tree rows (put_row r s)

rows_loaded : (rows : List Row) (s : Standing) → (rows_after rows s).state.loaded ≡ s.state.loaded
rows_loaded [] s = refl
rows_loaded (r ∷ rows) s = rows_loaded rows (put_row r s)

rows_boot : (rows : List Row) (s : Standing) → (rows_after rows s).state.boot ≡ s.state.boot
rows_boot [] s = refl
rows_boot (r ∷ rows) s = rows_boot rows (put_row r s)

-- ---- a state and itself differ in no row

nothing_first : (x : List ℕ) → ¬ Contains [] x
nothing_first x c = absurd (omega (arith, c.1))

pub none_differ : (s : State) → DiffersInRows s s 0
none_differ s = (
  refl,
  refl,
  record {
    differing = [];
    count = refl;
    once = λ i j d low high. absurd (omega (arith, low, high));
    exact = λ x. (λ c. absurd (nothing_first x c), λ differs. absurd (differs (refl, refl)));
  },
)

-- and with a delta without rows units and jobs are the same as without it
pub without_rows : (d : Delta) (s : Standing) → vec_len d.rows ≡ 0 → delta_after d s ≡ timed d.clock d.next s
without_rows d s none = by d.rows.items (omega (arith, none))
  where
    by : (rows : List Row) → length rows ≡ 0 → rows_after rows (timed d.clock d.next s) ≡ timed d.clock d.next s
    by [] e = refl
    by (r ∷ rows) e = absurd (omega (arith, e))

-- ---- the effect of a work's delta

-- the work leads to a state, and its delta to that state at the moment
pub record EndsIn (s : Standing) (t : ℕ) (x : WorkView) (delta : Delta) (actions : List Action) : Type 0 where
  pub base : x.base ≡ s
  pub moment : x.moment ≡ t
  pub after : delta_after delta x.base ≡ timed x.moment (state_of x.now).next x.now
  pub count : CountsDiffering (state_of x.base) (state_of (delta_after delta x.base)) (vec_len delta.rows)
  pub asked : actions ≡ x.actions

module _ (s : Standing) (t : ℕ) (x : WorkView) (delta : Delta) (actions : List Action) (ends : EndsIn s t x delta actions) where
  pub after_is : delta_after delta s ≡ timed t (state_of x.now).next x.now
  after_is = ap (delta_after delta) (sym ends.base) ∙ (ends.after ∙ ap (λ m. timed m (state_of x.now).next x.now) ends.moment)

  pub rows_done : DiffersInRows (state_of s) (state_of (delta_after delta s)) (vec_len delta.rows)
  rows_done = (
    rows_tree delta.rows.items (timed delta.clock delta.next s),
    rows_loaded delta.rows.items (timed delta.clock delta.next s),
    subst (λ (b : Standing). CountsDiffering (state_of b) (state_of (delta_after delta b)) (vec_len delta.rows)) ends.base ends.count,
  )

  pub done_rows : (Relation : List Action → State → Type 0) → Relation x.actions (state_of x.now) → DoesRows Relation t s delta actions
  done_rows Relation goes = record {
    leads = record {
      state = state_of x.now;
      leads = subst (λ a. Relation a (state_of x.now)) (sym ends.asked) goes;
      is = ap state_of after_is;
    };
    rows = rows_done;
  }

-- a relation that holds whenever another one does is done too
pub done_as : (Relation Other : List Action → State → Type 0) (t : ℕ) (s : Standing) (change : Change) (actions : List Action) → ((a : List Action) (v : State) → Relation a v → Other a v)
    → DoesBy Relation t s change actions → DoesBy Other t s change actions
done_as Relation Other t s change actions more done = record {
  leads = record { state = done.leads.state; leads = more actions done.leads.state done.leads.leads; is = done.leads.is };
  tells = done.tells;
}

-- ---- the effect of a delta's change

-- a change that leads where the delta does
pub does_by : (Relation : List Action → State → Type 0) (t : ℕ) (s : Standing) (delta : Delta) (change : Change) (actions : List Action) → DoesRows Relation t s delta actions
    → state_of (changed change s) ≡ state_of (delta_after delta s) → TellsRows s change → DoesBy Relation t s change actions
does_by Relation t s delta change actions done same tells = record {
  leads = record { state = done.leads.state; leads = done.leads.leads; is = same ∙ done.leads.is };
  tells = tells;
}

pub met_by : (t : ℕ) (s : Standing) (happening : Happening) (change : Change) (actions : List Action) → ¬ HasNoEffect t (state_of s) happening
    → DoesBy (Follows t (state_of s) happening) t s change actions → MetBy t s happening change actions
met_by t s happening Nothing actions effect done = absurd (true≢false (sym done.tells.effect))
met_by t s happening (Rows delta) actions effect done = (effect, done)
met_by t s happening (Tables given rows) actions effect done = (effect, done)

-- the delta itself
pub tells_rows : (s : Standing) (delta : Delta) → CountsDiffering (state_of s) (state_of (delta_after delta s)) (vec_len delta.rows) → TellsRows s (Rows delta)
tells_rows s delta count = record {
  effect = refl;
  rows = (rows_tree delta.rows.items (timed delta.clock delta.next s), rows_loaded delta.rows.items (timed delta.clock delta.next s), count);
  tables = λ none. absurd (none-some (vec_len delta.rows) (sym none));
}

-- the trees and the boot's id stay
pub same_trees : (s : Standing) (delta : Delta) (v : State) → v ≡ state_of (delta_after delta s) → HasSameTrees (state_of s) v
same_trees s delta v is = record {
  tree = ap (λ (x : State). x.tree) is ∙ rows_tree delta.rows.items (timed delta.clock delta.next s);
  loaded = ap (λ (x : State). x.loaded) is ∙ rows_loaded delta.rows.items (timed delta.clock delta.next s);
  boot = ap (λ (x : State). x.boot) is ∙ rows_boot delta.rows.items (timed delta.clock delta.next s);
}

-- ---- jobs begin after the effect of a command

pub settled_rows : (size : ℕ) (v : ServedView) (w x : WorkView) (delta : Delta) (actions : List Action) → WorksOn v w → Keeps w x → Goes (Settles w.moment (state_of w.now)) w x
    → ¬ IsTooHeavy size (state_of x.now) → delta_after delta x.base ≡ timed x.moment (state_of x.now).next x.now
    → CountsDiffering (state_of x.base) (state_of (delta_after delta x.base)) (vec_len delta.rows) → actions ≡ x.actions
    → DoesRows (λ a u. Adds (Settles w.moment (state_of w.now)) w.actions u a × (¬ IsTooHeavy size u)) w.moment (standing_of v) delta actions
settled_rows size v w x delta actions works keeps goes light after count asked =
    done_rows (standing_of v) w.moment x delta actions
    (record { base = keeps.base ∙ works.base; moment = keeps.moment; after = after; count = count; asked = asked })
    (λ a u. Adds (Settles w.moment (state_of w.now)) w.actions u a × (¬ IsTooHeavy size u)) (goes, light)

-- a state that isn't too heavy isn't so at another moment
pub light_before : (size t : ℕ) (s v : State) → v ≡ record s { clock = t } → ¬ IsTooHeavy size v → ¬ IsTooHeavy size s
light_before size t s v is light heavy = light (subst (IsTooHeavy size) (sym is) (record { units = heavy.units; count = heavy.count; heavy = heavy.heavy }))

pub heavy_before : (size t : ℕ) (s v : State) → v ≡ record s { clock = t } → IsTooHeavy size v → IsTooHeavy size s
heavy_before size t s v is heavy = let h = subst (IsTooHeavy size) is heavy in record { units = h.units; count = h.count; heavy = h.heavy }

-- ---- jobs begin in the served state: no action was taken before

pub settled_served : (v : ServedView) (t : ℕ) (w x : WorkView) (delta : Delta) (actions : List Action) → w ≡ begun_at (standing_of v) v.known.graph t → Keeps w x
    → Goes (Settles w.moment (state_of w.now)) w x → delta_after delta x.base ≡ timed x.moment (state_of x.now).next x.now
    → CountsDiffering (state_of x.base) (state_of (delta_after delta x.base)) (vec_len delta.rows) → actions ≡ x.actions → (u : ServedView)
    → standing_of u ≡ delta_after delta (standing_of v) → LeadsTo (Settles t v.state) t actions u.state
settled_served v t w x delta actions begins keeps goes after count asked u is =
    let (new, settles, whole) = subst (λ (y : WorkView). Adds (Settles y.moment (state_of y.now)) y.actions (state_of x.now) x.actions) begins goes in
    let done = done_rows (standing_of v) t x delta actions
    (record {
      base = keeps.base ∙ ap (λ (y : WorkView). y.base) begins;
      moment = keeps.moment ∙ ap (λ (y : WorkView). y.moment) begins;
      after = after;
      count = count;
      asked = asked;
    })
    (λ a s. Settles t v.state a s) (subst (λ a. Settles t v.state a (state_of x.now)) (sym whole) settles) in
    record { state = done.leads.state; leads = done.leads.leads; is = ap state_of is ∙ done.leads.is }

-- ---- something happens to a unit, and jobs begin

pub happened_rows : (v : ServedView) (t : ℕ) (unit : List ℕ) (event : UnitEvent) (w x y : WorkView) (delta : Delta) (actions : List Action)
    → w ≡ begun_at (standing_of v) v.known.graph t → Keeps w x → Goes (Happens w.moment unit event (state_of w.now)) w x → Keeps x y
    → Goes (Settles x.moment (state_of x.now)) x y → delta_after delta y.base ≡ timed y.moment (state_of y.now).next y.now
    → CountsDiffering (state_of y.base) (state_of (delta_after delta y.base)) (vec_len delta.rows) → actions ≡ y.actions
    → DoesRows (FollowsUpon t v.state unit event) t (standing_of v) delta actions
happened_rows v t unit event w x y delta actions begins first happens second settles after count asked =
    let at : w.moment ≡ t = ap (λ (z : WorkView). z.moment) begins in
    let same : state_of w.now ≡ v.state = ap (λ (z : WorkView). state_of z.now) begins in
    let none : w.actions ≡ [] = ap (λ (z : WorkView). z.actions) begins in
    let happened : Adds (Happens t unit event (state_of w.now)) w.actions (state_of x.now) x.actions =
    subst (λ m. Adds (Happens m unit event (state_of w.now)) w.actions (state_of x.now) x.actions) at happens in
    let settled : Adds (Settles t (state_of x.now)) x.actions (state_of y.now) y.actions =
    subst (λ m. Adds (Settles m (state_of x.now)) x.actions (state_of y.now) y.actions) (first.moment ∙ at) settles in
    done_rows (standing_of v) t y delta actions
    (record {
      base = second.base ∙ (first.base ∙ ap (λ (z : WorkView). z.base) begins);
      moment = second.moment ∙ (first.moment ∙ at);
      after = after;
      count = count;
      asked = asked;
    })
    (FollowsUpon t v.state unit event)
    (follows_upon t v.state (state_of w.now) (state_of x.now) (state_of y.now) unit event w.actions x.actions y.actions same none happened settled)

-- ---- happenings

pub end_met : (t : ℕ) (s : Standing) (number : ℕ) (end : End) (unit : List ℕ) (event : UnitEvent) (change : Change) (actions : List Action) → IsProcessOf (state_of s).units number unit
    → event ≡ end_of (state_of_unit (state_of s).units unit) number end → DoesBy (FollowsUpon t (state_of s) unit event) t s change actions
    → MetBy t s (ProcessEnded number end) change actions
end_met t s number end unit event change actions process is done =
    met_by t s (ProcessEnded number end) change actions (end_has_effect t (state_of s) number end unit process.has)
    (done_as (FollowsUpon t (state_of s) unit event) (Follows t (state_of s) (ProcessEnded number end)) t s change actions
    (λ a v h. end_follows t (state_of s) v number end unit event a process is h) done)

pub report_met : (t : ℕ) (s : Standing) (number : ℕ) (unit : List ℕ) (change : Change) (actions : List Action) → IsProcessOf (state_of s).units number unit
    → AwaitsReport (state_of s) number unit → DoesBy (FollowsUpon t (state_of s) unit Executed) t s change actions
    → MetBy t s (ProcessExecuted number) change actions
report_met t s number unit change actions process awaits done =
    met_by t s (ProcessExecuted number) change actions (report_has_effect t (state_of s) number unit process awaits)
    (done_as (FollowsUpon t (state_of s) unit Executed) (Follows t (state_of s) (ProcessExecuted number)) t s change actions
    (λ a v h. report_follows t (state_of s) v number unit a process awaits h) done)

-- ---- a tick

-- where units and jobs are the same, no row differs
counts_none : (s u : State) (n : ℕ) → CountsDiffering s u n → s.units ≡ u.units → s.pending ≡ u.pending → n ≡ 0
counts_none s u n c units pending = by c.differing c.count c.exact
  where
    by : (xs : List (List ℕ)) → length xs ≡ n → ((x : List ℕ) → Contains xs x ↔ Differs s u x) → n ≡ 0
    by [] e h = sym e
    by (x ∷ xs) e h = absurd ((h x).0 (0, omega arith, refl) (ap (λ m. state_of_unit m x) units, ap (λ m. jobs_of_unit m x) pending))

module _ (v : ServedView) (t : ℕ) (w x : WorkView) (delta : Delta) (actions : List Action) (begins : w ≡ begun_at (standing_of v) v.known.graph t) (keeps : Keeps w x)
    (fires : Goes (Follows w.moment (state_of w.now) Tick) w x) (after : delta_after delta x.base ≡ timed x.moment (state_of x.now).next x.now)
    (count : CountsDiffering (state_of x.base) (state_of (delta_after delta x.base)) (vec_len delta.rows)) (asked : actions ≡ x.actions) where
  ends_in : EndsIn (standing_of v) t x delta actions
  ends_in = record {
    base = keeps.base ∙ ap (λ (z : WorkView). z.base) begins;
    moment = keeps.moment ∙ ap (λ (z : WorkView). z.moment) begins;
    after = after;
    count = count;
    asked = asked;
  }

  follows : Follows t v.state Tick x.actions (state_of x.now)
  follows =
      tick_follows t v.state (state_of w.now) (state_of x.now) w.actions x.actions (ap (λ (z : WorkView). state_of z.now) begins) (ap (λ (z : WorkView). z.actions) begins)
      (subst (λ m. Adds (Follows m (state_of w.now) Tick) w.actions (state_of x.now) x.actions) (ap (λ (z : WorkView). z.moment) begins) fires)

  is_after : delta_after delta (standing_of v) ≡ timed t (state_of x.now).next x.now
  is_after = after_is (standing_of v) t x delta actions ends_in

  pub tick_rests : vec_len delta.rows ≡ 0 → (state_of x.now).next ≡ v.state.next → actions ≡ [] → MetBy t (standing_of v) Tick Nothing actions
  tick_rests none next nothing =
      let same : timed delta.clock delta.next (standing_of v) ≡ timed t (state_of x.now).next x.now = sym (without_rows delta (standing_of v) none) ∙ is_after in (
        tick_is_idle t v.state (state_of x.now) x.actions follows (sym asked ∙ nothing)
            (record { units = ap (λ (z : Standing). (state_of z).units) same; pending = ap (λ (z : Standing). (state_of z).pending) same; next = sym next }),
        nothing,
      )

  pub tick_counts : CountsDiffering v.state (state_of (delta_after delta (standing_of v))) (vec_len delta.rows)
  tick_counts = (rows_done (standing_of v) t x delta actions ends_in).2

  pub tick_goes : (change : Change) → state_of (changed change (standing_of v)) ≡ state_of (delta_after delta (standing_of v)) → TellsRows (standing_of v) change
      → (vec_len delta.rows ≡ 0 → (state_of x.now).next ≡ v.state.next → actions ≡ [] → ⊥) → MetBy t (standing_of v) Tick change actions
  tick_goes change leads tells differs =
      met_by t (standing_of v) Tick change actions
      (tick_acts t v.state (state_of x.now) x.actions follows
      (λ nothing same.
      differs
      (counts_none v.state (state_of (delta_after delta (standing_of v))) (vec_len delta.rows) tick_counts
      (same.units ∙ sym (ap (λ (z : Standing). (state_of z).units) is_after)) (same.pending ∙ sym (ap (λ (z : Standing). (state_of z).pending) is_after)))
      (sym same.next) (asked ∙ nothing)))
      (does_by (Follows t v.state Tick) t (standing_of v) delta change actions (done_rows (standing_of v) t x delta actions ends_in (Follows t v.state Tick) follows) leads tells)

-- the claim about the trees still holds when jobs have begun
pub trees_settled : (trees : Trees) (s u v : State) (t : ℕ) (actions : List Action) → AreTrees trees s u → LeadsTo (Settles t u) t actions v → AreTrees trees s v
trees_settled Stay s u v t actions same leads =
    let kept = settles_keeps t u actions leads.state leads.leads in
    record {
      tree = ap (λ (x : State). x.tree) leads.is ∙ (kept.tree ∙ same.tree);
      loaded = ap (λ (x : State). x.loaded) leads.is ∙ (kept.loaded ∙ same.loaded);
      boot = ap (λ (x : State). x.boot) leads.is ∙ (kept.boot ∙ same.boot);
    }
trees_settled Differ s u v t actions differs leads = λ same.
    differs (sym (ap (λ (x : State). x.tree) leads.is ∙ (settles_keeps t u actions leads.state leads.leads).tree) ∙ same)
trees_settled Untold s u v t actions none leads = tt

-- a refusal that is handed on is for want of room as it was
pub heavy_is : {X : Type 0} (size t : ℕ) (u : State) (before : List Action) (result : Result X Refusal) (e : Refusal) → IsErrAnd result (λ f. f ≡ e)
    → (e ≢ NoMemory → SettlesTooHeavy size t u before (refused_of e)) → IfErr result (λ f. f ≢ NoMemory → SettlesTooHeavy size t u before (refused_of f))
heavy_is size t u before (Ok done) e h heavy = absurd h
heavy_is size t u before (Err f) e h heavy = subst (λ (g : Refusal). g ≢ NoMemory → SettlesTooHeavy size t u before (refused_of g)) (sym h) heavy
