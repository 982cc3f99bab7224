-- Settling, firing and forgetting step by step in a work, over the graph and the moment with which it began.
use Rattle.std.proofs.Common.{◌≡◌, ◌∙◌, ◌<◌, ℕ, Bool, false, List, ◌++◌, Contains, Some, length, sym, subst}
use Rattle.std.specs.FinMap as map
use Rattle.um_model.specs.Jobs.{Job, state_of_job}
use Rattle.um_model.specs.Machine as machine
use Rattle.um_model.specs.Machine.{State, AreReset, Fires, FiresOne, IsStill, Settles, begins, begun}
use Rattle.um_model.specs.Service.{Action}
use Rattle.um_model.specs.Timers.{Timers}
use Rattle.um_model.specs.Waiting.{NoMoreWait}
use Rattle.um_model.specs.declared.jobs.JobKind.{JobKind}
use Rattle.um_model.specs.declared.jobs.JobState.TheVariants.{Waiting}
use Rattle.um_model.specs.declared.transition.UnitEvent.{UnitEvent}
use Rattle.um_graph.specs.Graph.{GraphView, IsNumberOf}
use Rattle.um_graph.specs.Named.{name_at}
use Rattle.um_graph.proofs.NamedLaws.{name_got}
use Rattle.um_jobs.specs.Jobs.{JobsView}
use Rattle.um_state.specs.View.{state_of}
use Rattle.um_falling.specs.Carrying.{Adds, KeepsOthers}
use Rattle.um_falling.specs.Over.{Serves}
use Rattle.um_falling.specs.Work.{Goes, Keeps, WorkView}
use Rattle.um_falling.proofs.AlongLaws.{known_by}
use Rattle.um_falling.proofs.WorkLaws.{keeps_all, keeps_then, number_on}
use Rattle.um_engine.specs.Engine.{IsDue, NoneIsDue}
use Rattle.um_engine.specs.Filled.{Begins, Tells}
use Rattle.um_engine.proofs.ReadyLaws.{begun_drops, waiting_in}
use Rattle.um_engine.proofs.ResetLaws.{resets_more}
use Rattle.um_engine.proofs.Steps.{fires_more, none_fires, settled, settles_more}

-- ---- jobs begin, one after another

-- the work has settled this far from its beginning, and the job table agrees with its state
pub record Settling (u v : WorkView) (jobs : JobsView) : Type 0 where
  pub keeps : Keeps u v
  pub serves : Serves u.graph (state_of v.now)
  pub tells : Tells u.graph (state_of v.now) jobs
  pub whole : (t : State) (after : List Action) → Adds (Settles u.moment (state_of v.now)) v.actions t after → Adds (Settles u.moment (state_of u.now)) u.actions t after

pub settling_first : (u : WorkView) (jobs : JobsView) → Serves u.graph (state_of u.now) → Tells u.graph (state_of u.now) jobs → Settling u u jobs
settling_first u jobs serves tells = record { keeps = keeps_all u; serves = serves; tells = tells; whole = λ t after later. later }

-- the graph serves for the state that the work has reached
pub settling_serves : (u v : WorkView) (jobs : JobsView) → Settling u v jobs → Serves v.graph (state_of v.now)
settling_serves u v jobs at = subst (λ g. Serves g (state_of v.now)) (sym at.keeps.graph) at.serves

pub settling_tells : (u v : WorkView) (jobs : JobsView) → Settling u v jobs → Tells v.graph (state_of v.now) jobs
settling_tells u v jobs at = subst (λ g. Tells g (state_of v.now) jobs) (sym at.keeps.graph) at.tells

pub settling_done : (u v : WorkView) (jobs : JobsView) → Settling u v jobs → IsStill (state_of v.now) → Goes (Settles u.moment (state_of u.now)) u v
settling_done u v jobs at still = at.whole (state_of v.now) v.actions (settled u.moment (state_of v.now) v.actions still)

-- a job begins, and the job table at that moment
module _ (u v : WorkView) (jobs found : JobsView) (at : Settling u v jobs) (tells_here : Tells v.graph (state_of v.now) found) (unit : ℕ) (kind : JobKind)
    (within : unit < length v.graph.names) (next : (x : List ℕ) → IsNumberOf v.graph unit x → Begins (state_of v.now) (record { unit = x; kind = kind })) where
  abbrev name : List ℕ
  name = name_at u.graph.names unit

  abbrev job : Job
  job = record { unit = name; kind = kind }

  number : IsNumberOf u.graph unit name
  number = name_got u.graph.names unit (subst (λ (g : GraphView). unit < length g.names) at.keeps.graph within)

  known : Contains u.graph.names name
  known = known_by u.graph unit name number

  at_loop : IsNumberOf v.graph unit name
  at_loop = number_on u v unit name at.keeps number

  waits : state_of_job (state_of v.now).pending job ≡ Some Waiting
  waits = (next name at_loop).has.waits

  module _ (b w : WorkView) (first : Keeps v b) (later : Keeps b w)
      (begins_so : (x : List ℕ) → IsNumberOf v.graph unit x → Tells v.graph (state_of v.now) found → state_of b.now ≡ begun (state_of v.now) (record { unit = x; kind = kind })) where
    is_begun : state_of b.now ≡ begun (state_of v.now) job
    is_begun = begins_so name at_loop tells_here

    keeps_here : Keeps u w
    keeps_here = keeps_then u v w at.keeps (keeps_then v b w first later)

    -- one fewer waits
    pub settling_drops : ((x : List ℕ) → IsNumberOf b.graph unit x → NoMoreWait (state_of w.now).pending (state_of b.now).pending)
        → waiting_in u.graph (state_of w.now) < waiting_in u.graph (state_of v.now)
    settling_drops none =
        begun_drops u.graph (state_of v.now) (state_of b.now) (state_of w.now) job waits known is_begun
        (none name (number_on v b unit name first at_loop))

    -- and the rest settles from there
    pub settling_more : (told anew : JobsView) (event : UnitEvent) (spreads : Bool) → event ≡ begins kind → b.actions ≡ v.actions
        → ((x : List ℕ) → IsNumberOf v.graph unit x → Tells v.graph (state_of v.now) found → Tells v.graph (state_of b.now) told)
        → ((x : List ℕ) → IsNumberOf b.graph unit x → Goes (machine.Happens b.moment x event (state_of b.now)) b w)
        → ((x : List ℕ) → IsNumberOf b.graph unit x → spreads ≡ false → KeepsOthers x (state_of b.now) (state_of w.now))
        → ((before : State) (x : List ℕ) → IsNumberOf w.graph unit x → Tells w.graph before told → (spreads ≡ false → KeepsOthers x before (state_of w.now)) → Tells w.graph (state_of w.now) anew)
        → Settling u w anew
    settling_more told anew event spreads is_event same tells happens others tells_anew = record {
      keeps = keeps_here;
      serves = serves_here;
      tells = subst (λ g. Tells g (state_of w.now) anew) keeps_here.graph
          (tells_anew (state_of b.now) name (number_on u w unit name keeps_here number)
          (subst (λ g. Tells g (state_of b.now) told) (sym (keeps_then v b w first later).graph) (tells name at_loop tells_here)) (others name at_begun));
      whole = λ t after rest.
          at.whole t after
          (settles_more u.moment (state_of v.now) (state_of w.now) t v.actions w.actions after job
          (next name at_loop) happened rest);
    }
      where
        at_begun : IsNumberOf b.graph unit name
        at_begun = number_on v b unit name first at_loop

        serves_here : Serves u.graph (state_of w.now)
        serves_here =
            subst (λ g. Serves g (state_of w.now)) keeps_here.graph (later.serves (first.serves (settling_serves u v jobs at)))

        happened : Adds (machine.Happens u.moment name (begins kind) (begun (state_of v.now) job)) v.actions (state_of w.now) w.actions
        happened =
            subst (λ m. Adds (machine.Happens m name (begins kind) (begun (state_of v.now) job)) v.actions (state_of w.now) w.actions) (first.moment ∙ at.keeps.moment)
            (subst (λ e. Adds (machine.Happens b.moment name e (begun (state_of v.now) job)) v.actions (state_of w.now) w.actions) is_event
            (subst (λ s. Adds (machine.Happens b.moment name event s) v.actions (state_of w.now) w.actions) is_begun
            (subst (λ l. Adds (machine.Happens b.moment name event (state_of b.now)) l (state_of w.now) w.actions) same (happens name at_begun))))

-- ---- deadlines fire, one after another

-- the work has fired this far from its beginning, with those deadlines that are left
pub record Firing (u v : WorkView) (all left : Timers) : Type 0 where
  pub keeps : Keeps u v
  pub whole : (t : State) (after : List Action) → Adds (Fires u.moment left (state_of v.now)) v.actions t after → Adds (Fires u.moment all (state_of u.now)) u.actions t after

pub firing_first : (u : WorkView) (timers : Timers) → Firing u u timers timers
firing_first u timers = record { keeps = keeps_all u; whole = λ t after later. later }

module _ (u v : WorkView) (all left : Timers) (at : Firing u v all left) where
  pub firing_done : NoneIsDue u.moment left → Adds (Fires u.moment all (state_of u.now)) u.actions (state_of v.now) v.actions
  firing_done none = at.whole (state_of v.now) v.actions (none_fires u.moment left (state_of v.now) v.actions none)

  pub firing_more : (w : WorkView) (less : Timers) (deadline : ℕ) (unit : List ℕ) → IsDue u.moment left deadline unit → less ≡ map.remove left unit → Keeps v w
      → Goes (FiresOne v.moment deadline unit (state_of v.now)) v w → Firing u w all less
  firing_more w less deadline unit due is keeps fires = record {
    keeps = keeps_then u v w at.keeps keeps;
    whole = λ t after later.
        at.whole t after
        (fires_more u.moment left deadline unit (state_of v.now) (state_of w.now) t v.actions w.actions after due
        (subst (λ m. Adds (FiresOne m deadline unit (state_of v.now)) v.actions (state_of w.now) w.actions) at.keeps.moment fires)
        (subst (λ l. Adds (Fires u.moment l (state_of w.now)) w.actions t after) is later));
  }

-- ---- failures are forgotten, one after another

pub resets_on : (u v w : WorkView) (xs ys all : List (List ℕ)) → all ≡ xs ++ ys → Keeps u v → Goes (AreReset u.moment xs (state_of u.now)) u v
    → Goes (AreReset v.moment ys (state_of v.now)) v w → Goes (AreReset u.moment all (state_of u.now)) u w
resets_on u v w xs ys all is keeps first later =
    resets_more u.moment xs ys all (state_of u.now) (state_of v.now) (state_of w.now) u.actions v.actions w.actions is first
    (subst (λ m. Adds (AreReset m ys (state_of v.now)) v.actions (state_of w.now) w.actions) keeps.moment later)
