-- What an engine serves, how a planned step and the way back change it, and what the helpers do, with the actions before and after.
use Rattle.std.specs.Prelude.{◌≡◌, ◌↔◌, ℕ, ◌<◌, ◌≤◌, Bool, true, false, List, [], ◌++◌, Option, Some, None, IfSome, map, vec_len}
use Rattle.std.specs.FinMap as finite
use Rattle.um_falling.specs.Carrying.{Adds}
use Rattle.um_model.specs.Dependencies.{IsKnown}
use Rattle.um_model.specs.Machine as model
use Rattle.um_model.specs.Refusals.{Refused, no_room}
use Rattle.um_model.specs.Service.{Action}
use Rattle.um_model.specs.Standing.{Standing}
use Rattle.um_model.specs.Timers.{Timers, IsDueFirst}
use Rattle.um_model.specs.declared.service.SubState.{SubState}
use Rattle.um_model.specs.declared.service.SubState.TheVariants.{AutoRestart}
use Rattle.um_model.specs.declared.transition.UnitEvent.{UnitEvent}
use Rattle.um_model.specs.declared.profile.Profile.{Profile}
use Rattle.um_state.specs.Deltas.{delta_after, delta_before}
use Rattle.um_state.specs.View.{state_of, reply_of, action_of}
use Rattle.um_state.specs.Working.{CountsDiffering}
use Rattle.um_state.specs.declared.delta.Delta.{Delta}
use Rattle.um_engine.specs.Exact.{IsExact, IsExactIfFew}
use Rattle.um_engine.specs.Served.{ServedView, standing_of}
use Rattle.um_engine.specs.declared.engine.Change.{Change}
use Rattle.um_engine.specs.declared.engine.Change.TheVariants.{Nothing, Rows, Tables}
use Rattle.um_engine.specs.declared.engine.Engine.{Engine}
use Rattle.um_engine.specs.declared.engine.Next.{Next}
use Rattle.um_engine.specs.declared.engine.Back.{Back}
use Rattle.um_engine.specs.declared.between.Trees.{Trees}
use Rattle.um_engine.specs.declared.between.Trees.TheVariants.{Stay, Differ, Untold}

-- the state of an engine
abbrev pub state_in : Engine → model.State
state_in e = e.served.state

-- an engine's standing: its state, and the names that have a number in it
abbrev pub standing_in : Engine → Standing
standing_in e = standing_of e.served

-- the size of its store, in bytes
abbrev pub size_in : Engine → ℕ
size_in e = e.size

-- the standing after a change
abbrev pub changed : Change → Standing → Standing
changed Nothing s = s
changed (Rows delta) s = delta_after delta s
changed (Tables given rows) s = standing_of given

-- the standing after a change that leads back
abbrev pub unchanged : Change → Standing → Standing
unchanged Nothing s = s
unchanged (Rows delta) s = delta_before delta s
unchanged (Tables given rows) s = standing_of given

-- it changes something
abbrev pub is_change : Change → Bool
is_change Nothing = false
is_change (Rows delta) = true
is_change (Tables given rows) = true

-- the number of units whose held state it changes, if it reports that
abbrev pub rows_of : Change → Option ℕ
rows_of Nothing = Some 0
rows_of (Rows delta) = Some (vec_len delta.rows)
rows_of (Tables given rows) = rows

-- the standing after a planned step that is taken
abbrev pub state_after : Next → Standing → Standing
state_after n s = changed n.change s

-- its reply
abbrev pub reply_in : Next → model.Reply
reply_in n = reply_of n.reply

-- its actions
abbrev pub actions_in : Next → List Action
actions_in n = map action_of n.actions.items

-- it has an effect, so that it must be recorded
abbrev pub has_effect_in : Next → Bool
has_effect_in n = is_change n.change

-- the standing before a step that was taken
abbrev pub state_before : Back → Standing → Standing
state_before b s = unchanged b.change s

-- the served value of an engine: its state, and its `Known`
abbrev pub served_in : Engine → ServedView
served_in e = e.served

-- the served value after a change
abbrev pub served_by : Change → ServedView → ServedView
served_by Nothing v = v
served_by (Rows delta) v = record v { state = state_of (delta_after delta (standing_of v)) }
served_by (Tables given rows) v = given

-- the served value before it, by a change that leads back
abbrev pub served_back : Change → ServedView → ServedView
served_back Nothing v = v
served_back (Rows delta) v = record v { state = state_of (delta_before delta (standing_of v)) }
served_back (Tables given rows) v = given

-- the served value after a planned step that is taken
abbrev pub served_after : Next → ServedView → ServedView
served_after n v = served_by n.change v

-- the served value before a step that was taken
abbrev pub served_before : Back → ServedView → ServedView
served_before b v = served_back b.change v

-- the change leaves `Known` exact, unless too many units are known after it
abbrev pub KeepsExact : ServedView → Change → Type 0
KeepsExact v change = IsExact v → IsExactIfFew (served_by change v)

-- the number of units whose state or pending jobs a planned step changes, if it reports that
abbrev pub rows_in : Next → Option ℕ
rows_in n = rows_of n.change

-- the trees stay, and the states hold different things of exactly this number of units
abbrev pub DiffersInRows : model.State → model.State → ℕ → Type 0
DiffersInRows s t n = (t.tree ≡ s.tree) × (t.loaded ≡ s.loaded) × CountsDiffering s t n

-- the tree in hand, the loaded tree and the boot's id are the same
pub record HasSameTrees (s t : model.State) : Type 0 where
  pub tree : t.tree ≡ s.tree
  pub loaded : t.loaded ≡ s.loaded
  pub boot : t.boot ≡ s.boot

-- the statement of `Trees` about the trees after a command is true
abbrev pub AreTrees : Trees → model.State → model.State → Type 0
AreTrees Stay s t = HasSameTrees s t
AreTrees Differ s t = ¬ (t.tree ≡ s.tree)
AreTrees Untold s t = Unit {0}

-- the same units are known: those of the loaded tree, and all of which the state holds anything
abbrev pub KnowsTheSame : model.State → model.State → Type 0
KnowsTheSame s t = (unit : List ℕ) → IsKnown s.loaded (model.IsHeld s) unit ↔ IsKnown t.loaded (model.IsHeld t) unit

-- the trees, the boot's id and the known units are the same
pub record HasSameTables (s t : model.State) : Type 0 where
  pub trees : HasSameTrees s t
  pub known : KnowsTheSame s t

-- all is the same but how units stand, their pending jobs, the moment and the next process number; the numbered names are the same too
pub record HasSameTreesAndNames (s t : Standing) : Type 0 where
  pub tree : (state_of t).tree ≡ (state_of s).tree
  pub loaded : (state_of t).loaded ≡ (state_of s).loaded
  pub boot : (state_of t).boot ≡ (state_of s).boot
  pub names : t.names ≡ s.names

-- an event without effect; a command that isn't refused always has one
abbrev pub LacksEffect : ℕ → model.State → model.Event → Type 0
LacksEffect t s (model.Commanded command) = ⊥
LacksEffect t s (model.Happened happening) = model.HasNoEffect t s happening

-- a unit in this sub state waits for its restart
abbrev pub waits_to_restart : SubState → Bool
waits_to_restart AutoRestart = true
waits_to_restart other = false

-- the deadline that is due first, and not after the moment
abbrev pub IsDue : ℕ → Timers → ℕ → List ℕ → Type 0
IsDue t timers deadline unit = IsDueFirst timers deadline unit × (deadline ≤ t)

abbrev pub NoneIsDue : ℕ → Timers → Type 0
NoneIsDue t timers = (deadline : ℕ) (unit : List ℕ) → finite.get timers unit ≡ Some deadline → t < deadline

-- something happens to a unit, and jobs begin
pub record FollowsUpon (t : ℕ) (s : model.State) (unit : List ℕ) (event : UnitEvent) (actions : List Action) (v : model.State) : Type 0 where
  pub between : model.State
  pub first : List Action
  pub more : List Action
  pub happens : model.Happens t unit event s first between
  pub settles : model.Settles t between more v
  pub all : actions ≡ first ++ more

-- the same units, jobs and next number
pub record IsSame (s v : model.State) : Type 0 where
  pub units : s.units ≡ v.units
  pub pending : s.pending ≡ v.pending
  pub next : s.next ≡ v.next

-- the relation leads to a state, and this is that state with its clock at the moment
pub record LeadsTo (Relation : List Action → model.State → Type 0) (t : ℕ) (actions : List Action) (v : model.State) : Type 0 where
  pub state : model.State
  pub leads : Relation actions state
  pub is : v ≡ record state { clock = t }

-- the rows of a delta lead there, and the delta has just the rows that differ
pub record DoesRows (Relation : List Action → model.State → Type 0) (t : ℕ) (s : Standing) (delta : Delta) (actions : List Action) : Type 0 where
  pub leads : LeadsTo Relation t actions (state_of (delta_after delta s))
  pub rows : DiffersInRows (state_of s) (state_of (delta_after delta s)) (vec_len delta.rows)

-- the change has an effect, and reports for how many units the held state differs, unless a tree, the boot's id or the known units differ
pub record TellsRows (s : Standing) (change : Change) : Type 0 where
  pub effect : is_change change ≡ true
  pub rows : IfSome (rows_of change) (DiffersInRows (state_of s) (state_of (changed change s)))
  pub tables : rows_of change ≡ None → ¬ HasSameTables (state_of s) (state_of (changed change s))

-- a change leads there, and reports its rows
pub record DoesBy (Relation : List Action → model.State → Type 0) (t : ℕ) (s : Standing) (change : Change) (actions : List Action) : Type 0 where
  pub leads : LeadsTo Relation t actions (state_of (changed change s))
  pub tells : TellsRows s change

-- the change leads to the state in which jobs have begun after the actions `before`, at the moment, and `actions` are all actions by then
pub record Settled (size t : ℕ) (s : Standing) (u : model.State) (before : List Action) (change : Change) (actions : List Action) : Type 0 where
  pub leads : LeadsTo (λ all v. Adds (model.Settles t u) before v all × (¬ model.IsTooHeavy size v)) t actions (state_of (changed change s))
  pub tells : TellsRows s change

-- the state in which jobs have begun after these actions is too heavy
pub record SettlesTooHeavy (size t : ℕ) (u : model.State) (before : List Action) (r : Refused) : Type 0 where
  pub actions : List Action
  pub state : model.State
  pub settles : Adds (model.Settles t u) before state actions
  pub heavy : model.IsTooHeavy size state
  pub refusal : r ≡ no_room

-- a step that obeys a command of an input of this profile
pub record Obeys (profile : Profile) (size t : ℕ) (s : Standing) (command : model.Command) (n : Next) : Type 0 where
  pub state : model.State
  pub takes : model.TakesEffect profile t (state_of s) (model.Commanded command) (actions_in n) state
  pub is : state_of (state_after n s) ≡ record state { clock = t }
  pub reply : reply_in n ≡ model.reply_after (model.Commanded command) (state_of s).tree state.tree
  pub room : ¬ model.IsTooHeavy size state
  pub tells : TellsRows s n.change

-- the change by a happening: none if it has no effect; otherwise it leads to the state that follows, at the moment
abbrev pub MetBy : ℕ → Standing → model.Happening → Change → List Action → Type 0
MetBy t s happening Nothing actions = model.HasNoEffect t (state_of s) happening × (actions ≡ [])
MetBy t s happening (Rows delta) actions =
    (¬ model.HasNoEffect t (state_of s) happening) × DoesBy (model.Follows t (state_of s) happening) t s (Rows delta) actions
MetBy t s happening (Tables given rows) actions =
    (¬ model.HasNoEffect t (state_of s) happening) × DoesBy (model.Follows t (state_of s) happening) t s (Tables given rows) actions
