-- A turn of the manager.
-- No manual page has this: it is the project's own (docs/ARCHITECTURE.md, "The way of one input").
-- The manager's calls stand on this file.
use Rattle.std.specs.Prelude.{◌≡◌, ◌≢◌, ◌⊎◌, ◌↔◌, ◌+◌, ◌≤◌, ◌||◌, ℕ, List, [], ◌∷◌, ◌++◌, length, drop, map, flat_map, replicate, Bool, true, false, IsTrue, Option, Result, Ok, Err}
use Rattle.std.specs.List.{list_any}
use Rattle.um_children.specs.History.{lets_any, Spares}
use Rattle.um_keeper.specs.Answering.{Answer, AreAnswered, FellBack, HasFault, AreSpentAsMeant, TakesCalls, BeginsOne, all_asked, taken}
use Rattle.um_keeper.specs.Keepers.{state_in}
use Rattle.um_keeper.specs.Keeping.{IsBegun}
use Rattle.um_keeper.specs.declared.keeper.Keeper.{Keeper}
use Rattle.um_model.specs.Children.{Call, Tale, orders, tales, refused}
use Rattle.um_model.specs.Service.{ByUnit, Action}
use Rattle.um_model.specs.declared.service.UnitState.{UnitState}
use Rattle.um_model.specs.Disk.{Past, During, Images, onto}
use Rattle.um_model.specs.Disk as disk
use Rattle.um_model.specs.Machine.{State, Input, Reply}
use Rattle.um_model.specs.Numbers.{AreNew, started_numbers}
use Rattle.um_model.specs.Sessions.{Session}
use Rattle.um_model.specs.Stands.{IsStoreOf}
use Rattle.um_proto.specs.declared.request.Request.{Request}
use Rattle.um_wire.specs.declared.refusal.Refusal.{Refusal}
use Rattle.um_wire.specs.declared.refusal.Refusal.TheVariants.{NoMemory, Device, Reopen}
use Rattle.um_manager.specs.Connections.{AllSame, CutsAll, inputs_asked, due_of}
use Rattle.um_fates.specs.Fates.{AreTalesOf, asks_for, inputs_of_tale, unexecuted, tick_at}
use Rattle.um_fates.specs.Live.{has, is_live, AreLive}
use Rattle.um_manager.specs.Orders.{Grew}
use Rattle.um_manager.specs.Places.{Place, LogEnd, log_in, IsFreeFrom}
use Rattle.um_manager.specs.Replies.{reply_in, PaysAll}
use Rattle.um_manager.specs.declared.pieces.Piece.{Piece}

-- the disk at some moment of the calls that led from old to new
pub record IsMeanwhile (old new at : Past) : Type 0 where
  pub calls : List disk.Call
  pub later : List disk.Call
  pub at_is : at ≡ onto calls old
  pub new_is : new ≡ onto later at

-- a manager at a moment: its state, the children's calls, the numbers whose fate is queried with a claim, the sessions,
-- the disk's calls, and where the next record goes, with the count of those calls
pub record Now : Type 0 where
  pub state : State
  pub past : List Call
  pub marks : List ℕ
  pub sessions : List Session
  pub disk : Past
  pub log : LogEnd

abbrev pub now : State → List Call → List ℕ → List Session → Past → LogEnd → Now
now state past marks sessions disk log = record { state = state; past = past; marks = marks; sessions = sessions; disk = disk; log = log }

-- the same over a keeper
abbrev pub now_in : {D : Type 0} {g : _} → Keeper D g → List Call → List ℕ → List Session → Past → Now
now_in k past marks sessions disk = now (state_in k) past marks sessions disk (log_in k)

-- the inputs that stand before the requests: those of the fates reported, and a tick
abbrev pub firsts : ℕ → List Tale → List Input
firsts moment told = flat_map (inputs_of_tale unexecuted moment) told ++ tick_at moment ∷ []

-- The answers of the store to a list of inputs, and the state after them.
pub data Answers (place : Place) (s : State) (inputs : List Input) (answers : List Answer) (t : State) : Type 0 where
  -- to one input after another
  each : AreAnswered place.size s inputs answers t → Answers place s inputs answers t
  -- a call on the disk failed meanwhile
  fell : FellBack place.size s inputs answers t → Answers place s inputs answers t
  -- one failed before, and each is E17
  reopen : place.trusted ≡ false → answers ≡ replicate (length inputs) (Err Reopen) → t ≡ s → Answers place s inputs answers t

-- The result of the offer by its answers: at Ok they are to one input after another; it is E16 exactly if an answer is;
-- and it is another refusal only if all answers are.
pub record Tells (store : Result Unit Refusal) (size : ℕ) (s : State) (inputs : List Input) (answers : List Answer) (t : State) : Type 0 where
  pub ok : store ≡ Ok tt → AreAnswered size s inputs answers t
  pub device : (store ≡ Err Device) ↔ HasFault answers
  pub other : (e : Refusal) → store ≡ Err e → e ≢ Device → (answers ≡ replicate (length inputs) (Err e)) × (t ≡ s)

-- the images that a crash leaves while inputs are offered: each is a store of the state after a beginning of those that
-- were taken
abbrev pub Leaves : Place → State → List Input → List Answer → Past → Past → Type 0
Leaves place s inputs answers old new = During old new (IsBegun place.layout s (taken inputs answers))

-- E20 turns one of these inputs away only if the log's generation is the last, and its record has no room after those
-- before it
abbrev pub AreSpent : Place → State → List Input → List Answer → LogEnd → LogEnd → Type 0
AreSpent place s inputs answers old new = (from : ℕ) → IsFreeFrom place.layout old from
    → AreSpentAsMeant place.layout new.generation place.size from s inputs answers

-- Where no call on the disk failed there were few of them: the sectors of the inputs' records, a sync, and a snapshot and a sync for each generation by
-- which the log rose.
abbrev pub MakesFewCalls : Place → State → List Input → List Answer → State → LogEnd → LogEnd → Type 0
MakesFewCalls place s inputs answers t old new =
    TakesCalls place.layout old.next old.generation new.generation old.calls new.calls place.size s inputs answers t

-- Where no snapshot was under way and the log rose by one generation at most there were fewer: the sectors of the inputs' records, and two syncs.
abbrev pub MakesFewerCalls : Place → State → List Input → List Answer → State → LogEnd → LogEnd → Type 0
MakesFewerCalls place s inputs answers t old new =
    old.left ≡ 0 → new.generation ≤ old.generation + 1 → BeginsOne old.calls new.calls place.size s inputs answers t

-- the most calls that a turn makes after the answer of its store: 16 sectors of a snapshot under way, a sync, its
-- header, and a sync
abbrev pub step_calls : ℕ
step_calls = 19

-- the log before a turn, where these are counted beside the others
abbrev pub with_step : LogEnd → LogEnd
with_step log = record log { calls = log.calls + step_calls }

-- each image is a store of the state
abbrev pub Holds : Place → State → Past → Type 0
Holds place s disk = Images disk (λ image. IsStoreOf place.layout image s)

-- The inputs were offered, the actions of the receipts carried out, and the replies noted.
pub record Submitted (place : Place) (store : Result Unit Refusal) (inputs : List Input) (replies : List Reply) (honest whole : Bool) (a b : Now) : Type 0 where
  pub answers : List Answer
  pub answered : Answers place a.state inputs answers b.state
  pub tells : Tells store place.size a.state inputs answers b.state
  pub order : AreNew a.state.next b.state.next (started_numbers (all_asked answers))
  pub spent : AreSpent place a.state inputs answers a.log b.log
  pub few : store ≡ Ok tt → MakesFewCalls place a.state inputs answers b.state a.log b.log
  pub fewer : store ≡ Ok tt → MakesFewerCalls place a.state inputs answers b.state a.log b.log
  pub replies_are : replies ≡ map reply_in answers
  pub grew : IsTrue honest → IsTrue whole → Grew b.state.units a.past b.past a.marks b.marks (all_asked answers)
  pub left : IsTrue place.trusted → Leaves place a.state inputs answers a.disk b.disk
  pub stored : IsTrue place.trusted → store ≡ Ok tt → Holds place b.state b.disk

-- of two results the first that is a refusal
abbrev pub first_refusal : Result Unit Refusal → Result Unit Refusal → Result Unit Refusal
first_refusal (Ok done) behind = behind
first_refusal (Err e) behind = Err e

-- The writes of a turn after its store's Ok: the next sectors of a snapshot under way, while each image is a store of
-- the state, which stays, as does the next record's place; a fault on the disk is returned.
pub record WritesOn (place : Place) (store result : Result Unit Refusal) (a b : Now) : Type 0 where
  pub behind : Result Unit Refusal
  pub result_is : result ≡ first_refusal store behind
  pub behind_is : (behind ≡ Ok tt) ⊎ ((store ≡ Ok tt) × (behind ≡ Err Device))
  pub state : b.state ≡ a.state
  pub generation : b.log.generation ≡ a.log.generation
  pub next : b.log.next ≡ a.log.next
  pub calls : b.log.calls ≤ a.log.calls + step_calls
  pub still : (e : Refusal) → store ≡ Err e → b.disk ≡ a.disk
  pub steady : IsTrue place.trusted → store ≡ Ok tt → During a.disk b.disk (λ image. IsStoreOf place.layout image a.state)

-- The children's calls: each fate reported was queried, then these actions were ordered; no live number is forgotten,
-- none at all if the store failed, and live numbers whose start was refused are marked beside the others.
pub record Called (units : ByUnit UnitState) (store : Result Unit Refusal) (told : List Tale) (actions : List Action) (old new : List Call)
    (marks marked : List ℕ) : Type 0 where
  pub given : List Call
  pub past_is : new ≡ old ++ (map asks_for told ++ given)
  pub orders_are : orders given ≡ actions
  pub no_tale : tales given ≡ []
  pub spared : Spares (is_live units) given
  pub kept : (e : Refusal) → store ≡ Err e → list_any lets_any given ≡ false
  pub marks_are : (n : ℕ) → is_live units n ≡ true → has n marked ≡ (has n marks || has n (refused given))

-- the inputs that a turn offers: those of the fates reported, a tick, and those of the requests, in this order
abbrev pub inputs_of : ℕ → List Tale → List (Option (Result Request Refusal)) → List Input
inputs_of moment told requests = firsts moment told ++ flat_map (inputs_asked moment) requests

-- A turn. It queried the fate of each live number once, ascending, of the marked ones with a claim. It took the pieces
-- and of each connection the request of the first whole frame. It offered the inputs of the fates reported, a tick and
-- the requests, in this order, and each of them was answered, and the numbers that were started are new. Each request's
-- reply is put out for its own connection, a query's from the state after all inputs. A crash meanwhile leaves a store
-- of the state after a beginning of the inputs taken, and afterwards, if the store failed none, of all. `offered` is
-- the disk as the store had answered: if it answered Ok, each image since then is a store of the state that followed;
-- and only then something is written, of which a fault is returned. The history of children that are honest has, if it
-- is whole, exactly the calls made.
pub record Turned (place : Place) (honest whole : Bool) (result : Result Unit Refusal) (moment : ℕ) (pieces : List Piece) (a b : Now) : Type 0 where
  pub live : List ℕ
  pub are_live : AreLive a.state.units live
  pub told : List Tale
  pub of_live : AreTalesOf (λ n. has n a.marks) live told
  pub requests : List (Option (Result Request Refusal))
  pub cut : List Session
  pub cuts : CutsAll a.sessions pieces requests cut
  pub store : Result Unit Refusal
  pub behind : Result Unit Refusal
  pub result_is : result ≡ first_refusal store behind
  pub behind_is : (behind ≡ Ok tt) ⊎ ((store ≡ Ok tt) × (behind ≡ Err Device))
  pub answers : List Answer
  pub answered : Answers place a.state (inputs_of moment told requests) answers b.state
  pub tells : Tells store place.size a.state (inputs_of moment told requests) answers b.state
  pub order : AreNew a.state.next b.state.next (started_numbers (all_asked answers))
  pub spent : AreSpent place a.state (inputs_of moment told requests) answers a.log b.log
  pub few : store ≡ Ok tt → MakesFewCalls place a.state (inputs_of moment told requests) answers b.state (with_step a.log) b.log
  pub fewer : store ≡ Ok tt → MakesFewerCalls place a.state (inputs_of moment told requests) answers b.state (with_step a.log) b.log
  pub paid : PaysAll b.state (map due_of requests) (drop (length (firsts moment told)) (map reply_in answers)) cut b.sessions
  pub left : IsTrue place.trusted → Leaves place a.state (inputs_of moment told requests) answers a.disk b.disk
  pub stored : IsTrue place.trusted → store ≡ Ok tt → Holds place b.state b.disk
  pub offered : Past
  pub meanwhile : IsTrue place.trusted → IsMeanwhile a.disk b.disk offered
  pub steady : IsTrue place.trusted → store ≡ Ok tt → During offered b.disk (λ image. IsStoreOf place.layout image b.state)
  pub called : IsTrue honest → IsTrue whole → Called b.state.units store told (all_asked answers) a.past b.past a.marks b.marks

-- nothing was taken, queried or offered
pub record Untouched (a b : Now) : Type 0 where
  pub state : b.state ≡ a.state
  pub past : b.past ≡ a.past
  pub marks : b.marks ≡ a.marks
  pub sessions : AllSame a.sessions b.sessions
  pub disk : b.disk ≡ a.disk
  pub log : b.log ≡ a.log

-- a turn that finds no memory for itself is none; a refusal of the store is returned after the replies
abbrev pub Turns : Place → Result Unit Refusal → Bool → Bool → ℕ → List Piece → Now → Now → Type 0
Turns place result honest whole moment pieces a b =
    (result ≡ Err NoMemory → Untouched a b) × (result ≢ Err NoMemory → Turned place honest whole result moment pieces a b)
