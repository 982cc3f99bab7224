-- The calls on the manager's children, with their answers, as one history, the oldest first.
-- No manual page has this: processes under numbers are the project's own (docs/FORMATS.md, "The files of a process").
-- Receipts, children and the running manager depend on this file.
use Rattle.std.specs.Prelude.{◌∷◌, [], List, ℕ, Bool, false, Option, flat_map}
use Rattle.um_model.specs.Service.{Action, SpawnProcess, SendSignal}
use Rattle.um_model.specs.declared.children.Fate.{Fate}
use Rattle.um_model.specs.declared.service.Signal.{Signal}

-- a process to start: its number, its words and its environment
pub record Spawn : Type 0 where
  pub number : ℕ
  pub words : List (List ℕ)
  pub environment : List (List ℕ)

-- a start as an action
abbrev pub spawn_action : Spawn → Action
spawn_action spawn = SpawnProcess spawn.number spawn.words spawn.environment

-- A call: a start, with whether it was answered Ok and whether its number starts; a signal; a query for a fate, with the fate reported;
-- a number whose records were dropped; or the numbers whose records stayed when those of all others that have ended were dropped, with
-- the next number: no process of that number or a later one was ever started.
pub data Call : Type 0 where
  Spawned : (spawn : Spawn) (is_taken starts : Bool) → Call
  Signalled : (number : ℕ) (signal : Signal) → Call
  Asked : (number : ℕ) (claim : Bool) (told : Option Fate) → Call
  Forgot : (number : ℕ) → Call
  ForgotOthers : (live : List ℕ) (next : ℕ) → Call

-- the order that a call gives, if any
abbrev pub orders_in : Call → List Action
orders_in (Spawned spawn is_taken starts) = spawn_action spawn ∷ []
orders_in (Signalled number signal) = SendSignal number signal ∷ []
orders_in other = []

-- the orders given by all calls, whatever their answers
abbrev pub orders : List Call → List Action
orders calls = flat_map orders_in calls

-- the number whose start a call refused, if any
abbrev pub refusals_in : Call → List ℕ
refusals_in (Spawned spawn false starts) = spawn.number ∷ []
refusals_in other = []

-- the numbers whose start was refused
abbrev pub refused : List Call → List ℕ
refused calls = flat_map refusals_in calls

-- a query for a fate: its number, whether it is a claim, and the fate reported, or nothing if the call failed
pub record Tale : Type 0 where
  pub number : ℕ
  pub claim : Bool
  pub told : Option Fate

-- the query for a fate in a call, if any
abbrev pub tales_in : Call → List Tale
tales_in (Asked number claim told) = record { number = number; claim = claim; told = told } ∷ []
tales_in other = []

-- all queries for fates
abbrev pub tales : List Call → List Tale
tales calls = flat_map tales_in calls
