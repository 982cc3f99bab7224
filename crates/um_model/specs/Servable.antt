-- When a store of `size` bytes may hold a state, and when nothing is held in a state; the weight of a state, and when one weighs no more
-- than another.
-- Follows no manual page: the store and its limits are this project's own.
-- The engine, the keeper and the law of steps in proofs/ServableLaws depend on this file.
use Rattle.std.specs.Prelude.{◌≡◌, ◌≤◌, ℕ}
use Rattle.std.specs.FinMap as map
use Rattle.um_model.specs.Dependencies.{CountsFor}
use Rattle.um_model.specs.Machine.{State, IsHeld, IsCrowded, IsBefore, IsTooHeavy}
use Rattle.um_model.specs.Plan.{AreFree}
use Rattle.um_model.specs.Refusals.{Refused}
use Rattle.um_model.specs.Weight.{weight_of}

-- both trees are empty, and nothing is held of any unit: so it is with the state of a new store
pub record IsBlank (s : State) : Type 0 where
  pub tree : s.tree ≡ map.empty
  pub loaded : s.loaded.entries ≡ map.empty
  pub units : s.units ≡ map.empty
  pub pending : s.pending ≡ map.empty

-- no more units are known than may be, by the loaded tree and by it without its entries under `run/`
abbrev pub IsFew : State → Type 0
IsFew s = (r : Refused) → ¬ IsCrowded s.loaded (IsHeld s) r

-- the pending jobs don't wait for one another in a circle
abbrev pub IsFree : State → Type 0
IsFree s = AreFree (IsBefore s.loaded) s.pending

-- a store of `size` bytes may hold the state: it isn't too heavy, not too many units are known, and no pending jobs wait in a circle
pub record IsServable (size : ℕ) (s : State) : Type 0 where
  pub light : ¬ IsTooHeavy size s
  pub few : IsFew s
  pub free : IsFree s

-- the state weighs `weight` bytes, by the units that count
pub record Weighs (s : State) (weight : ℕ) : Type 0 where
  pub units : ℕ
  pub count : CountsFor s.loaded (IsHeld s) units
  pub is : weight ≡ weight_of s.tree s.loaded.entries units

-- a state weighs no more than another
abbrev pub WeighsNoMore : State → State → Type 0
WeighsNoMore t s = (m n : ℕ) → CountsFor t.loaded (IsHeld t) m → CountsFor s.loaded (IsHeld s) n
    → weight_of t.tree t.loaded.entries m ≤ weight_of s.tree s.loaded.entries n
