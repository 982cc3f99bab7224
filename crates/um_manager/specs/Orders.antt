-- The actions that receipts hand out, carried out.
-- No manual page has this: processes under numbers are the project's own.
-- The turn of the manager and its opening stand on this file.
use Rattle.std.specs.Prelude.{◌≡◌, ◌||◌, ℕ, List, [], ◌++◌, map, Bool, true, false, IsTrue}
use Rattle.std.specs.List.{list_any}
use Rattle.um_children.specs.History.{lets_any, Spares}
use Rattle.um_model.specs.Children.{Call, orders, tales, refused}
use Rattle.um_model.specs.Service.{ByUnit, Action, SendSignal}
use Rattle.um_model.specs.declared.service.Signal.{Signal}
use Rattle.um_model.specs.declared.service.UnitState.{UnitState}
use Rattle.um_fates.specs.Live.{has, is_live, HasFewLive}

-- Exactly these orders were given then, no fate was queried, and no number was forgotten; of the live numbers those
-- whose start was refused are marked beside the others.
pub record Grew (units : ByUnit UnitState) (old new : List Call) (marks marked : List ℕ) (actions : List Action) : Type 0 where
  pub given : List Call
  pub past_is : new ≡ old ++ given
  pub orders_are : orders given ≡ actions
  pub no_tale : tales given ≡ []
  pub kept : list_any lets_any given ≡ false
  pub marks_are : HasFewLive units → (n : ℕ) → is_live units n ≡ true → has n marked ≡ (has n marks || has n (refused given))

-- the same of children that are honest, and whose history is whole
abbrev pub Carries : Bool → Bool → ByUnit UnitState → List Call → List Call → List ℕ → List ℕ → List Action → Type 0
Carries honest whole units old new marks marked actions = IsTrue honest → IsTrue whole → Grew units old new marks marked actions

-- Numbers that aren't live were forgotten, and no other call was made.
pub record LetGo (units : ByUnit UnitState) (old new : List Call) : Type 0 where
  pub given : List Call
  pub past_is : new ≡ old ++ given
  pub no_order : orders given ≡ []
  pub no_tale : tales given ≡ []
  pub no_refusal : refused given ≡ []
  pub spared : Spares (is_live units) given

-- this signal to each of these numbers
abbrev pub signals : Signal → List ℕ → List Action
signals signal numbers = map (λ n. SendSignal n signal) numbers
