-- Which unit commands are refused if the unit is missing, and what each command demands.
-- Follows the definitions of commands: it states them as tests.
-- Commands for units stand on this file.
use Rattle.std.specs.Prelude.{◌≡◌, ℕ, Bool, true, false, List, Some}
use Rattle.um_answer.specs.Loaded.{is_found}
use Rattle.um_model.specs.Machine.{State, IsCrowded, IsHeldOr, demand_of, unit_asked}
use Rattle.um_model.specs.Refusals.{Refused}
use Rattle.um_model.specs.Service.{active_state_of, state_of_unit}
use Rattle.um_model.specs.Units.{load}
use Rattle.um_model.specs.declared.dependencies.Demand.{Demand}
use Rattle.um_model.specs.declared.commands.UnitVerb.{UnitVerb}
use Rattle.um_model.specs.declared.commands.UnitVerb.TheVariants.{Stop, TryRestart}

-- the command is for a unit that must be there already
abbrev pub wants_it_there : UnitVerb → Bool
wants_it_there Stop = true
wants_it_there TryRestart = true
wants_it_there other = false

-- the command for the requested name makes this demand on the unit, and the unit may be known beside all held units
pub record Demands (s : State) (verb : UnitVerb) (asked : List ℕ) (found : Bool) (demand : Demand) (unit : List ℕ) : Type 0 where
  pub same : unit ≡ unit_asked s asked
  pub demanded : Some demand ≡ demand_of verb (active_state_of (state_of_unit s.units unit).sub)
  pub few : (r : Refused) → ¬ IsCrowded s.loaded (IsHeldOr s unit) r
  pub finds : found ≡ is_found (load s.loaded asked)
