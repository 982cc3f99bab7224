use Rattle.std.proofs.Common.{◌≡◌, map, drop}
use Rattle.um_service.specs.Variables.{variable_text}
use Rattle.um_words.specs.Environment.{variables_of}
use Rattle.um_words.specs.Rooms.{left}
use Rattle.um_service.proofs.starting.room_after_environment.Given as goal

-- the room after all variables is the room that is free now after those that are left
abbrev pub invariant-loop-variable : goal.invariant-loop-variable
invariant-loop-variable l = left l.free (map variable_text (variables_of (drop l.variable-index l.environment))) ≡ left l.fn.room (map variable_text (variables_of l.environment))
