use Rattle.std.proofs.Common.{[], ◌≡◌, map, take}
use Rattle.std.specs.List.{flat_map}
use Rattle.um_model.specs.Readings.{environment_reading}
use Rattle.std.specs.Result.{result_unwrap_or}
use Rattle.um_words.specs.Environment.{variables_of}
use Rattle.um_unit.proofs.lists.environment_of.Given as goal

-- the variables of the values so far
abbrev pub invariant-loop-value : goal.invariant-loop-value
invariant-loop-value l = variables_of l.variables.items ≡ flat_map (λ value. result_unwrap_or (environment_reading l.unit value) []) (map (λ v. v.now) (take l.value-index l.value-items))
