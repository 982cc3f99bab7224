use Rattle.std.proofs.Common.{[], ◌≡◌, map, take}
use Rattle.std.specs.List.{flat_map}
use Rattle.um_model.specs.Readings.{commands_reading}
use Rattle.std.specs.Result.{result_unwrap_or}
use Rattle.um_words.specs.Commands.{commands_seen}
use Rattle.um_unit.proofs.lists.commands_of.Given as goal

-- the commands of the values so far
abbrev pub invariant-loop-value : goal.invariant-loop-value
invariant-loop-value l = commands_seen l.commands.items ≡ flat_map (λ value. result_unwrap_or (commands_reading l.unit value) []) (map (λ v. v.now) (take l.value-index l.value-items))
