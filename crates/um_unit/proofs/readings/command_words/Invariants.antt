use Rattle.std.proofs.Common.{◌≡◌, ◌∷◌, map, take, string_bytes}
use Rattle.um_model.specs.Readings.{text_reading, read_if}
use Rattle.um_model.specs.Results.{◌and_then◌}
use Rattle.um_model.specs.Commands.{is_executable_word}
use Rattle.um_unit.specs.Readings.{read_as}
use Rattle.um_unit.proofs.readings.command_words.Given as goal

-- the readings of the words so far
abbrev pub invariant-loop-word : goal.invariant-loop-word
invariant-loop-word l =
    map (read_as string_bytes) l.readings.items ≡ (text_reading l.unit l.first and_then read_if is_executable_word) ∷ map (text_reading l.unit) (map string_bytes (take l.word-index l.others))
