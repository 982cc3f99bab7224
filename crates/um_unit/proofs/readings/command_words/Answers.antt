use Rattle.std.proofs.Common.{◌≡◌, ◌∷◌, map, string_bytes, ap, ◌∙◌}
use Rattle.std.proofs.lemmas.List.{take_all}
use Rattle.um_model.specs.Readings.{text_reading, read_if}
use Rattle.um_model.specs.Results.{◌and_then◌}
use Rattle.um_model.specs.Commands.{is_executable_word}
use Rattle.um_unit.specs.Readings.{read_as}
use Rattle.um_unit.proofs.ReadingLemmas.{read_all}
use Rattle.um_unit.proofs.readings.command_words.Goals as goal

pub returns : goal.returns
returns c =
    let unit = c.args.unit.now in
    let front = text_reading unit c.args.first.now and_then read_if is_executable_word in
    let seen : map (read_as string_bytes) c.loop-word.readings.items ≡ front ∷ map (text_reading unit) (map string_bytes c.args.others.now) =
    c.loop-word.invariant ∙ ap (λ words. front ∷ map (text_reading unit) (map string_bytes words)) (take_all _ c.args.others.now c.loop-word-test.false) in
    read_all string_bytes (λ texts. texts.items) c.in_ok-read.read c.loop-word.readings.items _ c.in_ok-read.ensures seen
