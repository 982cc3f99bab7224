use Rattle.std.proofs.Common.{◌≡◌, map, sym, ap, ◌∙◌, option_map, string_bytes}
use Rattle.std.proofs.lemmas.List.{take_all}
use Rattle.um_unit.specs.Readings.{read_as}
use Rattle.um_unit.proofs.ReadingLemmas.{environment_by, read_all}
use Rattle.um_words.specs.Environment.{variable_of}
use Rattle.um_unit.proofs.readings.environment_reading.Goals as goal
use Rattle.um_unit.specs.Readings.{variable_reading}

pub returns : goal.returns
returns c =
    let unit = c.args.unit.now in
    let words = c.in-Some.words.items in
    let seen : map (read_as variable_of) c.loop-word.readings.items ≡ map (variable_reading unit) (map string_bytes words) =
    c.loop-word.invariant ∙ ap (λ xs. map (variable_reading unit) (map string_bytes xs)) (take_all _ c.deref-word-items.result.now c.loop-word-test.false)
    ∙ ap (λ xs. map (variable_reading unit) (map string_bytes xs)) c.deref-word-items.ensures.value in
    read_all variable_of (λ all. all.items) c.in_ok-read.read c.loop-word.readings.items _ c.in_ok-read.ensures seen
    ∙ sym (environment_by unit c.args.value.now (map string_bytes words) (sym c.in_ok-words.ensures ∙ ap (option_map (λ all. map string_bytes all.items)) c.in-Some.is))
