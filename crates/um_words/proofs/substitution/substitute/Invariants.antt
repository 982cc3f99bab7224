use Rattle.std.proofs.Common.{◌≡◌, ◌++◌, map, take, string_bytes}
use Rattle.std.specs.List.{flat_map}
use Rattle.um_words.specs.Environment.{variables_of}
use Rattle.um_words.specs.Substituted.{becomes}
use Rattle.um_words.proofs.substitution.substitute.Given as goal

-- the first word is followed by the results of the words so far
abbrev pub invariant-loop-word : goal.invariant-loop-word
invariant-loop-word l =
    map string_bytes l.substituted.items
    ≡ map string_bytes l.initial.substituted.items ++ flat_map (becomes (variables_of l.environment)) (map string_bytes (take l.word-index l.others))
