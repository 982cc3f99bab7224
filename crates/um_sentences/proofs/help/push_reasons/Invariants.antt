use Rattle.std.proofs.Common.{◌≡◌, ◌++◌, flat_map, map, take, string_bytes}
use Rattle.um_sentences.specs.Sentences.{reason_line}
use Rattle.um_sentences.proofs.help.push_reasons.Given as goal

-- the lines of the reasons so far follow the text
abbrev pub invariant-loop-word : goal.invariant-loop-word
invariant-loop-word l = string_bytes l.text ≡ string_bytes l.initial.text ++ flat_map reason_line (map (λ k. (k.0.now, k.1)) (take l.word-index l.known))
