use Rattle.std.proofs.Common.{◌≡◌, ◌++◌, flat_map, map, take, string_bytes}
use Rattle.um_sentences.specs.Sentences.{key_line}
use Rattle.um_sentences.proofs.help.push_keys.Given as goal

-- the lines of the keys so far follow the text
abbrev pub invariant-loop-key : goal.invariant-loop-key
invariant-loop-key l =
    string_bytes l.text ≡ string_bytes l.initial.text ++ flat_map (key_line l.more) (map (λ k. (k.0.now, k.1.now)) (take l.key-index l.known))
