use Rattle.std.proofs.Common.{◌≡◌, ◌++◌, map, take, string_bytes}
use Rattle.um_words.proofs.substitution.push_all.Given as goal

-- those so far follow the words that were there
abbrev pub invariant-loop-word : goal.invariant-loop-word
invariant-loop-word l = map string_bytes l.words.items ≡ map string_bytes l.initial.words.items ++ map string_bytes (take l.word-index l.more)
