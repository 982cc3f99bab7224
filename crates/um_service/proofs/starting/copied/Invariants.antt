use Rattle.std.proofs.Common.{◌≡◌, ◌++◌, map, drop, string_bytes}
use Rattle.um_service.proofs.starting.copied.Given as goal

-- the copies and the words that are left are all words
abbrev pub invariant-loop-word : goal.invariant-loop-word
invariant-loop-word l = map string_bytes l.copies.items ++ map string_bytes (drop l.word-index l.words) ≡ map string_bytes l.words
