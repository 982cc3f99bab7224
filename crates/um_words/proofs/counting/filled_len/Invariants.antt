use Rattle.std.proofs.Common.{◌≡◌, ◌+◌, ◌-◌, ◌^◌, List, length}
use denote.Text.{Utf8}
use denote.Shadow.{shadow}
use Rattle.std.specs.Prelude.{min}
use Rattle.um_model.specs.Substitution.{Variable}
use Rattle.um_words.specs.Substituted.{filled}
use Rattle.um_words.specs.Values.{Holds}
use Rattle.um_words.proofs.counting.filled_len.Given as goal

-- the count, plus the length of the rest once it is filled in, is the length of the word
abbrev pub invariant-loop-before : goal.invariant-loop-before
invariant-loop-before l = record {
  utf8 : shadow (Utf8 l.rest);
  told : (environment : List Variable) → Holds environment l.values → min (l.length + length (filled environment l.rest)) (2 ^ 64 - 1) ≡ min (length (filled environment l.word)) (2 ^ 64 - 1);
}

abbrev pub decreases-loop-before : goal.decreases-loop-before
decreases-loop-before l = length l.rest
