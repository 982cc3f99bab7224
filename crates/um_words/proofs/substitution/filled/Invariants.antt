use Rattle.std.proofs.Common.{◌≡◌, List, length}
use denote.Text.{Utf8}
use denote.Shadow.{shadow}
use Rattle.std.specs.Prelude.{string_bytes}
use Rattle.um_model.specs.Substitution.{Variable, piece_front}
use Rattle.um_model.proofs.PiecesLaws.{prefixed, reading}
use Rattle.um_words.specs.Values.{Holds}
use Rattle.um_words.proofs.substitution.filled.Given as goal

-- the text so far, followed by the text that the rest stands for, is the text that the word stands for
abbrev pub invariant-loop-before : goal.invariant-loop-before
invariant-loop-before l = record {
  utf8 : shadow (Utf8 l.rest);
  told : (environment : List Variable) → Holds environment l.values → prefixed (string_bytes l.text) (reading (piece_front environment) l.rest) ≡ reading (piece_front environment) l.word;
}

abbrev pub decreases-loop-before : goal.decreases-loop-before
decreases-loop-before l = length l.rest
