use Rattle.std.proofs.Common.{◌≡◌, ◌++◌, length, map, option_map}
use denote.Text.{Utf8}
use denote.Shadow.{shadow}
use Rattle.um_model.specs.Pieces.{reading}
use Rattle.um_model.specs.Words.{piece_of_words}
use Rattle.um_words.specs.Views.{word_of}
use Rattle.um_words.proofs.splitting.spelled.Given as goal

-- the words so far, and then those of the rest, are those of the text
abbrev pub invariant-loop-first : goal.invariant-loop-first
invariant-loop-first l = record {
  utf8 : shadow (Utf8 l.rest);
  told : option_map (λ more. map word_of l.words.items ++ more) (reading (piece_of_words l.rules) l.rest) ≡ reading (piece_of_words l.rules) l.text;
}

abbrev pub decreases-loop-first : goal.decreases-loop-first
decreases-loop-first l = length l.rest
