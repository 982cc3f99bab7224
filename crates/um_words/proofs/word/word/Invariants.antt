use Rattle.std.proofs.Common.{◌≡◌, ◌<◌, ◌≤◌, length, None}
use denote.Text.{Utf8}
use denote.Shadow.{shadow}
use Rattle.std.specs.Prelude.{IfSome, string_bytes}
use Rattle.um_model.proofs.WordsLaws.{read, with_front}
use Rattle.um_words.proofs.word.word.Given as goal

-- the word so far, followed by the reading of the rest, is the reading of the text
abbrev pub invariant-loop-first : goal.invariant-loop-first
invariant-loop-first l = record {
  utf8 : shadow (Utf8 l.rest);
  ascii : IfSome l.quote (λ q. q < 128);
  within : length l.rest ≤ length l.text;
  same : length l.rest ≡ length l.text → l.rest ≡ l.text;
  told : with_front (string_bytes l.word) (read l.rules 0 l.quote l.rest) ≡ read l.rules 0 None l.text;
}

abbrev pub decreases-loop-first : goal.decreases-loop-first
decreases-loop-first l = length l.rest
