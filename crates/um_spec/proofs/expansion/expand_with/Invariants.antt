use Rattle.std.proofs.Common.{◌≡◌, length, option_copied, string_bytes}
use denote.Text.{Utf8}
use denote.Shadow.{shadow}
use Rattle.um_model.specs.Specifiers.{specifier_front}
use Rattle.um_model.proofs.PiecesLaws.{prefixed, reading}
use Rattle.um_spec.proofs.expansion.expand_with.Given as goal

-- the text so far, followed by the reading of the rest, is the reading of the text
abbrev pub invariant-loop-before : goal.invariant-loop-before
invariant-loop-before l = record {
  utf8 : shadow (Utf8 l.rest);
  told : prefixed (string_bytes l.expanded) (reading (specifier_front l.unit (option_copied l.unescaped)) l.rest) ≡ reading (specifier_front l.unit (option_copied l.unescaped)) l.text;
}

abbrev pub decreases-loop-before : goal.decreases-loop-before
decreases-loop-before l = length l.rest
