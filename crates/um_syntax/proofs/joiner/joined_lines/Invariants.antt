use Rattle.std.proofs.Common.{◌≡◌, ◌+◌, ◌-◌, ◌≤◌, length, drop}
use denote.Text.{Utf8}
use denote.Shadow.{shadow}
use Rattle.std.specs.Prelude.{All}
use Rattle.std.specs.Str.Lines.{lines}
use Rattle.um_model.specs.Syntax.{joined_lines, physical}
use Rattle.um_syntax.specs.Joining.{LiesIn, all_lines}
use Rattle.um_syntax.proofs.joiner.joined_lines.Given as goal

abbrev pub invariant-loop-rest : goal.invariant-loop-rest
invariant-loop-rest l = record {
  utf8 : shadow (Utf8 l.rest);
  read : all_lines l.joiner (physical (l.number + 1) (lines l.rest)) ≡ joined_lines l.text;
  places : All (LiesIn l.text) l.joiner.lines.items;
  left : drop (length l.text - length l.rest) l.text ≡ l.rest;
  count : l.number + length l.rest ≤ length l.text;
}

abbrev pub decreases-loop-rest : goal.decreases-loop-rest
decreases-loop-rest l = length l.rest
