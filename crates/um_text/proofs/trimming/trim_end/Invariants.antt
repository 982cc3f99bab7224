use Rattle.std.proofs.Common.{◌≡◌, ◌≤◌, take, length}
use denote.Text.{Utf8}
use denote.Shadow.{shadow}
use Rattle.um_text.proofs.trimming.trim_end.Given as goal
use Rattle.um_model.specs.FileForms.{trim_end}

abbrev pub invariant-loop-rest : goal.invariant-loop-rest
invariant-loop-rest l = record { utf8 : shadow (Utf8 l.rest); same : trim_end l.rest ≡ trim_end l.text; shorter : length l.rest ≤ length l.text; left : take (length l.rest) l.text ≡ l.rest }

abbrev pub decreases-loop-rest : goal.decreases-loop-rest
decreases-loop-rest l = length l.rest
