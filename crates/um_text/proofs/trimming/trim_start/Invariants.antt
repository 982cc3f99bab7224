use Rattle.std.proofs.Common.{◌≡◌, ◌≤◌, ◌-◌, drop, length}
use denote.Text.{Utf8}
use denote.Shadow.{shadow}
use Rattle.um_model.specs.Text.{trim_start}
use Rattle.um_text.proofs.trimming.trim_start.Given as goal

abbrev pub invariant-loop-rest : goal.invariant-loop-rest
invariant-loop-rest l = record { utf8 : shadow (Utf8 l.rest); same : trim_start l.rest ≡ trim_start l.text; shorter : length l.rest ≤ length l.text; left : drop (length l.text - length l.rest) l.text ≡ l.rest }

abbrev pub decreases-loop-rest : goal.decreases-loop-rest
decreases-loop-rest l = length l.rest
