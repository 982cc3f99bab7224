use Rattle.std.proofs.Common.{string_bytes}
use Rattle.um_status.proofs.Pieces.{piece}
use Rattle.um_status.proofs.details.details_of.Goals as goal

pub returns : goal.returns
returns c = (string_bytes c.in_ok-text.text, c.in_ok-text.ensures, piece _ _ _ _ _ c.in_ok-push_warnings.ensures c.in_ok-push_lines.ensures)
