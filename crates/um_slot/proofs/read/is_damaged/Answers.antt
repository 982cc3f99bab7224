use Rattle.std.specs.Cmp.Lexicographic.{same_text, other_text}
use Rattle.std.proofs.Common.{sym, ◌∙◌}
use Rattle.um_slot.proofs.Finding.{damaged_unread, zeros_undamaged}
use Rattle.um_slot.proofs.read.is_damaged.Goals as goal

pub returns-then-eq : goal.returns-then-eq
returns-then-eq c = zeros_undamaged c.args.layout c.args.sector.now (same_text _ _ (sym c.if-eq.true ∙ c.eq.ensures))

pub returns : goal.returns
returns c = damaged_unread c.args.layout c.args.sector.now c.read_header.result c.read_header.ensures (other_text _ _ (sym c.if-eq.false ∙ c.eq.ensures)) c.is_none.result c.is_none.ensures
