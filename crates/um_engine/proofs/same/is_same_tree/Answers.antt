use Rattle.std.proofs.Common.{◌∙◌, ap, sym}
use Rattle.std.specs.FinMap as map
use Rattle.um_engine.proofs.same.is_same_tree.Goals as goal

pub returns-then-len : goal.returns-then-len
returns-then-len c = (
  λ t. map.same_entries_map _ _ (sym c.entries.ensures.entries ∙ (c.are_same_entries.ensures.0 t ∙ c.entries-then-len.ensures.entries)),
  λ e. c.are_same_entries.ensures.1 (c.entries.ensures.entries ∙ (ap map.entries e ∙ sym c.entries-then-len.ensures.entries)),
)
