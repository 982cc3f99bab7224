use Rattle.std.proofs.Common.{◌∙◌, true≢false, sym}
use Rattle.std.proofs.lemmas.Slice.Eq.{bytes_eq-Decides}
use Rattle.um_engine.proofs.between.has_same_trees.Goals as goal

pub returns-then-not-is_same_tree : goal.returns-then-not-is_same_tree
returns-then-not-is_same_tree c = (
  λ t. absurd (true≢false (sym t)),
  λ e. absurd (true≢false (sym (c.is_same_tree.ensures.1 (c.tree.ensures ∙ (e.0 ∙ sym c.tree-2.ensures))) ∙ c.if-not-is_same_tree.true)),
)

pub returns-then-not-is_same_reading : goal.returns-then-not-is_same_reading
returns-then-not-is_same_reading c = (
  λ t. absurd (true≢false (sym t)),
  λ e. absurd (true≢false (sym (c.is_same_reading.ensures.1 (c.loaded.ensures ∙ (e.1 ∙ sym c.loaded-2.ensures))) ∙ c.if-not-is_same_reading.true)),
)

pub returns : goal.returns
returns c =
    let boots = bytes_eq-Decides c.as_str.result.now c.as_str-2.result.now in
    let one = c.as_str.ensures.text ∙ c.boot.ensures in
    let other = c.as_str-2.ensures.text ∙ c.boot-2.ensures in (
      λ t. (
        sym c.tree.ensures ∙ (c.is_same_tree.ensures.0 c.if-not-is_same_tree.false ∙ c.tree-2.ensures),
        sym c.loaded.ensures ∙ (c.is_same_reading.ensures.0 c.if-not-is_same_reading.false ∙ c.loaded-2.ensures),
        sym one ∙ (boots.0 (sym c.eq.ensures ∙ t) ∙ other),
      ),
      λ e. c.eq.ensures ∙ boots.1 (one ∙ (e.2 ∙ sym other)),
    )
