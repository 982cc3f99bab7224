use Rattle.std.proofs.Common.{◌≡◌, ◌∙◌, Some, true≢false, ap, sym}
use Rattle.std.proofs.lemmas.Option.{none-some, same_Some}
use Rattle.um_tree.specs.View.{entry_of}
use Rattle.um_engine.proofs.same.has_entry.Goals as goal

pub returns-in-Some : goal.returns-in-Some
returns-in-Some c =
    let there = c.in-Some.ensures in (
      λ told. sym there ∙ ap Some (sym (c.is_same_entry.ensures.0 told)),
      λ is. c.is_same_entry.ensures.1 (sym (same_Some _ _ (there ∙ is))),
    )

pub returns-in-None : goal.returns-in-None
returns-in-None c = (λ told. absurd (true≢false (sym told)), λ is. absurd (none-some _ (c.in-None.ensures ∙ is)))
