use Rattle.std.proofs.Common.{rules, ◌≡◌, ◌||◌, ◌++◌, false, map, append-nil, ap, sym, ◌∙◌, arith}
use Rattle.std.specs.Option.{option_to_list}
use Rattle.um_model.specs.FileForms.{items_in}
use Rattle.um_syntax.specs.Joining.{line_of, LiesIn}
use Rattle.um_syntax.specs.Items.{SpanIsIn, BorrowsIfWhole, begins_section}
use Rattle.um_syntax.proofs.ItemLemmas.{read_more, read_all, all_more, at_item}
use Rattle.um_syntax.proofs.items.parse.Goals as goal
use Rattle.um_syntax.proofs.items.parse.Goals.{in-Some+in_ok-push, in_default}

pub loop-line-preserved : goal.loop-line-preserved
loop-line-preserved c =
    let source = c.args.source.now in
    let lines = c.deref-line-items.result.now in
    let old = c.loop-line.items.items in
    let more = c.in_ok-item.field-0 in
    let said = c.in_ok-item.ensures in
    let lies = at_item (LiesIn source) lines c.in_ok-lines.lines.items c.loop-line.line-index c.line-item.result c.deref-line-items.ensures.value (omega arith) c.line-item.is c.in_ok-lines.ensures.places in
    let new_is : c.match-branch-3.items.items ≡ old ++ option_to_list more =
    elim c.match-branch-3.branch [
      | in-Some+in_ok-push w ↦ ap (λ v. v.items) w.items-is ∙ w.in_ok-push.ensures.items ∙ ap (λ o. old ++ option_to_list o) (sym w.in-Some.is)
      | in_default w ↦ ap (λ v. v.items) w.items-is ∙ sym (append-nil old) ∙ ap (λ o. old ++ option_to_list o) (sym w.in_default.is)
    ] in
    let next_is : c.match-branch-3.begun ≡ (c.loop-line.begun || begins_section more) =
    elim c.match-branch-3.branch [
      | in-Some+in_ok-push w ↦ w.begun-is ∙ ap (λ h. c.loop-line.begun || h) (w.is_section-begun.ensures ∙ ap begins_section (sym w.in-Some.is))
      | in_default w ↦ search rules
    ] in
    record {
      read = read_more lines c.loop-line.line-index c.line-item.result c.loop-line.begun c.match-branch-3.begun old c.match-branch-3.items.items more (items_in false (map line_of lines))
          (omega arith) c.line-item.is said.said said.head new_is next_is c.loop-line.invariant.read;
      spans = all_more (SpanIsIn source) old c.match-branch-3.items.items more new_is (said.span source lies) c.loop-line.invariant.spans;
      borrowed = all_more BorrowsIfWhole old c.match-branch-3.items.items more new_is said.borrowed c.loop-line.invariant.borrowed;
    }

pub returns-clause-reading : goal.returns-clause-reading
returns-clause-reading c =
    read_all c.args.source.now c.deref-line-items.result.now c.loop-line.line-index c.loop-line.begun c.loop-line.items.items (omega arith) c.loop-line.invariant.read
    (ap (map line_of) c.deref-line-items.ensures.value ∙ c.in_ok-lines.ensures.lines)
