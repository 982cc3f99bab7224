use Rattle.std.proofs.Common.{sym, ap, ◌∙◌}
use Rattle.std.specs.BTreeSet.{contains}
use Rattle.std.specs.Ordering.{nat_cmp}
use Rattle.um_state.proofs.Distinct.{are_new, none_held, not_true, one_kept}
use Rattle.um_state.proofs.Fronts.{first_and_rest}
use Rattle.um_state.proofs.unit_bytes.are_distinct.Goals as goal

pub loop-rest-init : goal.loop-rest-init
loop-rest-init c = none_held c.new-held.result c.args.numbers.now c.new-held.ensures.empty

pub loop-rest-preserved : goal.loop-rest-preserved
loop-rest-preserved c =
    let held = contains nat_cmp c.loop-rest.held in
    let new = not_true _ (sym c.in_ok-insert.ensures.added ∙ c.if-not-branch.false) in
    one_kept held (contains nat_cmp c.insert.new.self) _ c.in_ok-insert.ensures.updates.0 _ new
    ∙ (ap (are_new held) (sym (first_and_rest c.loop-rest.rest.now c.in-len1-up.len_at_least)) ∙ c.loop-rest.invariant)
