use Rattle.std.proofs.Common.{length, arith, vec_len, vec_capacity}
use Rattle.um_state.specs.Overlays.{units_in}
use Rattle.um_state.proofs.OverlayLaws.{are_first, laid_first}
use Rattle.um_state.proofs.overlay.Overlay.of.Goals as goal

pub invariant_of-result : goal.invariant_of-result
invariant_of-result c =
    are_first c.in_ok-places.places.items (length c.args.rows.now) (vec_len c.in_ok-changed.changed) (vec_capacity c.in_ok-changed.changed) (c.in_ok-places.ensures.items_if_clones_equal (λ y same. same)) c.in_ok-changed.ensures.len (omega (arith, c.in_ok-changed.ensures.exact))

pub returns-clause-now : goal.returns-clause-now
returns-clause-now c = laid_first c.args.rows.now (units_in c.in_ok-changed.changed.items) c.in_ok-places.places.items (length c.args.rows.now) (c.in_ok-places.ensures.items_if_clones_equal (λ y same. same))
