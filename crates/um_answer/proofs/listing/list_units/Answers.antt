use Rattle.um_state.specs.View.{state_of}
use Rattle.um_answer.proofs.ListedLaws.{lists_units_so}
use Rattle.um_answer.proofs.listing.list_units.Goals as goal

pub returns : goal.returns
returns c =
    let known = rw (c.deref.ensures.value, c.loaded.ensures) at c.in_ok-names.ensures.known in
    let listed = rw c.deref-2.ensures.value at c.in_ok-units.ensures in
    lists_units_so (state_of c.args.state.now) c.in_ok-held.held.items c.in_ok-names.names.items _ c.in_ok-held.ensures known c.in_ok-names.ensures.sorted listed
