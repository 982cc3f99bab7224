use Rattle.std.proofs.Common.{◌≡◌, ap, arith}
use Rattle.um_model.specs.Machine.{State}
use Rattle.um_model.specs.Profiles.{ReadTree}
use Rattle.um_model.specs.Weight.{tree_weight, weight_of}
use Rattle.um_state.specs.View.{state_of}
use Rattle.um_engine.proofs.KnownLaws.{light_by}
use Rattle.um_engine.proofs.room.check_room_in.Goals as goal

pub returns-in-Some-clause-room : goal.returns-in-Some-clause-room
returns-in-Some-clause-room c =
    let s : State = state_of c.args.work.now.now in
    let tree = ap tree_weight c.requires.tree in
    let loaded = ap (λ (t : ReadTree). tree_weight t.entries) c.requires.loaded in
    let is : c.in-Some.weight ≡ weight_of s.tree s.loaded.entries c.in_ok-units.units = omega (arith, c.in-Some.ensures, c.trees_weight.ensures, tree, loaded) in
    light_by c.args.size s c.in_ok-units.units c.in-Some.weight c.in_ok-units.ensures is c.if-weight-size.true
