use Rattle.std.proofs.Common.{◌≡◌, arith}
use Rattle.um_model.specs.Machine.{State}
use Rattle.um_model.specs.Weight.{weight_of}
use Rattle.um_engine.proofs.KnownLaws.{light_by}
use Rattle.um_engine.proofs.room.check_room.Goals as goal

pub returns-in-Some-clause-room : goal.returns-in-Some-clause-room
returns-in-Some-clause-room c =
    let s : State = c.args.served.now.state in
    let is : c.in-Some.weight ≡ weight_of s.tree s.loaded.entries c.in_ok-units.units = omega (arith, c.in-Some.ensures, c.trees_weight.ensures) in
    light_by c.args.size s c.in_ok-units.units c.in-Some.weight c.in_ok-units.ensures is c.if-weight-size.true
