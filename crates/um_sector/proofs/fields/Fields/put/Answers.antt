use Rattle.std.proofs.Common.{◌+◌, ◌≤◌, ◌++◌, List, ℕ, length, ◌∙◌, ap}
use Rattle.um_sector.proofs.Front.{front_grown, front_room, zeros_kept}
use Rattle.um_sector.proofs.fields.Fields.put.Goals as goal

pub invariant_of-self : goal.invariant_of-self
invariant_of-self c =
    let room : c.self.inside.length + length c.args.bytes.now ≤ 512 = front_room c.self.inside.sector c.args.self.now c.args.bytes.now c.self.inside.length c.self.told c.self.invariant.0 c.self.view_is c.requires in
    (room, zeros_kept c.self.inside.sector c.args.bytes.now c.lay.new.sector c.self.inside.length c.self.told room c.lay.ensures c.self.invariant.1)

pub returns : goal.returns
returns c =
    let room : c.self.inside.length + length c.args.bytes.now ≤ 512 = front_room c.self.inside.sector c.args.self.now c.args.bytes.now c.self.inside.length c.self.told c.self.invariant.0 c.self.view_is c.requires in
    front_grown c.self.inside.sector c.args.bytes.now c.lay.new.sector c.self.inside.length c.self.told room c.lay.ensures ∙ ap (λ (l : List ℕ). l ++ c.args.bytes.now) c.self.view_is
