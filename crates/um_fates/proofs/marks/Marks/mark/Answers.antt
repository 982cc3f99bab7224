use Rattle.std.proofs.Common.{◌∙◌, sym}
use Rattle.um_fates.proofs.Marking.{marked}
use Rattle.um_fates.proofs.marks.Marks.mark.Goals as goal

pub returns : goal.returns
returns c =
    marked c.args.units.now.held c.args.number c.args.self.now c.make_room.new.self c.add.new.self c.make_room.ensures.live c.make_room.ensures.none c.make_room.ensures.full
    c.make_room.ensures.once (sym c.contains.ensures ∙ c.if-contains.false) c.add.ensures
