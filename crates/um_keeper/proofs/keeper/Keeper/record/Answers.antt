use Rattle.std.proofs.Common.{◌∙◌, [], ◌∷◌, length, inl, inr, ap, arith}
use Rattle.um_state.specs.View.{input_of}
use Rattle.um_keeper.proofs.Results.{if_err_from, ok_from, err_more}
use Rattle.um_keeper.proofs.Kept.{still, not_begun, record_short, room_begun, room_and_record}
use Rattle.um_keeper.proofs.keeper.Keeper.record.Goals as goal

pub returns-in-Err-clause-during : goal.returns-in-Err-clause-during
returns-in-Err-clause-during g c h = not_begun (input_of c.args.input.now ∷ []) (g.met.D.Disk.seen_is_image c.args.self.now.disk h) (c.args.self.now.kept c.requires.working h)

pub make_room-requires-clause-short : goal.make_room-requires-clause-short
make_room-requires-clause-short g c =
    let short = record_short c.args.self.now.holds c.in-Ok.ensures.fits c.requires.step.step c.requires.step.accepted in
    omega (arith, c.len.ensures, ap length c.in-Ok.ensures.bytes, short)

pub returns-clause-during : goal.returns-clause-during
returns-clause-during g c h = room_begun (input_of c.args.input.now ∷ []) (c.make_room.ensures.during h)

pub returns-in-Ok-make_room-clause-during : goal.returns-in-Ok-make_room-clause-during
returns-in-Ok-make_room-clause-during g c h = room_and_record (input_of c.args.input.now ∷ []) (c.make_room.ensures.during h) (c.append.ensures.during (c.make_room.ensures.honest ∙ h))
    c.make_room.ensures.place.layout (ap (λ s. s.state) c.make_room.ensures.state)

pub returns-in-Err-clause-kept : goal.returns-in-Err-clause-kept
returns-in-Err-clause-kept g c = inr (λ h. still (g.met.D.Disk.seen_is_image c.args.self.now.disk h) (c.args.self.now.kept c.requires.working h))

pub returns-in-Ok-make_room-clause-kept : goal.returns-in-Ok-make_room-clause-kept
returns-in-Ok-make_room-clause-kept g c = if_err_from c.append.result _ _ (λ e device. inl device) c.append.ensures.refused

pub returns-in-Ok-make_room-clause-refused : goal.returns-in-Ok-make_room-clause-refused
returns-in-Ok-make_room-clause-refused g c = if_err_from c.append.result _ _ (λ e device. inl (inr device)) c.append.ensures.refused

pub returns-in-Ok-make_room-clause-unwritten : goal.returns-in-Ok-make_room-clause-unwritten
returns-in-Ok-make_room-clause-unwritten g c = if_err_from c.append.result _ _ (λ e device. inl device) c.append.ensures.refused

pub returns-in-Ok-make_room-clause-filled : goal.returns-in-Ok-make_room-clause-filled
returns-in-Ok-make_room-clause-filled g c = ok_from c.append.result (λ further from free. further from (c.make_room.ensures.free from free)) c.append.ensures.filled

pub returns-in-Ok-make_room-clause-free : goal.returns-in-Ok-make_room-clause-free
returns-in-Ok-make_room-clause-free g c = err_more c.append.result (λ still from free. still from (c.make_room.ensures.free from free)) c.append.ensures.free
