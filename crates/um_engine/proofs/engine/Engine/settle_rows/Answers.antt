use Rattle.std.proofs.Common.{refl}
use Rattle.um_state.specs.View.{state_of}
use Rattle.um_wire.specs.declared.refusal.Refusal.TheVariants.{NoMemory}
use Rattle.um_engine.proofs.DoneLaws.{heavy_is}
use Rattle.um_engine.proofs.KnownLaws.{works_settled}
use Rattle.um_engine.proofs.engine.Engine.settle_rows.Goals as goal

pub check_room_in-requires : goal.check_room_in-requires
check_room_in-requires c =
    works_settled c.args.self.now.served c.args.work.now c.settle.new.work c.args.work.now.moment c.requires c.in_ok-settle.ensures.keeps c.in_ok-settle.ensures.settles

pub returns-in_err-settle-clause-refused : goal.returns-in_err-settle-clause-refused
returns-in_err-settle-clause-refused c =
    let u = c.args.work.now in
    heavy_is c.args.self.now.size u.moment (state_of u.now) u.actions c.from_residual.result NoMemory c.from_residual.ensures.1 (λ differs. absurd (differs refl))

pub returns-in_err-check_room_in-clause-refused : goal.returns-in_err-check_room_in-clause-refused
returns-in_err-check_room_in-clause-refused c =
    let u = c.args.work.now in
    let x = c.settle.new.work in
    heavy_is c.args.self.now.size u.moment (state_of u.now) u.actions c.from_residual-in_err-check_room_in.result c.in_err-check_room_in.field-0.0 c.from_residual-in_err-check_room_in.ensures.1
    (λ differs.
    let heavy = c.in_err-check_room_in.ensures.refused differs in
    record { actions = x.actions; state = state_of x.now; settles = c.in_ok-settle.ensures.settles; heavy = heavy.1; refusal = heavy.0 })

pub returns-clause-settles : goal.returns-clause-settles
returns-clause-settles c = c.in_ok-settle.ensures.settles

pub returns-clause-keeps : goal.returns-clause-keeps
returns-clause-keeps c = c.in_ok-settle.ensures.keeps

pub returns-clause-room : goal.returns-clause-room
returns-clause-room c = c.in_ok-check_room_in.ensures.room
