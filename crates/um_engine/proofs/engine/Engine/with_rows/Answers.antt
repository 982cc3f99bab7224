use Rattle.std.proofs.Common.{◌∙◌, map, refl}
use Rattle.um_state.specs.View.{action_of, state_of}
use Rattle.um_wire.specs.declared.refusal.Refusal.TheVariants.{NoMemory}
use Rattle.um_engine.proofs.DoneLaws.{heavy_is, settled_rows}
use Rattle.um_engine.proofs.engine.Engine.with_rows.Goals as goal

pub settle_rows-requires : goal.settle_rows-requires
settle_rows-requires c = c.requires

pub returns-in_err-settle_rows-clause-refused : goal.returns-in_err-settle_rows-clause-refused
returns-in_err-settle_rows-clause-refused c =
    let u = c.args.work in
    heavy_is c.args.self.now.size u.moment (state_of u.now) u.actions c.from_residual.result c.in_err-settle_rows.field-0.0 c.from_residual.ensures.1 c.in_err-settle_rows.ensures.refused

pub returns-in_err-delta-clause-refused : goal.returns-in_err-delta-clause-refused
returns-in_err-delta-clause-refused c =
    let u = c.args.work in
    heavy_is c.args.self.now.size u.moment (state_of u.now) u.actions c.from_residual-in_err-delta.result NoMemory c.from_residual-in_err-delta.ensures.1 (λ differs. absurd (differs refl))

pub change_by-requires : goal.change_by-requires
change_by-requires c =
    (settled_rows c.args.self.now.size c.args.self.now.served c.args.work c.settle_rows.new.work c.in_ok-delta.delta (map action_of c.in_ok-delta.actions.items) c.requires
    c.in_ok-settle_rows.ensures.keeps c.in_ok-settle_rows.ensures.settles c.in_ok-settle_rows.ensures.room c.in_ok-delta.ensures.after c.in_ok-delta.ensures.count c.in_ok-delta.ensures.actions).rows.2

pub returns-in_err-change-clause-refused : goal.returns-in_err-change-clause-refused
returns-in_err-change-clause-refused c =
    let u = c.args.work in
    heavy_is c.args.self.now.size u.moment (state_of u.now) u.actions c.from_residual-in_err-change.result NoMemory c.from_residual-in_err-change.ensures.1 (λ differs. absurd (differs refl))

pub returns-clause-settled : goal.returns-clause-settled
returns-clause-settled c =
    let d = settled_rows c.args.self.now.size c.args.self.now.served c.args.work c.settle_rows.new.work c.in_ok-delta.delta (map action_of c.in_ok-delta.actions.items) c.requires
    c.in_ok-settle_rows.ensures.keeps c.in_ok-settle_rows.ensures.settles c.in_ok-settle_rows.ensures.room c.in_ok-delta.ensures.after c.in_ok-delta.ensures.count c.in_ok-delta.ensures.actions in
    record { leads = record { state = d.leads.state; leads = d.leads.leads; is = c.in_ok-change.ensures.leads ∙ d.leads.is }; tells = c.in_ok-change.ensures.tells }
