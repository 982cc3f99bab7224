use Rattle.std.proofs.Common.{◌∙◌, [], map, refl}
use Rattle.um_state.specs.View.{action_of}
use Rattle.um_wire.specs.declared.refusal.Refusal.TheVariants.{NoMemory}
use Rattle.um_engine.proofs.DoneLaws.{heavy_before, heavy_is}
use Rattle.um_engine.proofs.engine.Engine.settle_in_room.Goals as goal

pub returns-in_err-actions-clause-refused : goal.returns-in_err-actions-clause-refused
returns-in_err-actions-clause-refused c =
    heavy_is c.args.self.now.size c.args.moment c.args.served.state [] c.from_residual.result NoMemory c.from_residual.ensures.1 (λ differs. absurd (differs refl))

pub returns-in_err-after-clause-refused : goal.returns-in_err-after-clause-refused
returns-in_err-after-clause-refused c =
    heavy_is c.args.self.now.size c.args.moment c.args.served.state [] c.from_residual-in_err-after.result NoMemory c.from_residual-in_err-after.ensures.1 (λ differs. absurd (differs refl))

pub returns-in_err-check_room-clause-refused : goal.returns-in_err-check_room-clause-refused
returns-in_err-check_room-clause-refused c =
    let size = c.args.self.now.size in
    let leads = c.in_ok-actions.ensures in
    let actions = map action_of c.in_ok-actions.actions.items in
    heavy_is size c.args.moment c.args.served.state [] c.from_residual-in_err-check_room.result c.in_err-check_room.field-0.0 c.from_residual-in_err-check_room.ensures.1
    (λ differs.
    let heavy = c.in_err-check_room.ensures.refused differs in
    record {
      actions = actions;
      state = leads.state;
      settles = (actions, leads.leads, refl);
      heavy = heavy_before size c.args.moment leads.state c.in_ok-after.after.state (c.in_ok-after.ensures.state ∙ leads.is) heavy.1;
      refusal = heavy.0;
    })

pub returns-clause-leads : goal.returns-clause-leads
returns-clause-leads c =
    let leads = c.in_ok-actions.ensures in
    record { state = leads.state; leads = leads.leads; is = c.in_ok-after.ensures.state ∙ leads.is }

pub returns-clause-room : goal.returns-clause-room
returns-clause-room c = c.in_ok-check_room.ensures.room
