use Rattle.std.proofs.Common.{◌∙◌, [], map, refl}
use Rattle.um_state.specs.View.{action_of}
use Rattle.um_wire.specs.declared.refusal.Refusal.TheVariants.{NoMemory}
use Rattle.um_engine.proofs.DoneLaws.{heavy_is, light_before, trees_settled}
use Rattle.um_engine.proofs.ExactLaws.{given_exact}
use Rattle.um_engine.proofs.engine.Engine.change_to.Goals as goal

pub change_between-requires : goal.change_between-requires
change_between-requires c =
    trees_settled c.args.trees c.args.self.now.served.state c.args.served.state c.in_ok-after.after.state c.args.moment (map action_of c.in_ok-after.actions.items) c.requires
    c.in_ok-after.ensures.leads

pub returns-clause-settled : goal.returns-clause-settled
returns-clause-settled c =
    let leads = c.in_ok-after.ensures.leads in
    let actions = map action_of c.in_ok-after.actions.items in
    record {
      leads = record {
        state = leads.state;
        leads = ((actions, leads.leads, refl), light_before c.args.self.now.size c.args.moment leads.state c.in_ok-after.after.state leads.is c.in_ok-after.ensures.room);
        is = c.in_ok-change.ensures.leads ∙ leads.is;
      };
      tells = c.in_ok-change.ensures.tells;
    }

pub returns-in_err-after-clause-refused : goal.returns-in_err-after-clause-refused
returns-in_err-after-clause-refused c =
    heavy_is c.args.self.now.size c.args.moment c.args.served.state [] c.from_residual.result c.in_err-after.field-0.0 c.from_residual.ensures.1 c.in_err-after.ensures.refused

pub returns-in_err-change-clause-refused : goal.returns-in_err-change-clause-refused
returns-in_err-change-clause-refused c =
    heavy_is c.args.self.now.size c.args.moment c.args.served.state [] c.from_residual-in_err-change.result NoMemory c.from_residual-in_err-change.ensures.1 (λ differs. absurd (differs refl))

pub returns-clause-exact : goal.returns-clause-exact
returns-clause-exact c = given_exact c.args.self.now.served c.in_ok-after.after c.in_ok-change.change c.in_ok-change.ensures.serves c.in_ok-after.ensures.exact
