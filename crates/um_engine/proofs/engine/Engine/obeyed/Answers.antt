use Rattle.std.proofs.Common.{◌≡◌, rules, subst}
use Rattle.std.specs.Prelude.{IfErr, IfOk}
use Rattle.um_model.specs.Machine as model
use Rattle.um_state.specs.View.{command_of, state_of}
use Rattle.um_wire.specs.Refusal.{refused_of}
use Rattle.um_wire.specs.declared.refusal.Refusal.TheVariants.{NoMemory}
use Rattle.um_engine.specs.Engine.{Settled, SettlesTooHeavy, actions_in, standing_in}
use Rattle.um_engine.specs.Outcomes.{IsBasedOn, actions_by, reply_by, state_by}
use Rattle.um_engine.specs.declared.commands.Outcome.TheVariants.{Rows, Tables}
use Rattle.um_engine.proofs.Stepped.{declined_for_cause, declines_by, obeys_by}
use Rattle.um_engine.proofs.engine.Engine.obeyed.Goals as goal

pub returns-in_err-outcome-clause-refused : goal.returns-in_err-outcome-clause-refused
returns-in_err-outcome-clause-refused c =
    let step = declined_for_cause c.args.profile c.args.self.now.size c.args.moment c.args.self.now.served.state (command_of c.args.command.now) c.in_err-outcome.field-0.0 c.in_err-outcome.ensures.refused in
    search (rules, step)

pub with_rows-requires : goal.with_rows-requires
with_rows-requires c = (subst (IsBasedOn c.args.self.now.served c.args.moment) c.in-Rows.is c.in_ok-outcome.ensures.based).0

pub with_tables-requires : goal.with_tables-requires
with_tables-requires c = subst (IsBasedOn c.args.self.now.served c.args.moment) c.in-Tables.is c.in_ok-outcome.ensures.based

pub returns-in-Rows-clause-obeys : goal.returns-in-Rows-clause-obeys
returns-in-Rows-clause-obeys c =
    let s = standing_in c.args.self.now in
    let command = command_of c.args.command.now in
    let based = subst (IsBasedOn c.args.self.now.served c.args.moment) c.in-Rows.is c.in_ok-outcome.ensures.based in
    obeys_by c.args.profile c.args.self.now.size c.args.moment s command (Rows c.in-Rows.work) c.in_ok-outcome.ensures.refused
    (subst (λ o. model.Does c.args.profile c.args.moment (state_of s) command (actions_by o) (state_by o)) c.in-Rows.is c.in_ok-outcome.ensures.does) c.with_rows.result
    (subst (λ o. reply_by o ≡ model.reply_after (model.Commanded command) (state_of s).tree (state_by o).tree) c.in-Rows.is c.in_ok-outcome.ensures.reply)
    (subst (λ m. IfOk c.with_rows.result (λ n. Settled c.args.self.now.size m s (state_of c.in-Rows.work.now) c.in-Rows.work.actions n.change (actions_in n))) based.1 c.with_rows.ensures.settled)
    c.with_rows.ensures.reply

pub returns-in-Rows-clause-refused : goal.returns-in-Rows-clause-refused
returns-in-Rows-clause-refused c =
    let s = standing_in c.args.self.now in
    let command = command_of c.args.command.now in
    let based = subst (IsBasedOn c.args.self.now.served c.args.moment) c.in-Rows.is c.in_ok-outcome.ensures.based in
    declines_by c.args.profile c.args.self.now.size c.args.moment s command (Rows c.in-Rows.work) c.in_ok-outcome.ensures.refused
    (subst (λ o. model.Does c.args.profile c.args.moment (state_of s) command (actions_by o) (state_by o)) c.in-Rows.is c.in_ok-outcome.ensures.does) c.with_rows.result
    (subst (λ m. IfErr c.with_rows.result (λ e. ¬ (e ≡ NoMemory) → SettlesTooHeavy c.args.self.now.size m (state_of c.in-Rows.work.now) c.in-Rows.work.actions (refused_of e))) based.1
    c.with_rows.ensures.refused)

pub returns-in-Tables-clause-obeys : goal.returns-in-Tables-clause-obeys
returns-in-Tables-clause-obeys c =
    let s = standing_in c.args.self.now in
    let command = command_of c.args.command.now in
    let o = Tables c.in-Tables.served c.in-Tables.reply c.in-Tables.trees in
    obeys_by c.args.profile c.args.self.now.size c.args.moment s command o c.in_ok-outcome.ensures.refused
    (subst (λ p. model.Does c.args.profile c.args.moment (state_of s) command (actions_by p) (state_by p)) c.in-Tables.is c.in_ok-outcome.ensures.does) c.with_tables.result
    (subst (λ p. reply_by p ≡ model.reply_after (model.Commanded command) (state_of s).tree (state_by p).tree) c.in-Tables.is c.in_ok-outcome.ensures.reply)
    c.with_tables.ensures.settled c.with_tables.ensures.reply

pub returns-in-Tables-clause-refused : goal.returns-in-Tables-clause-refused
returns-in-Tables-clause-refused c =
    let s = standing_in c.args.self.now in
    let command = command_of c.args.command.now in
    let o = Tables c.in-Tables.served c.in-Tables.reply c.in-Tables.trees in
    declines_by c.args.profile c.args.self.now.size c.args.moment s command o c.in_ok-outcome.ensures.refused
    (subst (λ p. model.Does c.args.profile c.args.moment (state_of s) command (actions_by p) (state_by p)) c.in-Tables.is c.in_ok-outcome.ensures.does) c.with_tables.result
    c.with_tables.ensures.refused
