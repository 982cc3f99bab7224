use Rattle.std.proofs.Common.{◌≡◌, ◌≢◌, ◌∙◌, [], false, true≢false, refl, sym, subst, ap, rules, map}
use Rattle.um_model.specs.Machine as model
use Rattle.um_state.specs.View.{input_of, action_of, command_of, happening_of}
use Rattle.um_wire.specs.Refusal.{refused_of}
use Rattle.um_wire.specs.declared.refusal.Refusal.TheVariants.{NoMemory}
use Rattle.um_engine.specs.Engine.{Obeys, actions_in, reply_in, standing_in}
use Rattle.um_engine.specs.Planned.{Declines}
use Rattle.um_engine.specs.OfStore.{is_of_store}
use Rattle.um_engine.proofs.AcceptedLaws.{never_refused}
use Rattle.um_engine.proofs.ExactLaws.{exact_after}
use Rattle.um_engine.proofs.OnlyLaws.{declined_of_no_store}
use Rattle.um_engine.proofs.Stepped.{command_effect, declined_step, met_effect, met_nothing, met_rows, met_step, met_tables, obeyed_step}
use Rattle.um_engine.proofs.engine.Engine.plan.Goals as goal

pub returns-in_err-next-in-Commanded-clause-refused : goal.returns-in_err-next-in-Commanded-clause-refused
returns-in_err-next-in-Commanded-clause-refused c =
    let event = sym (rw c.in-Commanded.is at c.event.ensures) in
    let clock = c.clock.ensures ∙ ap (λ (x : model.State). x.clock) c.state.ensures.state in
    let moment = rw (clock, c.moment.ensures) at c.or_later-moment.ensures in
    let s = c.args.self.now.served.state in
    let step : c.in_err-next-in-Commanded.field-0.0 ≢ NoMemory
    → model.Step c.args.self.now.size s (input_of c.args.input.now) (model.Refusal (refused_of c.in_err-next-in-Commanded.field-0.0)) [] s =
    λ differs.
    declined_step c.args.self.now.size s (input_of c.args.input.now) c.or_later-moment.result (command_of c.in-Commanded.command) _ event moment
    (subst (λ p. Declines p c.args.self.now.size c.or_later-moment.result s (command_of c.in-Commanded.command) (refused_of c.in_err-next-in-Commanded.field-0.0)) c.profile.ensures
    (c.in_err-next-in-Commanded.ensures.refused differs)) in
    search (rules, step)

pub returns-in_err-next-in-Commanded-clause-only : goal.returns-in_err-next-in-Commanded-clause-only
returns-in_err-next-in-Commanded-clause-only c =
    let step : is_of_store c.in_err-next-in-Commanded.field-0.0 ≡ false =
    declined_of_no_store c.profile.result c.args.self.now.size c.or_later-moment.result c.args.self.now.served.state (command_of c.in-Commanded.command) c.in_err-next-in-Commanded.field-0.0
    c.in_err-next-in-Commanded.ensures.refused in
    search (rules, step)

pub returns-in_ok-next-in-Commanded-clause-ok : goal.returns-in_ok-next-in-Commanded-clause-ok
returns-in_ok-next-in-Commanded-clause-ok c =
    let event = sym (rw c.in-Commanded.is at c.event.ensures) in
    let clock = c.clock.ensures ∙ ap (λ (x : model.State). x.clock) c.state.ensures.state in
    let moment = rw (clock, c.moment.ensures) at c.or_later-moment.ensures in
    obeyed_step c.args.self.now.size c.or_later-moment.result (standing_in c.args.self.now) (input_of c.args.input.now) (command_of c.in-Commanded.command) c.in_ok-next-in-Commanded.next
    event moment
    (subst (λ p. Obeys p c.args.self.now.size c.or_later-moment.result (standing_in c.args.self.now) (command_of c.in-Commanded.command) c.in_ok-next-in-Commanded.next) c.profile.ensures
    c.in_ok-next-in-Commanded.ensures.obeys)

pub returns-in_ok-next-in-Commanded-clause-accepted : goal.returns-in_ok-next-in-Commanded-clause-accepted
returns-in_ok-next-in-Commanded-clause-accepted c = λ r e.
    never_refused (command_of c.in-Commanded.command) _ _ r (sym c.in_ok-next-in-Commanded.ensures.obeys.reply ∙ e)

pub returns-in_ok-next-in-Commanded-clause-effect : goal.returns-in_ok-next-in-Commanded-clause-effect
returns-in_ok-next-in-Commanded-clause-effect c =
    let event = sym (rw c.in-Commanded.is at c.event.ensures) in
    command_effect (model.moment_of c.args.self.now.served.state (input_of c.args.input.now).moment) c.args.self.now.served.state (input_of c.args.input.now).event
    (command_of c.in-Commanded.command) _ event c.in_ok-next-in-Commanded.ensures.obeys.tells.effect

pub returns-in_ok-next-in-Commanded-clause-nothing : goal.returns-in_ok-next-in-Commanded-clause-nothing
returns-in_ok-next-in-Commanded-clause-nothing c = λ none. absurd (true≢false (sym c.in_ok-next-in-Commanded.ensures.obeys.tells.effect ∙ none))

pub returns-in_ok-next-in-Commanded-clause-rows : goal.returns-in_ok-next-in-Commanded-clause-rows
returns-in_ok-next-in-Commanded-clause-rows c = c.in_ok-next-in-Commanded.ensures.obeys.tells.rows

pub returns-in_ok-next-in-Commanded-clause-tables : goal.returns-in_ok-next-in-Commanded-clause-tables
returns-in_ok-next-in-Commanded-clause-tables c = c.in_ok-next-in-Commanded.ensures.obeys.tells.tables

pub returns-in_ok-change-in-Happened-clause-ok : goal.returns-in_ok-change-in-Happened-clause-ok
returns-in_ok-change-in-Happened-clause-ok c =
    let event = sym (rw c.in-Happened.is at c.event.ensures) in
    let clock = c.clock.ensures ∙ ap (λ (x : model.State). x.clock) c.state.ensures.state in
    let moment = rw (clock, c.moment.ensures) at c.or_later-moment.ensures in
    met_step c.args.self.now.size (standing_in c.args.self.now) (input_of c.args.input.now) c.or_later-moment.result (happening_of c.in-Happened.happening) model.Done
    (map action_of c.in_ok-change-in-Happened.actions.items) (map action_of c.in_ok-change-in-Happened.actions.items) c.in_ok-change-in-Happened.change event moment
    c.in_ok-change-in-Happened.ensures.met refl refl

pub returns-in_ok-change-in-Happened-clause-effect : goal.returns-in_ok-change-in-Happened-clause-effect
returns-in_ok-change-in-Happened-clause-effect c =
    let event = sym (rw c.in-Happened.is at c.event.ensures) in
    let clock = c.clock.ensures ∙ ap (λ (x : model.State). x.clock) c.state.ensures.state in
    let moment = rw (clock, c.moment.ensures) at c.or_later-moment.ensures in
    met_effect c.or_later-moment.result _ (standing_in c.args.self.now) (input_of c.args.input.now).event (happening_of c.in-Happened.happening) c.in_ok-change-in-Happened.change
    (map action_of c.in_ok-change-in-Happened.actions.items) _ event moment refl c.in_ok-change-in-Happened.ensures.met

pub returns-in_ok-change-in-Happened-clause-nothing : goal.returns-in_ok-change-in-Happened-clause-nothing
returns-in_ok-change-in-Happened-clause-nothing c =
    met_nothing c.or_later-moment.result (standing_in c.args.self.now) (happening_of c.in-Happened.happening) c.in_ok-change-in-Happened.change
    (map action_of c.in_ok-change-in-Happened.actions.items) (map action_of c.in_ok-change-in-Happened.actions.items) c.in_ok-change-in-Happened.ensures.met refl

pub returns-in_ok-change-in-Happened-clause-rows : goal.returns-in_ok-change-in-Happened-clause-rows
returns-in_ok-change-in-Happened-clause-rows c =
    met_rows c.or_later-moment.result (standing_in c.args.self.now) (happening_of c.in-Happened.happening) c.in_ok-change-in-Happened.change
    (map action_of c.in_ok-change-in-Happened.actions.items) c.in_ok-change-in-Happened.ensures.met

pub returns-in_ok-change-in-Happened-clause-tables : goal.returns-in_ok-change-in-Happened-clause-tables
returns-in_ok-change-in-Happened-clause-tables c =
    met_tables c.or_later-moment.result (standing_in c.args.self.now) (happening_of c.in-Happened.happening) c.in_ok-change-in-Happened.change
    (map action_of c.in_ok-change-in-Happened.actions.items) c.in_ok-change-in-Happened.ensures.met

pub returns-in_ok-next-in-Commanded-clause-exact : goal.returns-in_ok-next-in-Commanded-clause-exact
returns-in_ok-next-in-Commanded-clause-exact c =
    let event = sym (rw c.in-Commanded.is at c.event.ensures) in
    let clock = c.clock.ensures ∙ ap (λ (x : model.State). x.clock) c.state.ensures.state in
    let moment = rw (clock, c.moment.ensures) at c.or_later-moment.ensures in
    let next = c.in_ok-next-in-Commanded.next in
    exact_after c.args.self.now.size c.args.self.now.served (input_of c.args.input.now) (reply_in next) (actions_in next) next.change
    (obeyed_step c.args.self.now.size c.or_later-moment.result (standing_in c.args.self.now) (input_of c.args.input.now) (command_of c.in-Commanded.command) next event moment
    (subst (λ p. Obeys p c.args.self.now.size c.or_later-moment.result (standing_in c.args.self.now) (command_of c.in-Commanded.command) c.in_ok-next-in-Commanded.next) c.profile.ensures
    c.in_ok-next-in-Commanded.ensures.obeys))
    c.in_ok-next-in-Commanded.ensures.exact

pub returns-in_ok-change-in-Happened-clause-exact : goal.returns-in_ok-change-in-Happened-clause-exact
returns-in_ok-change-in-Happened-clause-exact c =
    let event = sym (rw c.in-Happened.is at c.event.ensures) in
    let clock = c.clock.ensures ∙ ap (λ (x : model.State). x.clock) c.state.ensures.state in
    let moment = rw (clock, c.moment.ensures) at c.or_later-moment.ensures in
    let actions = map action_of c.in_ok-change-in-Happened.actions.items in
    exact_after c.args.self.now.size c.args.self.now.served (input_of c.args.input.now) model.Done actions c.in_ok-change-in-Happened.change
    (met_step c.args.self.now.size (standing_in c.args.self.now) (input_of c.args.input.now) c.or_later-moment.result (happening_of c.in-Happened.happening) model.Done actions actions
    c.in_ok-change-in-Happened.change event moment c.in_ok-change-in-Happened.ensures.met refl refl)
    c.in_ok-change-in-Happened.ensures.exact
