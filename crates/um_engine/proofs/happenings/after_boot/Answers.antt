use Rattle.std.proofs.Common.{◌≡◌, ◌∙◌, sym, ap, subst}
use Rattle.um_model.specs.Machine as model
use Rattle.um_model.specs.Machine.{State}
use Rattle.um_state.specs.View.{state_of}
use Rattle.um_wire.specs.Refusal.{refused_of}
use Rattle.um_engine.specs.Served.{standing_of}
use Rattle.um_engine.proofs.KnownLaws.{few_booted}
use Rattle.um_engine.proofs.Ticks.{boot_follows, boot_is_known, same_boot, other_boot}
use Rattle.um_engine.proofs.happenings.after_boot.Goals as goal

pub returns-then-eq-clause-met : goal.returns-then-eq-clause-met
returns-then-eq-clause-met c =
    let known = c.as_str-2.ensures.text ∙ (c.boot.ensures ∙ ap (λ (s : State). s.boot) c.state-state.ensures.state) in
    boot_is_known c.args.moment (standing_of c.args.served.now) c.args.boot.now
    (sym c.as_str.ensures.text ∙ (same_boot c.as_str.result.now c.as_str-2.result.now c.eq.result c.eq.ensures c.if-eq.true ∙ known))

pub returns-in-Ok-clause-met : goal.returns-in-Ok-clause-met
returns-in-Ok-clause-met c =
    let s = c.args.served.now.state in
    let known = c.as_str-2.ensures.text ∙ (c.boot.ensures ∙ ap (λ (x : State). x.boot) c.state-state.ensures.state) in
    let same = c.in_ok-after.ensures ∙ c.state-state.ensures.state in
    boot_follows c.args.moment (standing_of c.args.served.now) c.args.boot.now c.in-Ok.served (state_of c.begin_boot.new.self)
    (λ is. other_boot c.as_str.result.now c.as_str-2.result.now c.eq.result c.eq.ensures c.if-eq.false (c.as_str.ensures.text ∙ (is ∙ sym known)))
    (c.begin_boot.ensures ∙ (ap (λ b. model.booted b (state_of c.in_ok-after.after)) c.in_ok-id.ensures ∙ ap (model.booted c.args.boot.now) same))
    (c.in-Ok.ensures.state ∙ ap state_of c.set_clock.ensures)

pub want_of_memory-requires : goal.want_of_memory-requires
want_of_memory-requires c = λ differs.
    let s = c.args.served.now.state in
    let same = c.in_ok-after.ensures ∙ c.state-state.ensures.state in
    let is : state_of c.set_clock.new.self ≡ record (model.booted c.in_ok-id.id s) { clock = c.args.moment } =
    ap state_of c.set_clock.ensures ∙ ap (λ (x : State). record x { clock = c.args.moment }) (c.begin_boot.ensures ∙ ap (model.booted c.in_ok-id.id) same) in
    few_booted c.args.served.now.known s c.in_ok-id.id c.state-state.ensures.knows (refused_of c.in-Err.refusal)
    (subst (λ (x : State). model.IsCrowded x.loaded (model.IsHeld x) (refused_of c.in-Err.refusal)) is (c.in-Err.ensures.refused differs))
