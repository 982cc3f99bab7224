use Rattle.std.proofs.Common.{refl, subst}
use Rattle.um_model.specs.Machine.{CausesOfLoad}
use Rattle.um_model.specs.Refusals.{Refused}
use Rattle.um_state.specs.View.{state_of}
use Rattle.um_wire.specs.Refusal.{refused_of}
use Rattle.um_wire.specs.declared.refusal.Refusal.TheVariants.{NoMemory}
use Rattle.um_unit.specs.View.{tree_read}
use Rattle.um_engine.proofs.ExactLaws.{exact_at}
use Rattle.um_engine.proofs.KnownLaws.{knows_of}
use Rattle.um_engine.proofs.PlannedLaws.{refuses_on}
use Rattle.um_engine.proofs.engine.served_of.Goals as goal

pub numbered-requires : goal.numbered-requires
numbered-requires c = knows_of c.in_ok-known.known.value (state_of c.args.state) (tree_read c.loaded.result) c.loaded.ensures c.in_ok-known.ensures.knows

pub returns-in_err-known-clause-refused : goal.returns-in_err-known-clause-refused
returns-in_err-known-clause-refused c =
    let s = state_of c.args.state in
    let e = c.in_err-known.field-0.0 in
    refuses_on (CausesOfLoad s s.loaded) c.from_residual.result e c.from_residual.ensures.1
    (λ differs. subst (λ t. CausesOfLoad s t (refused_of e)) c.loaded.ensures (c.in_err-known.ensures.refused differs))

pub returns-in_err-numbered-clause-refused : goal.returns-in_err-numbered-clause-refused
returns-in_err-numbered-clause-refused c =
    let s = state_of c.args.state in
    refuses_on (CausesOfLoad s s.loaded) c.from_residual-in_err-numbered.result NoMemory c.from_residual-in_err-numbered.ensures.1 (λ differs. absurd (differs refl))

pub returns-clause-state : goal.returns-clause-state
returns-clause-state c = c.in_ok-numbered.ensures.state

pub returns-clause-refused : goal.returns-clause-refused
returns-clause-refused c = subst (λ t. (r : Refused) → ¬ CausesOfLoad (state_of c.args.state) t r) c.loaded.ensures c.in_ok-known.ensures.refused

pub returns-clause-exact : goal.returns-clause-exact
returns-clause-exact c =
    let s = state_of c.args.state in
    let known = c.in_ok-known.known.value in
    exact_at c.in_ok-numbered.field-0 known s c.in_ok-numbered.ensures.state c.in_ok-numbered.ensures.known (knows_of known s (tree_read c.loaded.result) c.loaded.ensures c.in_ok-known.ensures.knows) c.in_ok-known.ensures.held
