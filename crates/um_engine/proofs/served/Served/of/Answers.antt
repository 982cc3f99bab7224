use Rattle.std.proofs.Common.{ap, refl, subst, sym}
use Rattle.um_model.specs.Machine.{IsCrowded, IsHeld}
use Rattle.um_state.specs.View.{state_of}
use Rattle.um_wire.specs.Refusal.{refused_of}
use Rattle.um_wire.specs.declared.refusal.Refusal.TheVariants.{NoMemory}
use Rattle.um_unit.specs.View.{tree_read}
use Rattle.um_engine.specs.Known.{IsFull}
use Rattle.um_engine.proofs.ExactLaws.{exact_at}
use Rattle.um_engine.proofs.KnownLaws.{knows_made, knows_of}
use Rattle.um_engine.proofs.PlannedLaws.{refuses_on}
use Rattle.um_engine.proofs.served.Served.of.Goals as goal

pub numbered-requires : goal.numbered-requires
numbered-requires c =
    let s = state_of c.args.state in
    let known = c.in_ok-known.known.value in
    knows_of known s (tree_read c.loaded.result) c.loaded.ensures
    (knows_made known s (tree_read c.loaded.result) c.in_ok-known.ensures.made c.in_ok-known.ensures.lasting c.in_ok-known.ensures.extra)

pub returns-in_err-known-clause-refused : goal.returns-in_err-known-clause-refused
returns-in_err-known-clause-refused c =
    let s = state_of c.args.state in
    let e = c.in_err-known.field-0.0 in
    refuses_on (IsCrowded s.loaded (IsHeld s)) c.from_residual.result e c.from_residual.ensures.1
    (λ differs.
    let full = c.in_err-known.ensures.refused differs in
    record { many = subst (λ tree. IsFull tree (IsHeld s)) c.loaded.ensures full.1; refusal = ap refused_of full.0 })

pub returns-in_err-served-clause-refused : goal.returns-in_err-served-clause-refused
returns-in_err-served-clause-refused c =
    let s = state_of c.args.state in
    refuses_on (IsCrowded s.loaded (IsHeld s)) c.from_residual-in_err-served.result NoMemory c.from_residual-in_err-served.ensures.1 (λ differs. absurd (differs refl))

pub returns-clause-refused : goal.returns-clause-refused
returns-clause-refused c = λ r crowded.
    let s = state_of c.args.state in
    c.in_ok-known.ensures.few (subst (λ tree. IsFull tree (IsHeld s)) (sym c.loaded.ensures) crowded.many)

pub returns-clause-exact : goal.returns-clause-exact
returns-clause-exact c =
    let s = state_of c.args.state in
    let known = c.in_ok-known.known.value in
    exact_at c.in_ok-served.served known s c.in_ok-served.ensures.state c.in_ok-served.ensures.known
    (knows_of known s (tree_read c.loaded.result) c.loaded.ensures
    (knows_made known s (tree_read c.loaded.result) c.in_ok-known.ensures.made c.in_ok-known.ensures.lasting c.in_ok-known.ensures.extra)) (λ x among. (c.in_ok-known.ensures.extra x).0 among)
