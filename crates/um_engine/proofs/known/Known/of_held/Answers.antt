use Rattle.std.proofs.Common.{ℕ, List, Contains, refl, subst, sym}
use Rattle.um_model.specs.Machine.{IsHeld}
use Rattle.um_state.specs.View.{state_of}
use Rattle.um_wire.specs.declared.refusal.Refusal.TheVariants as refusals
use Rattle.um_unit.specs.View.{tree_read}
use Rattle.um_engine.specs.Known.{IsFull, KnownView, KnowsFor}
use Rattle.um_engine.proofs.ExactLaws.{full_less}
use Rattle.um_engine.proofs.KnownLaws.{full_on, knows_by_named}
use Rattle.um_engine.proofs.known.Known.of_held.Goals as goal

pub returns-clause-knows : goal.returns-clause-knows
returns-clause-knows c =
    let k : KnownView = c.in_ok-known.known in
    subst (λ (x : KnownView). KnowsFor x (state_of c.args.state.now)) (sym c.in_ok-new.ensures.ok)
    (knows_by_named k (state_of c.args.state.now) (tree_read c.loaded-reading.result) c.in_ok-held.held.items c.in_ok-extra.extra.items c.loaded-reading.ensures c.in_ok-known.ensures.made
    c.in_ok-known.ensures.extra c.in_ok-known.ensures.lasting c.in_ok-held.ensures c.in_ok-extra.ensures.known)

pub returns-clause-held : goal.returns-clause-held
returns-clause-held c =
    subst (λ (x : KnownView). (unit : List ℕ) → Contains x.extra unit → IsHeld (state_of c.args.state.now) unit) (sym c.in_ok-new.ensures.ok)
    (λ unit among. (c.in_ok-held.ensures unit).0 (c.in_ok-extra.ensures.only unit (subst (λ xs. Contains xs unit) c.in_ok-known.ensures.extra among)))

pub returns-in_err-held-clause-refused : goal.returns-in_err-held-clause-refused
returns-in_err-held-clause-refused c =
    let s = state_of c.args.state.now in
    full_on (IsFull s.loaded (IsHeld s)) c.from_residual.result refusals.NoMemory c.from_residual.ensures.1 (λ differs. absurd (differs refl))

pub returns-in_err-extra-clause-refused : goal.returns-in_err-extra-clause-refused
returns-in_err-extra-clause-refused c =
    let s = state_of c.args.state.now in
    full_on (IsFull s.loaded (IsHeld s)) c.from_residual-in_err-extra.result refusals.NoMemory c.from_residual-in_err-extra.ensures.1 (λ differs. absurd (differs refl))

pub returns-in_err-known-clause-refused : goal.returns-in_err-known-clause-refused
returns-in_err-known-clause-refused c =
    let s = state_of c.args.state.now in
    full_on (IsFull s.loaded (IsHeld s)) c.from_residual-in_err-known.result c.in_err-known.field-0.0 c.from_residual-in_err-known.ensures.1
    (λ differs.
    let r = c.in_err-known.ensures.refused differs in (
      r.0,
      full_less s.loaded (Contains c.in_ok-extra.extra.items) (IsHeld s) (λ unit among. (c.in_ok-held.ensures unit).0 (c.in_ok-extra.ensures.only unit among))
          (subst (λ tree. IsFull tree (Contains c.in_ok-extra.extra.items)) c.loaded-reading.ensures r.1),
    ))

pub returns-in_err-new-clause-refused : goal.returns-in_err-new-clause-refused
returns-in_err-new-clause-refused c =
    let s = state_of c.args.state.now in
    full_on (IsFull s.loaded (IsHeld s)) c.from_residual-in_err-new.result refusals.NoMemory c.from_residual-in_err-new.ensures.1 (λ differs. absurd (differs refl))
