use Rattle.std.proofs.Common.{[], Contains, arith, inl, inr, subst, sym}
use Rattle.um_model.specs.Dependencies.{IsKnown, extra}
use Rattle.um_model.specs.Reached.{first}
use Rattle.um_laws.proofs.KnownLaws.{known_grows}
use Rattle.um_unit.specs.View.{tree_read}
use Rattle.um_engine.proofs.known.unnamed.Goals as goal

pub returns-then-is_empty-clause-known : goal.returns-then-is_empty-clause-known
returns-then-is_empty-clause-known c = λ unit there. first (extra there)

pub returns-clause-known : goal.returns-clause-known
returns-clause-known c = λ unit there.
    let tree = (tree_read c.args.reading) in
    let others = c.in_ok-others.others.items in
    elim (c.in_ok-others.ensures.has unit (subst (λ xs. Contains xs unit) (sym c.deref.ensures.value) there)) as (λ _. IsKnown tree (Contains others) unit) [
      | inl other ↦ first (extra other)
      | inr known ↦
          known_grows tree (Contains []) (Contains others) (λ x e. absurd (omega (arith, e.1))) unit
          ((c.in_ok-known.ensures.known unit).0 (subst (λ xs. Contains xs unit) c.deref-2.ensures.value known))
    ]

pub returns-clause-only : goal.returns-clause-only
returns-clause-only c unit there = subst (λ xs. Contains xs unit) c.deref.ensures.value (c.in_ok-others.ensures.only unit there)
