use Rattle.std.proofs.Common.{◌↔◌, ℕ, List, Contains, option_copied, refl, sym, subst}
use Rattle.um_model.specs.Dependencies.{IsKnown}
use Rattle.um_model.specs.Profiles.{lasting_tree}
use Rattle.um_state.specs.View.{state_of}
use Rattle.um_wire.specs.declared.refusal.Refusal.TheVariants as refusals
use Rattle.um_unit.specs.View.{tree_read}
use Rattle.um_engine.specs.Known.{IsFull, IsGraphFor, IsHeldWith, KnownView}
use Rattle.um_engine.proofs.KnownLaws.{full_on}
use Rattle.um_engine.proofs.SameUnitsLaws.{full_by}
use Rattle.um_engine.proofs.known.Known.of.Goals as goal

pub returns-in_err-extra-clause-refused : goal.returns-in_err-extra-clause-refused
returns-in_err-extra-clause-refused c =
    full_on (IsFull (tree_read c.args.reading) (IsHeldWith (state_of c.args.state.now) (option_copied c.args.named))) c.from_residual.result refusals.NoMemory c.from_residual.ensures.1 (λ differs. absurd (differs refl))

pub returns-in_err-known-clause-refused : goal.returns-in_err-known-clause-refused
returns-in_err-known-clause-refused c =
    let Held = IsHeldWith (state_of c.args.state.now) (option_copied c.args.named) in
    full_on (IsFull (tree_read c.args.reading) Held) c.from_residual-in_err-known.result c.in_err-known.field-0.0 c.from_residual-in_err-known.ensures.1
    (λ differs. let r = c.in_err-known.ensures.refused differs in (r.0, full_by (tree_read c.args.reading) (Contains c.in_ok-extra.extra.items) Held c.in_ok-extra.ensures r.1))

pub returns-in_err-new-clause-refused : goal.returns-in_err-new-clause-refused
returns-in_err-new-clause-refused c =
    full_on (IsFull (tree_read c.args.reading) (IsHeldWith (state_of c.args.state.now) (option_copied c.args.named))) c.from_residual-in_err-new.result refusals.NoMemory c.from_residual-in_err-new.ensures.1
    (λ differs. absurd (differs refl))

pub returns-clause-made : goal.returns-clause-made
returns-clause-made c = subst (λ (k : KnownView). IsGraphFor (tree_read c.args.reading) (Contains k.extra) k.graph) (sym c.in_ok-new.ensures.ok) c.in_ok-known.ensures.made

pub returns-clause-lasting : goal.returns-clause-lasting
returns-clause-lasting c =
    subst (λ (k : KnownView). (unit : List ℕ) → Contains k.lasting unit ↔ IsKnown (lasting_tree (tree_read c.args.reading)) (Contains k.extra) unit) (sym c.in_ok-new.ensures.ok) c.in_ok-known.ensures.lasting

pub returns-clause-extra : goal.returns-clause-extra
returns-clause-extra c =
    let Held = IsHeldWith (state_of c.args.state.now) (option_copied c.args.named) in
    subst (λ (k : KnownView). (unit : List ℕ) → Contains k.extra unit ↔ Held unit) (sym c.in_ok-new.ensures.ok)
    (subst (λ xs. (unit : List ℕ) → Contains xs unit ↔ Held unit) (sym c.in_ok-known.ensures.extra) c.in_ok-extra.ensures)

pub returns-clause-few : goal.returns-clause-few
returns-clause-few c full =
    let Held = IsHeldWith (state_of c.args.state.now) (option_copied c.args.named) in
    c.in_ok-known.ensures.few (full_by (tree_read c.args.reading) Held (Contains c.in_ok-extra.extra.items) (λ x. ((c.in_ok-extra.ensures x).1, (c.in_ok-extra.ensures x).0)) full)
