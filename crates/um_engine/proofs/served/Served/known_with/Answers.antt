use Rattle.std.proofs.Common.{◌↔◌, ℕ, List, Contains, ap, refl, sym, subst}
use Rattle.um_model.specs.Machine.{IsCrowded, IsHeldOr}
use Rattle.um_state.specs.View.{state_of}
use Rattle.um_wire.specs.Refusal.{refused_of}
use Rattle.um_engine.specs.Known.{IsFull, IsGraphFor, KnownView, KnowsFor}
use Rattle.um_engine.proofs.FitsLaws.{fits_here}
use Rattle.um_engine.proofs.KnownLaws.{knows_named}
use Rattle.um_model.specs.Dependencies.{IsKnown}
use Rattle.um_model.specs.Profiles.{lasting_tree}
use Rattle.um_engine.specs.Served.{ServedView}
use Rattle.um_engine.proofs.PlannedLaws.{refuses_on}
use Rattle.um_engine.proofs.SameUnitsLaws.{graph_by}
use Rattle.um_engine.proofs.served.Served.known_with.Goals as goal

pub returns-then-fits-clause-knows : goal.returns-then-fits-clause-knows
returns-then-fits-clause-knows c =
    subst (λ (k : KnownView). KnowsFor k c.args.self.now.state) (sym c.in_ok-clone.ensures.cases)
    (subst (λ (v : ServedView). KnowsFor c.self.inside.known.value v.state) c.self.view_is c.self.invariant.1)

pub returns-then-fits-clause-known : goal.returns-then-fits-clause-known
returns-then-fits-clause-known c =
    let s = state_of c.self.inside.state in
    let known = c.self.inside.known.value in
    let named = c.args.named.now in
    let fits = fits_here known c.deref.result.now s s named c.deref.ensures refl c.self.invariant.1 (c.fits.ensures.graph c.if-fits.true) in
    subst (λ (k : KnownView). IsGraphFor c.args.self.now.state.loaded (IsHeldOr c.args.self.now.state named) k.graph) (sym c.in_ok-clone.ensures.cases)
    (subst (λ (v : ServedView). IsGraphFor v.state.loaded (IsHeldOr v.state named) known.graph) c.self.view_is fits)

pub returns-then-fits-clause-refused : goal.returns-then-fits-clause-refused
returns-then-fits-clause-refused c = λ r crowded.
    let s = state_of c.self.inside.state in
    let named = c.args.named.now in
    let fits = fits_here c.self.inside.known.value c.deref.result.now s s named c.deref.ensures refl c.self.invariant.1 (c.fits.ensures.graph c.if-fits.true) in
    let here = subst (λ (v : ServedView). IsCrowded v.state.loaded (IsHeldOr v.state named) r) (sym c.self.view_is) crowded in
    fits.few here.many

pub returns-in_err-known-clause-refused : goal.returns-in_err-known-clause-refused
returns-in_err-known-clause-refused c =
    let s = state_of c.self.inside.state in
    let named = c.args.named.now in
    let e = c.in_err-known.field-0.0 in
    refuses_on (IsCrowded c.args.self.now.state.loaded (IsHeldOr c.args.self.now.state named)) c.from_residual-in_err-known.result e c.from_residual-in_err-known.ensures.1
    (λ differs.
    let full = c.in_err-known.ensures.refused differs in
    subst (λ (v : ServedView). IsCrowded v.state.loaded (IsHeldOr v.state named) (refused_of e)) c.self.view_is
    (record { many = subst (λ tree. IsFull tree (IsHeldOr s named)) c.loaded.ensures full.1; refusal = ap refused_of full.0 }))

pub returns-clause-refused : goal.returns-clause-refused
returns-clause-refused c = λ r crowded.
    let s = state_of c.self.inside.state in
    let named = c.args.named.now in
    let here = subst (λ (v : ServedView). IsCrowded v.state.loaded (IsHeldOr v.state named) r) (sym c.self.view_is) crowded in
    c.in_ok-known.ensures.few (subst (λ tree. IsFull tree (IsHeldOr s named)) (sym c.loaded.ensures) here.many)

pub returns-clause-knows : goal.returns-clause-knows
returns-clause-knows c =
    let s = state_of c.self.inside.state in
    let known = c.in_ok-known.known.value in
    subst (λ (v : ServedView). KnowsFor known v.state) c.self.view_is
    (knows_named known s c.args.named.now (subst (λ tree. IsGraphFor tree (Contains known.extra) known.graph) c.loaded.ensures c.in_ok-known.ensures.made)
    (subst (λ tree. (unit : List ℕ) → Contains known.lasting unit ↔ IsKnown (lasting_tree tree) (Contains known.extra) unit) c.loaded.ensures c.in_ok-known.ensures.lasting)
    c.in_ok-known.ensures.extra)

pub returns-clause-known : goal.returns-clause-known
returns-clause-known c =
    let s = state_of c.self.inside.state in
    let known = c.in_ok-known.known.value in
    let named = c.args.named.now in
    let made = subst (λ tree. IsGraphFor tree (Contains known.extra) known.graph) c.loaded.ensures c.in_ok-known.ensures.made in
    let exact = graph_by s.loaded (Contains known.extra) (IsHeldOr s named) c.in_ok-known.ensures.extra known.graph made in
    subst (λ (v : ServedView). IsGraphFor v.state.loaded (IsHeldOr v.state named) known.graph) c.self.view_is exact
