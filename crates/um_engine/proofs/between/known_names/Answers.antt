use Rattle.std.proofs.Common.{◌≡◌, ◌↔◌, ◌∙◌, ℕ, List, Contains, ap, subst, sym}
use Rattle.std.specs.List.{list_any}
use Rattle.std.specs.Str.{bytes_eq}
use Rattle.um_model.specs.Dependencies.{IsKnown}
use Rattle.um_model.specs.Machine.{State, IsHeld}
use Rattle.um_name.specs.Names.{AreAscending}
use Rattle.um_state.specs.View.{state_of}
use Rattle.um_unit.specs.View.{tree_read}
use Rattle.um_engine.specs.Known.{KnownView, KnowsFor}
use Rattle.um_engine.proofs.NamesLaws.{known_by_list}
use Rattle.um_engine.proofs.between.known_names.Goals as goal

pub returns-then-is_exact-clause-known : goal.returns-then-is_exact-clause-known
returns-then-is_exact-clause-known c unit =
    let s = c.args.served.now.state in
    let k : KnownView = c.known-known.result.now in
    let knows : KnowsFor k (state_of c.state-state.result.now) =
    subst (KnowsFor k) (sym c.state-state.ensures.state) (subst (λ (x : KnownView). KnowsFor x s) (sym c.known-known.ensures.known) c.known-known.ensures.knows) in
    let exact = c.is_exact.ensures c.if-is_exact.true knows in
    let known : Contains k.graph.names unit ↔ IsKnown s.loaded (IsHeld s) unit =
    subst (λ (x : State). Contains k.graph.names unit ↔ IsKnown x.loaded (IsHeld x) unit) c.state-state.ensures.state (exact.known unit) in
    subst (λ ns. Contains ns unit ↔ IsKnown s.loaded (IsHeld s) unit) (sym (c.in_ok-names.ensures.same ∙ c.names.ensures)) known

pub returns-then-is_exact-clause-ascending : goal.returns-then-is_exact-clause-ascending
returns-then-is_exact-clause-ascending c =
    subst AreAscending (sym (c.in_ok-names.ensures.same ∙ (c.names.ensures ∙ ap (λ (k : KnownView). k.graph.names) c.known-known.ensures.known))) c.known-known.ensures.knows.made.of.sorted

pub returns-clause-known : goal.returns-clause-known
returns-clause-known c =
    let s = state_of c.state-state.result.now in
    let held = c.in_ok-held.held.items in
    let units = c.in_ok-units.units.items in
    subst (λ (x : State). (unit : List ℕ) → Contains c.in_ok-names-2.names unit ↔ IsKnown x.loaded (IsHeld x) unit) c.state-state.ensures.state
    (known_by_list (tree_read c.loaded.result) s c.in_ok-names-2.names held units c.loaded.ensures c.in_ok-held.ensures
    (subst (λ xs. (unit : List ℕ) → Contains units unit ↔ IsKnown (tree_read c.loaded.result) (Contains xs) unit) c.deref.ensures.value c.in_ok-units.ensures.known)
    (subst (λ xs. (unit : List ℕ) → list_any (bytes_eq unit) c.in_ok-names-2.names ≡ list_any (bytes_eq unit) xs) c.deref-2.ensures.value c.in_ok-names-2.ensures.whole))

pub returns-clause-ascending : goal.returns-clause-ascending
returns-clause-ascending c = c.in_ok-names-2.ensures.ascending
