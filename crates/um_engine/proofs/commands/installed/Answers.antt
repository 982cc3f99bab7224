use Rattle.std.proofs.Common.{◌≡◌, ◌∙◌, ℕ, List, refl, ap, subst, sym}
use Rattle.um_model.specs.Install.{Installs, RefusesLinks, RefusesUnits, paths_beyond}
use Rattle.um_model.specs.Machine as model
use Rattle.um_model.specs.Machine.{IsCrowded, IsHeld}
use Rattle.um_model.specs.Profiles.{ReadTree, read_by}
use Rattle.um_model.specs.Refusals.{Refused}
use Rattle.um_state.specs.View.{state_of}
use Rattle.um_unit.specs.View.{tree_read}
use Rattle.um_wire.specs.Refusal.{refused_of}
use Rattle.um_engine.specs.Known.{IsFull, KnownView, KnowsFor}
use Rattle.um_engine.proofs.Causes.{by_links, by_crowd_of_install, by_units, by_circle, free_to_install, installs_to}
use Rattle.um_engine.proofs.KnownLaws.{knows_made}
use Rattle.um_engine.proofs.PlannedLaws.{refuses_on}
use Rattle.um_engine.proofs.commands.installed.Goals as goal

-- the same is answered
relinks : (made made' removed removed' : List (List ℕ)) → made ≡ made' → removed ≡ removed' → model.Relinked made removed ≡ model.Relinked made' removed'
relinks made made' removed removed' e f = cc

pub returns-in_err-tree-clause-refused : goal.returns-in_err-tree-clause-refused
returns-in_err-tree-clause-refused c =
    let s = state_of c.args.state.now in
    let e = c.in_err-tree.field-0.0 in
    refuses_on (model.Refuses c.args.profile s (model.Install c.args.verb c.args.unit.now)) c.from_residual.result e c.from_residual.ensures.1
    (λ differs. by_links c.args.profile s c.args.verb c.args.unit.now (refused_of e)
    (subst (λ t. RefusesLinks (read_by c.args.profile t) c.args.verb c.args.unit.now (refused_of e)) c.tree.ensures (c.in_err-tree.ensures.refused differs)))

pub returns-in_err-known-clause-refused : goal.returns-in_err-known-clause-refused
returns-in_err-known-clause-refused c =
    let s = state_of c.args.state.now in
    let tree = c.in_ok-tree.field-0.tree in
    let made : Installs (read_by c.args.profile s.tree) c.args.verb c.args.unit.now tree = subst (λ t. Installs (read_by c.args.profile t) c.args.verb c.args.unit.now tree) c.tree.ensures c.in_ok-tree.ensures.installed in
    let linked : (q : Refused) → ¬ RefusesLinks (read_by c.args.profile s.tree) c.args.verb c.args.unit.now q =
    subst (λ t. (q : Refused) → ¬ RefusesLinks (read_by c.args.profile t) c.args.verb c.args.unit.now q) c.tree.ensures c.in_ok-tree.ensures.refused in
    let e = c.in_err-known.field-0.0 in
    refuses_on (model.Refuses c.args.profile s (model.Install c.args.verb c.args.unit.now)) c.from_residual-in_err-known.result e c.from_residual-in_err-known.ensures.1
    (λ differs. let full = c.in_err-known.ensures.refused differs in
    by_crowd_of_install c.args.profile s c.args.verb c.args.unit.now tree made linked (refused_of e)
    (record { many = subst (λ (x : ReadTree). IsFull x (IsHeld s)) c.as_loaded.ensures full.1; refusal = ap refused_of full.0 }))

pub returns-in_err-check_units-clause-refused : goal.returns-in_err-check_units-clause-refused
returns-in_err-check_units-clause-refused c =
    let s = state_of c.args.state.now in
    let tree = c.in_ok-tree.field-0.tree in
    let made : Installs (read_by c.args.profile s.tree) c.args.verb c.args.unit.now tree = subst (λ t. Installs (read_by c.args.profile t) c.args.verb c.args.unit.now tree) c.tree.ensures c.in_ok-tree.ensures.installed in
    let linked : (q : Refused) → ¬ RefusesLinks (read_by c.args.profile s.tree) c.args.verb c.args.unit.now q =
    subst (λ t. (q : Refused) → ¬ RefusesLinks (read_by c.args.profile t) c.args.verb c.args.unit.now q) c.tree.ensures c.in_ok-tree.ensures.refused in
    let loaded = model.as_loaded c.args.profile s tree in
    let few : (q : Refused) → ¬ IsCrowded loaded (IsHeld s) q =
    λ q h. c.in_ok-known.ensures.few (subst (λ (x : ReadTree). IsFull x (IsHeld s)) (sym c.as_loaded.ensures) h.many) in
    let e = c.in_err-check_units.field-0.0 in
    refuses_on (model.Refuses c.args.profile s (model.Install c.args.verb c.args.unit.now)) c.from_residual-in_err-check_units.result e c.from_residual-in_err-check_units.ensures.1
    (λ differs. by_units c.args.profile s c.args.verb c.args.unit.now tree made linked few (refused_of e)
    (subst (λ t. RefusesUnits (read_by c.args.profile t) c.args.verb c.args.unit.now (refused_of e)) c.tree.ensures (c.in_err-check_units.ensures differs)))

pub returns-in_err-check_order-clause-refused : goal.returns-in_err-check_order-clause-refused
returns-in_err-check_order-clause-refused c =
    let s = state_of c.args.state.now in
    let tree = c.in_ok-tree.field-0.tree in
    let made : Installs (read_by c.args.profile s.tree) c.args.verb c.args.unit.now tree = subst (λ t. Installs (read_by c.args.profile t) c.args.verb c.args.unit.now tree) c.tree.ensures c.in_ok-tree.ensures.installed in
    let linked : (q : Refused) → ¬ RefusesLinks (read_by c.args.profile s.tree) c.args.verb c.args.unit.now q =
    subst (λ t. (q : Refused) → ¬ RefusesLinks (read_by c.args.profile t) c.args.verb c.args.unit.now q) c.tree.ensures c.in_ok-tree.ensures.refused in
    let loaded = model.as_loaded c.args.profile s tree in
    let few : (q : Refused) → ¬ IsCrowded loaded (IsHeld s) q =
    λ q h. c.in_ok-known.ensures.few (subst (λ (x : ReadTree). IsFull x (IsHeld s)) (sym c.as_loaded.ensures) h.many) in
    let able : (q : Refused) → ¬ RefusesUnits (read_by c.args.profile s.tree) c.args.verb c.args.unit.now q =
    subst (λ t. (q : Refused) → ¬ RefusesUnits (read_by c.args.profile t) c.args.verb c.args.unit.now q) c.tree.ensures c.in_ok-check_units.ensures in
    let k : KnownView = c.in_ok-known.known.value in
    let knows : KnowsFor k (record s { loaded = loaded }) =
    subst (λ (x : ReadTree). KnowsFor k (record s { loaded = x })) c.as_loaded.ensures
    (knows_made k s (tree_read c.as_loaded.result) c.in_ok-known.ensures.made c.in_ok-known.ensures.lasting c.in_ok-known.ensures.extra) in
    let e = c.in_err-check_order.field-0.0 in
    refuses_on (model.Refuses c.args.profile s (model.Install c.args.verb c.args.unit.now)) c.from_residual-in_err-check_order.result e c.from_residual-in_err-check_order.ensures.1
    (λ differs. by_circle c.args.profile s c.args.verb c.args.unit.now tree made linked few able (refused_of e) (c.in_err-check_order.ensures loaded (subst (λ (x : KnownView). KnowsFor x (record s { loaded = loaded })) (sym c.deref.ensures) knows) differs))

pub with_tree-requires : goal.with_tree-requires
with_tree-requires c =
    let s = state_of c.args.state.now in
    let k : KnownView = c.in_ok-known.known.value in
    subst (λ (x : ReadTree). KnowsFor k (record s { loaded = x })) c.as_loaded.ensures
    (knows_made k s (tree_read c.as_loaded.result) c.in_ok-known.ensures.made c.in_ok-known.ensures.lasting c.in_ok-known.ensures.extra)

pub returns-clause-changed : goal.returns-clause-changed
returns-clause-changed c =
    let s = state_of c.args.state.now in
    let tree = c.in_ok-tree.field-0.tree in
    installs_to c.args.profile s s c.in_ok-served.served.state c.args.verb c.args.unit.now tree refl
    (subst (λ t. Installs (read_by c.args.profile t) c.args.verb c.args.unit.now tree) c.tree.ensures c.in_ok-tree.ensures.installed) c.in_ok-served.ensures

pub returns-clause-refused : goal.returns-clause-refused
returns-clause-refused c =
    let s = state_of c.args.state.now in
    let tree = c.in_ok-tree.field-0.tree in
    let made : Installs (read_by c.args.profile s.tree) c.args.verb c.args.unit.now tree = subst (λ t. Installs (read_by c.args.profile t) c.args.verb c.args.unit.now tree) c.tree.ensures c.in_ok-tree.ensures.installed in
    let linked : (q : Refused) → ¬ RefusesLinks (read_by c.args.profile s.tree) c.args.verb c.args.unit.now q =
    subst (λ t. (q : Refused) → ¬ RefusesLinks (read_by c.args.profile t) c.args.verb c.args.unit.now q) c.tree.ensures c.in_ok-tree.ensures.refused in
    let loaded = model.as_loaded c.args.profile s tree in
    let few : (q : Refused) → ¬ IsCrowded loaded (IsHeld s) q =
    λ q h. c.in_ok-known.ensures.few (subst (λ (x : ReadTree). IsFull x (IsHeld s)) (sym c.as_loaded.ensures) h.many) in
    let able : (q : Refused) → ¬ RefusesUnits (read_by c.args.profile s.tree) c.args.verb c.args.unit.now q =
    subst (λ t. (q : Refused) → ¬ RefusesUnits (read_by c.args.profile t) c.args.verb c.args.unit.now q) c.tree.ensures c.in_ok-check_units.ensures in
    let k : KnownView = c.in_ok-known.known.value in
    let knows : KnowsFor k (record s { loaded = loaded }) =
    subst (λ (x : ReadTree). KnowsFor k (record s { loaded = x })) c.as_loaded.ensures
    (knows_made k s (tree_read c.as_loaded.result) c.in_ok-known.ensures.made c.in_ok-known.ensures.lasting c.in_ok-known.ensures.extra) in
    free_to_install c.args.profile s c.args.verb c.args.unit.now tree made linked few able (c.in_ok-check_order.ensures loaded (subst (λ (x : KnownView). KnowsFor x (record s { loaded = loaded })) (sym c.deref.ensures) knows))

pub returns-clause-reply : goal.returns-clause-reply
returns-clause-reply c =
    let s = state_of c.args.state.now in
    let tree = c.in_ok-tree.field-0.tree in
    let now = sym (ap (λ (x : model.State). x.tree) c.in_ok-served.ensures) in
    relinks _ _ _ _ (c.in_ok-tree.ensures.made ∙ (ap (λ t. paths_beyond t tree) c.tree.ensures ∙ ap (paths_beyond s.tree) now))
    (c.in_ok-tree.ensures.removed ∙ (ap (paths_beyond tree) c.tree.ensures ∙ ap (λ t. paths_beyond t s.tree) now))
