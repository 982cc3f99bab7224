use Rattle.std.proofs.Common.{◌≡◌, ◌↔◌, ◌∙◌, ℕ, List, Contains, ap, sym, subst, true, rules}
use Rattle.um_model.specs.Dependencies.{CountsFor}
use Rattle.um_model.specs.Machine.{IsHeld, State}
use Rattle.um_graph.specs.Graph.{GraphView}
use Rattle.um_state.specs.View.{state_of}
use Rattle.um_unit.specs.View.{tree_read}
use Rattle.um_engine.specs.Known.{KnownView, KnowsFor}
use Rattle.um_engine.proofs.KnownLaws.{count_found, works_knows}
use Rattle.um_engine.proofs.room.units_in.Goals as goal

pub fits_in-requires : goal.fits_in-requires
fits_in-requires c = c.requires.graph ∙ ap (λ (k : KnownView). k.graph) (sym c.known-known.ensures.known)

pub held_in-requires : goal.held_in-requires
held_in-requires c = c.requires.graph ∙ (ap (λ (k : KnownView). k.graph) (sym c.known-known.ensures.known) ∙ sym c.graph-2.ensures)

pub returns-then-fits_in : goal.returns-then-fits_in
returns-then-fits_in c =
    let w = c.args.work.now in
    let k = c.known-known.result.now in
    let told : c.fits_in.result ≡ true = search rules in
    let count = c.count.ensures.count ∙ ap (λ (g : GraphView). g.count) c.graph-then-fits_in.ensures in
    let knows : KnowsFor k (state_of w.now) = subst (λ (x : KnownView). KnowsFor x (state_of w.now)) (sym c.known-known.ensures.known) (works_knows c.args.served.now w c.known-known.ensures.knows c.requires c.graph.ensures.serves) in
    subst (CountsFor (state_of w.now).loaded (IsHeld (state_of w.now))) (sym count) (c.fits_in.ensures told knows).count

pub returns : goal.returns
returns c =
    let s : State = state_of c.args.work.now.now in
    let held : (x : List ℕ) → Contains c.deref.result.now x ↔ IsHeld s x =
    λ x. subst (λ xs. Contains xs x ↔ IsHeld s x) (sym c.deref.ensures.value) (c.in_ok-held.ensures x) in
    let tree : (tree_read c.loaded.result) ≡ s.loaded = c.loaded.ensures ∙ (ap (λ (v : State). v.loaded) c.state.ensures.state ∙ sym c.requires.loaded) in
    count_found s (tree_read c.loaded.result) c.deref.result.now tree held c.count_of.result c.count_of.ensures
