use Rattle.std.proofs.Common.{◌≡◌, ◌∙◌, ap, subst, sym}
use Rattle.um_model.specs.Machine.{State}
use Rattle.um_model.specs.Standing.{Standing}
use Rattle.um_state.specs.View.{state_of}
use Rattle.um_state.specs.Working.{CountsDiffering}
use Rattle.um_engine.specs.Known.{KnownView}
use Rattle.um_engine.proofs.NamesLaws.{none_held_apart}
use Rattle.um_engine.proofs.between.rows_by_name.Goals as goal

pub rows_to-requires-clause-base : goal.rows_to-requires-clause-base
rows_to-requires-clause-base c = c.in_ok-number.ensures.common

pub rows_to-requires-clause-after : goal.rows_to-requires-clause-after
rows_to-requires-clause-after c = ap (λ (x : Standing). x.common) c.standing.ensures

pub rows_to-requires-clause-same : goal.rows_to-requires-clause-same
rows_to-requires-clause-same c =
    let s = c.args.served.now.state in
    let t = c.args.after.now.state in
    let k = c.args.after.now.known in
    let names = c.names.ensures ∙ ap (λ (x : KnownView). x.graph.names) c.known.ensures.known in
    let base = c.in_ok-base.ensures ∙ c.state.ensures.state in
    let same : state_of c.number.new.self ≡ s = c.in_ok-number.ensures.state (none_held_apart k s t (state_of c.in_ok-base.base) c.known.ensures.knows c.requires.known base c.names.result.now names) ∙ base in
    let after = ap state_of c.standing.ensures in
    record {
      tree = ap (λ (x : State). x.tree) after ∙ (c.requires.trees.tree ∙ sym (ap (λ (x : State). x.tree) same));
      loaded = ap (λ (x : State). x.loaded) after ∙ (c.requires.trees.loaded ∙ sym (ap (λ (x : State). x.loaded) same));
      boot = ap (λ (x : State). x.boot) after ∙ (c.requires.trees.boot ∙ sym (ap (λ (x : State). x.boot) same));
      names = ap (λ (x : Standing). x.names) c.standing.ensures ∙ sym (c.in_ok-number.ensures.names ∙ names);
    }

pub returns : goal.returns
returns c =
    let s = c.args.served.now.state in
    let t = c.args.after.now.state in
    let k = c.args.after.now.known in
    let names = c.names.ensures ∙ ap (λ (x : KnownView). x.graph.names) c.known.ensures.known in
    let base = c.in_ok-base.ensures ∙ c.state.ensures.state in
    let same : state_of c.number.new.self ≡ s = c.in_ok-number.ensures.state (none_held_apart k s t (state_of c.in_ok-base.base) c.known.ensures.knows c.requires.known base c.names.result.now names) ∙ base in
    subst (λ (x : State). CountsDiffering x t c.in_ok-rows.rows) same
    (subst (λ (x : State). CountsDiffering (state_of c.number.new.self) x c.in_ok-rows.rows) (ap state_of c.standing.ensures) c.in_ok-rows.ensures)
