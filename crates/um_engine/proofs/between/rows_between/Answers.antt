use Rattle.std.proofs.Common.{◌∙◌, sym, subst, true≢false}
use Rattle.std.proofs.lemmas.Option.{none-some}
use Rattle.um_model.specs.Machine.{State}
use Rattle.um_state.specs.View.{state_of}
use Rattle.um_engine.specs.Engine.{AreTrees, HasSameTrees}
use Rattle.um_engine.proofs.between.rows_between.Goals as goal

pub are_same-requires : goal.are_same-requires
are_same-requires c =
    subst (λ (x : State). AreTrees c.args.trees x (state_of c.state-2.result.now)) (sym c.state.ensures.state)
    (subst (AreTrees c.args.trees c.args.served.now.state) (sym c.state-2.ensures.state) c.requires)

pub returns-then-not-are_same-clause-none : goal.returns-then-not-are_same-clause-none
returns-then-not-are_same-clause-none c none same =
    let here = subst (λ (x : State). HasSameTrees x (state_of c.state-2.result.now)) (sym c.state.ensures.state)
    (subst (HasSameTrees c.args.served.now.state) (sym c.state-2.ensures.state) same.trees) in
    true≢false (sym (c.are_same.ensures.1 here) ∙ c.if-not-are_same.true)

pub returns-then-not-same-clause-none : goal.returns-then-not-same-clause-none
returns-then-not-same-clause-none c none same = true≢false (sym (c.in_ok-same.ensures.1 same.known) ∙ c.if-not-same.true)

pub rows_by_name-requires : goal.rows_by_name-requires
rows_by_name-requires c =
    let here = c.are_same.ensures.0 c.if-not-are_same.false in
    record {
      trees = subst (λ (x : State). HasSameTrees x c.args.after.now.state) c.state.ensures.state
          (subst (HasSameTrees (state_of c.state.result.now)) c.state-2.ensures.state here);
      known = c.in_ok-same.ensures.0 c.if-not-same.false;
    }

pub returns-clause-rows : goal.returns-clause-rows
returns-clause-rows c =
    let here = c.are_same.ensures.0 c.if-not-are_same.false in
    let same = subst (λ (x : State). HasSameTrees x c.args.after.now.state) c.state.ensures.state
    (subst (HasSameTrees (state_of c.state.result.now)) c.state-2.ensures.state here) in
    (same.tree, same.loaded, c.in_ok-rows.ensures)

pub returns-clause-none : goal.returns-clause-none
returns-clause-none c none = absurd (none-some c.in_ok-rows.rows (sym none))
