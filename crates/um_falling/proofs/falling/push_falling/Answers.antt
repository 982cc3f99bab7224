use Rattle.std.proofs.Common.{◌≡◌, ◌∙◌, ◌++◌, ℕ, List, [], true, cond, Result, Ok, Err, OnOk, sym, ap, subst}
use Rattle.std.proofs.lemmas.Option.{same_Some}
use Rattle.um_graph.specs.Graph.{GraphView, IsNumberOf, row_of}
use Rattle.um_graph.specs.declared.row.Neighbour.{Neighbour}
use Rattle.um_model.specs.Machine.{State}
use Rattle.um_model.specs.Transitions.{comes_to_rest}
use Rattle.um_model.specs.declared.service.SubState.{SubState}
use Rattle.um_model.specs.declared.service.UnitState.{UnitState}
use Rattle.um_falling.specs.Falling.{AddsFalling, falling_from, sub_of}
use Rattle.um_state.specs.View.{state_of}
use Rattle.um_falling.proofs.falling.push_falling.Goals as goal

then_ok : {T E P Q : Type 0} (r : Result T E) → (P → Q) → OnOk r P → OnOk r Q
then_ok (Ok x) f h = f h
then_ok (Err e) f h = h

-- the row is that of the unit of this name
adds_row : (g : GraphView) (s : State) (before : SubState) (name : List ℕ) (around : List Neighbour) (list after : List ℕ)
    → ((unit : ℕ) → IsNumberOf g unit name → around ≡ row_of g.rows unit) → comes_to_rest before (sub_of s name) ≡ true
    → after ≡ falling_from s around 0 g.names ++ list → AddsFalling g s before name list after
adds_row g s before name around list after row_is rests e unit is =
    e ∙ ap (λ l. l ++ list) (
    ap (λ r. falling_from s r 0 g.names) (row_is unit is)
    ∙ sym (ap (λ b. cond b (falling_from s (row_of g.rows unit) 0 g.names) []) rests))

pub returns : goal.returns
returns c =
    let v = c.args.work.now in
    then_ok c.push_bound.result
    (λ e name number.
    let named = subst (λ g. IsNumberOf g c.args.unit c.in-Some.name.now) c.graph.ensures.graph (sym (rw c.in-Some.is at c.name.ensures)) in
    let same = same_Some c.in-Some.name.now name (sym named ∙ number) in
    subst (λ n. AddsFalling v.graph (state_of v.now) c.args.before n c.args.list.now.items c.push_bound.new.list.items) same
    (adds_row v.graph (state_of v.now) c.args.before c.in-Some.name.now c.neighbours_of.result.now c.args.list.now.items c.push_bound.new.list.items
    (subst (λ g. (unit : ℕ) → IsNumberOf g unit c.in-Some.name.now → c.neighbours_of.result.now ≡ row_of g.rows unit) c.graph-2.ensures.graph c.neighbours_of.ensures.row)
    (ap (λ (u : UnitState). comes_to_rest c.args.before u.sub) (sym (c.unit.ensures.state c.in-Some.name.now named)) ∙ (sym c.comes_to_rest.ensures ∙ c.if-not-comes_to_rest.false))
    e))
    c.push_bound.ensures
