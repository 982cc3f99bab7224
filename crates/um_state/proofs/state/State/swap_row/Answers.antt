use Rattle.std.proofs.Common.{◌≡◌, ◌∙◌, [], ap, sym}
use Rattle.um_model.specs.Profiles.{read_by}
use Rattle.um_model.specs.Machine.{State}
use Rattle.um_model.specs.Standing.{Standing}
use Rattle.um_state.specs.Rows.{common_names, put_row}
use Rattle.um_state.specs.declared.row.Row.{Row}
use Rattle.um_state.proofs.StateRows.{row_back, row_nowhere, row_put, state_with}
use Rattle.um_state.proofs.state.State.swap_row.Goals as goal

pub returns-then-self-clause-state : goal.returns-then-self-clause-state
returns-then-self-clause-state c =
    let x = c.self.inside in
    let r = c.args.row.now in
    row_put (state_with x.tree (read_by x.profile x.loaded) x.boot x.clock x.next) x.is_common c.if-self.true x.units c.swap.new.self x.pending c.swap-then-self.new.self (c.self.invariant c.if-self.true) c.swap.ensures.names
    r c.swap.ensures.held c.swap-then-self.ensures.held ∙ ap (put_row r) c.self.view_is

pub returns-then-self-clause-back : goal.returns-then-self-clause-back
returns-then-self-clause-back c =
    let x = c.self.inside in
    let r : Row = record { number = c.args.row.now.number; unit = c.swap.new.state; jobs = c.swap-then-self.new.jobs } in
    row_back (state_with x.tree (read_by x.profile x.loaded) x.boot x.clock x.next) x.is_common c.if-self.true x.units c.swap.new.self x.pending c.swap-then-self.new.self (c.self.invariant c.if-self.true) c.swap.ensures.names
    c.swap-then-self.ensures.names r c.swap.ensures.back c.swap-then-self.ensures.back ∙ c.self.view_is

pub returns-else-self-clause-state : goal.returns-else-self-clause-state
returns-else-self-clause-state c =
    let none : c.args.self.now.names ≡ [] = sym (ap (λ (s : Standing). s.names) c.self.view_is) ∙ ap (λ b. common_names b c.self.inside.units.names) c.if-self.false in
    sym (row_nowhere c.args.row.now c.args.self.now none)

pub returns-else-self-clause-back : goal.returns-else-self-clause-back
returns-else-self-clause-back c =
    let none : c.args.self.now.names ≡ [] = sym (ap (λ (s : Standing). s.names) c.self.view_is) ∙ ap (λ b. common_names b c.self.inside.units.names) c.if-self.false in
    row_nowhere c.args.row.now c.args.self.now none
