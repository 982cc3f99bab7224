use Rattle.um_model.specs.Profiles.{read_by}
use Rattle.um_state.specs.declared.row.Numbered.{Numbered}
use Rattle.um_state.proofs.StateRows.{rows_are, state_with}
use Rattle.um_state.proofs.state.State.numbered.Goals as goal

pub returns-clause-rows : goal.returns-clause-rows
returns-clause-rows c =
    let x = c.self.inside in
    let n : Numbered = record { names = c.numbers.result; units = c.rows.result; jobs = c.rows-2.result } in
    rows_are (state_with x.tree (read_by x.profile x.loaded) x.boot x.clock x.next) x.is_common c.if-not-self.false x.units x.pending (c.self.invariant c.if-not-self.false) n
    c.numbers.ensures.names c.rows.ensures.held c.rows.ensures.len c.rows.ensures.ascending c.rows-2.ensures.held c.rows-2.ensures.len c.args.self.now c.self.view_is
