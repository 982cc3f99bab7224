use Rattle.std.proofs.Common.{◌∙◌, Vec, Global, ap}
use Rattle.um_state.specs.declared.row.Row.{Row}
use Rattle.um_state.proofs.MarkLaws.{no_difference}
use Rattle.um_state.proofs.WorkLaws.{changed_more, changed_no_more}
use Rattle.um_state.proofs.work.changed_rows.Goals as goal
use Rattle.um_state.proofs.work.changed_rows.Goals.{then-marked-number+in_ok-note_change, else-marked-number}

pub loop-number-preserved : goal.loop-number-preserved
loop-number-preserved c =
    let u = c.args.units.now in
    let had = c.args.had.now in
    let jobs = c.args.jobs.now in
    let k = c.loop-number.number in
    elim c.if-marked-number.branch [
      | then-marked-number+in_ok-note_change w ↦
          ap (λ (rows : Vec Row Global). rows.items) w.rows-is
          ∙ changed_more u.was had u.now jobs k c.loop-number.rows.items w.note_change.new.rows.items w.in_ok-note_change.ensures c.loop-number.invariant
      | else-marked-number w ↦
          ap (λ (rows : Vec Row Global). rows.items) w.rows-is
          ∙ changed_no_more u.was had u.now jobs k c.loop-number.rows.items (no_difference c.args.marked.now u.was u.now had jobs c.requires.kept k w.if-marked-number.false) c.loop-number.invariant
    ]
