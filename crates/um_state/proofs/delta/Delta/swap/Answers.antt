use Rattle.std.proofs.Common.{◌≡◌, ◌∙◌, refl, ap, arith}
use Rattle.std.proofs.lemmas.List.{with_items_is}
use Rattle.um_model.specs.Standing.{Standing}
use Rattle.um_state.specs.Rows.{rows_before, timed}
use Rattle.um_state.proofs.delta.Delta.swap.Goals as goal

pub returns-clause-back : goal.returns-clause-back
returns-clause-back c =
    let s = c.args.state.now in
    let rows : rows_before c.swap_rows.new.rows c.swap_rows.new.state ≡ timed c.args.self.now.clock c.args.self.now.next s = c.swap_rows.ensures.back ∙ c.set_times.ensures in
    let written = with_items_is c.args.self.now.rows c.swap_rows.new.rows (omega (arith, c.swap_rows.auto.rows, c.deref_mut.ensures.len)) in
    let whole : timed s.state.clock s.state.next s ≡ s = refl in
    ap (λ rs. timed c.clock-clock.result c.next-next.result (rows_before rs c.swap_rows.new.state)) written
    ∙ ◌∙◌ {A = Standing} (λ j. timed (c.clock-clock.ensures j) (c.next-next.ensures j) (rows j)) whole
