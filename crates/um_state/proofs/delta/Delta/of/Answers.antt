use Rattle.std.proofs.Common.{◌≡◌, ◌∙◌, ap, subst, sym, vec_len}
use Rattle.um_model.specs.Standing.{Standing}
use Rattle.um_state.specs.Rows.{timed}
use Rattle.um_state.specs.View.{state_of}
use Rattle.um_state.specs.Working.{CountsDiffering}
use Rattle.um_state.proofs.delta.Delta.of.Goals as goal

pub returns-clause-after : goal.returns-clause-after
returns-clause-after c = c.in_ok-rows.ensures.after c.args.clock c.next-next.result ∙ ap (λ n. timed c.args.clock n c.args.work.now.now) c.next-next.ensures

pub returns-clause-count : goal.returns-clause-count
returns-clause-count c =
    let v = c.args.work.now in
    let made = c.in_ok-rows.ensures.after c.args.clock c.next-next.result in
    let count = c.in_ok-rows.ensures.count in
    let same : CountsDiffering (state_of v.base) (state_of (timed c.args.clock c.next-next.result v.now)) (vec_len c.in_ok-rows.rows) =
    record { differing = count.differing; count = count.count; once = count.once; exact = count.exact } in
    subst (λ (t : Standing). CountsDiffering (state_of v.base) (state_of t) (vec_len c.in_ok-rows.rows)) (sym made) same
