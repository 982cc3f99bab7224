use Rattle.std.proofs.Common.{◌∙◌, ◌≡◌, arith, length, vec_len}
use Rattle.um_state.specs.Working.{changed}
use Rattle.um_state.proofs.WorkLaws.{work_after, work_counts}
use Rattle.um_state.proofs.Results.{if_ok_more}
use Rattle.um_state.proofs.work.Work.changed.Goals as goal

pub returns-clause-after : goal.returns-clause-after
returns-clause-after c =
    let s = c.self.inside in
    let was = s.was in
    let rows = c.deref-2.result.now in
    let all : changed s.units.was was.jobs.now s.units.now rows (length rows) ≡ changed was.units.now was.jobs.now s.units.now s.jobs.items (length s.jobs.items) =
    λ i. changed (c.self.invariant.0 i) was.jobs.now s.units.now (c.deref-2.ensures.value i) (length (c.deref-2.ensures.value i)) in
    let are = c.self.invariant.3 in
    if_ok_more c.changed_rows.result
    (λ found made. work_after c.args.self.now s.base.now s.units.now s.jobs.items s.next c.self.view_is are.ascending
    was.units.now was.jobs.now are.units are.pending are.units_len are.jobs_len (omega arith) (omega arith) found.items (made ∙ all)) c.changed_rows.ensures

pub returns-clause-count : goal.returns-clause-count
returns-clause-count c =
    let s = c.self.inside in
    let was = s.was in
    let rows = c.deref-2.result.now in
    let all : changed s.units.was was.jobs.now s.units.now rows (length rows) ≡ changed was.units.now was.jobs.now s.units.now s.jobs.items (length s.jobs.items) =
    λ i. changed (c.self.invariant.0 i) was.jobs.now s.units.now (c.deref-2.ensures.value i) (length (c.deref-2.ensures.value i)) in
    let are = c.self.invariant.3 in
    if_ok_more c.changed_rows.result
    (λ found made. work_counts c.args.self.now s.base.now s.units.now s.jobs.items s.next c.self.view_is are.ascending
    was.units.now was.jobs.now are.units are.pending are.units_len are.jobs_len (omega arith) (omega arith) found.items (made ∙ all) (vec_len found) (omega arith)) c.changed_rows.ensures
