use Rattle.std.proofs.Common.{◌∙◌, ap, sym}
use Rattle.um_model.specs.Machine.{is_waiting}
use Rattle.um_model.specs.declared.jobs.UnitJobs.{UnitJobs}
use Rattle.um_name.specs.Names.{name_at}
use Rattle.um_state.specs.View.{state_of}
use Rattle.um_falling.specs.Along.{Taking}
use Rattle.um_falling.proofs.WorkLaws.{numbered, taken_not, taken_so}
use Rattle.um_falling.proofs.along.take.Goals as goal

pub returns-then-not-is_waiting-clause-taken : goal.returns-then-not-is_waiting-clause-taken
returns-then-not-is_waiting-clause-taken c =
    let g = c.args.work.now.graph in
    let name = name_at g.names c.args.unit in
    let number = numbered g c.args.unit c.requires in
    let m : Taking = (state_of c.args.work.now.now, c.args.list.now.items) in
    taken_not g c.args.unit name number m (sym (ap (λ (j : UnitJobs). is_waiting j.start) (c.jobs.ensures.jobs name number)) ∙ (sym c.is_waiting.ensures ∙ c.if-not-is_waiting.true))

pub returns-clause-taken : goal.returns-clause-taken
returns-clause-taken c =
    let g = c.args.work.now.graph in
    let name = name_at g.names c.args.unit in
    let number = numbered g c.args.unit c.requires in
    let m : Taking = (state_of c.args.work.now.now, c.args.list.now.items) in
    taken_so g c.args.unit name number m (state_of c.drop_start.new.work.now) c.push.new.self.items
    (sym (ap (λ (j : UnitJobs). is_waiting j.start) (c.jobs.ensures.jobs name number)) ∙ (sym c.is_waiting.ensures ∙ c.if-not-is_waiting.false))
    (c.drop_start.ensures.state name number) c.in_ok-push.ensures.items
