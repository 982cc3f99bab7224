use Rattle.std.proofs.Common.{◌∙◌, ◌++◌, ◌∷◌, [], ap, arith, refl}
use Rattle.um_graph.specs.Graph.{row_of}
use Rattle.um_state.specs.View.{state_of}
use Rattle.um_falling.specs.Along.{Taking}
use Rattle.um_falling.proofs.AlongLaws.{fewer_left, waits_on}
use Rattle.um_falling.proofs.FallenLaws.{subs_on}
use Rattle.um_falling.proofs.TakenLaws.{begins_so, ends_so, goes_on}
use Rattle.um_falling.proofs.WorkLaws.{keeps_all, keeps_then, taken_on}
use Rattle.um_falling.proofs.along.take_along.Goals as goal

pub units-init : goal.units-init
units-init c = record {
  going = λ name number tidy_jobs tidy_units.
      begins_so c.args.work.now.graph (state_of c.args.work.now.now) name c.graph.ensures.serves c.args.failed c.push.new.self.items number
      (c.in_ok-push.ensures.items ∙ ap (λ l. l ++ c.args.failed ∷ []) c.new-list.ensures.items) tidy_jobs tidy_units;
  waits = λ unit. omega arith;
  subs = λ unit. refl;
  keeps = keeps_all c.args.work.now;
  actions = refl;
}

pub units-smaller : goal.units-smaller
units-smaller c =
    let g = c.args.work.now.graph in
    let row = row_of g.rows c.in-Some.unit in
    let after : Taking = (state_of c.take_all.new.work.now, c.take_all.new.list.items) in
    let before : Taking = (state_of c.units.work.now, c.pop.new.self.items) in
    fewer_left g row (state_of c.units.work.now) c.units.list.items c.pop.new.self.items c.in-Some.unit after c.in-Some.ensures.items
    (taken_on c.args.work.now c.units.work c.units.invariant.keeps c.in-Some.unit before after c.in_ok-take_all.ensures.taken)

pub units-preserved : goal.units-preserved
units-preserved c =
    let v = c.args.work.now in
    let row = row_of v.graph.rows c.in-Some.unit in
    let after : Taking = (state_of c.take_all.new.work.now, c.take_all.new.list.items) in
    let before : Taking = (state_of c.units.work.now, c.pop.new.self.items) in
    let taken = taken_on v c.units.work c.units.invariant.keeps c.in-Some.unit before after c.in_ok-take_all.ensures.taken in
    record {
      going = λ name number tidy_jobs tidy_units.
          goes_on v.graph (state_of v.now) name c.graph.ensures.serves (state_of c.units.work.now) c.units.list.items c.pop.new.self.items c.in-Some.unit after
          (c.units.invariant.going name number tidy_jobs tidy_units) c.in-Some.ensures.items taken;
      waits = waits_on v.graph row before after (state_of v.now).pending taken c.units.invariant.waits;
      subs = subs_on v.graph row before after (state_of v.now) taken c.units.invariant.subs;
      keeps = keeps_then v c.units.work c.take_all.new.work c.units.invariant.keeps c.in_ok-take_all.ensures.keeps;
      actions = c.in_ok-take_all.ensures.actions ∙ c.units.invariant.actions;
    }

pub returns-clause-along : goal.returns-clause-along
returns-clause-along c = λ name number tidy_jobs tidy_units.
    (ends_so c.args.work.now.graph (state_of c.args.work.now.now) name c.graph.ensures.serves (state_of c.units.work.now) c.units.list.items
    (c.units.invariant.going name number tidy_jobs tidy_units) (omega (arith, c.in_default.ensures.cases.0))).0
