use Rattle.std.proofs.Common.{◌≡◌, ◌∷◌, refl, arith}
use Rattle.um_falling.proofs.Carried.{no_more_then}
use Rattle.um_falling.proofs.FallenLaws.{fewer_turns}
use Rattle.um_falling.proofs.FallingLaws.{length_none, none_listed, way_begins, way_ends, way_goes_on}
use Rattle.um_falling.proofs.WorkLaws.{adds_on, carries_on, keeps_all, keeps_then, stops_on}
use Rattle.um_state.specs.View.{state_of}
use Rattle.um_falling.proofs.falling.fall_all.Goals as goal

pub units-init : goal.units-init
units-init c = record {
  way = λ names named.
      way_begins c.args.work.now.graph c.args.work.now.moment names (state_of c.args.work.now.now) c.args.work.now.actions c.args.list.now.items named c.graph.ensures.serves;
  waits = λ unit. omega arith;
  none = λ is. (is, refl);
  keeps = keeps_all c.args.work.now;
}

pub units-smaller : goal.units-smaller
units-smaller c =
    let v = c.args.work.now in
    let u = c.units.work in
    let w = c.fall_next.new.work in
    let keeps = c.units.invariant.keeps in
    let is : c.units.list.items ≡ c.in-Some.unit ∷ c.pop_front.new.self.items = rw c.in-Some.is at c.pop_front.ensures.items in
    fewer_turns v.graph (state_of u.now) (state_of w.now) c.units.list.items c.pop_front.new.self.items c.fall_next.new.list.items c.in-Some.unit is
    (stops_on v u keeps (state_of u.now) (state_of w.now) c.in-Some.unit c.pop_front.new.self.items c.fall_next.new.list.items c.in_ok-fall_next.ensures.stops)
    (adds_on v u keeps (state_of w.now) (state_of u.now) c.in-Some.unit c.pop_front.new.self.items c.fall_next.new.list.items c.in_ok-fall_next.ensures.adds)

pub units-preserved : goal.units-preserved
units-preserved c =
    let v = c.args.work.now in
    let u = c.units.work in
    let w = c.fall_next.new.work in
    let keeps = c.units.invariant.keeps in
    let is : c.units.list.items ≡ c.in-Some.unit ∷ c.pop_front.new.self.items = rw c.in-Some.is at c.pop_front.ensures.items in
    record {
      way = λ names named.
          way_goes_on v.graph v.moment names (state_of v.now) (state_of u.now) (state_of w.now) v.actions u.actions w.actions
          c.units.list.items c.pop_front.new.self.items c.fall_next.new.list.items c.in-Some.unit (c.units.invariant.way names named) is
          (carries_on v u keeps w c.in-Some.unit c.in_ok-fall_next.ensures.keeps c.in_ok-fall_next.ensures.carries)
          (adds_on v u keeps (state_of w.now) (state_of u.now) c.in-Some.unit c.pop_front.new.self.items c.fall_next.new.list.items c.in_ok-fall_next.ensures.adds);
      waits = no_more_then (state_of v.now) (state_of u.now) (state_of w.now) c.units.invariant.waits c.in_ok-fall_next.ensures.waits;
      none = λ empty. none_listed c.in-Some.unit c.units.list.items c.pop_front.new.self.items is (c.units.invariant.none empty).0;
      keeps = keeps_then v u w keeps c.in_ok-fall_next.ensures.keeps;
    }

pub returns-clause-falls : goal.returns-clause-falls
returns-clause-falls c = λ names named.
    (way_ends c.args.work.now.graph c.args.work.now.moment names (state_of c.args.work.now.now) (state_of c.units.work.now)
    c.args.work.now.actions c.units.work.actions c.units.list.items (c.units.invariant.way names named)
    (length_none c.units.list.items (omega (arith, c.in_default.ensures.cases.0)))).0
