use Rattle.std.proofs.Common.{rules, ◌≡◌, ◌∙◌, ◌-◌, ◌<◌, ◌&&◌, ◌++◌, suc, Bool, true, false, drop, get_or, length, refl, sym, ap, arith}
use Rattle.um_graph.specs.declared.row.Neighbour.{Neighbour}
use Rattle.um_state.specs.View.{state_of}
use Rattle.um_falling.specs.Falling.{binds, goes}
use Rattle.um_falling.proofs.BoundLaws.{all_fall, falling_in, has_name, name_of, none_more, none_past, one_more}
use Rattle.um_falling.proofs.falling.push_bound.Goals as goal
use Rattle.um_falling.proofs.falling.push_bound.Goals.{else-is_bound-via-then-is_bound+else-is_going, else-is_bound-via-else-is_bound}

-- the value of an index past the end
abbrev absent : Neighbour
absent = record { unit = 0; kinds = record { 0 = 0 } }

pub loop-place-init : goal.loop-place-init
loop-place-init c = record {
  list = none_past (state_of c.args.work.now.now) c.args.work.now.graph c.args.row.now _ c.args.list.now.items (search rules);
  within = omega arith;
}

pub loop-place-preserved-then-is_going : goal.loop-place-preserved-then-is_going
loop-place-preserved-then-is_going c =
    let s = state_of c.args.work.now.now in
    let g = c.args.work.now.graph in
    let row = c.args.row.now in
    let p = c.loop-place.place - 1 in
    let is : c.loop-place.place ≡ suc p = omega (arith, c.loop-place-test.true) in
    let within = c.loop-place.invariant.within in
    let n = get_or row p absent in
    let below : n.unit < length g.names = c.requires.within p absent (omega (arith, is, within)) in
    let going = sym (c.is_going.ensures (name_of s g n.unit) (has_name s g n.unit below)) ∙ c.if-is_going.true in
    record {
      list =
          one_more s g row absent p c.loop-place.place is within c.args.list.now.items c.loop-place.list.items c.push_front.new.self.items
          (sym c.is_bound.ensures ∙ c.if-is_bound.true) going c.loop-place.invariant.list c.in_ok-push_front.ensures.items;
      within = omega (arith, within);
    }

pub loop-place-preserved : goal.loop-place-preserved
loop-place-preserved c =
    let s = state_of c.args.work.now.now in
    let g = c.args.work.now.graph in
    let row = c.args.row.now in
    let p = c.loop-place.place - 1 in
    let is : c.loop-place.place ≡ suc p = omega (arith, c.loop-place-test.true) in
    let within = c.loop-place.invariant.within in
    let n = get_or row p absent in
    let below : n.unit < length g.names = c.requires.within p absent (omega (arith, is, within)) in
    let none : (binds n && goes s (name_of s g n.unit)) ≡ false = elim c.else-is_bound.branch [
      | else-is_bound-via-then-is_bound+else-is_going w ↦
          and_false (binds n) (goes s (name_of s g n.unit)) (sym (w.is_going.ensures (name_of s g n.unit) (has_name s g n.unit below)) ∙ w.if-is_going.false)
      | else-is_bound-via-else-is_bound w ↦ ap (λ b. b && goes s (name_of s g n.unit)) (sym c.is_bound.ensures ∙ w.if-is_bound.false)
    ] in
    record {
      list = none_more s g row absent p c.loop-place.place is within c.args.list.now.items c.loop-place.list.items none c.loop-place.invariant.list;
      within = omega (arith, within);
    }
  where
    and_false : (a b : Bool) → b ≡ false → (a && b) ≡ false
    and_false true b e = e
    and_false false b e = refl

pub returns : goal.returns
returns c =
    let s = state_of c.args.work.now.now in
    let g = c.args.work.now.graph in
    let row = c.args.row.now in
    let none : c.loop-place.place ≡ 0 = omega (arith, c.loop-place-test.false) in
    c.loop-place.invariant.list
    ∙ ap (λ k. falling_in s g (drop k row) ++ c.args.list.now.items) none
    ∙ ap (λ l. l ++ c.args.list.now.items) (sym (all_fall s g row c.requires.ascends c.requires.within))
