use Rattle.std.proofs.Common.{◌∙◌, refl, sym}
use Rattle.um_keeper.specs.Keepers.{size_in, layout_in}
use Rattle.um_manager.proofs.Beginning.{opened_place}
use Rattle.um_instance.proofs.Instances.{opened_so_far, turned_so_far}
use Rattle.um_instance.proofs.lives.life.Goals as goal

pub returns-in-Ok-turn-clause-so_far : goal.returns-in-Ok-turn-clause-so_far
returns-in-Ok-turn-clause-so_far g c =
    let D = g.D.Disk in
    let C = g.C.Children in
    let m = c.in-Ok.manager in
    let l = c.turn.new.self in
    let opened = c.in-Ok.ensures in
    let turn = c.turn.ensures in
    let (all, just) = opened.history in
    let so = opened_so_far (layout_in m.keeper) (size_in m.keeper) (D.honest c.args.disk) (C.honest c.args.children) (C.whole m.children) c.args.moment c.args.boot m.adopted
    (D.size c.args.disk) opened.sized all just in
    turned_so_far (layout_in m.keeper) (layout_in l.keeper) turn.frame.store.place.layout so
    (λ sure. opened_place (sym opened.sized) refl (opened.same.0 ∙ sure) opened.working) c.in-Ok-turn.is
    (λ t. opened.same.1.honest ∙ t.0) (λ t. t.1) (λ t. (t.0, turn.frame.children.whole t.1))
    (turn.history (D.past c.args.disk) (C.past c.args.children) so.past)

pub returns-in-Ok-turn-clause-whole : goal.returns-in-Ok-turn-clause-whole
returns-in-Ok-turn-clause-whole g c = λ whole. c.in-Ok.ensures.same.1.whole (c.turn.ensures.frame.children.whole whole)

pub returns-in-Err-clause-so_far : goal.returns-in-Err-clause-so_far
returns-in-Err-clause-so_far g c = tt

pub returns-in-Err-clause-whole : goal.returns-in-Err-clause-whole
returns-in-Err-clause-whole g c = tt

pub returns-in-Err-turn-clause-so_far : goal.returns-in-Err-turn-clause-so_far
returns-in-Err-turn-clause-so_far g c = tt

pub returns-in-Err-turn-clause-whole : goal.returns-in-Err-turn-clause-whole
returns-in-Err-turn-clause-whole g c = tt
