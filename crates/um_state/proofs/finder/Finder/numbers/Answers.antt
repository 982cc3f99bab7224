use Rattle.std.proofs.lemmas.List.{get_or_default}
use Rattle.um_state.proofs.HadLaws.{told_all, told_more, told_none}
use Rattle.um_state.proofs.finder.Finder.numbers.Goals as goal

pub loop-live-init : goal.loop-live-init
loop-live-init c = told_none c.args.rows.now c.deref-live-items.result.now c.new-numbers.result.items c.new-numbers.ensures.items

pub loop-live-preserved : goal.loop-live-preserved
loop-live-preserved c =
    let list = c.deref-live-items.result.now in
    told_more c.args.rows.now list c.loop-live.live-index _ c.loop-live.numbers.items c.push_live.new.numbers.items c.loop-live-test.true
    (get_or_default list c.loop-live.live-index _ _ c.loop-live-test.true) c.loop-live.invariant c.in_ok-push_live.ensures

pub returns : goal.returns
returns c =
    told_all c.args.rows.now c.args.self.now c.deref-live-items.result.now c.loop-live.live-index c.loop-live.numbers.items c.requires.finds c.requires.whole
    c.deref-live-items.ensures.value c.loop-live-test.false c.loop-live.invariant
