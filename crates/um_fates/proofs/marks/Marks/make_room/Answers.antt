use Rattle.std.proofs.Common.{◌∙◌, ap}
use Rattle.std.specs.List.{list_all}
use Rattle.um_fates.specs.Live.{has, is_live}
use Rattle.um_fates.proofs.Marking.{live_stays, none_comes, all_kept}
use Rattle.um_fates.proofs.marks.Marks.make_room.Goals as goal

pub returns-then-len-ge-MOST_LIVE-clause-live : goal.returns-then-len-ge-MOST_LIVE-clause-live
returns-then-len-ge-MOST_LIVE-clause-live c = λ n live. ap (has n) c.forget_others.ensures.same ∙ live_stays (is_live c.args.units.now.held) n c.args.self.now live

pub returns-then-len-ge-MOST_LIVE-clause-none : goal.returns-then-len-ge-MOST_LIVE-clause-none
returns-then-len-ge-MOST_LIVE-clause-none c = λ n none. ap (has n) c.forget_others.ensures.same ∙ none_comes (is_live c.args.units.now.held) n c.args.self.now none

pub returns-then-len-ge-MOST_LIVE-clause-full : goal.returns-then-len-ge-MOST_LIVE-clause-full
returns-then-len-ge-MOST_LIVE-clause-full c = λ full. ap (list_all (is_live c.args.units.now.held)) c.forget_others.ensures.same ∙ all_kept (is_live c.args.units.now.held) c.args.self.now
