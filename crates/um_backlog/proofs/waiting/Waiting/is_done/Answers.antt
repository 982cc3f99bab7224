use Rattle.std.proofs.Common.{drop, arith}
use Rattle.std.proofs.lemmas.List.{length-drop}
use Rattle.um_backlog.proofs.Handing.{some_left}
use Rattle.um_backlog.proofs.waiting.Waiting.is_done.Goals as goal

pub returns-else-left-eq0 : goal.returns-else-left-eq0
returns-else-left-eq0 c =
    let w = c.self.inside in
    rw (← c.self.view_is) (some_left w.is_last (drop w.at w.bytes.items) _ (λ e. c.if-left-eq0.false e) (omega (arith, length-drop w.at w.bytes.items, w.bytes.ok.0)))
