use Rattle.std.proofs.Common.{◌++◌, sym, ap, subst, ◌∙◌}
use Rattle.std.specs.Bool.{IsTrue}
use Rattle.um_backlog.specs.Backlog.{is_given_up}
use Rattle.um_backlog.proofs.Handing.{gives_up}
use Rattle.um_backlog.proofs.waiting.Waiting.put.Goals as goal

pub returns-then-is_done-clause-hands : goal.returns-then-is_done-clause-hands
returns-then-is_done-clause-hands g c =
    let left = c.write.new.self.bytes in
    gives_up (g.G.Gate.past c.args.gate.now) (g.G.Gate.past c.write.new.gate) (g.G.Gate.past c.give_up-then-is_done.new.gate) c.args.number c.args.self.now c.args.bytes.items c.args.is_last
    c.write.ensures.taken.0 left c.push.new.self.bytes
    (ap (λ w. w.is_over) (sym c.self.view_is) ∙ c.if-self.false)
    (ap (λ w. w.bytes) c.in-Ok.ensures.ok ∙ ap (λ w. w.bytes ++ c.args.bytes.items) c.self.view_is)
    c.write.ensures.taken.1
    (ap (λ b. is_given_up b left) (sym (c.write.ensures.is_last ∙ ap (λ w. w.is_last) c.in-Ok.ensures.ok)) ∙ sym c.is_done.ensures ∙ c.if-is_done.true)
    c.write.ensures.taken.2 c.give_up-then-is_done.ensures.past
    (subst IsTrue (sym c.write.ensures.gate.honest)) c.give_up-then-is_done.ensures.gate.whole
    c.give_up-then-is_done.new.self c.give_up-then-is_done.ensures.value
