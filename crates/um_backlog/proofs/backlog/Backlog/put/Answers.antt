use Rattle.std.proofs.Common.{◌≡◌, [], None, sym, subst, append-nil, refl, slice_get, arith, Option}
use Rattle.std.proofs.lemmas.Option.{slice_get_past}
use Rattle.um_backlog.specs.Backlog.{Waits, HandsAt}
use Rattle.um_backlog.proofs.backlog.Backlog.put.Goals as goal

pub returns-else-number-lt-CONNECTIONS-clause-hands : goal.returns-else-number-lt-CONNECTIONS-clause-hands
returns-else-number-lt-CONNECTIONS-clause-hands g c =
    let past : slice_get c.self.inside.waiting.items c.args.number ≡ None = slice_get_past c.self.inside.waiting.items c.args.number (omega (arith, c.self.invariant, c.if-number-lt-CONNECTIONS.false)) in
    let gone : slice_get c.args.self.now c.args.number ≡ None = subst (λ ws. slice_get ws c.args.number ≡ None) c.self.view_is past in
    ([], subst (λ (w : Option Waits). HandsAt c.args.number w c.args.bytes.items c.args.is_last [] w) (sym gone) refl, λ h w. sym (append-nil (g.G.Gate.past c.args.gate.now)))
