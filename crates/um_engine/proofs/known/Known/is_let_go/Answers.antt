use Rattle.std.proofs.Common.{◌≡◌, ◌<◌, All, arith, get_or, length, rules, subst, sym}
use Rattle.std.proofs.lemmas.List.{take_all}
use Rattle.std.proofs.lemmas.List.Elements.{All-more}
use Rattle.um_state.specs.declared.row.Row.{Row}
use Rattle.um_engine.specs.Exact.{LetsNoneGo}
use Rattle.um_engine.proofs.known.Known.is_let_go.Goals as goal

pub loop-row-preserved : goal.loop-row-preserved
loop-row-preserved c =
    let k = c.args.self.now in
    let rows = c.args.rows.now in
    let n = c.loop-row.row-index in
    let row : Row = c.row-item.result in
    let low : n < length rows = omega (arith, c.loop-row-test.true) in
    let here : get_or rows n row ≡ row = search (rules, c.row-item.is) in
    All-more (LetsNoneGo k) rows n row low c.loop-row.invariant (subst (LetsNoneGo k) (sym here) (c.lets_go.ensures.stays c.if-lets_go.false))

pub returns-clause-stays : goal.returns-clause-stays
returns-clause-stays c told = subst (All (LetsNoneGo c.args.self.now)) (take_all c.loop-row.row-index c.args.rows.now (omega (arith, c.loop-row-test.false))) c.loop-row.invariant

pub returns-then-lets_go-clause-goes : goal.returns-then-lets_go-clause-goes
returns-then-lets_go-clause-goes c told all =
    let rows = c.args.rows.now in
    let n = c.loop-row.row-index in
    let row : Row = c.row-item.result in
    let low : n < length rows = omega (arith, c.loop-row-test.true) in
    let here : get_or rows n row ≡ row = search (rules, c.row-item.is) in
    c.lets_go.ensures.goes c.if-lets_go.true (subst (LetsNoneGo c.args.self.now) here (all n row low))
