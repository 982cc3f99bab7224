use Rattle.std.proofs.Common.{◌∙◌, All, subst, sym}
use Rattle.um_engine.specs.Served.{standing_of}
use Rattle.um_engine.proofs.DoneLaws.{same_trees, tells_rows}
use Rattle.um_engine.specs.Exact.{LetsNoneGo}
use Rattle.um_engine.specs.Known.{KnownView}
use Rattle.um_engine.proofs.ExactLaws.{given_exact, rows_exact}
use Rattle.um_engine.proofs.engine.change_by.Goals as goal

pub change_between-requires : goal.change_between-requires
change_between-requires c = same_trees (standing_of c.args.served.now) c.args.delta c.in_ok-after.after.state c.in_ok-after.ensures.state

pub returns-then-not-is_let_go-clause-tells : goal.returns-then-not-is_let_go-clause-tells
returns-then-not-is_let_go-clause-tells c = tells_rows (standing_of c.args.served.now) c.args.delta c.requires

pub returns-clause-leads : goal.returns-clause-leads
returns-clause-leads c = c.in_ok-change.ensures.leads ∙ c.in_ok-after.ensures.state

pub returns-clause-tells : goal.returns-clause-tells
returns-clause-tells c = c.in_ok-change.ensures.tells

pub returns-then-not-is_let_go-clause-exact : goal.returns-then-not-is_let_go-clause-exact
returns-then-not-is_let_go-clause-exact c =
    let v = c.args.served.now in
    rows_exact v c.args.delta c.known.ensures.knows
    (subst (λ (k : KnownView). All (LetsNoneGo k) c.args.delta.rows.items) c.known.ensures.known
    (subst (All (LetsNoneGo c.known.result.now)) c.rows.ensures (c.is_let_go.ensures.stays c.if-not-is_let_go.true)))

pub returns-clause-exact : goal.returns-clause-exact
returns-clause-exact c = given_exact c.args.served.now c.in_ok-after.after c.in_ok-change.change c.in_ok-change.ensures.serves c.in_ok-after.ensures.exact

pub returns-clause-stays : goal.returns-clause-stays
returns-clause-stays c none =
    absurd
    (c.is_let_go.ensures.goes c.if-not-is_let_go.false
    (subst (λ rows. All (LetsNoneGo c.known.result.now) rows) (sym c.rows.ensures)
    (subst (λ (k : KnownView). All (LetsNoneGo k) c.args.delta.rows.items) (sym c.known.ensures.known) none)))
