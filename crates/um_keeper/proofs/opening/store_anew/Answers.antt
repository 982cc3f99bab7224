use Rattle.std.proofs.Common.{◌≤◌, ◌∙◌, sym, subst, arith}
use Rattle.um_model.specs.Store as sectors
use Rattle.um_keeper.proofs.Reopening.{newest_stores, during_stores, then_stores, keeps_anew}
use Rattle.um_keeper.proofs.opening.store_anew.Goals as goal

pub returns-in_err-home-clause-during : goal.returns-in_err-home-clause-during
returns-in_err-home-clause-during g c h newest before s above all is fits may =
    during_stores c.args.last.generation is fits may (c.store.ensures.during_newest h c.args.format newest before above all)

pub returns-in_err-rewrite-clause-during : goal.returns-in_err-rewrite-clause-during
returns-in_err-rewrite-clause-during g c h newest before s above all is fits may =
    let to = c.in_ok-home.home in
    then_stores c.args.last.generation is fits may (c.store.ensures.during_newest h c.args.format newest before above all)
    (newest_stores (omega (arith, c.in_ok-home.ensures.home.1)) is fits may
    (c.rewrite.ensures.during (c.store.ensures.honest ∙ h) to.slot to.generation c.args.last.generation c.args.snapshot.body.items (c.in_ok-home.ensures.renewed h c.args.format newest before above all)))

pub returns-clause-during : goal.returns-clause-during
returns-clause-during g c h newest before s above all is fits may =
    let to = c.in_ok-home.home in
    then_stores c.args.last.generation is fits may (c.store.ensures.during_newest h c.args.format newest before above all)
    (newest_stores (omega (arith, c.in_ok-home.ensures.home.1)) is fits may
    (c.rewrite.ensures.during (c.store.ensures.honest ∙ h) to.slot to.generation c.args.last.generation c.args.snapshot.body.items (c.in_ok-home.ensures.renewed h c.args.format newest before above all)))

pub returns-clause-ok : goal.returns-clause-ok
returns-clause-ok g c h newest before s above all is fits may room =
    let to = c.in_ok-home.home in
    let h1 = c.store.ensures.honest ∙ h in
    keeps_anew (g.met.D.Disk.seen_is_image c.rewrite.new.disk (c.rewrite.ensures.honest ∙ h1)) (omega (arith, c.in_ok-home.ensures.home.1))
    (c.in_ok-rewrite.ensures.ok h1 to.slot to.generation c.args.last.generation c.args.snapshot.body.items (c.in_ok-home.ensures.renewed h c.args.format newest before above all)) is fits may
    (subst (λ n. sectors.store_sectors c.args.layout ≤ n) (sym (c.rewrite.ensures.size ∙ c.store.ensures.size)) room)
