use Rattle.std.proofs.Common.{◌∙◌, length, refl, ap, subst, arith}
use Rattle.um_engine.specs.Engine.{state_in}
use Rattle.um_model.specs.Servable.{IsServable}
use Rattle.um_model.specs.StateSpellings.{FitState, state_spelling}
use Rattle.um_model.specs.Store.{body_limit}
use Rattle.um_laws.proofs.DiskLaws.{started}
use Rattle.um_laws.proofs.WholeLaws.{spelled_room}
use Rattle.um_keeper.proofs.Kept.{keeps_at}
use Rattle.um_keeper.proofs.Reopening.{have_newest, least_greatest, renewed, still_here}
use Rattle.um_keeper.proofs.opening.renew.Goals as goal

pub returns-in-Err-clause-during : goal.returns-in-Err-clause-during
returns-in-Err-clause-during g c h settled found = started (g.D.Disk.past c.args.disk.now) _ (still_here (g.D.Disk.past c.args.disk.now) settled found.taken)

pub store_anew-requires-clause-fits : goal.store_anew-requires-clause-fits
store_anew-requires-clause-fits g c =
    let s = state_in c.args.found.engine in
    let fits = subst FitState c.state.ensures c.in-Ok.ensures.fits in
    let room = spelled_room (body_limit c.args.found.layout) s fits (subst (λ n. IsServable n s) c.requires.kept.size_is c.requires.kept.servable) in
    omega (arith, room, ap length (c.in-Ok.ensures.body ∙ ap state_spelling c.state.ensures))

pub returns-in-Err-store_anew-clause-during : goal.returns-in-Err-store_anew-clause-during
returns-in-Err-store_anew-clause-during g c h settled found =
    let f = c.args.found in
    let s = state_in f.engine in
    let past = g.D.Disk.past c.args.disk.now in
    let count = g.D.Disk.size c.args.disk.now in
    renewed past count f.format f.layout f.home.slot f.home.generation c.args.greatest s settled found (g.D.Disk.past c.store_anew.new.disk)
    (c.store_anew.ensures.during h f.home.generation found.taken.body s (least_greatest past count f.format f.layout f.home.slot f.home.generation c.args.greatest s settled found)
    (have_newest past count f.format f.layout f.home.slot f.home.generation c.args.greatest s settled found) (c.in-Ok.ensures.body ∙ ap state_spelling c.state.ensures)
    (subst FitState c.state.ensures c.in-Ok.ensures.fits) (subst (λ n. IsServable n s) c.requires.kept.size_is c.requires.kept.servable))

pub returns-in-Ok-store_anew-clause-during : goal.returns-in-Ok-store_anew-clause-during
returns-in-Ok-store_anew-clause-during g c h settled found =
    let f = c.args.found in
    let s = state_in f.engine in
    let past = g.D.Disk.past c.args.disk.now in
    let count = g.D.Disk.size c.args.disk.now in
    renewed past count f.format f.layout f.home.slot f.home.generation c.args.greatest s settled found (g.D.Disk.past c.store_anew.new.disk)
    (c.store_anew.ensures.during h f.home.generation found.taken.body s (least_greatest past count f.format f.layout f.home.slot f.home.generation c.args.greatest s settled found)
    (have_newest past count f.format f.layout f.home.slot f.home.generation c.args.greatest s settled found) (c.in-Ok.ensures.body ∙ ap state_spelling c.state.ensures)
    (subst FitState c.state.ensures c.in-Ok.ensures.fits) (subst (λ n. IsServable n s) c.requires.kept.size_is c.requires.kept.servable))

pub returns-in-Ok-store_anew-clause-ok : goal.returns-in-Ok-store_anew-clause-ok
returns-in-Ok-store_anew-clause-ok g c h settled found =
    let f = c.args.found in
    let s = state_in f.engine in
    let past = g.D.Disk.past c.args.disk.now in
    let count = g.D.Disk.size c.args.disk.now in
    let kept = c.in-Ok-store_anew.ensures.ok h f.home.generation found.taken.body s (least_greatest past count f.format f.layout f.home.slot f.home.generation c.args.greatest s settled found)
    (have_newest past count f.format f.layout f.home.slot f.home.generation c.args.greatest s settled found) (c.in-Ok.ensures.body ∙ ap state_spelling c.state.ensures)
    (subst FitState c.state.ensures c.in-Ok.ensures.fits) (subst (λ n. IsServable n s) c.requires.kept.size_is c.requires.kept.servable) c.requires.room in
    keeps_at kept refl c.new.ensures.of.0 c.new.ensures.of.1 c.new.ensures.empty.0 c.new.ensures.empty.1
