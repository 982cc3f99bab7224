use Rattle.std.proofs.Common.{◌≡◌, ◌+◌, ◌∙◌, ℕ, ap, subst, arith}
use Rattle.std.specs.Prelude.{replicate}
use Rattle.um_model.specs.Disk.{seen}
use Rattle.um_sector.specs.Runs.{IsLaid, more}
use Rattle.um_sector.proofs.RunLaws.{more-more}
use Rattle.um_model.specs.Store.{first_log_sector}
use Rattle.um_keeper.specs.Creating.{blank}
use Rattle.um_keeper.proofs.Results.{ok_from}
use Rattle.um_keeper.proofs.Wiping.{zero_first, zero_goes_on, wiped}
use Rattle.um_keeper.proofs.creating.wipe.Goals as goal

pub returns-in_err-write_blank-clause-during : goal.returns-in_err-write_blank-clause-during
returns-in_err-write_blank-clause-during g c h all =
    let a : c.slot_start.result ≡ 1 = c.slot_start.ensures in
    zero_first (g.D.Disk.past c.args.disk.now) (g.D.Disk.past c.write_blank.new.disk) c.slot_start.result (replicate 1 blank) (omega (arith, a)) all (c.write_blank.ensures.during h)

pub returns-in_err-write_blank-2-clause-during : goal.returns-in_err-write_blank-2-clause-during
returns-in_err-write_blank-2-clause-during g c h all =
    let a : c.slot_start.result ≡ 1 = c.slot_start.ensures in
    let b : c.slot_start-2.result ≡ c.args.layout.slot_sectors + 1 = c.slot_start-2.ensures in
    zero_goes_on (g.D.Disk.past c.args.disk.now) (g.D.Disk.past c.write_blank.new.disk) (g.D.Disk.past c.write_blank-2.new.disk) c.slot_start-2.result (replicate 1 blank) (omega (arith, b))
    (zero_first (g.D.Disk.past c.args.disk.now) (g.D.Disk.past c.write_blank.new.disk) c.slot_start.result (replicate 1 blank) (omega (arith, a)) all (c.write_blank.ensures.during h))
    (c.write_blank-2.ensures.during (c.write_blank.ensures.honest ∙ h))

pub returns-clause-during : goal.returns-clause-during
returns-clause-during g c h all =
    let a : c.slot_start.result ≡ 1 = c.slot_start.ensures in
    let b : c.slot_start-2.result ≡ c.args.layout.slot_sectors + 1 = c.slot_start-2.ensures in
    let l : c.first_log_sector.result ≡ first_log_sector c.args.layout = c.first_log_sector.ensures in
    let p0 = g.D.Disk.past c.args.disk.now in
    let p1 = g.D.Disk.past c.write_blank.new.disk in
    let p2 = g.D.Disk.past c.write_blank-2.new.disk in
    zero_goes_on p0 p2 (g.D.Disk.past c.write_blank-3.new.disk) c.first_log_sector.result (replicate c.args.layout.log_sectors blank) (omega (arith, l))
    (zero_goes_on p0 p1 p2 c.slot_start-2.result (replicate 1 blank) (omega (arith, b))
    (zero_first p0 p1 c.slot_start.result (replicate 1 blank) (omega (arith, a)) all (c.write_blank.ensures.during h))
    (c.write_blank-2.ensures.during (c.write_blank.ensures.honest ∙ h)))
    (c.write_blank-3.ensures.during (c.write_blank-2.ensures.honest ∙ (c.write_blank.ensures.honest ∙ h)))

pub returns-clause-ok : goal.returns-clause-ok
returns-clause-ok g c =
    let p0 = g.D.Disk.past c.args.disk.now in
    let p1 = g.D.Disk.past c.write_blank.new.disk in
    let p2 = g.D.Disk.past c.write_blank-2.new.disk in
    let p3 = g.D.Disk.past c.write_blank-3.new.disk in
    ok_from c.write_blank-3.result
    (λ laid h zero.
    let h1 = c.write_blank.ensures.honest ∙ h in
    wiped c.args.layout (seen p0) (seen p1) (seen p2) (seen p3) zero
    (subst (λ (n : ℕ). IsLaid (seen p0) n (replicate 1 blank) (seen p1)) c.slot_start.ensures (c.in_ok-write_blank.ensures.ok h))
    (subst (λ (n : ℕ). IsLaid (seen p1) n (replicate 1 blank) (seen p2)) c.slot_start-2.ensures (c.in_ok-write_blank-2.ensures.ok h1))
    (subst (λ (n : ℕ). IsLaid (seen p2) n (replicate c.args.layout.log_sectors blank) (seen p3)) c.first_log_sector.ensures (laid (c.write_blank-2.ensures.honest ∙ h1))))
    c.write_blank-3.ensures.ok

pub returns-clause-all_calls : goal.returns-clause-all_calls
returns-clause-all_calls g c =
    let first = g.D.Disk.calls c.args.disk.now in
    let log = c.args.layout.log_sectors in
    let e : 2 + log ≡ log + 2 = omega arith in
    ok_from c.write_blank-3.result (λ last. last ∙ ap (λ n. more n log) (c.in_ok-write_blank-2.ensures.all_calls ∙ ap (λ n. more n 1) c.in_ok-write_blank.ensures.all_calls)
    ∙ more-more first 2 log ∙ ap (more first) e) c.write_blank-3.ensures.all_calls
