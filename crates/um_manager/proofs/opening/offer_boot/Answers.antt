use Rattle.std.proofs.Common.{◌∷◌, [], subst}
use Rattle.um_keeper.specs.Keepers.{disk_in, state_in, size_in, layout_in, has_failed}
use Rattle.um_keeper.specs.Keeping.{IsBegun}
use Rattle.um_model.specs.Disk.{During}
use Rattle.um_model.specs.Machine.{Step, Booted}
use Rattle.um_fates.specs.Fates.{happens_at}
use Rattle.std.proofs.Common.{◌≡◌, ◌⊎◌, false}
use Rattle.um_engine.specs.OfStore.{is_of_store}
use Rattle.um_model.specs.Machine.{Refusal}
use Rattle.um_sector.specs.Refused.{IsLost}
use Rattle.um_wire.specs.Refusal.{refused_of}
use Rattle.um_wire.specs.declared.refusal.Refusal.TheVariants.{Reopen, GenerationsSpent}
use Rattle.um_manager.proofs.Beginning.{if_err_same}
use Rattle.um_manager.proofs.Booting.{asks_nothing, boot_refused}
use Rattle.um_manager.proofs.Offering.{trusts}
use Rattle.um_manager.proofs.opening.offer_boot.Goals as goal

pub finish-requires : goal.finish-requires
finish-requires g c =
    asks_nothing (size_in c.args.keeper.now) c.args.moment c.args.boot (state_in c.args.keeper.now) (state_in c.submit.new.self) c.in_ok-receipt.receipt.0 c.in_ok-receipt.receipt.1
    (subst (λ i. Step (size_in c.args.keeper.now) (state_in c.args.keeper.now) i c.in_ok-receipt.receipt.0 c.in_ok-receipt.receipt.1 (state_in c.submit.new.self)) c.new.ensures c.in_ok-receipt.ensures.ok)

pub returns-clause-booted : goal.returns-clause-booted
returns-clause-booted g c =
    let step = subst (λ i. Step (size_in c.args.keeper.now) (state_in c.args.keeper.now) i c.in_ok-receipt.receipt.0 c.in_ok-receipt.receipt.1 (state_in c.submit.new.self)) c.new.ensures c.in_ok-receipt.ensures.ok in (
      c.in_ok-receipt.receipt.0,
      subst (λ actions. Step (size_in c.args.keeper.now) (state_in c.args.keeper.now) (happens_at c.args.moment (Booted c.args.boot)) c.in_ok-receipt.receipt.0 actions (state_in c.submit.new.self))
          (asks_nothing (size_in c.args.keeper.now) c.args.moment c.args.boot (state_in c.args.keeper.now) (state_in c.submit.new.self) c.in_ok-receipt.receipt.0 c.in_ok-receipt.receipt.1 step) step,
    )

pub returns-clause-left : goal.returns-clause-left
returns-clause-left g c t =
    let D = g.D.Disk in
    let old = c.args.keeper.now in
    let new = c.submit.new.self in
    let (h, f) = trusts (D.honest (disk_in old)) (has_failed old) t in
    subst (λ i. During (D.past (disk_in old)) (D.past (disk_in new)) (IsBegun (layout_in old) (state_in old) (i ∷ []))) c.new.ensures (c.submit.ensures.during f h)

pub returns-in_err-receipt-clause-left : goal.returns-in_err-receipt-clause-left
returns-in_err-receipt-clause-left g c t =
    let D = g.D.Disk in
    let old = c.args.keeper.now in
    let new = c.submit.new.self in
    let (h, f) = trusts (D.honest (disk_in old)) (has_failed old) t in
    subst (λ i. During (D.past (disk_in old)) (D.past (disk_in new)) (IsBegun (layout_in old) (state_in old) (i ∷ []))) c.new.ensures (c.submit.ensures.during f h)

pub returns-in_err-receipt-clause-refused : goal.returns-in_err-receipt-clause-refused
returns-in_err-receipt-clause-refused g c =
    let old = c.args.keeper.now in
    if_err_same c.from_residual.result (λ e. IsLost e ⊎ (e ≡ GenerationsSpent)) c.in_err-receipt.field-0.0 c.from_residual.ensures.1
    (boot_refused (size_in old) c.args.moment c.args.boot (state_in old) c.in_err-receipt.field-0.0 c.in_err-receipt.was c.requires c.submit.ensures.reopen
    (subst (λ i. IsLost c.in_err-receipt.field-0.0 ⊎ (c.in_err-receipt.field-0.0 ≡ Reopen) ⊎ (c.in_err-receipt.field-0.0 ≡ GenerationsSpent)
    ⊎ ((is_of_store c.in_err-receipt.field-0.0 ≡ false) × Step (size_in old) (state_in old) i (Refusal (refused_of c.in_err-receipt.field-0.0)) [] (state_in old))) c.new.ensures c.in_err-receipt.ensures.refused))
