use Rattle.std.proofs.Common.{IsTrue, ◌≡◌, ◌⊎◌, ◌∙◌, ◌-◌, ◌^◌, ◌<◌, ℕ, Option, Some, None, inl, inr, sym, subst}
use Rattle.um_engine.specs.Engine.{state_in}
use Rattle.um_model.specs.Disk.{Image, seen, IsSettled, after, synced}
use Rattle.um_model.specs.declared.layout.Format.{Format}
use Rattle.um_model.specs.declared.layout.Layout.{Layout}
use Rattle.um_laws.proofs.DiskLaws.{settled_after_sync}
use Rattle.um_model.specs.Store.{top}
use Rattle.um_log.specs.Greatest.{IsGreatest}
use Rattle.um_keeper.specs.Opening.{IsUnread, unread, spent, IsLast, IsFound, IsRead, StaysFor}
use Rattle.um_keeper.proofs.Results.{err_same, if_ok_from, if_err_from, if_err_all, or_more}
use Rattle.um_keeper.proofs.Reopening.{sync_unwritten, stays_of, next_of}
use Rattle.um_keeper.proofs.opening.recover.Goals as goal

-- ---- refusals before anything is written

pub returns-in_err-sync-clause-unwritten : goal.returns-in_err-sync-clause-unwritten
returns-in_err-sync-clause-unwritten g c =
    if_err_all c.from_residual.result _ (λ e h. inl (sync_unwritten c.sync.result (g.D.Disk.past c.args.disk.now) (g.D.Disk.past c.sync.new.self) (c.sync.ensures.past h)))

pub returns-in_err-found-clause-unwritten : goal.returns-in_err-found-clause-unwritten
returns-in_err-found-clause-unwritten g c =
    if_err_all c.from_residual-in_err-found.result _ (λ e h. inl (inr (c.take_up.ensures.past (c.sync.ensures.honest ∙ h) ∙ c.in_ok-sync.ensures.past h)))

pub returns-in_default-clause-unwritten : goal.returns-in_default-clause-unwritten
returns-in_default-clause-unwritten g c h = inl (inr (c.take_up.ensures.past (c.sync.ensures.honest ∙ h) ∙ c.in_ok-sync.ensures.past h))

pub returns-in_err-found-clause-err : goal.returns-in_err-found-clause-err
returns-in_err-found-clause-err g c =
    err_same _ c.from_residual-in_err-found.result c.in_err-found.field-0.0 c.from_residual-in_err-found.ensures.1
    (or_more (λ fails h.
    unread (subst (λ n. IsUnread n (seen (g.D.Disk.past c.args.disk.now)) c.in_err-found.field-0.0) c.sync.ensures.size
    (subst (λ p. IsUnread (g.D.Disk.size c.sync.new.self) (seen p) c.in_err-found.field-0.0) (c.in_ok-sync.ensures.past h) (fails (c.sync.ensures.honest ∙ h)))))
    c.in_err-found.ensures.err)

-- why no next generation is left
spent_last : (layout : Layout) (image : Image) (format f : Format) (newest : ℕ) (greatest : Option ℕ) → f ≡ format → IsLast layout image (top format newest) greatest
    → (greatest ≡ None) ⊎ (greatest ≡ Some (2 ^ 64 - 1)) → (2 ^ 64 - 1 < top f newest) ⊎ IsGreatest layout image (top f newest) (2 ^ 64 - 1)
spent_last layout image format f newest greatest is last (inl none) =
    inl (subst (λ (z : Format). 2 ^ 64 - 1 < top z newest) (sym is) (subst (IsLast layout image (top format newest)) none last))
spent_last layout image format f newest greatest is last (inr some) =
    inr (subst (λ (z : Format). IsGreatest layout image (top z newest) (2 ^ 64 - 1)) (sym is) (subst (IsLast layout image (top format newest)) some last))

-- the store that was taken up, of the disk as it was given
pub returns-in_default-clause-err : goal.returns-in_default-clause-err
returns-in_default-clause-err g c = inr (λ h.
    let p0 = g.D.Disk.past c.args.disk.now in
    let found = c.in_ok-found.found in
    let h1 = c.sync.ensures.honest ∙ h in
    let synced_it : g.D.Disk.past c.sync.new.self ≡ after synced p0 = c.in_ok-sync.ensures.past h in
    let is : IsFound (g.D.Disk.size c.args.disk.now) (seen p0) found.format found.layout found.home.slot found.home.generation found.greatest (state_in found.engine) =
    subst (λ n. IsFound n (seen p0) found.format found.layout found.home.slot found.home.generation found.greatest (state_in found.engine)) c.sync.ensures.size
    (subst (λ p. IsFound (g.D.Disk.size c.sync.new.self) (seen p) found.format found.layout found.home.slot found.home.generation found.greatest (state_in found.engine)) synced_it (c.in_ok-found.ensures.found h1)) in
    spent (record {
      layout = found.layout;
      slot = found.home.slot;
      generation = found.home.generation;
      state = state_in found.engine;
      taken = is.taken;
      last = spent_last found.layout (seen p0) found.format is.taken.has.format found.home.generation found.greatest is.format_is is.greatest_is (c.before_last.ensures.none c.in_default.is);
    }))

-- ---- the state is written

pub returns-clause-stays : goal.returns-clause-stays
returns-clause-stays g c =
    if_ok_from c.renew.result _ _
    (λ held facts h.
    let p0 = g.D.Disk.past c.args.disk.now in
    let found = c.in_ok-found.found in
    let greatest = c.in-Some.greatest in
    let found_is = λ (h : IsTrue (g.D.Disk.honest c.sync.new.self)). subst (λ (o : Option ℕ). IsFound (g.D.Disk.size c.sync.new.self) (seen (g.D.Disk.past c.sync.new.self)) found.format found.layout found.home.slot found.home.generation o (state_in found.engine))
    c.in-Some.ensures.some.0 (c.in_ok-found.ensures.found h) in
    let h1 = c.sync.ensures.honest ∙ h in
    let h2 = c.take_up.ensures.honest ∙ h1 in
    let synced_it : g.D.Disk.past c.sync.new.self ≡ after synced p0 = c.in_ok-sync.ensures.past h in
    let same = c.take_up.ensures.past h1 ∙ synced_it in
    subst (λ l. StaysFor l (state_in held.engine) p0 (g.D.Disk.past c.renew.new.disk)) (sym facts.2)
    (subst (λ s. StaysFor found.layout s p0 (g.D.Disk.past c.renew.new.disk)) (sym facts.0)
    (stays_of (g.D.Disk.size c.take_up.new.disk) found.format found.layout found.home.slot found.home.generation (Some greatest) (state_in found.engine) p0 (g.D.Disk.past c.take_up.new.disk) (g.D.Disk.past c.renew.new.disk) same
    (subst (λ n. IsFound n (seen p0) found.format found.layout found.home.slot found.home.generation (Some greatest) (state_in found.engine)) (sym c.take_up.ensures.size)
    (subst (λ p. IsFound (g.D.Disk.size c.sync.new.self) (seen p) found.format found.layout found.home.slot found.home.generation (Some greatest) (state_in found.engine)) synced_it (found_is h1)))
    (c.renew.ensures.during h2))))
    c.renew.ensures.held

pub returns-clause-unwritten : goal.returns-clause-unwritten
returns-clause-unwritten g c =
    if_err_from c.renew.result _ _
    (λ e lost h.
    let p0 = g.D.Disk.past c.args.disk.now in
    let found = c.in_ok-found.found in
    let greatest = c.in-Some.greatest in
    let found_is = λ (h : IsTrue (g.D.Disk.honest c.sync.new.self)). subst (λ (o : Option ℕ). IsFound (g.D.Disk.size c.sync.new.self) (seen (g.D.Disk.past c.sync.new.self)) found.format found.layout found.home.slot found.home.generation o (state_in found.engine))
    c.in-Some.ensures.some.0 (c.in_ok-found.ensures.found h) in
    let h1 = c.sync.ensures.honest ∙ h in
    let h2 = c.take_up.ensures.honest ∙ h1 in
    let synced_it : g.D.Disk.past c.sync.new.self ≡ after synced p0 = c.in_ok-sync.ensures.past h in
    let same = c.take_up.ensures.past h1 ∙ synced_it in
    inr (
      lost,
      record {
        layout = found.layout;
        state = state_in found.engine;
        stays =
            stays_of (g.D.Disk.size c.take_up.new.disk) found.format found.layout found.home.slot found.home.generation (Some greatest) (state_in found.engine) p0 (g.D.Disk.past c.take_up.new.disk) (g.D.Disk.past c.renew.new.disk) same
            (subst (λ n. IsFound n (seen p0) found.format found.layout found.home.slot found.home.generation (Some greatest) (state_in found.engine)) (sym c.take_up.ensures.size)
            (subst (λ p. IsFound (g.D.Disk.size c.sync.new.self) (seen p) found.format found.layout found.home.slot found.home.generation (Some greatest) (state_in found.engine)) synced_it (found_is h1)))
            (c.renew.ensures.during h2);
      },
    ))
    c.renew.ensures.err

pub returns-clause-ok : goal.returns-clause-ok
returns-clause-ok g c =
    if_ok_from c.renew.result _ _
    (λ held keeps h.
    let p0 = g.D.Disk.past c.args.disk.now in
    let found = c.in_ok-found.found in
    let greatest = c.in-Some.greatest in
    let found_is = λ (h : IsTrue (g.D.Disk.honest c.sync.new.self)). subst (λ (o : Option ℕ). IsFound (g.D.Disk.size c.sync.new.self) (seen (g.D.Disk.past c.sync.new.self)) found.format found.layout found.home.slot found.home.generation o (state_in found.engine))
    c.in-Some.ensures.some.0 (c.in_ok-found.ensures.found h) in
    let h1 = c.sync.ensures.honest ∙ h in
    let h2 = c.take_up.ensures.honest ∙ h1 in
    let synced_it : g.D.Disk.past c.sync.new.self ≡ after synced p0 = c.in_ok-sync.ensures.past h in
    let same = c.take_up.ensures.past h1 ∙ synced_it in
    keeps h2 (subst IsSettled (sym same) (settled_after_sync p0))
    (subst (λ n. IsFound n (seen (g.D.Disk.past c.take_up.new.disk)) found.format found.layout found.home.slot found.home.generation (Some greatest) (state_in found.engine)) (sym c.take_up.ensures.size)
    (subst (λ p. IsFound (g.D.Disk.size c.sync.new.self) (seen p) found.format found.layout found.home.slot found.home.generation (Some greatest) (state_in found.engine))
    (sym (c.take_up.ensures.past h1)) (found_is h1))))
    c.renew.ensures.ok

pub returns-clause-taken : goal.returns-clause-taken
returns-clause-taken g c =
    if_ok_from c.renew.result _ _
    (λ held facts h.
    let p0 = g.D.Disk.past c.args.disk.now in
    let found = c.in_ok-found.found in
    let greatest = c.in-Some.greatest in
    let found_is = λ (h : IsTrue (g.D.Disk.honest c.sync.new.self)). subst (λ (o : Option ℕ). IsFound (g.D.Disk.size c.sync.new.self) (seen (g.D.Disk.past c.sync.new.self)) found.format found.layout found.home.slot found.home.generation o (state_in found.engine))
    c.in-Some.ensures.some.0 (c.in_ok-found.ensures.found h) in
    let h1 = c.sync.ensures.honest ∙ h in
    let h2 = c.take_up.ensures.honest ∙ h1 in
    let synced_it : g.D.Disk.past c.sync.new.self ≡ after synced p0 = c.in_ok-sync.ensures.past h in
    next_of (g.D.Disk.size c.args.disk.now) (seen p0) found.format found.layout held.log.layout found.home.slot held.home.slot found.home.generation greatest held.home.generation (state_in found.engine) (state_in held.engine)
    facts.0 facts.2 facts.3 facts.4
    (subst (λ n. IsFound n (seen p0) found.format found.layout found.home.slot found.home.generation (Some greatest) (state_in found.engine)) c.sync.ensures.size
    (subst (λ p. IsFound (g.D.Disk.size c.sync.new.self) (seen p) found.format found.layout found.home.slot found.home.generation (Some greatest) (state_in found.engine)) synced_it (found_is h1))))
    c.renew.ensures.held

pub returns-clause-opened : goal.returns-clause-opened
returns-clause-opened g c =
    if_ok_from c.renew.result _ _
    (λ held facts h.
    let p0 = g.D.Disk.past c.args.disk.now in
    let found = c.in_ok-found.found in
    let greatest = c.in-Some.greatest in
    let found_is = λ (h : IsTrue (g.D.Disk.honest c.sync.new.self)). subst (λ (o : Option ℕ). IsFound (g.D.Disk.size c.sync.new.self) (seen (g.D.Disk.past c.sync.new.self)) found.format found.layout found.home.slot found.home.generation o (state_in found.engine))
    c.in-Some.ensures.some.0 (c.in_ok-found.ensures.found h) in
    let h1 = c.sync.ensures.honest ∙ h in
    let synced_it : g.D.Disk.past c.sync.new.self ≡ after synced p0 = c.in_ok-sync.ensures.past h in
    subst (λ l. IsRead l (seen p0) held.opened) (sym facts.2)
    (subst (IsRead found.layout (seen p0)) (sym facts.7)
    (subst (λ p. IsRead found.layout (seen p) found.opened) synced_it (c.in_ok-found.ensures.read h1))))
    c.renew.ensures.held
