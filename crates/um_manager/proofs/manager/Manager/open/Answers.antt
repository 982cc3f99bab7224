use Rattle.std.proofs.Common.{◌≡◌, ◌∙◌, ◌∷◌, [], inl, inr, refl, sym, ap, subst}
use Rattle.std.specs.Bool.{IsTrue}
use Rattle.um_keeper.specs.Keepers.{disk_in, state_in, layout_in, has_failed, opened_in}
use Rattle.um_keeper.specs.Opening.{IsRead, IsSomeStore, IsAsBefore}
use Rattle.um_keeper.specs.Answering.{taken}
use Rattle.um_laws.proofs.DiskLaws.{weaker}
use Rattle.um_laws.proofs.StandsLaws.{one_layout}
use Rattle.um_model.specs.Disk.{During, Images, seen}
use Rattle.um_model.specs.Store.{body_limit}
use Rattle.um_model.specs.declared.layout.Layout.{Layout}
use Rattle.um_manager.specs.Opening.{Opened, Refuses, IsRefused, untaken, taken_up, IsFound, IsOfRefused, adoptions, boot_at}
use Rattle.um_manager.specs.Connections.{AllNew}
use Rattle.um_manager.specs.Histories.{opens}
use Rattle.um_manager.specs.Places.{Place, place_in}
use Rattle.um_manager.specs.Turns.{now_in}
use Rattle.um_manager.proofs.Beginning.{boot_then, opening_left, refused_left, opened_place, never_spent, asked_alone}
use Rattle.um_manager.proofs.Offering.{trusts, trusted_in}
use Rattle.um_manager.proofs.manager.Manager.open.Goals as goal

pub returns-in-Ok-begin-clause-opened : goal.returns-in-Ok-begin-clause-opened
returns-in-Ok-begin-clause-opened g c =
    let D = g.D.Disk in
    let first = D.past c.args.disk in
    let k = c.in-Ok.keeper in
    let l = c.begin.new.keeper in
    let there = place_in (D.honest (disk_in k)) k in
    let ok = c.in-Ok.ensures.ok in
    let a = now_in k (g.C.Children.past c.args.children) [] [] (D.past (disk_in k)) in
    let b = now_in l (g.C.Children.past c.begin.new.children) c.in-Ok-begin.field-0.marks [] (D.past (disk_in l)) in
    let began = c.in-Ok-begin.ensures.began in
    subst (λ (p : Place). Opened p (g.C.Children.honest c.args.children) (g.C.Children.whole c.begin.new.children) c.args.moment c.args.boot c.in-Ok-begin.field-0.adopted (D.size c.args.disk) first (g.C.Children.past c.args.children) b)
    (opened_place c.begin.ensures.frame.store.place.size c.begin.ensures.frame.store.place.layout ok.2 ok.0)
    (record {
      a = a;
      found = λ t.
          let (honest, works) = trusts (D.honest (disk_in k)) (has_failed k) t in
          let next = c.in-Ok.ensures.taken (subst IsTrue ok.2 honest) in
          record { slot = next.before; generation = next.earlier; taken_up = next.taken; stands = c.in-Ok.ensures.stands (subst IsTrue ok.2 honest) };
      unasked = refl;
      began = began;
      left = λ t images.
          let (honest, works) = trusts (D.honest (disk_in k)) (has_failed k) t in
          let adopted = began.adopted in
          opening_left (layout_in k) (state_in k) (boot_at c.args.moment c.args.boot ∷ taken (adoptions c.args.moment adopted.told) adopted.answers) first (D.past (disk_in k)) (D.past (disk_in l))
          (c.in-Ok.ensures.during (subst IsTrue ok.2 honest) (layout_in k) images)
          (boot_then there (state_in k) began.mid.state (boot_at c.args.moment c.args.boot) began.reply (taken (adoptions c.args.moment adopted.told) adopted.answers)
          (D.past (disk_in k)) began.mid.disk (D.past (disk_in l)) c.in-Ok.ensures.sized began.booted (began.left t) (adopted.left t));
    })

pub returns-in-Err-clause-err : goal.returns-in-Err-clause-err
returns-in-Err-clause-err g c = λ sure layout images. weaker _ _ _ _ (λ image is. inl is) (c.in-Err.ensures.during_err sure layout images)

pub returns-in-Err-begin-clause-err : goal.returns-in-Err-begin-clause-err
returns-in-Err-begin-clause-err g c = λ sure layout images.
    let h = g.C.Children.honest c.args.children in
    let w = g.C.Children.whole c.begin.new.children in
    let D = g.D.Disk in
    let first = D.past c.args.disk in
    let k = c.in-Ok.keeper in
    let l = c.begin.new.keeper in
    let there = place_in (D.honest (disk_in k)) k in
    let ok = c.in-Ok.ensures.ok in
    let next = c.in-Ok.ensures.taken sure in
    let as_stored = (images (seen first) (g.met.D.Disk.seen_is_image c.args.disk sure)).stands in
    let same : layout_in k ≡ layout = one_layout next.taken.has.format as_stored.format (layout_in k) layout (seen first) next.taken.has.first as_stored.first in
    let a = now_in k (g.C.Children.past c.args.children) [] [] (D.past (disk_in k)) in
    let (marks, refuses) = c.in-Err-begin.ensures.refuses in
    let b = now_in l (g.C.Children.past c.begin.new.children) marks [] (D.past (disk_in l)) in
    let trusted = trusted_in ok.2 ok.0 sure in
    subst (λ d. During first (D.past d) (IsOfRefused layout c.args.moment c.args.boot (D.size c.args.disk) first h w (g.C.Children.past c.args.children) (g.C.Children.past c.begin.new.children))) (sym c.into_disk.ensures)
    (subst (λ (z : Layout). During first (D.past (disk_in l)) (IsOfRefused z c.args.moment c.args.boot (D.size c.args.disk) first h w (g.C.Children.past c.args.children) (g.C.Children.past c.begin.new.children))) same
    (refused_left there h w c.args.moment c.args.boot (D.size c.args.disk) first a b _ c.in-Ok.ensures.sized trusted
    (record { slot = next.before; generation = next.earlier; taken_up = next.taken; stands = c.in-Ok.ensures.stands sure })
    (c.in-Ok.ensures.during sure (layout_in k) (subst (λ (z : Layout). Images first (IsSomeStore z)) (sym same) images)) refuses))

pub returns-in-Ok-begin-clause-sized : goal.returns-in-Ok-begin-clause-sized
returns-in-Ok-begin-clause-sized g c = c.begin.new.keeper.holds.size_is

pub returns-in-Ok-begin-clause-read : goal.returns-in-Ok-begin-clause-read
returns-in-Ok-begin-clause-read g c = λ h.
    let first = seen (g.D.Disk.past c.args.disk) in
    subst (λ (z : Layout). IsRead z first (opened_in c.begin.new.keeper)) (sym c.begin.ensures.frame.store.place.layout)
    (subst (IsRead (layout_in c.in-Ok.keeper) first) (sym c.begin.ensures.frame.store.place.opened) (c.in-Ok.ensures.opened h))

pub returns-in-Err-begin-clause-refused : goal.returns-in-Err-begin-clause-refused
returns-in-Err-begin-clause-refused g c = elim c.in-Err-begin.ensures.refused [
  | inl lost ↦ inl lost
  | inr spent ↦ inr (λ h.
      let k = c.in-Ok.keeper in
      let ok = c.in-Ok.ensures.ok in
      let (short, room) = c.in-Err-begin.ensures.spent spent in
      absurd (never_spent c.args.moment c.args.boot (k.kept ok.0 (subst IsTrue (sym ok.2) h)) ok.1 short room.no_room))
]

pub returns-in-Err-begin-clause-unwritten : goal.returns-in-Err-begin-clause-unwritten
returns-in-Err-begin-clause-unwritten g c = λ h. elim c.in-Err-begin.ensures.refused [
  | inl lost ↦ inl lost
  | inr spent ↦
      let k = c.in-Ok.keeper in
      let ok = c.in-Ok.ensures.ok in
      let (short, room) = c.in-Err-begin.ensures.spent spent in
      absurd (never_spent c.args.moment c.args.boot (k.kept ok.0 (subst IsTrue (sym ok.2) h)) ok.1 short room.no_room)
]

pub returns-in-Err-clause-unwritten : goal.returns-in-Err-clause-unwritten
returns-in-Err-clause-unwritten g c = λ h. elim (c.in-Err.ensures.unwritten h) [ inl unwritten ↦ inr unwritten | inr lost ↦ inl lost.0 ]

pub returns-in-Err-begin-clause-silent : goal.returns-in-Err-begin-clause-silent
returns-in-Err-begin-clause-silent g c = λ h w.
    let D = g.D.Disk in
    let first = D.past c.args.disk in
    let k = c.in-Ok.keeper in
    let l = c.begin.new.keeper in
    let (marks, refuses) = c.in-Err-begin.ensures.refuses in
    let a = now_in k (g.C.Children.past c.args.children) [] [] (D.past (disk_in k)) in
    let b = now_in l (g.C.Children.past c.begin.new.children) marks [] (D.past (disk_in l)) in
    asked_alone (place_in (D.honest (disk_in k)) k) _ _ (D.honest c.args.disk) c.args.moment c.args.boot (D.size c.args.disk) first a b _ c.in-Ok.ensures.sized
    (λ sure.
    let next = c.in-Ok.ensures.taken sure in
    record { slot = next.before; generation = next.earlier; taken_up = next.taken; stands = c.in-Ok.ensures.stands sure }) refuses h w

pub returns-in-Err-clause-silent : goal.returns-in-Err-clause-silent
returns-in-Err-clause-silent g c = λ h w. inl refl

pub returns-in-Err-clause-refuses : goal.returns-in-Err-clause-refuses
returns-in-Err-clause-refuses g c = λ sure layout images. untaken refl (c.in-Err.ensures.during_err sure layout images)

pub returns-in-Err-begin-clause-refuses : goal.returns-in-Err-begin-clause-refuses
returns-in-Err-begin-clause-refuses g c = λ sure layout images.
    let D = g.D.Disk in
    let h = g.C.Children.honest c.args.children in
    let w = g.C.Children.whole c.begin.new.children in
    let first = D.past c.args.disk in
    let k = c.in-Ok.keeper in
    let l = c.begin.new.keeper in
    let ok = c.in-Ok.ensures.ok in
    let next = c.in-Ok.ensures.taken sure in
    let as_stored = (images (seen first) (g.met.D.Disk.seen_is_image c.args.disk sure)).stands in
    let same : layout_in k ≡ layout = one_layout next.taken.has.format as_stored.format (layout_in k) layout (seen first) next.taken.has.first as_stored.first in
    let (marks, refuses) = c.in-Err-begin.ensures.refuses in
    let a = now_in k (g.C.Children.past c.args.children) [] [] (D.past (disk_in k)) in
    let b = now_in l (g.C.Children.past c.begin.new.children) marks [] (D.past (disk_in l)) in
    taken_up a b
    (subst (λ (z : Layout). IsFound (D.size c.args.disk) first z (state_in k)) same
    (record { slot = next.before; generation = next.earlier; taken_up = next.taken; stands = c.in-Ok.ensures.stands sure }))
    refl
    (subst (λ (z : Layout). During first (D.past (disk_in k)) (IsAsBefore z first)) same
    (c.in-Ok.ensures.during sure (layout_in k) (subst (λ (z : Layout). Images first (IsSomeStore z)) (sym same) images)))
    (subst (λ (p : Place). Refuses p h w c.in-Err-begin.refusal c.args.moment c.args.boot a b)
    (opened_place (ap body_limit (sym same) ∙ sym c.in-Ok.ensures.sized) (sym same) (ok.2 ∙ sure) ok.0) refuses)
    (ap D.past c.into_disk.ensures) refl

pub returns-in-Ok-begin-clause-history : goal.returns-in-Ok-begin-clause-history
returns-in-Ok-begin-clause-history g c =
    let sessions = c.in-Ok-begin.field-0.sessions.items in
    let opened = returns-in-Ok-begin-clause-opened g c in
    let anew : AllNew sessions = (c.in-Ok-begin.ensures.sessions, c.in-Ok-begin.ensures.anew) in
    (opens sessions opened anew, (refl, refl, refl, refl, refl, refl, refl))
