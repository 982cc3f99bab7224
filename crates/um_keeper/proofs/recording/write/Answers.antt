use Rattle.std.proofs.Common.{◌≡◌, ◌∙◌, ◌++◌, ◌+◌, ◌≤◌, ◌∷◌, [], ℕ, List, Ok, length, refl, sym, ap, subst, arith}
use Rattle.um_laws.proofs.DiskLaws.{weaker}
use Rattle.um_model.specs.Disk.{During}
use Rattle.um_model.specs.Store.{body_limit, part_count, log_end}
use Rattle.um_model.specs.declared.layout.Layout.{Layout}
use Rattle.um_log.specs.Ahead.{HasSome, GoesOnAhead}
use Rattle.um_state.specs.View.{input_of}
use Rattle.um_keeper.proofs.Aside.{written_room}
use Rattle.um_keeper.proofs.Judged.{step_on}
use Rattle.um_keeper.proofs.Kept.{begun_longer, held_at}
use Rattle.um_keeper.proofs.Spent.{free_behind}
use Rattle.um_keeper.proofs.Taking.{rises_more}
use Rattle.um_keeper.proofs.Underway.{still_longer, then_begun, during_recorded, underway_recorded}
use Rattle.um_keeper.proofs.recording.write.Goals as goal

pub invariant_of-ahead : goal.invariant_of-ahead
invariant_of-ahead g c = record {
  same = c.write.ensures.of.1 ∙ c.make_room.new.ahead.same;
  early = c.make_room.new.ahead.early;
  short = subst (λ (l : Layout). length c.make_room.new.ahead.aside.body.items ≤ body_limit l) (sym c.write.ensures.of.0) c.make_room.new.ahead.short;
}

pub returns-in_err-bytes-clause-during : goal.returns-in_err-bytes-clause-during
returns-in_err-bytes-clause-during g c h next planned s taken under = still_longer under (input_of c.args.input.now ∷ [])

pub make_room-requires-clause-short : goal.make_room-requires-clause-short
make_room-requires-clause-short g c =
    let short = c.requires.short c.in_ok-bytes.ensures.fits in
    omega (arith, c.len.ensures, ap length c.in_ok-bytes.ensures.bytes, short)

pub returns-in_err-make_room-clause-during : goal.returns-in_err-make_room-clause-during
returns-in_err-make_room-clause-during g c h next planned s taken under =
    weaker (g.D.Disk.past c.args.disk.now) (g.D.Disk.past c.make_room.new.disk) _ _ (begun_longer taken (input_of c.args.input.now ∷ [])) (c.make_room.ensures.during h s taken under)

-- after room was made
pub returns-in-Ok-true-clause-during : goal.returns-in-Ok-true-clause-during
returns-in-Ok-true-clause-during g c h next planned s taken under =
    let a = c.make_room.new.ahead in
    let mid = g.D.Disk.past c.make_room.new.disk in
    let new = g.D.Disk.past c.write.new.disk in
    let h1 = c.make_room.ensures.honest ∙ h in
    let here = c.in_ok-make_room.ensures.ok h s taken under in
    then_begun (input_of c.args.input.now ∷ []) c.make_room.ensures.layout (c.make_room.ensures.during h s taken under)
    (during_recorded here c.in_ok-bytes.ensures.fits (step_on (held_at c.requires.held c.make_room.ensures.layout refl refl) planned.step refl)
    (subst (λ (b : List ℕ). During mid new (HasSome a.log.layout a.home.slot a.home.generation here.body here.records (here.more ++ b ∷ []))) (c.deref.ensures.value ∙ c.in_ok-bytes.ensures.bytes)
    (c.write.ensures.during h1 a.home.slot a.home.generation here.body here.records here.more here.ahead)))

pub returns-in-Ok-true-clause-under : goal.returns-in-Ok-true-clause-under
returns-in-Ok-true-clause-under g c h next planned s taken under =
    let a = c.make_room.new.ahead in
    let log = c.write.new.self in
    let new = g.D.Disk.past c.write.new.disk in
    let h1 = c.make_room.ensures.honest ∙ h in
    let here = c.in_ok-make_room.ensures.ok h s taken under in
    let size : c.len.result ≡ length c.deref.result.now = omega (arith, c.len.ensures, ap length c.deref.ensures.value) in
    let done = c.in-Ok-true.is ∙ ap Ok c.in-Ok-true.field-0-test in
    underway_recorded here c.in_ok-bytes.ensures.fits (step_on (held_at c.requires.held c.make_room.ensures.layout refl refl) planned.step refl) c.write.ensures.of.0 c.write.ensures.of.1
    (written_room a.log.layout a.aside.body.items a.aside.written a.aside.going a.aside.none a.short) (part_count (length c.deref.result.now))
    (subst (λ n. a.log.next + part_count n ≤ log_end a.log.layout a.log.generation) size c.in_ok-make_room.ensures.fits.within) (c.write.ensures.read done h1)
    (subst (λ (b : List ℕ). GoesOnAhead log.layout new a.home.slot a.home.generation here.body here.records (here.more ++ b ∷ []) log.generation log.number log.next) (c.deref.ensures.value ∙ c.in_ok-bytes.ensures.bytes)
    (c.write.ensures.ok (c.in-Ok-true.is ∙ ap Ok c.in-Ok-true.field-0-test) h1 a.home.slot a.home.generation here.body here.records here.more here.ahead))

pub returns-clause-during : goal.returns-clause-during
returns-clause-during g c h next planned s taken under =
    let a = c.make_room.new.ahead in
    let mid = g.D.Disk.past c.make_room.new.disk in
    let new = g.D.Disk.past c.write.new.disk in
    let h1 = c.make_room.ensures.honest ∙ h in
    let here = c.in_ok-make_room.ensures.ok h s taken under in
    then_begun (input_of c.args.input.now ∷ []) c.make_room.ensures.layout (c.make_room.ensures.during h s taken under)
    (during_recorded here c.in_ok-bytes.ensures.fits (step_on (held_at c.requires.held c.make_room.ensures.layout refl refl) planned.step refl)
    (subst (λ (b : List ℕ). During mid new (HasSome a.log.layout a.home.slot a.home.generation here.body here.records (here.more ++ b ∷ []))) (c.deref.ensures.value ∙ c.in_ok-bytes.ensures.bytes)
    (c.write.ensures.during h1 a.home.slot a.home.generation here.body here.records here.more here.ahead)))

pub returns-in-Ok-true-clause-filled : goal.returns-in-Ok-true-clause-filled
returns-in-Ok-true-clause-filled g c from free =
    free_behind _ c.write.ensures.of.0 c.write.ensures.of.1
    ((c.write.ensures.next (c.in-Ok-true.is ∙ ap Ok c.in-Ok-true.field-0-test)).0 ∙ ap (λ (b : List ℕ). c.make_room.new.ahead.log.next + part_count (length b)) (c.deref.ensures.value ∙ c.in_ok-bytes.ensures.bytes))
    (c.make_room.ensures.free from free)

pub returns-in-Ok-true-clause-rises : goal.returns-in-Ok-true-clause-rises
returns-in-Ok-true-clause-rises g c = rises_more c.args.ahead.now c.make_room.new.ahead _ _ c.in_ok-make_room.ensures.rises c.write.ensures.of.1 refl
    (subst (λ (b : List ℕ). g.D.Disk.calls c.write.new.disk ≤ g.D.Disk.calls c.make_room.new.disk + part_count (length b)) (c.deref.ensures.value ∙ c.in_ok-bytes.ensures.bytes) c.write.ensures.calls)
