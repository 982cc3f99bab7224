use Rattle.std.proofs.Common.{◌≡◌, ◌∙◌, length, subst, sym, arith}
use Rattle.um_model.specs.Disk.{seen}
use Rattle.um_model.specs.Store.{other, sector_count}
use Rattle.um_slot.specs.Snapshots.{IsWritten}
use Rattle.um_slot.proofs.Snapshots.{newest_beside, parts_newest, then_newest}
use Rattle.um_keeper.proofs.Aside.{all_written}
use Rattle.um_keeper.proofs.Results.{some_from}
use Rattle.um_keeper.proofs.snapshot.NextSnapshot.store.Goals as goal

pub returns-in_err-write_part-clause-during_newest : goal.returns-in_err-write_part-clause-during_newest
returns-in_err-write_part-clause-during_newest g c h format newest before above all = parts_newest (c.write_part.ensures.during h) all c.args.self.body.items

pub returns-in_err-stored-clause-during_newest : goal.returns-in_err-stored-clause-during_newest
returns-in_err-stored-clause-during_newest g c h format newest before above all =
    let layout = c.args.layout in
    let body = c.args.self.body.items in
    let mid = g.D.Disk.past c.write_part.new.disk in
    let nothing : IsWritten layout (seen (g.D.Disk.past c.args.disk.now)) (other c.args.home.slot) body c.args.self.written = λ i below. absurd (omega (arith, below, c.requires.anew)) in
    let long : length body ≡ c.len.result = sym (c.len.ensures ∙ c.args.self.body.ok.0) in
    let all_of = all_written layout (seen mid) (other c.args.home.slot) body _ _ (omega (arith, c.requires.fits, layout.slot_most)) (c.in_ok-write_part.ensures.stands h nothing) in
    let whole = subst (λ n. IsWritten layout (seen mid) (other c.args.home.slot) body (sector_count n)) long all_of in
    then_newest (c.write_part.ensures.during h) all
    (c.finish.ensures.during_newest (c.write_part.ensures.honest ∙ h) format newest before body above long whole (newest_beside (c.write_part.ensures.during h) all))

pub returns-clause-during_newest : goal.returns-clause-during_newest
returns-clause-during_newest g c h format newest before above all =
    let layout = c.args.layout in
    let body = c.args.self.body.items in
    let mid = g.D.Disk.past c.write_part.new.disk in
    let nothing : IsWritten layout (seen (g.D.Disk.past c.args.disk.now)) (other c.args.home.slot) body c.args.self.written = λ i below. absurd (omega (arith, below, c.requires.anew)) in
    let long : length body ≡ c.len.result = sym (c.len.ensures ∙ c.args.self.body.ok.0) in
    let all_of = all_written layout (seen mid) (other c.args.home.slot) body _ _ (omega (arith, c.requires.fits, layout.slot_most)) (c.in_ok-write_part.ensures.stands h nothing) in
    let whole = subst (λ n. IsWritten layout (seen mid) (other c.args.home.slot) body (sector_count n)) long all_of in
    then_newest (c.write_part.ensures.during h) all
    (c.finish.ensures.during_newest (c.write_part.ensures.honest ∙ h) format newest before body above long whole (newest_beside (c.write_part.ensures.during h) all))

pub returns-clause-renewed : goal.returns-clause-renewed
returns-clause-renewed g c h format newest before above all =
    let layout = c.args.layout in
    let body = c.args.self.body.items in
    let mid = g.D.Disk.past c.write_part.new.disk in
    let nothing : IsWritten layout (seen (g.D.Disk.past c.args.disk.now)) (other c.args.home.slot) body c.args.self.written = λ i below. absurd (omega (arith, below, c.requires.anew)) in
    let long : length body ≡ c.len.result = sym (c.len.ensures ∙ c.args.self.body.ok.0) in
    let all_of = all_written layout (seen mid) (other c.args.home.slot) body _ _ (omega (arith, c.requires.fits, layout.slot_most)) (c.in_ok-write_part.ensures.stands h nothing) in
    let whole = subst (λ n. IsWritten layout (seen mid) (other c.args.home.slot) body (sector_count n)) long all_of in
    some_from _ c.in-Some.is c.in_ok-stored.ensures.renewed (c.write_part.ensures.honest ∙ h) format newest before body above long whole (newest_beside (c.write_part.ensures.during h) all)
