use Rattle.std.proofs.Common.{◌≡◌, ◌+◌, ◌*◌, ◌<◌, ◌∙◌, ℕ, List, length, take, drop, take_all, refl, sym, ap, subst, arith}
use Rattle.std.proofs.lemmas.List.{drop-drop}
use Rattle.um_model.specs.Disk.{Sector, seen, one_more}
use Rattle.um_model.specs.Store.{filled}
use Rattle.um_sector.specs.Runs.{IsLaid, more}
use Rattle.um_sector.proofs.RunLaws.{laid_start, laid_write, run_start, run_step, wrote_syncs, more-add_one, more-le}
use Rattle.um_slot.specs.Snapshots.{body_sector, part_run}
use Rattle.um_slot.proofs.Writing.{part_count, part_each}
use Rattle.um_slot.proofs.sectors.write_sectors.Goals as goal

-- the next sector of a body, whose bytes begin those that are left
next_of : (body rest chunk : List ℕ) (sector : Sector) (i : ℕ) → sector ≡ filled chunk → chunk ≡ take 512 rest → rest ≡ drop (512 * i) body → sector ≡ body_sector body i
next_of body rest chunk sector i is cut here = is ∙ ap filled (cut ∙ ap (take 512) here)

-- the bytes that are left after it
left_of : (body rest behind : List ℕ) (from i : ℕ) → behind ≡ drop 512 rest → rest ≡ drop (512 * (from + i)) body → behind ≡ drop (512 * (from + (i + 1))) body
left_of body rest behind from i cut here =
    let next : 512 * (from + i) + 512 ≡ 512 * (from + (i + 1)) = omega arith in
    cut ∙ ap (drop 512) here ∙ drop-drop 512 (512 * (from + i)) body ∙ ap (λ (n : ℕ). drop n body) next

pub loop-i-init : goal.loop-i-init
loop-i-init g c =
    let past = g.D.Disk.past c.args.disk.now in
    let here : 512 * c.args.from ≡ 512 * (c.args.from + 0) = omega arith in
    record {
      rest = c.next_chunk.ensures.behind ∙ ap (λ (n : ℕ). drop n c.args.body.now) here;
      during = λ h. run_start past c.args.at (part_run c.args.body.now c.args.from c.args.count);
      laid = λ h. laid_start (seen past) c.args.at;
      syncs = λ h. refl;
      calls = refl;
      failures = refl;
      size = refl;
      honest = refl;
    }

pub returns-in_err-write-clause-during : goal.returns-in_err-write-clause-during
returns-in_err-write-clause-during g c h =
    let body = c.args.body.now in
    let from = c.args.from in
    let i = c.loop-i.i in
    let low : i < c.args.count = omega (arith, c.loop-i-test.true) in
    let is = next_of body c.loop-i.rest.now c.next_chunk-in-loop-i.result.0.now c.sector_of.result (from + i) c.sector_of.ensures c.next_chunk-in-loop-i.ensures.chunk c.loop-i.invariant.rest in
    run_step c.write.result (g.D.Disk.past c.args.disk.now) (g.D.Disk.past c.loop-i.disk) (g.D.Disk.past c.write.new.self) c.args.at (part_run body from c.args.count) i c.sector_of.result
    (omega (arith, low, part_count body from c.args.count)) (is ∙ sym (part_each body from c.args.count i low)) (c.loop-i.invariant.during h) (c.write.ensures.past (c.loop-i.invariant.honest ∙ h))

pub returns-in_err-write-clause-syncs : goal.returns-in_err-write-clause-syncs
returns-in_err-write-clause-syncs g c h =
    wrote_syncs c.write.result (g.D.Disk.past c.loop-i.disk) _ _ (g.D.Disk.past c.write.new.self) (c.write.ensures.past (c.loop-i.invariant.honest ∙ h)) ∙ c.loop-i.invariant.syncs h

pub loop-i-preserved : goal.loop-i-preserved
loop-i-preserved g c =
    let body = c.args.body.now in
    let from = c.args.from in
    let i = c.loop-i.i in
    let run = part_run body from c.args.count in
    let low : i < c.args.count = omega (arith, c.loop-i-test.true) in
    let below : i < length run = omega (arith, low, part_count body from c.args.count) in
    let is = next_of body c.loop-i.rest.now c.next_chunk-in-loop-i.result.0.now c.sector_of.result (from + i) c.sector_of.ensures c.next_chunk-in-loop-i.ensures.chunk c.loop-i.invariant.rest
    ∙ sym (part_each body from c.args.count i low) in
    record {
      rest = left_of body c.loop-i.rest.now c.next_chunk-in-loop-i.result.1.now from i c.next_chunk-in-loop-i.ensures.behind c.loop-i.invariant.rest;
      during = λ h. run_step c.write.result (g.D.Disk.past c.args.disk.now) (g.D.Disk.past c.loop-i.disk) (g.D.Disk.past c.write.new.self) c.args.at run i c.sector_of.result
          below is (c.loop-i.invariant.during h) (c.write.ensures.past (c.loop-i.invariant.honest ∙ h));
      laid = λ h. subst (λ p. IsLaid (seen (g.D.Disk.past c.args.disk.now)) c.args.at (take (i + 1) run) (seen p)) (sym (c.in_ok-write.ensures.past (c.loop-i.invariant.honest ∙ h)))
          (laid_write (seen (g.D.Disk.past c.args.disk.now)) c.args.at run (seen (g.D.Disk.past c.loop-i.disk)) i c.sector_of.result below is (c.loop-i.invariant.laid h));
      syncs = λ h. wrote_syncs c.write.result (g.D.Disk.past c.loop-i.disk) _ _ (g.D.Disk.past c.write.new.self) (c.write.ensures.past (c.loop-i.invariant.honest ∙ h)) ∙ c.loop-i.invariant.syncs h;
      calls = c.write.ensures.calls ∙ ap one_more c.loop-i.invariant.calls ∙ sym (more-add_one (g.D.Disk.calls c.args.disk.now) i);
      failures = c.in_ok-write.ensures.failures ∙ c.loop-i.invariant.failures;
      size = c.write.ensures.size ∙ c.loop-i.invariant.size;
      honest = c.write.ensures.honest ∙ c.loop-i.invariant.honest;
    }

pub returns-clause-ok : goal.returns-clause-ok
returns-clause-ok g c h =
    let run = part_run c.args.body.now c.args.from c.args.count in
    subst (λ r. IsLaid (seen (g.D.Disk.past c.args.disk.now)) c.args.at r (seen (g.D.Disk.past c.loop-i.disk)))
    (take_all c.loop-i.i run (omega (arith, part_count c.args.body.now c.args.from c.args.count, c.loop-i-test.false))) (c.loop-i.invariant.laid h)

pub returns-in_err-write-clause-calls : goal.returns-in_err-write-clause-calls
returns-in_err-write-clause-calls g c =
    omega (arith, c.write.ensures.calls, c.loop-i.invariant.calls, more-le (g.D.Disk.calls c.args.disk.now) c.loop-i.i, c.loop-i-test.true)

pub returns-clause-calls : goal.returns-clause-calls
returns-clause-calls g c =
    omega (arith, c.loop-i.invariant.calls, more-le (g.D.Disk.calls c.args.disk.now) c.loop-i.i, c.loop-i.auto.i-end)

pub returns-clause-all_calls : goal.returns-clause-all_calls
returns-clause-all_calls g c =
    let all : c.loop-i.i ≡ c.args.count = omega (arith, c.loop-i-test.false, c.loop-i.auto.i-end) in
    c.loop-i.invariant.calls ∙ ap (more (g.D.Disk.calls c.args.disk.now)) all
