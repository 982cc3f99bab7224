use Rattle.std.proofs.Common.{◌≡◌, ◌+◌, ◌*◌, ◌<◌, ◌∙◌, ℕ, List, length, take, drop, take_all, refl, sym, ap, subst, arith}
use Rattle.std.proofs.lemmas.List.{drop-drop}
use Rattle.um_model.specs.Disk.{Sector, seen}
use Rattle.um_model.specs.Store.{log_sector, part_count}
use Rattle.um_sector.specs.Runs.{IsLaid}
use Rattle.um_sector.proofs.RunLaws.{laid_start, laid_write, run_start, run_step, wrote_syncs}
use Rattle.um_log.specs.Appending.{record_run}
use Rattle.um_log.proofs.Appending.{record_count, record_each}
use Rattle.um_log.proofs.sectors.write_record.Goals as goal

-- the next sector of a record, whose part begins the bytes that are left
next_of : (generation number : ℕ) (bytes rest chunk : List ℕ) (sector : Sector) (part : ℕ) → sector ≡ log_sector generation number part (length bytes) chunk → chunk ≡ take 480 rest → rest ≡ drop (480 * part) bytes
    → part < part_count (length bytes) → sector ≡ Rattle.std.specs.Prelude.slice_index_or (record_run generation number bytes) part Rattle.std.specs.Prelude.[]
next_of generation number bytes rest chunk sector part is cut here low =
    is ∙ ap (log_sector generation number part (length bytes)) (cut ∙ ap (take 480) here) ∙ sym (record_each generation number bytes part low)

-- the bytes that are left after it
left_of : (bytes rest behind : List ℕ) (part : ℕ) → behind ≡ drop 480 rest → rest ≡ drop (480 * part) bytes → behind ≡ drop (480 * (part + 1)) bytes
left_of bytes rest behind part cut here =
    let next : 480 * part + 480 ≡ 480 * (part + 1) = omega arith in
    cut ∙ ap (drop 480) here ∙ drop-drop 480 (480 * part) bytes ∙ ap (λ (n : ℕ). drop n bytes) next

pub loop-part-init : goal.loop-part-init
loop-part-init g c =
    let past = g.D.Disk.past c.args.disk.now in
    record {
      rest = refl;
      during = λ h. run_start past c.args.at (record_run c.args.generation c.args.number c.args.bytes.now);
      laid = λ h. laid_start (seen past) c.args.at;
      calls = omega arith;
      syncs = λ h. refl;
      failures = refl;
      size = refl;
      honest = refl;
    }

pub returns-in_err-write-clause-during : goal.returns-in_err-write-clause-during
returns-in_err-write-clause-during g c h =
    let bytes = c.args.bytes.now in
    let part = c.loop-part.part in
    let low : part < part_count (length bytes) = omega (arith, c.loop-part-test.true, c.div_ceil-part-end.ensures) in
    let is = next_of c.args.generation c.args.number bytes c.loop-part.rest.now c.next_chunk.result.0.now c.log_sector-sector.result part c.log_sector-sector.ensures c.next_chunk.ensures.chunk c.loop-part.invariant.rest low in
    run_step c.write.result (g.D.Disk.past c.args.disk.now) (g.D.Disk.past c.loop-part.disk) (g.D.Disk.past c.write.new.self) c.args.at (record_run c.args.generation c.args.number bytes) part c.log_sector-sector.result
    (omega (arith, low, record_count c.args.generation c.args.number bytes)) is (c.loop-part.invariant.during h) (c.write.ensures.past (c.loop-part.invariant.honest ∙ h))

pub loop-part-preserved : goal.loop-part-preserved
loop-part-preserved g c =
    let bytes = c.args.bytes.now in
    let part = c.loop-part.part in
    let run = record_run c.args.generation c.args.number bytes in
    let low : part < part_count (length bytes) = omega (arith, c.loop-part-test.true, c.div_ceil-part-end.ensures) in
    let below : part < length run = omega (arith, low, record_count c.args.generation c.args.number bytes) in
    let is = next_of c.args.generation c.args.number bytes c.loop-part.rest.now c.next_chunk.result.0.now c.log_sector-sector.result part c.log_sector-sector.ensures c.next_chunk.ensures.chunk c.loop-part.invariant.rest low in
    record {
      rest = left_of bytes c.loop-part.rest.now c.next_chunk.result.1.now part c.next_chunk.ensures.behind c.loop-part.invariant.rest;
      during = λ h. run_step c.write.result (g.D.Disk.past c.args.disk.now) (g.D.Disk.past c.loop-part.disk) (g.D.Disk.past c.write.new.self) c.args.at run part c.log_sector-sector.result
          below is (c.loop-part.invariant.during h) (c.write.ensures.past (c.loop-part.invariant.honest ∙ h));
      laid = λ h. subst (λ p. IsLaid (seen (g.D.Disk.past c.args.disk.now)) c.args.at (take (part + 1) run) (seen p)) (sym (c.in_ok-write.ensures.past (c.loop-part.invariant.honest ∙ h)))
          (laid_write (seen (g.D.Disk.past c.args.disk.now)) c.args.at run (seen (g.D.Disk.past c.loop-part.disk)) part c.log_sector-sector.result below is (c.loop-part.invariant.laid h));
      calls = omega (arith, c.write.ensures.calls, c.loop-part.invariant.calls);
      syncs = λ h. wrote_syncs c.write.result (g.D.Disk.past c.loop-part.disk) _ _ (g.D.Disk.past c.write.new.self) (c.write.ensures.past (c.loop-part.invariant.honest ∙ h)) ∙ c.loop-part.invariant.syncs h;
      failures = c.in_ok-write.ensures.failures ∙ c.loop-part.invariant.failures;
      size = c.write.ensures.size ∙ c.loop-part.invariant.size;
      honest = c.write.ensures.honest ∙ c.loop-part.invariant.honest;
    }

pub returns-clause-ok : goal.returns-clause-ok
returns-clause-ok g c h =
    let run = record_run c.args.generation c.args.number c.args.bytes.now in
    subst (λ r. IsLaid (seen (g.D.Disk.past c.args.disk.now)) c.args.at r (seen (g.D.Disk.past c.loop-part.disk)))
    (take_all c.loop-part.part run (omega (arith, record_count c.args.generation c.args.number c.args.bytes.now, c.loop-part-test.false, c.div_ceil-part-end.ensures))) (c.loop-part.invariant.laid h)

pub returns-in_err-write-clause-syncs : goal.returns-in_err-write-clause-syncs
returns-in_err-write-clause-syncs g c h =
    wrote_syncs c.write.result (g.D.Disk.past c.loop-part.disk) _ _ (g.D.Disk.past c.write.new.self) (c.write.ensures.past (c.loop-part.invariant.honest ∙ h)) ∙ c.loop-part.invariant.syncs h
