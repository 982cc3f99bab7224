use Rattle.std.specs.Prelude.{◌≡◌, ◌+◌, ◌<◌, ℕ, List, drop}
use Rattle.std.proofs.lemmas.Bool.{true≢false}
use Rattle.std.proofs.Common.{sym, ◌∙◌, ap, arith}
use Rattle.byteorder.specs.Endian.{big_number}
use Rattle.um_model.specs.Disk.{Past, seen}
use Rattle.um_model.specs.Store.{log_sector, part_count}
use Rattle.um_log.proofs.Scanning.{none_fits, none_part, differ, agree, long_more, parts_more}
use Rattle.um_log.proofs.read.record_at.Goals as goal

pub returns-then-not-fits-clause-found : goal.returns-then-not-fits-clause-found
returns-then-not-fits-clause-found g c h =
    let image = seen (g.D.Disk.past c.args.disk.now) in
    let told : c.u32_at-size.result ≡ big_number 4 (drop 28 (image c.args.at)) = c.u32_at-size.ensures ∙ ap (λ (s : List ℕ). big_number 4 (drop 28 s)) (c.in_ok-read.ensures.value h) in
    none_fits c.args.format c.args.layout c.args.generation c.args.number c.args.at c.u32_at-size.result image told (λ room. true≢false (sym (c.fits.ensures.1 room) ∙ c.if-not-fits.true))

pub returns-then-ne-clause-found : goal.returns-then-ne-clause-found
returns-then-ne-clause-found g c h =
    let image = seen (g.D.Disk.past c.args.disk.now) in
    let told : c.u32_at-size.result ≡ big_number 4 (drop 28 (image c.args.at)) = c.u32_at-size.ensures ∙ ap (λ (s : List ℕ). big_number 4 (drop 28 s)) (c.in_ok-read.ensures.value h) in
    let is = c.in_ok-read_part.ensures.value (c.loop-part.invariant.honest ∙ h) (λ none. c.loop-part.invariant.held h none ∙ sym (ap (λ (p : Past). seen p c.args.at) (c.loop-part.invariant.past h)))
    ∙ ap (λ (p : Past). seen p (c.args.at + c.loop-part.part)) (c.loop-part.invariant.past h) in
    let low : c.loop-part.part < part_count c.u32_at-size.result = omega (arith, c.loop-part-test.true, c.div_ceil-part-end.ensures) in
    let is_told = c.log_sector.ensures in
    none_part c.args.format c.args.layout c.args.generation c.args.number c.args.at c.u32_at-size.result c.loop-part.part image c.read_part.new.sector c.payload-payload.result.now told low is c.payload-payload.ensures.payload
    (λ same. differ _ _ c.ne.result c.ne.ensures c.if-ne.true (same ∙ sym is_told))

pub loop-part-preserved : goal.loop-part-preserved
loop-part-preserved g c =
    let past = g.D.Disk.past in
    let low : c.loop-part.part < part_count c.u32_at-size.result = omega (arith, c.loop-part-test.true, c.div_ceil-part-end.ensures) in
    let grown = c.in_ok-extend_from_slice.ensures.items in
    record {
      parts = λ h.
          let is = c.in_ok-read_part.ensures.value (c.loop-part.invariant.honest ∙ h) (λ none. c.loop-part.invariant.held h none ∙ sym (ap (λ (p : Past). seen p c.args.at) (c.loop-part.invariant.past h)))
          ∙ ap (λ (p : Past). seen p (c.args.at + c.loop-part.part)) (c.loop-part.invariant.past h) in
          let same = agree _ _ c.ne.result c.ne.ensures c.if-ne.false ∙ c.log_sector.ensures in
          parts_more (λ i. log_sector c.args.generation c.args.number i c.u32_at-size.result) (seen (past c.args.disk.now)) c.args.at c.loop-part.part c.u32_at-size.result c.loop-part.bytes.items c.payload-payload.result.now c.extend_from_slice.new.self.items
          low c.loop-part.invariant.long c.payload-payload.ensures.long grown (c.loop-part.invariant.parts h) (sym is ∙ same);
      long = long_more c.loop-part.bytes.items c.payload-payload.result.now c.extend_from_slice.new.self.items c.loop-part.part c.u32_at-size.result low c.loop-part.invariant.long c.payload-payload.ensures.long grown;
      held = λ h none. absurd (omega (arith, none));
      calls = omega (arith, c.read_part.ensures.calls, c.loop-part.invariant.calls);
      past = λ h. c.read_part.ensures.past (c.loop-part.invariant.honest ∙ h) ∙ c.loop-part.invariant.past h;
      failures = c.in_ok-read_part.ensures.failures ∙ c.loop-part.invariant.failures;
      disk_size = c.read_part.ensures.size ∙ c.loop-part.invariant.disk_size;
      honest = c.read_part.ensures.honest ∙ c.loop-part.invariant.honest;
    }
