use Rattle.std.specs.Prelude.{◌≡◌, ◌-◌, ◌*◌, min, take, drop}
use Rattle.std.specs.Cmp.Lexicographic.{other_text}
use Rattle.std.proofs.Common.{sym, ◌∙◌, arith}
use Rattle.um_model.specs.Store as store
use Rattle.um_log.proofs.Parts.{says, payload_of}
use Rattle.um_log.proofs.chain.part_in.Goals.{then-generation-least-via-then-generation-least, then-generation-least-via-else-generation-least+then-size-longest, then-generation-least-via-else-generation-least+else-size-longest+then-part-div_ceil}
use Rattle.um_log.proofs.chain.part_in.Goals as goal

pub returns-then-generation-least : goal.returns-then-generation-least
returns-then-generation-least c = λ generation number part size late possible is.
    let told = says c.args.format possible is in
    let g : c.u64_at-generation.result ≡ generation = c.u64_at-generation.ensures ∙ told.generation_is in
    let k : c.u32_at-part.result ≡ part = c.u32_at-part.ensures ∙ told.part_is in
    let z : c.u32_at-size.result ≡ size = c.u32_at-size.ensures ∙ told.size_is in
    elim c.then-generation-least.branch [
      | then-generation-least-via-then-generation-least w ↦ omega (arith, w.if-generation-least.true, g, late)
      | then-generation-least-via-else-generation-least+then-size-longest w ↦ omega (arith, w.if-size-longest.true, w.longest.ensures, z, possible.short)
      | then-generation-least-via-else-generation-least+else-size-longest+then-part-div_ceil w ↦ omega (arith, w.if-part-div_ceil.true, w.div_ceil.ensures, k, z, possible.below)
    ]

pub returns-else-eq : goal.returns-else-eq
returns-else-eq c = λ generation number part size late possible is.
    let told = says c.args.format possible is in
    let g : generation ≡ c.u64_at-generation.result = sym (c.u64_at-generation.ensures ∙ told.generation_is) in
    let n : number ≡ c.u64_at-number.result = sym (c.u64_at-number.ensures ∙ told.number_is) in
    let k : part ≡ c.u32_at-part.result = sym (c.u32_at-part.ensures ∙ told.part_is) in
    let z : size ≡ c.u32_at-size.result = sym (c.u32_at-size.ensures ∙ told.size_is) in
    let left : min 480 (size - 480 * part) ≡ min 480 (c.u32_at-size.result - 480 * c.u32_at-part.result) = omega (arith, k, z) in
    let bytes : is.payload ≡ c.payload-payload.result.now = payload_of is ∙ (λ i. take (left i) (drop 32 c.args.sector.now)) ∙ sym c.payload-payload.ensures.payload in
    other_text _ _ (sym c.if-eq.false ∙ c.eq.ensures) (is.is ∙ (λ i. store.log_sector (g i) (n i) (k i) (z i) (bytes i)) ∙ sym c.log_sector.ensures)
