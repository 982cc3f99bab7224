use Rattle.std.specs.Prelude.{◌≡◌}
use Rattle.std.specs.Cmp.Lexicographic.{other_text}
use Rattle.std.proofs.Common.{sym, ◌∙◌, arith}
use Rattle.um_model.specs.Store as store
use Rattle.um_laws.proofs.StoreLaws.{header_says}
use Rattle.um_slot.proofs.header.read_header.Goals.{then-generation-eq0-via-then-generation-eq0, then-generation-eq0-via-else-generation-eq0+then-size-body_limit}
use Rattle.um_slot.proofs.header.read_header.Goals as goal

pub returns-then-generation-eq0 : goal.returns-then-generation-eq0
returns-then-generation-eq0 c = λ generation size is.
    let says = header_says is in
    let g : c.u64_at-generation.result ≡ generation = c.u64_at-generation.ensures ∙ says.0 in
    let n : c.u64_at-size.result ≡ size = c.u64_at-size.ensures ∙ says.1 in
    elim c.then-generation-eq0.branch [
      | then-generation-eq0-via-then-generation-eq0 w ↦ omega (arith, w.if-generation-eq0.true, g, is.first)
      | then-generation-eq0-via-else-generation-eq0+then-size-body_limit w ↦ omega (arith, w.if-size-body_limit.true, w.body_limit.ensures, n, is.fits)
    ]

pub returns-else-eq : goal.returns-else-eq
returns-else-eq c = λ generation size is.
    let says = header_says is in
    let g : generation ≡ c.u64_at-generation.result = sym (c.u64_at-generation.ensures ∙ says.0) in
    let n : size ≡ c.u64_at-size.result = sym (c.u64_at-size.ensures ∙ says.1) in
    other_text _ _ (sym c.if-eq.false ∙ c.eq.ensures) (is.is ∙ (λ i. store.header_sector (g i) (n i)) ∙ sym c.header_sector.ensures)
