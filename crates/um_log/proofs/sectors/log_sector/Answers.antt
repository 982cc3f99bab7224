use Rattle.std.specs.Prelude.{◌≡◌, List, ℕ, ◌++◌, codes}
use Rattle.std.proofs.Common.{◌∙◌, ap, arith}
use Rattle.byteorder.specs.Endian.{big_bytes}
use Rattle.um_model.specs.Store as store
use Rattle.um_model.specs.Store.{filled, part_count}
use Rattle.um_log.proofs.sectors.log_sector.Goals as goal

pub returns : goal.returns
unfolding store.log_sector
returns c =
    let parts : c.div_ceil.result ≡ part_count c.args.size = omega (arith, c.div_ceil.ensures) in
    let name = c.put.ensures ∙ ap (λ (l : List ℕ). l ++ codes "UMLG") c.new-fields.ensures in
    let generation = c.put_u64.ensures ∙ ap (λ (l : List ℕ). l ++ big_bytes 8 c.args.generation) name in
    let number = c.put_u64-2.ensures ∙ ap (λ (l : List ℕ). l ++ big_bytes 8 c.args.number) generation in
    let part = c.put_u32.ensures ∙ ap (λ (l : List ℕ). l ++ big_bytes 4 c.args.part) number in
    let count = c.put_u32-2.ensures ∙ (λ i. part i ++ big_bytes 4 (parts i)) in
    let size = c.put_u32-3.ensures ∙ ap (λ (l : List ℕ). l ++ big_bytes 4 c.args.size) count in
    c.sector.ensures ∙ ap filled (c.put-2.ensures ∙ ap (λ (l : List ℕ). l ++ c.args.payload.now) size)
