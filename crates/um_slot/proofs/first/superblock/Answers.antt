use Rattle.std.specs.Prelude.{List, ℕ, ◌++◌}
use Rattle.std.proofs.Common.{◌∙◌, ap, append_assoc}
use Rattle.byteorder.specs.Endian.{big_bytes}
use Rattle.um_model.specs.Store as store
use Rattle.um_model.specs.Store.{filled}
use Rattle.um_slot.proofs.first.superblock.Goals as goal

pub returns : goal.returns
unfolding store.superblock
returns c =
    let name = store.format_name c.args.format in
    let slots = big_bytes 4 c.args.layout.slot_sectors in
    let log = big_bytes 4 c.args.layout.log_sectors in
    c.sector.ensures ∙ ap filled (c.put_u32-2.ensures ∙ ap (λ (l : List ℕ). l ++ log) (c.put_u32.ensures ∙ ap (λ (l : List ℕ). l ++ slots)
    (c.put.ensures ∙ (λ i. c.new-fields.ensures i ++ c.name_of.ensures i))) ∙ append_assoc name slots log)
