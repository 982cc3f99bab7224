use Rattle.std.specs.Prelude.{List, ℕ, ◌++◌, codes}
use Rattle.std.proofs.Common.{◌∙◌, ap}
use Rattle.byteorder.specs.Endian.{big_bytes}
use Rattle.um_model.specs.Store as store
use Rattle.um_model.specs.Store.{filled}
use Rattle.um_slot.proofs.header.header_sector.Goals as goal

pub returns : goal.returns
unfolding store.header_sector
returns c =
    c.sector.ensures ∙ ap filled (c.put_u64-2.ensures ∙ ap (λ (l : List ℕ). l ++ big_bytes 8 c.args.size) (c.put_u64.ensures ∙ ap (λ (l : List ℕ). l ++ big_bytes 8 c.args.generation)
    (c.put.ensures ∙ ap (λ (l : List ℕ). l ++ codes "UMSLOT01") c.new-fields.ensures)))
