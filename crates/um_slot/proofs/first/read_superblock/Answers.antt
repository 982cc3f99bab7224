use Rattle.std.specs.Prelude.{◌≡◌, ℕ, List, take, drop}
use Rattle.std.specs.Cmp.Lexicographic.{other_text}
use Rattle.std.proofs.Common.{refl, sym, ◌∙◌, ap, inr, arith}
use Rattle.byteorder.specs.Endian.{big_number}
use Rattle.um_model.specs.declared.layout.Format.{Format}
use Rattle.um_model.specs.declared.layout.Layout.{Layout}
use Rattle.um_model.specs.Store as store
use Rattle.um_laws.proofs.StoreLaws.{superblock_says, superblock_name, same_superblock, same_name}
use Rattle.um_slot.proofs.first.read_superblock.Goals as goal

-- the fields of the sector of a layout
told : (format : Format) (layout : Layout) (sector : List ℕ) (slots log : ℕ) → slots ≡ big_number 4 (drop 8 sector) → log ≡ big_number 4 (drop 12 sector) → sector ≡ store.superblock format layout
    → (slots ≡ layout.slot_sectors) × (log ≡ layout.log_sectors)
told format layout sector slots log a b same =
    let says = superblock_says format layout in
    (a ∙ ap (λ (s : List ℕ). big_number 4 (drop 8 s)) same ∙ says.0, b ∙ ap (λ (s : List ℕ). big_number 4 (drop 12 s)) same ∙ says.1)

-- sector 0 of the other format and layout is the same
other_format : (f g : Format) (a b : Layout) → store.format_name f ≡ store.format_name g → a.slot_sectors ≡ b.slot_sectors → a.log_sectors ≡ b.log_sectors → store.superblock f a ≡ store.superblock g b
other_format f g a b names slots log = same_superblock f a b slots log ∙ ap (λ (h : Format). store.superblock h b) (same_name f g names)

pub returns-in_default-clause-err : goal.returns-in_default-clause-err
returns-in_default-clause-err c = inr (
  refl,
  λ format layout same.
      let says = told format layout c.args.sector.now c.u32_at.result c.u32_at-2.result c.u32_at.ensures c.u32_at-2.ensures same in
      grind (arith, c.new.ensures.none c.in_default.is, says.0, says.1, layout.slot_least, layout.slot_most, layout.log_least, layout.log_most),
)

pub returns-else-eq-clause-err : goal.returns-else-eq-clause-err
returns-else-eq-clause-err c = inr (
  refl,
  λ format layout same.
      let says = told format layout c.args.sector.now c.u32_at.result c.u32_at-2.result c.u32_at.ensures c.u32_at-2.ensures same in
      let names : store.format_name format ≡ store.format_name c.in_ok-format.format =
      sym (superblock_name format layout) ∙ ap (λ (s : List ℕ). take 8 s) (sym same) ∙ c.in_ok-format.ensures.name in
      other_text _ _ (sym c.if-eq.false ∙ c.eq.ensures) (same ∙ other_format format c.in_ok-format.format layout c.in-Some.layout names (sym says.0 ∙ sym c.in-Some.ensures.sizes.0) (sym says.1 ∙ sym c.in-Some.ensures.sizes.1) ∙ sym c.superblock.ensures),
)
