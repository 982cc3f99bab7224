use Rattle.std.specs.Prelude.{◌≡◌, ℕ, List, Bool, true, false, not, nat_eq, take, codes}
use Rattle.std.specs.Cmp.Lexicographic.{pointwise, same_text, other_text}
use Rattle.std.proofs.Common.{sym, ◌∙◌, ap, refl}
use Rattle.std.proofs.lemmas.Bool.{true≢false}
use Rattle.um_model.specs.declared.layout.Format.{Format}
use Rattle.um_model.specs.declared.layout.Format.TheVariants.{One, Two}
use Rattle.um_model.specs.Store as store
use Rattle.um_slot.proofs.first.read_format.Goals as goal

-- it is the name of no format
no_name : (bytes : List ℕ) → ¬ (bytes ≡ codes "UMDISK01") → ¬ (bytes ≡ codes "UMDISK02") → (format : Format) → ¬ (bytes ≡ store.format_name format)
no_name bytes one two One same = one same
no_name bytes one two Two same = two same

-- the negative result of a test that two texts differ
agree : (xs ys : List ℕ) (r : Bool) → r ≡ not (pointwise nat_eq xs ys) → r ≡ false → xs ≡ ys
agree xs ys r is told = same_text xs ys (by_case (pointwise nat_eq xs ys) refl)
  where
    by_case : (b : Bool) → b ≡ pointwise nat_eq xs ys → true ≡ pointwise nat_eq xs ys
    by_case true e = e
    by_case false e = absurd (true≢false (ap not e ∙ sym is ∙ told))

pub returns-then-eq-clause-other : goal.returns-then-eq-clause-other
returns-then-eq-clause-other c = (
  λ same. absurd (cc),
  λ none. absurd (none.1 One (sym c.split_at-2.ensures.front ∙ same_text _ _ (sym c.if-eq.true ∙ c.eq.ensures))),
)

pub returns-then-eq-2-clause-other : goal.returns-then-eq-2-clause-other
returns-then-eq-2-clause-other c = (
  λ same. absurd (cc),
  λ none. absurd (none.1 Two (sym c.split_at-2.ensures.front ∙ same_text _ _ (sym c.if-eq-2.true ∙ c.eq-2.ensures))),
)

pub returns-else-eq-2-clause-other : goal.returns-else-eq-2-clause-other
returns-else-eq-2-clause-other c = (
  λ same. (
    sym c.split_at.ensures.front ∙ agree _ _ c.ne.result c.ne.ensures c.if-ne.false,
    no_name (take 8 c.args.sector.now) (λ is. other_text _ _ (sym c.if-eq.false ∙ c.eq.ensures) (c.split_at-2.ensures.front ∙ is))
        (λ is. other_text _ _ (sym c.if-eq-2.false ∙ c.eq-2.ensures) (c.split_at-2.ensures.front ∙ is)),
  ),
  λ none. refl,
)
