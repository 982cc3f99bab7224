use Rattle.std.proofs.Common.{◌≡◌, ◌∙◌, ℕ, List, true≢false, refl, sym, ap, inl, inr, arith}
use Rattle.std.specs.Prelude.{slice_get}
use Rattle.std.proofs.lemmas.Bool.{cases_eq}
use Rattle.std.proofs.lemmas.List.{same_lists}
use Rattle.std.proofs.lemmas.Option.{same_Some, slice_get-get_or}
use Rattle.um_engine.proofs.same.is_same_names.Goals as goal

pub returns-then-not-is_same_name : goal.returns-then-not-is_same_name
returns-then-not-is_same_name c = (
  λ t. absurd (true≢false (sym t)),
  λ e. absurd (true≢false
      (sym (c.is_same_name.ensures.1 (c.name.ensures.name ∙ (ap (λ (ns : List (List ℕ)). slice_get ns c.loop-number.number) e ∙ sym c.name-in-loop-number.ensures.name)))
      ∙ c.if-not-is_same_name.true)),
)

pub loop-number-preserved : goal.loop-number-preserved
loop-number-preserved c = λ i h.
    let names = c.args.names.now in
    let others = c.args.others.now in
    elim (cases_eq i c.loop-number.number) as (λ _. slice_get names i ≡ slice_get others i) [
      | inl same ↦
          ap (slice_get names) same
          ∙ (sym c.name.ensures.name ∙ (c.is_same_name.ensures.0 c.if-not-is_same_name.false ∙ (c.name-in-loop-number.ensures.name ∙ ap (slice_get others) (sym same))))
      | inr other ↦ c.loop-number.invariant i (omega (arith, h, other))
    ]

pub returns : goal.returns
returns c =
    let names = c.args.names.now in
    let others = c.args.others.now in (
      λ _. same_lists names others (omega (arith, c.len.ensures.len, c.len-2.ensures.len, c.if-len.false)) (λ k d h.
          same_Some _ _
          (sym (slice_get-get_or names k d h)
          ∙ (c.loop-number.invariant k (omega (arith, h, c.len-number-end.ensures.len, c.loop-number-test.false))
          ∙ slice_get-get_or others k d (omega (arith, h, c.len.ensures.len, c.len-2.ensures.len, c.if-len.false))))),
      λ _. refl,
    )
