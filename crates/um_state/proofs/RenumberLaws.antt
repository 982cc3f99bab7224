-- A table over other names: it stands for the same map where all that is held has a name there.
use Rattle.std.proofs.Common.{◌≡◌, ◌⊎◌, ◌∙◌, ◌+◌, ◌<◌, ◌++◌, ℕ, true≢false, List, [], ◌∷◌, length, set, get_or, sym, ap, inl, inr, arith, length-append}
use Rattle.std.proofs.lemmas.Bool.{cases_lt}
use Rattle.std.proofs.lemmas.List.{get_or-set_other, get_or-set_same, get_or_append_left}
use Rattle.std.proofs.Math.Seq.{get_or-append_seam}
use Rattle.um_name.specs.Names.{name_at, IsApart, AreAscending}
use Rattle.um_name.proofs.NumberLaws.{names_once, among_or_apart}
use Rattle.um_model.specs.Service.{ByUnit}
use Rattle.um_state.specs.Tables.{by_names}
use Rattle.um_model.proofs.UnitLaws.{IsTidy, same_tidy}
use Rattle.um_state.proofs.PutLaws.{look, Puts}
use Rattle.um_state.proofs.TableLaws.{by_at, by_none, by_tidy}

pub len_more : {A : Type 0} (rows new : List A) (x : A) (i : ℕ) → new ≡ rows ++ x ∷ [] → length rows ≡ i → length new ≡ i + 1
len_more rows new x i e l = ap length e ∙ grind (arith, length-append, l)

-- one row more
pub rows_more : {A : Type 0} (d : A) (rows new : List A) (x : A) (i : ℕ) (f : ℕ → A) → new ≡ rows ++ x ∷ [] → length rows ≡ i → ((k : ℕ) → k < i → get_or rows k d ≡ f k) → x ≡ f i
    → (k : ℕ) → k < i + 1 → get_or new k d ≡ f k
rows_more d rows new x i f e l before at k h = elim (cases_lt k i) as (λ _. get_or new k d ≡ f k) [
  | inl lower ↦ ap (λ xs. get_or xs k d) e ∙ (get_or_append_left rows (x ∷ []) d k (omega (arith, l, lower)) ∙ before k lower)
  | inr past ↦
      let same : k ≡ i = omega (arith, h, past) in
      let last : k ≡ length rows = omega (arith, same, l) in
      ap (λ xs. get_or xs k d) e ∙ (ap (λ j. get_or (rows ++ x ∷ []) j d) last ∙ (get_or-append_seam rows x [] d ∙ (at ∙ ap f (sym same))))
]

-- a row is set
pub rows_set : {A : Type 0} (d : A) (rows : List A) (x : A) (i : ℕ) (f : ℕ → A) → i < length rows → ((k : ℕ) → k < i → get_or rows k d ≡ f k) → x ≡ f i
    → (k : ℕ) → k < i + 1 → get_or (set rows i x) k d ≡ f k
rows_set d rows x i f within before at k h = elim (cases_lt k i) as (λ _. get_or (set rows i x) k d ≡ f k) [
  | inl lower ↦ get_or-set_other rows i k x d (λ e. absurd (omega (arith, lower, e))) ∙ before k lower
  | inr past ↦
      let same : k ≡ i = omega (arith, h, past) in
      ap (λ j. get_or (set rows i x) j d) same ∙ (get_or-set_same rows i x d within ∙ (at ∙ ap f (sym same)))
]

module _ {A : Type 0} (nothing : A) (put : ByUnit A → List ℕ → A → ByUnit A) (puts : Puts nothing put) where
  -- rows with the map's value of each name, where the map has none of other names
  pub by_looks : (names : List (List ℕ)) (rows : List A) (m : ByUnit A) → AreAscending names → IsTidy nothing m
      → ((i : ℕ) → i < length names → get_or rows i nothing ≡ look nothing m (name_at names i)) → ((x : List ℕ) → IsApart names x → look nothing m x ≡ nothing)
      → by_names put names rows ≡ m
  by_looks names rows m sorted tidy at apart = same_tidy nothing (by_names put names rows) m (by_tidy nothing put puts names rows) tidy (λ q. by q (among_or_apart names q))
    where
      by : (q : List ℕ) → ((i : ℕ) × (i < length names) × (name_at names i ≡ q)) ⊎ IsApart names q → look nothing (by_names put names rows) q ≡ look nothing m q
      by q (inl (i, h, e)) =
          ap (look nothing (by_names put names rows)) (sym e) ∙ (by_at nothing put puts names rows (names_once names sorted) i h ∙ (at i h ∙ ap (look nothing m) e))
      by q (inr a) = by_none nothing put puts names rows q a ∙ sym (apart q a)
