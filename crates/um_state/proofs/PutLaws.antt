-- A way to put a value under a name, for units and for pending jobs: the value of each name then.
use Rattle.std.proofs.Common.{ℕ, ◌≡◌, ◌≢◌, ◌∙◌, true, false, true≢false, cond, List, unwrap_or, sym, ap, refl}
use Rattle.std.proofs.lemmas.Map.Views.{tells_apart}
use Rattle.std.proofs.lemmas.Map.Lookups.{exact_bytes}
use Rattle.std.specs.FinMap as map
use Rattle.std.specs.Cmp.Lexicographic.{slice_cmp}
use Rattle.std.specs.Ordering.{nat_cmp, eq_by_cmp}
use Rattle.um_model.specs.Service.{ByUnit, dead_unit, with_unit}
use Rattle.um_model.specs.Jobs.{no_jobs, with_jobs}
use Rattle.um_model.proofs.UnitLaws.{IsTidy, alike, state_here, state_apart, jobs_here, jobs_apart, tidy_units, tidy_jobs}

module _ {A : Type 0} (nothing : A) where
  abbrev pub look : ByUnit A → List ℕ → A
  look m q = unwrap_or (map.get m q) nothing

  pub look_empty : (k : List ℕ) → look map.empty k ≡ nothing
  look_empty k = ap (λ o. unwrap_or o nothing) (map.get-empty (slice_cmp nat_cmp) k)

  -- the name has the value, other names keep theirs, and no empty value is held
  pub record Puts (put : ByUnit A → List ℕ → A → ByUnit A) : Type 0 where
    pub after : (m : ByUnit A) (k : List ℕ) (x : A) (q : List ℕ) → look (put m k x) q ≡ cond (eq_by_cmp (slice_cmp nat_cmp) q k) x (look m q)
    pub tidy : (m : ByUnit A) (k : List ℕ) (x : A) → IsTidy nothing m → IsTidy nothing (put m k x)

  told : (m more : ByUnit A) (k : List ℕ) (x : A) → look more k ≡ x → ((q : List ℕ) → q ≢ k → look more q ≡ look m q) → (q : List ℕ)
      → look more q ≡ cond (eq_by_cmp (slice_cmp nat_cmp) q k) x (look m q)
  told m more k x here apart q = elim (eq_by_cmp (slice_cmp nat_cmp) q k) as (λ b. eq_by_cmp (slice_cmp nat_cmp) q k ≡ b → look more q ≡ cond b x (look m q)) [
    | true ↦ λ e. ap (look more) (tells_apart exact_bytes q k e) ∙ here
    | false ↦ λ e. apart q (λ same. true≢false (sym (alike k) ∙ (sym (ap (λ n. eq_by_cmp (slice_cmp nat_cmp) n k) same) ∙ e)))
  ] refl

pub units_put : Puts dead_unit with_unit
units_put = record {
  after = λ m k x q. told dead_unit m (with_unit m k x) k x (state_here m k x) (λ o apart. state_apart m k x o apart) q;
  tidy = tidy_units;
}

pub jobs_put_well : Puts no_jobs with_jobs
jobs_put_well = record {
  after = λ m k x q. told no_jobs m (with_jobs m k x) k x (jobs_here m k x) (λ o apart. jobs_apart m k x o apart) q;
  tidy = tidy_jobs;
}
