-- The least of several things in an order of theirs.
-- Follows no manual page: if several would serve, the rules of this project take the least.
-- Timers, jobs, refusals and the machine depend on this file.
use Rattle.std.specs.Prelude.{◌≡◌, ◌≢◌, ℕ, List}
use Rattle.std.specs.declared.cmp.Ordering.TheVariants.{Less}
use Rattle.std.specs.Cmp.Lexicographic.{slice_cmp}
use Rattle.std.specs.Ordering.{nat_cmp}
use Rattle.um_model.specs.Refusals.{Refused}

-- it has the property, and comes before everything else that has it
pub record IsLeast {A : Type 0} (Before : A → A → Type 0) (Has : A → Type 0) (a : A) : Type 0 where
  pub has : Has a
  pub first : (other : A) → Has other → other ≢ a → Before a other

-- names are ordered by their bytes
abbrev pub IsNamedBefore : List ℕ → List ℕ → Type 0
IsNamedBefore name other = slice_cmp nat_cmp name other ≡ Less

-- a refusal names the least name that has the property
pub record NamesLeast (Has : List ℕ → Type 0) (Tells : List ℕ → Refused → Type 0) (r : Refused) : Type 0 where
  pub name : List ℕ
  pub least : IsLeast IsNamedBefore Has name
  pub told : Tells name r
