-- Which numbers are left out once a row is set, or each row was noted.
use Rattle.std.proofs.Common.{ℕ, ◌≡◌, ◌∙◌, ◌<◌, ◌+◌, List, [], length, Some, set, sym, ap, arith, inl, inr, true≢false}
use Rattle.std.proofs.lemmas.Bool.{cases_lt}
use Rattle.std.proofs.lemmas.List.{get_or_past}
use Rattle.std.proofs.lemmas.Option.{none-some}
use Rattle.um_model.specs.Service.{dead_unit}
use Rattle.um_model.specs.declared.service.UnitState.{UnitState}
use Rattle.um_state.specs.declared.awaited.Awaited.{Awaited}
use Rattle.um_state.specs.Awaiting.{awaited_by, Has, HasAll}
use Rattle.um_state.specs.Finding.{row_at}
use Rattle.um_state.proofs.FindingLaws.{set_rows}

-- ---- a number that is awaited is one of the unit's

-- a dead unit waits for no report
pub dead_awaits : (n : ℕ) → awaited_by dead_unit ≡ Some n → ⊥
dead_awaits n e = none-some n e

-- ---- a row is set

pub has_set : (rows : List UnitState) (a : Awaited) (i : ℕ) (u : UnitState) → i < length rows → HasAll rows a → ((n : ℕ) → awaited_by u ≡ Some n → Has a n) → HasAll (set rows i u) a
has_set rows a i u within all noted j n = set_rows (λ k v. awaited_by v ≡ Some n → Has a n) rows i u within (noted n) (λ k. all k n) j

-- nor is one left out when none is let go
pub has_kept : (rows : List UnitState) (a b : Awaited) → HasAll rows a → ((n : ℕ) → Has a n → Has b n) → HasAll rows b
has_kept rows a b all keeps i n is = keeps n (all i n is)

-- ---- each row was noted

-- none of the first rows is left out
abbrev pub HasBelow : List UnitState → Awaited → ℕ → Type 0
HasBelow rows a k = (i n : ℕ) → i < k → awaited_by (row_at rows i) ≡ Some n → Has a n

pub has_more : (rows : List UnitState) (a b : Awaited) (k : ℕ) (u : UnitState) → u ≡ row_at rows k → HasBelow rows a k → ((n : ℕ) → Has a n → Has b n)
    → ((n : ℕ) → awaited_by u ≡ Some n → Has b n) → HasBelow rows b (k + 1)
has_more rows a b k u is below keeps noted i n h awaits = elim (cases_lt i k) as (λ _. Has b n) [
  | inl lower ↦ keeps n (below i n lower awaits)
  | inr past ↦
      let same : i ≡ k = omega (arith, h, past) in
      noted n (ap awaited_by is ∙ (ap (λ j. awaited_by (row_at rows j)) (sym same) ∙ awaits))
]

pub has_all : (rows : List UnitState) (a : Awaited) → HasBelow rows a (length rows) → HasAll rows a
has_all rows a below i n awaits = elim (cases_lt i (length rows)) as (λ _. Has a n) [
  | inl within ↦ below i n within awaits
  | inr past ↦ absurd (dead_awaits n (sym (ap awaited_by (get_or_past rows i dead_unit past)) ∙ awaits))
]
