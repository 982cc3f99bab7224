-- The entries of a finder once a row is set, or each row was added; and the units' processes by the row of a number.
use Rattle.std.proofs.Common.{ℕ, ◌≡◌, ◌≢◌, ◌∙◌, ◌⊎◌, ◌<◌, ◌+◌, false, List, [], length, Some, None, Option, MatchOption, set, get_or, sym, ap, subst, arith, true≢false, is_some, unwrap_or, inl, inr}
use Rattle.std.proofs.lemmas.Bool.{cases_lt}
use Rattle.std.proofs.lemmas.List.{get_or-set_same, get_or-set_other, get_or_default, get_or_past}
use Rattle.std.proofs.lemmas.Option.{none-some}
use Rattle.um_model.specs.Least.{IsNamedBefore}
use Rattle.um_model.specs.Machine.{IsProcessOf, IsOver}
use Rattle.um_model.specs.Service.{state_of_unit, with_unit, dead_unit}
use Rattle.um_model.specs.Standing.{Table}
use Rattle.um_model.specs.Transitions.{HasNumber}
use Rattle.um_model.specs.declared.service.UnitState.{UnitState}
use Rattle.um_name.specs.Names.{AreAscending, IsApart, name_at}
use Rattle.um_name.proofs.NumberLaws.{among_or_apart, names_once}
use Rattle.um_state.specs.declared.finder.Finder.{Finder}
use Rattle.um_state.specs.LiveRows.{told}
use Rattle.um_state.specs.Finding.{Tells, Finds, NoneHas, IsFirstWith, row_at}
use Rattle.um_state.specs.Tables.{units_by}
use Rattle.um_state.proofs.PutLaws.{units_put}
use Rattle.um_state.proofs.TableLaws.{by_at, by_none}

pub nobody : (n : ℕ) → HasNumber dead_unit n → ⊥
nobody n (inl e) = none-some n e
nobody n (inr e) = none-some n e

-- an item of a list is the row with its number
pub row_is : (rows : List UnitState) (i : ℕ) (u : UnitState) → i < length rows → u ≡ get_or rows i u → u ≡ row_at rows i
row_is rows i u h e = e ∙ get_or_default rows i u dead_unit h

-- two numbers are the same or not
same_row : (i j : ℕ) → (j ≡ i) ⊎ (j ≢ i)
same_row i j = elim (cases_lt i j) as (λ _. (j ≡ i) ⊎ (j ≢ i)) [
  | inl lower ↦ inr (λ e. absurd (omega (arith, lower, e)))
  | inr past ↦ elim (cases_lt j i) as (λ _. (j ≡ i) ⊎ (j ≢ i)) [
    | inl below ↦ inr (λ e. absurd (omega (arith, below, e)))
    | inr equal ↦ inl (omega (arith, past, equal))
  ]
]

-- a property of a row that is set, and of the others
pub set_rows : (P : ℕ → UnitState → Type 0) (rows : List UnitState) (i : ℕ) (u : UnitState) → i < length rows → P i u → ((j : ℕ) → P j (row_at rows j)) → (j : ℕ) → P j (row_at (set rows i u) j)
set_rows P rows i u within here others j = elim (same_row i j) as (λ _. P j (row_at (set rows i u) j)) [
  | inl same ↦ subst (λ k. P k (row_at (set rows i u) k)) (sym same) (subst (P i) (sym (get_or-set_same rows i u dead_unit within)) here)
  | inr other ↦ subst (P j) (sym (get_or-set_other rows i j u dead_unit other)) (others j)
]

-- ---- a row is set

pub finds_set : (rows : List UnitState) (finder : Finder) (i : ℕ) (u : UnitState) → i < length rows → Finds rows finder → ((n : ℕ) → HasNumber u n → Tells finder i n)
    → Finds (set rows i u) finder
finds_set rows finder i u within finds told j n = set_rows (λ k v. HasNumber v n → Tells finder k n) rows i u within (told n) (λ k. finds k n) j

-- the same after a change that keeps all recorded numbers
pub finds_kept : (rows : List UnitState) (f g : Finder) → Finds rows f → ((i n : ℕ) → Tells f i n → Tells g i n) → Finds rows g
finds_kept rows f g finds keeps i n has = keeps i n (finds i n has)

-- a unit's numbers are those of its main process and of its control process
pub told_both : (f g : Finder) (i : ℕ) (u : UnitState) → ((n : ℕ) → u.main ≡ Some n → Tells f i n) → ((n : ℕ) → Tells f i n → Tells g i n)
    → ((n : ℕ) → u.control ≡ Some n → Tells g i n) → (n : ℕ) → HasNumber u n → Tells g i n
told_both f g i u main keeps control n (inl e) = keeps n (main n e)
told_both f g i u main keeps control n (inr e) = control n e

-- ---- each row was added

-- the first rows are recorded
abbrev pub FindsBelow : List UnitState → Finder → ℕ → Type 0
FindsBelow rows finder k = (i n : ℕ) → i < k → HasNumber (row_at rows i) n → Tells finder i n

pub finds_more : (rows : List UnitState) (f g : Finder) (k : ℕ) (u : UnitState) → u ≡ row_at rows k → FindsBelow rows f k → ((i n : ℕ) → Tells f i n → Tells g i n)
    → ((n : ℕ) → HasNumber u n → Tells g k n) → FindsBelow rows g (k + 1)
finds_more rows f g k u is below keeps told i n h has = elim (cases_lt i k) as (λ _. Tells g i n) [
  | inl lower ↦ keeps i n (below i n lower has)
  | inr past ↦
      let same : i ≡ k = omega (arith, h, past) in
      subst (λ j. Tells g j n) (sym same) (told n (subst (λ v. HasNumber v n) (ap (row_at rows) same ∙ sym is) has))
]

pub finds_all : (rows : List UnitState) (finder : Finder) → FindsBelow rows finder (length rows) → Finds rows finder
finds_all rows finder below i n has = elim (cases_lt i (length rows)) as (λ _. Tells finder i n) [
  | inl within ↦ below i n within has
  | inr past ↦ absurd (nobody n (subst (λ v. HasNumber v n) (get_or_past rows i dead_unit past) has))
]

-- ---- the row of a number

pub found : (rows : List UnitState) (finder : Finder) (number i : ℕ) → Finds rows finder → finder.is_partial ≡ false → told finder.live.list.items number ≡ Some i
    → HasNumber (row_at rows i) number → IsFirstWith rows number i
found rows finder number i finds alone told has = record {
  within = elim (cases_lt i (length rows)) as (λ _. i < length rows) [
    | inl within ↦ within
    | inr past ↦ absurd (nobody number (subst (λ v. HasNumber v number) (get_or_past rows i dead_unit past) has))
  ];
  has = has;
  first = λ j below has'.
      let same : j ≡ i = ap (λ o. unwrap_or o i) (sym (finds j number has' alone) ∙ told) in
      absurd (omega (arith, below, same));
}

pub none_told : (rows : List UnitState) (finder : Finder) (number : ℕ) → Finds rows finder → finder.is_partial ≡ false → told finder.live.list.items number ≡ None → NoneHas rows number
none_told rows finder number finds alone none i has = true≢false (ap is_some (sym (finds i number has alone) ∙ none))

pub told_wrong : (rows : List UnitState) (finder : Finder) (number i : ℕ) → Finds rows finder → finder.is_partial ≡ false → told finder.live.list.items number ≡ Some i
    → ¬ HasNumber (row_at rows i) number → NoneHas rows number
told_wrong rows finder number i finds alone told wrong j has =
    let same : j ≡ i = ap (λ o. unwrap_or o i) (sym (finds j number has alone) ∙ told) in
    wrong (subst (λ k. HasNumber (row_at rows k) number) same has)

-- the row of a number, whether or not it is recorded for the number
pub told_or_not : (rows : List UnitState) (finder : Finder) (number row : ℕ) → Finds rows finder → finder.is_partial ≡ false → told finder.live.list.items number ≡ Some row
    → (r : Option ℕ) → MatchOption r (¬ HasNumber (row_at rows row) number) (λ i. (i ≡ row) × HasNumber (row_at rows row) number) → MatchOption r (NoneHas rows number) (IsFirstWith rows number)
told_or_not rows finder number row finds alone told None wrong = told_wrong rows finder number row finds alone told wrong
told_or_not rows finder number row finds alone told (Some i) (is, has) = subst (IsFirstWith rows number) (sym is) (found rows finder number row finds alone told has)

-- ---- from rows to units

module _ (t : Table UnitState) (names : List (List ℕ)) (rows : List UnitState) (seen : record { names = names; held = units_by names rows } ≡ t) (sorted : AreAscending names) where
  at_number : (i : ℕ) → i < length names → state_of_unit (units_by names rows) (name_at names i) ≡ row_at rows i
  at_number i h = by_at dead_unit with_unit units_put names rows (names_once names sorted) i h

  -- a row is the state of the unit with its number
  pub told_row : (i : ℕ) → i < length t.names → row_at rows i ≡ state_of_unit t.held (name_at t.names i)
  told_row i h = subst (λ (u : Table UnitState). i < length u.names → row_at rows i ≡ state_of_unit u.held (name_at u.names i)) seen (λ k. sym (at_number i k)) h

  -- a property of a dead unit and of each row is one of each unit
  pub of_each : (P : UnitState → Type 0) → P dead_unit → ((i : ℕ) → P (row_at rows i)) → (x : List ℕ) → P (state_of_unit t.held x)
  of_each P dead each x = subst (λ (u : Table UnitState). P (state_of_unit u.held x)) seen (by (among_or_apart names x))
    where
      by : ((i : ℕ) × (i < length names) × (name_at names i ≡ x)) ⊎ IsApart names x → P (state_of_unit (units_by names rows) x)
      by (inl (i, h, e)) = subst P (sym (ap (state_of_unit (units_by names rows)) (sym e) ∙ at_number i h)) (each i)
      by (inr a) = subst P (sym (by_none dead_unit with_unit units_put names rows x a)) dead

  pub none_has : (number : ℕ) → NoneHas rows number → IsOver t.held number
  none_has number none = of_each (λ u. ¬ HasNumber u number) (nobody number) none

  pub first_has : (number i : ℕ) → length rows ≡ length names → IsFirstWith rows number i → (i < length t.names) × IsProcessOf t.held number (name_at t.names i)
  first_has number i len f = subst (λ (u : Table UnitState). (i < length u.names) × IsProcessOf u.held number (name_at u.names i)) seen (
    within,
    record {
      has = subst (λ u. HasNumber u number) (sym (at_number i within)) f.has;
      first = λ other has apart. later other has apart (among_or_apart names other);
    },
  )
    where
      within : i < length names
      within = omega (arith, f.within, len)

      later : (other : List ℕ) → HasNumber (state_of_unit (units_by names rows) other) number → other ≢ name_at names i
          → ((j : ℕ) × (j < length names) × (name_at names j ≡ other)) ⊎ IsApart names other → IsNamedBefore (name_at names i) other
      later other has apart (inr a) = absurd (nobody number (subst (λ u. HasNumber u number) (by_none dead_unit with_unit units_put names rows other a) has))
      later other has apart (inl (j, l, e)) = elim (cases_lt i j) as (λ _. IsNamedBefore (name_at names i) other) [
        | inl lower ↦ subst (IsNamedBefore (name_at names i)) e (sorted i j [] lower l)
        | inr past ↦ elim (cases_lt j i) as (λ _. IsNamedBefore (name_at names i) other) [
          | inl below ↦ absurd (f.first j below (subst (λ u. HasNumber u number) (ap (state_of_unit (units_by names rows)) (sym e) ∙ at_number j l) has))
          | inr equal ↦
              let same : j ≡ i = omega (arith, past, equal) in
              absurd (apart (sym e ∙ ap (name_at names) same))
        ]
      ]
