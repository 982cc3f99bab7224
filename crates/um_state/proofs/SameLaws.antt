-- Two tables hold the same exactly if each has the other's value for the other's names; and names that a table doesn't have.
use Rattle.std.proofs.Common.{◌≡◌, ◌≢◌, ◌⊎◌, ◌∙◌, ◌↔◌, ◌<◌, ◌||◌, ◌++◌, ℕ, zero, suc, Bool, true, false, true≢false, List, [], ◌∷◌, length, get_or, Option, Some, None, unwrap_or, refl, sym, ap, subst, inl, inr, arith}
use Rattle.std.specs.Prelude.{Contains, IsTrue}
use Rattle.std.specs.FinMap as map
use Rattle.std.specs.Cmp.Lexicographic.{nat_list_eq_equiv}
use Rattle.std.specs.List.{list_any}
use Rattle.std.specs.Str.{bytes_eq}
use Rattle.std.proofs.lemmas.List.{get_or_default}
use Rattle.std.proofs.lemmas.List.Elements.{Contains-append_left, Contains-append_right}
use Rattle.std.proofs.lemmas.Map.Views.{list_any-from_Contains}
use Rattle.std.proofs.lemmas.Option.{none-some}
use Rattle.std.proofs.lemmas.Slice.Eq.{bytes_eq-Decides}
use Rattle.um_model.specs.Service.{ByUnit}
use Rattle.um_model.specs.Standing.{Table}
use Rattle.um_model.proofs.UnitLaws.{IsTidy}
use Rattle.um_name.specs.Names.{AreAscending, IsApart, name_at}
use Rattle.um_name.proofs.NumberLaws.{among_or_apart, names_once}
use Rattle.um_state.specs.Tables.{by_names}
use Rattle.um_state.proofs.HeldLaws.{there_key}
use Rattle.um_state.proofs.PutLaws.{look, Puts}
use Rattle.um_state.proofs.TableLaws.{by_at, by_none, by_tidy}
use Rattle.um_state.proofs.RenumberLaws.{by_looks}

-- ---- names

not_it : (a b : Bool) → a ≡ false → b ≡ false → (a || b) ≡ false
not_it a b e f = ap (λ c. c || b) e ∙ f

-- a search doesn't find a name that is none of them
pub apart_none : (names : List (List ℕ)) (x : List ℕ) → IsApart names x → list_any (bytes_eq x) names ≡ false
apart_none [] x a = refl
apart_none (n ∷ ns) x a = not_it (bytes_eq x n) (list_any (bytes_eq x) ns) (other (bytes_eq x n) refl) (apart_none ns x (λ i h. a (suc i) (omega arith)))
  where
    other : (b : Bool) → bytes_eq x n ≡ b → b ≡ false
    other true e = absurd (a 0 (omega arith) (sym ((bytes_eq-Decides x n).0 e)))
    other false e = refl

-- it isn't there
pub apart_out : (names more : List (List ℕ)) → ((x : List ℕ) → list_any (bytes_eq x) more ≡ list_any (bytes_eq x) names) → (x : List ℕ) → IsApart more x → Contains names x → ⊥
apart_out names more whole x apart there =
    true≢false (sym (list_any-from_Contains nat_list_eq_equiv x names there) ∙ (sym (whole x) ∙ apart_none more x apart))

-- names that are those of these and one more
pub apart_with : (names more : List (List ℕ)) (unit : List ℕ) → ((x : List ℕ) → list_any (bytes_eq x) more ≡ list_any (bytes_eq x) (names ++ unit ∷ [])) → (x : List ℕ) → IsApart more x
    → IsApart names x × (x ≢ unit)
apart_with names more unit whole x apart = (
  λ i h e. apart_out (names ++ unit ∷ []) more whole x apart (Contains-append_left names (unit ∷ []) x (i, h, at i h e)),
  λ e. apart_out (names ++ unit ∷ []) more whole x apart (Contains-append_right names (unit ∷ []) x (0, omega arith, sym e)),
)
  where
    at : (i : ℕ) → i < length names → name_at names i ≡ x → get_or names i x ≡ x
    at i h e = get_or_default names i x [] h ∙ e

module _ {A : Type 0} (nothing : A) where
  -- names that are those of a map: of others it holds nothing
  pub unheld : (m : ByUnit A) (names keys : List (List ℕ)) → ((x : List ℕ) → list_any (bytes_eq x) names ≡ list_any (bytes_eq x) keys) → keys ≡ map.keys m → (x : List ℕ) → IsApart names x
      → look nothing m x ≡ nothing
  unheld m names keys whole are x apart = by (map.get m x) refl
    where
      by : (o : Option A) → map.get m x ≡ o → unwrap_or o nothing ≡ nothing
      by None e = refl
      by (Some v) e = absurd (apart_out keys names whole x apart (subst (λ ns. Contains ns x) (sym are) (there_key m x (λ none. none-some v (sym none ∙ e)))))

module _ {A : Type 0} (nothing : A) (put : ByUnit A → List ℕ → A → ByUnit A) (puts : Puts nothing put) where
  -- each has the other's values
  pub told_same : (ns ms : List (List ℕ)) (rows others : List A) → AreAscending ns → AreAscending ms
      → ((i : ℕ) → i < length ns → get_or rows i nothing ≡ look nothing (by_names put ms others) (name_at ns i))
      → ((i : ℕ) → i < length ms → get_or others i nothing ≡ look nothing (by_names put ns rows) (name_at ms i)) → by_names put ns rows ≡ by_names put ms others
  told_same ns ms rows others sorted rising told back =
      by_looks nothing put puts ns rows (by_names put ms others) sorted (by_tidy nothing put puts ms others) told (λ x a. by x a (among_or_apart ms x))
    where
      by : (x : List ℕ) → IsApart ns x → ((i : ℕ) × (i < length ms) × (name_at ms i ≡ x)) ⊎ IsApart ms x → look nothing (by_names put ms others) x ≡ nothing
      by x a (inl (i, h, e)) =
          ap (look nothing (by_names put ms others)) (sym e)
          ∙ (by_at nothing put puts ms others (names_once ms rising) i h ∙ (back i h ∙ (ap (look nothing (by_names put ns rows)) e ∙ by_none nothing put puts ns rows x a)))
      by x a (inr none) = by_none nothing put puts ms others x none

  pub same_told : (ns : List (List ℕ)) (rows : List A) (m : ByUnit A) → AreAscending ns → by_names put ns rows ≡ m → (i : ℕ) → i < length ns → get_or rows i nothing ≡ look nothing m (name_at ns i)
  same_told ns rows m sorted e i h = sym (by_at nothing put puts ns rows (names_once ns sorted) i h) ∙ ap (λ n. look nothing n (name_at ns i)) e

  -- ---- the same for two tables, by a test of the rows of each

  module _ (t u : Table A) (ns ms : List (List ℕ)) (rows others : List A) (seen : record { names = ns; held = by_names put ns rows } ≡ t) (also : record { names = ms; held = by_names put ms others } ≡ u)
      (sorted : AreAscending ns) (rising : AreAscending ms) (xs : List A) (are : xs ≡ rows) (a : Bool)
      (one : IsTrue a ↔ ((i : ℕ) → i < length ns → get_or xs i nothing ≡ look nothing u.held (name_at ns i))) where
    held_so : by_names put ns rows ≡ t.held
    held_so = ap (λ (v : Table A). v.held) seen

    held_too : by_names put ms others ≡ u.held
    held_too = ap (λ (v : Table A). v.held) also

    -- the first test fails
    pub not_told : a ≡ false → IsTrue a ↔ (t.held ≡ u.held)
    not_told fails = (
      λ is. absurd (true≢false (sym is ∙ fails)),
      λ same. one.1 (λ i h. ap (λ zs. get_or zs i nothing) are ∙ same_told ns rows u.held sorted (held_so ∙ same) i h),
    )

    told_one : IsTrue a → (i : ℕ) → i < length ns → get_or rows i nothing ≡ look nothing (by_names put ms others) (name_at ns i)
    told_one is i h = ap (λ zs. get_or zs i nothing) (sym are) ∙ (one.0 is i h ∙ ap (λ m. look nothing m (name_at ns i)) (sym held_too))

    module _ (ys : List A) (were : ys ≡ others) (b : Bool) (other : IsTrue b ↔ ((i : ℕ) → i < length ms → get_or ys i nothing ≡ look nothing t.held (name_at ms i))) where
      told_other : IsTrue b → (i : ℕ) → i < length ms → get_or others i nothing ≡ look nothing (by_names put ns rows) (name_at ms i)
      told_other is i h = ap (λ zs. get_or zs i nothing) (sym were) ∙ (other.0 is i h ∙ ap (λ m. look nothing m (name_at ms i)) (sym held_so))

      -- the first test passes, and the second decides
      pub both_told : IsTrue a → IsTrue b ↔ (t.held ≡ u.held)
      both_told is = (
        λ too. sym held_so ∙ (told_same ns ms rows others sorted rising (told_one is) (told_other too) ∙ held_too),
        λ same. other.1 (λ i h. ap (λ zs. get_or zs i nothing) were ∙ same_told ms others t.held rising (held_too ∙ sym same) i h),
      )
