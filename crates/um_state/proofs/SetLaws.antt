-- A value put under a number is put under its name; an unnumbered name gets a number; a process is found by the row of its number.
use Rattle.std.proofs.Common.{◌≡◌, ◌≢◌, ◌∙◌, ◌<◌, ℕ, List, length, Option, Some, None, MatchOption, get_or, sym, ap, subst}
use Rattle.std.specs.FinMap as map
use Rattle.um_model.specs.Machine.{IsOver, IsProcessOf}
use Rattle.um_model.specs.Service.{ByUnit}
use Rattle.um_model.specs.Standing.{Table}
use Rattle.um_model.specs.declared.service.UnitState.{UnitState}
use Rattle.um_model.proofs.UnitLaws.{IsTidy}
use Rattle.um_name.specs.Names.{AreAscending, HasPlace, IsApart, name_at}
use Rattle.um_state.specs.Finding.{IsFirstWith, NoneHas}
use Rattle.um_state.specs.Tables.{by_names, put_at, units_by}
use Rattle.um_state.proofs.FindingLaws.{first_has, none_has}
use Rattle.um_state.proofs.PutLaws.{look, Puts}
use Rattle.um_state.proofs.TableLaws.{apart, put_within}

module _ {A : Type 0} (nothing : A) (put : ByUnit A → List ℕ → A → ByUnit A) (puts : Puts nothing put) where
  pub named_put : (t : Table A) (names : List (List ℕ)) → names ≡ t.names → (unit : List ℕ) (i : ℕ) → HasPlace names unit i → (x : A) → put_at put t.names t.held i x ≡ put t.held unit x
  named_put t names e unit i has x =
      let h = subst (λ ns. HasPlace ns unit i) e has in
      put_within nothing put puts t.names t.held i x h.0 ∙ ap (λ k. put t.held k x) h.1

  -- if the table has no value for other names, it has none for names that are neither those nor the one that is put
  pub still_apart : (m more : ByUnit A) (names all : List (List ℕ)) (unit : List ℕ) (x : A) → more ≡ put m unit x → ((k : List ℕ) → IsApart names k → nothing ≡ look nothing m k)
      → ((k : List ℕ) → IsApart all k → IsApart names k × (k ≢ unit)) → (k : List ℕ) → IsApart all k → look nothing more k ≡ nothing
  still_apart m more names all unit x e none more_apart k a =
      let o = more_apart k a in
      ap (λ n. look nothing n k) e ∙ (apart nothing put puts m unit x k o.1 ∙ sym (none k o.0))

module _ (t : Table UnitState) (names : List (List ℕ)) (rows : List UnitState) (seen : record { names = names; held = units_by names rows } ≡ t) (sorted : AreAscending names)
    (len : length rows ≡ length names) (number : ℕ) where
  pub placed : (r : Option ℕ) → MatchOption r (NoneHas rows number) (IsFirstWith rows number)
      → MatchOption r (IsOver t.held number) (λ i. (i < length t.names) × IsProcessOf t.held number (name_at t.names i))
  placed None h = none_has t names rows seen sorted number h
  placed (Some i) h = first_has t names rows seen sorted number i len h
