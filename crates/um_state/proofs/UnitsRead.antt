-- The map of units that the code reads, as that of the definitions.
use Rattle.std.proofs.Common.{◌≡◌, ℕ, true, false, List, [], ◌∷◌, Some, None, refl, ap}
use Rattle.std.specs.FinMap as map
use Rattle.std.specs.Cmp.Lexicographic.{slice_cmp}
use Rattle.std.specs.Ordering.{nat_cmp}
use Rattle.um_model.specs.Bytes.{map_at}
use Rattle.um_model.specs.Names.{is_unit_name}
use Rattle.um_model.specs.Service.{ByUnit}
use Rattle.um_model.specs.Spellings.{unit_at}
use Rattle.um_model.specs.StateSpellings.{are_known, units_at}
use Rattle.um_model.specs.declared.service.UnitState.{UnitState}
use Rattle.um_wire.specs.Entries.{seen}

as_they_are : {X : Type 0} (es : List (List ℕ × X)) → seen (λ name. name) (λ x. x) es ≡ es
as_they_are [] = refl
as_they_are (e ∷ es) = ap (λ l. e ∷ l) (as_they_are es)

-- names and units stand for themselves
pub same_map : {X : Type 0} (es : List (List ℕ × X)) → map.from_entries {R = slice_cmp nat_cmp} (seen (λ name. name) (λ x. x) es) ≡ map.from_entries es
same_map es = ap map.from_entries (as_they_are es)

module _ (bytes : List ℕ) (units : ByUnit UnitState) (rest : List ℕ) where
  pub units_unknown : map_at is_unit_name unit_at bytes ≡ Some (units, rest) → are_known units ≡ false → units_at bytes ≡ None
  units_unknown read unknown = rw (read, unknown) refl

  pub units_here : map_at is_unit_name unit_at bytes ≡ Some (units, rest) → are_known units ≡ true → units_at bytes ≡ Some (units, rest)
  units_here read known = rw (read, known) refl
