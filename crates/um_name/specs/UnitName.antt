-- Properties of the fields of a unit name.
use Rattle.std.specs.Prelude.{◌≡◌, ℕ, List, true, Some}
use Rattle.um_model.specs.Names.{is_unit_name, suffix_of}
use Rattle.um_model.specs.declared.names.Suffix.{Suffix}

-- the text is a unit name, and ends in this suffix
pub record IsSound (text : List ℕ) (suffix : Suffix) : Type 0 where
  pub name : is_unit_name text ≡ true
  pub ends : suffix_of text ≡ Some suffix
