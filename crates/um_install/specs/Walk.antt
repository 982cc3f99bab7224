-- The units that a walk over Also= takes.
use Rattle.std.specs.Prelude.{◌≡◌, ℕ, ◌<◌, ◌≤◌, true, List, [], ◌∷◌, ◌++◌, length, Option, Some, None, Contains, if◌then◌else◌, get_or}
use Rattle.std.specs.FinMap as map
use Rattle.std.specs.List.{flat_map}
use Rattle.um_model.specs.Install.{install_of}
use Rattle.um_model.specs.Names.{named as name_of}
use Rattle.um_model.specs.Profiles.{ReadTree}
use Rattle.um_model.specs.Reached.{Reached}
use Rattle.um_model.specs.Tree.{Tree}
use Rattle.um_model.specs.Units.{Loading, load, unit_named}
use Rattle.um_install.specs.View.{Units}
use Rattle.um_install.specs.declared.walk.Naming.{Naming}
use Rattle.um_install.specs.declared.walk.Naming.TheVariants as naming

-- the name that is taken for a name
abbrev pub name_taken : Naming → Tree → List ℕ → List ℕ
name_taken naming.AsResolved tree name = unit_named tree name
name_taken naming.AsWritten tree name = name

-- a text that may be absent, as a list
abbrev pub listed : Option (List ℕ) → List (List ℕ)
listed None = []
listed (Some text) = text ∷ []

-- the unit name that a text is
abbrev pub name_in : List ℕ → List (List ℕ)
name_in text = listed (name_of text)

-- the unit names in Also=
abbrev pub also_in : Loading → List (List ℕ)
also_in loading = flat_map name_in (install_of loading).also

-- the name that is taken for a name in the unit's Also=
pub data IsNext (naming : Naming) (tree : ReadTree) (unit : List ℕ) : List ℕ → Type 0 where
  named : {name : List ℕ} → Contains (install_of (load tree unit)).also name → IsNext naming tree unit (name_taken naming tree.entries name)

-- the name that is taken for the requested one, for those in its Also=, and so on
abbrev pub IsWalked : Naming → ReadTree → List ℕ → List ℕ → Type 0
IsWalked naming tree asked = Reached (λ unit. unit ≡ name_taken naming tree.entries asked) (IsNext naming tree)

-- these are the units that are walked, each with the outcome of its look-up
pub record AreWalked (naming : Naming) (tree : ReadTree) (asked : List ℕ) (units : Units) : Type 0 where
  pub loaded : (unit : List ℕ) (l : Loading) → map.get units unit ≡ Some l → l ≡ load tree unit
  pub walked : (unit : List ℕ) (l : Loading) → map.get units unit ≡ Some l → IsWalked naming tree asked unit
  pub whole : (unit : List ℕ) → IsWalked naming tree asked unit → map.contains_key units unit ≡ true

-- with a unit, unless it is there already
abbrev pub units_with : ReadTree → Units → List ℕ → Units
units_with tree units unit = if map.contains_key units unit then units else map.insert units unit (load tree unit)

-- and its names in Also= after those that wait
abbrev pub waiting_with : ReadTree → Units → List (List ℕ) → List ℕ → List (List ℕ)
waiting_with tree units waiting unit = if map.contains_key units unit then waiting else waiting ++ also_in (load tree unit)

-- a walk is under way: the units of the first `next` waiting names are taken
pub record IsUnderWay (naming : Naming) (tree : ReadTree) (asked : List ℕ) (units : Units) (waiting : List (List ℕ)) (next : ℕ) : Type 0 where
  pub loaded : (unit : List ℕ) (l : Loading) → map.get units unit ≡ Some l → l ≡ load tree unit
  pub walked : (unit : List ℕ) (l : Loading) → map.get units unit ≡ Some l → IsWalked naming tree asked unit
  pub meant : (name : List ℕ) → Contains waiting name → IsWalked naming tree asked (name_taken naming tree.entries name)
  pub begun : Contains waiting asked
  pub followed : (unit : List ℕ) (l : Loading) → map.get units unit ≡ Some l → (name : List ℕ) → Contains (also_in l) name → Contains waiting name
  pub done : (k : ℕ) → k < next → map.contains_key units (name_taken naming tree.entries (get_or waiting k [])) ≡ true
  pub within : next ≤ length waiting
