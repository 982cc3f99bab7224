-- The terms of the laws of enabling: a verb that a tree takes, a unit under its own name, links that are gone.
-- Follows systemctl(1), "enable" and "disable".
-- The laws of enabling in laws.rt stand on this file.
use Rattle.std.specs.Prelude.{◌≡◌, ℕ, false, List, [], Contains, Some, None}
use Rattle.std.specs.FinMap as map
use Rattle.um_model.specs.Install.{IsTaken, path_in_etc, Installs, RefusesInstall}
use Rattle.um_model.specs.Names.{is_template}
use Rattle.um_model.specs.Profiles.{ReadTree}
use Rattle.um_model.specs.Refusals.{Refused}
use Rattle.um_model.specs.Resolution.{unit_in_target}
use Rattle.um_model.specs.Tree.{Tree, Unit, Wants, Requires}
use Rattle.um_model.specs.Units.{LoadedUnit, Found, load}
use Rattle.um_model.specs.declared.install.InstallVerb.{InstallVerb}

-- the verb isn't refused, and makes the other tree of this one
pub record Obeys (tree : ReadTree) (verb : InstallVerb) (unit : List ℕ) (u : Tree) : Type 0 where
  pub free : (r : Refused) → ¬ (RefusesInstall tree verb unit r)
  pub makes : Installs tree verb unit u

-- the unit is found under its own name, is no template, and has this file
pub record IsFoundByName (tree : ReadTree) (asked file : List ℕ) (l : LoadedUnit) : Type 0 where
  pub found : load tree asked ≡ Found l
  pub named : l.name ≡ asked
  pub single : is_template asked ≡ false
  pub at : l.path ≡ Some file

-- none of the links is there by which the unit is wanted, required or, where its file has its name, called otherwise
pub record IsUndone (l : LoadedUnit) (name file : List ℕ) (v : Tree) : Type 0 where
  pub wanted : (other : List ℕ) → Contains l.settings.install.wanted_by other → map.get v (path_in_etc other (Wants name)) ≡ None
  pub required : (other : List ℕ) → Contains l.settings.install.required_by other → map.get v (path_in_etc other (Requires name)) ≡ None
  pub aliased : unit_in_target file ≡ name → (alias : List ℕ) → Contains l.settings.install.alias alias → map.get v (path_in_etc alias Unit) ≡ None

-- no unit that enabling takes requests another name
abbrev pub HasNoAlias : ReadTree → List ℕ → Type 0
HasNoAlias tree asked = (unit : List ℕ) (l : LoadedUnit) → IsTaken tree asked unit → load tree unit ≡ Found l → l.settings.install.alias ≡ []
