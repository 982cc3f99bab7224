-- How units depend on one another by a tree, which of them are known, and which come before which.
-- Follows systemd.unit(5), "Wants=" to "Conflicts=", "Before=", "After=" and "Default Dependencies".
-- Transactions, the job order and the limit of known units depend on this file.
use Rattle.std.specs.Prelude.{◌≡◌, ◌≢◌, ◌⊎◌, ◌↔◌, ℕ, ◌<◌, max, Bool, true, false, not, ◌&&◌, if◌then◌else◌, List, length, AllPairs, All, Contains, Option, Some, None, is_some}
use Rattle.std.specs.Str.{bytes_eq}
use Rattle.std.specs.FinMap as map
use Rattle.um_model.specs.Reached.{Reached}
use Rattle.um_model.specs.Names.{is_template, suffix_of}
use Rattle.um_model.specs.Resolution.{unit_path, shutdown_target}
use Rattle.um_model.specs.Profiles.{ReadTree, lasting_tree}
use Rattle.um_model.specs.Tree.{Tree, Link, PathParts, Wants, Requires, is_plain_name, path_parts}
use Rattle.um_model.specs.Units as units
use Rattle.um_model.specs.Units.{LoadedUnit, Loading, Found, load, unit_named}
use Rattle.um_model.specs.declared.dependencies.DependencyKind.{DependencyKind}
use Rattle.um_model.specs.declared.dependencies.DependencyKind.TheVariants as kinds
use Rattle.um_model.specs.declared.names.Suffix.TheVariants.{Target}
use Rattle.um_model.specs.declared.tree.Layer.{Layer}

-- ---- names by a tree

-- a unit can be loaded if it is found and is no template
abbrev pub loadable_of : Loading → Option LoadedUnit
loadable_of (Found l) = if is_template l.name then None else Some l
loadable_of other = None

-- the unit that the name leads to, if it can be loaded
abbrev pub loadable_in : ReadTree → List ℕ → Option LoadedUnit
loadable_in tree name = loadable_of (load tree name)

-- the names in the settings' list of this kind
abbrev pub names_in : DependencyKind → units.Dependencies → List (List ℕ)
names_in kinds.Wants d = d.wants
names_in kinds.Requires d = d.required
names_in kinds.BindsTo d = d.binds_to
names_in kinds.PartOf d = d.part_of
names_in kinds.Conflicts d = d.conflicts

-- the tree has a link in the directory of a unit for the units that it wants or requires, named after one of these
pub data Links (tree : Tree) : DependencyKind → List ℕ → List ℕ → Type 0 where
  wants : (path target y : List ℕ) (p : PathParts) → map.get tree path ≡ Some (Link target) → path_parts path ≡ Some p → p.place ≡ Wants y
      → Links tree kinds.Wants p.unit y
  requires : (path target y : List ℕ) (p : PathParts) → map.get tree path ≡ Some (Link target) → path_parts path ≡ Some p → p.place ≡ Requires y
      → Links tree kinds.Requires p.unit y

-- the tree has an entry of this name, which is no template
pub record HasEntry (tree : Tree) (x : List ℕ) : Type 0 where
  pub layer : Layer
  pub held : is_some (map.get tree (unit_path layer x)) ≡ true
  pub plain : is_plain_name x ≡ true

-- each loadable unit but shutdown.target, unless it says DefaultDependencies=no
abbrev pub has_defaults : LoadedUnit → Bool
has_defaults l = l.settings.dependencies.default_dependencies && not (bytes_eq l.name shutdown_target)

-- ---- dependencies and order by a known name

-- by the name a, x depends on y
pub data Gives (tree : ReadTree) : List ℕ → DependencyKind → List ℕ → List ℕ → Type 0 where
  -- a unit that can be loaded says so in its settings
  said : {a y : List ℕ} {kind : DependencyKind} {l : LoadedUnit} → loadable_in tree a ≡ Some l → Contains (names_in kind l.settings.dependencies) y
      → Gives tree a kind l.name (unit_named tree.entries y)
  -- a link in a directory of the name, whether its unit can be loaded or not
  linked : {a y : List ℕ} {kind : DependencyKind} → Links tree.entries kind a y
      → Gives tree a kind (unit_named tree.entries a) (unit_named tree.entries y)
  -- each service and target conflicts with shutdown.target
  ends : {a : List ℕ} {l : LoadedUnit} → loadable_in tree a ≡ Some l → has_defaults l ≡ true
      → Gives tree a kinds.Conflicts l.name (unit_named tree.entries shutdown_target)

-- by the name a, x is declared before y: Before= and After= of a unit that can be loaded
pub data Declares (tree : ReadTree) : List ℕ → List ℕ → List ℕ → Type 0 where
  precedes : {a y : List ℕ} {l : LoadedUnit} → loadable_in tree a ≡ Some l → Contains l.settings.dependencies.before y
      → Declares tree a l.name (unit_named tree.entries y)
  follows : {a y : List ℕ} {l : LoadedUnit} → loadable_in tree a ≡ Some l → Contains l.settings.dependencies.after y
      → Declares tree a (unit_named tree.entries y) l.name

-- the names that are known along with the name a: all in its dependencies
pub data Mentions (tree : ReadTree) : List ℕ → List ℕ → Type 0 where
  owner : {a x y : List ℕ} {kind : DependencyKind} → Gives tree a kind x y → Mentions tree a x
  other : {a x y : List ℕ} {kind : DependencyKind} → Gives tree a kind x y → Mentions tree a y
  earlier : {a x y : List ℕ} → Declares tree a x y → Mentions tree a x
  later : {a x y : List ℕ} → Declares tree a x y → Mentions tree a y

-- ---- known units

-- the names of entries, both names of each link that pulls in, and the units of which the state holds something or that a command names
pub data IsNamed (tree : ReadTree) (Extra : List ℕ → Type 0) : List ℕ → Type 0 where
  has : {x : List ℕ} → HasEntry tree.entries x → IsNamed tree Extra x
  holder : {kind : DependencyKind} {x y : List ℕ} → Links tree.entries kind x y → IsNamed tree Extra x
  link : {kind : DependencyKind} {x y : List ℕ} → Links tree.entries kind x y → IsNamed tree Extra y
  extra : {x : List ℕ} → Extra x → IsNamed tree Extra x

-- the least set that holds these, and all names in the dependencies of its members
abbrev pub IsKnown : ReadTree → (List ℕ → Type 0) → List ℕ → Type 0
IsKnown tree Extra = Reached (IsNamed tree Extra) (Mentions tree)

-- the most units that a manager knows
abbrev pub unit_limit : ℕ
unit_limit = 1024

-- more units are known than may be
pub record KnowsTooMany (tree : ReadTree) (Extra : List ℕ → Type 0) : Type 0 where
  pub names : List (List ℕ)
  pub known : All (IsKnown tree Extra) names
  pub apart : AllPairs (λ x y. x ≢ y) names
  pub many : unit_limit < length names

-- exactly `count` units are known: a list of just these, none twice
pub record KnowsSoMany (tree : ReadTree) (Extra : List ℕ → Type 0) (count : ℕ) : Type 0 where
  pub names : List (List ℕ)
  pub whole : (x : List ℕ) → Contains names x ↔ IsKnown tree Extra x
  pub apart : AllPairs (λ x y. x ≢ y) names
  pub long : length names ≡ count

-- a tree counts for `count` units: the greater of the counts by it and by it without its entries under `run/`
pub record CountsFor (tree : ReadTree) (Extra : List ℕ → Type 0) (count : ℕ) : Type 0 where
  pub held : ℕ
  pub lasting : ℕ
  pub by_tree : KnowsSoMany tree Extra held
  pub by_rest : KnowsSoMany (lasting_tree tree) Extra lasting
  pub greater : count ≡ max held lasting

-- ---- dependencies and the order

-- x depends on y: a known name gives it, and they are two units
pub record Depends (tree : ReadTree) (Extra : List ℕ → Type 0) (kind : DependencyKind) (x y : List ℕ) : Type 0 where
  pub name : List ℕ
  pub known : IsKnown tree Extra name
  pub gives : Gives tree name kind x y
  pub apart : x ≢ y

-- x is declared before y by a known name
pub record IsDeclared (tree : ReadTree) (Extra : List ℕ → Type 0) (x y : List ℕ) : Type 0 where
  pub name : List ℕ
  pub known : IsKnown tree Extra name
  pub declares : Declares tree name x y

-- a unit that can be loaded and says DefaultDependencies=no
abbrev pub Declines : ReadTree → List ℕ → Type 0
Declines tree x = (unit : LoadedUnit) × (loadable_in tree x ≡ Some unit) × (unit.settings.dependencies.default_dependencies ≡ false)

-- the target x wants or requires y, and neither declines the order that follows from that
pub record PullsIn (tree : ReadTree) (Extra : List ℕ → Type 0) (x y : List ℕ) : Type 0 where
  pub target : suffix_of x ≡ Some Target
  pub depends : Depends tree Extra kinds.Wants x y ⊎ Depends tree Extra kinds.Requires x y
  pub accepts : ¬ Declines tree x
  pub too : ¬ Declines tree y

-- by a rule, x goes before y
pub data Orders (tree : ReadTree) (Extra : List ℕ → Type 0) : List ℕ → List ℕ → Type 0 where
  -- Before= of x or After= of y
  declared : {x y : List ℕ} → IsDeclared tree Extra x y → Orders tree Extra x y
  -- a target comes after a unit that it wants or requires, unless it is declared before that
  pulled_in : {x y : List ℕ} → PullsIn tree Extra x y → ¬ IsDeclared tree Extra x y → Orders tree Extra y x
  -- each service and target comes before shutdown.target
  ending : {a : List ℕ} {l : LoadedUnit} → IsKnown tree Extra a → loadable_in tree a ≡ Some l → has_defaults l ≡ true
      → Orders tree Extra l.name (unit_named tree.entries shutdown_target)

-- x is before y, two units
pub record Precedes (tree : ReadTree) (Extra : List ℕ → Type 0) (x y : List ℕ) : Type 0 where
  pub orders : Orders tree Extra x y
  pub apart : x ≢ y
