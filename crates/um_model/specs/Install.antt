-- The links that enabling a unit makes, those that disabling and unmasking remove, and how a unit is enabled.
-- Follows systemctl(1), "enable", "disable", "mask", "unmask" and "is-enabled", and systemd.unit(5), "[INSTALL] SECTION OPTIONS".
-- The machine depends on this file.
use Rattle.std.specs.Prelude.{◌≡◌, ◌≢◌, ◌⊎◌, ℕ, ◌<◌, Bool, true, false, not, if◌then◌else◌, List, [], ◌∷◌, ◌++◌, map as each, Contains}
use Rattle.std.specs.Prelude.{Option, Some, None, is_none, option_and_then, Ok, Err, codes}
use Rattle.std.specs.Bool.{Decides}
use Rattle.std.specs.List.{filter}
use Rattle.std.specs.Str.{bytes_eq}
use Rattle.std.specs.FinMap as map
use Rattle.um_model.specs.Least.{NamesLeast}
use Rattle.um_model.specs.Reached.{Reached}
use Rattle.um_model.specs.Refusals.{Refused, FirstCause, not_found, masked, bad_setting, exists_at, bad_path, too_large}
use Rattle.um_model.specs.Names.{is_template, with_instance, named}
use Rattle.um_model.specs.Profiles.{ReadTree}
use Rattle.um_model.specs.Tree.{Tree, Entry, Link, PathParts, Place, Unit, Wants, Requires, path_text, path_parts, entry_limit, is_fit_target, is_other_than_link, put_link}
use Rattle.um_model.specs.Resolution.{unit_path, unit_in_target, is_mask}
use Rattle.um_model.specs.Units.{InstallSettings, nothing_installed, LoadedUnit, Loading, Found, Masked, NotFound, BadSetting, load, unit_named}
use Rattle.um_model.specs.declared.install.Enabling.{Enabling}
use Rattle.um_model.specs.declared.install.Enabling.TheVariants as enabling
use Rattle.um_model.specs.declared.install.InstallVerb.{InstallVerb}
use Rattle.um_model.specs.declared.install.InstallVerb.TheVariants as verbs
use Rattle.um_model.specs.declared.refusals.Limit.TheVariants.{Entries}
use Rattle.um_model.specs.declared.tree.Layer.TheVariants.{Etc}
use Rattle.um_model.specs.declared.tree.Layer.{Layer}

-- ---- the links that a unit calls for

-- a link: the path at which it stands, and its target
pub record LinkAt : Type 0 where
  pub path : List ℕ
  pub target : List ℕ

abbrev pub link_at : List ℕ → List ℕ → LinkAt
link_at path target = record { path = path; target = target }

-- the [Install] section of a unit: that of one that can't be loaded is empty
abbrev pub install_of : Loading → InstallSettings
install_of (Found l) = l.settings.install
install_of other = nothing_installed

-- the name under which a unit is linked: its own, or that of a template with its default instance, if the whole is a unit name
abbrev pub linked_name : LoadedUnit → Option (List ℕ)
linked_name l =
    if is_template l.name then option_and_then (λ instance. named (with_instance l.name instance)) l.settings.install.default_instance
    else Some l.name

-- in `etc/`, the path at which the unit wants or requires the other, or is the unit itself
abbrev pub path_in_etc : List ℕ → Place → List ℕ
path_in_etc unit place = path_text (record { layer = Etc; unit = unit; place = place })

-- each name in WantedBy=, RequiredBy= and Alias= calls for a link to the unit's file
abbrev pub links_to : InstallSettings → Option (List ℕ) → Option (List ℕ) → List LinkAt
links_to install (Some name) (Some path) =
    each (λ unit. link_at (path_in_etc unit (Wants name)) path) install.wanted_by
    ++ each (λ unit. link_at (path_in_etc unit (Requires name)) path) install.required_by
    ++ each (λ alias. link_at (path_in_etc alias Unit) path) install.alias
links_to install name path = []

-- the links that a unit calls for, by the result of its loading
abbrev pub links_of : Loading → List LinkAt
links_of (Found l) = links_to l.settings.install (linked_name l) l.path
links_of other = []

-- ---- enable

-- the unit names the other in Also=
pub data IsAlso (tree : ReadTree) (unit : List ℕ) : List ℕ → Type 0 where
  also : {name : List ℕ} → Contains (install_of (load tree unit)).also name → IsAlso tree unit (unit_named tree.entries name)

-- enabling takes the unit, those of its Also=, and so on for those
abbrev pub IsTaken : ReadTree → List ℕ → List ℕ → Type 0
IsTaken tree asked = Reached (λ unit. unit ≡ unit_named tree.entries asked) (IsAlso tree)

-- one of them calls for the link
pub record IsAskedFor (tree : ReadTree) (asked : List ℕ) (link : LinkAt) : Type 0 where
  pub unit : List ℕ
  pub taken : IsTaken tree asked unit
  pub among : Contains (links_of (load tree unit)) link

-- the other tree is this one with the links that are called for, and no other change
pub record IsEnabled (tree : ReadTree) (asked : List ℕ) (enabled : Tree) : Type 0 where
  pub linked : (path target : List ℕ) → IsAskedFor tree asked (link_at path target) → map.get enabled path ≡ Some (Link target)
  pub kept : (path : List ℕ) → ¬ ((target : List ℕ) × IsAskedFor tree asked (link_at path target))
      → map.get enabled path ≡ map.get tree.entries path

-- Why a unit isn't enabled.

-- a link that is called for has no served path, or may not stand there
abbrev pub IsUnfit : ReadTree → List ℕ → List ℕ → Type 0
IsUnfit tree asked path = (target : List ℕ) × IsAskedFor tree asked (link_at path target) × (is_fit_target (path_parts path) target ≡ false)

-- at its path something else stands, or another link is called for
pub data IsOccupied (tree : ReadTree) (asked path : List ℕ) : Type 0 where
  stands : {target : List ℕ} → IsAskedFor tree asked (link_at path target) → is_other_than_link (map.get tree.entries path) target ≡ true
      → IsOccupied tree asked path
  differs : {target other : List ℕ} → IsAskedFor tree asked (link_at path target) → IsAskedFor tree asked (link_at path other) → target ≢ other
      → IsOccupied tree asked path

-- the tree with the links has too many entries
pub data HasTooMany (tree : ReadTree) (asked : List ℕ) : Refused → Type 0 where
  too_many : {enabled : Tree} → IsEnabled tree asked enabled → entry_limit < map.len enabled → HasTooMany tree asked (too_large Entries)

-- the unit can't be enabled: it isn't found, is masked, has a refused setting, or is a template without a fit default instance
pub data CannotEnable (unit : List ℕ) : Loading → Refused → Type 0 where
  isnt_found : CannotEnable unit NotFound (not_found unit)
  is_masked : {other : List ℕ} → CannotEnable unit (Masked other) (masked other)
  has_bad_setting : {other reason : List ℕ} → CannotEnable unit (BadSetting other reason) (bad_setting other reason)
  lacks_instance : {l : LoadedUnit} → linked_name l ≡ None → CannotEnable unit (Found l) (bad_setting l.name (codes "default-instance"))

-- the unit is taken, and can't be enabled
pub record IsBarred (tree : ReadTree) (asked unit : List ℕ) : Type 0 where
  pub taken : IsTaken tree asked unit
  pub refusal : Refused
  pub cause : CannotEnable unit (load tree unit) refusal

-- why its links aren't made, in the order of the checks; E12 and E11 name the least path for which they hold
abbrev pub CausesOfLinks : ReadTree → List ℕ → Refused → Type 0
CausesOfLinks tree asked =
    FirstCause (NamesLeast (IsUnfit tree asked) (λ path r. r ≡ bad_path path))
    (FirstCause (NamesLeast (IsOccupied tree asked) (λ path r. r ≡ exists_at path)) (HasTooMany tree asked))

-- ---- disable

-- disabling goes by the name, those of its Also= as they are written there, and so on for those
abbrev pub IsMeant : ReadTree → List ℕ → List ℕ → Type 0
IsMeant tree asked = Reached (λ name. name ≡ asked) (λ unit name. Contains (install_of (load tree unit)).also name)

-- disabling removes the link at the path: it lies in `etc/`, and wants or requires a unit that is meant, or leads to it
pub record IsUnlinked (tree : ReadTree) (asked path : List ℕ) : Type 0 where
  pub name : List ℕ
  pub target : List ℕ
  pub parts : PathParts
  pub meant : IsMeant tree asked name
  pub link : map.get tree.entries path ≡ Some (Link target)
  pub served : path_parts path ≡ Some parts
  pub in_etc : parts.layer ≡ Etc
  pub leads : (parts.place ≡ Wants name) ⊎ ((parts.place ≡ Requires name) ⊎ (unit_in_target target ≡ name))

-- the other tree is this one without the links that are removed, and no other change
pub record IsDisabled (tree : ReadTree) (asked : List ℕ) (disabled : Tree) : Type 0 where
  pub gone : (path : List ℕ) → IsUnlinked tree asked path → map.get disabled path ≡ None
  pub kept : (path : List ℕ) → ¬ IsUnlinked tree asked path → map.get disabled path ≡ map.get tree.entries path

-- ---- mask and unmask

abbrev pub is_masking : Option Entry → Bool
is_masking (Some (Link target)) = is_mask target
is_masking other = false

-- the tree without the link that masks the unit, if there is one
abbrev pub unmasked : Tree → List ℕ → Tree
unmasked tree unit = if is_masking (map.get tree (unit_path Etc unit)) then map.remove tree (unit_path Etc unit) else tree

-- ---- all four

-- the tree that results from the verb, if it isn't refused
pub data Installs (tree : ReadTree) : InstallVerb → List ℕ → Tree → Type 0 where
  enables : {unit : List ℕ} {enabled : Tree} → IsEnabled tree unit enabled → Installs tree verbs.Enable unit enabled
  disables : {unit : List ℕ} {disabled : Tree} → IsDisabled tree unit disabled → Installs tree verbs.Disable unit disabled
  masks : {unit : List ℕ} {changed : Tree} → put_link tree.entries (unit_path Etc unit) (codes "/dev/null") ≡ Ok changed
      → Installs tree verbs.Mask unit changed
  unmasks : {unit : List ℕ} → Installs tree verbs.Unmask unit (unmasked tree.entries unit)

-- why the verb is refused for the links that it makes, if it is
pub data RefusesLinks (tree : ReadTree) : InstallVerb → List ℕ → Refused → Type 0 where
  enables_none : {unit : List ℕ} {r : Refused} → CausesOfLinks tree unit r → RefusesLinks tree verbs.Enable unit r
  masks_none : {unit : List ℕ} {r : Refused} → put_link tree.entries (unit_path Etc unit) (codes "/dev/null") ≡ Err r
      → RefusesLinks tree verbs.Mask unit r

-- why the verb is refused for the units that it takes: the least that can't be enabled gives the refusal
pub data RefusesUnits (tree : ReadTree) : InstallVerb → List ℕ → Refused → Type 0 where
  takes_none : {unit : List ℕ} {r : Refused} → NamesLeast (IsBarred tree unit) (λ other r. CannotEnable other (load tree other) r) r
      → RefusesUnits tree verbs.Enable unit r

-- why the verb is refused, if it is
abbrev pub RefusesInstall : ReadTree → InstallVerb → List ℕ → Refused → Type 0
RefusesInstall tree verb unit = FirstCause (RefusesLinks tree verb unit) (RefusesUnits tree verb unit)

-- the paths at which something stands in the one tree and nothing in the other, ascending
abbrev pub paths_beyond : Tree → Tree → List (List ℕ)
paths_beyond other tree = filter (λ path. is_none (map.get other path)) (map.keys tree)

-- ---- is-enabled

-- the word for it
abbrev pub enabling_text : Enabling → List ℕ
enabling_text enabling.NotFound = codes "not-found"
enabling_text enabling.Masked = codes "masked"
enabling_text enabling.Alias = codes "alias"
enabling_text enabling.Enabled = codes "enabled"
enabling_text enabling.Disabled = codes "disabled"
enabling_text enabling.Indirect = codes "indirect"
enabling_text enabling.Static = codes "static"

-- how a unit is enabled by its [Install] section, if no link is there
abbrev pub enabling_by : List (List ℕ) → List (List ℕ) → Enabling
enabling_by (link ∷ links) others = enabling.Disabled
enabling_by [] (name ∷ names) = enabling.Indirect
enabling_by [] [] = enabling.Static

-- how a name that leads to that unit is enabled: as another name of it, or by whether there is a link that disabling removes
abbrev pub enabling_at : List ℕ → List ℕ → Bool → InstallSettings → Enabling
enabling_at asked unit linked install =
    if not (bytes_eq unit asked) then enabling.Alias
    else (if linked then enabling.Enabled else enabling_by (install.alias ++ install.wanted_by ++ install.required_by) install.also)

abbrev pub enabling_of : List ℕ → Loading → Bool → Enabling
enabling_of asked NotFound linked = enabling.NotFound
enabling_of asked (Masked unit) linked = enabling.Masked
enabling_of asked (BadSetting unit reason) linked = enabling_at asked unit linked nothing_installed
enabling_of asked (Found l) linked = enabling_at asked l.name linked l.settings.install

-- how the unit is enabled in the tree
pub record IsEnabledAs (tree : ReadTree) (asked : List ℕ) (answer : Enabling) : Type 0 where
  pub linked : Bool
  pub decides : Decides linked ((path : List ℕ) × IsUnlinked tree asked path)
  pub fits : answer ≡ enabling_of asked (load tree asked) linked

-- the layer is that of the administrator
abbrev pub is_etc : Layer → Bool
is_etc Etc = true
is_etc other = false
