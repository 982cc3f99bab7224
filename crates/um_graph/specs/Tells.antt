-- The relations of dependency and order from units and entries, as lists.
-- Follows the definitions of dependencies, whose rules these are; the laws in proofs/ tie both.
-- The contracts of the graph's parts stand on this file.
use Rattle.std.specs.Prelude.{ℕ, List, [], ◌∷◌, ◌++◌, Option, Some, None, if◌then◌else◌}
use Rattle.std.specs.List.{flat_map}
use Rattle.um_model.specs.Names.{is_template, named}
use Rattle.um_model.specs.Profiles.{ReadTree}
use Rattle.um_model.specs.Tree.{Tree, Entry, File, Link as link_to, PathParts, Place, Unit, DropIn, Wants, Requires, path_parts}
use Rattle.um_model.specs.Resolution.{shutdown_target}
use Rattle.um_model.specs.Units.{LoadedUnit, unit_named}
use Rattle.um_model.specs.Dependencies.{has_defaults, loadable_in}
use Rattle.um_model.specs.declared.dependencies.DependencyKind.{DependencyKind}
use Rattle.um_model.specs.declared.dependencies.DependencyKind.TheVariants as kinds
use Rattle.um_graph.specs.declared.told.Link.{Link}
use Rattle.um_graph.specs.declared.told.Link.TheVariants.{Depends, Declared, Ending}
use Rattle.um_graph.specs.declared.told.Told.{Told}

-- ---- by a unit's settings

abbrev pub tell : Link → List ℕ → List ℕ → Told
tell link from to = record { link = link; from = from; to = to }

-- the unit stands so to the one that the name leads to, where it is a name
abbrev pub told_to : Tree → Link → List ℕ → Option (List ℕ) → List Told
told_to tree link unit None = []
told_to tree link unit (Some name) = tell link unit (unit_named tree name) ∷ []

abbrev pub names_given : Tree → Link → List ℕ → List ℕ → List Told
names_given tree link unit text = told_to tree link unit (named text)

-- the one that the name leads to is declared before the unit
abbrev pub told_from : Tree → List ℕ → Option (List ℕ) → List Told
told_from tree unit None = []
told_from tree unit (Some name) = tell Declared (unit_named tree name) unit ∷ []

abbrev pub follows_by : Tree → List ℕ → List ℕ → List Told
follows_by tree unit text = told_from tree unit (named text)

-- the relations that follow from default dependencies
abbrev pub shutdown_told : Tree → List ℕ → Option (List ℕ) → List Told
shutdown_told tree unit None = []
shutdown_told tree unit (Some name) = tell (Depends kinds.Conflicts) unit (unit_named tree name) ∷ tell Ending unit (unit_named tree name) ∷ []

abbrev pub defaults_told : Tree → LoadedUnit → List Told
defaults_told tree l = if has_defaults l then shutdown_told tree l.name (named shutdown_target) else []

abbrev pub kind_told : Tree → LoadedUnit → DependencyKind → List (List ℕ) → List Told
kind_told tree l kind names = flat_map (names_given tree (Depends kind) l.name) names

-- the dependencies of the unit
abbrev pub needs_told : Tree → LoadedUnit → List Told
needs_told tree l =
    kind_told tree l kinds.Wants l.settings.dependencies.wants
    ++ (kind_told tree l kinds.Requires l.settings.dependencies.required
    ++ (kind_told tree l kinds.BindsTo l.settings.dependencies.binds_to
    ++ (kind_told tree l kinds.PartOf l.settings.dependencies.part_of
    ++ kind_told tree l kinds.Conflicts l.settings.dependencies.conflicts)))

-- all relations from a unit's settings
abbrev pub told_of : Tree → LoadedUnit → List Told
told_of tree l =
    needs_told tree l
    ++ (flat_map (names_given tree Declared l.name) l.settings.dependencies.before
    ++ (flat_map (follows_by tree l.name) l.settings.dependencies.after
    ++ defaults_told tree l))

abbrev pub told_where : Tree → Option LoadedUnit → List Told
told_where tree None = []
told_where tree (Some l) = told_of tree l

-- all relations of a name, from the settings of its unit
abbrev pub told_in : ReadTree → List ℕ → List Told
told_in tree name = told_where tree.entries (loadable_in tree name)

-- ---- by a tree's entries

abbrev pub unless_template : Option (List ℕ) → List (List ℕ)
unless_template None = []
unless_template (Some name) = if is_template name then [] else name ∷ []

abbrev pub own_name : List ℕ → List (List ℕ)
own_name text = unless_template (named text)

-- both names of a link, where they are names
abbrev pub both_of : Option (List ℕ) → Option (List ℕ) → List (List ℕ)
both_of None other = []
both_of (Some name) None = []
both_of (Some name) (Some other) = name ∷ other ∷ []

abbrev pub link_names : List ℕ → List ℕ → List (List ℕ)
link_names unit other = both_of (named unit) (named other)

abbrev pub told_between : Tree → DependencyKind → Option (List ℕ) → Option (List ℕ) → List Told
told_between tree kind None other = []
told_between tree kind (Some name) None = []
told_between tree kind (Some name) (Some other) = tell (Depends kind) (unit_named tree name) (unit_named tree other) ∷ []

abbrev pub link_told : Tree → DependencyKind → List ℕ → List ℕ → List Told
link_told tree kind unit other = told_between tree kind (named unit) (named other)

-- the names in an entry at such a place
abbrev pub place_names : List ℕ → Place → Entry → List (List ℕ)
place_names unit Unit entry = own_name unit
place_names unit (DropIn file) entry = []
place_names unit (Wants other) (link_to target) = link_names unit other
place_names unit (Wants other) (File text) = []
place_names unit (Requires other) (link_to target) = link_names unit other
place_names unit (Requires other) (File text) = []

abbrev pub names_at : Option PathParts → Entry → List (List ℕ)
names_at None entry = []
names_at (Some parts) entry = place_names parts.unit parts.place entry

abbrev pub entry_names : List ℕ × Entry → List (List ℕ)
entry_names e = names_at (path_parts e.0) e.1

-- the relations from an entry at such a place
abbrev pub place_told : Tree → List ℕ → Place → Entry → List Told
place_told tree unit Unit entry = []
place_told tree unit (DropIn file) entry = []
place_told tree unit (Wants other) (link_to target) = link_told tree kinds.Wants unit other
place_told tree unit (Wants other) (File text) = []
place_told tree unit (Requires other) (link_to target) = link_told tree kinds.Requires unit other
place_told tree unit (Requires other) (File text) = []

abbrev pub told_at : Tree → Option PathParts → Entry → List Told
told_at tree None entry = []
told_at tree (Some parts) entry = place_told tree parts.unit parts.place entry

abbrev pub entry_told : Tree → List ℕ × Entry → List Told
entry_told tree e = told_at tree (path_parts e.0) e.1
