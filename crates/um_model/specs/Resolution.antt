-- Where a unit's name leads in a tree: by the layers, templates, masks and other names to its file, and to its drop-ins.
-- Follows systemd.unit(5), "Unit File Load Path" and "Description" (aliases, templates, masks, drop-ins).
-- Settings, `cat` and enabling depend on this file.
use Rattle.std.specs.Prelude.{ℕ, zero, suc, Bool, true, false, if◌then◌else◌, List, [], ◌∷◌, ◌++◌, map as each, Option, Some, None}
use Rattle.std.specs.Prelude.{option_map, option_and_then, codes}
use Rattle.std.specs.Option.{option_or, option_map_or, option_and_then}
use Rattle.std.specs.List.{flat_map, after_last}
use Rattle.std.specs.Str.{bytes_eq}
use Rattle.std.specs.FinMap as map
use Rattle.std.specs.Cmp.Lexicographic.{slice_cmp}
use Rattle.std.specs.Ordering.{nat_cmp}
use Rattle.um_model.specs.Names.{suffix_of, suffix_text_of, instance_of, template_of, is_template, with_instance, named}
use Rattle.um_model.specs.Tree.{Tree, Entry, File, Link, layer_text, is_slash, behind}
use Rattle.um_model.specs.declared.names.Suffix.{Suffix}
use Rattle.um_model.specs.declared.names.Suffix.TheVariants.{Service, Target}
use Rattle.um_model.specs.declared.tree.Layer.{Layer}
use Rattle.um_model.specs.declared.tree.Layer.TheVariants.{Etc, Run, Lib}

-- ---- a unit's entry

-- the path of a unit in a layer
abbrev pub unit_path : Layer → List ℕ → List ℕ
unit_path layer unit = layer_text layer ++ unit

-- the entry there, with the path
abbrev pub held_in : Layer → Tree → List ℕ → Option (List ℕ × Entry)
held_in layer tree unit = option_map (λ e. (unit_path layer unit, e)) (map.get tree (unit_path layer unit))

-- the first layer that holds the unit counts
abbrev pub first_held : Tree → List ℕ → Option (List ℕ × Entry)
first_held tree unit = option_or (held_in Etc tree unit) (option_or (held_in Run tree unit) (held_in Lib tree unit))

-- the unit that a link leads to: the last part of its target
abbrev pub unit_in_target : List ℕ → List ℕ
unit_in_target target = after_last is_slash target

-- the entry is a link to the unit's own template, and stands for the entry of that
abbrev pub leads_to_template : Option (List ℕ) → Entry → Bool
leads_to_template (Some template) (Link target) = bytes_eq (unit_in_target target) template
leads_to_template template entry = false

abbrev pub unless_to_template : Option (List ℕ) → Option (List ℕ × Entry) → Option (List ℕ × Entry)
unless_to_template template held = option_and_then (λ found. if leads_to_template template found.1 then None else Some found) held

-- the unit's own entry, or else that of its template
abbrev pub held : Tree → List ℕ → Option (List ℕ × Entry)
held tree unit = option_or (unless_to_template (template_of unit) (first_held tree unit)) (option_and_then (first_held tree) (template_of unit))

-- ---- where a name leads

-- to the file of a unit, which isn't empty; to a unit that needs no file; to a masked unit; or nowhere
pub data Resolution : Type 0 where
  AtFile : (unit path text : List ℕ) → Resolution
  AtNoFile : (unit : List ℕ) → Resolution
  AtMask : (unit : List ℕ) → Resolution
  Nowhere : Resolution

-- of the types of units, services and targets are served
abbrev pub is_served_type : Option Suffix → Bool
is_served_type (Some Service) = true
is_served_type (Some Target) = true
is_served_type other = false

-- this unit is found even if nothing holds it
abbrev pub shutdown_target : List ℕ
shutdown_target = codes "shutdown.target"

-- a link to this masks its unit
abbrev pub is_mask : List ℕ → Bool
is_mask target = bytes_eq target (codes "/dev/null")

-- both names have the same suffix
abbrev pub is_of_same_type : List ℕ → List ℕ → Bool
is_of_same_type unit other = bytes_eq (suffix_text_of (suffix_of unit)) (suffix_text_of (suffix_of other))

-- a template takes the instance of the name that leads to it, if there is one
abbrev pub with_instance_of : Option (List ℕ) → List ℕ → List ℕ
with_instance_of instance other = option_map_or (λ i. if is_template other then with_instance other i else other) instance other

-- one hop: the name that a link leads on to, which has the same suffix
abbrev pub next_name : List ℕ → List ℕ → Option (List ℕ)
next_name unit target =
    option_and_then (λ other. if is_of_same_type unit other then Some other else None) (named (with_instance_of (instance_of unit) (unit_in_target target)))

-- where a name leads by what holds it: an empty file and a link to `/dev/null` mask, any other link leads on
abbrev pub resolution_at : List ℕ → Option (List ℕ × Entry) → (List ℕ → Resolution) → Resolution
resolution_at unit None follow = if bytes_eq unit shutdown_target then AtNoFile unit else Nowhere
resolution_at unit (Some (path, File [])) follow = AtMask unit
resolution_at unit (Some (path, File (b ∷ bs))) follow = AtFile unit path (b ∷ bs)
resolution_at unit (Some (path, Link target)) follow = if is_mask target then AtMask unit else option_map_or follow (next_name unit target) Nowhere

-- where a name leads by at most this many hops
abbrev pub resolved : ℕ → Tree → List ℕ → Resolution
resolved zero tree unit = resolution_at unit (held tree unit) (λ other. Nowhere)
resolved (suc hops) tree unit = resolution_at unit (held tree unit) (resolved hops tree)

abbrev pub hop_limit : ℕ
hop_limit = 8

-- where the name leads
unfoldable pub resolution_of : Tree → List ℕ → Resolution
resolution_of tree unit = if is_served_type (suffix_of unit) then resolved hop_limit tree unit else Nowhere

-- ---- drop-ins

-- a file of a unit: its path and its text
pub record UnitFile : Type 0 where
  pub path : List ℕ
  pub text : List ℕ

-- the folders of drop-ins of a unit, a layer each
abbrev pub folders_of : List ℕ → List (List ℕ)
folders_of unit = each (λ layer. layer_text layer ++ (unit ++ codes ".d/")) (Etc ∷ Run ∷ Lib ∷ [])

-- the unit's own, and then its template's
abbrev pub drop_in_folders : List ℕ → List (List ℕ)
drop_in_folders unit = folders_of unit ++ option_map_or folders_of (template_of unit) []

-- the drop-in that an entry of the tree is, with its name in the folder, if it is a file there
abbrev pub drop_in_at : List ℕ → List ℕ × Entry → List (List ℕ × UnitFile)
drop_in_at folder (path, File text) = option_map_or (λ name. (name, record { path = path; text = text }) ∷ []) (behind folder path) []
drop_in_at folder (path, Link target) = []

abbrev pub drop_ins_in : Tree → List ℕ → List (List ℕ × UnitFile)
drop_ins_in tree folder = flat_map (drop_in_at folder) (map.entries tree)

-- the drop-ins of a unit by their names, whatever folder they lie in; of equal names the first counts
unfoldable pub drop_ins_of : Tree → List ℕ → map.FinMap (slice_cmp nat_cmp) UnitFile
drop_ins_of tree unit = map.from_entries (flat_map (drop_ins_in tree) (drop_in_folders unit))

-- ---- files

-- the files of a unit in the order in which they are read: its own and then its drop-ins
abbrev pub files_at : Tree → Resolution → List UnitFile
files_at tree (AtFile unit path text) = record { path = path; text = text } ∷ map.values (drop_ins_of tree unit)
files_at tree (AtNoFile unit) = map.values (drop_ins_of tree unit)
files_at tree other = []
