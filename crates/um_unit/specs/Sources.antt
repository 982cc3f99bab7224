-- Sources and assignments of the code as those of the definitions.
use Rattle.std.specs.Prelude.{ℕ, Bool, true, false, List, [], ◌∷◌, Option, None, Some, map, if◌then◌else◌}
use Rattle.std.specs.List.{flat_map}
use Rattle.um_model.specs.FileForms.{in_sections}
use Rattle.um_model.specs.Keys.{is_known_section}
use Rattle.um_model.specs.Syntax.{Item, Assignment, Placed}
use Rattle.um_model.specs.Units as model
use Rattle.um_model.specs.declared.names.Suffix.{Suffix}
use Rattle.um_syntax.specs.Items.{item_of}
use Rattle.um_syntax.specs.declared.items.Item.{Item as Read}
use Rattle.um_syntax.specs.declared.items.Item.TheVariants as read
use Rattle.um_unit.specs.declared.assignments.Assigned.{Assigned}
use Rattle.um_unit.specs.declared.assignments.Source.{Source}

abbrev pub source_of : Source → model.Source
source_of s = record { path = s.path.now; reading = in_sections None (map item_of s.items.items) }

abbrev pub assigned_of : Assigned → model.Assigned
assigned_of a = record { section = a.section.now; key = a.key.now; value = a.value.now }

-- the assignment that an item is, in a known section
abbrev pub assigned_by : Option Suffix → Option (List ℕ) → Item → List model.Assigned
assigned_by type (Some s) (Assignment k v line whole) = if is_known_section type s then record { section = s; key = k; value = v } ∷ [] else []
assigned_by type section other = []

-- the assignments of one file
abbrev pub assigned_in : Option Suffix → List Placed → List model.Assigned
assigned_in type reading = flat_map (λ p. assigned_by type p.section p.item) reading

-- the assignments of several files
abbrev pub all_assigned : Option Suffix → List Source → List model.Assigned
all_assigned type sources = flat_map (λ (s : model.Source). assigned_in type s.reading) (map source_of sources)

-- a head or an assignment
abbrev pub says : Read → Bool
says (read.Section name line) = true
says (read.Assignment key value line span) = true
says (read.Warning kind line) = false
