-- Units that were taken, links and their targets in the code, as those of the definitions.
use Rattle.std.specs.Prelude.{ℕ, List, String, map as each, string_bytes}
use Rattle.std.specs.Cmp.Lexicographic.{slice_cmp}
use Rattle.std.specs.FinMap as map
use Rattle.std.specs.Ordering.{nat_cmp}
use Rattle.std.specs.declared.alloc.Global.{Global}
use denote.Ref.{Bor}
use Rattle.um_model.specs.Install as model
use Rattle.um_model.specs.Units as units
use Rattle.um_unit.specs.View.{loading_of}
use Rattle.um_unit.specs.declared.loaded.Loading.{Loading}
use Rattle.um_install.specs.declared.links.LinkAt.{LinkAt}

-- units by their names, each with the outcome of its look-up
abbrev pub Units : Type 0
Units = map.FinMap (slice_cmp nat_cmp) units.Loading

-- an entry of such a map
abbrev pub name_and_loading : String Global × Loading → List ℕ × units.Loading
name_and_loading e = (string_bytes e.0, loading_of e.1)

-- the map of the entries that are held
abbrev pub units_of : List (String Global × Loading) → Units
units_of es = map.from_entries (each name_and_loading es)

-- targets of links by their paths
abbrev pub Targets : Type 0
Targets = map.FinMap (slice_cmp nat_cmp) (List ℕ)

-- a path with its target
abbrev pub path_and_target : String Global × String Global → List ℕ × List ℕ
path_and_target e = (string_bytes e.0, string_bytes e.1)

-- the map of those that are held
abbrev pub targets_of : List (String Global × String Global) → Targets
targets_of es = map.from_entries (each path_and_target es)

-- a link as it is held
abbrev pub link_of : LinkAt → model.LinkAt
link_of l = model.link_at (string_bytes l.path) (string_bytes l.target)

-- a text that was borrowed
abbrev pub text_of : Bor (List ℕ) → List ℕ
text_of text = text.now
