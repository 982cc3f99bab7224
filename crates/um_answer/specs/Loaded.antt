-- When a graph's loadings of its units are those of a tree.
-- Follows no manual page: it turns numbers into names.
-- The look-up of a requested name stands on this file.
use Rattle.std.specs.Prelude.{◌≡◌, ℕ, Bool, true, false, List, Some, option_map, slice_get}
use Rattle.um_model.specs.Profiles.{ReadTree}
use Rattle.um_model.specs.Units.{Loading, NotFound, load}
use Rattle.um_unit.specs.View.{loading_of}
use Rattle.um_graph.specs.Graph.{GraphView, IsNumberOf}

-- the loadings of the graph are those of the tree
abbrev pub Loads : GraphView → ReadTree → Type 0
Loads g tree = (i : ℕ) (x : List ℕ) → IsNumberOf g i x → option_map loading_of (slice_get g.loadings i) ≡ Some (load tree x)

-- a name leads to a file, a mask, or a unit with a refused setting
abbrev pub is_found : Loading → Bool
is_found NotFound = false
is_found other = true
