-- The paths, entries and trees that the code holds and returns, as those of the definitions.
use Rattle.std.specs.Prelude.{ℕ, List, String, string_bytes, map as each}
use Rattle.std.specs.declared.alloc.Global.{Global}
use Rattle.std.specs.FinMap as map
use Rattle.std.specs.Rc.{rc_str_bytes}
use denote.Ref.{Bor}
use Rattle.um_model.specs.declared.tree.Layer.{Layer}
use Rattle.um_model.specs.Tree as model
use Rattle.um_model.specs.Refusals.{Refused, bad_path, exists_at, too_large}
use Rattle.um_tree.specs.declared.cause.Cause.{Cause}
use Rattle.um_tree.specs.declared.cause.Cause.TheVariants as cause
use Rattle.um_tree.specs.declared.entry.Entry.{Entry}
use Rattle.um_tree.specs.declared.entry.Entry.TheVariants as seen
use Rattle.um_tree.specs.declared.path.Place.{Place}
use Rattle.um_tree.specs.Place.{place_of}
use Rattle.um_tree.specs.declared.entry.Stored.{Stored}
use Rattle.um_tree.specs.declared.entry.Stored.TheVariants as stored

-- an entry that was returned
abbrev pub entry_of : Entry → model.Entry
entry_of (seen.File text) = model.File text.now
entry_of (seen.Link target) = model.Link target.now

-- an entry as it is held
abbrev pub stored_entry : Stored → model.Entry
stored_entry (stored.File text) = model.File (rc_str_bytes text)
stored_entry (stored.Link target) = model.Link (rc_str_bytes target)

abbrev pub path_and_entry : String Global × Stored → List ℕ × model.Entry
path_and_entry e = (string_bytes e.0, stored_entry e.1)

-- a path with its entry, as they are returned
abbrev pub path_with_entry : Bor (List ℕ) × Entry → List ℕ × model.Entry
path_with_entry p = (p.0.now, entry_of p.1)

-- the tree of the entries that are held
abbrev pub tree_of : List (String Global × Stored) → model.Tree
tree_of es = map.from_entries (each path_and_entry es)

-- a text that was borrowed, two of them, and one beside a layer or a place
abbrev pub text_of : Bor (List ℕ) → List ℕ
text_of text = text.now

abbrev pub two_texts : Bor (List ℕ) × Bor (List ℕ) → List ℕ × List ℕ
two_texts p = (p.0.now, p.1.now)

abbrev pub layer_and_text : Layer × Bor (List ℕ) → Layer × List ℕ
layer_and_text p = (p.0, p.1.now)

abbrev pub text_and_place : Bor (List ℕ) × Place → List ℕ × model.Place
text_and_place p = (p.0.now, place_of p.1)

-- the refusal for a cause
abbrev pub refused_by : Cause → Refused
refused_by (cause.BadPath path) = bad_path path.now
refused_by (cause.Exists path) = exists_at path.now
refused_by (cause.TooLarge limit) = too_large limit
