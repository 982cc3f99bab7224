-- The effect of a verb on a tree, step by step.
-- Follows the definitions of enabling: it states them link by link.
-- The contracts of the verbs' parts stand on this file.
use Rattle.std.specs.Prelude.{ℕ, Bool, false, ◌&&◌, ◌||◌, List, [], ◌∷◌, Option, Some, None, Result, Ok, Err, map as each}
use Rattle.std.specs.FinMap as map
use Rattle.std.specs.List.{filter}
use Rattle.um_model.specs.Install.{is_etc}
use Rattle.um_model.specs.Refusals.{Refused}
use Rattle.um_model.specs.Resolution.{unit_in_target}
use Rattle.um_model.specs.Tree.{Tree, Entry, File, Link, PathParts, Place, Unit, DropIn, Wants, Requires, path_parts, put_link, remove_at}
use Rattle.um_install.specs.View.{Units}

-- the next step, if the one before isn't refused
abbrev pub and_then : Result Tree Refused → (Tree → Result Tree Refused) → Result Tree Refused
and_then (Ok tree) next = next tree
and_then (Err r) next = Err r

-- the links put one after another
abbrev pub linked : Tree → List (List ℕ × List ℕ) → Result Tree Refused
linked tree [] = Ok tree
linked tree (e ∷ es) = and_then (put_link tree e.0 e.1) (λ next. linked next es)

-- the paths removed one after another
abbrev pub removed : Tree → List (List ℕ) → Result Tree Refused
removed tree [] = Ok tree
removed tree (path ∷ paths) = and_then (remove_at tree path) (λ next. removed next paths)

-- a link at such a place wants or requires one of the units
abbrev pub pulls_in_any : Units → Place → Bool
pulls_in_any units Unit = false
pulls_in_any units (DropIn name) = false
pulls_in_any units (Wants unit) = map.contains_key units unit
pulls_in_any units (Requires unit) = map.contains_key units unit

-- a link to the target, which lies in `etc/`, pulls one of the units in or leads to it
abbrev pub is_link_for_any : Units → PathParts → List ℕ → Bool
is_link_for_any units p target = is_etc p.layer && (pulls_in_any units p.place || map.contains_key units (unit_in_target target))

-- disabling one of the units removes the entry at a path of these parts
abbrev pub is_link_of_any : Units → Option PathParts → Entry → Bool
is_link_of_any units None entry = false
is_link_of_any units (Some p) (File text) = false
is_link_of_any units (Some p) (Link target) = is_link_for_any units p target

-- the same of an entry by its path
abbrev pub is_unlinked : Units → List ℕ × Entry → Bool
is_unlinked units e = is_link_of_any units (path_parts e.0) e.1

-- the paths of the entries that disabling the units removes
abbrev pub paths_unlinked : Units → List (List ℕ × Entry) → List (List ℕ)
paths_unlinked units es = each (λ e. e.0) (filter (is_unlinked units) es)
