-- The checks before enabling, by lists and maps of the requested links.
use Rattle.std.specs.Prelude.{◌≡◌, ℕ, suc, Bool, true, false, not, ◌||◌, ◌-◌, nat_le, List, [], ◌∷◌, Option, Some, None, is_none, if◌then◌else◌}
use Rattle.std.specs.Cmp.Lexicographic.{slice_cmp}
use Rattle.std.specs.FinMap as map
use Rattle.std.specs.List.{flat_map}
use Rattle.std.specs.Ordering.{nat_cmp, is_lt}
use Rattle.std.specs.Str.{bytes_eq}
use Rattle.um_model.specs.Install as model
use Rattle.um_model.specs.Install.{LinkAt, CannotEnable}
use Rattle.um_model.specs.Refusals.{Refused, too_large}
use Rattle.um_model.specs.Tree.{Tree, entry_limit, is_fit_target, is_other_than_link, path_parts}
use Rattle.um_model.specs.Units.{Loading}
use Rattle.um_model.specs.declared.refusals.Limit.TheVariants.{Entries}
use Rattle.um_install.specs.View.{Units, Targets}

-- the links that the units request, by the units' names
abbrev pub links_in : Units → List LinkAt
links_in units = flat_map model.links_of (map.values units)

-- with these links by their paths; of several at one path the last
abbrev pub with_targets : Targets → List LinkAt → Targets
with_targets targets [] = targets
with_targets targets (l ∷ ls) = with_targets (map.insert targets l.path l.target) ls

-- the link may not stand at its path
abbrev pub is_unfit : LinkAt → Bool
is_unfit l = not (is_fit_target (path_parts l.path) l.target)

-- another link is among these at its path
abbrev pub is_other : Option (List ℕ) → List ℕ → Bool
is_other None target = false
is_other (Some other) target = not (bytes_eq other target)

-- something else stands at its path, or another link is among these
abbrev pub is_occupied : Tree → Targets → LinkAt → Bool
is_occupied tree targets l = is_other_than_link (map.get tree l.path) l.target || is_other (map.get targets l.path) l.target

-- the lesser of a path and one that was found before
abbrev pub lesser : Option (List ℕ) → List ℕ → Option (List ℕ)
lesser None path = Some path
lesser (Some other) path = if is_lt (slice_cmp nat_cmp other path) then Some other else Some path

-- the same, if a test holds
abbrev pub lesser_if : Bool → Option (List ℕ) → List ℕ → Option (List ℕ)
lesser_if true found path = lesser found path
lesser_if false found path = found

-- the least of the path found so far and of those of the links that pass the test
abbrev pub least_of : (LinkAt → Bool) → Option (List ℕ) → List LinkAt → Option (List ℕ)
least_of test found [] = found
least_of test found (l ∷ ls) = least_of test (lesser_if (test l) found l.path) ls

-- one more, if a test holds
abbrev pub one_if : Bool → ℕ → ℕ
one_if true n = suc n
one_if false n = n

-- the number of the paths that are new to the tree
abbrev pub new_paths : Tree → List (List ℕ) → ℕ
new_paths tree [] = 0
new_paths tree (path ∷ paths) = one_if (is_none (map.get tree path)) (new_paths tree paths)

-- there is room in the tree for the new ones
abbrev pub has_room : Tree → Targets → Bool
has_room tree targets = nat_le (new_paths tree (map.keys targets)) (entry_limit - map.len tree)

-- the path that was found is refused
abbrev pub Names : (List ℕ → Refused) → Option (List ℕ) → Refused → Type 0
Names refusal None r = ⊥
Names refusal (Some path) r = r ≡ refusal path

-- there is none, which is refused
pub record LacksRoom (tree : Tree) (targets : Targets) (r : Refused) : Type 0 where
  pub full : has_room tree targets ≡ false
  pub refusal : r ≡ too_large Entries

-- of units in a row, the first that can't be enabled refuses
pub data RefusesFirst : List (List ℕ × Loading) → Refused → Type 0 where
  here : {e : List ℕ × Loading} {es : List (List ℕ × Loading)} {r : Refused} → CannotEnable e.0 e.1 r → RefusesFirst (e ∷ es) r
  later : {e : List ℕ × Loading} {es : List (List ℕ × Loading)} {r : Refused} → ((q : Refused) → ¬ CannotEnable e.0 e.1 q) → RefusesFirst es r
      → RefusesFirst (e ∷ es) r
