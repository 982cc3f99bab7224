-- The record of the entries of a folder that were put into a manager's tree, and the steps by which the tree follows
-- the folder.
-- No manual page has this: it is the project's own (docs/FORMATS.md, "umd ctl sync").
-- um_sync stands on this file.
use Rattle.std.specs.Prelude.{◌++◌, ◌==◌, ℕ, List, [], Bool, true, false, Option, Some, None, Result, Ok, Err, map, filter, flat_map, fold, is_none, length, nat_lt, option_map, option_to_list, codes, bytes_eq, if◌then◌else◌}
use Rattle.std.specs.FinMap as map_of
use Rattle.std.specs.List.{after_first, before_first, position_or_len}
use Rattle.hex.specs.Hex.{decode_sized, encode_lower}
use Rattle.hex.specs.declared.error.FromHexError.{FromHexError}
use Rattle.sha2.specs.Sha256.{sha256}
use Rattle.um_model.specs.Tree.{Entry, File as file_entry, Link as link_entry, Tree}
use Rattle.um_sync.specs.declared.mark.Mark.{Mark}
use Rattle.um_sync.specs.declared.mark.Mark.TheVariants.{File, Link, Asked}
use Rattle.um_sync.specs.declared.plan.Action.{Action}
use Rattle.um_sync.specs.declared.plan.Action.TheVariants.{Put, Replace, Remove}

-- ---- the record

-- the mark of an entry: the SHA-256 of the file's text, or of the link's target
abbrev pub mark_of : Entry → Mark
mark_of (file_entry text) = File (sha256 text)
mark_of (link_entry target) = Link (sha256 target)

-- the line of a path
abbrev pub mark_line : List ℕ → Mark → List ℕ
mark_line path (File sum) = codes "file " ++ (encode_lower sum ++ (codes " " ++ (path ++ codes "\n")))
mark_line path (Link sum) = codes "link " ++ (encode_lower sum ++ (codes " " ++ (path ++ codes "\n")))
mark_line path Asked = codes "asked " ++ (path ++ codes "\n")

-- the text that records the entries put at these paths, and whether a reload is owed since
abbrev pub kept_text : List (List ℕ × Mark) → Bool → List ℕ
kept_text marks owes = flat_map (λ e. mark_line e.0 e.1) marks ++ (if owes then codes "reload\n" else [])

-- ---- its reading

-- the meaning of a line: the last entry put at a path, or that a reload is owed
pub data Said : Type 0 where
  Marked : List ℕ → Mark → Said
  Reload : Said

abbrev pub is_space : ℕ → Bool
is_space b = b == 32

-- the text before the first space and the text after it, if there is a space
abbrev pub around_space : List ℕ → Option (List ℕ × List ℕ)
around_space text =
    if nat_lt (position_or_len is_space text) (length text) then Some (before_first is_space text, after_first is_space text) else None

-- the mark of this kind with a sum
abbrev pub mark_by : List ℕ → List ℕ → Option Mark
mark_by kind sum = if bytes_eq kind (codes "file") then Some (File sum) else (if bytes_eq kind (codes "link") then Some (Link sum) else None)

-- a sum in hexadecimal digits, and a path
abbrev pub with_sum : List ℕ → List ℕ → Result (List ℕ) FromHexError → Option Said
with_sum kind path (Ok sum) = option_map (λ mark. Marked path mark) (mark_by kind sum)
with_sum kind path (Err e) = None

abbrev pub summed : List ℕ → Option (List ℕ × List ℕ) → Option Said
summed kind (Some (sum, path)) = with_sum kind path (decode_sized sum 32)
summed kind None = None

-- the meaning of the text after the kind
abbrev pub marked : List ℕ → List ℕ → Option Said
marked kind rest = if bytes_eq kind (codes "asked") then Some (Marked rest Asked) else summed kind (around_space rest)

abbrev pub marked_by : Option (List ℕ × List ℕ) → Option Said
marked_by (Some (kind, rest)) = marked kind rest
marked_by None = None

-- the meaning of a line, without its line feed; none if it is no such line
abbrev pub says : List ℕ → Option Said
says line = if bytes_eq line (codes "reload") then Some Reload else marked_by (around_space line)

-- a line has no meaning
abbrev pub says_nothing : List ℕ → Bool
says_nothing line = is_none (says line)

-- the mark of a path so far, and with one more line
abbrev pub mark_after : List ℕ → Option Mark → Said → Option Mark
mark_after path last (Marked other mark) = if bytes_eq other path then Some mark else last
mark_after path last Reload = last

-- the mark of a path is that of the last line that has the path
abbrev pub last_mark : List ℕ → List Said → Option Mark
last_mark path said = fold (mark_after path) None said

-- whether a reload is owed so far, and with one more line
abbrev pub owed_after : Bool → Said → Bool
owed_after owes Reload = true
owed_after owes (Marked path mark) = owes

-- a reload is owed if a line says so
abbrev pub is_owed : List Said → Bool
is_owed said = fold owed_after false said

-- ---- the steps

-- the entry that was put is the one in the folder
abbrev pub same : Mark → Mark → Bool
same (File a) (File b) = bytes_eq a b
same (Link a) (Link b) = bytes_eq a b
same before now = false

-- a file is put over a file; anything else is put after the old entry is removed
abbrev pub in_place_of : Mark → Mark → Action
in_place_of (File a) (File b) = Put
in_place_of before now = Replace

-- the action for this mark in the folder and that mark of the record; if they are the same it is put only with `all`
abbrev pub action_for : (all : Bool) → Option Mark → Mark → Option Action
action_for all None now = Some Put
action_for all (Some before) now = if same before now then (if all then Some Put else None) else Some (in_place_of before now)

-- the step that puts the entry at a path of the folder
abbrev pub put_at : (all : Bool) → (List ℕ → Option Mark) → List ℕ × Entry → List (List ℕ × Action)
put_at all mark_at (path, entry) = option_to_list (option_map (λ action. (path, action)) (action_for all (mark_at path) (mark_of entry)))

-- all steps that put an entry, if the folder holds this tree
abbrev pub puts : (all : Bool) → (List ℕ → Option Mark) → Tree → List (List ℕ × Action)
puts all mark_at tree = flat_map (put_at all mark_at) (map_of.entries tree)

-- the steps that remove: those paths of the record that the folder doesn't have
abbrev pub removals : Tree → List (List ℕ) → List (List ℕ × Action)
removals tree paths = map (λ path. (path, Remove)) (filter (λ path. is_none (map_of.get tree path)) paths)

-- the line of a step
abbrev pub step_line : List ℕ × Action → List ℕ
step_line (path, Remove) = codes "remove " ++ (path ++ codes "\n")
step_line (path, Put) = codes "put " ++ (path ++ codes "\n")
step_line (path, Replace) = codes "put " ++ (path ++ codes "\n")
