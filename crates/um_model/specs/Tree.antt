-- The manager's own tree: a finite map from served paths to files and links.
-- Follows systemd.unit(5), "Unit File Load Path".
-- Resolution, drop-ins, dependencies by links, enabling and the state depend on this file.
use Rattle.std.specs.Prelude.{◌≡◌, ℕ, ◌-◌, ◌≤◌, nat_le, nat_lt, nat_eq, Bool, true, false, not, ◌&&◌, ◌||◌, ◌==◌, List, [], ◌++◌}
use Rattle.std.specs.Prelude.{length, take, drop, Option, Some, None, is_none, is_some, option_map, Result, if◌then◌else◌, codes}
use Rattle.std.specs.Option.{option_or, option_map_or}
use Rattle.std.specs.List.{list_all, starts_with, ends_with, position_or_len, before_first, after_first, after_last, list_any}
use Rattle.std.specs.Str.{bytes_eq}
use Rattle.std.specs.Ordering.{nat_cmp}
use Rattle.std.specs.Cmp.Lexicographic.{slice_cmp}
use Rattle.std.specs.FinMap as map
use Rattle.um_model.specs.Ascii.{is_digit, is_letter}
use Rattle.um_model.specs.Names.{is_unit_name, is_template}
use Rattle.um_model.specs.Refusals.{Refused, unless_refused, bad_path, exists_at, too_large}
use Rattle.um_model.specs.declared.refusals.Limit.TheVariants.{Text, Entries}
use Rattle.um_model.specs.declared.tree.Layer.{Layer}
use Rattle.um_model.specs.declared.tree.Layer.TheVariants.{Etc, Run, Lib}
use Rattle.um_model.specs.Bytes.{◌>>=◌}

-- ---- paths, by their parts

-- the text at the front of a path
abbrev pub layer_text : Layer → List ℕ
layer_text Etc = codes "etc/"
layer_text Run = codes "run/"
layer_text Lib = codes "lib/"

-- the place that a path names beside its unit: the unit's own entry, a drop-in by its name before `.conf`, or the unit that is wanted or required
pub data Place : Type 0 where
  Unit : Place
  DropIn : List ℕ → Place
  Wants : List ℕ → Place
  Requires : List ℕ → Place

-- the text after the unit's name
abbrev pub place_text : Place → List ℕ
place_text Unit = []
place_text (DropIn name) = codes ".d/" ++ (name ++ codes ".conf")
place_text (Wants unit) = codes ".wants/" ++ unit
place_text (Requires unit) = codes ".requires/" ++ unit

-- the parts of a path
pub record PathParts : Type 0 where
  pub layer : Layer
  pub unit : List ℕ
  pub place : Place

-- the parts one after the other
abbrev pub path_text : PathParts → List ℕ
path_text p = layer_text p.layer ++ (p.unit ++ place_text p.place)

-- ASCII letters, digits and `: - _ .`
abbrev pub is_drop_in_byte : ℕ → Bool
is_drop_in_byte b = is_letter b || is_digit b || b == 58 || b == 45 || b == 95 || b == 46

-- the longest name of a drop-in, in bytes, without its `.conf`
abbrev pub drop_in_limit : ℕ
drop_in_limit = 200

-- the name of a drop-in before `.conf`: it isn't empty, isn't too long, and has only such bytes
abbrev pub is_drop_in_name : List ℕ → Bool
is_drop_in_name name = nat_le 1 (length name) && nat_le (length name) drop_in_limit && list_all is_drop_in_byte name

-- a unit name, and no template
abbrev pub is_plain_name : List ℕ → Bool
is_plain_name text = is_unit_name text && not (is_template text)

-- the parts of a path fit together; in a directory of links neither name is a template
abbrev pub is_fit_place : List ℕ → Place → Bool
is_fit_place unit Unit = is_unit_name unit
is_fit_place unit (DropIn name) = is_unit_name unit && is_drop_in_name name
is_fit_place unit (Wants other) = is_plain_name unit && is_plain_name other
is_fit_place unit (Requires other) = is_plain_name unit && is_plain_name other

-- the text is the path of these parts
pub record IsPathOf (text : List ℕ) (p : PathParts) : Type 0 where
  pub fit : is_fit_place p.unit p.place ≡ true
  pub spelled : text ≡ path_text p

-- ---- the parts as a function, for definitions that branch on them; proofs/TreeLaws proves that it returns the parts above

-- a `/`
abbrev pub is_slash : ℕ → Bool
is_slash b = b == 47

-- the rest of a text after this front, if it begins so
abbrev pub behind : List ℕ → List ℕ → Option (List ℕ)
behind front text = if starts_with nat_eq text front then Some (drop (length front) text) else None

-- the part of a text before this end, if it ends so
abbrev pub before : List ℕ → List ℕ → Option (List ℕ)
before end text = if ends_with nat_eq text end then Some (take (length text - length end) text) else None

-- the parts of a text before and after its first `/`, if there is one
abbrev pub around_slash : List ℕ → Option (List ℕ × List ℕ)
around_slash text =
    if nat_lt (position_or_len is_slash text) (length text) then Some (before_first is_slash text, after_first is_slash text) else None

-- the layer and the rest, if the path begins with the layer's text
abbrev pub in_layer : List ℕ → Layer → Option (Layer × List ℕ)
in_layer path layer = option_map (λ rest. (layer, rest)) (behind (layer_text layer) path)

abbrev pub layer_and_rest : List ℕ → Option (Layer × List ℕ)
layer_and_rest path = option_or (in_layer path Etc) (option_or (in_layer path Run) (in_layer path Lib))

-- a file in a directory of a unit: a drop-in, or the unit that is wanted or required
abbrev pub place_in : List ℕ → List ℕ → Option (List ℕ × Place)
place_in directory file =
    option_map_or (λ unit. option_map (λ name. (unit, DropIn name)) (before (codes ".conf") file)) (before (codes ".d") directory)
    (option_or (option_map (λ unit. (unit, Wants file)) (before (codes ".wants") directory))
    (option_map (λ unit. (unit, Requires file)) (before (codes ".requires") directory)))

-- the unit and the place: by the whole path after the layer, or by a file in a directory
abbrev pub unit_and_place : List ℕ → Option (List ℕ × Place)
unit_and_place rest = option_map_or (λ parts. place_in parts.0 parts.1) (around_slash rest) (Some (rest, Unit))

-- the parts of a served path: the layer, and then the unit and the place
unfoldable pub path_parts : List ℕ → Option PathParts
path_parts path =
    layer_and_rest path >>= λ l. unit_and_place l.1 >>= λ u.
    let parts : PathParts = record { layer = l.0; unit = u.0; place = u.1 } in if is_fit_place u.0 u.1 then Some parts else None

-- ---- the tree

-- an entry of a tree: a file with its text, or a link with its target
pub data Entry : Type 0 where
  File : List ℕ → Entry
  Link : List ℕ → Entry

-- a finite map, by the bytes of the paths in ascending order
abbrev pub Tree : Type 0
Tree = map.FinMap (slice_cmp nat_cmp) Entry

-- the longest text of a file, in bytes
abbrev pub text_limit : ℕ
text_limit = 65536

-- the most entries that a tree may have
abbrev pub entry_limit : ℕ
entry_limit = 4096

-- the longest target of a link, in bytes
abbrev pub target_limit : ℕ
target_limit = 512

-- the path is served
abbrev pub is_served : List ℕ → Bool
is_served path = is_some (path_parts path)

-- another unit name than that of the unit
abbrev pub is_other_name : List ℕ → List ℕ → Bool
is_other_name unit text = is_unit_name text && not (bytes_eq text unit)

-- a unit is masked by a link to `/dev/null`, or is another name of the unit that its link's last part names; a link that wants or
-- requires may lead anywhere, and a drop-in is no link
abbrev pub may_lead_to : List ℕ → Place → List ℕ → Bool
may_lead_to unit Unit target = bytes_eq target (codes "/dev/null") || is_other_name unit (after_last is_slash target)
may_lead_to unit (DropIn name) target = false
may_lead_to unit place target = true

-- a link to the target may stand at a path of these parts
abbrev pub is_fit_target : Option PathParts → List ℕ → Bool
is_fit_target None target = false
is_fit_target (Some p) target = nat_le 1 (length target) && nat_le (length target) target_limit && may_lead_to p.unit p.place target

-- the entry may stand at the path: at a served one a file with no more text than the limit, or a link to a fit target
abbrev pub is_fit_entry : List ℕ → Entry → Bool
is_fit_entry path (File text) = is_served path && nat_le (length text) text_limit
is_fit_entry path (Link target) = is_fit_target (path_parts path) target

-- each entry may stand at its path, and there are no more than the limit
pub record IsTree (tree : Tree) : Type 0 where
  pub fit : (path : List ℕ) → option_map_or (is_fit_entry path) (map.get tree path) true ≡ true
  pub few : map.len tree ≤ entry_limit

-- a link stands there
abbrev pub is_link : Option Entry → Bool
is_link (Some (Link target)) = true
is_link other = false

-- something else than the link to the target stands there
abbrev pub is_other_than_link : Option Entry → List ℕ → Bool
is_other_than_link None target = false
is_other_than_link (Some (File text)) target = true
is_other_than_link (Some (Link old)) target = not (bytes_eq old target)

-- a new entry has no room
abbrev pub is_full_for : Tree → List ℕ → Bool
is_full_for tree path = is_none (map.get tree path) && nat_le entry_limit (map.len tree)

-- the first cause why no file with the text may be put at the path
abbrev pub put_cause : Tree → List ℕ → List ℕ → Option Refused
put_cause tree path text =
    if not (is_served path) then Some (bad_path path)
    else (if is_link (map.get tree path) then Some (exists_at path)
    else (if nat_lt text_limit (length text) then Some (too_large Text)
    else (if is_full_for tree path then Some (too_large Entries) else None)))

-- the tree with the file put at the path, in place of a file that stands there
unfoldable pub put_file : Tree → List ℕ → List ℕ → Result Tree Refused
put_file tree path text = unless_refused (put_cause tree path text) (map.insert tree path (File text))

-- the first cause why no link to the target may be put at the path
abbrev pub link_cause : Tree → List ℕ → List ℕ → Option Refused
link_cause tree path target =
    if not (is_fit_target (path_parts path) target) then Some (bad_path path)
    else (if is_other_than_link (map.get tree path) target then Some (exists_at path)
    else (if is_full_for tree path then Some (too_large Entries) else None))

-- the tree with the link put at the path, at which nothing stands or the same link
unfoldable pub put_link : Tree → List ℕ → List ℕ → Result Tree Refused
put_link tree path target = unless_refused (link_cause tree path target) (map.insert tree path (Link target))

-- the cause why nothing may be removed at the path: nothing stands there
abbrev pub remove_cause : Tree → List ℕ → Option Refused
remove_cause tree path = if is_none (map.get tree path) then Some (bad_path path) else None

-- the tree without the entry at the path
unfoldable pub remove_at : Tree → List ℕ → Result Tree Refused
remove_at tree path = unless_refused (remove_cause tree path) (map.remove tree path)

-- an entry under `run/`, which doesn't outlive a boot
abbrev pub is_volatile : List ℕ → Bool
is_volatile path = starts_with nat_eq path (layer_text Run)

-- the tree as it comes out of a boot
unfoldable pub without_run : Tree → Tree
without_run tree = map.retain_keys tree (λ path. not (is_volatile path))

-- an entry stands under `run/`
abbrev pub has_run : Tree → Bool
has_run tree = list_any (λ e. is_volatile e.0) (map.entries tree)
