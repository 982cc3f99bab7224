-- Unit names, by their parts; the instance and the template of a name; how other text is escaped in a name.
-- Follows systemd.unit(5), "Description" and "String Escaping for Inclusion in Unit Names".
-- The tree, unit files, requests and all that names a unit depend on this file.
use Rattle.std.specs.Prelude.{◌≡◌, ℕ, ◌+◌, ◌-◌, ◌*◌, ◌/◌, ◌%◌, ◌≤◌, ◌<◌, nat_le, nat_lt, nat_eq, Bool, true, false, not, ◌&&◌, ◌||◌, ◌==◌, unwrap_or}
use Rattle.std.specs.Prelude.{List, [], ◌∷◌, ◌++◌, length, take, slice_index, Option, Some, None, is_some, option_map, if◌then◌else◌, codes, find}
use Rattle.std.specs.Option.{option_map_or}
use Rattle.std.specs.List.{list_all, ends_with, flat_map}
use Rattle.std.specs.Char.{digit_char, digit_value}
use Rattle.um_model.specs.Ascii.{is_digit, is_letter}
use Rattle.um_model.specs.Pieces.{Front, Unreadable, Gives}
use Rattle.um_model.specs.declared.names.Suffix.{Suffix}
use Rattle.um_model.specs.declared.names.Suffix.TheVariants.{Service, Socket, Device, Mount, Automount, Swap, Target, Path, Timer, Slice, Scope}

-- the text of a suffix
abbrev pub suffix_text : Suffix → List ℕ
suffix_text Service = codes ".service"
suffix_text Socket = codes ".socket"
suffix_text Device = codes ".device"
suffix_text Mount = codes ".mount"
suffix_text Automount = codes ".automount"
suffix_text Swap = codes ".swap"
suffix_text Target = codes ".target"
suffix_text Path = codes ".path"
suffix_text Timer = codes ".timer"
suffix_text Slice = codes ".slice"
suffix_text Scope = codes ".scope"

-- ASCII letters, digits and `: - _ . \`
abbrev pub is_prefix_byte : ℕ → Bool
is_prefix_byte b = is_letter b || is_digit b || b == 58 || b == 45 || b == 95 || b == 46 || b == 92

-- the same, and `@`
abbrev pub is_instance_byte : ℕ → Bool
is_instance_byte b = is_prefix_byte b || b == 64

-- the parts of a name: the text before the first `@`, the text after it, and the suffix
pub record NameParts : Type 0 where
  pub prefix : List ℕ
  pub instance : Option (List ℕ)
  pub suffix : Suffix

-- the parts one after the other, with an `@` before an instance
abbrev pub name_text : NameParts → List ℕ
name_text p = p.prefix ++ (option_map_or (λ instance. 64 ∷ instance) p.instance [] ++ suffix_text p.suffix)

-- the prefix isn't empty, and each part has its bytes alone; an instance may be empty
pub record AreFit (p : NameParts) : Type 0 where
  pub some : 0 < length p.prefix
  pub prefix_bytes : list_all is_prefix_byte p.prefix ≡ true
  pub instance_bytes : option_map_or (list_all is_instance_byte) p.instance true ≡ true

-- the most bytes of a unit name
abbrev pub name_limit : ℕ
name_limit = 255

-- the text is the name of these parts
pub record IsNameOf (text : List ℕ) (p : NameParts) : Type 0 where
  pub fit : AreFit p
  pub spelled : text ≡ name_text p
  pub short : length text ≤ name_limit

-- The same as tests, for definitions that branch on them; proofs/NamesLaws proves that they return the parts above.

-- all suffixes; none ends in another one
abbrev pub suffixes : List Suffix
suffixes = Service ∷ Socket ∷ Device ∷ Mount ∷ Automount ∷ Swap ∷ Target ∷ Path ∷ Timer ∷ Slice ∷ Scope ∷ []

-- the suffix that the text ends in
unfoldable pub suffix_of : List ℕ → Option Suffix
suffix_of text = find (λ s. ends_with nat_eq text (suffix_text s)) suffixes

-- the text before the suffix, or all
unfoldable pub stem_of : List ℕ → List ℕ
stem_of text = option_map_or (λ s. take (length text - length (suffix_text s)) text) (suffix_of text) text

-- the text before the first `@`, or all
abbrev pub before_at : List ℕ → List ℕ
before_at [] = []
before_at (b ∷ bs) = if b == 64 then [] else b ∷ before_at bs

-- the text after the first `@`, if there is one
abbrev pub after_at : List ℕ → Option (List ℕ)
after_at [] = None
after_at (b ∷ bs) = if b == 64 then Some bs else after_at bs

-- the prefix of a unit name
unfoldable pub prefix_of : List ℕ → List ℕ
prefix_of text = before_at (stem_of text)

-- the instance of a unit name, which may be empty
unfoldable pub instance_of : List ℕ → Option (List ℕ)
instance_of text = after_at (stem_of text)

-- the text isn't empty, doesn't begin with an `@`, and has its bytes alone
abbrev pub is_stem : List ℕ → Bool
is_stem text = nat_lt 0 (length text) && not (slice_index text 0 == 64) && list_all is_instance_byte text

-- the text is a unit name
unfoldable pub is_unit_name : List ℕ → Bool
is_unit_name text = nat_le (length text) name_limit && is_some (suffix_of text) && is_stem (stem_of text)

-- the name is a template: it has an `@` and an empty instance
abbrev pub is_template : List ℕ → Bool
is_template name = option_map_or (λ instance. length instance == 0) (instance_of name) false

-- the text of a suffix, if there is one
abbrev pub suffix_text_of : Option Suffix → List ℕ
suffix_text_of suffix = option_map_or suffix_text suffix []

-- the name with this instance, in place of its own if it has one
abbrev pub with_instance : List ℕ → List ℕ → List ℕ
with_instance name instance = prefix_of name ++ (64 ∷ instance ++ suffix_text_of (suffix_of name))

-- the text, if it is a unit name
abbrev pub named : List ℕ → Option (List ℕ)
named text = if is_unit_name text then Some text else None

-- the template of a name with an instance, empty or not
abbrev pub template_of : List ℕ → Option (List ℕ)
template_of name = option_map (λ instance. with_instance name []) (instance_of name)

-- Other text in a name.

-- `\x` and two lower-case hexadecimal digits
abbrev pub byte_escape : ℕ → List ℕ
byte_escape b = 92 ∷ 120 ∷ digit_char (b / 16) ∷ digit_char (b % 16) ∷ []

-- ASCII letters, digits and `: _ .` stay as they are
abbrev pub is_plain_byte : ℕ → Bool
is_plain_byte b = is_letter b || is_digit b || b == 58 || b == 95 || b == 46

-- `/` becomes `-`
abbrev pub escape_of : ℕ → List ℕ
escape_of b = if b == 47 then 45 ∷ [] else (if is_plain_byte b then b ∷ [] else byte_escape b)

-- the bytes as a text that can stand in a name; a dot at the front doesn't stay
abbrev pub escaped : List ℕ → List ℕ
escaped [] = []
escaped (b ∷ bs) = (if b == 46 then byte_escape b else escape_of b) ++ flat_map escape_of bs

-- 0 to 9, a to f
abbrev pub is_hex_digit : ℕ → Bool
is_hex_digit b = is_digit b || (nat_le 97 b && nat_le b 102)

-- after a `\` come an `x` and two hexadecimal digits, which give their byte; anything else is ill escaped
abbrev pub escape_front : List ℕ → Front ℕ
escape_front (x ∷ high ∷ low ∷ rest) =
    if x == 120 && is_hex_digit high && is_hex_digit low
    then Gives ((16 * digit_value high + digit_value low) ∷ []) 4
    else Unreadable
escape_front other = Unreadable

-- `-` becomes `/`, an escape its byte, and any other byte stays
abbrev pub unescape_front : ℕ → List ℕ → Front ℕ
unescape_front b bs = if b == 45 then Gives (47 ∷ []) 1 else (if b == 92 then escape_front bs else Gives (b ∷ []) 1)

-- the unit is a target
abbrev pub is_target_type : Option Suffix → Bool
is_target_type (Some Target) = true
is_target_type other = false

-- the unit of this name is a target
abbrev pub is_target : List ℕ → Bool
is_target unit = is_target_type (suffix_of unit)

-- the instance of a name; empty if it has none
abbrev pub instance_or_empty : List ℕ → List ℕ
instance_or_empty name = unwrap_or (instance_of name) []
