-- Canonical bytes: how each kind of value is spelled, and how a value is read at the front of bytes.
-- No manual page has this: it is the project's own format (docs/FORMATS.md, "Canonical bytes").
-- The bytes of inputs and states, slots and the log depend on this file.
use Rattle.std.specs.Prelude.{◌≡◌, ℕ, zero, suc, ◌<◌, ◌≤◌, ◌^◌, nat_lt, nat_le, Bool, true, false, ◌&&◌, List, [], ◌∷◌, ◌++◌, length, take, drop}
use Rattle.std.specs.Prelude.{slice_index, Option, Some, None, if◌then◌else◌}
use Rattle.std.specs.List.{flat_map, list_all, AllByRecursion, slice_get}
use Rattle.std.specs.Str.{is_utf8}
use Rattle.std.specs.Ordering.{is_lt, nat_cmp}
use Rattle.std.specs.Cmp.Lexicographic.{slice_cmp}
use Rattle.std.specs.FinMap as map
use Rattle.std.specs.Option.{option_map_or}
use Rattle.byteorder.specs.Endian.{big_number, big_bytes}

-- how values are spelled
abbrev pub Spelling : Type 0 → Type 0
Spelling V = V → List ℕ

-- how a value is read from the front of bytes: the value and the bytes after it, if the front spells one
abbrev pub Decoder : Type 0 → Type 0
Decoder V = List ℕ → Option (V × List ℕ)

-- each number is a byte
abbrev pub IsBytes : List ℕ → Type 0
IsBytes bytes = (i : ℕ) → slice_index bytes i < 256

-- the decoder reads only the spellings of values that fit, and it reads each of these back, whatever follows
pub record IsCanonical {V : Type 0} (fits : V → Type 0) (spelling : Spelling V) (decoder : Decoder V) : Type 0 where
  pub takes : (bytes : List ℕ) (v : V) (rest : List ℕ) → IsBytes bytes → decoder bytes ≡ Some (v, rest) → (bytes ≡ spelling v ++ rest) × fits v
  pub again : (v : V) (rest : List ℕ) → fits v → decoder (spelling v ++ rest) ≡ Some (v, rest)

-- the second list begins with the first
pub record IsInFront (front bytes : List ℕ) : Type 0 where
  pub behind : List ℕ
  pub parts : bytes ≡ front ++ behind

-- the value, if nothing is left after it
abbrev pub nothing_left : {V : Type 0} → Option (V × List ℕ) → Option V
nothing_left (Some (v, [])) = Some v
nothing_left other = None

infixl 10 ◌>>=◌
-- the function's result for the value, or nothing if there is no value
abbrev pub ◌>>=◌ : {A B : Type 0} → Option A → (A → Option B) → Option B
(Some x) >>= f = f x
None >>= f = None

-- ---- whole numbers, the highest byte first

-- a number of one byte
abbrev pub byte_at : Decoder ℕ
byte_at [] = None
byte_at (b ∷ rest) = Some (b, rest)

-- a number of the given width in bytes
abbrev pub number_at : ℕ → Decoder ℕ
number_at width bytes = if nat_lt (length bytes) width then None else Some (big_number width bytes, drop width bytes)

-- from the first number to the last
abbrev pub is_between : ℕ → ℕ → ℕ → Bool
is_between first last n = nat_le first n && nat_le n last

-- the same as a statement
abbrev pub FitBetween : ℕ → ℕ → ℕ → Type 0
FitBetween first last n = (first ≤ n) × (n ≤ last)

-- ---- one after the other

-- the first value, then the second
abbrev pub pair_spelling : {A B : Type 0} → Spelling A → Spelling B → Spelling (A × B)
pair_spelling first second p = first p.0 ++ second p.1

-- the first value and the second after it, if both are there
abbrev pub pair_at : {A B : Type 0} → Decoder A → Decoder B → Decoder (A × B)
pair_at first second bytes = first bytes >>= λ a. second a.1 >>= λ b. Some ((a.0, b.0), b.1)

-- a fixed byte, and the value after it
abbrev pub marked_at : {A : Type 0} → ℕ → Decoder A → Decoder A
marked_at mark one [] = None
marked_at mark one (b ∷ rest) = if nat_lt b mark then None else if nat_lt mark b then None else one rest

-- ---- the same values in another form, and those that pass a test

-- a value that is read in one form and returned in another
abbrev pub as_at : {A B : Type 0} → (A → B) → Decoder A → Decoder B
as_at to one bytes = one bytes >>= λ a. Some (to a.0, a.1)

-- a value that is read, if it passes the test
abbrev pub only_at : {A : Type 0} → (A → Bool) → Decoder A → Decoder A
only_at test one bytes = one bytes >>= λ a. if test a.0 then Some a else None

-- a number of eight bytes from the first to the last
abbrev pub between_at : ℕ → ℕ → Decoder ℕ
between_at first last = only_at (is_between first last) (number_at 8)

-- ---- a choice, by its tag

-- a choice without fields
abbrev pub tag_at : {A : Type 0} → (ℕ → Option A) → Decoder A
tag_at of [] = None
tag_at of (tag ∷ rest) = of tag >>= λ a. Some (a, rest)

-- a choice without fields, by its place in a table, from 0
abbrev pub table_at : {A : Type 0} → List A → Decoder A
table_at table = tag_at (slice_get table)

-- its tag alone
abbrev pub tagged : {A : Type 0} → (A → ℕ) → Spelling A
tagged tag a = tag a ∷ []

-- a choice with fields: each tag has its decoder
abbrev pub choice_at : {A : Type 0} → (ℕ → Decoder A) → Decoder A
choice_at arm [] = None
choice_at arm (tag ∷ rest) = arm tag rest

-- the arm of a choice that has no fields
abbrev pub just_at : {A : Type 0} → A → Decoder A
just_at a bytes = Some (a, bytes)

-- the arm of a tag that no choice has
abbrev pub none_at : {A : Type 0} → Decoder A
none_at bytes = None

-- the arm at this place of a table, from 0; past its end there is none
abbrev pub arm_in : {A : Type 0} → List (Decoder A) → ℕ → Decoder A
arm_in [] tag = none_at
arm_in (arm ∷ table) zero = arm
arm_in (arm ∷ table) (suc tag) = arm_in table tag

-- ---- truth: 0 or 1

-- no is 0, yes is 1
abbrev pub truth_tag : Bool → ℕ
truth_tag false = 0
truth_tag true = 1

-- the truth values by their tags
abbrev pub truths : List Bool
truths = false ∷ true ∷ []

-- ---- an option: 0, or 1 and the value

-- 0 if there is no value, else 1 and the value
abbrev pub option_spelling : {A : Type 0} → Spelling A → Spelling (Option A)
option_spelling one o = option_map_or (λ x. 1 ∷ one x) o (0 ∷ [])

-- no value after a 0, one after a 1
abbrev pub option_at : {A : Type 0} → Decoder A → Decoder (Option A)
option_at one = choice_at (arm_in (just_at None ∷ as_at Some one ∷ []))

-- ---- a text: how many bytes it has, and those, in UTF-8

-- a text that has bytes: it is in UTF-8 and shorter than 2^32
abbrev pub FitText : List ℕ → Type 0
FitText text = (length text < 2 ^ 32) × (is_utf8 text ≡ true)

-- its length in four bytes, and the text
abbrev pub text_spelling : Spelling (List ℕ)
text_spelling text = big_bytes 4 (length text) ++ text

-- the first n bytes, if that many are there and they are a text
abbrev pub front_text : ℕ → List ℕ → Option (List ℕ)
front_text n bytes = if nat_lt (length bytes) n then None else if is_utf8 (take n bytes) then Some (take n bytes) else None

-- a length, and a text of that many bytes
abbrev pub text_at : Decoder (List ℕ)
text_at bytes = number_at 4 bytes >>= λ n. front_text n.0 n.1 >>= λ text. Some (text, drop n.0 n.1)

-- ---- a list: how many items it has, and those

-- a list that has bytes: each item has some, and there are fewer than 2^32
abbrev pub FitList : {A : Type 0} → (A → Type 0) → List A → Type 0
FitList fits xs = (length xs < 2 ^ 32) × AllByRecursion fits xs

-- the count in four bytes, and the items one after the other
abbrev pub list_spelling : {A : Type 0} → Spelling A → Spelling (List A)
list_spelling one xs = big_bytes 4 (length xs) ++ flat_map one xs

-- as many items as the count says
abbrev pub many_at : {A : Type 0} → Decoder A → ℕ → Decoder (List A)
many_at one zero bytes = Some ([], bytes)
many_at one (suc n) bytes = one bytes >>= λ a. many_at one n a.1 >>= λ more. Some (a.0 ∷ more.0, more.1)

-- a count, and that many items
abbrev pub list_at : {A : Type 0} → Decoder A → Decoder (List A)
list_at one bytes = number_at 4 bytes >>= λ n. many_at one n.0 n.1

-- ---- a map by texts: the list of its entries, whose keys strictly ascend by bytes

-- values by texts, in the order of the bytes
abbrev pub ByText : Type 0 → Type 0
ByText A = map.FinMap (slice_cmp nat_cmp) A

-- each is below the next
abbrev pub all_ascend : {A : Type 0} → (A → A → Bool) → List A → Bool
all_ascend is_below [] = true
all_ascend is_below (a ∷ others) = option_map_or (is_below a) (slice_get others 0) true && all_ascend is_below others

-- entries ascend by their keys
abbrev pub ascends : {A : Type 0} → List (List ℕ × A) → Bool
ascends entries = all_ascend (λ e next. is_lt (slice_cmp nat_cmp e.0 next.0)) entries

-- each key passes the test
abbrev pub are_keys : {A : Type 0} → (List ℕ → Bool) → List (List ℕ × A) → Bool
are_keys is_key entries = list_all (λ e. is_key e.0) entries

-- a map that has bytes: each key is a text that passes the test, and each value has some
abbrev pub FitMap : {A : Type 0} → (List ℕ → Bool) → (A → Type 0) → ByText A → Type 0
FitMap is_key fits m = FitList (λ e. FitText e.0 × fits e.1) (map.entries m) × (are_keys is_key (map.entries m) ≡ true)

-- the list of the entries
abbrev pub map_spelling : {A : Type 0} → Spelling A → Spelling (ByText A)
map_spelling one m = list_spelling (pair_spelling text_spelling one) (map.entries m)

-- the list of entries whose keys ascend and pass the test
abbrev pub map_at : {A : Type 0} → (List ℕ → Bool) → Decoder A → Decoder (ByText A)
map_at is_key one = as_at map.from_sorted (only_at (are_keys is_key) (only_at ascends (list_at (pair_at text_at one))))
