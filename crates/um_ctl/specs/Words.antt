-- The request that the words after `umd ctl` stand for: arguments are the fields of the verb's row in their order.
-- No manual page has this: the verbs are those of systemctl(1), the rest is the project's own (docs/FORMATS.md, "The program").
-- The client stands on this file.
use Rattle.std.specs.Prelude.{◌≡◌, ℕ, List, ◌∷◌, ◌++◌, Bool, true, ◌&&◌, not, nat_le, Option, Some, None, is_some, option_and_then, filter, length, codes, if◌then◌else◌}
use Rattle.std.specs.Str.{bytes_eq}
use Rattle.serde_json.specs.Data.{Data, Members, string, object, no_members, put}
use Rattle.um_model.specs.Requests.{Row, row_of, verb_in, is_among, job_mode_of, request_of, request_of_data}
use Rattle.um_model.specs.declared.requests.Mode.TheVariants.{Service}
use Rattle.um_model.specs.declared.requests.Verb.{Verb}

-- an argument gives the field: neither the text, from standard input, nor the mode, which has a word of its own
abbrev pub is_argument : List ℕ → Bool
is_argument name = not (bytes_eq name (codes "text")) && not (bytes_eq name (codes "mode"))

-- the fields that are arguments, in their order
abbrev pub argument_names : Row → List (List ℕ)
argument_names r = filter is_argument r.required ++ filter is_argument r.optional

-- the text of a file comes on standard input
abbrev pub takes_text : Row → Bool
takes_text r = is_among (codes "text") r.required

abbrev pub takes_mode : Row → Bool
takes_mode r = is_among (codes "mode") r.optional

-- there are as many arguments as the row has fields for them
abbrev pub fits_count : Row → ℕ → Bool
fits_count r n = nat_le (length (filter is_argument r.required)) n && nat_le n (length (argument_names r))

-- a mode is given only to a verb that has one, by one of its words
abbrev pub fits_mode : Row → Option (List ℕ) → Bool
fits_mode r None = true
fits_mode r (Some mode) = takes_mode r && is_some (job_mode_of mode)

abbrev pub fitting : Verb → ℕ → Option (List ℕ) → Option Verb
fitting v n mode = if fits_count (row_of v) n && fits_mode (row_of v) mode then Some v else None

-- the verb of the words, with this number of arguments and this mode; none if the words are wrong
abbrev pub verb_of : List ℕ → ℕ → Option (List ℕ) → Option Verb
verb_of verb n mode = option_and_then (λ v. fitting v n mode) (verb_in Service verb)

-- a field with its text is added to the members
abbrev pub with_field : List ℕ → List ℕ → Members → Members
with_field name text ms = put name (string text) ms

-- the arguments are added, each under its name
abbrev pub with_arguments : (names arguments : List (List ℕ)) → Members → Members
with_arguments (name ∷ names) (argument ∷ arguments) ms = with_arguments names arguments (with_field name argument ms)
with_arguments names arguments ms = ms

-- an optional field is added
abbrev pub with_told : List ℕ → Option (List ℕ) → Members → Members
with_told name None ms = ms
with_told name (Some text) ms = with_field name text ms

-- the object of a request: the verb, its arguments, and the text and the mode if they are given
abbrev pub request_data : Verb → (arguments : List (List ℕ)) → (text mode : Option (List ℕ)) → Data
request_data v arguments text mode =
    object (with_told (codes "mode") mode (with_told (codes "text") text
    (with_arguments (argument_names (row_of v)) arguments (with_field (codes "verb") (row_of v).text no_members))))

-- a manager reads the bytes as the request of the object
abbrev pub IsReadAs : List ℕ → Data → Type 0
IsReadAs bytes d = request_of Service bytes ≡ request_of_data Service d
