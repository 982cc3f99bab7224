-- The help of the client: a line for each verb, from the table of requests, and a sentence for each refusal.
-- No manual page has this: the verbs are those of systemctl(1), the rest is the project's own (docs/FORMATS.md, "The program").
-- The help of the client stands on this file.
use Rattle.std.specs.Prelude.{◌≡◌, ℕ, List, [], ◌++◌, Bool, Option, Some, None, codes, decimal, filter, flat_map, if◌then◌else◌, String, string_bytes}
use Rattle.std.specs.declared.alloc.Global.{Global}
use Rattle.um_model.specs.Requests.{Row, row_of, verbs_in}
use Rattle.um_model.specs.declared.requests.Mode.TheVariants.{Service}
use Rattle.um_model.specs.declared.requests.Verb.{Verb}
use Rattle.um_ctl.specs.Told.{line, name_of, spaced}
use Rattle.um_ctl.specs.Words.{is_argument, takes_mode, takes_text}

-- a field between these, as ` <unit>` or ` [unit]`
abbrev pub between : List ℕ → List ℕ → List ℕ → List ℕ
between left right name = left ++ (name ++ right)

-- the fields that are arguments, each between these
abbrev pub arguments_shown : List ℕ → List ℕ → List (List ℕ) → List ℕ
arguments_shown left right names = flat_map (between left right) (filter is_argument names)

-- these words, if this holds
abbrev pub words_where : Bool → List ℕ → List ℕ
words_where holds words = if holds then words else []

-- the usage of a verb: `start [--mode <MODE>] <unit>`, `put-file <path> < FILE`
abbrev pub verb_usage : Row → List ℕ
verb_usage r =
    r.text ++ (words_where (takes_mode r) (codes " [--mode <MODE>]")
    ++ (arguments_shown (codes " <") (codes ">") r.required ++ (arguments_shown (codes " [") (codes "]") r.optional
    ++ words_where (takes_text r) (codes " < FILE"))))

-- its line
abbrev pub verb_line : Verb → List ℕ
verb_line v = codes "  " ++ line (verb_usage (row_of v))

-- the lines of the verbs that are known over a socket
abbrev pub verb_lines : List ℕ
verb_lines = flat_map verb_line (verbs_in Service)

-- the line of the refusal of this number: `E4 NotFound: ` and a sentence
abbrev pub IsMeaning : ℕ → List ℕ → Type 0
IsMeaning n text =
    (name sentence : List ℕ) × (name_of n ≡ Some name)
    × (text ≡ codes "E" ++ (decimal n ++ (spaced name ++ (codes ": " ++ line sentence))))

-- a line for each refusal, and for no other number
abbrev pub MeansRefusal : ℕ → Option (String Global) → Type 0
MeansRefusal n None = name_of n ≡ None
MeansRefusal n (Some text) = IsMeaning n (string_bytes text)
