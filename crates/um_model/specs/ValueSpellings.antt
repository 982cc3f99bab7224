-- The meanings of the texts of values, as relations that give one meaning at most.
-- Follows systemd.syntax(7), systemd.time(7) and systemd.service(5), "SuccessExitStatus=".
-- The laws of um_value, and its contracts on time spans, depend on this file.
use Rattle.std.specs.Prelude.{nat_le, ℕ, Option, Some, None, Bool, List, is_some, ◌≡◌, true, ◌≤◌, sum, false, codes, ◌<◌, ◌*◌, length, if◌then◌else◌}
use Rattle.um_model.specs.Moments.{span_limit}
use Rattle.um_model.specs.Values.{exit_of, is_end, words_for, decimal, is_decimal, time_front}
use Rattle.std.specs.List.{list_any, list_all}
use Rattle.um_model.specs.declared.service.End.{End}
use Rattle.um_model.specs.FileForms.{words_in, number_limit, unit_size}
use Rattle.std.specs.Str.{str_eq_ignore_ascii_case}
use Rattle.um_model.specs.Pieces.{StandsForText}
use Rattle.um_model.specs.Text.{is_blank}

-- the span of n microseconds, if they aren't too many
abbrev pub span_within : ℕ → Option (Option ℕ)
span_within n = if nat_le n span_limit then Some (Some n) else None

-- the word names an end
abbrev pub is_exit : List ℕ → Bool
is_exit word = is_some (exit_of word)

-- a word of the text names this end
abbrev pub tells_end : List ℕ → End → Bool
tells_end text end = list_any (λ word. is_end end (exit_of word)) (words_in text)

-- the text is one of the words for this truth value, in any ASCII case
abbrev pub IsBoolean : List ℕ → Bool → Type 0
IsBoolean text b = list_any (str_eq_ignore_ascii_case text) (words_for b) ≡ true

-- the text spells this number, which isn't too great
pub record IsNumber (text : List ℕ) (n : ℕ) : Type 0 where
  pub digits : is_decimal text ≡ true
  pub value : n ≡ decimal text
  pub limit : n ≤ number_limit

-- the text is a sequence of parts, with any whitespace between them; together they are n microseconds
abbrev pub AddUpTo : List ℕ → ℕ → Type 0
AddUpTo text n = (times : List ℕ) × StandsForText time_front text times × (sum times ≡ n)

-- the text is `infinity`, or it has one part at least and its parts add up to this
abbrev pub IsSpan : List ℕ → Option ℕ → Type 0
IsSpan text None = text ≡ codes "infinity"
IsSpan text (Some n) = (is_blank text ≡ false) × AddUpTo text n × (n ≤ span_limit)

-- each word of the text names an end, and the set holds the ends that they name and no other
pub record IsExitSet (text : List ℕ) (holds : End → Bool) : Type 0 where
  pub readable : list_all is_exit (words_in text) ≡ true
  pub exact : (end : End) → holds end ≡ tells_end text end

-- A number and a unit spell n microseconds: the number times the size of the unit.
pub record IsTime (digits unit : List ℕ) (n : ℕ) : Type 0 where
  pub some : 0 < length digits
  pub size : ℕ
  pub unit_is : unit_size unit ≡ Some size
  pub value : n ≡ decimal digits * size
