-- The values of variables, stored under their names.
-- No manual page has this: it is how values are found without a search of the environment for each.
-- Substitution, and the count of the room that it takes, stand on this file.
use Rattle.std.specs.Prelude.{◌≡◌, ℕ, List, map, option_map, string_bytes, find, reverse, bytes_eq}
use Rattle.std.specs.BTreeMap.{get_by}
use Rattle.std.specs.Cmp.Lexicographic.{slice_cmp}
use Rattle.std.specs.Ordering.{nat_cmp}
use Rattle.um_model.specs.Substitution.{Variable}
use Rattle.um_words.specs.Substituted.{value_words}
use Rattle.um_words.specs.declared.values.Value.{Value}
use Rattle.um_words.specs.declared.values.Values.{Values}

-- a value and its words
pub record Split : Type 0 where
  pub text : List ℕ
  pub words : List (List ℕ)

abbrev pub split_of : List ℕ → Split
split_of value = record { text = value; words = value_words value }

-- a value and its words, as the code holds them
abbrev pub split_seen : Value → Split
split_seen v = record { text = v.text.now; words = map string_bytes v.words.items }

-- each name has the value of the last variable of that name, with its words
abbrev pub Holds : List Variable → Values → Type 0
Holds environment values =
    (name : List ℕ) → option_map split_seen (get_by (λ k. slice_cmp nat_cmp name k.now) values.by_name)
    ≡ option_map (λ v. split_of v.value) (find (λ v. bytes_eq v.name name) (reverse environment))
