-- Values under the names of their variables.
use Rattle.std.proofs.Common.{◌≡◌, ◌∙◌, ℕ, Bool, true, false, cond, List, [], ◌∷◌, ◌++◌, reverse, Option, Some, None, option_map, string_bytes, refl, sym, ap}
use Rattle.std.specs.Prelude.{find, bytes_eq}
use Rattle.std.specs.BTreeMap as tree
use Rattle.std.specs.BTreeMap.{BTreeMap, get_by}
use Rattle.std.specs.Cmp.Lexicographic.{slice_cmp}
use Rattle.std.specs.Option.{option_map_or}
use Rattle.std.specs.Ordering.{nat_cmp}
use Rattle.std.proofs.lemmas.List.{map-append, reverse-append}
use Rattle.std.proofs.lemmas.Map.Text.{btree_map_updates_str}
use Rattle.std.proofs.lemmas.Option.{none-some}
use denote.Ref.{Bor}
use Rattle.um_model.specs.Substitution.{Variable, value_of}
use Rattle.um_words.specs.Environment.{variable_of, variables_of}
use Rattle.um_words.specs.Substituted.{value_words}
use Rattle.um_words.specs.Values.{Split, split_of, split_seen}
use Rattle.um_words.specs.declared.values.Value.{Value}
use Rattle.um_words.specs.declared.variables.Variable as code
use Rattle.um_words.proofs.CountLemmas.{no_words_in}

-- the value under a name
abbrev pub seen_at : BTreeMap (Bor (List ℕ)) Value → List ℕ → Option Split
seen_at m name = option_map split_seen (get_by (λ k. slice_cmp nat_cmp name k.now) m)

-- the value that the last variable of a name gives it
abbrev pub given_at : List Variable → List ℕ → Option Split
given_at environment name = option_map (λ v. split_of v.value) (find (λ v. bytes_eq v.name name) (reverse environment))

seen_if : (b : Bool) (v : Value) (o : Option Value) → option_map split_seen (cond b (Some v) o) ≡ cond b (Some (split_seen v)) (option_map split_seen o)
seen_if true v o = refl
seen_if false v o = refl

given_if : (b : Bool) (v : Variable) (o : Option Variable)
    → option_map (λ v. split_of v.value) (cond b (Some v) o) ≡ cond b (Some (split_of v.value)) (option_map (λ v. split_of v.value) o)
given_if true v o = refl
given_if false v o = refl

given_last : (environment : List Variable) (v : Variable) (name : List ℕ)
    → given_at (environment ++ v ∷ []) name ≡ cond (bytes_eq v.name name) (Some (split_of v.value)) (given_at environment name)
given_last environment v name =
    ap (λ vs. option_map (λ v. split_of v.value) (find (λ v. bytes_eq v.name name) vs)) (reverse-append environment (v ∷ []))
    ∙ given_if (bytes_eq v.name name) v (find (λ v. bytes_eq v.name name) (reverse environment))

-- after one more variable is stored under its name
pub held_more : (m n : BTreeMap (Bor (List ℕ)) Value) (value : Value) (key text : List ℕ) (before after : List code.Variable) (v : code.Variable)
    → tree.UpdatesBy (λ x y. slice_cmp nat_cmp x.now y.now) (λ k. slice_cmp nat_cmp key k.now) m n (Some value) → key ≡ string_bytes v.name
    → split_seen value ≡ split_of text → text ≡ string_bytes v.value → after ≡ before ++ v ∷ []
    → ((name : List ℕ) → seen_at m name ≡ given_at (variables_of before) name) → (name : List ℕ) → seen_at n name ≡ given_at (variables_of after) name
held_more m n value key text before after v updates named is valued more held name =
    let at = bytes_eq (string_bytes v.name) name in
    ap (option_map split_seen) (btree_map_updates_str key m n (Some value) updates name)
    ∙ ap (λ k. option_map split_seen (cond (bytes_eq k name) (Some value) (get_by (λ q. slice_cmp nat_cmp name q.now) m))) named
    ∙ seen_if at value (get_by (λ k. slice_cmp nat_cmp name k.now) m)
    ∙ ap (λ s. cond at (Some s) (seen_at m name)) (is ∙ ap split_of valued)
    ∙ ap (cond at (Some (split_of (string_bytes v.value)))) (held name)
    ∙ sym (given_last (variables_of before) (variable_of v) name)
    ∙ ap (λ vs. given_at vs name) (sym (map-append variable_of before (v ∷ [])) ∙ ap variables_of (sym more))

no_value_given : (found : Option Variable) → None ≡ option_map (λ v. split_of v.value) found → option_map_or (λ v. v.value) found [] ≡ []
no_value_given None e = refl
no_value_given (Some v) e = absurd (none-some (split_of v.value) e)

-- if no variable is found, the value is empty and has no words
pub no_value : (environment : List Variable) (name : List ℕ) → None ≡ given_at environment name → value_of environment name ≡ []
no_value environment name e = no_value_given (find (λ v. bytes_eq v.name name) (reverse environment)) e

pub no_words : (environment : List Variable) (name : List ℕ) → None ≡ given_at environment name → [] ≡ value_words (value_of environment name)
no_words environment name e = sym (ap value_words (no_value environment name e) ∙ no_words_in)
