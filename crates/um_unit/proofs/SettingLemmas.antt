-- The results of the values of settings, one after the other.
use Rattle.std.proofs.Common.{◌≡◌, ◌<◌, ℕ, ◌+◌, ◌||◌, Bor, List, [], ◌∷◌, ◌++◌, filter_map, get_or, length, map, take, Option, Some, None, Ok, Err, refl, sym, ap, ◌∙◌}
use Rattle.std.proofs.lemmas.List.{map-append, take_more}
use Rattle.std.proofs.lemmas.List.Elements.{filter_map-append}
use Rattle.std.proofs.lemmas.List.Folds.{list_any-append}
use Rattle.std.specs.List.{flat_map, cons_option}
use Rattle.std.specs.Option.{ok_or}
use Rattle.std.specs.Result.{result_ok, result_unwrap_or}
use Rattle.um_model.specs.FileForms.{Meaning}
use Rattle.um_model.specs.declared.warnings.WarningKind.TheVariants.{UnreadableValue}
use Rattle.um_unit.specs.Tests.{tells_any}
use Rattle.um_model.specs.Values.{exits_of}
use Rattle.um_model.specs.declared.service.End.{End}

-- an end that values include, or further ones
pub ends_more : (values others : List (List ℕ)) (end : End)
    → tells_any (filter_map exits_of (values ++ others)) end ≡ (tells_any (filter_map exits_of values) end || tells_any (filter_map exits_of others) end)
ends_more values others end = ap (λ sets. tells_any sets end) (filter_map-append exits_of values others) ∙ list_any-append (λ set. set end) (filter_map exits_of values) (filter_map exits_of others)

-- one value more
pub value_more : (values : List (Bor (List ℕ))) (i : ℕ) (d : Bor (List ℕ)) → i < length values
    → map (λ v. v.now) (take (i + 1) values) ≡ map (λ v. v.now) (take i values) ++ (get_or values i d).now ∷ []
value_more values i d within = ap (map (λ v. v.now)) (take_more values i d within) ∙ map-append (λ v. v.now) (take i values) (get_or values i d ∷ [])

-- the result of one value, or the list of the results
one_thing : {A : Type 0} (r : Meaning A) (others : List A) → filter_map result_ok (r ∷ []) ++ others ≡ cons_option (result_ok r) others
one_thing (Ok a) others = refl
one_thing (Err warning) others = refl

same_one : {A : Type 0} (o : Option A) → result_ok (ok_or o UnreadableValue) ≡ o
same_one None = refl
same_one (Some a) = refl

-- values that give one result each
pub ones_said : {A : Type 0} (read : List ℕ → Option A) (values : List (List ℕ))
    → flat_map (λ value. filter_map result_ok (ok_or (read value) UnreadableValue ∷ [])) values ≡ filter_map read values
ones_said read [] = refl
ones_said read (value ∷ values) =
    one_thing (ok_or (read value) UnreadableValue) (flat_map (λ v. filter_map result_ok (ok_or (read v) UnreadableValue ∷ [])) values)
    ∙ ap (λ o. cons_option o (flat_map (λ v. filter_map result_ok (ok_or (read v) UnreadableValue ∷ [])) values)) (same_one (read value))
    ∙ ap (cons_option (read value)) (ones_said read values)

joined_one : {A : Type 0} (r : Meaning (List A)) (others : List (List A))
    → flat_map (λ said. said) (filter_map result_ok (r ∷ []) ++ others) ≡ result_unwrap_or r [] ++ flat_map (λ said. said) others
joined_one (Ok list) others = refl
joined_one (Err warning) others = refl

-- values that give a list each
pub lists_said : {A : Type 0} (read : List ℕ → Meaning (List A)) (values : List (List ℕ))
    → flat_map (λ value. result_unwrap_or (read value) []) values ≡ flat_map (λ said. said) (flat_map (λ value. filter_map result_ok (read value ∷ [])) values)
lists_said read [] = refl
lists_said read (value ∷ values) =
    ap (λ l. result_unwrap_or (read value) [] ++ l) (lists_said read values)
    ∙ sym (joined_one (read value) (flat_map (λ v. filter_map result_ok (read v ∷ [])) values))
