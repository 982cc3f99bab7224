-- Several readings, one after the other.
use Rattle.std.proofs.Common.{◌≡◌, ℕ, List, [], ◌∷◌, ◌++◌, map, filter_map, append_assoc, Option, Some, None, Ok, Err, option_map, refl, sym, ap, subst, ◌∙◌}
use Rattle.std.specs.List.{cons_option}
use Rattle.std.proofs.lemmas.List.{append-nil, map-append}
use Rattle.std.proofs.lemmas.List.Elements.{filter_map-append}
use Rattle.std.specs.Option.{ok_or}
use Rattle.std.specs.Result.{result_ok}
use Rattle.um_model.specs.Readings.{all_read, commands_reading, environment_reading}
use Rattle.um_model.specs.Results.{◌and_then◌, result_map}
use Rattle.um_model.specs.Commands.{Command, commands_read}
use Rattle.um_model.specs.Words.{words_of}
use Rattle.um_model.specs.declared.warnings.WarningKind.{WarningKind}
use Rattle.um_model.specs.declared.warnings.WarningKind.TheVariants.{UnreadableValue}
use Rattle.um_model.specs.declared.words.WordRules.TheVariants.{Escaped}
use Rattle.um_model.specs.Units.{value_readings, value_warning}
use Rattle.um_model.specs.declared.units.ValueKind.{ValueKind}
use Rattle.um_unit.specs.Readings.{first_warning, read_as}
use Rattle.um_model.specs.FileForms.{Meaning}
use Rattle.um_unit.specs.Readings.{variable_reading, value_reading}
use Rattle.um_unit.specs.Readings.{command_reading}

-- of several readings all: the first one, and then the others
abbrev pub in_front : {A : Type 0} → Meaning A → Meaning (List A) → Meaning (List A)
in_front first others = first and_then λ a. result_map (λ rest. a ∷ rest) others

-- those that were read already, and then these
abbrev pub read_after : {A : Type 0} → List A → Meaning (List A) → Meaning (List A)
read_after done (Ok others) = Ok (done ++ others)
read_after done (Err warning) = Err warning

-- whatever readings follow, all readings give the results so far and then those of the rest
abbrev pub AreRead : {A : Type 0} → List (Meaning A) → List A → Type 0
AreRead {A} readings done = (more : List (Meaning A)) → all_read (readings ++ more) ≡ read_after done (all_read more)

pub read_stops : {A : Type 0} (readings : List (Meaning A)) (done : List A) (reading : Meaning A) (warning : WarningKind) (more : List (Meaning A)) → AreRead readings done → reading ≡ Err warning
    → all_read (readings ++ reading ∷ more) ≡ Err warning
read_stops readings done reading warning more so_far is = so_far (reading ∷ more) ∙ ap (λ r. read_after done (in_front r (all_read more))) is

pub all_are_read : {A : Type 0} (readings : List (Meaning A)) (done : List A) → AreRead readings done → all_read readings ≡ Ok done
all_are_read readings done so_far = ap all_read (sym (append-nil readings)) ∙ so_far [] ∙ ap Ok (append-nil done)

-- a reading doesn't depend on the form of its result
read_in_front : {A B : Type 0} (f : A → B) (a : A) (others : Meaning (List A)) → read_as (map f) (in_front (Ok a) others) ≡ in_front (Ok (f a)) (read_as (map f) others)
read_in_front f a (Ok others) = refl
read_in_front f a (Err warning) = refl

pub all_seen : {A B : Type 0} (f : A → B) (readings : List (Meaning A)) → read_as (map f) (all_read readings) ≡ all_read (map (read_as f) readings)
all_seen f [] = refl
all_seen f (Ok a ∷ others) = read_in_front f a (all_read others) ∙ ap (in_front (Ok (f a))) (all_seen f others)
all_seen f (Err warning ∷ others) = refl

pub seen_twice : {A B C : Type 0} (f : B → C) (g : A → B) (r : Meaning A) → read_as f (read_as g r) ≡ read_as (λ a. f (g a)) r
seen_twice f g (Ok a) = refl
seen_twice f g (Err warning) = refl

-- one name more
pub named_more : {A B : Type 0} (f : A → B) (old : List B) (done more : List A) (readings : List (Meaning A)) (reading : Meaning A) (name : A) → reading ≡ Ok name → more ≡ done ++ name ∷ []
    → map f done ≡ old ++ map f (filter_map result_ok readings) → map f more ≡ old ++ map f (filter_map result_ok (readings ++ reading ∷ []))
named_more f old done more readings reading name is e so_far =
    ap (map f) e ∙ map-append f done (name ∷ []) ∙ ap (λ names. names ++ f name ∷ []) so_far
    ∙ append_assoc old (map f (filter_map result_ok readings)) (f name ∷ [])
    ∙ ap (λ names. old ++ names) (sym (map-append f (filter_map result_ok readings) (name ∷ [])))
    ∙ ap (λ r. old ++ map f (filter_map result_ok readings ++ filter_map result_ok (r ∷ []))) (sym is)
    ∙ ap (λ names. old ++ map f names) (sym (filter_map-append result_ok readings (reading ∷ [])))

-- one that names nothing
pub named_no_more : {A B : Type 0} (f : A → B) (old : List B) (done : List A) (readings : List (Meaning A)) (reading : Meaning A) → result_ok reading ≡ None
    → map f done ≡ old ++ map f (filter_map result_ok readings) → map f done ≡ old ++ map f (filter_map result_ok (readings ++ reading ∷ []))
named_no_more f old done readings reading none so_far =
    so_far
    ∙ ap (λ names. old ++ map f names) (sym (append-nil (filter_map result_ok readings)))
    ∙ ap (λ o. old ++ map f (filter_map result_ok readings ++ cons_option o [])) (sym none)
    ∙ ap (λ names. old ++ map f names) (sym (filter_map-append result_ok readings (reading ∷ [])))

pub names_nothing : {A : Type 0} (reading : Meaning A) → ((a : A) → reading ≡ Ok a → ⊥) → result_ok reading ≡ None
names_nothing (Ok a) not = absurd (not a refl)
names_nothing (Err warning) not = refl

-- all of several readings, with their results in another form
pub read_all : {V A B : Type 0} (f : A → B) (items : V → List A) (r : Meaning V) (readings : List (Meaning A)) (others : List (Meaning B)) → read_as items r ≡ all_read readings → map (read_as f) readings ≡ others
    → read_as (λ v. map f (items v)) r ≡ all_read others
read_all f items r readings others all seen = sym (seen_twice (map f) items r) ∙ ap (read_as (map f)) all ∙ all_seen f readings ∙ ap all_read seen

-- the names that readings give, in another form
pub said_seen : {A B : Type 0} (f : A → B) (readings : List (Meaning A)) → map f (filter_map result_ok readings) ≡ filter_map result_ok (map (read_as f) readings)
said_seen f [] = refl
said_seen f (Ok a ∷ others) = ap (λ names. f a ∷ names) (said_seen f others)
said_seen f (Err warning ∷ others) = said_seen f others

pub commands_by : (unit value : List ℕ) (commands : List Command) → commands_read value ≡ Some commands → commands_reading unit value ≡ all_read (map (command_reading unit) commands)
unfolding commands_reading
commands_by unit value commands e = ap (λ o. ok_or o UnreadableValue and_then λ read. all_read (map (command_reading unit) read)) e

pub environment_by : (unit value : List ℕ) (words : List (List ℕ)) → words_of Escaped value ≡ Some words → environment_reading unit value ≡ all_read (map (variable_reading unit) words)
unfolding environment_reading
environment_by unit value words e = ap (λ o. ok_or o UnreadableValue and_then λ read. all_read (map (variable_reading unit) read)) e

-- one reading's warning, with its result in another form
pub seen_warning : {A B : Type 0} (f : A → B) (r : Meaning A) → first_warning (r ∷ []) ≡ first_warning (read_as f r ∷ [])
seen_warning f (Ok a) = refl
seen_warning f (Err warning) = refl

pub seen_unread : {A B : Type 0} (f : A → B) (o : Option A) → first_warning (value_reading o ∷ []) ≡ first_warning (value_reading (option_map f o) ∷ [])
seen_unread f None = refl
seen_unread f (Some a) = refl

-- the warning of a value, if its kind is known
pub warned_as : (unit value : List ℕ) (k kind : ValueKind) (w : Option WarningKind) → k ≡ kind → w ≡ first_warning (value_readings unit kind value) → w ≡ value_warning unit k value
unfolding value_warning
warned_as unit value k kind w is e = subst (λ x. w ≡ first_warning (value_readings unit x value)) (sym is) e
