-- Each reason and each refused key has a sentence.
use Rattle.std.proofs.Common.{◌≡◌, ℕ, Bool, true, false, ◌||◌, ◌&&◌, ◌==◌, List, [], ◌∷◌, ◌++◌, length, map, Option, Some, None, is_some, option_map, codes, cond, if◌then◌else◌, refl, ap, ◌∙◌, subst}
use Rattle.std.specs.List.{list_any}
use Rattle.std.specs.Map.{lookup}
use Rattle.std.specs.Option.{option_or}
use Rattle.std.specs.Str.{bytes_eq}
use Rattle.um_model.specs.Keys.{is_never_served, is_refused_key}
use Rattle.um_model.specs.Names.{suffix_of}
use Rattle.um_model.specs.Profiles.{current}
use Rattle.um_model.specs.Units.{Assigned, ServiceSettings, TypeSaid, Unsaid, Served, Unserved, reason_of, refused_kind, refused_service, refused_setting, service_settings_of, type_of}
use Rattle.um_model.specs.declared.names.Suffix.{Suffix}
use Rattle.um_model.specs.declared.names.Suffix.TheVariants.{Service}
use Rattle.um_model.specs.declared.profile.Profile.{Profile}
use Rattle.um_model.specs.declared.transition.UnitKind.{UnitKind}
use Rattle.um_model.specs.declared.transition.UnitKind.TheVariants.{Oneshot}
use Rattle.um_sentences.specs.Sentences.{begins_with, key_why, refused_fronts, refused_keys, topic_of_reason}

-- the reason has a sentence
abbrev pub IsTold : List ℕ → Type 0
IsTold reason = is_some (topic_of_reason reason) ≡ true

none_told : (reason : List ℕ) → None ≡ Some reason → IsTold reason
none_told reason e = cc

one_told : (one reason : List ℕ) → IsTold one → Some one ≡ Some reason → IsTold reason
one_told one reason told e = let same : one ≡ reason = cc in subst IsTold same told

chosen_told : (holds : Bool) (one other : Option (List ℕ)) (reason : List ℕ) → (one ≡ Some reason → IsTold reason) → (other ≡ Some reason → IsTold reason)
    → (if holds then one else other) ≡ Some reason → IsTold reason
chosen_told true one other reason told more e = told e
chosen_told false one other reason told more e = more e

first_told : (one other : Option (List ℕ)) (reason : List ℕ) → (one ≡ Some reason → IsTold reason) → (other ≡ Some reason → IsTold reason)
    → option_or one other ≡ Some reason → IsTold reason
first_told None other reason told more e = more e
first_told (Some one) other reason told more e = told e

-- a key that no unit may have
setting_told : (found : Option Assigned) (reason : List ℕ) → option_map (λ a. codes "setting " ++ a.key) found ≡ Some reason → IsTold reason
setting_told None reason e = none_told reason e
setting_told (Some a) reason e = one_told (codes "setting " ++ a.key) reason refl e

kind_told : (kind : UnitKind) (s : ServiceSettings) (reason : List ℕ) → refused_kind kind s ≡ Some reason → IsTold reason
kind_told Oneshot s reason e =
    chosen_told _ (Some (codes "exec-count")) _ reason (one_told (codes "exec-count") reason refl)
    (chosen_told _ (Some (codes "restart")) None reason (one_told (codes "restart") reason refl) (none_told reason)) e
kind_told other s reason e =
    chosen_told (length s.start == 1) None (Some (codes "exec-count")) reason (none_told reason) (one_told (codes "exec-count") reason refl) e

service_told : (type : Option Suffix) (said : TypeSaid) (s : ServiceSettings) (reason : List ℕ) → refused_service type said s ≡ Some reason → IsTold reason
service_told None said s reason e = none_told reason e
service_told (Some Service) Unserved s reason e = one_told (codes "type") reason refl e
service_told (Some Service) Unsaid s reason e = kind_told s.kind s reason e
service_told (Some Service) (Served kind) s reason e = kind_told s.kind s reason e
service_told (Some other) said s reason e = none_told reason e

pub reason_told : (profile : Profile) (unit : List ℕ) (assigned : List Assigned) (reason : List ℕ) → reason_of profile unit assigned ≡ Some reason → IsTold reason
reason_told profile unit assigned reason e =
    first_told (refused_setting profile assigned) (refused_service (suffix_of unit) (type_of assigned) (service_settings_of profile (suffix_of unit) unit assigned)) reason
    (setting_told _ reason) (service_told (suffix_of unit) (type_of assigned) (service_settings_of profile (suffix_of unit) unit assigned) reason) e

-- an entry is found exactly if the test holds for a key
is_some-lookup : (holds : List ℕ → Bool) (es : List (List ℕ × List ℕ)) → is_some (lookup holds es) ≡ list_any holds (map (λ e. e.0) es)
is_some-lookup holds [] = refl
is_some-lookup holds (e ∷ es) =
    elim (holds e.0) as (λ b. is_some (cond b (Some e.1) (lookup holds es)) ≡ (b || list_any holds (map (λ x. x.0) es))) [
      | true ↦ refl
      | false ↦ is_some-lookup holds es
    ]

is_some-option_or : (a b : Option (List ℕ)) → is_some (option_or a b) ≡ (is_some a || is_some b)
is_some-option_or None b = refl
is_some-option_or (Some x) b = refl

three_tests : (a b c : Bool) → (a || (b || (c || false))) ≡ (a || b || c)
three_tests true b c = refl
three_tests false true c = refl
three_tests false false true = refl
three_tests false false false = refl

either : (a b x y : Bool) → a ≡ x → b ≡ y → (a || b) ≡ (x || y)
either a b x y e f = ap (λ h. h || b) e ∙ ap (λ h. x || h) f

none_other : (b other : Bool) → other ≡ (b && false || other)
none_other true other = refl
none_other false other = refl

-- the keys that are refused now are those that no profile serves
pub refused_key_told : (key : List ℕ) → is_some (key_why key) ≡ is_refused_key current key
refused_key_told key =
    is_some-option_or (lookup (bytes_eq key) refused_keys) (lookup (begins_with key) refused_fronts)
    ∙ either _ _ _ _ (is_some-lookup (bytes_eq key) refused_keys) (is_some-lookup (begins_with key) refused_fronts)
    ∙ three_tests (list_any (bytes_eq key) (map (λ e. e.0) refused_keys)) (begins_with key (codes "Condition")) (begins_with key (codes "Assert"))
    ∙ none_other (bytes_eq key (codes "ExecStartPre")) (is_never_served key)
