-- The list of the known units is the reply.
use Rattle.std.proofs.Common.{◌≡◌, ◌↔◌, ◌∙◌, ◌<◌, ◌+◌, ◌++◌, ◌∷◌, [], ℕ, List, Some, None, get_or, length, map, take, ap, sym, subst}
use Rattle.std.proofs.lemmas.List.{map-append, take_more}
use Rattle.std.proofs.lemmas.Option.{get_or_from_slice_get, none-some, slice_get-get_or}
use Rattle.std.specs.Prelude.{AllPairs, Contains, slice_get}
use Rattle.um_graph.specs.Graph.{GraphView, IsGraphOf}
use Rattle.um_laws.proofs.KnownLaws.{known_grows}
use Rattle.um_model.specs.Dependencies.{IsKnown, extra}
use Rattle.um_model.specs.Least.{IsNamedBefore}
use Rattle.um_model.specs.Machine.{State, Listed, ListUnits, UnitListed, IsHeld, IsReplyTo, lists_units, unit_listed}
use Rattle.um_model.specs.Reached.{first}
use Rattle.um_state.specs.View.{listed_of}
use Rattle.um_state.specs.declared.reply.UnitListed as code

pub lists_units_so : (s : State) (held names : List (List ℕ)) (units : List UnitListed) → ((unit : List ℕ) → Contains held unit ↔ IsHeld s unit)
    → ((unit : List ℕ) → Contains names unit ↔ IsKnown s.loaded (Contains held) unit) → AllPairs IsNamedBefore names
    → units ≡ map (unit_listed s) names → IsReplyTo s ListUnits (Listed units)
lists_units_so s held names units holds known sorted is =
    subst (λ listed. IsReplyTo s ListUnits (Listed listed)) (sym is)
    (lists_units (record {
      each = λ unit. (
        λ named. known_grows s.loaded (Contains held) (IsHeld s) (λ x h. first (extra ((holds x).0 h))) unit ((known unit).0 named),
        λ counts. (known unit).1 (known_grows s.loaded (IsHeld s) (Contains held) (λ x h. first (extra ((holds x).1 h))) unit counts),
      );
      sorted = sorted;
    }))

pub lists_known_so : (s : State) (g : GraphView) (units : List UnitListed) → units ≡ map (unit_listed s) g.names → IsGraphOf s.loaded (IsHeld s) g
    → IsReplyTo s ListUnits (Listed units)
lists_known_so s g units is of = subst (λ listed. IsReplyTo s ListUnits (Listed listed)) (sym is) (lists_units (record { each = of.known; sorted = of.sorted }))

-- one more is listed
pub listed_more : (s : State) (names : List (List ℕ)) (i : ℕ) (name : List ℕ) (before after : List code.UnitListed) (unit : code.UnitListed) → i < length names
    → slice_get names i ≡ Some name → listed_of unit ≡ unit_listed s name → after ≡ before ++ unit ∷ [] → map listed_of before ≡ map (unit_listed s) (take i names)
    → map listed_of after ≡ map (unit_listed s) (take (i + 1) names)
listed_more s names i name before after unit low at is more so =
    ap (map listed_of) more ∙ map-append listed_of before (unit ∷ [])
    ∙ (ap (λ l. l ++ listed_of unit ∷ []) so ∙ ap (λ u. map (unit_listed s) (take i names) ++ u ∷ []) (is ∙ ap (unit_listed s) (sym (get_or_from_slice_get names i name name at))))
    ∙ sym (ap (map (unit_listed s)) (take_more names i name low) ∙ map-append (unit_listed s) (take i names) (get_or names i name ∷ []))

-- each number below a list's length has an item
pub none_listed : (names : List (List ℕ)) (i : ℕ) → i < length names → slice_get names i ≡ None → ⊥
none_listed names i low none = none-some (get_or names i []) (sym none ∙ slice_get-get_or names i [] low)
