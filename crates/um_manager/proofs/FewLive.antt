-- No more numbers are live than the marks have room for: a store's units are limited in number, with two live numbers
-- each.
use Rattle.std.proofs.Common.{◌≡◌, ◌≢◌, ◌⊎◌, ◌+◌, ◌*◌, ◌≤◌, ◌<◌, ◌==◌, ℕ, List, [], ◌∷◌, ◌++◌, length, flat_map, AllPairs, Bool, true, false, not, ◌||◌, ◌&&◌, Option, Some, None, inl, inr, refl, sym, ap, subst, ◌∙◌, length-append, arith}
use Rattle.std.proofs.lemmas.Bool.{eqb-true, eq-eqb, true≢false}
use Rattle.std.proofs.lemmas.List.Kept.{AllPairs-cons}
use Rattle.std.specs.FinMap as map
use Rattle.std.specs.List.{list_all}
use Rattle.std.specs.Prelude.{get_or, option_to_list}
use Rattle.um_laws.proofs.AmongLaws.{among_contained, contains_among}
use Rattle.um_laws.proofs.CrowdedLaws.{a_weight}
use Rattle.um_model.proofs.EntriesLaws.{left_true, right_true}
use Rattle.um_model.proofs.LeastLaws.{Among}
use Rattle.um_laws.proofs.OnceLaws.{no_more, among_at}
use Rattle.um_laws.proofs.StateLengthLaws.{entries_few}
use Rattle.um_model.specs.Dependencies.{KnowsSoMany, extra, unit_limit}
use Rattle.um_model.specs.Machine.{State, IsHeld}
use Rattle.um_model.specs.Reached.{first}
use Rattle.um_model.specs.Servable.{IsFew}
use Rattle.um_model.specs.Service.{ByUnit}
use Rattle.um_model.specs.StateSpellings.{numbers_in, are_distinct}
use Rattle.um_model.specs.Transitions.{live_numbers}
use Rattle.um_model.specs.declared.service.UnitState.{UnitState}
use Rattle.um_fates.specs.Live.{has, is_live, HasFewLive}

-- ---- lists of numbers

among_of : (n : ℕ) (ns : List ℕ) → has n ns ≡ true → Among ns n
among_of n [] is = true≢false (sym is)
among_of n (m ∷ ns) is = by (m == n) refl is (among_of n ns)
  where
    by : (b : Bool) → (m == n) ≡ b → (b || has n ns) ≡ true → (has n ns ≡ true → Among ns n) → Among (m ∷ ns) n
    by true e h rest = inl (sym (eqb-true m n e))
    by false e h rest = inr (rest h)

all_live : (units : ByUnit UnitState) (ns : List ℕ) → list_all (is_live units) ns ≡ true → (n : ℕ) → Among ns n → is_live units n ≡ true
all_live units [] live n none = absurd none
all_live units (m ∷ ns) live n (inl is) = subst (λ k. is_live units k ≡ true) (sym is) (left_true (is_live units m) (list_all (is_live units) ns) live)
all_live units (m ∷ ns) live n (inr later) = all_live units ns (right_true (is_live units m) (list_all (is_live units) ns) live) n later

differs_from : (n : ℕ) (ns : List ℕ) → list_all (λ m. not (m == n)) ns ≡ true → (m : ℕ) → Among ns m → n ≡ m → ⊥
differs_from n [] all m none e = absurd none
differs_from n (k ∷ ns) all m (inl is) e = true≢false (sym (left_true (not (k == n)) _ all) ∙ ap not (eq-eqb k n (sym is ∙ sym e)))
differs_from n (k ∷ ns) all m (inr later) e = differs_from n ns (right_true (not (k == n)) _ all) m later e

apart_of : (ns : List ℕ) → are_distinct ns ≡ true → AllPairs (λ x y. x ≢ y) ns
apart_of [] once = λ i j d less few. absurd (omega (arith, less, few))
apart_of (n ∷ ns) once =
    AllPairs-cons (λ x y. x ≢ y) n ns
    (λ k d few. differs_from n ns (left_true (list_all (λ m. not (m == n)) ns) (are_distinct ns) once) (get_or ns k d) (among_at ns k d few))
    (apart_of ns (right_true (list_all (λ m. not (m == n)) ns) (are_distinct ns) once))

-- ---- the live numbers of a state

one_at_most : (o : Option ℕ) → length (option_to_list o) ≤ 1
one_at_most None = omega arith
one_at_most (Some n) = omega arith

two_each : (es : List (List ℕ × UnitState)) → length (flat_map (λ e. live_numbers e.1) es) ≤ 2 * length es
two_each [] = omega arith
two_each (e ∷ es) = omega (
  arith,
  length-append (live_numbers e.1) (flat_map (λ e. live_numbers e.1) es),
  length-append (option_to_list e.1.main) (option_to_list e.1.control),
  one_at_most e.1.main,
  one_at_most e.1.control,
  two_each es,
)

few_units : (s : State) → IsFew s → length (map.entries s.units) ≤ unit_limit
few_units s few =
    let (weight, weighs) = a_weight s in
    let known : KnowsSoMany s.loaded (IsHeld s) weighs.count.held = weighs.count.by_tree in
    let held : length (map.entries s.units) ≤ length known.names =
    entries_few s.units known.names (λ k there. among_contained known.names k ((known.whole k).1 (first (extra (inl there))))) in
    let bounded : ¬ (unit_limit < length known.names) =
    λ many. few _ (record {
      many = inl (record {
        names = known.names;
        known = λ k d within. (known.whole (get_or known.names k d)).0 (contains_among known.names (get_or known.names k d) (among_at known.names k d within));
        apart = known.apart;
        many = many;
      });
      refusal = refl;
    }) in
    omega (arith, held, bounded)

-- a store in memory has few live numbers
pub few_live : (s : State) → IsFew s → HasFewLive s.units
few_live s few numbers once live =
    let within = no_more numbers (numbers_in s.units) (apart_of numbers once) (λ n among. among_of n (numbers_in s.units) (all_live s.units numbers live n among)) in
    omega (arith, within, two_each (map.entries s.units), few_units s few)
