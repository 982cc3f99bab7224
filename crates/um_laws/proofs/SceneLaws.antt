-- The scene of a plan is finite; and the known units are listed and counted in one way.
use Rattle.std.proofs.Common.{◌≡◌, ◌≢◌, ◌∙◌, ◌↔◌, ℕ, suc, max, Bool, true, false, true≢false, List, [], ◌∷◌, ◌++◌, AllPairs, Contains, Option, Some, None, is_some, refl, sym, ap, subst, inl, inr, arith}
use Rattle.std.proofs.lemmas.Option.{none-some}
use Rattle.std.specs.FinMap as map
use Rattle.um_model.specs.Dependencies.{loadable_in, IsKnown, KnowsSoMany, CountsFor, owner, other}
use Rattle.um_model.specs.Least.{IsNamedBefore}
use Rattle.um_model.specs.Machine.{State, IsHeld, IsHeldOr, AreByName, scene_at, CannotStart, isnt_found, is_masked, has_bad_setting, is_a_template}
use Rattle.um_model.specs.Names.{is_template}
use Rattle.um_model.specs.Reached.{next}
use Rattle.um_model.specs.Refusals.{Refused}
use Rattle.um_model.specs.Service.{ByUnit}
use Rattle.um_model.specs.Profiles.{ReadTree, lasting_tree}
use Rattle.um_model.specs.Units.{LoadedUnit, Loading, Found, Masked, NotFound, BadSetting, load}
use Rattle.um_laws.proofs.AmongLaws.{among_contained, among_left, among_right, contains_among, either_decided, IsListOf, list_of}
use Rattle.um_laws.proofs.CausesLaws.{OneOrNone}
use Rattle.um_laws.proofs.KnownLaws.{depends_or_not, known_list, precedes_or_not}
use Rattle.um_model.proofs.LeastLaws.{IsDecided, Among}
use Rattle.um_laws.proofs.OnceLaws.{no_more}
use Rattle.um_laws.proofs.PlannedLaws.{IsFinite}
use Rattle.um_model.proofs.TimersLaws.{among_keys, names_one_way, same_name}

-- ---- a unit can't be started for one reason or none

found_starts : (asked : List ℕ) (l : LoadedUnit) → OneOrNone (CannotStart asked (Found l))
found_starts asked l = by_test (is_template l.name) refl
  where
    none : is_template l.name ≡ false → (r : Refused) → ¬ (CannotStart asked (Found l) r)
    none single r (is_a_template template) = true≢false (sym template ∙ single)

    by_test : (template : Bool) → is_template l.name ≡ template → OneOrNone (CannotStart asked (Found l))
    by_test true e = inl (_, is_a_template e)
    by_test false e = inr (none e)

-- a unit of which this was found can't be started, or can
pub can_start : (asked : List ℕ) (found : Loading) → OneOrNone (CannotStart asked found)
can_start asked (Found l) = found_starts asked l
can_start asked (Masked unit) = inl (_, is_masked)
can_start asked NotFound = inl (_, isnt_found)
can_start asked (BadSetting unit reason) = inl (_, has_bad_setting)

-- it can't be started for one reason
pub one_hindrance : (asked : List ℕ) (found : Loading) (r q : Refused) → CannotStart asked found r → CannotStart asked found q → r ≡ q
one_hindrance asked found r q isnt_found isnt_found = refl
one_hindrance asked found r q is_masked is_masked = refl
one_hindrance asked found r q has_bad_setting has_bad_setting = refl
one_hindrance asked found r q (is_a_template e) (is_a_template f) = refl

-- ---- which units count

there_or_not : {A : Type 0} (o : Option A) → IsDecided (o ≢ None)
there_or_not None = inr (λ there. there refl)
there_or_not (Some a) = inl (λ none. none-some a (sym none))

among_there : {A : Type 0} (m : ByUnit A) (unit : List ℕ) → map.get m unit ≢ None → Among (map.keys m) unit
among_there m unit there = by_entry (map.get m unit) refl
  where
    by_entry : (o : Option _) → map.get m unit ≡ o → Among (map.keys m) unit
    by_entry None e = absurd (there e)
    by_entry (Some a) e = among_keys m unit (ap is_some e)

-- the state holds something of the unit, or not
pub held_or_not : (s : State) (unit : List ℕ) → IsDecided (IsHeld s unit)
held_or_not s unit = either_decided (there_or_not (map.get s.units unit)) (there_or_not (map.get s.pending unit))

held_among : (s : State) (unit : List ℕ) → IsHeld s unit → Among (map.keys s.units ++ map.keys s.pending) unit
held_among s unit (inl there) = among_left (map.keys s.units) (map.keys s.pending) unit (among_there s.units unit there)
held_among s unit (inr there) = among_right (map.keys s.units) (map.keys s.pending) unit (among_there s.pending unit there)

-- a list has just the units of which the state holds something
pub held_list : (s : State) → (units : List (List ℕ)) × IsListOf (IsHeld s) units
held_list s = list_of (IsHeld s) (held_or_not s) (map.keys s.units ++ map.keys s.pending) (held_among s)

-- and one those and the named unit
pub held_or_list : (s : State) (named : List ℕ) → (units : List (List ℕ)) × IsListOf (IsHeldOr s named) units
held_or_list s named =
    list_of (IsHeldOr s named) (λ unit. either_decided (held_or_not s unit) (same_name unit named)) (named ∷ (map.keys s.units ++ map.keys s.pending)) covers
  where
    covers : (unit : List ℕ) → IsHeldOr s named unit → Among (named ∷ (map.keys s.units ++ map.keys s.pending)) unit
    covers unit (inl h) = inr (held_among s unit h)
    covers unit (inr is) = inl is

-- ---- the scene of a plan

-- a plan for a unit is made from finitely many units, and the relations of its scene are decided
pub finite_scene : (s : State) (named : List ℕ) → (units : List (List ℕ)) × IsFinite (scene_at s named) units
finite_scene s named =
    let extras = held_or_list s named in
    let known = known_list s.loaded (IsHeldOr s named) extras.0 extras.1 in (
      known.0,
      record {
        within = λ kind x y d. (known.1.all x (next d.known (owner d.gives)), known.1.all y (next d.known (other d.gives)));
        depends = depends_or_not s.loaded (IsHeldOr s named) extras.0 extras.1;
        before = precedes_or_not s.loaded (IsHeldOr s named) extras.0 extras.1;
        loadable = λ x. there_or_not (loadable_in s.loaded x);
        cannot = λ x. can_start x (load s.loaded x);
        one_cannot = λ x. one_hindrance x (load s.loaded x);
      },
    )

-- ---- known units are listed and counted in one way

-- the first of a sorted list is before all others
pub first_before : (x : List ℕ) (xs : List (List ℕ)) → AllPairs IsNamedBefore (x ∷ xs) → (z : List ℕ) → Among xs z → IsNamedBefore x z
first_before x xs sorted z later = by_place (contains_among xs z later)
  where
    by_place : Contains xs z → IsNamedBefore x z
    by_place (k, few, at) = subst (IsNamedBefore x) at (sorted 0 (suc k) z (omega arith) (omega arith))

pub others_sorted : (x : List ℕ) (xs : List (List ℕ)) → AllPairs IsNamedBefore (x ∷ xs) → AllPairs IsNamedBefore xs
others_sorted x xs sorted i j d less few = sorted (suc i) (suc j) d (omega arith) (omega arith)

-- sorted lists of the same names are the same
one_sorted : (xs ys : List (List ℕ)) → AllPairs IsNamedBefore xs → AllPairs IsNamedBefore ys → ((z : List ℕ) → Among xs z → Among ys z) → ((z : List ℕ) → Among ys z → Among xs z)
    → xs ≡ ys
one_sorted [] [] s t there back = refl
one_sorted [] (y ∷ ys) s t there back = absurd (back y (inl refl))
one_sorted (x ∷ xs) [] s t there back = absurd (there x (inl refl))
one_sorted (x ∷ xs) (y ∷ ys) s t there back =
    let others = one_sorted xs ys (others_sorted x xs s) (others_sorted y ys t) there_later back_later in
    λ i. firsts i ∷ others i
  where
    same_first : Among (y ∷ ys) x → Among (x ∷ xs) y → x ≡ y
    same_first (inl is) there_too = is
    same_first (inr later) (inl is) = sym is
    same_first (inr later) (inr too) = absurd (names_one_way x y (first_before x xs s y too) (first_before y ys t x later))

    firsts : x ≡ y
    firsts = same_first (there x (inl refl)) (back y (inl refl))

    behind : (names : List (List ℕ)) (z a : List ℕ) → IsNamedBefore a z → Among (a ∷ names) z → Among names z
    behind names z a before (inl is) = absurd (names_one_way a a (subst (IsNamedBefore a) is before) (subst (IsNamedBefore a) is before))
    behind names z a before (inr later) = later

    there_later : (z : List ℕ) → Among xs z → Among ys z
    there_later z later = behind ys z y (subst (λ a. IsNamedBefore a z) firsts (first_before x xs s z later)) (there z (inr later))

    back_later : (z : List ℕ) → Among ys z → Among xs z
    back_later z later = behind xs z x (subst (λ a. IsNamedBefore a z) (sym firsts) (first_before y ys t z later)) (back z (inr later))

-- sorted lists of just the names that have a property are the same
pub one_list_by_name : (Has : List ℕ → Type 0) (xs ys : List (List ℕ)) → ((z : List ℕ) → Contains xs z ↔ Has z) → ((z : List ℕ) → Contains ys z ↔ Has z)
    → AllPairs IsNamedBefore xs → AllPairs IsNamedBefore ys → xs ≡ ys
one_list_by_name Has xs ys h k s t =
    one_sorted xs ys s t (λ z there. among_contained ys z ((k z).1 ((h z).0 (contains_among xs z there))))
    (λ z there. among_contained xs z ((h z).1 ((k z).0 (contains_among ys z there))))

-- the known units are one list
pub one_list_of_known : (s : State) (xs ys : List (List ℕ)) → AreByName (IsKnown s.loaded (IsHeld s)) xs → AreByName (IsKnown s.loaded (IsHeld s)) ys → xs ≡ ys
one_list_of_known s xs ys h k = one_list_by_name (IsKnown s.loaded (IsHeld s)) xs ys h.each k.each h.sorted k.sorted

-- just one number of units is known
one_number : (tree : ReadTree) (Extra : List ℕ → Type 0) (n m : ℕ) → KnowsSoMany tree Extra n → KnowsSoMany tree Extra m → n ≡ m
one_number tree Extra n m h k =
    let few = no_more h.names k.names h.apart (λ z there. among_contained k.names z ((k.whole z).1 ((h.whole z).0 (contains_among h.names z there)))) in
    let many = no_more k.names h.names k.apart (λ z there. among_contained h.names z ((h.whole z).1 ((k.whole z).0 (contains_among k.names z there)))) in
    omega (arith, few, many, h.long, k.long)

-- a tree counts for one number of units
pub one_count : (tree : ReadTree) (Extra : List ℕ → Type 0) (n m : ℕ) → CountsFor tree Extra n → CountsFor tree Extra m → n ≡ m
one_count tree Extra n m h k =
    let held = one_number tree Extra h.held k.held h.by_tree k.by_tree in
    let lasting = one_number (lasting_tree tree) Extra h.lasting k.lasting h.by_rest k.by_rest in
    h.greater ∙ ((λ i. max (held i) (lasting i)) ∙ sym k.greater)
