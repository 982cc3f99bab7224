-- The assignments by which a unit is loaded, and those that are searched for reasons.
use Rattle.std.proofs.Common.{◌≡◌, ◌∙◌, ◌++◌, ◌∷◌, [], List, ℕ, Bool, true, false, Option, Some, None, ap, cond, map, refl, subst, sym}
use Rattle.std.proofs.lemmas.Bool.{true≢false}
use Rattle.std.proofs.lemmas.List.{map-append}
use Rattle.std.proofs.lemmas.Slice.Eq.{bytes_eq-Decides}
use Rattle.std.specs.Prelude.{◌&&◌, filter, find, not}
use Rattle.std.specs.Str.{bytes_eq}
use Rattle.std.specs.List.{flat_map}
use Rattle.um_model.specs.Keys.{is_known_section, is_refused_key}
use Rattle.um_model.specs.Profiles.{current}
use Rattle.um_model.specs.Syntax.{Item, Section, Assignment, Warned, Placed}
use Rattle.um_model.specs.Text.{is_empty}
use Rattle.um_model.specs.Units.{Assigned, Source, assigned_by, assignments_in, is_heard}
use Rattle.um_model.specs.declared.names.Suffix.{Suffix}
use Rattle.um_verify.specs.Findings.{Spot, all_spots, assigned_at, first_refused, first_with, gives, is_refused, spot_by, spots_in}

known : (b : Bool) (a : Assigned) (s : Spot) → assigned_at s ≡ a → cond b (a ∷ []) [] ≡ map assigned_at (cond b (s ∷ []) [])
known true a s same = ap (λ x. x ∷ []) (sym same)
known false a s same = refl

nothing : (b : Bool) (none : List Assigned) → cond b none none ≡ none
nothing true none = refl
nothing false none = refl

-- the assignment of an item is the one by which a unit is loaded
item_same : (type : Option Suffix) (path : List ℕ) (section : Option (List ℕ)) (item : Item)
    → cond (is_heard type section item) (assigned_by section item) [] ≡ map assigned_at (spot_by type path section item)
item_same type path None (Section name line) = refl
item_same type path None (Assignment key value line whole) = refl
item_same type path None (Warned kind line) = refl
item_same type path (Some s) (Section name line) = refl
item_same type path (Some s) (Assignment key value line whole) =
    known (is_known_section type s) (record { section = s; key = key; value = value }) (record { path = path; line = line; section = s; key = key; value = value }) refl
item_same type path (Some s) (Warned kind line) = nothing (is_known_section type s) []

one_more : (b : Bool) (f : Placed → List Assigned) (p : Placed) (rest : List Placed) → flat_map f (cond b (p ∷ rest) rest) ≡ cond b (f p) [] ++ flat_map f rest
one_more true f p rest = refl
one_more false f p rest = refl

file_same : (type : Option Suffix) (path : List ℕ) (ps : List Placed)
    → flat_map (λ (p : Placed). assigned_by p.section p.item) (filter (λ (p : Placed). is_heard type p.section p.item) ps) ≡ map assigned_at (spots_in type path ps)
file_same type path [] = refl
file_same type path (p ∷ ps) =
    one_more (is_heard type p.section p.item) (λ (q : Placed). assigned_by q.section q.item) p (filter (λ (q : Placed). is_heard type q.section q.item) ps)
    ∙ (λ i. item_same type path p.section p.item i ++ file_same type path ps i)
    ∙ sym (map-append assigned_at (spot_by type path p.section p.item) (spots_in type path ps))

-- the unit is loaded by the assignments that are searched
pub all_same : (type : Option Suffix) (sources : List Source) → assignments_in type sources ≡ map assigned_at (all_spots type sources)
all_same type [] = refl
all_same type (s ∷ ss) = (λ i. file_same type s.path s.reading i ++ all_same type ss i) ∙ sym (map-append assigned_at (spots_in type s.path s.reading) (all_spots type ss))

and_left : (a b : Bool) → (a && b) ≡ true → a ≡ true
and_left true b both = refl
and_left false b both = both

and_right : (a b : Bool) → (a && b) ≡ true → b ≡ true
and_right true b both = both
and_right false b both = absurd (true≢false (sym both))

and_both : (a b : Bool) → a ≡ true → b ≡ true → (a && b) ≡ true
and_both a b one other = ap (λ x. x && b) one ∙ other

-- a found element passes the test
passes : (p : Spot → Bool) (xs : List Spot) (s : Spot) → find p xs ≡ Some s → p s ≡ true
passes p [] s found = let bad : ⊥ = cc in absurd bad
passes p (x ∷ xs) s found = step (p x) refl (λ (f : find p xs ≡ Some s). passes p xs s f)
  where
    step : (b : Bool) → p x ≡ b → (find p xs ≡ Some s → p s ≡ true) → p s ≡ true
    step true is more = let same : Some x ≡ Some s = subst (λ b. cond b (Some x) (find p xs) ≡ Some s) is found in let eq : x ≡ s = cc in subst (λ y. p y ≡ true) eq is
    step false is more = more (subst (λ b. cond b (Some x) (find p xs) ≡ Some s) is found)

-- the first refused assignment is the first of its key that has a value
pub first_told : (spots : List Spot) (s : Spot) → first_refused spots ≡ Some s → first_with s.key spots ≡ Some s
first_told [] s found = let bad : ⊥ = cc in absurd bad
first_told (x ∷ xs) s found = step (is_refused x) (gives s.key x) refl refl (λ (f : first_refused xs ≡ Some s). first_told xs s f)
  where
    valued : is_refused s ≡ true
    valued = passes is_refused (x ∷ xs) s found

    step : (r g : Bool) → is_refused x ≡ r → gives s.key x ≡ g → (first_refused xs ≡ Some s → first_with s.key xs ≡ Some s) → first_with s.key (x ∷ xs) ≡ Some s
    step true true refused given more =
        let same : Some x ≡ Some s = subst (λ b. cond b (Some x) (first_refused xs) ≡ Some s) refused found in
        ap (λ b. cond b (Some x) (first_with s.key xs)) given ∙ same
    step true false refused given more =
        let same : Some x ≡ Some s = subst (λ b. cond b (Some x) (first_refused xs) ≡ Some s) refused found in
        let eq : x ≡ s = cc in
        let is_key : bytes_eq x.key s.key ≡ true = (bytes_eq-Decides x.key s.key).1 (ap (λ y. y.key) eq) in
        let has : not (is_empty x.value) ≡ true = and_right (is_refused_key current x.key) (not (is_empty x.value)) refused in
        absurd (true≢false (sym (and_both (bytes_eq x.key s.key) (not (is_empty x.value)) is_key has) ∙ given))
    step false true refused given more =
        let is_key : x.key ≡ s.key = (bytes_eq-Decides x.key s.key).0 (and_left (bytes_eq x.key s.key) (not (is_empty x.value)) given) in
        let has : not (is_empty x.value) ≡ true = and_right (bytes_eq x.key s.key) (not (is_empty x.value)) given in
        let never : is_refused_key current x.key ≡ true = ap (is_refused_key current) is_key ∙ and_left (is_refused_key current s.key) (not (is_empty s.value)) valued in
        absurd (true≢false (sym (and_both (is_refused_key current x.key) (not (is_empty x.value)) never has) ∙ refused))
    step false false refused given more =
        ap (λ b. cond b (Some x) (first_with s.key xs)) given ∙ more (subst (λ b. cond b (Some x) (first_refused xs) ≡ Some s) refused found)
