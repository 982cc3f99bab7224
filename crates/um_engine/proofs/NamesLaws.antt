-- The names of the units that are known for a state, by the graph that is known for it and by lists of names.
use Rattle.std.proofs.Common.{◌≡◌, ◌↔◌, ◌∙◌, ℕ, Bool, true, false, true≢false, List, [], Contains, refl, sym, ap, subst}
use Rattle.std.specs.Cmp.Lexicographic.{nat_list_eq_equiv}
use Rattle.std.specs.List.{list_any}
use Rattle.std.specs.Str.{bytes_eq}
use Rattle.std.proofs.lemmas.List.{get_or_default}
use Rattle.std.proofs.lemmas.Map.Views.{Contains-from_any, list_any-from_Contains}
use Rattle.std.proofs.lemmas.Slice.Eq.{bytes_eq-Decides}
use Rattle.um_model.specs.Profiles.{ReadTree, lasting_tree}
use Rattle.um_model.specs.Dependencies.{IsKnown, extra}
use Rattle.um_model.specs.Machine.{State, IsHeld}
use Rattle.um_model.specs.Reached.{first}
use Rattle.um_laws.proofs.KnownLaws.{known_grows}
use Rattle.um_name.specs.Names.{AreAscending, IsApart}
use Rattle.um_state.proofs.NameLists.{same_names}
use Rattle.um_engine.specs.Engine.{KnowsTheSame}
use Rattle.um_engine.specs.Known.{KnownView, KnowsFor}

-- a name is found among others exactly where it is one of them
found_in : (x : List ℕ) (ns : List (List ℕ)) → list_any (bytes_eq x) ns ≡ true → Contains ns x
found_in x ns = Contains-from_any (λ a b. (bytes_eq-Decides a b).0) x ns

in_found : (x : List ℕ) (ns : List (List ℕ)) → Contains ns x → list_any (bytes_eq x) ns ≡ true
in_found x ns = list_any-from_Contains nat_list_eq_equiv x ns

-- two lists in which each name tests the same have the same names
pub given_names : (ns ms : List (List ℕ)) → ((x : List ℕ) → list_any (bytes_eq x) ns ≡ list_any (bytes_eq x) ms) → (x : List ℕ) → Contains ns x ↔ Contains ms x
given_names ns ms whole x = (λ c. found_in x ms (sym (whole x) ∙ in_found x ns c), λ c. found_in x ns (whole x ∙ in_found x ms c))

-- two tests that come out true for the same
same_tests : (a b : Bool) → (a ≡ true → b ≡ true) → (b ≡ true → a ≡ true) → a ≡ b
same_tests true b f g = sym (f refl)
same_tests false true f g = g refl
same_tests false false f g = refl

-- two lists of names in order that have the same names are one
pub one_list : (ns ms : List (List ℕ)) → AreAscending ns → AreAscending ms → ((x : List ℕ) → Contains ns x ↔ Contains ms x) → ns ≡ ms
one_list ns ms sorted rising same =
    same_names ns ms sorted rising (λ x.
    same_tests (list_any (bytes_eq x) ns) (list_any (bytes_eq x) ms)
    (λ t. in_found x ms ((same x).0 (found_in x ns t)))
    (λ t. in_found x ns ((same x).1 (found_in x ms t))))

-- the units that are known with a list of just those that the state holds
pub known_by_list : (tree : ReadTree) (s : State) (names held units : List (List ℕ)) → tree ≡ s.loaded → ((x : List ℕ) → Contains held x ↔ IsHeld s x)
    → ((x : List ℕ) → Contains units x ↔ IsKnown tree (Contains held) x) → ((x : List ℕ) → list_any (bytes_eq x) names ≡ list_any (bytes_eq x) units)
    → (x : List ℕ) → Contains names x ↔ IsKnown s.loaded (IsHeld s) x
known_by_list tree s names held units same is known whole x =
    let given = given_names names units whole x in
    subst (λ t. Contains names x ↔ IsKnown t (IsHeld s) x) same (
      λ c. known_grows tree (Contains held) (IsHeld s) (λ y h. first (extra ((is y).0 h))) x ((known x).0 (given.0 c)),
      λ k. given.1 ((known x).1 (known_grows tree (IsHeld s) (Contains held) (λ y h. first (extra ((is y).1 h))) x k)),
    )

-- just the same units are known where their names are the same
pub same_by_names : (s t : State) (ns ms : List (List ℕ)) → ((x : List ℕ) → Contains ns x ↔ IsKnown s.loaded (IsHeld s) x)
    → ((x : List ℕ) → Contains ms x ↔ IsKnown t.loaded (IsHeld t) x) → ns ≡ ms → KnowsTheSame s t
same_by_names s t ns ms one other same x = (
  λ k. (other x).0 (subst (λ l. Contains l x) same ((one x).1 k)),
  λ k. (one x).0 (subst (λ l. Contains l x) (sym same) ((other x).1 k)),
)

pub names_by_same : (s t : State) (ns ms : List (List ℕ)) → AreAscending ns → AreAscending ms → ((x : List ℕ) → Contains ns x ↔ IsKnown s.loaded (IsHeld s) x)
    → ((x : List ℕ) → Contains ms x ↔ IsKnown t.loaded (IsHeld t) x) → KnowsTheSame s t → ns ≡ ms
names_by_same s t ns ms sorted rising one other same =
    one_list ns ms sorted rising (λ x. (λ c. (other x).1 ((same x).0 ((one x).0 c)), λ c. (one x).1 ((same x).1 ((other x).0 c))))

-- each unit that is known for a state has a name in the graph that is known for it
pub graph_names_all : (k : KnownView) (s : State) → KnowsFor k s → (x : List ℕ) → IsKnown s.loaded (IsHeld s) x → Contains k.graph.names x
graph_names_all k s h x known =
    (h.made.of.known x).1 (known_grows s.loaded (IsHeld s) (Contains k.extra) (λ y held. (h.made.of.known y).0 (h.held y held)) x known)

-- and so has each that is held in another state for which the same units are known
pub none_held_apart : (k : KnownView) (s t b : State) → KnowsFor k t → KnowsTheSame s t → b ≡ s → (names : List (List ℕ)) → names ≡ k.graph.names → (x : List ℕ) → IsApart names x
    → ¬ IsHeld b x
none_held_apart k s t b h same is names e x apart held =
    let here = subst (λ (y : State). IsHeld y x) is held in
    let there = graph_names_all k t h x ((same x).0 (first (extra here))) in
    subst (λ ns. IsApart ns x) e apart there.0 there.1 (get_or_default k.graph.names there.0 [] x there.1 ∙ there.2)
