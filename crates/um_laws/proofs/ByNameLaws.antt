-- Names can be listed in their order, each once.
use Rattle.std.proofs.Common.{ℕ, ◌≡◌, ◌∙◌, List, [], ◌∷◌, All, AllPairs, sym, subst, inl, inr, arith}
use Rattle.std.proofs.lemmas.List.Kept.{AllPairs-cons}
use Rattle.um_model.specs.Least.{IsNamedBefore}
use Rattle.um_laws.proofs.AmongLaws.{IsListOf, list_of}
use Rattle.um_model.proofs.LeastLaws.{IsDecided, Among}
use Rattle.um_laws.proofs.OnceLaws.{among_at}
use Rattle.um_laws.proofs.SceneLaws.{first_before, others_sorted}
use Rattle.um_model.proofs.TimersLaws.{same_name, one_named_first, named_trans}

all_among : (P : List ℕ → Type 0) (xs : List (List ℕ)) → ((z : List ℕ) → Among xs z → P z) → All P xs
all_among P xs each k d few = each _ (among_at xs k d few)

-- one name more
record IsWith (name : List ℕ) (names more : List (List ℕ)) : Type 0 where
  has : (z : List ℕ) → Among more z → Among (name ∷ names) z
  all : (z : List ℕ) → Among (name ∷ names) z → Among more z
  sorted : AllPairs IsNamedBefore more

before_all : (name first : List ℕ) (names : List (List ℕ)) → AllPairs IsNamedBefore (first ∷ names) → IsNamedBefore name first
    → (z : List ℕ) → Among (first ∷ names) z → IsNamedBefore name z
before_all name first names sorted less z (inl is) = subst (IsNamedBefore name) (sym is) less
before_all name first names sorted less z (inr later) = named_trans name first z less (first_before first names sorted z later)

-- the name is there already
there_already : (name first : List ℕ) (names : List (List ℕ)) → name ≡ first → AllPairs IsNamedBefore (first ∷ names) → IsWith name (first ∷ names) (first ∷ names)
there_already name first names same sorted = record { has = λ z is. inr is; all = all; sorted = sorted }
  where
    all : (z : List ℕ) → Among (name ∷ first ∷ names) z → Among (first ∷ names) z
    all z (inl is) = inl (is ∙ same)
    all z (inr later) = later

-- the name stands after the first one
behind_first : (name first : List ℕ) (names more : List (List ℕ)) → IsNamedBefore first name → AllPairs IsNamedBefore (first ∷ names) → IsWith name names more
    → IsWith name (first ∷ names) (first ∷ more)
behind_first name first names more less sorted w = record {
  has = has;
  all = all;
  sorted = AllPairs-cons IsNamedBefore first more (all_among (IsNamedBefore first) more (λ z is. later z (w.has z is))) w.sorted;
}
  where
    later : (z : List ℕ) → Among (name ∷ names) z → IsNamedBefore first z
    later z (inl is) = subst (IsNamedBefore first) (sym is) less
    later z (inr is) = first_before first names sorted z is

    around_first : (z : List ℕ) → Among (name ∷ names) z → Among (name ∷ first ∷ names) z
    around_first z (inl is) = inl is
    around_first z (inr is) = inr (inr is)

    has : (z : List ℕ) → Among (first ∷ more) z → Among (name ∷ first ∷ names) z
    has z (inl is) = inr (inl is)
    has z (inr is) = around_first z (w.has z is)

    all : (z : List ℕ) → Among (name ∷ first ∷ names) z → Among (first ∷ more) z
    all z (inl is) = inr (w.all z (inl is))
    all z (inr (inl is)) = inl is
    all z (inr (inr is)) = inr (w.all z (inr is))

-- a sorted list with one name more
put_in : (name : List ℕ) (names : List (List ℕ)) → AllPairs IsNamedBefore names → (more : List (List ℕ)) × IsWith name names more
put_in name [] sorted = (name ∷ [], record { has = λ z is. is; all = λ z is. is; sorted = AllPairs-cons IsNamedBefore name [] (λ k d few. absurd (omega arith)) sorted })
put_in name (first ∷ names) sorted = elim (same_name name first) as (λ _. (more : List (List ℕ)) × IsWith name (first ∷ names) more) [
  | inl same ↦ (first ∷ names, there_already name first names same sorted)
  | inr apart ↦ elim (one_named_first name first apart) as (λ _. (more : List (List ℕ)) × IsWith name (first ∷ names) more) [
    | inl less ↦ (
      name ∷ first ∷ names,
      record {
        has = λ z is. is;
        all = λ z is. is;
        sorted = AllPairs-cons IsNamedBefore name (first ∷ names) (all_among (IsNamedBefore name) (first ∷ names) (before_all name first names sorted less)) sorted;
      },
    )
    | inr more ↦
        let rest = put_in name names (others_sorted first names sorted) in
        (first ∷ rest.0, behind_first name first names rest.0 more sorted rest.1)
  ]
]

-- the same names in their order
in_order : (names : List (List ℕ)) → (sorted : List (List ℕ)) × IsListOf (Among names) sorted × AllPairs IsNamedBefore sorted
in_order [] = ([], record { has = λ z is. is; all = λ z is. is }, λ i j d less few. absurd (omega arith))
in_order (name ∷ names) = with_first (in_order names)
  where
    with_first : (sorted : List (List ℕ)) × IsListOf (Among names) sorted × AllPairs IsNamedBefore sorted
        → (sorted : List (List ℕ)) × IsListOf (Among (name ∷ names)) sorted × AllPairs IsNamedBefore sorted
    with_first (sorted, list, ascends) = by_list (put_in name sorted ascends)
      where
        there : (z : List ℕ) → Among (name ∷ sorted) z → Among (name ∷ names) z
        there z (inl is) = inl is
        there z (inr later) = inr (list.has z later)

        back : (z : List ℕ) → Among (name ∷ names) z → Among (name ∷ sorted) z
        back z (inl is) = inl is
        back z (inr later) = inr (list.all z later)

        by_list : (more : List (List ℕ)) × IsWith name sorted more → (sorted : List (List ℕ)) × IsListOf (Among (name ∷ names)) sorted × AllPairs IsNamedBefore sorted
        by_list (more, w) = (more, record { has = λ z is. there z (w.has z is); all = λ z is. w.all z (back z is) }, w.sorted)

-- if a list has all names that have the property, some sorted one has just those
pub list_in_order : (Has : List ℕ → Type 0) → ((name : List ℕ) → IsDecided (Has name)) → (cover : List (List ℕ)) → ((name : List ℕ) → Has name → Among cover name)
    → (names : List (List ℕ)) × IsListOf Has names × AllPairs IsNamedBefore names
list_in_order Has decided cover covers = by_list (list_of Has decided cover covers)
  where
    by_sorted : (xs : List (List ℕ)) → IsListOf Has xs → (sorted : List (List ℕ)) × IsListOf (Among xs) sorted × AllPairs IsNamedBefore sorted
        → (names : List (List ℕ)) × IsListOf Has names × AllPairs IsNamedBefore names
    by_sorted xs those (sorted, list, ascends) =
        (sorted, record { has = λ z is. those.has z (list.has z is); all = λ z has. list.all z (those.all z has) }, ascends)

    by_list : (xs : List (List ℕ)) × IsListOf Has xs → (names : List (List ℕ)) × IsListOf Has names × AllPairs IsNamedBefore names
    by_list (xs, those) = by_sorted xs those (in_order xs)
