-- A tree counts for some number of units; and it is decided whether too many units are known, and whether a state is too heavy.
use Rattle.std.proofs.Common.{ℕ, ◌≡◌, ◌<◌, ◌≢◌, ◌⊎◌, ◌↔◌, ◌∙◌, List, length, AllPairs, refl, sym, ap, subst, inl, inr, arith}
use Rattle.std.specs.Prelude.{max}
use Rattle.std.proofs.lemmas.Bool.{cases_lt}
use Rattle.um_model.specs.Dependencies.{IsKnown, KnowsTooMany, KnowsSoMany, CountsFor}
use Rattle.um_model.specs.Machine.{State, IsHeld, IsCrowded, IsTooHeavy}
use Rattle.um_model.specs.Refusals.{too_large}
use Rattle.um_model.specs.Servable.{Weighs}
use Rattle.um_model.specs.Profiles.{ReadTree, lasting_tree}
use Rattle.um_model.specs.Weight.{weight_of}
use Rattle.um_model.specs.declared.refusals.Limit.TheVariants.{Units}
use Rattle.um_laws.proofs.AmongLaws.{among_contained, contains_among, either_decided, IsListOf}
use Rattle.um_laws.proofs.CausesLaws.{OneOrNone}
use Rattle.um_laws.proofs.KnownLaws.{known_once, too_many_or_not}
use Rattle.um_model.proofs.LeastLaws.{IsDecided}
use Rattle.um_laws.proofs.SceneLaws.{held_list, one_count}

-- ---- the limit of known units

module _ (Extra : List ℕ → Type 0) (extras : List (List ℕ)) (listed : IsListOf Extra extras) where
  -- if a list has all names besides the tree's, too many units are known or not
  pub crowded_or_none : (tree : ReadTree) → OneOrNone (IsCrowded tree Extra)
  crowded_or_none tree = by_tests (either_decided (too_many_or_not tree Extra extras listed) (too_many_or_not (lasting_tree tree) Extra extras listed))
    where
      by_tests : IsDecided (KnowsTooMany tree Extra ⊎ KnowsTooMany (lasting_tree tree) Extra) → OneOrNone (IsCrowded tree Extra)
      by_tests (inl many) = inl (too_large Units, record { many = many; refusal = refl })
      by_tests (inr few) = inr (λ r h. few h.many)

  so_many : (tree : ReadTree) → (count : ℕ) × KnowsSoMany tree Extra count
  so_many tree = by_list (known_once tree Extra extras listed)
    where
      by_list : (units : List (List ℕ)) × IsListOf (IsKnown tree Extra) units × AllPairs (λ x y. x ≢ y) units → (count : ℕ) × KnowsSoMany tree Extra count
      by_list (units, list, apart) = (
        length units,
        record {
          names = units;
          whole = λ unit. (λ contained. list.has unit (among_contained units unit contained), λ known. contains_among units unit (list.all unit known));
          apart = apart;
          long = refl;
        },
      )

  -- a tree counts for some number of units
  pub a_count : (tree : ReadTree) → (count : ℕ) × CountsFor tree Extra count
  a_count tree =
      let whole = so_many tree in
      let rest = so_many (lasting_tree tree) in
      (max whole.0 rest.0, record { held = whole.0; lasting = rest.0; by_tree = whole.1; by_rest = rest.1; greater = refl })

-- ---- the weight of a state

-- a state is too heavy or not
pub heavy_or_not : (size : ℕ) (s : State) → IsDecided (IsTooHeavy size s)
heavy_or_not size s = by_count (a_count (IsHeld s) (held_list s).0 (held_list s).1 s.loaded)
  where
    by_count : (count : ℕ) × CountsFor s.loaded (IsHeld s) count → IsDecided (IsTooHeavy size s)
    by_count (count, counts) = elim (cases_lt size (weight_of s.tree s.loaded.entries count)) as (λ _. IsDecided (IsTooHeavy size s)) [
      | inl more ↦ inl (record { units = count; count = counts; heavy = more })
      | inr most ↦ inr (λ h. let more = subst (λ n. size < weight_of s.tree s.loaded.entries n) (one_count s.loaded (IsHeld s) h.units count h.count counts) h.heavy in omega (arith, most, more))
    ]

-- each state has a weight
pub a_weight : (s : State) → (weight : ℕ) × Weighs s weight
a_weight s =
    let c = a_count (IsHeld s) (held_list s).0 (held_list s).1 s.loaded in
    (weight_of s.tree s.loaded.entries c.0, record { units = c.0; count = c.1; is = refl })

-- and one
pub one_weight : (s : State) (m n : ℕ) → Weighs s m → Weighs s n → m ≡ n
one_weight s m n h k =
    h.is ∙ ap (weight_of s.tree s.loaded.entries) (one_count s.loaded (IsHeld s) h.units k.units h.count k.count) ∙ sym k.is

-- the weight decides whether it is too heavy
pub heavy_by_weight : (size : ℕ) (s : State) (weight : ℕ) → Weighs s weight → IsTooHeavy size s ↔ size < weight
heavy_by_weight size s weight h = (
  λ k. subst (λ n. size < n) (one_weight s (weight_of s.tree s.loaded.entries k.units) weight (record { units = k.units; count = k.count; is = refl }) h) k.heavy,
  λ less. record { units = h.units; count = h.count; heavy = subst (λ n. size < n) h.is less },
)
