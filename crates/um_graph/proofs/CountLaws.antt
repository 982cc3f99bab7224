-- How many units are known, by the names that were followed.
use Rattle.std.proofs.Common.{◌≡◌, ◌≢◌, ◌↔◌, ◌∙◌, ◌+◌, ◌<◌, ◌≤◌, ℕ, zero, suc, List, [], ◌∷◌, length, get_or, AllPairs, Contains, IsSome, Option, Some, None, max, unwrap_or, refl, sym, ap, subst, inl, inr, arith}
use Rattle.std.specs.BTreeMap as sorted
use Rattle.std.specs.BTreeMap.{btree_map_len}
use Rattle.std.specs.Cmp.Lexicographic.{slice_cmp, nat_list_cmp_total}
use Rattle.std.specs.Ordering.{nat_cmp}
use Rattle.std.proofs.lemmas.List.{length-map}
use Rattle.std.proofs.lemmas.List.Elements.{All-contains, Contains-get_or}
use Rattle.std.proofs.lemmas.Map.Keys.{Less-from_sorted}
use Rattle.std.proofs.lemmas.Map.Lookups.{exact_bytes}
use Rattle.std.proofs.lemmas.Map.Views.{btree_map_contains_key_iff}
use Rattle.um_model.specs.Dependencies.{CountsFor, IsKnown, KnowsSoMany, KnowsTooMany}
use Rattle.um_model.specs.Profiles.{ReadTree, lasting_tree}
use Rattle.um_graph.specs.Known.{CountsLasting, IsUnderWay, Loaded}
use Rattle.um_graph.specs.declared.told.Told.{Told}
use Rattle.um_graph.proofs.KnownLaws.{all_followed}
use Rattle.um_graph.proofs.ListLaws.{cons_in, in_cons}
use Rattle.um_graph.proofs.NumberLaws.{not_before_itself}

-- an element is taken out of a list once: all others stay
take_out : {A : Type 0} (ys : List A) (x : A) → Contains ys x → (zs : List A) × (length zs + 1 ≡ length ys) × ((z : A) → Contains ys z → x ≢ z → Contains zs z)
take_out [] x (k, h, e) = absurd (omega arith)
take_out (y ∷ ys) x (zero, h, e) = (ys, omega arith, λ z c ne. elim (in_cons y ys z c) as (λ _. Contains ys z) [ inl q ↦ absurd (ne (sym e ∙ q)) | inr d ↦ d ])
take_out (y ∷ ys) x (suc k, h, e) =
    let r = take_out ys x (k, omega arith, e) in
    (y ∷ r.0, omega (arith, r.1), λ z c ne. elim (in_cons y ys z c) as (λ _. Contains (y ∷ r.0) z) [ inl q ↦ (0, omega arith, q) | inr d ↦ cons_in y r.0 z (r.2 z d ne) ])

-- different elements of a list are no more than the list has
no_more : {A : Type 0} (xs ys : List A) → AllPairs (λ x y. x ≢ y) xs → ((z : A) → Contains xs z → Contains ys z) → length xs ≤ length ys
no_more [] ys h f = omega arith
no_more (x ∷ xs) ys h f =
    let r = take_out ys x (f x (0, omega arith, refl)) in
    let rest = no_more xs r.0 (λ i j d lt le. h (suc i) (suc j) d (omega arith) (omega arith)) (λ z c. r.2 z (f z (cons_in x xs z c)) (apart z c)) in
    omega (arith, r.1, rest)
  where
    apart : (z : _) → Contains xs z → x ≢ z
    apart z (k, lt, e) q = h 0 (suc k) z (omega arith) (omega arith) (q ∙ sym e)

module _ (tree : ReadTree) (extra : List (List ℕ)) (loaded : Loaded) where
  keys_followed : (x : List ℕ) → IsSome (sorted.get (slice_cmp nat_cmp) loaded x) ↔ Contains (sorted.keys loaded) x
  keys_followed x = btree_map_contains_key_iff nat_list_cmp_total exact_bytes loaded x

  pub too_many : (left : List (List ℕ)) (told : List Told) → IsUnderWay tree extra loaded left told → sorted.IsOrdered (slice_cmp nat_cmp) loaded → 1024 < btree_map_len loaded → KnowsTooMany tree (Contains extra)
  too_many left told w o m = record {
    names = sorted.keys loaded;
    known = λ k d lt. w.known (get_or (sorted.keys loaded) k d) (inl ((keys_followed _).1 (Contains-get_or (sorted.keys loaded) k d lt)));
    apart = λ i j d lt le e. not_before_itself _ _ (Less-from_sorted (slice_cmp nat_cmp) (sorted.keys loaded) i j d o lt le) e;
    many = omega (arith, m, length-map loaded.entries (λ (e : List ℕ × _). e.0));
  }

  pub knows : (told : List Told) → IsUnderWay tree extra loaded [] told → sorted.IsOrdered (slice_cmp nat_cmp) loaded → KnowsSoMany tree (Contains extra) (btree_map_len loaded)
  knows told w o = record {
    names = sorted.keys loaded;
    whole = λ x. (λ c. w.known x (inl ((keys_followed x).1 c)), λ k. (keys_followed x).0 (all_followed tree extra loaded told w x k));
    apart = λ i j d lt le e. not_before_itself _ _ (Less-from_sorted (slice_cmp nat_cmp) (sorted.keys loaded) i j d o lt le) e;
    long = length-map loaded.entries (λ (e : List ℕ × _). e.0);
  }

  pub not_too_many : (told : List Told) → IsUnderWay tree extra loaded [] told → btree_map_len loaded ≤ 1024 → KnowsTooMany tree (Contains extra) → ⊥
  not_too_many told w m k =
      let few = no_more k.names (sorted.keys loaded) k.apart (λ z c. (keys_followed z).0 (all_followed tree extra loaded told w z (All-contains (IsKnown tree (Contains extra)) k.names z k.known c))) in
      omega (arith, m, k.many, few, length-map loaded.entries (λ (e : List ℕ × _). e.0))

-- the greater of the two counts, if the tree without its entries under `run/` is another
pub counts_for : (tree : ReadTree) (extra : List (List ℕ)) (o : Option ℕ) (held n count : ℕ) → CountsLasting tree extra o → KnowsSoMany tree (Contains extra) held → n ≡ held → count ≡ max n (unwrap_or o n) → CountsFor tree (Contains extra) count
counts_for tree extra None held n count same knows is e =
    record { held = held; lasting = held; by_tree = knows; by_rest = subst (λ t. KnowsSoMany t (Contains extra) held) (sym same) knows; greater = e ∙ ap (λ m. max m m) is }
counts_for tree extra (Some lasting) held n count told knows is e =
    record { held = held; lasting = lasting; by_tree = knows; by_rest = told.0; greater = e ∙ ap (λ m. max m lasting) is }

pub few_lasting : (tree : ReadTree) (extra : List (List ℕ)) (o : Option ℕ) → CountsLasting tree extra o → ¬ KnowsTooMany tree (Contains extra) → ¬ KnowsTooMany (lasting_tree tree) (Contains extra)
few_lasting tree extra None same few k = few (subst (λ t. KnowsTooMany t (Contains extra)) same k)
few_lasting tree extra (Some lasting) told few k = told.1 k
