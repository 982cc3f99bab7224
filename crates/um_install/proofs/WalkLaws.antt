-- The units that a walk takes, step by step.
use Rattle.std.proofs.Common.{ℕ, zero, suc, ◌+◌, ◌<◌, ◌≡◌, ◌⊎◌, ◌∙◌, Bool, true, false, cond, is_eq, List, [], ◌∷◌, ◌++◌, length, Contains, get_or, Option, Some, None, is_some, refl, sym, ap, subst, arith, inl, inr}
use Rattle.std.specs.Cmp.Lexicographic.{slice_cmp, nat_list_cmp_total}
use Rattle.std.specs.FinMap as map
use Rattle.std.specs.Ordering.{nat_cmp, eq_by_cmp}
use Rattle.std.proofs.lemmas.Bool.{cases_lt}
use Rattle.std.proofs.lemmas.Cmp.{tied_itself}
use Rattle.std.proofs.lemmas.List.{get_or_append_left, get_or_default, length-append}
use Rattle.std.proofs.lemmas.List.Elements.{Contains-append_left, Contains-append_right, Contains-append_cases, Contains-get_or}
use Rattle.std.proofs.lemmas.Map.Lookups.{exact_bytes}
use Rattle.std.proofs.lemmas.Map.Views.{tells_apart}
use Rattle.std.proofs.lemmas.Option.{same_Some, none-some}
use Rattle.um_model.specs.Profiles.{ReadTree}
use Rattle.um_model.specs.Install.{install_of}
use Rattle.um_model.specs.Names.{is_unit_name}
use Rattle.um_model.specs.Reached.{first, next}
use Rattle.um_model.specs.Tree.{Tree}
use Rattle.um_model.specs.Units.{Loading, load}
use Rattle.um_install.specs.View.{Units}
use Rattle.um_install.specs.Walk.{AreWalked, named, IsUnderWay, IsWalked, also_in, listed, name_in, name_taken, units_with, waiting_with}
use Rattle.um_install.specs.declared.walk.Naming.{Naming}
use Rattle.um_install.proofs.Members.{contains_flat, flat_contains}
use Rattle.um_install.proofs.AlsoLaws.{also_is_name}

only : (a x : List ℕ) → Contains (a ∷ []) x → a ≡ x
only a x (zero, h, e) = e
only a x (suc k, h, e) = absurd (omega arith)

not_there : (units : Units) (unit : List ℕ) (l : Loading) → units ≡ map.empty → map.get units unit ≡ Some l → ⊥
not_there units unit l none at = none-some l (sym (map.get-empty (slice_cmp nat_cmp) unit) ∙ (ap (λ m. map.get m unit) (sym none) ∙ at))

some_still : (b : Bool) (l : Loading) (o : Option Loading) → is_some o ≡ true → is_some (cond b (Some l) o) ≡ true
some_still true l o s = refl
some_still false l o s = s

pub some_value : {A : Type 0} (o : Option A) → is_some o ≡ true → (a : A) × (o ≡ Some a)
some_value None s = cc
some_value (Some a) s = (a, refl)

in_listed : (text name : List ℕ) (b : Bool) → is_unit_name text ≡ b → Contains (listed (cond b (Some text) None)) name → text ≡ name
in_listed text name true e c = only text name c
in_listed text name false e (k, h, g) = absurd (omega arith)

listed_self : (name : List ℕ) → is_unit_name name ≡ true → Contains (name_in name) name
listed_self name e = subst (λ b. Contains (listed (cond b (Some name) None)) name) (sym e) (0, omega arith, refl)

-- a waiting name was written
written : (l : Loading) (name : List ℕ) → Contains (also_in l) name → Contains (install_of l).also name
written l name c =
    let r = flat_contains name_in (install_of l).also name c in
    subst (Contains (install_of l).also) (in_listed r.0 name (is_unit_name r.0) refl r.2) r.1

module _ (naming : Naming) (tree : ReadTree) (asked : List ℕ) where
  pub begun_walk : (units : Units) (waiting : List (List ℕ)) → units ≡ map.empty → waiting ≡ asked ∷ [] → IsUnderWay naming tree asked units waiting 0
  begun_walk units waiting none one = record {
    loaded = λ unit l at. absurd (not_there units unit l none at);
    walked = λ unit l at. absurd (not_there units unit l none at);
    meant = λ name c.
        subst (λ n. IsWalked naming tree asked (name_taken naming tree.entries n)) (only asked name (subst (λ ws. Contains ws name) one c)) (first refl);
    begun = subst (λ ws. Contains ws asked) (sym one) (0, omega arith, refl);
    followed = λ unit l at name c. absurd (not_there units unit l none at);
    done = λ k less. absurd (omega (arith, less));
    within = omega arith;
  }

  module _ (units : Units) (waiting : List (List ℕ)) (unit : List ℕ) (at : ℕ) (u : IsUnderWay naming tree asked units waiting at) (less : at < length waiting)
      (unit_is : unit ≡ name_taken naming tree.entries (get_or waiting at [])) where
    here_walked : IsWalked naming tree asked unit
    here_walked = subst (IsWalked naming tree asked) (sym unit_is) (u.meant (get_or waiting at []) (Contains-get_or waiting at [] less))

    stays : map.contains_key units unit ≡ true → IsUnderWay naming tree asked units waiting (at + 1)
    stays there = record {
      loaded = u.loaded;
      walked = u.walked;
      meant = u.meant;
      begun = u.begun;
      followed = u.followed;
      done = λ k below. elim (cases_lt k at) as (λ _. map.contains_key units (name_taken naming tree.entries (get_or waiting k [])) ≡ true) [
        | inl lower ↦ u.done k lower
        | inr most ↦
            let same : at ≡ k = omega (arith, below, most) in
            subst (λ j. map.contains_key units (name_taken naming tree.entries (get_or waiting j [])) ≡ true) same
            (ap (λ n. map.contains_key units n) (sym unit_is) ∙ there)
      ];
      within = omega (arith, less);
    }

    abbrev more : Loading
    more = load tree unit

    abbrev grown : Units
    grown = map.insert units unit more

    held : (q : List ℕ) (v : Loading) → map.get grown q ≡ Some v → ((q ≡ unit) × (more ≡ v)) ⊎ (map.get units q ≡ Some v)
    held q v is = elim (eq_by_cmp (slice_cmp nat_cmp) q unit) as (λ b. eq_by_cmp (slice_cmp nat_cmp) q unit ≡ b → ((q ≡ unit) × (more ≡ v)) ⊎ (map.get units q ≡ Some v)) [
      | true ↦ λ t.
          inl (
            tells_apart exact_bytes q unit t,
            same_Some more v (sym (map.get-insert nat_list_cmp_total units unit more q ∙ ap (λ b. cond b (Some more) (map.get units q)) t) ∙ is),
          )
      | false ↦ λ f. inr (sym (map.get-insert nat_list_cmp_total units unit more q ∙ ap (λ b. cond b (Some more) (map.get units q)) f) ∙ is)
    ] refl

    kept_key : (q : List ℕ) → map.contains_key units q ≡ true → map.contains_key grown q ≡ true
    kept_key q there =
        ap is_some (map.get-insert nat_list_cmp_total units unit more q) ∙ some_still (eq_by_cmp (slice_cmp nat_cmp) q unit) more (map.get units q) there

    new_key : map.contains_key grown unit ≡ true
    new_key =
        ap is_some (map.get-insert nat_list_cmp_total units unit more unit ∙ ap (λ o. cond (is_eq o) (Some more) (map.get units unit)) (tied_itself nat_list_cmp_total unit))

    grows : IsUnderWay naming tree asked grown (waiting ++ also_in more) (at + 1)
    grows = record {
      loaded = λ q v is. elim (held q v is) as (λ _. v ≡ load tree q) [ inl h ↦ sym h.1 ∙ ap (load tree) (sym h.0) | inr o ↦ u.loaded q v o ];
      walked = λ q v is. elim (held q v is) as (λ _. IsWalked naming tree asked q) [ inl h ↦ subst (IsWalked naming tree asked) (sym h.0) here_walked | inr o ↦ u.walked q v o ];
      meant = λ name c. elim (Contains-append_cases waiting (also_in more) name c) as (λ _. IsWalked naming tree asked (name_taken naming tree.entries name)) [
        | inl a ↦ u.meant name a
        | inr b ↦ next here_walked (named (written more name b))
      ];
      begun = Contains-append_left waiting (also_in more) asked u.begun;
      followed = λ q v is name c. elim (held q v is) as (λ _. Contains (waiting ++ also_in more) name) [
        | inl h ↦ Contains-append_right waiting (also_in more) name (subst (λ x. Contains (also_in x) name) (sym h.1) c)
        | inr o ↦ Contains-append_left waiting (also_in more) name (u.followed q v o name c)
      ];
      done = λ k below.
          let short : k < length waiting = omega (arith, below, less) in
          subst (λ n. map.contains_key grown (name_taken naming tree.entries n) ≡ true) (sym (get_or_append_left waiting (also_in more) [] k short))
          (elim (cases_lt k at) as (λ _. map.contains_key grown (name_taken naming tree.entries (get_or waiting k [])) ≡ true) [
            | inl lower ↦ kept_key (name_taken naming tree.entries (get_or waiting k [])) (u.done k lower)
            | inr most ↦
                let same : at ≡ k = omega (arith, below, most) in
                subst (λ j. map.contains_key grown (name_taken naming tree.entries (get_or waiting j [])) ≡ true) same
                (ap (λ n. map.contains_key grown n) (sym unit_is) ∙ new_key)
          ]);
      within = let whole = length-append waiting (also_in more) in omega (arith, less, whole);
    }

    by_key : (b : Bool) → map.contains_key units unit ≡ b → IsUnderWay naming tree asked (cond b units grown) (cond b waiting (waiting ++ also_in more)) (at + 1)
    by_key true t = stays t
    by_key false f = grows

    pub stepped : (units' : Units) (waiting' : List (List ℕ)) → units' ≡ units_with tree units unit → waiting' ≡ waiting_with tree units waiting unit
        → IsUnderWay naming tree asked units' waiting' (at + 1)
    stepped units' waiting' e f =
        subst (λ m. IsUnderWay naming tree asked m waiting' (at + 1)) (sym e)
        (subst (λ ws. IsUnderWay naming tree asked (units_with tree units unit) ws (at + 1)) (sym f) (by_key (map.contains_key units unit) refl))

  module _ (units : Units) (waiting : List (List ℕ)) (at : ℕ) (u : IsUnderWay naming tree asked units waiting at) (all : ¬ (at < length waiting)) where
    taken : (name : List ℕ) → Contains waiting name → map.contains_key units (name_taken naming tree.entries name) ≡ true
    taken name (k, h, g) = elim (cases_lt k at) as (λ _. map.contains_key units (name_taken naming tree.entries name) ≡ true) [
      | inl lower ↦ subst (λ n. map.contains_key units (name_taken naming tree.entries n) ≡ true) (get_or_default waiting k [] name h ∙ g) (u.done k lower)
      | inr most ↦ absurd (all (omega (arith, h, most)))
    ]

    loaded_at : (unit : List ℕ) → map.contains_key units unit ≡ true → map.get units unit ≡ Some (load tree unit)
    loaded_at unit there = let v = some_value (map.get units unit) there in v.1 ∙ ap Some (u.loaded unit v.0 v.1)

    whole : (unit : List ℕ) → IsWalked naming tree asked unit → map.contains_key units unit ≡ true
    whole unit (first e) = subst (λ n. map.contains_key units n ≡ true) (sym e) (taken asked u.begun)
    whole unit (next {a = a} r (named {name = name} c)) =
        taken name
        (u.followed a (load tree a) (loaded_at a (whole a r)) name
        (contains_flat name_in (install_of (load tree a)).also name name c (listed_self name (also_is_name tree a name c))))

    pub finished : AreWalked naming tree asked units
    finished = record { loaded = u.loaded; walked = u.walked; whole = whole }
