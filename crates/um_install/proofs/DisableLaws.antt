-- The tree without the links that disabling removes, and whether there are any.
use Rattle.std.proofs.Common.{ℕ, zero, suc, ◌≡◌, ◌≢◌, ◌⊎◌, ◌∙◌, Bool, true, false, cond, ◌&&◌, ◌||◌, is_eq, List, [], ◌∷◌, map as each, filter, Contains, Option, Some, None, is_none, is_some, Result, Ok, Err, Less, refl, sym, ap, subst, arith, inl, inr, true≢false}
use Rattle.std.specs.Cmp.{eq_by_cmp_equiv}
use Rattle.std.specs.Cmp.Lexicographic.{slice_cmp, nat_list_cmp_total}
use Rattle.std.specs.FinMap as map
use Rattle.std.specs.List.{list_any}
use Rattle.std.specs.Ordering.{nat_cmp, eq_by_cmp}
use Rattle.std.specs.Result.{IfOk}
use Rattle.std.specs.Str.{bytes_eq}
use Rattle.std.proofs.lemmas.Cmp.{tied_itself}
use Rattle.std.proofs.lemmas.Map.Lookups.{exact_bytes}
use Rattle.std.proofs.lemmas.Map.Views.{tells_apart}
use Rattle.std.proofs.lemmas.Slice.Eq.{bytes_eq-Decides}
use Rattle.um_model.specs.Profiles.{ReadTree}
use Rattle.um_model.specs.Install.{IsMeant, IsUnlinked, IsDisabled, Installs, disables, RefusesLinks, IsEnabledAs, enabling_of}
use Rattle.um_model.specs.Reached.{first, next}
use Rattle.um_model.specs.Refusals.{Refused, bad_path, unless_refused}
use Rattle.um_model.specs.Resolution.{unit_in_target}
use Rattle.um_model.specs.Tree.{Tree, Entry, File, Link, PathParts, Place, Unit, DropIn, Wants, Requires, path_parts, remove_at}
use Rattle.um_model.specs.Units.{Loading}
use Rattle.um_model.specs.declared.install.Enabling.{Enabling}
use Rattle.um_model.specs.declared.install.InstallVerb.TheVariants as verbs
use Rattle.um_laws.proofs.InstallLaws.{unlinked_by, unlinked_test, pulls_in, is_link_for, is_link_of}
use Rattle.um_model.specs.Install.{is_etc}
use Rattle.um_laws.proofs.NameMaps.{After, Rising}
use Rattle.um_model.proofs.Forms.{cause}
use Rattle.um_wire.specs.Refusal.{refused_of}
use Rattle.um_wire.specs.declared.refusal.Refusal.{Refusal}
use Rattle.um_install.specs.Changes.{and_then, removed, is_link_for_any, is_link_of_any, is_unlinked, paths_unlinked, pulls_in_any}
use Rattle.um_wire.specs.Gives.{Gives, RefusesBy}
use Rattle.um_install.specs.View.{Units}
use Rattle.um_install.specs.Walk.{AreWalked, named, IsWalked}
use Rattle.um_install.specs.declared.walk.Naming.TheVariants.{AsWritten}
use Rattle.um_install.proofs.LinkLaws.{same_text}
use Rattle.um_install.proofs.Members.{after_at, contains_each, contains_filter, contains_later, each_contains, filter_contains, get_there, rising, there_get}
use Rattle.um_install.proofs.WalkLaws.{some_value}

-- ---- the paths taken out one after another

taken_out : Tree → List (List ℕ) → Tree
taken_out tree [] = tree
taken_out tree (p ∷ ps) = taken_out (map.remove tree p) ps

gone_once : (b : Bool) (o : Option Entry) → o ≡ None → cond b None o ≡ None
gone_once true o n = refl
gone_once false o n = n

none_stays : (tree : Tree) (ps : List (List ℕ)) (q : List ℕ) → map.get tree q ≡ None → map.get (taken_out tree ps) q ≡ None
unfolding taken_out
none_stays tree [] q n = n
none_stays tree (p ∷ ps) q n =
    none_stays (map.remove tree p) ps q (map.get-remove nat_list_cmp_total tree p q ∙ gone_once (eq_by_cmp (slice_cmp nat_cmp) q p) (map.get tree q) n)

gone_at : (tree : Tree) (ps : List (List ℕ)) (q : List ℕ) → Contains ps q → map.get (taken_out tree ps) q ≡ None
unfolding taken_out
gone_at tree [] q (k, h, g) = absurd (omega arith)
gone_at tree (p ∷ ps) q (zero, h, g) =
    none_stays (map.remove tree p) ps q
    (map.get-remove nat_list_cmp_total tree p q
    ∙ ap (λ b. cond b None (map.get tree q)) (ap (λ x. eq_by_cmp (slice_cmp nat_cmp) q x) g ∙ ap is_eq (tied_itself nat_list_cmp_total q)))
gone_at tree (p ∷ ps) q (suc k, h, g) = gone_at (map.remove tree p) ps q (k, omega arith, g)

apart : (tree : Tree) (p q : List ℕ) → eq_by_cmp (slice_cmp nat_cmp) q p ≡ false → map.get (map.remove tree p) q ≡ map.get tree q
apart tree p q f = map.get-remove nat_list_cmp_total tree p q ∙ ap (λ b. cond b None (map.get tree q)) f

not_tied : (b : Bool) (p q : List ℕ) → eq_by_cmp (slice_cmp nat_cmp) q p ≡ b → p ≢ q → b ≡ false
not_tied true p q e ne = absurd (ne (sym (tells_apart exact_bytes q p e)))
not_tied false p q e ne = refl

kept_at : (tree : Tree) (ps : List (List ℕ)) (q : List ℕ) → ¬ Contains ps q → map.get (taken_out tree ps) q ≡ map.get tree q
unfolding taken_out
kept_at tree [] q n = refl
kept_at tree (p ∷ ps) q n =
    kept_at (map.remove tree p) ps q (λ c. n (contains_later p ps q c))
    ∙ apart tree p q (not_tied (eq_by_cmp (slice_cmp nat_cmp) q p) p q refl (λ e. n (0, omega arith, e)))

abbrev first_of : List ℕ × Entry → List ℕ
first_of e = e.0

not_none : (o : Option Entry) → is_some o ≡ true → is_none o ≡ false
not_none None s = cc
not_none (Some e) s = refl

one_removed : (tree : Tree) (p : List ℕ) → is_some (map.get tree p) ≡ true → remove_at tree p ≡ Ok (map.remove tree p)
unfolding remove_at
one_removed tree p s = ap (λ b. unless_refused (cause b (bad_path p)) (map.remove tree p)) (not_none (map.get tree p) s)

later_there : (tree : Tree) (x : List ℕ × Entry) (fs : List (List ℕ × Entry)) → After x.0 fs → ((e : List ℕ × Entry) → Contains (x ∷ fs) e → is_some (map.get tree e.0) ≡ true)
    → (e : List ℕ × Entry) → Contains fs e → is_some (map.get (map.remove tree x.0) e.0) ≡ true
later_there tree x fs a all e c =
    let less = after_at x.0 fs a c.0 e c.1 c.2 in
    ap is_some (apart tree x.0 e.0 ((eq_by_cmp_equiv nat_list_cmp_total).symm e.0 x.0 ∙ ap is_eq less)) ∙ all e (contains_later x fs e c)

all_removed : (tree : Tree) (fs : List (List ℕ × Entry)) → Rising fs → ((e : List ℕ × Entry) → Contains fs e → is_some (map.get tree e.0) ≡ true)
    → removed tree (each first_of fs) ≡ Ok (taken_out tree (each first_of fs))
unfolding taken_out
all_removed tree [] r all = refl
all_removed tree (x ∷ fs) r all =
    ap (λ o. and_then o (λ next. removed next (each first_of fs))) (one_removed tree x.0 (all x (0, omega arith, refl)))
    ∙ all_removed (map.remove tree x.0) fs r.1 (later_there tree x fs r.0 all)

module _ (test : List ℕ × Entry → Bool) where
  after_kept : (b : Bool) (n : List ℕ) (x : List ℕ × Entry) (es : List (List ℕ × Entry)) → slice_cmp nat_cmp n x.0 ≡ Less → After n es → After n (cond b (x ∷ es) es)
  after_kept true n x es l a = (l, a)
  after_kept false n x es l a = a

  after_filter : (n : List ℕ) (es : List (List ℕ × Entry)) → After n es → After n (filter test es)
  after_filter n [] a = tt
  after_filter n (x ∷ es) a = after_kept (test x) n x (filter test es) a.0 (after_filter n es a.1)

  rising_kept : (b : Bool) (x : List ℕ × Entry) (es : List (List ℕ × Entry)) → After x.0 es → Rising es → Rising (cond b (x ∷ es) es)
  rising_kept true x es a r = (a, r)
  rising_kept false x es a r = r

  rising_filter : (es : List (List ℕ × Entry)) → Rising es → Rising (filter test es)
  rising_filter [] r = tt
  rising_filter (x ∷ es) r = rising_kept (test x) x (filter test es) (after_filter x.0 es r.0) (rising_filter es r.1)

-- ---- tests

both : (a b : Bool) → (a && b) ≡ true → (a ≡ true) × (b ≡ true)
both true b e = (refl, e)
both false b e = cc

and_also : (a b : Bool) → a ≡ true → b ≡ true → (a && b) ≡ true
and_also true b d e = e
and_also false b d e = cc

either : (a b : Bool) → (a || b) ≡ true → (a ≡ true) ⊎ (b ≡ true)
either true b e = inl refl
either false b e = inr e

left : (a b : Bool) → a ≡ true → (a || b) ≡ true
left true b e = refl
left false b e = cc

right : (a b : Bool) → b ≡ true → (a || b) ≡ true
right true b e = refl
right false b e = e

self : (n : List ℕ) → bytes_eq n n ≡ true
self n = (bytes_eq-Decides n n).1 refl

never : {A : Type 0} → false ≡ true → A
never e = absurd (true≢false (sym e))

any_out : (test : List ℕ × Entry → Bool) (es : List (List ℕ × Entry)) → list_any test es ≡ true → (e : List ℕ × Entry) × Contains es e × (test e ≡ true)
any_out test [] h = never h
any_out test (x ∷ es) h = elim (either (test x) (list_any test es) h) as (λ _. (e : List ℕ × Entry) × Contains (x ∷ es) e × (test e ≡ true)) [
  | inl t ↦ (x, (0, omega arith, refl), t)
  | inr r ↦ let o = any_out test es r in (o.0, contains_later x es o.0 o.1, o.2)
]

any_in : (test : List ℕ × Entry → Bool) (es : List (List ℕ × Entry)) (e : List ℕ × Entry) → Contains es e → test e ≡ true → list_any test es ≡ true
any_in test [] e (k, h, g) t = absurd (omega arith)
any_in test (x ∷ es) e (zero, h, g) t = left (test x) (list_any test es) (ap test g ∙ t)
any_in test (x ∷ es) e (suc k, h, g) t = right (test x) (list_any test es) (any_in test es e (k, omega arith, g) t)

module _ (tree : ReadTree) (asked : List ℕ) (units : Units) (w : AreWalked AsWritten tree asked units) where
  to_meant : (name : List ℕ) → IsWalked AsWritten tree asked name → IsMeant tree asked name
  to_meant name (first e) = first e
  to_meant name (next {a = a} r (named c)) = next (to_meant a r) c

  from_meant : (name : List ℕ) → IsMeant tree asked name → IsWalked AsWritten tree asked name
  from_meant name (first e) = first e
  from_meant name (next {a = a} r c) = next (from_meant a r) (named c)

  key_meant : (name : List ℕ) → map.contains_key units name ≡ true → IsMeant tree asked name
  key_meant name k = let v = some_value (map.get units name) k in to_meant name (w.walked name v.0 v.1)

  meant_key : (name : List ℕ) → IsMeant tree asked name → map.contains_key units name ≡ true
  meant_key name m = w.whole name (from_meant name m)

  pulls_out : (place : Place) → pulls_in_any units place ≡ true → (name : List ℕ) × (map.contains_key units name ≡ true) × (pulls_in place name ≡ true)
  pulls_out Unit e = never e
  pulls_out (DropIn n) e = never e
  pulls_out (Wants other) e = (other, e, self other)
  pulls_out (Requires other) e = (other, e, self other)

  pulls_back : (place : Place) (name : List ℕ) → map.contains_key units name ≡ true → pulls_in place name ≡ true → pulls_in_any units place ≡ true
  pulls_back Unit name k e = never e
  pulls_back (DropIn n) name k e = never e
  pulls_back (Wants other) name k e = ap (λ n. map.contains_key units n) (same_text other name e) ∙ k
  pulls_back (Requires other) name k e = ap (λ n. map.contains_key units n) (same_text other name e) ∙ k

  link_out : (p : PathParts) (target : List ℕ) → is_link_for_any units p target ≡ true → (name : List ℕ) × (map.contains_key units name ≡ true) × (is_link_for name p target ≡ true)
  link_out p target h =
      let a = both (is_etc p.layer) (pulls_in_any units p.place || map.contains_key units (unit_in_target target)) h in
      elim (either (pulls_in_any units p.place) (map.contains_key units (unit_in_target target)) a.1) as (λ _. (name : List ℕ) × (map.contains_key units name ≡ true) × (is_link_for name p target ≡ true)) [
        | inl x ↦
            let r = pulls_out p.place x in
            (r.0, r.1, and_also (is_etc p.layer) (pulls_in p.place r.0 || bytes_eq (unit_in_target target) r.0) a.0 (left (pulls_in p.place r.0) (bytes_eq (unit_in_target target) r.0) r.2))
        | inr y ↦ (
          unit_in_target target,
          y,
          and_also (is_etc p.layer) (pulls_in p.place (unit_in_target target) || bytes_eq (unit_in_target target) (unit_in_target target)) a.0
              (right (pulls_in p.place (unit_in_target target)) (bytes_eq (unit_in_target target) (unit_in_target target)) (self (unit_in_target target))),
        )
      ]

  link_back : (p : PathParts) (target name : List ℕ) → map.contains_key units name ≡ true → is_link_for name p target ≡ true → is_link_for_any units p target ≡ true
  link_back p target name k h =
      let a = both (is_etc p.layer) (pulls_in p.place name || bytes_eq (unit_in_target target) name) h in
      and_also (is_etc p.layer) (pulls_in_any units p.place || map.contains_key units (unit_in_target target)) a.0
      (elim (either (pulls_in p.place name) (bytes_eq (unit_in_target target) name) a.1) as (λ _. (pulls_in_any units p.place || map.contains_key units (unit_in_target target)) ≡ true) [
        | inl x ↦ left (pulls_in_any units p.place) (map.contains_key units (unit_in_target target)) (pulls_back p.place name k x)
        | inr y ↦
            right (pulls_in_any units p.place) (map.contains_key units (unit_in_target target))
            (ap (λ n. map.contains_key units n) (same_text (unit_in_target target) name y) ∙ k)
      ])

  at_out : (parts : Option PathParts) (e : Entry) → is_link_of_any units parts e ≡ true → (name : List ℕ) × (map.contains_key units name ≡ true) × (is_link_of name parts (Some e) ≡ true)
  at_out None e h = never h
  at_out (Some p) (File text) h = never h
  at_out (Some p) (Link target) h = link_out p target h

  at_back : (parts : Option PathParts) (o : Option Entry) (name : List ℕ) → map.contains_key units name ≡ true → is_link_of name parts o ≡ true
      → (e : Entry) × (o ≡ Some e) × (is_link_of_any units parts e ≡ true)
  at_back None o name k h = never h
  at_back (Some p) None name k h = never h
  at_back (Some p) (Some (File text)) name k h = never h
  at_back (Some p) (Some (Link target)) name k h = (Link target, refl, link_back p target name k h)

  unlinked_in : (e : List ℕ × Entry) → Contains (map.entries tree.entries) e → is_unlinked units e ≡ true → IsUnlinked tree asked e.0
  unlinked_in e c t =
      let r = at_out (path_parts e.0) e.1 t in
      unlinked_by tree asked e.0 r.0 (key_meant r.0 r.1) (ap (is_link_of r.0 (path_parts e.0)) (there_get tree.entries e c) ∙ r.2)

  unlinked_out : (path : List ℕ) → IsUnlinked tree asked path → (e : Entry) × Contains (map.entries tree.entries) (path, e) × (is_unlinked units (path, e) ≡ true)
  unlinked_out path u = let r = at_back (path_parts path) (map.get tree.entries path) u.name (meant_key u.name u.meant) (unlinked_test tree asked path u) in (r.0, get_there tree.entries path r.0 r.1, r.2)

  abbrev kept_entries : List (List ℕ × Entry)
  kept_entries = filter (is_unlinked units) (map.entries tree.entries)

  abbrev paths : List (List ℕ)
  paths = paths_unlinked units (map.entries tree.entries)

  in_paths : (path : List ℕ) → Contains paths path → IsUnlinked tree asked path
  in_paths path c =
      let e = each_contains first_of kept_entries path c in
      let f = filter_contains (is_unlinked units) (map.entries tree.entries) e.0 e.1 in
      subst (IsUnlinked tree asked) e.2 (unlinked_in e.0 f.0 f.1)

  paths_in : (path : List ℕ) → IsUnlinked tree asked path → Contains paths path
  paths_in path u =
      let r = unlinked_out path u in
      contains_each first_of kept_entries (path, r.0) (contains_filter (is_unlinked units) (map.entries tree.entries) (path, r.0) r.1 r.2)

  disabled_is : IsDisabled tree asked (taken_out tree.entries paths)
  disabled_is = record {
    gone = λ path u. gone_at tree.entries paths path (paths_in path u);
    kept = λ path none. kept_at tree.entries paths path (λ c. none (in_paths path c));
  }

  made : removed tree.entries paths ≡ Ok (taken_out tree.entries paths)
  made =
      all_removed tree.entries kept_entries (rising_filter (is_unlinked units) (map.entries tree.entries) (rising (map.entries tree.entries) (map.entries_sorted tree.entries)))
      (λ e c. ap is_some (there_get tree.entries e (filter_contains (is_unlinked units) (map.entries tree.entries) e c).0))

  same_ok : (a b : Tree) → ◌≡◌ {A = Result Tree Refused} (Ok a) (Ok b) → a ≡ b
  same_ok a b e = cc

  not_both : (a : Tree) (r : Refused) → ◌≡◌ {A = Result Tree Refused} (Ok a) (Err r) → ⊥
  not_both a r e = cc

  pub installs : (result : Result Tree Refusal) → Gives (λ t. t) result (removed tree.entries paths) → IfOk result (λ t. Installs tree verbs.Disable asked t)
  installs (Ok t) g = disables (subst (IsDisabled tree asked) (same_ok (taken_out tree.entries paths) t (sym made ∙ g)) disabled_is)
  installs (Err e) g = tt

  no_cause : (r : Refused) → ¬ RefusesLinks tree verbs.Disable asked r
  no_cause r h = elim h [ ]

  pub refuses : (result : Result Tree Refusal) → Gives (λ t. t) result (removed tree.entries paths) → RefusesBy (RefusesLinks tree verbs.Disable asked) result
  refuses (Ok t) g = no_cause
  refuses (Err e) g = λ differs. absurd (not_both (taken_out tree.entries paths) (refused_of e) (sym made ∙ g differs))

  -- ---- is-enabled

  pub enabled_as : (b : Bool) (l : Loading) (answer : Enabling) → b ≡ list_any (is_unlinked units) (map.entries tree.entries) → map.get units asked ≡ Some l
      → answer ≡ enabling_of asked l b → IsEnabledAs tree asked answer
  enabled_as b l answer e at is = record {
    linked = b;
    decides = (
      λ t. let o = any_out (is_unlinked units) (map.entries tree.entries) (sym e ∙ t) in (o.0.0, unlinked_in o.0 o.1 o.2),
      λ u. let r = unlinked_out u.0 u.1 in e ∙ any_in (is_unlinked units) (map.entries tree.entries) (u.0, r.0) r.1 r.2,
    );
    fits = is ∙ ap (λ x. enabling_of asked x b) (w.loaded asked l at);
  }

  pub asked_there : map.get units asked ≡ None → ⊥
  asked_there n = true≢false (sym (w.whole asked (first refl)) ∙ ap is_some n)
