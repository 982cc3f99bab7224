-- The links that the units of a walk request, and those by their paths.
use Rattle.std.proofs.Common.{ℕ, zero, suc, ◌≡◌, ◌≢◌, ◌⊎◌, ◌∙◌, Bool, true, false, not, cond, is_eq, ◌||◌, List, [], ◌∷◌, Contains, Option, Some, None, is_some, refl, sym, ap, subst, arith, inl, inr, true≢false}
use Rattle.std.specs.Cmp.Lexicographic.{slice_cmp, nat_list_cmp_total}
use Rattle.std.specs.FinMap as map
use Rattle.std.specs.Ordering.{nat_cmp, eq_by_cmp}
use Rattle.std.specs.Str.{bytes_eq}
use Rattle.std.proofs.lemmas.Cmp.{tied_itself}
use Rattle.std.proofs.lemmas.Map.Lookups.{exact_bytes}
use Rattle.std.proofs.lemmas.Map.Views.{tells_apart}
use Rattle.std.proofs.lemmas.Option.{same_Some, none-some}
use Rattle.std.proofs.lemmas.Slice.Eq.{bytes_eq-Decides}
use Rattle.um_model.specs.Profiles.{ReadTree}
use Rattle.um_model.specs.Install.{LinkAt, link_at, links_of, also, IsTaken, IsAskedFor, IsUnfit, IsOccupied, stands, differs}
use Rattle.um_model.specs.Reached.{first, next}
use Rattle.um_model.specs.Tree.{Tree, path_parts, is_fit_target, is_other_than_link}
use Rattle.um_model.specs.Units.{load}
use Rattle.um_install.specs.Checks.{is_occupied, is_other, is_unfit, links_in, with_targets}
use Rattle.um_install.specs.View.{Targets, Units}
use Rattle.um_install.specs.Walk.{AreWalked, named, IsWalked}
use Rattle.um_install.specs.declared.walk.Naming.TheVariants.{AsResolved}
use Rattle.um_install.proofs.Members.{contains_each, contains_flat, contains_later, each_contains, flat_contains, get_there, there_get}
use Rattle.um_install.proofs.WalkLaws.{some_value}

pub to_taken : (tree : ReadTree) (asked unit : List ℕ) → IsWalked AsResolved tree asked unit → IsTaken tree asked unit
to_taken tree asked unit (first e) = first e
to_taken tree asked unit (next {a = a} r (named c)) = next (to_taken tree asked a r) (also c)

pub from_taken : (tree : ReadTree) (asked unit : List ℕ) → IsTaken tree asked unit → IsWalked AsResolved tree asked unit
from_taken tree asked unit (first e) = first e
from_taken tree asked unit (next {a = a} r (also c)) = next (from_taken tree asked a r) (named c)

-- ---- targets by their paths

head_is : (l : LinkAt) (path target : List ℕ) → path ≡ l.path → l.target ≡ target → l ≡ link_at path target
head_is l path target e f = λ i. record { path = sym e i; target = f i }

pub targets_from : (m : Targets) (ls : List LinkAt) (path target : List ℕ) → map.get (with_targets m ls) path ≡ Some target
    → (map.get m path ≡ Some target) ⊎ Contains ls (link_at path target)
targets_from m [] path target e = inl e
targets_from m (l ∷ ls) path target e =
    elim (targets_from (map.insert m l.path l.target) ls path target e) as (λ _. (map.get m path ≡ Some target) ⊎ Contains (l ∷ ls) (link_at path target)) [
      | inr c ↦ inr (contains_later l ls (link_at path target) c)
      | inl g ↦ elim (eq_by_cmp (slice_cmp nat_cmp) path l.path) as (λ b. eq_by_cmp (slice_cmp nat_cmp) path l.path ≡ b → (map.get m path ≡ Some target) ⊎ Contains (l ∷ ls) (link_at path target)) [
        | true ↦ λ t.
            inr (
              0,
              omega arith,
              head_is l path target (tells_apart exact_bytes path l.path t)
                  (same_Some l.target target (sym (map.get-insert nat_list_cmp_total m l.path l.target path ∙ ap (λ b. cond b (Some l.target) (map.get m path)) t) ∙ g)),
            )
        | false ↦ λ f. inl (sym (map.get-insert nat_list_cmp_total m l.path l.target path ∙ ap (λ b. cond b (Some l.target) (map.get m path)) f) ∙ g)
      ] refl
    ]

still : (b : Bool) (t : List ℕ) (o : Option (List ℕ)) → is_some o ≡ true → is_some (cond b (Some t) o) ≡ true
still true t o s = refl
still false t o s = s

targets_kept : (m : Targets) (ls : List LinkAt) (path : List ℕ) → map.contains_key m path ≡ true → map.contains_key (with_targets m ls) path ≡ true
targets_kept m [] path s = s
targets_kept m (l ∷ ls) path s =
    targets_kept (map.insert m l.path l.target) ls path
    (ap is_some (map.get-insert nat_list_cmp_total m l.path l.target path) ∙ still (eq_by_cmp (slice_cmp nat_cmp) path l.path) l.target (map.get m path) s)

pub targets_there : (m : Targets) (ls : List LinkAt) (l : LinkAt) → Contains ls l → map.contains_key (with_targets m ls) l.path ≡ true
targets_there m [] l (k, h, e) = absurd (omega arith)
targets_there m (z ∷ ls) l (zero, h, e) =
    targets_kept (map.insert m z.path z.target) ls l.path
    (subst (λ (y : LinkAt). map.contains_key (map.insert m z.path z.target) y.path ≡ true) e
    (ap is_some (map.get-insert nat_list_cmp_total m z.path z.target z.path ∙ ap (λ b. cond b (Some z.target) (map.get m z.path)) (ap is_eq (tied_itself nat_list_cmp_total z.path)))))
targets_there m (z ∷ ls) l (suc k, h, e) = targets_there (map.insert m z.path z.target) ls l (k, omega arith, e)

pub same_text : (a b : List ℕ) → bytes_eq a b ≡ true → a ≡ b
same_text a b e = (bytes_eq-Decides a b).0 e

module _ (tree : ReadTree) (asked : List ℕ) (units : Units) (w : AreWalked AsResolved tree asked units) where
  abbrev links : List LinkAt
  links = links_in units

  pub asked_for : (l : LinkAt) → Contains links l → IsAskedFor tree asked l
  asked_for l c =
      let r = flat_contains links_of (map.values units) l c in
      let e = each_contains (λ e. e.1) (map.entries units) r.0 r.1 in
      let at = there_get units e.0 e.1 in
      record {
        unit = e.0.0;
        taken = to_taken tree asked e.0.0 (w.walked e.0.0 e.0.1 at);
        among = subst (λ x. Contains (links_of x) l) (sym e.2 ∙ w.loaded e.0.0 e.0.1 at) r.2;
      }

  pub there : (unit : List ℕ) → IsTaken tree asked unit → map.get units unit ≡ Some (load tree unit)
  there unit t = let v = some_value (map.get units unit) (w.whole unit (from_taken tree asked unit t)) in v.1 ∙ ap Some (w.loaded unit v.0 v.1)

  pub listed : (l : LinkAt) → IsAskedFor tree asked l → Contains links l
  listed l a =
      contains_flat links_of (map.values units) (load tree a.unit) l
      (contains_each (λ e. e.1) (map.entries units) (a.unit, load tree a.unit) (get_there units a.unit (load tree a.unit) (there a.unit a.taken))) a.among

  abbrev targets : Targets
  targets = with_targets map.empty links

  pub target_asked : (path target : List ℕ) → map.get targets path ≡ Some target → Contains links (link_at path target)
  target_asked path target e = elim (targets_from map.empty links path target e) as (λ _. Contains links (link_at path target)) [
    | inl g ↦ absurd (none-some target (sym (map.get-empty (slice_cmp nat_cmp) path) ∙ g))
    | inr c ↦ c
  ]

  -- ---- unfit links

  not_true : (b : Bool) → not b ≡ true → b ≡ false
  not_true true e = sym e
  not_true false e = refl

  pub unfit_in : (l : LinkAt) → Contains links l → is_unfit l ≡ true → IsUnfit tree asked l.path
  unfit_in l c t = (l.target, asked_for l c, not_true (is_fit_target (path_parts l.path) l.target) t)

  pub unfit_out : (path : List ℕ) → IsUnfit tree asked path → (l : LinkAt) × Contains links l × (is_unfit l ≡ true) × (l.path ≡ path)
  unfit_out path u = (link_at path u.0, listed (link_at path u.0) u.1, ap not u.2, refl)

  -- ---- occupied paths

  either : (a b : Bool) → (a || b) ≡ true → (a ≡ true) ⊎ (b ≡ true)
  either true b e = inl refl
  either false b e = inr e

  left : (a b : Bool) → a ≡ true → (a || b) ≡ true
  left true b e = refl
  left false b e = cc

  right : (a b : Bool) → b ≡ true → (a || b) ≡ true
  right true b e = refl
  right false b e = e

  other_in : (l : LinkAt) → Contains links l → (o : Option (List ℕ)) → map.get targets l.path ≡ o → is_other o l.target ≡ true → IsOccupied tree asked l.path
  other_in l c None e t = absurd (true≢false (sym t))
  other_in l c (Some other) e t =
      differs (asked_for (link_at l.path other) (target_asked l.path other e)) (asked_for l c) (λ same. true≢false (sym ((bytes_eq-Decides other l.target).1 same) ∙ not_true (bytes_eq other l.target) t))

  pub occupied_in : (l : LinkAt) → Contains links l → is_occupied tree.entries targets l ≡ true → IsOccupied tree asked l.path
  occupied_in l c t =
      elim (either (is_other_than_link (map.get tree.entries l.path) l.target) (is_other (map.get targets l.path) l.target) t) as (λ _. IsOccupied tree asked l.path) [
        | inl a ↦ stands (asked_for l c) a
        | inr b ↦ other_in l c (map.get targets l.path) refl b
      ]

  not_same : (a b : List ℕ) → a ≢ b → not (bytes_eq a b) ≡ true
  not_same a b ne = elim (bytes_eq a b) as (λ t. bytes_eq a b ≡ t → not t ≡ true) [
    | true ↦ λ t. absurd (ne (same_text a b t))
    | false ↦ λ f. refl
  ] refl

  -- of two links at a path with other targets one is reported
  by_kept : (path target other kept : List ℕ) → map.get targets path ≡ Some kept → Contains links (link_at path target) → Contains links (link_at path other) → target ≢ other
      → (l : LinkAt) × Contains links l × (is_occupied tree.entries targets l ≡ true) × (l.path ≡ path)
  by_kept path target other kept at c d ne =
      elim (bytes_eq kept target) as (λ b. bytes_eq kept target ≡ b → (l : LinkAt) × Contains links l × (is_occupied tree.entries targets l ≡ true) × (l.path ≡ path)) [
        | true ↦ λ t. (
          link_at path other,
          d,
          right (is_other_than_link (map.get tree.entries path) other) _ (ap (λ o. is_other o other) at ∙ not_same kept other (λ same. ne (sym (same_text kept target t) ∙ same))),
          refl,
        )
        | false ↦ λ f. (link_at path target, c, right (is_other_than_link (map.get tree.entries path) target) _ (ap (λ o. is_other o target) at ∙ ap not f), refl)
      ] refl

  pub occupied_out : (path : List ℕ) → IsOccupied tree asked path → (l : LinkAt) × Contains links l × (is_occupied tree.entries targets l ≡ true) × (l.path ≡ path)
  occupied_out path (stands {target = target} a t) = (link_at path target, listed (link_at path target) a, left _ (is_other (map.get targets path) target) t, refl)
  occupied_out path (differs {target = target} {other = other} a b ne) =
      let c = listed (link_at path target) a in
      let v = some_value (map.get targets path) (targets_there map.empty links (link_at path target) c) in
      by_kept path target other v.0 v.1 c (listed (link_at path other) b) ne
