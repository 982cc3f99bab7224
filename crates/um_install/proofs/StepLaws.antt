-- The effects of the verbs' single steps, and why they are refused.
use Rattle.std.proofs.Common.{ℕ, suc, ◌≡◌, ◌↔◌, ◌∙◌, ◌++◌, ◌<◌, ◌+◌, ◌==◌, length, drop, get_or, Bool, true, false, cond, nat_le, List, [], ◌∷◌, map as each, Option, Some, None, is_none, Ok, Err, codes, refl, sym, ap, subst, arith}
use Rattle.std.specs.FinMap as map
use Rattle.std.proofs.Math.Seq.{drop-cons}
use Rattle.std.proofs.lemmas.Bool.Decides.{nat_tests}
use Rattle.um_model.specs.Profiles.{ReadTree}
use Rattle.um_model.specs.declared.install.Enabling.TheVariants as enabling
use Rattle.um_model.specs.Install.{enabling_by}
use Rattle.um_model.specs.Install.{linked_name, CannotEnable, isnt_found, is_masked, has_bad_setting, lacks_instance, Installs, RefusesLinks, masks, masks_none, unmasks, is_masking, unmasked}
use Rattle.um_model.specs.Refusals.{Refused, not_found, masked, bad_setting, unless_refused}
use Rattle.um_model.specs.Resolution.{unit_path}
use Rattle.um_model.specs.Tree.{Tree, Link, link_cause, put_link, remove_at}
use Rattle.um_model.specs.Units.{LoadedUnit, Loading, Found, Masked, NotFound, BadSetting}
use Rattle.um_model.specs.declared.install.InstallVerb.TheVariants as verbs
use Rattle.um_model.specs.declared.tree.Layer.TheVariants.{Etc}
use Rattle.um_model.proofs.Forms.{cause}
use Rattle.um_install.specs.Checks.{RefusesFirst, here, later, one_if}

-- ---- lists

joined : {A : Type 0} (xs ys zs : List A) → (xs ++ ys) ++ zs ≡ xs ++ (ys ++ zs)
joined [] ys zs = refl
joined (x ∷ xs) ys zs = ap (λ l. x ∷ l) (joined xs ys zs)

one_more : (k : ℕ) → suc k ≡ k + 1
one_more k = omega arith

pub drop_front : {A : Type 0} (xs : List A) (k : ℕ) (x : A) → k < length xs → get_or xs k x ≡ x → drop k xs ≡ x ∷ drop (k + 1) xs
drop_front xs k x h e = drop-cons xs k x h ∙ (ap (λ w. w ∷ drop (suc k) xs) e ∙ ap (λ n. x ∷ drop n xs) (one_more k))

pub three_kinds : {A B : Type 0} (f g h : A → B) (xs ys zs xs' ys' zs' : List A) (o m n d : List B) → xs ≡ xs' → ys ≡ ys' → zs ≡ zs'
    → m ≡ o ++ each f xs → n ≡ m ++ each g ys → d ≡ n ++ each h zs → d ≡ o ++ ((each f xs' ++ each g ys') ++ each h zs')
three_kinds f g h xs ys zs xs' ys' zs' o m n d p q r a b c =
    c ∙ ap (λ l. l ++ each h zs) (b ∙ (ap (λ l. l ++ each g ys) a ∙ joined o (each f xs) (each g ys)))
    ∙ joined o (each f xs ++ each g ys) (each h zs)
    ∙ (ap (λ l. o ++ ((each f l ++ each g ys) ++ each h zs)) p ∙ (ap (λ l. o ++ ((each f xs' ++ each g l) ++ each h zs)) q ∙ ap (λ l. o ++ ((each f xs' ++ each g ys') ++ each h l)) r))

pub none_to_fit : (room : ℕ) → nat_le 0 room ≡ true
none_to_fit room = grind (arith, nat_tests)

pub not_empty : (n : ℕ) → (n == 0) ≡ false → 0 < n
not_empty n e = grind (arith, nat_tests)

pub asks_some : {A : Type 0} (f : A → List ℕ) (xs : List A) (more others also : List (List ℕ)) → 0 < length xs → enabling.Disabled ≡ enabling_by ((each f xs ++ more) ++ others) also
asks_some f [] more others also some = absurd (omega (arith, some))
asks_some f (x ∷ xs) more others also some = refl

pub no_room_left : (b : Bool) (n room : ℕ) → b ≡ true → room ≡ 0 → nat_le (one_if b n) room ≡ false
no_room_left true n room t z = rw z (grind (arith, nat_tests))
no_room_left false n room t z = cc

-- ---- units that can't be enabled

pub nowhere : (unit : List ℕ) (r : Refused) → r ≡ not_found unit → CannotEnable unit NotFound r
nowhere unit r is = subst (CannotEnable unit NotFound) (sym is) isnt_found

pub behind_a_mask : (unit other : List ℕ) (r : Refused) → r ≡ masked other → CannotEnable unit (Masked other) r
behind_a_mask unit other r is = subst (CannotEnable unit (Masked other)) (sym is) is_masked

pub of_bad_setting : (unit other reason : List ℕ) (r : Refused) → r ≡ bad_setting other reason → CannotEnable unit (BadSetting other reason) r
of_bad_setting unit other reason r is = subst (CannotEnable unit (BadSetting other reason)) (sym is) has_bad_setting

no_name : (o : Option (List ℕ)) → is_none o ≡ true → o ≡ None
no_name None e = refl
no_name (Some name) e = cc

pub of_no_instance : (unit : List ℕ) (l : LoadedUnit) (r : Refused) → is_none (linked_name l) ≡ true → r ≡ bad_setting l.name (codes "default-instance") → CannotEnable unit (Found l) r
of_no_instance unit l r none is = subst (CannotEnable unit (Found l)) (sym is) (lacks_instance (no_name (linked_name l) none))

pub free_to_enable : (unit : List ℕ) (l : LoadedUnit) → is_none (linked_name l) ≡ false → (r : Refused) → CannotEnable unit (Found l) r → ⊥
free_to_enable unit l some r (lacks_instance none) = let e = ap is_none none in cc

-- ---- the first of several

pub not_the_first : (e : List ℕ × Loading) (es : List (List ℕ × Loading)) → ((q : Refused) → ¬ CannotEnable e.0 e.1 q) → (r : Refused) → RefusesFirst (e ∷ es) r → RefusesFirst es r
not_the_first e es free r (here c) = absurd (free r c)
not_the_first e es free r (later f h) = h

pub passed_over : (e : List ℕ × Loading) (es : List (List ℕ × Loading)) → ((q : Refused) → ¬ CannotEnable e.0 e.1 q) → (r : Refused) → RefusesFirst es r ↔ RefusesFirst (e ∷ es) r
passed_over e es free r = (λ h. later free h, λ h. not_the_first e es free r h)

pub none_first : (r : Refused) → RefusesFirst [] r → ⊥
none_first r h = elim h [ ]

-- ---- masks

pub masks_to : (tree : ReadTree) (changed : Tree) (unit path : List ℕ) → path ≡ unit_path Etc unit → put_link tree.entries path (codes "/dev/null") ≡ Ok changed → Installs tree verbs.Mask unit changed
masks_to tree changed unit path is ok = masks (ap (λ p. put_link tree.entries p (codes "/dev/null")) (sym is) ∙ ok)

pub masks_none_to : (tree : ReadTree) (unit path : List ℕ) (r : Refused) → path ≡ unit_path Etc unit → put_link tree.entries path (codes "/dev/null") ≡ Err r → RefusesLinks tree verbs.Mask unit r
masks_none_to tree unit path r is err = masks_none (ap (λ p. put_link tree.entries p (codes "/dev/null")) (sym is) ∙ err)

pub link_refused : (tree : Tree) (path target : List ℕ) (r q : Refused) → link_cause tree path target ≡ Some r → q ≡ r → put_link tree path target ≡ Err q
unfolding put_link
link_refused tree path target r q e f = ap (λ o. unless_refused o (map.insert tree path (Link target))) e ∙ ap Err (sym f)

-- ---- masks taken away

removed_by : (b : Bool) (r : Refused) (t next : Tree) → unless_refused (cause b r) next ≡ Ok t → t ≡ next
removed_by true r t next e = cc
removed_by false r t next e = cc

removed_ok : (tree t : Tree) (path : List ℕ) → remove_at tree path ≡ Ok t → t ≡ map.remove tree path
unfolding remove_at
removed_ok tree t path e = removed_by (is_none (map.get tree path)) _ t (map.remove tree path) e

by_mask : (tree : Tree) (unit : List ℕ) (b : Bool) → is_masking (map.get tree (unit_path Etc unit)) ≡ b → unmasked tree unit ≡ cond b (map.remove tree (unit_path Etc unit)) tree
by_mask tree unit b e = ap (λ b. cond b (map.remove tree (unit_path Etc unit)) tree) e

pub unmasks_none : (tree : ReadTree) (t : Tree) (unit path : List ℕ) → path ≡ unit_path Etc unit → is_masking (map.get tree.entries path) ≡ false → t ≡ tree.entries → Installs tree verbs.Unmask unit t
unmasks_none tree t unit path is none same =
    subst (Installs tree verbs.Unmask unit) (by_mask tree.entries unit false (ap (λ p. is_masking (map.get tree.entries p)) (sym is) ∙ none) ∙ sym same) unmasks

pub unmasks_one : (tree : ReadTree) (t : Tree) (unit path : List ℕ) → path ≡ unit_path Etc unit → is_masking (map.get tree.entries path) ≡ true → remove_at tree.entries path ≡ Ok t → Installs tree verbs.Unmask unit t
unmasks_one tree t unit path is some ok =
    subst (Installs tree verbs.Unmask unit)
    (by_mask tree.entries unit true (ap (λ p. is_masking (map.get tree.entries p)) (sym is) ∙ some) ∙ ap (map.remove tree.entries) (sym is) ∙ sym (removed_ok tree.entries t path ok)) unmasks
