-- Laws of the tree: each change keeps it a tree, and a served path has its parts and no others.
use Rattle.std.proofs.Common.{◌≡◌, ℕ, ◌+◌, ◌-◌, ◌<◌, ◌≤◌, nat_eq, nat_le, nat_lt, Bool, true, false, not, ◌&&◌, ◌||◌, cond, T, List, [], ◌∷◌, ◌++◌, length, take, drop, get_or, codes, Option, Some, None, is_none, is_some, option_map, Ordering, Less, Equal, Greater, refl, sym, ap, ◌∙◌, subst, append_assoc, append-nil, take-append-drop, take_at, length-append, lit≤, arith}
use Rattle.std.specs.Cmp.{tied_itself}
use Rattle.std.specs.Cmp.Lexicographic.{slice_cmp, nat_list_cmp_total}
use Rattle.std.specs.FinMap as map
use Rattle.std.specs.FinMap.{nat_cmp-IsAntisymmetric, slice_cmp-IsAntisymmetric}
use Rattle.std.specs.FinMap.Entries.{find, below_all, is_sorted, where_key, is_sorted-where_key, find-where_key}
use Rattle.std.specs.List.{list_all, list_any, starts_with, ends_with, position_or_len, before_first, after_first}
use Rattle.std.specs.Ordering.{nat_cmp, eq_by_cmp, is_eq, is_lt}
use Rattle.std.specs.Option.{option_or, option_map_or}
use Rattle.std.specs.Str.{bytes_eq}
use Rattle.std.proofs.lemmas.Bool.{leb-false, ltb-true, ltb-false, lt-ltb, le-ltb, le-leb, eqb-true, ne_eqb, and_from, and_parts, cond-true, false≢true, not-false}
use Rattle.std.proofs.lemmas.Bool.Decides.{Decides-eqb}
use Rattle.std.proofs.lemmas.List.{drop_at, drop-drop}
use Rattle.std.proofs.lemmas.List.Folds.{list_all-append}
use Rattle.std.proofs.lemmas.List.Prefix.{end_rest}
use Rattle.std.proofs.lemmas.List.Sums.{count_by-le-length, length-filter, split_at_first, passes_at_first}
use Rattle.std.proofs.lemmas.Option.{same_Some}
use Rattle.std.proofs.lemmas.Slice.Eq.{bytes_eq-Decides, starts_is}
use Rattle.um_model.specs.Names.{is_prefix_byte, is_instance_byte, suffix_text, is_unit_name, is_template}
use Rattle.um_model.specs.Refusals.{Refused}
use Rattle.um_model.specs.Tree.{layer_text, Place, Unit, DropIn, Wants, Requires, place_text, PathParts, is_drop_in_name, is_plain_name, is_fit_place, IsPathOf, is_slash, behind, before, around_slash, layer_and_rest, place_in, unit_and_place, path_parts, Entry, File, Link, Tree, IsTree, entry_limit, text_limit, is_served, is_fit_entry, is_fit_target, is_link, is_other_than_link, is_full_for, put_cause, link_cause, is_volatile, without_run, path_text}
use Rattle.um_model.specs.declared.names.Suffix.{Suffix}
use Rattle.um_model.specs.declared.names.Suffix.TheVariants.{Service, Socket, Device, Mount, Automount, Swap, Target, Path, Timer, Slice, Scope}
use Rattle.um_model.specs.declared.tree.Layer.{Layer}
use Rattle.um_model.specs.declared.tree.Layer.TheVariants.{Etc, Run, Lib}
use Rattle.um_model.proofs.NamesLaws.{named_by_parts}
use Rattle.um_model.proofs.Forms.{where_fit, is_fit_at, instance_text, is_fit_instance}
use Rattle.um_model.specs.Bytes.{◌>>=◌}
use Rattle.um_model.specs.Tree.{has_run}

tied : (o : Ordering) → is_eq o ≡ true → o ≡ Equal
tied Less e = cc
tied Equal e = refl
tied Greater e = cc

same_order : (a b : List ℕ) → eq_by_cmp (slice_cmp nat_cmp) a b ≡ true → a ≡ b
same_order a b e = slice_cmp-IsAntisymmetric nat_cmp-IsAntisymmetric a b (tied _ e)

-- if none of three causes is named, none of them holds
pub none_of_three : (a b c : Bool) (r s t : Refused) → cond a (Some r) (cond b (Some s) (cond c (Some t) None)) ≡ None → (a ≡ false) × (b ≡ false) × (c ≡ false)
none_of_three true b c r s t e = cc
none_of_three false true c r s t e = cc
none_of_three false false true r s t e = cc
none_of_three false false false r s t e = (refl, refl, refl)

pub none_of_four : (a b c d : Bool) (r s t u : Refused) → cond a (Some r) (cond b (Some s) (cond c (Some t) (cond d (Some u) None))) ≡ None → (a ≡ false) × (b ≡ false) × (c ≡ false) × (d ≡ false)
none_of_four true b c d r s t u e = cc
none_of_four false b c d r s t u e = let rest = none_of_three b c d s t u e in (refl, rest.0, rest.1, rest.2)

fit_after : (tree : Tree) (path : List ℕ) (entry : Entry) → IsTree tree → is_fit_entry path entry ≡ true → (q : List ℕ) → is_fit_at q (map.get (map.insert tree path entry) q) ≡ true
fit_after tree path entry is fit q =
    ap (is_fit_at q) (map.get-insert nat_list_cmp_total tree path entry q)
    ∙ (elim (eq_by_cmp (slice_cmp nat_cmp) q path) as (λ b. eq_by_cmp (slice_cmp nat_cmp) q path ≡ b → is_fit_at q (cond b (Some entry) (map.get tree q)) ≡ true) [
      | true ↦ λ e. ap (λ p. is_fit_entry p entry) (same_order q path e) ∙ fit
      | false ↦ λ e. is.fit q
    ] refl)

few_after : (o : Option Entry) (n m : ℕ) → (is_none o && nat_le entry_limit n) ≡ false → n ≤ entry_limit → m ≡ cond (is_some o) n (n + 1) → m ≤ entry_limit
few_after None n m full few e = let h = leb-false entry_limit n full in omega arith
few_after (Some x) n m full few e = omega arith

-- an entry that may stand at its path, if the tree isn't full for it
pub insert_keeps : (tree : Tree) (path : List ℕ) (entry : Entry) → IsTree tree → is_fit_entry path entry ≡ true → is_full_for tree path ≡ false → IsTree (map.insert tree path entry)
insert_keeps tree path entry is fit room = record {
  fit = fit_after tree path entry is fit;
  few = few_after (map.get tree path) (map.len tree) _ room is.few (map.len-insert nat_list_cmp_total tree path entry);
}

-- a file that nothing speaks against
pub put_keeps : (tree : Tree) (path text : List ℕ) → IsTree tree → put_cause tree path text ≡ None → IsTree (map.insert tree path (File text))
put_keeps tree path text is none =
    let all = none_of_four (not (is_served path)) (is_link (map.get tree path)) (nat_lt text_limit (length text)) (is_full_for tree path) _ _ _ _ none in
    insert_keeps tree path (File text) is (and_from _ _ (not-false (is_served path) all.0) (le-leb (length text) text_limit (ltb-false text_limit (length text) all.2))) all.3

-- a link that nothing speaks against
pub link_keeps : (tree : Tree) (path target : List ℕ) → IsTree tree → link_cause tree path target ≡ None → IsTree (map.insert tree path (Link target))
link_keeps tree path target is none =
    let all = none_of_three (not (is_fit_target (path_parts path) target)) (is_other_than_link (map.get tree path) target) (is_full_for tree path) _ _ _ none in
    insert_keeps tree path (Link target) is (not-false _ all.0) all.2

fit_or_none : (b : Bool) (path : List ℕ) (o : Option Entry) → is_fit_at path o ≡ true → is_fit_at path (cond b None o) ≡ true
fit_or_none true path o h = refl
fit_or_none false path o h = h

fewer : (b : Bool) (n m : ℕ) → n ≤ entry_limit → m ≡ cond b (n - 1) n → m ≤ entry_limit
fewer true n m h e = omega arith
fewer false n m h e = omega arith

-- the tree without the entry at a path
pub remove_keeps : (tree : Tree) (path : List ℕ) → IsTree tree → IsTree (map.remove tree path)
remove_keeps tree path is = record {
  fit = λ q. ap (is_fit_at q) (map.get-remove nat_list_cmp_total tree path q) ∙ fit_or_none (eq_by_cmp (slice_cmp nat_cmp) q path) q (map.get tree q) (is.fit q);
  few = fewer (map.contains_key tree path) (map.len tree) _ is.few (map.len-remove nat_list_cmp_total tree path);
}

-- the entries that a test of their paths keeps
pub entries-retain_keys : (tree : Tree) (p : List ℕ → Bool) → map.entries (map.retain_keys tree p) ≡ where_key (slice_cmp nat_cmp) p (map.entries tree)
entries-retain_keys tree p =
    let kept = where_key (slice_cmp nat_cmp) p (map.entries tree) in
    let sorted : T (is_sorted (slice_cmp nat_cmp) kept) = is_sorted-where_key (slice_cmp nat_cmp) p (map.entries tree) (map.entries_sorted tree) in
    let alike : (q x : List ℕ) → slice_cmp nat_cmp q x ≡ Equal → p x ≡ p q = λ q x e. ap p (sym (slice_cmp-IsAntisymmetric nat_cmp-IsAntisymmetric q x e)) in
    ap map.entries
    (map.same_map nat_list_cmp_total (slice_cmp-IsAntisymmetric nat_cmp-IsAntisymmetric) (map.retain_keys tree p) (map.from_sorted kept)
    (λ q. map.get-retain_keys tree p q (alike q) ∙ ap (λ o. cond (p q) o None) (map.get-entries tree q)
    ∙ sym (find-where_key (slice_cmp nat_cmp) p q (alike q) (map.entries tree)) ∙ sym (map.get-from_sorted (slice_cmp nat_cmp) kept q sorted)))
    ∙ map.entries-from_sorted (slice_cmp nat_cmp) kept sorted

some_or_none : (b : Bool) (path : List ℕ) (o : Option Entry) → is_fit_at path o ≡ true → is_fit_at path (cond b o None) ≡ true
some_or_none true path o h = h
some_or_none false path o h = refl

-- the tree as it comes out of a boot
pub without_run_keeps : (tree : Tree) → IsTree tree → IsTree (without_run tree)
unfolding without_run
without_run_keeps tree is =
    let p : List ℕ → Bool = λ path. not (is_volatile path) in
    record {
      fit = λ q. ap (is_fit_at q) (map.get-retain_keys tree p q (λ x e. ap p (sym (slice_cmp-IsAntisymmetric nat_cmp-IsAntisymmetric q x e)))) ∙ some_or_none (p q) q (map.get tree q) (is.fit q);
      few = omega (arith, is.few, map.len-entries tree, map.len-entries (map.retain_keys tree p), ap length (entries-retain_keys tree p), length-filter (λ e. p e.0) (map.entries tree), count_by-le-length (λ e. p e.0) (map.entries tree));
    }

-- a tree with no entry under `run/` comes out of a boot as it is
all_kept : (es : List (List ℕ × Entry)) → list_any (λ e. is_volatile e.0) es ≡ false → where_key (slice_cmp nat_cmp) (λ path. not (is_volatile path)) es ≡ es
all_kept [] h = refl
all_kept (e ∷ es) h = by (is_volatile e.0) refl h (all_kept es)
  where
    by : (b : Bool) → is_volatile e.0 ≡ b → (b || list_any (λ e. is_volatile e.0) es) ≡ false → (list_any (λ e. is_volatile e.0) es ≡ false → where_key (slice_cmp nat_cmp) (λ path. not (is_volatile path)) es ≡ es)
        → cond (not (is_volatile e.0)) (e ∷ where_key (slice_cmp nat_cmp) (λ path. not (is_volatile path)) es) (where_key (slice_cmp nat_cmp) (λ path. not (is_volatile path)) es) ≡ e ∷ es
    by true t h rest = cc
    by false t h rest = ap (λ b. cond (not b) (e ∷ where_key (slice_cmp nat_cmp) (λ path. not (is_volatile path)) es) (where_key (slice_cmp nat_cmp) (λ path. not (is_volatile path)) es)) t ∙ ap (λ xs. e ∷ xs) (rest h)

pub without_run_same : (tree : Tree) → has_run tree ≡ false → without_run tree ≡ tree
unfolding without_run
without_run_same tree h = map.same_entries_map (without_run tree) tree (entries-retain_keys tree (λ path. not (is_volatile path)) ∙ all_kept (map.entries tree) h)

-- and one that came out of a boot does so too
none_kept : (es : List (List ℕ × Entry)) → list_any (λ e. is_volatile e.0) (where_key (slice_cmp nat_cmp) (λ path. not (is_volatile path)) es) ≡ false
none_kept [] = refl
none_kept (e ∷ es) = by (is_volatile e.0) refl (none_kept es)
  where
    by : (b : Bool) → is_volatile e.0 ≡ b → list_any (λ e. is_volatile e.0) (where_key (slice_cmp nat_cmp) (λ path. not (is_volatile path)) es) ≡ false
        → list_any (λ e. is_volatile e.0) (cond (not b) (e ∷ where_key (slice_cmp nat_cmp) (λ path. not (is_volatile path)) es) (where_key (slice_cmp nat_cmp) (λ path. not (is_volatile path)) es)) ≡ false
    by true t rest = rest
    by false t rest = ap (λ b. b || list_any (λ e. is_volatile e.0) (where_key (slice_cmp nat_cmp) (λ path. not (is_volatile path)) es)) t ∙ rest

pub without_run_twice : (tree : Tree) → without_run (without_run tree) ≡ without_run tree
unfolding without_run
without_run_twice tree =
    without_run_same (without_run tree)
    (ap (list_any (λ e. is_volatile e.0)) (entries-retain_keys tree (λ path. not (is_volatile path))) ∙ none_kept (map.entries tree))

-- the tree with no entry
pub empty_is : IsTree map.empty
empty_is = record {
  fit = λ q. ap (is_fit_at q) (map.get-empty (slice_cmp nat_cmp) q);
  few = rw (map.len-empty (slice_cmp nat_cmp) Entry) (omega arith);
}

same_value : (b : Bool) (o p : Option Entry) → (b ≡ true → o ≡ p) → cond b p o ≡ o
same_value true o p h = sym (h refl)
same_value false o p h = refl

-- an entry that stands at a path already, put there again
pub insert-same : (tree : Tree) (path : List ℕ) (entry : Entry) → map.get tree path ≡ Some entry → map.insert tree path entry ≡ tree
insert-same tree path entry is =
    map.same_map nat_list_cmp_total (slice_cmp-IsAntisymmetric nat_cmp-IsAntisymmetric) _ _
    (λ q. map.get-insert nat_list_cmp_total tree path entry q
    ∙ same_value (eq_by_cmp (slice_cmp nat_cmp) q path) (map.get tree q) (Some entry) (λ e. ap (map.get tree) (same_order q path e) ∙ is))

same_link : (o : Option Entry) (target : List ℕ) → is_other_than_link o target ≡ false → is_some o ≡ true → o ≡ Some (Link target)
same_link None target h some = cc
same_link (Some (File text)) target h some = cc
same_link (Some (Link old)) target h some = ap (λ t. Some (Link t)) ((bytes_eq-Decides old target).0 (not-false (bytes_eq old target) h))

-- a link that no cause refuses, at a path with an entry: the entry is that link
pub link-same : (tree : Tree) (path target : List ℕ) → link_cause tree path target ≡ None → is_some (map.get tree path) ≡ true → map.insert tree path (Link target) ≡ tree
link-same tree path target none some =
    let all = none_of_three (not (is_fit_target (path_parts path) target)) (is_other_than_link (map.get tree path) target) (is_full_for tree path) _ _ _ none in
    insert-same tree path (Link target) (same_link (map.get tree path) target all.1 some)

below_step : (o : Ordering) (b : Bool) (entry : Entry) (rest : Option Entry) → T (is_lt o && b) → (T b → rest ≡ None) → cond (is_eq o) (Some entry) rest ≡ None
below_step Less b entry rest h none = none h
below_step Equal b entry rest h none = absurd h
below_step Greater b entry rest h none = absurd h

find_below : (q : List ℕ) (es : List (List ℕ × Entry)) → T (below_all (slice_cmp nat_cmp) q es) → find (slice_cmp nat_cmp) q es ≡ None
find_below q [] h = refl
find_below q (e ∷ es) h = below_step (slice_cmp nat_cmp q e.0) (below_all (slice_cmp nat_cmp) q es) e.1 (find (slice_cmp nat_cmp) q es) h (find_below q es)

both_parts : (a b : Bool) → T (a && b) → T a × T b
both_parts true b h = (tt, h)
both_parts false b h = absurd h

abbrev Fits : List (List ℕ × Entry) → Type 0
Fits es = (q : List ℕ) → is_fit_at q (find (slice_cmp nat_cmp) q es) ≡ true

-- if entries with one more in front fit, so do those after it
find-behind : (k : List ℕ) (entry : Entry) (es : List (List ℕ × Entry)) → T (below_all (slice_cmp nat_cmp) k es) → Fits ((k, entry) ∷ es) → Fits es
find-behind k entry es below fits q =
    (elim (eq_by_cmp (slice_cmp nat_cmp) q k) as (λ b. eq_by_cmp (slice_cmp nat_cmp) q k ≡ b → is_fit_at q (cond b (Some entry) (find (slice_cmp nat_cmp) q es)) ≡ true → is_fit_at q (find (slice_cmp nat_cmp) q es) ≡ true) [
      | true ↦ λ e _. ap (is_fit_at q) (find_below q es (subst (λ x. T (below_all (slice_cmp nat_cmp) x es)) (sym (same_order q k e)) below))
      | false ↦ λ e h. h
    ] refl (fits q))

all_fit : (es : List (List ℕ × Entry)) → T (is_sorted (slice_cmp nat_cmp) es) → Fits es → list_all (λ e. is_fit_entry e.0 e.1) es ≡ true
all_fit [] sorted fits = refl
all_fit (e ∷ es) sorted fits =
    let both = both_parts (below_all (slice_cmp nat_cmp) e.0 es) (is_sorted (slice_cmp nat_cmp) es) sorted in
    and_from _ _
    (ap (λ o. is_fit_at e.0 (cond (is_eq o) (Some e.1) (find (slice_cmp nat_cmp) e.0 es))) (sym (tied_itself nat_list_cmp_total e.0)) ∙ fits e.0)
    (all_fit es both.1 (find-behind e.0 e.1 es both.0 fits))

-- each entry of a tree may stand at its path
pub entries-fit : (tree : Tree) → IsTree tree → list_all (λ e. is_fit_entry e.0 e.1) (map.entries tree) ≡ true
entries-fit tree is = all_fit (map.entries tree) (map.entries_sorted tree) (λ q. ap (is_fit_at q) (sym (map.get-entries tree q)) ∙ is.fit q)

-- ---- parts found in a text stand in it

cond_some : {A : Type 0} (b : Bool) (x y : A) → cond b (Some x) None ≡ Some y → (b ≡ true) × (x ≡ y)
cond_some true x y e = (refl, same_Some x y e)
cond_some false x y e = cc

behind-parts : (front text rest : List ℕ) → behind front text ≡ Some rest → text ≡ front ++ rest
behind-parts front text rest e =
    let both = cond_some (starts_with nat_eq text front) (drop (length front) text) rest e in
    (starts_is Decides-eqb text front (starts_with nat_eq text front) refl).0 both.0 ∙ ap (λ x. front ++ x) both.1

before-parts : (end text front : List ℕ) → before end text ≡ Some front → text ≡ front ++ end
before-parts end text front e =
    let n = length text - length end in
    let both = cond_some (ends_with nat_eq text end) (take (length text - length end) text) front e in
    sym (take-append-drop n text) ∙ ap (λ later. take n text ++ later) (sym ((bytes_eq-Decides end (drop n text)).0 both.0)) ∙ ap (λ x. x ++ end) both.1

around-parts : (text : List ℕ) (q : List ℕ × List ℕ) → around_slash text ≡ Some q → text ≡ q.0 ++ 47 ∷ q.1
around-parts text q e =
    let both = cond_some (nat_lt (position_or_len is_slash text) (length text)) (before_first is_slash text, after_first is_slash text) q e in
    let low : position_or_len is_slash text < length text = ltb-true (position_or_len is_slash text) (length text) both.0 in
    split_at_first is_slash text 0 low
    ∙ ap (λ b. before_first is_slash text ++ b ∷ after_first is_slash text) (eqb-true (get_or text (position_or_len is_slash text) 0) 47 (passes_at_first is_slash text 0 low))
    ∙ ap (λ p. p.0 ++ 47 ∷ p.1) both.1

abbrev layer_among : Option (List ℕ) → Option (List ℕ) → Option (List ℕ) → Option (Layer × List ℕ)
layer_among etc run lib = option_or (option_map (λ rest. (Etc, rest)) etc) (option_or (option_map (λ rest. (Run, rest)) run) (option_map (λ rest. (Lib, rest)) lib))

layer-parts : (path : List ℕ) (etc run lib : Option (List ℕ)) → behind (layer_text Etc) path ≡ etc → behind (layer_text Run) path ≡ run → behind (layer_text Lib) path ≡ lib
    → (q : Layer × List ℕ) → layer_among etc run lib ≡ Some q → path ≡ layer_text q.0 ++ q.1
layer-parts path (Some rest) run lib e₁ e₂ e₃ q e = subst (λ p. path ≡ layer_text p.0 ++ p.1) (same_Some (Etc, rest) q e) (behind-parts (layer_text Etc) path rest e₁)
layer-parts path None (Some rest) lib e₁ e₂ e₃ q e = subst (λ p. path ≡ layer_text p.0 ++ p.1) (same_Some (Run, rest) q e) (behind-parts (layer_text Run) path rest e₂)
layer-parts path None None (Some rest) e₁ e₂ e₃ q e = subst (λ p. path ≡ layer_text p.0 ++ p.1) (same_Some (Lib, rest) q e) (behind-parts (layer_text Lib) path rest e₃)
layer-parts path None None None e₁ e₂ e₃ q e = cc

-- by the text before the `.d`, `.wants` or `.requires` of the directory
abbrev place_among : Option (List ℕ) → Option (List ℕ) → Option (List ℕ) → List ℕ → Option (List ℕ × Place)
place_among drop_in wants requires file =
    option_map_or (λ unit. option_map (λ name. (unit, DropIn name)) (before (codes ".conf") file)) drop_in
    (option_or (option_map (λ unit. (unit, Wants file)) wants) (option_map (λ unit. (unit, Requires file)) requires))

-- by the texts around the first `/` after the layer
abbrev place_around : List ℕ → Option (List ℕ × List ℕ) → Option (List ℕ × Place)
place_around rest parts = option_map_or (λ p. place_in p.0 p.1) parts (Some (rest, Unit))

abbrev Spells : List ℕ → List ℕ × Place → Type 0
Spells rest q = rest ≡ q.0 ++ place_text q.1

drop_in-parts : (directory unit file : List ℕ) (o : Option (List ℕ)) → directory ≡ unit ++ codes ".d" → before (codes ".conf") file ≡ o
    → (q : List ℕ × Place) → option_map (λ name. (unit, DropIn name)) o ≡ Some q → Spells (directory ++ 47 ∷ file) q
drop_in-parts directory unit file None d e q is = cc
drop_in-parts directory unit file (Some name) d e q is =
    subst (Spells (directory ++ 47 ∷ file)) (same_Some (unit, DropIn name) q is)
    (ap (λ x. x ++ 47 ∷ file) d ∙ append_assoc unit (codes ".d") (47 ∷ file) ∙ ap (λ f. unit ++ (codes ".d/" ++ f)) (before-parts (codes ".conf") file name e))

place-parts : (directory file : List ℕ) (o₁ o₂ o₃ : Option (List ℕ)) → before (codes ".d") directory ≡ o₁ → before (codes ".wants") directory ≡ o₂ → before (codes ".requires") directory ≡ o₃
    → (q : List ℕ × Place) → place_among o₁ o₂ o₃ file ≡ Some q → Spells (directory ++ 47 ∷ file) q
place-parts directory file (Some unit) o₂ o₃ e₁ e₂ e₃ q e = drop_in-parts directory unit file _ (before-parts (codes ".d") directory unit e₁) refl q e
place-parts directory file None (Some unit) o₃ e₁ e₂ e₃ q e =
    subst (Spells (directory ++ 47 ∷ file)) (same_Some (unit, Wants file) q e)
    (ap (λ x. x ++ 47 ∷ file) (before-parts (codes ".wants") directory unit e₂) ∙ append_assoc unit (codes ".wants") (47 ∷ file))
place-parts directory file None None (Some unit) e₁ e₂ e₃ q e =
    subst (Spells (directory ++ 47 ∷ file)) (same_Some (unit, Requires file) q e)
    (ap (λ x. x ++ 47 ∷ file) (before-parts (codes ".requires") directory unit e₃) ∙ append_assoc unit (codes ".requires") (47 ∷ file))
place-parts directory file None None None e₁ e₂ e₃ q e = cc

unit-parts : (rest : List ℕ) (o : Option (List ℕ × List ℕ)) → around_slash rest ≡ o → (q : List ℕ × Place) → place_around rest o ≡ Some q → Spells rest q
unit-parts rest None around q e = subst (Spells rest) (same_Some (rest, Unit) q e) (sym (append-nil rest))
unit-parts rest (Some p) around q e = around-parts rest p around ∙ place-parts p.0 p.1 _ _ _ refl refl refl q e

abbrev parts_of : Layer → List ℕ × Place → PathParts
parts_of layer q = record { layer = layer; unit = q.0; place = q.1 }

fit-parts : (layer : Layer) (rest : List ℕ) (o : Option (List ℕ × Place)) → unit_and_place rest ≡ o → (p : PathParts) → (o >>= λ u. where_fit (parts_of layer u)) ≡ Some p
    → IsPathOf (layer_text layer ++ rest) p
fit-parts layer rest None found p e = cc
fit-parts layer rest (Some q) found p e =
    let both = cond_some (is_fit_place q.0 q.1) (parts_of layer q) p e in
    subst (IsPathOf (layer_text layer ++ rest)) both.1
    (record { fit = both.0; spelled = ap (λ x. layer_text layer ++ x) (unit-parts rest (around_slash rest) refl q found) })

-- the parts by the layer and the rest after it
abbrev parts_behind : Option (Layer × List ℕ) → Option PathParts
parts_behind o = o >>= λ l. unit_and_place l.1 >>= λ u. where_fit (parts_of l.0 u)

path-parts : (path : List ℕ) (o : Option (Layer × List ℕ)) → layer_and_rest path ≡ o → (p : PathParts) → parts_behind o ≡ Some p → IsPathOf path p
path-parts path None found p e = cc
path-parts path (Some q) found p e =
    subst (λ text. IsPathOf text p) (sym (layer-parts path _ _ _ refl refl refl q found)) (fit-parts q.0 q.1 _ refl p e)

-- the parts returned are those of the path
pub path_of_parts : (path : List ℕ) (p : PathParts) → path_parts path ≡ Some p → IsPathOf path p
unfolding path_parts
path_of_parts path p e = path-parts path (layer_and_rest path) refl p e

-- ---- parts that stand in a text are found in it

pub before-append : (front end : List ℕ) → before end (front ++ end) ≡ Some front
before-append front end =
    let ends : ends_with nat_eq (front ++ end) end ≡ true = (bytes_eq-Decides end (drop (length (front ++ end) - length end) (front ++ end))).1 (sym (end_rest (front ++ end) end front refl)) in
    ap (λ b. cond b (Some (take (length (front ++ end) - length end) (front ++ end))) None) ends
    ∙ ap Some (take_at front end _ (omega (arith, length-append front end)))

-- the end of a text is seen in a tail that is long enough
before-other : (front tail end : List ℕ) → length end ≤ length tail → ends_with nat_eq tail end ≡ false → before end (front ++ tail) ≡ None
before-other front tail end long other =
    let split : length (front ++ tail) - length end ≡ length front + (length tail - length end) = omega (arith, length-append front tail) in
    let rest : drop (length (front ++ tail) - length end) (front ++ tail) ≡ drop (length tail - length end) tail =
    ap (λ n. drop n (front ++ tail)) split ∙ sym (drop-drop (length tail - length end) (length front) (front ++ tail)) ∙ ap (drop (length tail - length end)) (drop_at front tail (length front) refl) in
    ap (λ b. cond b (Some (take (length (front ++ tail) - length end) (front ++ tail))) None) (ap (bytes_eq end) rest ∙ other)

abbrev no_slash : ℕ → Bool
no_slash b = not (is_slash b)

first_slash : (xs ys : List ℕ) → list_all no_slash xs ≡ true → position_or_len is_slash (xs ++ 47 ∷ ys) ≡ length xs
first_slash [] ys all = refl
first_slash (x ∷ xs) ys all =
    let both = and_parts (no_slash x) (list_all no_slash xs) all in
    cond-true (no_slash x) (1 + position_or_len is_slash (xs ++ 47 ∷ ys)) 0 both.0 ∙ ap (λ n. 1 + n) (first_slash xs ys both.1) ∙ omega arith

absent_slash : (xs : List ℕ) → list_all no_slash xs ≡ true → position_or_len is_slash xs ≡ length xs
absent_slash [] all = refl
absent_slash (x ∷ xs) all =
    let both = and_parts (no_slash x) (list_all no_slash xs) all in
    cond-true (no_slash x) (1 + position_or_len is_slash xs) 0 both.0 ∙ ap (λ n. 1 + n) (absent_slash xs both.1) ∙ omega arith

around-append : (xs ys : List ℕ) → list_all no_slash xs ≡ true → around_slash (xs ++ 47 ∷ ys) ≡ Some (xs, ys)
around-append xs ys all =
    let text = xs ++ 47 ∷ ys in
    let first = first_slash xs ys all in
    let low : nat_lt (position_or_len is_slash text) (length text) ≡ true = lt-ltb _ _ (omega (arith, first_slash xs ys all, length-append xs (47 ∷ ys))) in
    ap (λ b. cond b (Some (before_first is_slash text, after_first is_slash text)) None) low
    ∙ ap (λ n. Some (take n text, drop (n + 1) text)) first
    ∙ ap Some (λ i. (take_at xs (47 ∷ ys) (length xs) refl i, past i))
  where
    past : drop (length xs + 1) (xs ++ 47 ∷ ys) ≡ ys
    past = sym (drop-drop 1 (length xs) (xs ++ 47 ∷ ys)) ∙ ap (drop 1) (drop_at xs (47 ∷ ys) (length xs) refl)

around-none : (xs : List ℕ) → list_all no_slash xs ≡ true → around_slash xs ≡ None
around-none xs all =
    ap (λ b. cond b (Some (before_first is_slash xs, after_first is_slash xs)) None) (le-ltb (position_or_len is_slash xs) (length xs) (omega (arith, absent_slash xs all)))

-- ---- no name has a `/`

prefix_byte-no_slash : (b : ℕ) → is_prefix_byte b ≡ true → no_slash b ≡ true
prefix_byte-no_slash b h = ap not (ne_eqb b 47 (λ e. false≢true (subst (λ x. is_prefix_byte x ≡ true) e h)))

instance_byte-no_slash : (b : ℕ) → is_instance_byte b ≡ true → no_slash b ≡ true
instance_byte-no_slash b h = ap not (ne_eqb b 47 (λ e. false≢true (subst (λ x. is_instance_byte x ≡ true) e h)))

pub all_wider : (p q : ℕ → Bool) → ((b : ℕ) → p b ≡ true → q b ≡ true) → (xs : List ℕ) → list_all p xs ≡ true → list_all q xs ≡ true
all_wider p q wider [] all = refl
all_wider p q wider (x ∷ xs) all =
    let both = and_parts (p x) (list_all p xs) all in
    and_from (q x) (list_all q xs) (wider x both.0) (all_wider p q wider xs both.1)

instance-no_slash : (o : Option (List ℕ)) → is_fit_instance o ≡ true → list_all no_slash (instance_text o) ≡ true
instance-no_slash None fit = refl
instance-no_slash (Some i) fit = all_wider is_instance_byte no_slash instance_byte-no_slash i fit

suffix-no_slash : (s : Suffix) → list_all no_slash (suffix_text s) ≡ true
suffix-no_slash Service = refl
suffix-no_slash Socket = refl
suffix-no_slash Device = refl
suffix-no_slash Mount = refl
suffix-no_slash Automount = refl
suffix-no_slash Swap = refl
suffix-no_slash Target = refl
suffix-no_slash Path = refl
suffix-no_slash Timer = refl
suffix-no_slash Slice = refl
suffix-no_slash Scope = refl

all-append : (xs ys : List ℕ) → list_all no_slash xs ≡ true → list_all no_slash ys ≡ true → list_all no_slash (xs ++ ys) ≡ true
all-append xs ys left right = list_all-append no_slash xs ys ∙ and_from _ _ left right

pub name-no_slash : (name : List ℕ) → is_unit_name name ≡ true → list_all no_slash name ≡ true
name-no_slash name is =
    let w = named_by_parts name is in
    let p = w.0 in
    let of = w.1 in
    ap (list_all no_slash) of.spelled
    ∙ all-append p.prefix (instance_text p.instance ++ suffix_text p.suffix) (all_wider is_prefix_byte no_slash prefix_byte-no_slash p.prefix of.fit.prefix_bytes)
    (all-append (instance_text p.instance) (suffix_text p.suffix) (instance-no_slash p.instance of.fit.instance_bytes) (suffix-no_slash p.suffix))

-- ---- the parts of a path are found

layer-text : (layer : Layer) (rest : List ℕ) → layer_and_rest (layer_text layer ++ rest) ≡ Some (layer, rest)
layer-text Etc rest = refl
layer-text Run rest = refl
layer-text Lib rest = refl

-- in a directory of the unit
in_directory : (unit ending file : List ℕ) (o : Option (List ℕ × Place)) → is_unit_name unit ≡ true → list_all no_slash ending ≡ true → place_in (unit ++ ending) file ≡ o
    → unit_and_place (unit ++ (ending ++ 47 ∷ file)) ≡ o
in_directory unit ending file o is plain found =
    let whole : unit ++ (ending ++ 47 ∷ file) ≡ (unit ++ ending) ++ 47 ∷ file = sym (append_assoc unit ending (47 ∷ file)) in
    ap unit_and_place whole
    ∙ ap (place_around ((unit ++ ending) ++ 47 ∷ file)) (around-append (unit ++ ending) file (all-append unit ending (name-no_slash unit is) plain))
    ∙ found

in_drop_ins : (unit name : List ℕ) → place_in (unit ++ codes ".d") (name ++ codes ".conf") ≡ Some (unit, DropIn name)
in_drop_ins unit name =
    ap (λ o. place_among o (before (codes ".wants") (unit ++ codes ".d")) (before (codes ".requires") (unit ++ codes ".d")) (name ++ codes ".conf")) (before-append unit (codes ".d"))
    ∙ ap (option_map (λ x. (unit, DropIn x))) (before-append name (codes ".conf"))

in_wants : (unit file : List ℕ) → place_in (unit ++ codes ".wants") file ≡ Some (unit, Wants file)
in_wants unit file =
    ap (λ o. place_among o (before (codes ".wants") (unit ++ codes ".wants")) (before (codes ".requires") (unit ++ codes ".wants")) file) (before-other unit (codes ".wants") (codes ".d") (lit≤ tt) refl)
    ∙ ap (λ o. place_among None o (before (codes ".requires") (unit ++ codes ".wants")) file) (before-append unit (codes ".wants"))

in_requires : (unit file : List ℕ) → place_in (unit ++ codes ".requires") file ≡ Some (unit, Requires file)
in_requires unit file =
    ap (λ o. place_among o (before (codes ".wants") (unit ++ codes ".requires")) (before (codes ".requires") (unit ++ codes ".requires")) file) (before-other unit (codes ".requires") (codes ".d") (lit≤ tt) refl)
    ∙ ap (λ o. place_among None o (before (codes ".requires") (unit ++ codes ".requires")) file) (before-other unit (codes ".requires") (codes ".wants") (lit≤ tt) refl)
    ∙ ap (λ o. place_among None None o file) (before-append unit (codes ".requires"))

plain_name : (text : List ℕ) → is_plain_name text ≡ true → is_unit_name text ≡ true
plain_name text h = (and_parts (is_unit_name text) (not (is_template text)) h).0

-- the unit of a path is a unit name
pub fit-name : (unit : List ℕ) (place : Place) → is_fit_place unit place ≡ true → is_unit_name unit ≡ true
fit-name unit Unit fit = fit
fit-name unit (DropIn name) fit = (and_parts (is_unit_name unit) (is_drop_in_name name) fit).0
fit-name unit (Wants other) fit = plain_name unit (and_parts (is_plain_name unit) (is_plain_name other) fit).0
fit-name unit (Requires other) fit = plain_name unit (and_parts (is_plain_name unit) (is_plain_name other) fit).0

unit-place : (unit : List ℕ) (place : Place) → is_unit_name unit ≡ true → unit_and_place (unit ++ place_text place) ≡ Some (unit, place)
unit-place unit Unit is = ap unit_and_place (append-nil unit) ∙ ap (place_around unit) (around-none unit (name-no_slash unit is))
unit-place unit (DropIn name) is = in_directory unit (codes ".d") (name ++ codes ".conf") _ is refl (in_drop_ins unit name)
unit-place unit (Wants other) is = in_directory unit (codes ".wants") other _ is refl (in_wants unit other)
unit-place unit (Requires other) is = in_directory unit (codes ".requires") other _ is refl (in_requires unit other)

-- the parts of a path of a unit name are returned if they fit together
pub parts_at : (p : PathParts) → is_unit_name p.unit ≡ true → path_parts (path_text p) ≡ cond (is_fit_place p.unit p.place) (Some p) None
unfolding path_parts
parts_at p is =
    ap parts_behind (layer-text p.layer (p.unit ++ place_text p.place)) ∙ ap (λ o. o >>= λ u. where_fit (parts_of p.layer u)) (unit-place p.unit p.place is)

-- the parts of a path are returned
pub parts_of_path : (path : List ℕ) (p : PathParts) → IsPathOf path p → path_parts path ≡ Some p
parts_of_path path p of =
    ap path_parts of.spelled ∙ parts_at p (fit-name p.unit p.place of.fit) ∙ cond-true (is_fit_place p.unit p.place) (Some p) None of.fit

-- a path has one sequence of parts at most
pub one_path_reading : (path : List ℕ) (p q : PathParts) → IsPathOf path p → IsPathOf path q → p ≡ q
one_path_reading path p q one other = same_Some p q (sym (parts_of_path path p one) ∙ parts_of_path path q other)
