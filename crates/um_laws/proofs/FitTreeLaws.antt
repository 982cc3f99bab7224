-- The trees of a state that inputs with bytes lead to have bytes: each path is served, and the entry at it is a text.
use Rattle.std.proofs.Common.{ℕ, zero, suc, ◌≡◌, ◌≢◌, ◌⊎◌, ◌∙◌, ◌<◌, ◌≤◌, ◌^◌, Bool, true, false, not, cond, List, [], ◌∷◌, ◌++◌, length, map as each, Option, Some, None, option_and_then, is_some, Ok, codes, refl, sym, ap, subst, inl, inr, arith, T, is_eq}
use Rattle.std.specs.Prelude.{option_map}
use Rattle.std.specs.Option.{option_or, option_map_or}
use Rattle.std.specs.Cmp.{tied_itself}
use Rattle.std.specs.Cmp.Lexicographic.{slice_cmp, nat_list_cmp_total}
use Rattle.std.specs.FinMap as map
use Rattle.std.specs.FinMap.{nat_cmp-IsAntisymmetric, slice_cmp-IsAntisymmetric}
use Rattle.std.specs.FinMap.Entries.{find}
use Rattle.std.specs.List.{AllByRecursion}
use Rattle.std.specs.Ordering.{nat_cmp, eq_by_cmp}
use Rattle.std.specs.Str.{is_utf8}
use Rattle.std.proofs.lemmas.Bool.{cases_lt}
use Rattle.std.proofs.lemmas.List.{length-map}
use Rattle.std.proofs.lemmas.Map.Lookups.{exact_bytes}
use Rattle.std.proofs.lemmas.Map.Views.{tells_apart}
use Rattle.std.proofs.lemmas.Option.{none-some}
use Rattle.std.specs.Str.{bytes_eq}
use Rattle.um_model.specs.Profiles.{ReadTree, read_by}
use Rattle.um_model.specs.declared.profile.Profile.{Profile}
use Rattle.um_model.specs.Bytes.{ByText, FitText, are_keys}
use Rattle.um_model.specs.Install.{LinkAt, link_at, links_to, links_of, linked_name, path_in_etc, IsAskedFor, IsUnlinked, IsEnabled, IsDisabled, is_masking, too_many, CausesOfLinks, Installs, enables, disables, masks, unmasks, RefusesLinks, enables_none}
use Rattle.um_model.specs.InputSpellings.{FitCommand}
use Rattle.um_model.specs.Machine.{State, Command, Refuses, Changes, puts, links, removes, reloads, plans, demands_nothing, cancels, installs}
use Rattle.um_model.specs.Names.{template_of}
use Rattle.um_model.specs.Refusals.{Refused, unless_refused, at_first, too_large}
use Rattle.um_model.specs.Resolution.{unit_path, held_in, first_held, leads_to_template, unless_to_template, held, Resolution, AtFile, AtNoFile, AtMask, Nowhere, is_mask, is_served_type, shutdown_target, next_name, resolution_at, resolved, hop_limit, resolution_of}
use Rattle.um_model.specs.StateSpellings.{any_text, FitEntry, FitTree}
use Rattle.um_model.specs.Tree.{Tree, Entry, File, Link, Wants, Requires, Unit as Itself, PathParts, IsTree, path_parts, is_served, is_fit_entry, is_fit_target, entry_limit, put_cause, put_file, link_cause, put_link, remove_cause, remove_at, is_volatile, without_run}
use Rattle.um_model.specs.Units.{InstallSettings, LoadedUnit, Loading, Found, Masked, NotFound, BadSetting, loading_at, load}
use Rattle.um_model.specs.Weight.{text_of_entry}
use Rattle.um_model.specs.declared.install.InstallVerb.{InstallVerb}
use Rattle.um_model.specs.declared.tree.Layer.{Layer}
use Rattle.um_model.specs.declared.refusals.Limit.TheVariants.{Entries}
use Rattle.um_model.specs.declared.tree.Layer.TheVariants.{Etc, Run, Lib}
use Rattle.um_model.proofs.Forms.{found_unless, is_fit_at}
use Rattle.um_laws.proofs.AmongLaws.{among_either, among_contained, from_map}
use Rattle.um_laws.proofs.AsciiLaws.{low_utf8, parts_utf8}
use Rattle.um_model.proofs.BytesLaws.{left_holds, right_holds}
use Rattle.um_model.proofs.EntriesLaws.{below_none, left_true}
use Rattle.um_laws.proofs.InstallLaws.{path_asked_or_not, unlinked_or_not, fit_of_causes, few_of_causes}
use Rattle.um_model.proofs.LeastLaws.{IsDecided, Among}
use Rattle.um_laws.proofs.StateLengthLaws.{entries_few}
use Rattle.um_model.proofs.TimersLaws.{among_keys}
use Rattle.um_model.proofs.TreeLaws.{put_keeps, link_keeps, remove_keeps, without_run_keeps, empty_is}
use Rattle.um_model.proofs.WeightLaws.{entry_light}

-- ---- properties of each entry

module _ {X : Type 0} (P : List ℕ × X → Type 0) where
  each_found : (es : List (List ℕ × X)) → T (map.is_sorted (slice_cmp nat_cmp) es) → ((k : List ℕ) (v : X) → find (slice_cmp nat_cmp) k es ≡ Some v → P (k, v)) → AllByRecursion P es
  each_found [] sorted holds = tt
  each_found (e ∷ es) sorted holds = (
    holds e.0 e.1 (ap (λ r. cond (is_eq r) (Some e.1) (find (slice_cmp nat_cmp) e.0 es)) (tied_itself nat_list_cmp_total e.0)),
    each_found es (right_holds _ _ sorted) (λ k v is. holds k v (ap (λ b. cond b (Some e.1) (find (slice_cmp nat_cmp) k es)) (apart k v is (eq_by_cmp (slice_cmp nat_cmp) k e.0) refl) ∙ is)),
  )
    where
      apart : (k : List ℕ) (v : X) → find (slice_cmp nat_cmp) k es ≡ Some v → (b : Bool) → eq_by_cmp (slice_cmp nat_cmp) k e.0 ≡ b → eq_by_cmp (slice_cmp nat_cmp) k e.0 ≡ false
      apart k v is true t =
          absurd (none-some v (sym (below_none e.0 es (left_holds _ _ sorted)) ∙ (ap (λ (l : List ℕ). find (slice_cmp nat_cmp) l es) (sym (tells_apart exact_bytes k e.0 t)) ∙ is)))
      apart k v is false t = t

  -- if it holds of the value at each text, it holds of each entry
  pub each_entry : (m : ByText X) → ((k : List ℕ) (v : X) → map.get m k ≡ Some v → P (k, v)) → AllByRecursion P (map.entries m)
  each_entry m holds = each_found (map.entries m) (map.entries_sorted m) (λ k v is. holds k v (map.get-entries m k ∙ is))

-- ---- a tree of texts

-- the entry there is a text
abbrev pub IsTextAt : Option Entry → Type 0
IsTextAt None = Unit {0}
IsTextAt (Some entry) = is_utf8 (text_of_entry entry) ≡ true

-- a tree in which each text and target is in UTF-8
pub record IsOfTexts (tree : Tree) : Type 0 where
  pub is : IsTree tree
  pub texts : (path : List ℕ) → IsTextAt (map.get tree path)

served_path : (path : List ℕ) (entry : Entry) → is_fit_entry path entry ≡ true → is_some (path_parts path) ≡ true
served_path path (File text) fit = left_true (is_served path) _ fit
served_path path (Link target) fit = by (path_parts path) fit
  where
    by : (o : Option PathParts) → is_fit_target o target ≡ true → is_some o ≡ true
    by None e = cc
    by (Some p) e = refl

-- the path at which something stands is in UTF-8
path_utf8 : (tree : Tree) → IsTree tree → (path : List ℕ) (entry : Entry) → map.get tree path ≡ Some entry → is_utf8 path ≡ true
path_utf8 tree is path entry at = parts_utf8 path (path_parts path) refl (served_path path entry (sym (ap (is_fit_at path) at) ∙ is.fit path))

fit_entry : (entry : Entry) → length (text_of_entry entry) < 2 ^ 32 → is_utf8 (text_of_entry entry) ≡ true → FitEntry entry
fit_entry (File text) long utf8 = (long, utf8)
fit_entry (Link target) long utf8 = (long, utf8)

any_keys : (es : List (List ℕ × Entry)) → are_keys any_text es ≡ true
any_keys [] = refl
any_keys (e ∷ es) = any_keys es

-- such a tree has bytes
pub fit_of_texts : (tree : Tree) → IsOfTexts tree → FitTree tree
fit_of_texts tree h = record { texts = ((omega (arith, h.is.few, map.len-entries tree), each_entry (λ e. FitText e.0 × FitEntry e.1) tree fits), any_keys (map.entries tree)); is = h.is }
  where
    fits : (path : List ℕ) (entry : Entry) → map.get tree path ≡ Some entry → FitText path × FitEntry entry
    fits path entry at =
        let light = entry_light path entry (sym (ap (is_fit_at path) at) ∙ h.is.fit path) in
        ((omega (arith, light), path_utf8 tree h.is path entry at), fit_entry entry (omega (arith, light)) (subst IsTextAt at (h.texts path)))

-- ---- puts and removals by a command

put_text : (b : Bool) (o : Option Entry) (entry : Entry) → is_utf8 (text_of_entry entry) ≡ true → IsTextAt o → IsTextAt (cond b (Some entry) o)
put_text true o entry utf8 text = utf8
put_text false o entry utf8 text = text

inserted : (tree : Tree) (path : List ℕ) (entry : Entry) → IsOfTexts tree → is_utf8 (text_of_entry entry) ≡ true → IsTree (map.insert tree path entry) → IsOfTexts (map.insert tree path entry)
inserted tree path entry h utf8 is = record {
  is = is;
  texts = λ q. subst IsTextAt (sym (map.get-insert nat_list_cmp_total tree path entry q)) (put_text (eq_by_cmp (slice_cmp nat_cmp) q path) (map.get tree q) entry utf8 (h.texts q));
}

out_text : (b : Bool) (o : Option Entry) → IsTextAt o → IsTextAt (cond b None o)
out_text true o text = tt
out_text false o text = text

removed : (tree : Tree) (path : List ℕ) → IsOfTexts tree → IsOfTexts (map.remove tree path)
removed tree path h = record {
  is = remove_keeps tree path h.is;
  texts = λ q. subst IsTextAt (sym (map.get-remove nat_list_cmp_total tree path q)) (out_text (eq_by_cmp (slice_cmp nat_cmp) q path) (map.get tree q) (h.texts q));
}

-- if there is no refusal, the result is the value
value_of : (o : Option Refused) (a b : Tree) → unless_refused o a ≡ Ok b → (o ≡ None) × (a ≡ b)
value_of None a b e = (refl, cc)
value_of (Some r) a b e = cc

put_fits : (tree : Tree) (path text : List ℕ) (after : Tree) → IsOfTexts tree → is_utf8 text ≡ true → put_file tree path text ≡ Ok after → IsOfTexts after
unfolding put_file
put_fits tree path text after h utf8 e =
    let both = value_of (put_cause tree path text) (map.insert tree path (File text)) after e in
    subst IsOfTexts both.1 (inserted tree path (File text) h utf8 (put_keeps tree path text h.is both.0))

link_fits : (tree : Tree) (path target : List ℕ) (after : Tree) → IsOfTexts tree → is_utf8 target ≡ true → put_link tree path target ≡ Ok after → IsOfTexts after
unfolding put_link
link_fits tree path target after h utf8 e =
    let both = value_of (link_cause tree path target) (map.insert tree path (Link target)) after e in
    subst IsOfTexts both.1 (inserted tree path (Link target) h utf8 (link_keeps tree path target h.is both.0))

remove_fits : (tree : Tree) (path : List ℕ) (after : Tree) → IsOfTexts tree → remove_at tree path ≡ Ok after → IsOfTexts after
unfolding remove_at
remove_fits tree path after h e =
    let both = value_of (remove_cause tree path) (map.remove tree path) after e in
    subst IsOfTexts both.1 (removed tree path h)

kept_text : (b : Bool) (o : Option Entry) → IsTextAt o → IsTextAt (cond b o None)
kept_text true o text = text
kept_text false o text = tt

-- the tree as it comes out of a boot
pub without_run_fits : (tree : Tree) → IsOfTexts tree → IsOfTexts (without_run tree)
unfolding without_run
without_run_fits tree h = record { is = without_run_keeps tree h.is; texts = at }
  where
    at : (q : List ℕ) → IsTextAt (map.get (without_run tree) q)
    at q =
        let p : List ℕ → Bool = λ path. not (is_volatile path) in
        subst IsTextAt (sym (map.get-retain_keys tree p q (λ x e. ap p (sym (slice_cmp-IsAntisymmetric nat_cmp-IsAntisymmetric q x e))))) (kept_text (p q) (map.get tree q) (h.texts q))

pub empty_fits : IsOfTexts map.empty
empty_fits = record { is = empty_is; texts = λ q. subst IsTextAt (sym (map.get-empty (slice_cmp nat_cmp) q)) tt }

-- ---- the file of a unit lies at a text

abbrev wants_in : InstallSettings → List ℕ → List ℕ → List LinkAt
wants_in install name path = each (λ unit. link_at (path_in_etc unit (Wants name)) path) install.wanted_by

abbrev requires_in : InstallSettings → List ℕ → List ℕ → List LinkAt
requires_in install name path = each (λ unit. link_at (path_in_etc unit (Requires name)) path) install.required_by

abbrev aliases_in : InstallSettings → List ℕ → List LinkAt
aliases_in install path = each (λ alias. link_at (path_in_etc alias Itself) path) install.alias

module _ (tree : Tree) (is : IsTree tree) where
  abbrev IsAtText : Option (List ℕ × Entry) → Type 0
  IsAtText None = Unit {0}
  IsAtText (Some found) = is_utf8 found.0 ≡ true

  held_in_text : (layer : Layer) (unit : List ℕ) → IsAtText (held_in layer tree unit)
  held_in_text layer unit = by (map.get tree (unit_path layer unit)) refl
    where
      by : (o : Option Entry) → map.get tree (unit_path layer unit) ≡ o → IsAtText (option_map (λ e. (unit_path layer unit, e)) o)
      by None at = tt
      by (Some entry) at = path_utf8 tree is (unit_path layer unit) entry at

  either_text : (o p : Option (List ℕ × Entry)) → IsAtText o → IsAtText p → IsAtText (option_or o p)
  either_text None p h k = k
  either_text (Some found) p h k = h

  first_text : (unit : List ℕ) → IsAtText (first_held tree unit)
  first_text unit = either_text _ _ (held_in_text Etc unit) (either_text _ _ (held_in_text Run unit) (held_in_text Lib unit))

  unless_text : (template : Option (List ℕ)) (o : Option (List ℕ × Entry)) → IsAtText o → IsAtText (unless_to_template template o)
  unless_text template None h = tt
  unless_text template (Some found) h = by (leads_to_template template found.1)
    where
      by : (b : Bool) → IsAtText (cond b None (Some found))
      by true = tt
      by false = h

  then_text : (o : Option (List ℕ)) → IsAtText (option_and_then (first_held tree) o)
  then_text None = tt
  then_text (Some template) = first_text template

  held_text : (unit : List ℕ) → IsAtText (held tree unit)
  held_text unit = either_text _ _ (unless_text (template_of unit) (first_held tree unit) (first_text unit)) (then_text (template_of unit))

  abbrev LeadsToText : Resolution → Type 0
  LeadsToText (AtFile unit path text) = is_utf8 path ≡ true
  LeadsToText other = Unit {0}

  nothing_text : (unit : List ℕ) (b : Bool) → LeadsToText (cond b (AtNoFile unit) Nowhere)
  nothing_text unit true = tt
  nothing_text unit false = tt

  followed_text : (o : Option (List ℕ)) (follow : List ℕ → Resolution) → ((other : List ℕ) → LeadsToText (follow other)) → LeadsToText (option_map_or follow o Nowhere)
  followed_text None follow later = tt
  followed_text (Some other) follow later = later other

  link_text : (unit target : List ℕ) (follow : List ℕ → Resolution) (b : Bool) → ((other : List ℕ) → LeadsToText (follow other)) → LeadsToText (cond b (AtMask unit) (option_map_or follow (next_name unit target) Nowhere))
  link_text unit target follow true later = tt
  link_text unit target follow false later = followed_text (next_name unit target) follow later

  at_text : (unit : List ℕ) (o : Option (List ℕ × Entry)) (follow : List ℕ → Resolution) → IsAtText o → ((other : List ℕ) → LeadsToText (follow other)) → LeadsToText (resolution_at unit o follow)
  at_text unit None follow h later = nothing_text unit (bytes_eq unit shutdown_target)
  at_text unit (Some (path, File [])) follow h later = tt
  at_text unit (Some (path, File (b ∷ bs))) follow h later = h
  at_text unit (Some (path, Link target)) follow h later = link_text unit target follow (is_mask target) later

  resolved_text : (hops : ℕ) (unit : List ℕ) → LeadsToText (resolved hops tree unit)
  resolved_text zero unit = at_text unit (held tree unit) (λ other. Nowhere) (held_text unit) (λ other. tt)
  resolved_text (suc hops) unit = at_text unit (held tree unit) (resolved hops tree) (held_text unit) (resolved_text hops)

  resolution_text : (unit : List ℕ) → LeadsToText (resolution_of tree unit)
  unfolding resolution_of
  resolution_text unit = by (is_served_type _)
    where
      by : (b : Bool) → LeadsToText (cond b (resolved hop_limit tree unit) Nowhere)
      by true = resolved_text hop_limit unit
      by false = tt

  abbrev IsTextOrNone : Option (List ℕ) → Type 0
  IsTextOrNone None = Unit {0}
  IsTextOrNone (Some text) = is_utf8 text ≡ true

  abbrev LiesAtText : Loading → Type 0
  LiesAtText (Found l) = IsTextOrNone l.path
  LiesAtText other = Unit {0}

  unless_lies : (reason : Option (List ℕ)) (l : LoadedUnit) → IsTextOrNone l.path → LiesAtText (found_unless reason l)
  unless_lies None l h = h
  unless_lies (Some reason) l h = tt

  loads_text : (profile : Profile) (unit : List ℕ) → LiesAtText (load (read_by profile tree) unit)
  unfolding load
  loads_text profile unit = by (resolution_of tree unit) (resolution_text unit)
    where
      by : (r : Resolution) → LeadsToText r → LiesAtText (loading_at (read_by profile tree) r)
      by (AtFile found path text) h = unless_lies _ _ h
      by (AtNoFile found) h = tt
      by (AtMask found) h = tt
      by Nowhere h = tt

  -- the links of a unit lead there
  links_text : (install : InstallSettings) (name path : Option (List ℕ)) → IsTextOrNone path → (link : LinkAt) → Among (links_to install name path) link → is_utf8 link.target ≡ true
  links_text install None path h link none = absurd none
  links_text install (Some name) None h link none = absurd none
  links_text install (Some name) (Some path) h link among =
      subst (λ (target : List ℕ). is_utf8 target ≡ true) (sym (by_list (among_either (wants_in install name path ++ requires_in install name path) (aliases_in install path) link among))) h
    where
      by_two : Among (wants_in install name path) link ⊎ Among (requires_in install name path) link → link.target ≡ path
      by_two (inl there) = ap (λ (x : LinkAt). x.target) (from_map (λ unit. link_at (path_in_etc unit (Wants name)) path) install.wanted_by link there).2
      by_two (inr there) = ap (λ (x : LinkAt). x.target) (from_map (λ unit. link_at (path_in_etc unit (Requires name)) path) install.required_by link there).2

      by_list : Among (wants_in install name path ++ requires_in install name path) link ⊎ Among (aliases_in install path) link → link.target ≡ path
      by_list (inl there) = by_two (among_either (wants_in install name path) (requires_in install name path) link there)
      by_list (inr there) = ap (λ (x : LinkAt). x.target) (from_map (λ alias. link_at (path_in_etc alias Itself) path) install.alias link there).2

  asked_text : (profile : Profile) (asked : List ℕ) (link : LinkAt) → IsAskedFor (read_by profile tree) asked link → is_utf8 link.target ≡ true
  asked_text profile asked link w =
      let found = load (read_by profile tree) w.unit in by found (loads_text profile w.unit) (among_contained (links_of found) link w.among)
    where
      by : (found : Loading) → LiesAtText found → Among (links_of found) link → is_utf8 link.target ≡ true
      by (Found l) h among = links_text l.settings.install (linked_name l) l.path h link among
      by (Masked unit) h none = absurd none
      by NotFound h none = absurd none
      by (BadSetting unit reason) h none = absurd none

-- ---- enabling and its kin

isnt_false : (b : Bool) → ¬ (b ≡ false) → b ≡ true
isnt_false true h = refl
isnt_false false h = absurd (h refl)

enabled_fits : (tree : ReadTree) (asked : List ℕ) (enabled : Tree) → IsOfTexts tree.entries → ((r : Refused) → ¬ CausesOfLinks tree asked r) → IsEnabled tree asked enabled → IsOfTexts enabled
enabled_fits tree asked enabled h none made = record { is = record { fit = λ path. fit path (path_asked_or_not tree asked path); few = few }; texts = λ path. text path (path_asked_or_not tree asked path) }
  where
    fit : (path : List ℕ) → IsDecided ((target : List ℕ) × IsAskedFor tree asked (link_at path target)) → is_fit_at path (map.get enabled path) ≡ true
    fit path (inl is) =
        ap (is_fit_at path) (made.linked path is.0 is.1)
        ∙ isnt_false (is_fit_target (path_parts path) is.0) (λ unfit. fit_of_causes tree asked none path (is.0, is.1, unfit))
    fit path (inr isnt) = ap (is_fit_at path) (made.kept path isnt) ∙ h.is.fit path

    few : map.len enabled ≤ entry_limit
    few = elim (cases_lt entry_limit (map.len enabled)) as (λ _. map.len enabled ≤ entry_limit) [
      | inl many ↦ absurd (few_of_causes tree asked none (too_large Entries) (too_many made many))
      | inr most ↦ most
    ]

    text : (path : List ℕ) → IsDecided ((target : List ℕ) × IsAskedFor tree asked (link_at path target)) → IsTextAt (map.get enabled path)
    text path (inl is) = subst IsTextAt (sym (made.linked path is.0 is.1)) (asked_text tree.entries h.is tree.profile asked (link_at path is.0) is.1)
    text path (inr isnt) = subst IsTextAt (sym (made.kept path isnt)) (h.texts path)

disabled_fits : (tree : ReadTree) (asked : List ℕ) (disabled : Tree) → IsOfTexts tree.entries → IsDisabled tree asked disabled → IsOfTexts disabled
disabled_fits tree asked disabled h made = record { is = record { fit = λ path. fit path (unlinked_or_not tree asked path); few = few }; texts = λ path. text path (unlinked_or_not tree asked path) }
  where
    fit : (path : List ℕ) → IsDecided (IsUnlinked tree asked path) → is_fit_at path (map.get disabled path) ≡ true
    fit path (inl is) = ap (is_fit_at path) (made.gone path is)
    fit path (inr isnt) = ap (is_fit_at path) (made.kept path isnt) ∙ h.is.fit path

    text : (path : List ℕ) → IsDecided (IsUnlinked tree asked path) → IsTextAt (map.get disabled path)
    text path (inl is) = subst IsTextAt (sym (made.gone path is)) tt
    text path (inr isnt) = subst IsTextAt (sym (made.kept path isnt)) (h.texts path)

    there : (o : Option Entry) → o ≢ None → is_some o ≡ true
    there None there_is = absurd (there_is refl)
    there (Some entry) there_is = refl

    named : (path : List ℕ) → IsDecided (IsUnlinked tree asked path) → map.get disabled path ≢ None → Among (map.keys tree.entries) path
    named path (inl is) there_is = absurd (there_is (made.gone path is))
    named path (inr isnt) there_is = among_keys tree.entries path (ap is_some (sym (made.kept path isnt)) ∙ there (map.get disabled path) there_is)

    few : map.len disabled ≤ entry_limit
    few =
        let less = entries_few disabled (map.keys tree.entries) (λ path there_is. named path (unlinked_or_not tree asked path) there_is) in
        omega (arith, less, h.is.few, map.len-entries disabled, map.len-entries tree.entries, length-map (map.entries tree.entries) (λ (e : List ℕ × Entry). e.0))

unmasked_fits : (tree : Tree) (unit : List ℕ) (b : Bool) → IsOfTexts tree → IsOfTexts (cond b (map.remove tree (unit_path Etc unit)) tree)
unmasked_fits tree unit true h = removed tree (unit_path Etc unit) h
unmasked_fits tree unit false h = h

installed_fits : (tree : ReadTree) (verb : InstallVerb) (unit : List ℕ) (after : Tree) → IsOfTexts tree.entries → ((r : Refused) → ¬ RefusesLinks tree verb unit r) → Installs tree verb unit after → IsOfTexts after
installed_fits tree verb unit after h none (enables {unit = x} made) = enabled_fits tree x after h (λ r c. none r (enables_none c)) made
installed_fits tree verb unit after h none (disables {unit = x} made) = disabled_fits tree x after h made
installed_fits tree verb unit after h none (masks {unit = x} e) = link_fits tree.entries (unit_path Etc x) (codes "/dev/null") after h (low_utf8 (codes "/dev/null") refl) e
installed_fits tree verb unit after h none (unmasks {unit = x}) = unmasked_fits tree.entries x (is_masking (map.get tree.entries (unit_path Etc x))) h

-- ---- both trees of a state

pub record AreOfTexts (s : State) : Type 0 where
  pub tree : IsOfTexts s.tree
  pub loaded : IsOfTexts s.loaded.entries

-- a command that has bytes and isn't refused leaves them so
pub changes_texts : {profile : Profile} (s : State) (command : Command) (u : State) → FitCommand command → ((r : Refused) → ¬ Refuses profile s command r) → Changes profile s command u → AreOfTexts s → AreOfTexts u
changes_texts s command u fit none (puts {path = path} {text = text} {tree = tree} e) h = record { tree = put_fits s.tree path text tree h.tree fit.1.1 e; loaded = h.loaded }
changes_texts s command u fit none (links {path = path} {target = target} {tree = tree} e) h = record { tree = link_fits s.tree path target tree h.tree fit.1.1 e; loaded = h.loaded }
changes_texts s command u fit none (removes {path = path} {tree = tree} e) h = record { tree = remove_fits s.tree path tree h.tree e; loaded = h.loaded }
changes_texts s command u fit none reloads h = record { tree = h.tree; loaded = h.tree }
changes_texts s command u fit none (plans demanded plan) h = record { tree = h.tree; loaded = h.loaded }
changes_texts s command u fit none (demands_nothing is) h = h
changes_texts s command u fit none cancels h = record { tree = h.tree; loaded = h.loaded }
changes_texts {profile} s command u fit none (installs {verb = verb} {unit = unit} {tree = tree} made) h =
    let after = installed_fits (read_by profile s.tree) verb unit tree h.tree (λ r refuses. none r ((at_first refuses))) made in
    record { tree = after; loaded = after }
