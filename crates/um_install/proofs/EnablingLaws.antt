-- Disabling a unit removes the links that enabling made; with these links it counts as enabled; and enabling it again changes nothing.
use Rattle.std.proofs.Common.{ℕ, ◌≡◌, ◌⊎◌, ◌∙◌, Bool, true, false, true≢false, cond, not, ◌||◌, List, [], ◌∷◌, ◌++◌, map as each, Contains, Option, Some, None, refl, sym, ap, subst, inl, inr, ◌≢◌, append-nil, ◌<◌, is_some, is_none, filter}
use Rattle.std.specs.FinMap as map
use Rattle.std.specs.List.{list_any}
use Rattle.std.specs.Cmp.Lexicographic.{slice_cmp}
use Rattle.std.specs.Ordering.{nat_cmp, eq_by_cmp}
use Rattle.std.specs.Str.{bytes_eq}
use Rattle.std.proofs.lemmas.Bool.{cond-false, cond-true}
use Rattle.std.proofs.lemmas.Option.{none-some, same_Some}
use Rattle.std.proofs.lemmas.Slice.Eq.{bytes_eq-Decides}
use Rattle.um_install.specs.Enabled.{Obeys, IsFoundByName, IsUndone, HasNoAlias}
use Rattle.um_model.specs.Profiles.{ReadTree, read_by}
use Rattle.um_model.specs.Install.{LinkAt, link_at, install_of, linked_name, path_in_etc, links_to, links_of, IsAlso, IsTaken, IsAskedFor, IsEnabled, IsUnfit, IsMeant, IsUnlinked, IsDisabled, CausesOfLinks, Installs, enables, disables, enables_none, RefusesUnits, takes_none, RefusesInstall, IsOccupied, stands, differs, HasTooMany, too_many, CannotEnable, IsBarred, paths_beyond}
use Rattle.um_model.specs.Names.{is_unit_name, is_template}
use Rattle.um_model.specs.Reached.{first, next}
use Rattle.um_model.specs.Refusals.{Refused, at_first, at_second, too_large}
use Rattle.um_model.specs.Resolution.{unit_in_target, unit_path}
use Rattle.um_model.specs.Tree.{Tree, Link, PathParts, Place, Unit, Wants, Requires, path_text, path_parts, is_fit_place, is_fit_target, layer_text, entry_limit, is_other_than_link}
use Rattle.um_model.specs.Units.{LoadedUnit, Loading, Found, load, name_in, unit_named, InstallSettings, Masked, NotFound, BadSetting}
use Rattle.um_model.specs.declared.install.InstallVerb.TheVariants as verbs
use Rattle.um_model.specs.declared.refusals.Limit.TheVariants.{Entries}
use Rattle.um_model.specs.declared.tree.Layer.{Layer}
use Rattle.um_model.specs.declared.tree.Layer.TheVariants.{Etc}
use Rattle.um_laws.proofs.AmongLaws.{among_contained, contains_among, among_map, among_left, among_right, among_either, AnyOf, from_map}
use Rattle.um_laws.proofs.InstallLaws.{also_any, any_also, enabled_drop_ins, free_of_causes, fit_of_causes, few_of_causes, open_of_causes, one_enabled, one_install, unlinked_by, is_link_for, is_link_of}
use Rattle.um_model.proofs.LeastLaws.{Among}
use Rattle.um_laws.proofs.LoadsLaws.{loads_as}
use Rattle.um_laws.proofs.NamedLaws.{AreNames, names_installed, named_by_name, also_names}
use Rattle.um_model.proofs.OwnNameLaws.{named_by_loading}
use Rattle.um_model.proofs.TreeLaws.{parts_at}
use Rattle.um_model.proofs.UnitLaws.{alike}

-- ---- the links of a unit that was enabled

-- a unit that was taken, with a file, by the name under which it is linked
pub record IsLinked (tree : ReadTree) (asked name file : List ℕ) (l : LoadedUnit) : Type 0 where
  pub unit : List ℕ
  pub taken : IsTaken tree asked unit
  pub found : load tree unit ≡ Found l
  pub linked : linked_name l ≡ Some name
  pub at : l.path ≡ Some file

module _ (tree : ReadTree) (asked name file : List ℕ) (l : LoadedUnit) (is : IsLinked tree asked name file l) where
  abbrev links : List LinkAt
  links = links_to l.settings.install (Some name) (Some file)

  same_links : links_of (load tree is.unit) ≡ links
  same_links = ap links_of is.found ∙ (ap (λ n. links_to l.settings.install n l.path) is.linked ∙ ap (links_to l.settings.install (Some name)) is.at)

  asks_for : (link : LinkAt) → Among links link → IsAskedFor tree asked link
  asks_for link among = record {
    unit = is.unit;
    taken = is.taken;
    among = contains_among (links_of (load tree is.unit)) link (subst (λ ls. Among ls link) (sym same_links) among);
  }

  abbrev wants_link : List ℕ → LinkAt
  wants_link other = link_at (path_in_etc other (Wants name)) file

  abbrev requires_link : List ℕ → LinkAt
  requires_link other = link_at (path_in_etc other (Requires name)) file

  abbrev alias_link : List ℕ → LinkAt
  alias_link alias = link_at (path_in_etc alias Unit) file

  abbrev wants_links : List LinkAt
  wants_links = each wants_link l.settings.install.wanted_by

  abbrev requires_links : List LinkAt
  requires_links = each requires_link l.settings.install.required_by

  abbrev alias_links : List LinkAt
  alias_links = each alias_link l.settings.install.alias

  asks_wanted : (other : List ℕ) → Among l.settings.install.wanted_by other → IsAskedFor tree asked (wants_link other)
  asks_wanted other among =
      asks_for (wants_link other)
      (among_left (wants_links ++ requires_links) alias_links (wants_link other)
      (among_left wants_links requires_links (wants_link other) (among_map wants_link l.settings.install.wanted_by other among)))

  asks_required : (other : List ℕ) → Among l.settings.install.required_by other → IsAskedFor tree asked (requires_link other)
  asks_required other among =
      asks_for (requires_link other)
      (among_left (wants_links ++ requires_links) alias_links (requires_link other)
      (among_right wants_links requires_links (requires_link other) (among_map requires_link l.settings.install.required_by other among)))

  asks_aliased : (alias : List ℕ) → Among l.settings.install.alias alias → IsAskedFor tree asked (alias_link alias)
  asks_aliased alias among =
      asks_for (alias_link alias)
      (among_right (wants_links ++ requires_links) alias_links (alias_link alias) (among_map alias_link l.settings.install.alias alias among))

  install_names : AreNames l.settings.install
  install_names = subst (λ found. AreNames (install_of found)) is.found (names_installed tree is.unit)

  module _ (fit : (path : List ℕ) → ¬ (IsUnfit tree asked path)) (u : ReadTree) (made : IsEnabled tree asked u.entries) where
    -- the path of a link that is fit has its parts
    parts_of_link : (p : PathParts) → is_unit_name p.unit ≡ true → IsAskedFor tree asked (link_at (path_text p) file) → path_parts (path_text p) ≡ Some p
    parts_of_link p unit w = by_fit (is_fit_place p.unit p.place) refl
      where
        by_fit : (b : Bool) → is_fit_place p.unit p.place ≡ b → path_parts (path_text p) ≡ Some p
        by_fit true e = parts_at p unit ∙ ap (λ b. cond b (Some p) None) e
        by_fit false e =
            absurd (fit (path_text p) (file, w, ap (λ o. is_fit_target o file) (parts_at p unit ∙ ap (λ b. cond b (Some p) None) e)))

    -- disabling by a name that the link is for removes it
    unlinks : (by : List ℕ) (p : PathParts) (meant : List ℕ) → IsMeant u by meant → is_unit_name p.unit ≡ true → IsAskedFor tree asked (link_at (path_text p) file)
        → is_link_for meant p file ≡ true → IsUnlinked u by (path_text p)
    unlinks by p meant h unit w leads =
        unlinked_by u by (path_text p) meant h
        (ap (is_link_of meant (path_parts (path_text p))) (made.linked (path_text p) file w)
        ∙ (ap (λ parts. is_link_of meant parts (Some (Link file))) (parts_of_link p unit w) ∙ leads))

    same_text : (text : List ℕ) → bytes_eq text text ≡ true
    same_text text = (bytes_eq-Decides text text).1 refl

    unlinks_wanted : (by : List ℕ) → IsMeant u by name → (other : List ℕ) → Among l.settings.install.wanted_by other → IsUnlinked u by (path_in_etc other (Wants name))
    unlinks_wanted by h other among =
        unlinks by (record { layer = Etc; unit = other; place = Wants name }) name h (install_names.wanted_by other among) (asks_wanted other among)
        (ap (λ b. b || bytes_eq (unit_in_target file) name) (same_text name))

    unlinks_required : (by : List ℕ) → IsMeant u by name → (other : List ℕ) → Among l.settings.install.required_by other → IsUnlinked u by (path_in_etc other (Requires name))
    unlinks_required by h other among =
        unlinks by (record { layer = Etc; unit = other; place = Requires name }) name h (install_names.required_by other among) (asks_required other among)
        (ap (λ b. b || bytes_eq (unit_in_target file) name) (same_text name))

    unlinks_alias : (by : List ℕ) → IsMeant u by (unit_in_target file) → (alias : List ℕ) → Among l.settings.install.alias alias → IsUnlinked u by (path_in_etc alias Unit)
    unlinks_alias by h alias among =
        unlinks by (record { layer = Etc; unit = alias; place = Unit }) (unit_in_target file) h (install_names.alias alias among) (asks_aliased alias among)
        (same_text (unit_in_target file))

-- ---- enabling that isn't refused

-- an enabling that is obeyed has no cause against its links
no_cause : (tree : ReadTree) (asked : List ℕ) (u : Tree) → Obeys tree verbs.Enable asked u → (r : Refused) → ¬ (CausesOfLinks tree asked r)
no_cause tree asked u obeys r h = obeys.free r (at_first (enables_none h))

-- nor against a unit that it takes
none_refused : (tree : ReadTree) (asked : List ℕ) (u : Tree) → Obeys tree verbs.Enable asked u → (r : Refused) → ¬ (RefusesUnits tree verbs.Enable asked r)
none_refused tree asked u obeys r h = obeys.free r (at_second (λ q links. obeys.free q (at_first links)) h)

enabled_by : (tree : ReadTree) (asked : List ℕ) (u : Tree) → Installs tree verbs.Enable asked u → IsEnabled tree asked u
enabled_by tree asked u (enables made) = made

disabled_by : (tree : ReadTree) (asked : List ℕ) (u : Tree) → Installs tree verbs.Disable asked u → IsDisabled tree asked u
disabled_by tree asked u (disables made) = made

all_fit : (tree : ReadTree) (asked : List ℕ) (u : Tree) → Obeys tree verbs.Enable asked u → (path : List ℕ) → ¬ (IsUnfit tree asked path)
all_fit tree asked u obeys = fit_of_causes tree asked (no_cause tree asked u obeys)

-- ---- disabling undoes enabling

-- disabling by a name by which the linked name is meant undoes the enabling of each unit that was taken
pub links_undone : (tree : ReadTree) (asked name file : List ℕ) (l : LoadedUnit) → IsLinked tree asked name file l → (u : ReadTree) (v : Tree) → Obeys tree verbs.Enable asked u.entries
    → (by : List ℕ) → IsMeant u by name → Installs u verbs.Disable by v → IsUndone l name file v
links_undone tree asked name file l is u v obeys by h undoes =
    let fit = all_fit tree asked u.entries obeys in
    let made = enabled_by tree asked u.entries obeys.makes in
    let gone = (disabled_by u by v undoes).gone in
    record {
      wanted = λ other among. gone _ (unlinks_wanted tree asked name file l is fit u made by h other (among_contained l.settings.install.wanted_by other among));
      required = λ other among. gone _ (unlinks_required tree asked name file l is fit u made by h other (among_contained l.settings.install.required_by other among));
      aliased = λ same alias among.
          gone _ (unlinks_alias tree asked name file l is fit u made by (subst (IsMeant u by) (sym same) h) alias (among_contained l.settings.install.alias alias among));
    }

-- enabling it links it by that name
linked_by_name : (tree : ReadTree) (asked file : List ℕ) (l : LoadedUnit) → IsFoundByName tree asked file l → IsLinked tree asked asked file l
linked_by_name tree asked file l is = record {
  unit = asked;
  taken = first (sym (named_by_loading tree asked ∙ (ap (name_in asked) is.found ∙ is.named)));
  found = is.found;
  linked = cond-false (is_template l.name) _ (Some l.name) (ap is_template is.named ∙ is.single) ∙ ap Some is.named;
  at = is.at;
}

-- disabling a unit by its name removes the links that enabling it by its name made
pub disabling_undoes : (tree : ReadTree) (asked file : List ℕ) (l : LoadedUnit) → IsFoundByName tree asked file l
    → (u : ReadTree) (v : Tree) → Obeys tree verbs.Enable asked u.entries → Installs u verbs.Disable asked v → IsUndone l asked file v
disabling_undoes tree asked file l is u v obeys undoes =
    links_undone tree asked asked file l (linked_by_name tree asked file l is) u v obeys asked (first refl) undoes

-- ---- units that have no other name load as before

abbrev is_pull : Place → Bool
is_pull (Wants other) = true
is_pull (Requires other) = true
is_pull other = false

-- a path at which a link wants or requires
record IsPulling (path : List ℕ) : Type 0 where
  parts : PathParts
  spelled : path ≡ path_text parts
  unit : is_unit_name parts.unit ≡ true
  pulls : is_pull parts.place ≡ true

-- it is no path of a unit itself
no_unit_path : (path : List ℕ) → IsPulling path → (layer : Layer) (unit : List ℕ) → is_unit_name unit ≡ true → unit_path layer unit ≢ path
no_unit_path path pulling layer unit is e = by_fit (is_fit_place pulling.parts.unit pulling.parts.place) same
  where
    own : PathParts
    own = record { layer = layer; unit = unit; place = Unit }

    same : Some own ≡ cond (is_fit_place pulling.parts.unit pulling.parts.place) (Some pulling.parts) None
    same =
        sym (parts_at own is ∙ cond-true (is_unit_name unit) (Some own) None is)
        ∙ (ap path_parts (ap (λ text. layer_text layer ++ text) (append-nil unit) ∙ (e ∙ pulling.spelled)) ∙ parts_at pulling.parts pulling.unit)

    by_fit : (b : Bool) → Some own ≡ cond b (Some pulling.parts) None → ⊥
    by_fit true f = true≢false (sym pulling.pulls ∙ sym (ap (λ (p : PathParts). is_pull p.place) (same_Some own pulling.parts f)))
    by_fit false f = none-some own (sym f)

links_pull : (install : InstallSettings) → AreNames install → install.alias ≡ [] → (name file : Option (List ℕ)) (link : LinkAt) → Among (links_to install name file) link → IsPulling link.path
links_pull install names no_alias None file link none = absurd none
links_pull install names no_alias (Some name) None link none = absurd none
links_pull install names no_alias (Some name) (Some file) link is =
    let wants = each (λ unit. link_at (path_in_etc unit (Wants name)) file) install.wanted_by in
    let requires = each (λ unit. link_at (path_in_etc unit (Requires name)) file) install.required_by in
    by_list (among_either (wants ++ requires) (each (λ alias. link_at (path_in_etc alias Unit) file) install.alias) link is)
  where
    wanted : AnyOf (λ unit. link ≡ link_at (path_in_etc unit (Wants name)) file) install.wanted_by → IsPulling link.path
    wanted any = record {
      parts = record { layer = Etc; unit = any.0; place = Wants name };
      spelled = ap (λ (x : LinkAt). x.path) any.2;
      unit = names.wanted_by any.0 any.1;
      pulls = refl;
    }

    required : AnyOf (λ unit. link ≡ link_at (path_in_etc unit (Requires name)) file) install.required_by → IsPulling link.path
    required any = record {
      parts = record { layer = Etc; unit = any.0; place = Requires name };
      spelled = ap (λ (x : LinkAt). x.path) any.2;
      unit = names.required_by any.0 any.1;
      pulls = refl;
    }

    pulls : Among (each (λ unit. link_at (path_in_etc unit (Wants name)) file) install.wanted_by) link ⊎ Among (each (λ unit. link_at (path_in_etc unit (Requires name)) file) install.required_by) link
        → IsPulling link.path
    pulls (inl there) = wanted (from_map (λ unit. link_at (path_in_etc unit (Wants name)) file) install.wanted_by link there)
    pulls (inr there) = required (from_map (λ unit. link_at (path_in_etc unit (Requires name)) file) install.required_by link there)

    by_list : Among (each (λ unit. link_at (path_in_etc unit (Wants name)) file) install.wanted_by ++ each (λ unit. link_at (path_in_etc unit (Requires name)) file) install.required_by) link
        ⊎ Among (each (λ alias. link_at (path_in_etc alias Unit) file) install.alias) link → IsPulling link.path
    by_list (inl there) =
        pulls (among_either (each (λ unit. link_at (path_in_etc unit (Wants name)) file) install.wanted_by) (each (λ unit. link_at (path_in_etc unit (Requires name)) file) install.required_by) link there)
    by_list (inr there) = absurd (subst (λ names. Among (each (λ alias. link_at (path_in_etc alias Unit) file) names) link) no_alias there)

asked_pulls : (tree : ReadTree) (asked : List ℕ) → HasNoAlias tree asked → (link : LinkAt) → IsAskedFor tree asked link → IsPulling link.path
asked_pulls tree asked no_alias link w = by_loading (load tree w.unit) refl (among_contained (links_of (load tree w.unit)) link w.among)
  where
    by_loading : (found : Loading) → load tree w.unit ≡ found → Among (links_of found) link → IsPulling link.path
    by_loading (Found l) e is =
        links_pull l.settings.install (subst (λ x. AreNames (install_of x)) e (names_installed tree w.unit)) (no_alias w.unit l w.taken e) (linked_name l) l.path link is
    by_loading (Masked unit) e none = absurd none
    by_loading NotFound e none = absurd none
    by_loading (BadSetting unit reason) e none = absurd none

-- after such an enabling each unit loads as before
pub enabled_loads_as : (tree : ReadTree) (asked : List ℕ) (u : Tree) → HasNoAlias tree asked → Obeys tree verbs.Enable asked u
    → (unit : List ℕ) → is_unit_name unit ≡ true → load (read_by tree.profile u) unit ≡ load tree unit
enabled_loads_as tree asked u no_alias obeys = loads_as u tree.entries (record {
  holds = λ layer unit is.
      made.kept (unit_path layer unit)
      (λ w. no_unit_path (unit_path layer unit) (asked_pulls tree asked no_alias (link_at (unit_path layer unit) w.0) w.1) layer unit is refl);
  drop_ins = enabled_drop_ins tree asked (free_of_causes tree asked (no_cause tree asked u obeys)) u made;
}) tree.profile
  where
    made : IsEnabled tree asked u
    made = enabled_by tree asked u obeys.makes

-- ---- enabling twice

-- each unit loads as it did
abbrev LoadsAs : ReadTree → ReadTree → Type 0
LoadsAs u tree = (unit : List ℕ) → is_unit_name unit ≡ true → load u unit ≡ load tree unit

-- by such trees a unit name leads to one unit
named_as : (u tree : ReadTree) → LoadsAs u tree → (asked : List ℕ) → is_unit_name asked ≡ true → unit_named u.entries asked ≡ unit_named tree.entries asked
named_as u tree same asked is = named_by_loading u asked ∙ (ap (name_in asked) (same asked is) ∙ sym (named_by_loading tree asked))

-- of a unit name each unit that is taken has one
taken_name : (tree : ReadTree) (asked unit : List ℕ) → is_unit_name asked ≡ true → IsTaken tree asked unit → is_unit_name unit ≡ true
taken_name tree asked unit is (first e) = subst (λ name. is_unit_name name ≡ true) (sym e) (named_by_name tree.entries asked is)
taken_name tree asked unit is (next {a = taker} reached step) =
    let any = also_any tree taker unit step in
    subst (λ name. is_unit_name name ≡ true) (sym any.2) (named_by_name tree.entries any.0 (also_names tree taker any.0 any.1))

also_as : (u tree : ReadTree) → LoadsAs u tree → (unit other : List ℕ) → is_unit_name unit ≡ true → IsAlso u unit other → IsAlso tree unit other
also_as u tree same unit other is step =
    let any = also_any u unit other step in
    any_also tree unit other
    (any.0, subst (λ found. Among (install_of found).also any.0) (same unit is) any.1, any.2 ∙ named_as u tree same any.0 (also_names u unit any.0 any.1))

taken_as : (u tree : ReadTree) → LoadsAs u tree → (asked unit : List ℕ) → is_unit_name asked ≡ true → IsTaken u asked unit → IsTaken tree asked unit
taken_as u tree same asked unit is (first e) = first (e ∙ named_as u tree same asked is)
taken_as u tree same asked unit is (next {a = taker} reached step) =
    next (taken_as u tree same asked taker is reached) (also_as u tree same taker unit (taken_name u asked taker is reached) step)

asked_as : (u tree : ReadTree) → LoadsAs u tree → (asked : List ℕ) → is_unit_name asked ≡ true → (link : LinkAt) → IsAskedFor u asked link → IsAskedFor tree asked link
asked_as u tree same asked is link w = record {
  unit = w.unit;
  taken = taken_as u tree same asked w.unit is w.taken;
  among = subst (λ found. Contains (links_of found) link) (same w.unit (taken_name u asked w.unit is w.taken)) w.among;
}

-- no path has an entry in a tree and none in the same tree
none_beyond : (tree : Tree) → paths_beyond tree tree ≡ []
none_beyond tree = no_filter (map.keys tree) (λ path among. is_there (map.get tree path) (map.contains_key-keys tree path ∙ among_any path (map.keys tree) among))
  where
    no_filter : (paths : List (List ℕ)) → ((path : List ℕ) → Among paths path → is_none (map.get tree path) ≡ false) → filter (λ path. is_none (map.get tree path)) paths ≡ []
    no_filter [] there = refl
    no_filter (path ∷ paths) there =
        cond-false (is_none (map.get tree path)) _ _ (there path (inl refl)) ∙ no_filter paths (λ other among. there other (inr among))

    is_there : {A : Type 0} (o : Option A) → is_some o ≡ true → is_none o ≡ false
    is_there (Some a) e = refl
    is_there None e = sym e

    or_later : (b other : Bool) → other ≡ true → (b || other) ≡ true
    or_later true other e = refl
    or_later false other e = e

    among_any : (path : List ℕ) (paths : List (List ℕ)) → Among paths path → list_any (eq_by_cmp (slice_cmp nat_cmp) path) paths ≡ true
    among_any path [] none = absurd none
    among_any path (other ∷ paths) (inl is) =
        ap (λ b. b || list_any (eq_by_cmp (slice_cmp nat_cmp) path) paths) (ap (eq_by_cmp (slice_cmp nat_cmp) path) (sym is) ∙ alike path)
    among_any path (other ∷ paths) (inr later) = or_later (eq_by_cmp (slice_cmp nat_cmp) path other) _ (among_any path paths later)

-- a second enabling is obeyed and changes nothing, if no unit has another name by the first
module _ (tree : ReadTree) (asked : List ℕ) (u : Tree) (is : is_unit_name asked ≡ true) (no_alias : HasNoAlias tree asked) (obeys : Obeys tree verbs.Enable asked u) where
  made : IsEnabled tree asked u
  made = enabled_by tree asked u obeys.makes

  -- the resulting tree, read as the one before
  abbrev again : ReadTree
  again = read_by tree.profile u

  -- a link requested then was requested before
  before : (link : LinkAt) → IsAskedFor again asked link → IsAskedFor tree asked link
  before = asked_as again tree (enabled_loads_as tree asked u no_alias obeys) asked is

  already : IsEnabled again asked u
  already = record { linked = λ path target w. made.linked path target (before (link_at path target) w); kept = λ path isnt. refl }

  fit_again : (path : List ℕ) → ¬ (IsUnfit again asked path)
  fit_again path h = all_fit tree asked u obeys path (h.0, before (link_at path h.0) h.1, h.2)

  free_again : (path : List ℕ) → ¬ (IsOccupied again asked path)
  free_again path (stands {target = target} w other) =
      true≢false
      (sym other
      ∙ (ap (λ o. is_other_than_link o target) (made.linked path target (before (link_at path target) w))
      ∙ ap not ((bytes_eq-Decides target target).1 refl)))
  free_again path (differs {target = target} {other = other} w v apart) =
      free_of_causes tree asked (no_cause tree asked u obeys) path (differs (before (link_at path target) w) (before (link_at path other) v) apart)

  few_again : (r : Refused) → ¬ (HasTooMany again asked r)
  few_again r (too_many {enabled = other} all many) =
      few_of_causes tree asked (no_cause tree asked u obeys) (too_large Entries)
      (too_many made (subst (λ t. entry_limit < map.len t) (one_enabled again asked other u all already) many))

  open_again : (unit : List ℕ) → ¬ (IsBarred again asked unit)
  open_again unit h =
      open_of_causes tree asked (none_refused tree asked u obeys) unit
      (record {
        taken = taken_as again tree (enabled_loads_as tree asked u no_alias obeys) asked unit is h.taken;
        refusal = h.refusal;
        cause = subst (λ found. CannotEnable unit found h.refusal) (enabled_loads_as tree asked u no_alias obeys unit (taken_name again asked unit is h.taken)) h.cause;
      })

  obeyed_again : (r : Refused) → ¬ (RefusesInstall again verbs.Enable asked r)
  obeyed_again r (at_first (enables_none (at_first unfit))) = fit_again unfit.name unfit.least.has
  obeyed_again r (at_first (enables_none (at_second fit (at_first occupied)))) = free_again occupied.name occupied.least.has
  obeyed_again r (at_first (enables_none (at_second fit (at_second free many)))) = few_again r many
  obeyed_again r (at_second _ (takes_none barred)) = open_again barred.name barred.least.has

  pub enable_twice : Obeys again verbs.Enable asked u
  enable_twice = record { free = obeyed_again; makes = enables already }

  pub enable_twice_alone : (w : Tree) → Installs again verbs.Enable asked w → w ≡ u
  enable_twice_alone w more = one_install again verbs.Enable asked w u more (enables already)

  -- so it reports no link
  pub enable_twice_tells_none : (w : Tree) → Installs again verbs.Enable asked w → paths_beyond u w ≡ []
  enable_twice_tells_none w more = ap (paths_beyond u) (enable_twice_alone w more) ∙ none_beyond u
