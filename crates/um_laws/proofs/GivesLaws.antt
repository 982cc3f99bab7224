-- It is decided what a name gives, declares and mentions; but for the unit's own name, only unit names are in it.
use Rattle.std.proofs.Common.{◌≡◌, ◌≢◌, ◌⊎◌, ◌∙◌, ◌&&◌, ℕ, Bool, true, false, cond, List, [], ◌∷◌, map as each, filter_map, Option, Some, None, is_some, Ok, Err, refl, sym, ap, subst, inl, inr}
use Rattle.std.specs.FinMap as map
use Rattle.std.proofs.lemmas.Bool.{and_parts}
use Rattle.std.proofs.lemmas.Option.{none-some, same_Some}
use denote.Enum.Bare.{sameb, same_true, same_false}
use Rattle.um_model.specs.Profiles.{ReadTree}
use Rattle.um_model.specs.Dependencies.{loadable_in, names_in, Links, has_defaults, Gives, Declares, Mentions}
use Rattle.um_model.specs.Dependencies as model
use Rattle.um_model.specs.Names.{is_unit_name, suffix_of, stem_of}
use Rattle.std.specs.Result.{result_ok}
use Rattle.std.specs.Option.{option_map_or}
use Rattle.um_model.specs.Readings.{text_reading, names_reading, read_if}
use Rattle.um_model.specs.Results.{◌and_then◌}
use Rattle.um_model.specs.Resolution.{Resolution, AtFile, AtNoFile, AtMask, Nowhere, resolution_of, shutdown_target}
use Rattle.um_model.specs.Tree.{Tree, Entry, File, Link, PathParts, Place, Unit as Itself, DropIn, Wants, Requires, path_parts, is_fit_place, is_plain_name}
use Rattle.um_model.specs.Units.{Source, Assigned, Dependencies, LoadedUnit, Loading, Found, dependencies_of, assignments_in, unit_by, loading_at, sources_at, load, unit_named}
use Rattle.um_model.specs.Words.{words_of}
use Rattle.um_model.specs.contracts.dependencies.DependencyKind as dependency_kind
use Rattle.um_model.specs.declared.dependencies.DependencyKind.{DependencyKind}
use Rattle.um_model.specs.declared.dependencies.DependencyKind.TheVariants as kinds
use Rattle.um_model.specs.declared.warnings.WarningKind.TheVariants.{UnreadableValue}
use Rattle.um_model.specs.declared.words.WordRules.TheVariants.{Names}
use Rattle.um_model.proofs.Forms.{found_unless}
use Rattle.um_laws.proofs.AmongLaws.{both_decided, either_decided, passes_or_not, decided_as, AnyOf, any_decided, among_contained, contains_among, from_map, from_flat_map, from_filter_map}
use Rattle.um_laws.proofs.CoverLaws.{names_cover}
use Rattle.um_model.proofs.LeastLaws.{IsDecided, Among}
use Rattle.um_laws.proofs.NamedLaws.{named_by_name}
use Rattle.um_model.proofs.OwnNameLaws.{loadable_found, name_of_loadable}
use Rattle.um_model.proofs.TimersLaws.{same_name, same_option, among_keys}
use Rattle.um_model.proofs.TreeLaws.{path_of_parts, fit-name}
use Rattle.um_model.specs.FileForms.{Meaning, names_of, names_said}
use Rattle.um_model.specs.FileForms.{unit_reading}

-- ---- kinds

-- a kind is another one or not
same_kind : (kind other : DependencyKind) → IsDecided (kind ≡ other)
same_kind kind other = by_test (sameb dependency_kind.the_type kind other) refl
  where
    by_test : (b : Bool) → sameb dependency_kind.the_type kind other ≡ b → IsDecided (kind ≡ other)
    by_test true same = inl (same_true dependency_kind.the_type tt kind other same)
    by_test false apart = inr (same_false dependency_kind.the_type kind other apart)

-- each kind is among these
pub all_kinds : List DependencyKind
all_kinds = kinds.Wants ∷ kinds.Requires ∷ kinds.BindsTo ∷ kinds.PartOf ∷ kinds.Conflicts ∷ []

pub among_kinds : (kind : DependencyKind) → Among all_kinds kind
unfolding all_kinds
among_kinds kinds.Wants = inl refl
among_kinds kinds.Requires = inr (inl refl)
among_kinds kinds.BindsTo = inr (inr (inl refl))
among_kinds kinds.PartOf = inr (inr (inr (inl refl)))
among_kinds kinds.Conflicts = inr (inr (inr (inr (inl refl))))

-- ---- links

-- a path by itself names a link y in the directory of the unit x for the units that it wants or requires
pub data Says : PathParts → DependencyKind → List ℕ → List ℕ → Type 0 where
  wants : (p : PathParts) (other : List ℕ) → p.place ≡ Wants other → Says p kinds.Wants p.unit other
  requires : (p : PathParts) (other : List ℕ) → p.place ≡ Requires other → Says p kinds.Requires p.unit other

-- the link with its path and the parts of that
pub record HasLink (tree : Tree) (kind : DependencyKind) (x y : List ℕ) : Type 0 where
  pub path : List ℕ
  pub target : List ℕ
  pub parts : PathParts
  pub link : map.get tree path ≡ Some (Link target)
  pub served : path_parts path ≡ Some parts
  pub says : Says parts kind x y

pub link_there : (tree : Tree) (kind : DependencyKind) (x y : List ℕ) → Links tree kind x y → HasLink tree kind x y
link_there tree _ _ _ (model.wants path target y p link served at) =
    record { path = path; target = target; parts = p; link = link; served = served; says = wants p y at }
link_there tree _ _ _ (model.requires path target y p link served at) =
    record { path = path; target = target; parts = p; link = link; served = served; says = requires p y at }

pub there_linked : (tree : Tree) (kind : DependencyKind) (x y path target : List ℕ) (parts : PathParts) → map.get tree path ≡ Some (Link target) → path_parts path ≡ Some parts
    → Says parts kind x y → Links tree kind x y
there_linked tree _ _ _ path target _ link served (wants p y at) = model.wants path target y p link served at
there_linked tree _ _ _ path target _ link served (requires p y at) = model.requires path target y p link served at

-- the kind of link that a place is, and the unit that it names
abbrev link_of : Place → Option (DependencyKind × List ℕ)
link_of Itself = None
link_of (DropIn name) = None
link_of (Wants other) = Some (kinds.Wants, other)
link_of (Requires other) = Some (kinds.Requires, other)

same_link : (a b : DependencyKind × List ℕ) → IsDecided (a ≡ b)
same_link a b =
    decided_as (λ (both : (a.0 ≡ b.0) × (a.1 ≡ b.1)). λ i. (both.0 i, both.1 i)) (λ same. (ap (λ x. x.0) same, ap (λ x. x.1) same))
    (both_decided (same_kind a.0 b.0) (same_name a.1 b.1))

from_says : (p : PathParts) (kind : DependencyKind) (x y : List ℕ) → Says p kind x y → (p.unit ≡ x) × (link_of p.place ≡ Some (kind, y))
from_says _ _ _ _ (wants p other at) = (refl, ap link_of at)
from_says _ _ _ _ (requires p other at) = (refl, ap link_of at)

to_says : (p : PathParts) (kind : DependencyKind) (x y : List ℕ) → (p.unit ≡ x) × (link_of p.place ≡ Some (kind, y)) → Says p kind x y
to_says p kind x y both = subst (λ unit. Says p kind unit y) both.0 (by_place p.place refl both.1)
  where
    as_named : (link : DependencyKind × List ℕ) → link ≡ (kind, y) → Says p link.0 p.unit link.1 → Says p kind p.unit y
    as_named link same = subst (λ (l : DependencyKind × List ℕ). Says p l.0 p.unit l.1) same

    by_place : (place : Place) → p.place ≡ place → link_of place ≡ Some (kind, y) → Says p kind p.unit y
    by_place Itself at is = absurd (none-some (kind, y) is)
    by_place (DropIn name) at is = absurd (none-some (kind, y) is)
    by_place (Wants other) at is = as_named (kinds.Wants, other) (same_Some (kinds.Wants, other) (kind, y) is) (wants p other at)
    by_place (Requires other) at is = as_named (kinds.Requires, other) (same_Some (kinds.Requires, other) (kind, y) is) (requires p other at)

says_or_not : (p : PathParts) (kind : DependencyKind) (x y : List ℕ) → IsDecided (Says p kind x y)
says_or_not p kind x y =
    decided_as (to_says p kind x y) (from_says p kind x y) (both_decided (same_name p.unit x) (same_option same_link (link_of p.place) (Some (kind, y))))

plain_name : (text : List ℕ) → is_plain_name text ≡ true → is_unit_name text ≡ true
plain_name text plain = (and_parts (is_unit_name text) _ plain).0

second_name : (unit other : List ℕ) → (is_plain_name unit && is_plain_name other) ≡ true → is_unit_name other ≡ true
second_name unit other fit = plain_name other (and_parts (is_plain_name unit) (is_plain_name other) fit).1

names_said_by : (p : PathParts) (kind : DependencyKind) (x y : List ℕ) → is_fit_place p.unit p.place ≡ true → Says p kind x y → (is_unit_name x ≡ true) × (is_unit_name y ≡ true)
names_said_by _ _ _ _ fit (wants p other at) = (fit-name p.unit p.place fit, second_name p.unit other (sym (ap (is_fit_place p.unit) at) ∙ fit))
names_said_by _ _ _ _ fit (requires p other at) = (fit-name p.unit p.place fit, second_name p.unit other (sym (ap (is_fit_place p.unit) at) ∙ fit))

module _ (tree : Tree) (kind : DependencyKind) (x y : List ℕ) where
  -- such a link stands at the path
  abbrev IsLinkAt : List ℕ → Type 0
  IsLinkAt path = (target : List ℕ) × (parts : PathParts) × (map.get tree path ≡ Some (Link target)) × (path_parts path ≡ Some parts) × Says parts kind x y

  link_at_or_not : (path : List ℕ) → IsDecided (IsLinkAt path)
  link_at_or_not path = by_entry (map.get tree path) refl (path_parts path) refl
    where
      isnt_link : (text target : List ℕ) → Some (File text) ≢ Some (Link target)
      isnt_link text target e = cc

      by_entry : (entry : Option Entry) → map.get tree path ≡ entry → (o : Option PathParts) → path_parts path ≡ o → IsDecided (IsLinkAt path)
      by_entry None at o served = inr (λ link. none-some (Link link.0) (sym at ∙ link.2))
      by_entry (Some (File text)) at o served = inr (λ link. isnt_link text link.0 (sym at ∙ link.2))
      by_entry (Some (Link target)) at None served = inr (λ link. none-some link.1 (sym served ∙ link.3))
      by_entry (Some (Link target)) at (Some parts) served =
          decided_as (λ says. (target, parts, at, served, says)) (λ link. subst (λ p. Says p kind x y) (same_Some link.1 parts (sym link.3 ∙ served)) link.4)
          (says_or_not parts kind x y)

  -- the tree has such a link or not
  pub links_or_not : IsDecided (Links tree kind x y)
  links_or_not =
      decided_as (λ any. there_linked tree kind x y any.0 any.2.0 any.2.1 any.2.2 any.2.3 any.2.4)
      (λ links. let l = link_there tree kind x y links in (l.path, among_keys tree l.path (ap is_some l.link), (l.target, l.parts, l.link, l.served, l.says)))
      (any_decided IsLinkAt link_at_or_not (map.keys tree))

  -- both names of a link are unit names
  pub names_of_link : Links tree kind x y → (is_unit_name x ≡ true) × (is_unit_name y ≡ true)
  names_of_link links = let l = link_there tree kind x y links in names_said_by l.parts kind x y (path_of_parts l.path l.parts l.served).fit l.says

-- ---- the names in settings are unit names

read_fits : (fits : List ℕ → Bool) (name : List ℕ) (r : Meaning (List ℕ)) → result_ok (r and_then read_if fits) ≡ Some name → fits name ≡ true
read_fits fits name (Err warning) is = absurd (none-some name is)
read_fits fits name (Ok text) is = by_test (fits text) refl is
  where
    by_test : (b : Bool) → fits text ≡ b → result_ok (cond b (Ok text) (Err UnreadableValue)) ≡ Some name → fits name ≡ true
    by_test true fit same = subst (λ t. fits t ≡ true) (same_Some text name same) fit
    by_test false unfit none = absurd (none-some name none)

names_fit : (fits : List ℕ → Bool) (unit : List ℕ) (values : List (List ℕ)) (name : List ℕ) → Among (names_of fits unit values) name → fits name ≡ true
unfolding names_reading
names_fit fits unit values name is = let value = from_flat_map (names_said fits unit) values name is in by_words (words_of Names value.0) value.2
  where
    by_words : (o : Option (List (List ℕ))) → Among (filter_map result_ok (option_map_or (each (unit_reading fits unit)) o (Err UnreadableValue ∷ []))) name → fits name ≡ true
    by_words None none = absurd none
    by_words (Some words) among =
        let reading = from_filter_map result_ok (each (unit_reading fits unit) words) name among in
        let word = from_map (unit_reading fits unit) words reading.0 reading.1 in
        read_fits fits name (text_reading unit word.0) (sym (ap result_ok word.2) ∙ reading.2)

-- all units that the settings name to depend on, or to be before or after, have unit names
pub record AreNames (d : Dependencies) : Type 0 where
  pub needs : (kind : DependencyKind) (name : List ℕ) → Among (names_in kind d) name → is_unit_name name ≡ true
  pub before : (name : List ℕ) → Among d.before name → is_unit_name name ≡ true
  pub after : (name : List ℕ) → Among d.after name → is_unit_name name ≡ true

names_of_section : (unit : List ℕ) (assigned : List Assigned) → AreNames (dependencies_of unit assigned)
unfolding dependencies_of
names_of_section unit assigned = record { needs = by_kind; before = names_fit is_unit_name unit _; after = names_fit is_unit_name unit _ }
  where
    by_kind : (kind : DependencyKind) (name : List ℕ) → Among (names_in kind (dependencies_of unit assigned)) name → is_unit_name name ≡ true
    by_kind kinds.Wants = names_fit is_unit_name unit _
    by_kind kinds.Requires = names_fit is_unit_name unit _
    by_kind kinds.BindsTo = names_fit is_unit_name unit _
    by_kind kinds.PartOf = names_fit is_unit_name unit _
    by_kind kinds.Conflicts = names_fit is_unit_name unit _

-- of a unit that is found
abbrev AreNamesIn : Loading → Type 0
AreNamesIn (Found l) = AreNames l.settings.dependencies
AreNamesIn other = Unit {0}

names_loaded : (tree : ReadTree) (asked : List ℕ) → AreNamesIn (load tree asked)
unfolding load
names_loaded tree asked = by_resolution (resolution_of tree.entries asked)
  where
    by_reason : (unit path : List ℕ) (sources : List Source) (reason : Option (List ℕ)) → AreNamesIn (found_unless reason (unit_by tree.profile unit (Some path) sources))
    by_reason unit path sources None = names_of_section unit (assignments_in (suffix_of unit) sources)
    by_reason unit path sources (Some reason) = tt

    by_resolution : (r : Resolution) → AreNamesIn (loading_at tree r)
    by_resolution (AtFile unit path text) = by_reason unit path (sources_at tree.entries (AtFile unit path text)) _
    by_resolution (AtNoFile unit) = names_of_section unit (assignments_in (suffix_of unit) (sources_at tree.entries (AtNoFile unit)))
    by_resolution (AtMask unit) = tt
    by_resolution Nowhere = tt

-- the units that the settings of one that can be loaded name have unit names
pub names_of_loadable : (tree : ReadTree) (asked : List ℕ) (l : LoadedUnit) → loadable_in tree asked ≡ Some l → AreNames l.settings.dependencies
names_of_loadable tree asked l loadable = subst AreNamesIn (loadable_found (load tree asked) l loadable) (names_loaded tree asked)

shutdown_is_name : is_unit_name shutdown_target ≡ true
unfolding is_unit_name suffix_of stem_of
shutdown_is_name = refl

-- ---- dependencies and order by a name

-- a relation between two names holds of the same two names
pub of_same : (R : List ℕ → List ℕ → Type 0) {u v x y : List ℕ} → x ≡ u → y ≡ v → R u v → R x y
of_same R {u = u} {v = v} {x = x} {y = y} first second h = subst (λ z. R z y) (sym first) (subst (R u) (sym second) h)

module _ (tree : ReadTree) (a : List ℕ) where
  -- the unit of the name can be loaded, and has the property
  abbrev pub IsLoadable : (LoadedUnit → Type 0) → Type 0
  IsLoadable Has = (l : LoadedUnit) × (loadable_in tree a ≡ Some l) × Has l

  -- it can and has it, or not
  pub loadable_or_not : (Has : LoadedUnit → Type 0) → ((l : LoadedUnit) → IsDecided (Has l)) → IsDecided (IsLoadable Has)
  loadable_or_not Has decided = by_unit (loadable_in tree a) refl
    where
      by_unit : (o : Option LoadedUnit) → loadable_in tree a ≡ o → IsDecided (IsLoadable Has)
      by_unit None at = inr (λ h. none-some h.0 (sym at ∙ h.1))
      by_unit (Some l) at = decided_as (λ has. (l, at, has)) (λ h. subst Has (same_Some h.0 l (sym h.1 ∙ at)) h.2) (decided l)

  -- the name is that of one in the list
  abbrev Leads : List (List ℕ) → List ℕ → Type 0
  Leads names y = AnyOf (λ name. y ≡ unit_named tree.entries name) names

  leads_or_not : (names : List (List ℕ)) (y : List ℕ) → IsDecided (Leads names y)
  leads_or_not names y = any_decided (λ name. y ≡ unit_named tree.entries name) (λ name. same_name y (unit_named tree.entries name)) names

  abbrev IsSaid : DependencyKind → List ℕ → List ℕ → LoadedUnit → Type 0
  IsSaid kind x y l = (x ≡ l.name) × Leads (names_in kind l.settings.dependencies) y

  abbrev IsLinked : DependencyKind → List ℕ → List ℕ → Type 0
  IsLinked kind x y = (x ≡ unit_named tree.entries a) × AnyOf (λ name. Links tree.entries kind a name × (y ≡ unit_named tree.entries name)) names_cover.0

  -- the unit is x and ends at a shutdown, and y is the shutdown's unit
  abbrev pub IsEnding : List ℕ → List ℕ → LoadedUnit → Type 0
  IsEnding x y l = (has_defaults l ≡ true) × ((x ≡ l.name) × (y ≡ unit_named tree.entries shutdown_target))

  abbrev IsGiven : DependencyKind → List ℕ → List ℕ → Type 0
  IsGiven kind x y = IsLoadable (IsSaid kind x y) ⊎ (IsLinked kind x y ⊎ ((kind ≡ kinds.Conflicts) × IsLoadable (IsEnding x y)))

  from_gives : (kind : DependencyKind) (x y : List ℕ) → Gives tree a kind x y → IsGiven kind x y
  from_gives kind _ _ (model.said {y = name} {l = l} loadable names) =
      inl (l, loadable, (refl, (name, among_contained (names_in kind l.settings.dependencies) name names, refl)))
  from_gives kind _ _ (model.linked {y = name} links) = inr (inl (refl, (name, names_cover.1 name (names_of_link tree.entries kind a name links).1, (links, refl))))
  from_gives _ _ _ (model.ends {l = l} loadable defaults) = inr (inr (refl, (l, loadable, (defaults, (refl, refl)))))

  to_gives : (kind : DependencyKind) (x y : List ℕ) → IsGiven kind x y → Gives tree a kind x y
  to_gives kind x y (inl (l, loadable, (same, (name, among, leads)))) =
      of_same (Gives tree a kind) same leads (model.said loadable (contains_among (names_in kind l.settings.dependencies) name among))
  to_gives kind x y (inr (inl (same, (name, among, (links, leads))))) = of_same (Gives tree a kind) same leads (model.linked links)
  to_gives kind x y (inr (inr (is, (l, loadable, (defaults, (same, leads)))))) =
      subst (λ k. Gives tree a k x y) (sym is) (of_same (Gives tree a kinds.Conflicts) same leads (model.ends loadable defaults))

  said_or_not : (kind : DependencyKind) (x y : List ℕ) (l : LoadedUnit) → IsDecided (IsSaid kind x y l)
  said_or_not kind x y l = both_decided (same_name x l.name) (leads_or_not (names_in kind l.settings.dependencies) y)

  linked_or_not : (kind : DependencyKind) (x y : List ℕ) → IsDecided (IsLinked kind x y)
  linked_or_not kind x y =
      both_decided (same_name x (unit_named tree.entries a))
      (any_decided (λ name. Links tree.entries kind a name × (y ≡ unit_named tree.entries name)) (λ name. both_decided (links_or_not tree.entries kind a name) (same_name y (unit_named tree.entries name))) names_cover.0)

  -- it is so or not
  pub ending_or_not : (x y : List ℕ) (l : LoadedUnit) → IsDecided (IsEnding x y l)
  ending_or_not x y l = both_decided (passes_or_not (has_defaults l) true) (both_decided (same_name x l.name) (same_name y (unit_named tree.entries shutdown_target)))

  -- by the name, x depends on y or not
  pub gives_or_not : (kind : DependencyKind) (x y : List ℕ) → IsDecided (Gives tree a kind x y)
  gives_or_not kind x y =
      decided_as (to_gives kind x y) (from_gives kind x y)
      (either_decided (loadable_or_not (IsSaid kind x y) (said_or_not kind x y))
      (either_decided (linked_or_not kind x y) (both_decided (same_kind kind kinds.Conflicts) (loadable_or_not (IsEnding x y) (ending_or_not x y)))))

  abbrev IsBefore : List ℕ → List ℕ → LoadedUnit → Type 0
  IsBefore x y l = (x ≡ l.name) × Leads l.settings.dependencies.before y

  abbrev IsAfter : List ℕ → List ℕ → LoadedUnit → Type 0
  IsAfter x y l = (y ≡ l.name) × Leads l.settings.dependencies.after x

  from_declares : (x y : List ℕ) → Declares tree a x y → IsLoadable (IsBefore x y) ⊎ IsLoadable (IsAfter x y)
  from_declares _ _ (model.precedes {y = name} {l = l} loadable names) = inl (l, loadable, (refl, (name, among_contained l.settings.dependencies.before name names, refl)))
  from_declares _ _ (model.follows {y = name} {l = l} loadable names) = inr (l, loadable, (refl, (name, among_contained l.settings.dependencies.after name names, refl)))

  to_declares : (x y : List ℕ) → IsLoadable (IsBefore x y) ⊎ IsLoadable (IsAfter x y) → Declares tree a x y
  to_declares x y (inl (l, loadable, (same, (name, among, leads)))) =
      of_same (Declares tree a) same leads (model.precedes loadable (contains_among l.settings.dependencies.before name among))
  to_declares x y (inr (l, loadable, (same, (name, among, leads)))) =
      of_same (Declares tree a) leads same (model.follows loadable (contains_among l.settings.dependencies.after name among))

  -- by the name, x is declared before y or not
  pub declares_or_not : (x y : List ℕ) → IsDecided (Declares tree a x y)
  declares_or_not x y =
      decided_as (to_declares x y) (from_declares x y)
      (either_decided (loadable_or_not (IsBefore x y) (λ l. both_decided (same_name x l.name) (leads_or_not l.settings.dependencies.before y)))
      (loadable_or_not (IsAfter x y) (λ l. both_decided (same_name y l.name) (leads_or_not l.settings.dependencies.after x))))

  -- ---- mentioned names

  -- the unit of the name, or a unit name
  abbrev pub OwnOrName : List ℕ → Type 0
  OwnOrName z = (z ≡ unit_named tree.entries a) ⊎ (is_unit_name z ≡ true)

  own_name : (l : LoadedUnit) → loadable_in tree a ≡ Some l → OwnOrName l.name
  own_name l loadable = inl (sym (name_of_loadable tree a l loadable))

  names_given : (kind : DependencyKind) (x y : List ℕ) → Gives tree a kind x y → OwnOrName x × OwnOrName y
  names_given kind _ _ (model.said {y = name} {l = l} loadable names) =
      (own_name l loadable, inr (named_by_name tree.entries name ((names_of_loadable tree a l loadable).needs kind name (among_contained (names_in kind l.settings.dependencies) name names))))
  names_given kind _ _ (model.linked {y = name} links) = (inl refl, inr (named_by_name tree.entries name (names_of_link tree.entries kind a name links).1))
  names_given kind _ _ (model.ends {l = l} loadable defaults) = (own_name l loadable, inr (named_by_name tree.entries shutdown_target shutdown_is_name))

  names_declared : (x y : List ℕ) → Declares tree a x y → OwnOrName x × OwnOrName y
  names_declared _ _ (model.precedes {y = name} {l = l} loadable names) =
      (own_name l loadable, inr (named_by_name tree.entries name ((names_of_loadable tree a l loadable).before name (among_contained l.settings.dependencies.before name names))))
  names_declared _ _ (model.follows {y = name} {l = l} loadable names) =
      (inr (named_by_name tree.entries name ((names_of_loadable tree a l loadable).after name (among_contained l.settings.dependencies.after name names))), own_name l loadable)

  -- a name that is known along with a name is its unit or a unit name
  pub names_mentioned : (b : List ℕ) → Mentions tree a b → OwnOrName b
  names_mentioned b (model.owner {y = y} {kind = kind} gives) = (names_given kind b y gives).0
  names_mentioned b (model.other {x = x} {kind = kind} gives) = (names_given kind x b gives).1
  names_mentioned b (model.earlier {y = y} declares) = (names_declared b y declares).0
  names_mentioned b (model.later {x = x} declares) = (names_declared x b declares).1

  all_ends : List (List ℕ)
  all_ends = unit_named tree.entries a ∷ names_cover.0

  among_ends : (z : List ℕ) → OwnOrName z → Among all_ends z
  unfolding all_ends
  among_ends z (inl own) = inl own
  among_ends z (inr is) = inr (names_cover.1 z is)

  abbrev IsOwner : List ℕ → DependencyKind → Type 0
  IsOwner b kind = AnyOf (λ y. Gives tree a kind b y) all_ends

  abbrev IsOther : List ℕ → DependencyKind → Type 0
  IsOther b kind = AnyOf (λ x. Gives tree a kind x b) all_ends

  abbrev IsMentioned : List ℕ → Type 0
  IsMentioned b = AnyOf (IsOwner b) all_kinds ⊎ (AnyOf (IsOther b) all_kinds ⊎ (AnyOf (λ y. Declares tree a b y) all_ends ⊎ AnyOf (λ x. Declares tree a x b) all_ends))

  from_mentions : (b : List ℕ) → Mentions tree a b → IsMentioned b
  from_mentions b (model.owner {y = y} {kind = kind} gives) = inl (kind, among_kinds kind, (y, among_ends y (names_given kind b y gives).1, gives))
  from_mentions b (model.other {x = x} {kind = kind} gives) = inr (inl (kind, among_kinds kind, (x, among_ends x (names_given kind x b gives).0, gives)))
  from_mentions b (model.earlier {y = y} declares) = inr (inr (inl (y, among_ends y (names_declared b y declares).1, declares)))
  from_mentions b (model.later {x = x} declares) = inr (inr (inr (x, among_ends x (names_declared x b declares).0, declares)))

  to_mentions : (b : List ℕ) → IsMentioned b → Mentions tree a b
  to_mentions b (inl (kind, among, (y, ends, gives))) = model.owner gives
  to_mentions b (inr (inl (kind, among, (x, ends, gives)))) = model.other gives
  to_mentions b (inr (inr (inl (y, ends, declares)))) = model.earlier declares
  to_mentions b (inr (inr (inr (x, ends, declares)))) = model.later declares

  -- b is known along with the name or not
  pub mentions_or_not : (b : List ℕ) → IsDecided (Mentions tree a b)
  mentions_or_not b =
      decided_as (to_mentions b) (from_mentions b)
      (either_decided (any_decided (IsOwner b) (λ kind. any_decided (λ y. Gives tree a kind b y) (λ y. gives_or_not kind b y) all_ends) all_kinds)
      (either_decided (any_decided (IsOther b) (λ kind. any_decided (λ x. Gives tree a kind x b) (λ x. gives_or_not kind x b) all_ends) all_kinds)
      (either_decided (any_decided (λ y. Declares tree a b y) (λ y. declares_or_not b y) all_ends) (any_decided (λ x. Declares tree a x b) (λ x. declares_or_not x b) all_ends))))
