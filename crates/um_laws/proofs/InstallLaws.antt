-- Enabling, disabling, masking and unmasking have exactly one outcome each; so has the query how a unit is enabled.
use Rattle.std.proofs.Common.{ℕ, ◌≤◌, ◌≡◌, ◌≢◌, ◌⊎◌, ◌∙◌, ◌&&◌, ◌||◌, Bool, true, false, true≢false, cond, List, [], ◌∷◌, map as each, flat_map, Contains, Option, Some, None, is_some, Result, Ok, Err, codes, refl, sym, ap, subst, inl, inr, arith}
use Rattle.std.specs.Bool.{one_answer}
use Rattle.std.specs.FinMap as map
use Rattle.std.specs.FinMap.{slice_cmp-IsAntisymmetric, nat_cmp-IsAntisymmetric}
use Rattle.std.specs.Cmp.Lexicographic.{slice_cmp, nat_list_cmp_total}
use Rattle.std.specs.Ordering.{nat_cmp, eq_by_cmp}
use Rattle.std.proofs.lemmas.Bool.{cases_lt, and_parts, or_cases}
use Rattle.std.proofs.lemmas.Option.{none-some}
use Rattle.std.proofs.lemmas.Slice.Eq.{bytes_eq-Decides}
use Rattle.std.specs.Str.{bytes_eq}
use Rattle.um_model.specs.Profiles.{ReadTree}
use Rattle.um_model.specs.Install.{LinkAt, link_at, install_of, linked_name, links_of, IsAlso, also, IsTaken, IsAskedFor, IsEnabled, IsUnfit, IsOccupied, stands, differs, HasTooMany, too_many, CannotEnable, isnt_found, is_masked, has_bad_setting, lacks_instance, IsBarred, CausesOfLinks, IsMeant, IsUnlinked, IsDisabled, unmasked, Installs, enables, disables, masks, unmasks, RefusesLinks, enables_none, masks_none, RefusesUnits, takes_none, RefusesInstall, enabling_of, IsEnabledAs}
use Rattle.um_model.specs.Least.{IsNamedBefore, NamesLeast}
use Rattle.um_model.specs.Names.{is_unit_name}
use Rattle.um_model.specs.Reached.{first, next}
use Rattle.um_model.specs.Refusals.{Refused, at_first, at_second, bad_path, exists_at, too_large}
use Rattle.um_model.specs.Resolution.{drop_ins_in, unit_path, unit_in_target}
use Rattle.um_model.specs.Tree.{Tree, Entry, File, Link, PathParts, Place, Unit, DropIn, Wants, Requires, path_parts, entry_limit, is_fit_target, is_other_than_link, put_link}
use Rattle.um_model.specs.Units.{Loading, Found, Masked, NotFound, BadSetting, load, unit_named}
use Rattle.um_model.specs.declared.install.Enabling.{Enabling}
use Rattle.um_model.specs.declared.install.InstallVerb.{InstallVerb}
use Rattle.um_model.specs.declared.install.InstallVerb.TheVariants as verbs
use Rattle.um_model.specs.declared.refusals.Limit.TheVariants.{Entries}
use Rattle.um_model.specs.declared.tree.Layer.{Layer}
use Rattle.um_model.specs.declared.tree.Layer.TheVariants.{Etc, Run, Lib}
use Rattle.um_laws.proofs.AmongLaws.{both_decided, either_decided, not_decided, passes_or_not, decided_as, test_of, AnyOf, any_decided, among_or_not, IsListOf, list_of, among_contained, contains_among, among_map, among_flat_map, from_flat_map}
use Rattle.um_laws.proofs.CausesLaws.{OneOrNone, first_or_then, one_first, NoneOrLeast, named_or_none, one_named, same_ok, same_err}
use Rattle.um_laws.proofs.CoverLaws.{names_cover}
use Rattle.um_model.proofs.LeastLaws.{IsDecided, Among, a_least}
use Rattle.um_laws.proofs.LoadsLaws.{HasNoFile, link_inserted}
use Rattle.um_laws.proofs.NamedLaws.{named_by_name, also_names}
use Rattle.um_laws.proofs.ReachedLaws.{reached_list}
use Rattle.um_model.proofs.TimersLaws.{same_name, named_trans, one_named_first, among_keys}
use Rattle.um_model.proofs.UnitLaws.{alike, unlike}
use Rattle.um_model.specs.Install.{is_etc}

-- ---- trees

-- trees that hold the same everywhere are one
pub same_tree : (a b : Tree) → ((path : List ℕ) → map.get a path ≡ map.get b path) → a ≡ b
same_tree a b = map.same_map nat_list_cmp_total (slice_cmp-IsAntisymmetric nat_cmp-IsAntisymmetric) a b

inserted_here : (tree : Tree) (path : List ℕ) (entry : Entry) (at : List ℕ) → at ≡ path → map.get (map.insert tree path entry) at ≡ Some entry
inserted_here tree path entry at is =
    map.get-insert nat_list_cmp_total tree path entry at
    ∙ ap (λ b. cond b (Some entry) (map.get tree at)) (ap (λ p. eq_by_cmp (slice_cmp nat_cmp) p path) is ∙ alike path)

inserted_apart : (tree : Tree) (path : List ℕ) (entry : Entry) (at : List ℕ) → at ≢ path → map.get (map.insert tree path entry) at ≡ map.get tree at
inserted_apart tree path entry at apart =
    map.get-insert nat_list_cmp_total tree path entry at ∙ ap (λ b. cond b (Some entry) (map.get tree at)) (unlike at path apart)

removed_here : (tree : Tree) (path at : List ℕ) → at ≡ path → map.get (map.remove tree path) at ≡ None
removed_here tree path at is =
    map.get-remove nat_list_cmp_total tree path at
    ∙ ap (λ b. cond b None (map.get tree at)) (ap (λ p. eq_by_cmp (slice_cmp nat_cmp) p path) is ∙ alike path)

removed_apart : (tree : Tree) (path at : List ℕ) → at ≢ path → map.get (map.remove tree path) at ≡ map.get tree at
removed_apart tree path at apart =
    map.get-remove nat_list_cmp_total tree path at ∙ ap (λ b. cond b None (map.get tree at)) (unlike at path apart)

-- ---- the units taken, and the names meant

pub also_any : (tree : ReadTree) (unit other : List ℕ) → IsAlso tree unit other → AnyOf (λ name. other ≡ unit_named tree.entries name) (install_of (load tree unit)).also
also_any tree unit other (also {name = name} among) = (name, among_contained (install_of (load tree unit)).also name among, refl)

pub any_also : (tree : ReadTree) (unit other : List ℕ) → AnyOf (λ name. other ≡ unit_named tree.entries name) (install_of (load tree unit)).also → IsAlso tree unit other
any_also tree unit other any = subst (IsAlso tree unit) (sym any.2) (also (contains_among (install_of (load tree unit)).also any.0 any.1))

also_or_not : (tree : ReadTree) (unit other : List ℕ) → IsDecided (IsAlso tree unit other)
also_or_not tree unit other =
    decided_as (any_also tree unit other) (also_any tree unit other)
    (any_decided (λ name. other ≡ unit_named tree.entries name) (λ name. same_name other (unit_named tree.entries name)) (install_of (load tree unit)).also)

-- a unit that is taken is the given one, or has a unit name
taken_covered : (tree : ReadTree) (asked unit : List ℕ) → IsTaken tree asked unit → Among (unit_named tree.entries asked ∷ names_cover.0) unit
taken_covered tree asked unit (first is) = inl is
taken_covered tree asked unit (next {a = taker} reached step) =
    let any = also_any tree taker unit step in
    inr (names_cover.1 unit (subst (λ n. is_unit_name n ≡ true) (sym any.2) (named_by_name tree.entries any.0 (also_names tree taker any.0 any.1))))

-- a list has just the units that are taken
pub taken_list : (tree : ReadTree) (asked : List ℕ) → (units : List (List ℕ)) × IsListOf (IsTaken tree asked) units
taken_list tree asked =
    reached_list (λ unit. unit ≡ unit_named tree.entries asked) (IsAlso tree) (unit_named tree.entries asked ∷ names_cover.0) (taken_covered tree asked)
    (λ unit. same_name unit (unit_named tree.entries asked)) (also_or_not tree)

written_or_not : (tree : ReadTree) (unit name : List ℕ) → IsDecided (Contains (install_of (load tree unit)).also name)
written_or_not tree unit name =
    let names = (install_of (load tree unit)).also in
    decided_as (contains_among names name) (among_contained names name) (among_or_not same_name names name)

meant_covered : (tree : ReadTree) (asked name : List ℕ) → IsMeant tree asked name → Among (asked ∷ names_cover.0) name
meant_covered tree asked name (first is) = inl is
meant_covered tree asked name (next {a = unit} reached step) =
    inr (names_cover.1 name (also_names tree unit name (among_contained (install_of (load tree unit)).also name step)))

-- a list has just the names that are meant
pub meant_list : (tree : ReadTree) (asked : List ℕ) → (names : List (List ℕ)) × IsListOf (IsMeant tree asked) names
meant_list tree asked =
    reached_list (λ name. name ≡ asked) (λ unit name. Contains (install_of (load tree unit)).also name) (asked ∷ names_cover.0) (meant_covered tree asked) (λ name. same_name name asked) (written_or_not tree)

-- ---- the links that disabling removes, by tests

-- a link at such a place wants or requires the unit of this name
abbrev pub pulls_in : Place → List ℕ → Bool
pulls_in (Wants other) name = bytes_eq other name
pulls_in (Requires other) name = bytes_eq other name
pulls_in other name = false

-- a link to the target, which lies in `etc/`, pulls the unit of this name in or leads to it
abbrev pub is_link_for : List ℕ → PathParts → List ℕ → Bool
is_link_for name p target = is_etc p.layer && (pulls_in p.place name || bytes_eq (unit_in_target target) name)

-- the entry at a path of these parts is such a link
abbrev pub is_link_of : List ℕ → Option PathParts → Option Entry → Bool
is_link_of name (Some p) (Some (Link target)) = is_link_for name p target
is_link_of name parts entry = false

-- by the test the link is removed
pub unlinked_by : (tree : ReadTree) (asked path name : List ℕ) → IsMeant tree asked name → is_link_of name (path_parts path) (map.get tree.entries path) ≡ true → IsUnlinked tree asked path
unlinked_by tree asked path name meant = by (path_parts path) refl (map.get tree.entries path) refl
  where
    etc : (layer : Layer) → is_etc layer ≡ true → layer ≡ Etc
    etc Etc is = refl
    etc Run is = absurd (true≢false (sym is))
    etc Lib is = absurd (true≢false (sym is))

    pulled : (place : Place) → pulls_in place name ≡ true → (place ≡ Wants name) ⊎ (place ≡ Requires name)
    pulled (Wants other) is = inl (ap Wants ((bytes_eq-Decides other name).0 is))
    pulled (Requires other) is = inr (ap Requires ((bytes_eq-Decides other name).0 is))
    pulled Unit is = absurd (true≢false (sym is))
    pulled (DropIn file) is = absurd (true≢false (sym is))

    leads : (place : Place) (target : List ℕ) → (pulls_in place name ≡ true) ⊎ (bytes_eq (unit_in_target target) name ≡ true)
        → (place ≡ Wants name) ⊎ ((place ≡ Requires name) ⊎ (unit_in_target target ≡ name))
    leads place target (inr is) = inr (inr ((bytes_eq-Decides (unit_in_target target) name).0 is))
    leads place target (inl is) = either (pulled place is)
      where
        either : (place ≡ Wants name) ⊎ (place ≡ Requires name) → (place ≡ Wants name) ⊎ ((place ≡ Requires name) ⊎ (unit_in_target target ≡ name))
        either (inl wants) = inl wants
        either (inr requires) = inr (inl requires)

    by : (parts : Option PathParts) → path_parts path ≡ parts → (entry : Option Entry) → map.get tree.entries path ≡ entry → is_link_of name parts entry ≡ true → IsUnlinked tree asked path
    by None served entry at is = absurd (true≢false (sym is))
    by (Some p) served None at is = absurd (true≢false (sym is))
    by (Some p) served (Some (File text)) at is = absurd (true≢false (sym is))
    by (Some p) served (Some (Link target)) at is =
        let both = and_parts (is_etc p.layer) (pulls_in p.place name || bytes_eq (unit_in_target target) name) is in
        record {
          name = name;
          target = target;
          parts = p;
          meant = meant;
          link = at;
          served = served;
          in_etc = etc p.layer both.0;
          leads = leads p.place target (or_cases (pulls_in p.place name) (bytes_eq (unit_in_target target) name) both.1);
        }

-- and the test finds each link that is removed
pub unlinked_test : (tree : ReadTree) (asked path : List ℕ) (h : IsUnlinked tree asked path) → is_link_of h.name (path_parts path) (map.get tree.entries path) ≡ true
unlinked_test tree asked path h =
    ap (λ parts. is_link_of h.name parts (map.get tree.entries path)) h.served
    ∙ (ap (is_link_of h.name (Some h.parts)) h.link
    ∙ (ap (λ layer. is_etc layer && (pulls_in h.parts.place h.name || bytes_eq (unit_in_target h.target) h.name)) h.in_etc ∙ by h.leads))
  where
    same : (text : List ℕ) → bytes_eq text text ≡ true
    same text = (bytes_eq-Decides text text).1 refl

    or_true : (b : Bool) → (b || true) ≡ true
    or_true true = refl
    or_true false = refl

    by : (h.parts.place ≡ Wants h.name) ⊎ ((h.parts.place ≡ Requires h.name) ⊎ (unit_in_target h.target ≡ h.name))
        → (pulls_in h.parts.place h.name || bytes_eq (unit_in_target h.target) h.name) ≡ true
    by (inl wants) = ap (λ b. b || bytes_eq (unit_in_target h.target) h.name) (ap (λ place. pulls_in place h.name) wants ∙ same h.name)
    by (inr (inl requires)) = ap (λ b. b || bytes_eq (unit_in_target h.target) h.name) (ap (λ place. pulls_in place h.name) requires ∙ same h.name)
    by (inr (inr leads)) = ap (λ b. pulls_in h.parts.place h.name || b) (ap (λ unit. bytes_eq unit h.name) leads ∙ same h.name) ∙ or_true (pulls_in h.parts.place h.name)

-- ---- the links that are called for

module _ (tree : ReadTree) (asked : List ℕ) where
  links_from : List (List ℕ) → List LinkAt
  links_from = flat_map (λ unit. links_of (load tree unit))

  asked_from : (units : List (List ℕ)) → IsListOf (IsTaken tree asked) units → (link : LinkAt) → Among (links_from units) link → IsAskedFor tree asked link
  unfolding links_from
  asked_from units list link is =
      let any = from_flat_map (λ unit. links_of (load tree unit)) units link is in
      record { unit = any.0; taken = list.has any.0 any.1; among = contains_among (links_of (load tree any.0)) link any.2 }

  from_asked : (units : List (List ℕ)) → IsListOf (IsTaken tree asked) units → (link : LinkAt) → IsAskedFor tree asked link → Among (links_from units) link
  unfolding links_from
  from_asked units list link w =
      among_flat_map (λ unit. links_of (load tree unit)) units w.unit link (list.all w.unit w.taken) (among_contained (links_of (load tree w.unit)) link w.among)

  -- a list has just the links that are called for
  pub asked_list : (links : List LinkAt) × IsListOf (IsAskedFor tree asked) links
  asked_list =
      let units = taken_list tree asked in
      (links_from units.0, record { has = asked_from units.0 units.1; all = from_asked units.0 units.1 })

  any_path_asked : (links : List LinkAt) → IsListOf (IsAskedFor tree asked) links → (path : List ℕ) → AnyOf (λ link. path ≡ link.path) links → ((target : List ℕ) × IsAskedFor tree asked (link_at path target))
  any_path_asked links list path any =
      (any.0.target, subst (λ p. IsAskedFor tree asked (link_at p any.0.target)) (sym any.2) (list.has any.0 any.1))

  path_asked_any : (links : List LinkAt) → IsListOf (IsAskedFor tree asked) links → (path : List ℕ) → ((target : List ℕ) × IsAskedFor tree asked (link_at path target)) → AnyOf (λ link. path ≡ link.path) links
  path_asked_any links list path w = (link_at path w.0, list.all (link_at path w.0) w.1, refl)

  pub path_asked_or_not : (path : List ℕ) → IsDecided (((target : List ℕ) × IsAskedFor tree asked (link_at path target)))
  path_asked_or_not path =
      let links = asked_list in
      decided_as (any_path_asked links.0 links.1 path) (path_asked_any links.0 links.1 path)
      (any_decided (λ link. path ≡ link.path) (λ link. same_name path link.path) links.0)

  -- ---- the enabled tree

  -- enabling makes one tree
  pub one_enabled : (u v : Tree) → IsEnabled tree asked u → IsEnabled tree asked v → u ≡ v
  one_enabled u v h k = same_tree u v at
    where
      at : (path : List ℕ) → map.get u path ≡ map.get v path
      at path = elim (path_asked_or_not path) as (λ _. map.get u path ≡ map.get v path) [
        | inl is ↦ h.linked path is.0 is.1 ∙ sym (k.linked path is.0 is.1)
        | inr isnt ↦ h.kept path isnt ∙ sym (k.kept path isnt)
      ]

  with_links : List LinkAt → Tree
  with_links [] = tree.entries
  with_links (link ∷ links) = map.insert (with_links links) link.path (Link link.target)

  links_kept : (links : List LinkAt) (path : List ℕ) → ¬ (AnyOf (λ link. path ≡ link.path) links) → map.get (with_links links) path ≡ map.get tree.entries path
  unfolding with_links
  links_kept [] path none = refl
  links_kept (link ∷ links) path none =
      inserted_apart (with_links links) link.path (Link link.target) path (λ e. none (link, inl refl, e))
      ∙ links_kept links path (λ any. none (any.0, inr any.1, any.2))

  -- if all links of one path have one target, that link stands there
  links_stand : (links : List LinkAt) (path target : List ℕ) → ((link : LinkAt) → Among links link → path ≡ link.path → link.target ≡ target)
      → AnyOf (λ link. path ≡ link.path) links → map.get (with_links links) path ≡ Some (Link target)
  unfolding with_links
  links_stand [] path target agree any = absurd any.1
  links_stand (link ∷ links) path target agree any = elim (same_name path link.path) as (λ _. map.get (map.insert (with_links links) link.path (Link link.target)) path ≡ Some (Link target)) [
    | inl is ↦ inserted_here (with_links links) link.path (Link link.target) path is ∙ ap (λ t. Some (Link t)) (agree link (inl refl) is)
    | inr apart ↦
        inserted_apart (with_links links) link.path (Link link.target) path apart
        ∙ links_stand links path target (λ other among. agree other (inr among)) (behind link links path apart any)
  ]
    where
      behind : (link : LinkAt) (links : List LinkAt) (path : List ℕ) → path ≢ link.path → AnyOf (λ x. path ≡ x.path) (link ∷ links) → AnyOf (λ x. path ≡ x.path) links
      behind link links path apart (other, inl is, at) = absurd (apart (at ∙ ap (λ (x : LinkAt). x.path) is))
      behind link links path apart (other, inr later, at) = (other, later, at)

  -- no path is occupied
  abbrev pub IsFree : Type 0
  IsFree = (path : List ℕ) → ¬ (IsOccupied tree asked path)

  one_target : IsFree → (path target other : List ℕ) → IsAskedFor tree asked (link_at path target) → IsAskedFor tree asked (link_at path other) → target ≡ other
  one_target free path target other w v = elim (same_name target other) as (λ _. target ≡ other) [
    | inl is ↦ is
    | inr apart ↦ absurd (free path (differs w v apart))
  ]

  an_enabled : IsFree → (enabled : Tree) × IsEnabled tree asked enabled
  an_enabled free = (with_links asked_list.0, record { linked = stand; kept = λ path isnt. links_kept asked_list.0 path (λ any. isnt (any_path_asked asked_list.0 asked_list.1 path any)) })
    where
      stand : (path target : List ℕ) → IsAskedFor tree asked (link_at path target) → map.get (with_links asked_list.0) path ≡ Some (Link target)
      stand path target w =
          links_stand asked_list.0 path target
          (λ link among is. one_target free path link.target target (subst (λ p. IsAskedFor tree asked (link_at p link.target)) (sym is) (asked_list.1.has link among)) w)
          (path_asked_any asked_list.0 asked_list.1 path (target, w))

  -- ---- the drop-ins in the enabled tree

  no_file_linked : (links : List LinkAt) (path : List ℕ) → HasNoFile (map.get tree.entries path) → HasNoFile (map.get (with_links links) path)
  unfolding with_links
  no_file_linked [] path none text = none text
  no_file_linked (link ∷ links) path none text = elim (same_name path link.path) as (λ _. map.get (map.insert (with_links links) link.path (Link link.target)) path ≢ Some (File text)) [
    | inl is ↦ λ e. link_or_file link.target (sym (inserted_here (with_links links) link.path (Link link.target) path is) ∙ e)
    | inr apart ↦ λ e. no_file_linked links path none text (sym (inserted_apart (with_links links) link.path (Link link.target) path apart) ∙ e)
  ]
    where
      link_or_file : (target : List ℕ) → Some (Link target) ≢ Some (File text)
      link_or_file target e = cc

  same_drop_ins : (links : List LinkAt) → ((link : LinkAt) → Among links link → HasNoFile (map.get tree.entries link.path)) → (folder : List ℕ)
      → drop_ins_in (with_links links) folder ≡ drop_ins_in tree.entries folder
  unfolding with_links
  same_drop_ins [] none folder = refl
  same_drop_ins (link ∷ links) none folder =
      link_inserted folder link.path link.target (with_links links) (no_file_linked links link.path (none link (inl refl)))
      ∙ same_drop_ins links (λ other among. none other (inr among)) folder

  -- they are those of the tree
  pub enabled_drop_ins : IsFree → (u : Tree) → IsEnabled tree asked u → (folder : List ℕ) → drop_ins_in u folder ≡ drop_ins_in tree.entries folder
  unfolding an_enabled
  enabled_drop_ins free u made folder =
      ap (λ t. drop_ins_in t folder) (one_enabled u (an_enabled free).0 made (an_enabled free).1) ∙ same_links
    where
      none : (link : LinkAt) → Among asked_list.0 link → HasNoFile (map.get tree.entries link.path)
      none link among text e = free link.path (stands (asked_list.1.has link among) (ap (λ o. is_other_than_link o link.target) e))

      same_links : drop_ins_in (an_enabled free).0 folder ≡ drop_ins_in tree.entries folder
      same_links = same_drop_ins asked_list.0 none folder

  -- ---- why a unit isn't enabled

  abbrev paths_asked : List (List ℕ)
  paths_asked = each (λ link. link.path) asked_list.0

  among_paths : (path target : List ℕ) → IsAskedFor tree asked (link_at path target) → Among paths_asked path
  among_paths path target w = among_map (λ (link : LinkAt). link.path) asked_list.0 (link_at path target) (asked_list.1.all (link_at path target) w)

  -- the link makes its path unfit
  abbrev MakesUnfit : List ℕ → LinkAt → Type 0
  MakesUnfit path link = (path ≡ link.path) × (is_fit_target (path_parts path) link.target ≡ false)

  unfit_or_not : (path : List ℕ) → IsDecided (IsUnfit tree asked path)
  unfit_or_not path = decided_as there back (any_decided (MakesUnfit path) (λ link. both_decided (same_name path link.path) (passes_or_not (is_fit_target (path_parts path) link.target) false)) asked_list.0)
    where
      there : AnyOf (MakesUnfit path) asked_list.0 → IsUnfit tree asked path
      there (link, among, makes) = (link.target, subst (λ p. IsAskedFor tree asked (link_at p link.target)) (sym makes.0) (asked_list.1.has link among), makes.1)

      back : IsUnfit tree asked path → AnyOf (MakesUnfit path) asked_list.0
      back h = (link_at path h.0, asked_list.1.all (link_at path h.0) h.1, (refl, h.2))

  least_unfit : NoneOrLeast (IsUnfit tree asked)
  least_unfit =
      a_least IsNamedBefore (IsUnfit tree asked) same_name named_trans one_named_first unfit_or_not paths_asked (λ path h. among_paths path h.0 h.1)

  -- something stands where the link would, or another link would
  abbrev Occupies : List ℕ → LinkAt → Type 0
  Occupies path link =
      (path ≡ link.path) × ((is_other_than_link (map.get tree.entries path) link.target ≡ true) ⊎ AnyOf (λ other. (path ≡ other.path) × (link.target ≢ other.target)) asked_list.0)

  occupies_or_not : (path : List ℕ) (link : LinkAt) → IsDecided (Occupies path link)
  occupies_or_not path link =
      both_decided (same_name path link.path)
      (either_decided (passes_or_not (is_other_than_link (map.get tree.entries path) link.target) true)
      (any_decided (λ other. (path ≡ other.path) × (link.target ≢ other.target))
      (λ other. both_decided (same_name path other.path) (not_decided (same_name link.target other.target))) asked_list.0))

  occupied_or_not : (path : List ℕ) → IsDecided (IsOccupied tree asked path)
  occupied_or_not path = decided_as there back (any_decided (Occupies path) (occupies_or_not path) asked_list.0)
    where
      at_path : (link : LinkAt) → Among asked_list.0 link → path ≡ link.path → IsAskedFor tree asked (link_at path link.target)
      at_path link among is = subst (λ p. IsAskedFor tree asked (link_at p link.target)) (sym is) (asked_list.1.has link among)

      there : AnyOf (Occupies path) asked_list.0 → IsOccupied tree asked path
      there (link, among, (is, inl other)) = stands (at_path link among is) other
      there (link, among, (is, inr any)) = differs (at_path link among is) (at_path any.0 any.1 any.2.0) any.2.1

      back : IsOccupied tree asked path → AnyOf (Occupies path) asked_list.0
      back (stands {target = target} w is) = (link_at path target, asked_list.1.all (link_at path target) w, (refl, inl is))
      back (differs {target = target} {other = other} w v apart) =
          (link_at path target, asked_list.1.all (link_at path target) w, (refl, inr (link_at path other, asked_list.1.all (link_at path other) v, (refl, apart))))

  occupied_asked : (path : List ℕ) → IsOccupied tree asked path → Among paths_asked path
  occupied_asked path (stands {target = target} w is) = among_paths path target w
  occupied_asked path (differs {target = target} w v apart) = among_paths path target w

  least_occupied : NoneOrLeast (IsOccupied tree asked)
  least_occupied = a_least IsNamedBefore (IsOccupied tree asked) same_name named_trans one_named_first occupied_or_not paths_asked occupied_asked

  -- the unit can't be enabled, or can
  cannot_or_can : (unit : List ℕ) (found : Loading) → OneOrNone (CannotEnable unit found)
  cannot_or_can unit NotFound = inl (_, isnt_found)
  cannot_or_can unit (Masked other) = inl (_, is_masked)
  cannot_or_can unit (BadSetting other reason) = inl (_, has_bad_setting)
  cannot_or_can unit (Found l) = by_name (linked_name l) refl
    where
      can : (name : List ℕ) → linked_name l ≡ Some name → (r : Refused) → ¬ (CannotEnable unit (Found l) r)
      can name e r (lacks_instance none) = none-some name (sym none ∙ e)

      by_name : (o : Option (List ℕ)) → linked_name l ≡ o → OneOrNone (CannotEnable unit (Found l))
      by_name None e = inl (_, lacks_instance e)
      by_name (Some name) e = inr (can name e)

  taken_or_not : (unit : List ℕ) → IsDecided (IsTaken tree asked unit)
  taken_or_not unit =
      let list = taken_list tree asked in
      decided_as (list.1.has unit) (list.1.all unit) (among_or_not same_name list.0 unit)

  barred_or_not : (unit : List ℕ) → IsDecided (IsBarred tree asked unit)
  barred_or_not unit = decided_as there back (both_decided (taken_or_not unit) (one_or_not (cannot_or_can unit (load tree unit))))
    where
      one_or_not : OneOrNone (CannotEnable unit (load tree unit)) → IsDecided ((r : Refused) × CannotEnable unit (load tree unit) r)
      one_or_not (inl found) = inl found
      one_or_not (inr none) = inr (λ found. none found.0 found.1)

      there : IsTaken tree asked unit × ((r : Refused) × CannotEnable unit (load tree unit) r) → IsBarred tree asked unit
      there both = record { taken = both.0; refusal = both.1.0; cause = both.1.1 }

      back : IsBarred tree asked unit → IsTaken tree asked unit × ((r : Refused) × CannotEnable unit (load tree unit) r)
      back h = (h.taken, (h.refusal, h.cause))

  least_barred : NoneOrLeast (IsBarred tree asked)
  least_barred =
      a_least IsNamedBefore (IsBarred tree asked) same_name named_trans one_named_first barred_or_not (taken_list tree asked).0
      (λ unit h. (taken_list tree asked).1.all unit h.taken)

  -- if no cause names an occupied path, none is occupied
  none_occupied : ((r : Refused) → ¬ (NamesLeast (IsOccupied tree asked) (λ path r. r ≡ exists_at path) r)) → IsFree
  none_occupied none = by_least least_occupied
    where
      by_least : NoneOrLeast (IsOccupied tree asked) → IsFree
      by_least (inl free) = free
      by_least (inr found) = absurd (none (exists_at found.0) (record { name = found.0; least = found.1; told = refl }))

  too_many_or_not : IsFree → OneOrNone (HasTooMany tree asked)
  too_many_or_not free = by_count (an_enabled free) refl
    where
      few : (u : Tree) → IsEnabled tree asked u → map.len u ≤ entry_limit → (r : Refused) → ¬ (HasTooMany tree asked r)
      few u enabled most r (too_many {enabled = v} all many) = let same = ap map.len (one_enabled v u all enabled) in omega arith

      by_count : (found : (u : Tree) × IsEnabled tree asked u) → an_enabled free ≡ found → OneOrNone (HasTooMany tree asked)
      by_count (u, enabled) e = elim (cases_lt entry_limit (map.len u)) as (λ _. OneOrNone (HasTooMany tree asked)) [
        | inl many ↦ inl (too_large Entries, too_many enabled many)
        | inr most ↦ inr (few u enabled most)
      ]

  -- one cause keeps the links from being made, or none
  links_cause : OneOrNone (CausesOfLinks tree asked)
  links_cause =
      first_or_then _ _ (named_or_none (IsUnfit tree asked) (λ path r. r ≡ bad_path path) (λ path h. (bad_path path, refl)) least_unfit) (λ fit.
      first_or_then _ _ (named_or_none (IsOccupied tree asked) (λ path r. r ≡ exists_at path) (λ path h. (exists_at path, refl)) least_occupied) (λ free.
      too_many_or_not (none_occupied free)))

  -- a unit that is taken can't be enabled, or each can
  bars_cause : OneOrNone (NamesLeast (IsBarred tree asked) (λ unit r. CannotEnable unit (load tree unit) r))
  bars_cause = named_or_none (IsBarred tree asked) (λ unit r. CannotEnable unit (load tree unit) r) (λ unit h. (h.refusal, h.cause)) least_barred

  -- if no cause does, no path is occupied
  pub free_of_causes : ((r : Refused) → ¬ (CausesOfLinks tree asked r)) → IsFree
  free_of_causes none = none_occupied (λ r h. none r (at_second (λ other unfit. none other (at_first unfit)) (at_first h)))

  -- and no link is unfit
  pub fit_of_causes : ((r : Refused) → ¬ (CausesOfLinks tree asked r)) → (path : List ℕ) → ¬ (IsUnfit tree asked path)
  fit_of_causes none = by_least least_unfit
    where
      by_least : NoneOrLeast (IsUnfit tree asked) → (path : List ℕ) → ¬ (IsUnfit tree asked path)
      by_least (inl fit) = fit
      by_least (inr found) = absurd (none (bad_path found.0) (at_first (record { name = found.0; least = found.1; told = refl })))

  -- nor are the entries too many
  pub few_of_causes : ((r : Refused) → ¬ (CausesOfLinks tree asked r)) → (r : Refused) → ¬ (HasTooMany tree asked r)
  few_of_causes none q many =
      none q
      (at_second (λ r unfit. none r (at_first unfit))
      (at_second (λ r occupied. none r (at_second (λ q unfit. none q (at_first unfit)) (at_first occupied))) many))

  -- if no unit is named that can't be enabled, each that is taken can
  pub open_of_causes : ((r : Refused) → ¬ RefusesUnits tree verbs.Enable asked r) → (unit : List ℕ) → ¬ (IsBarred tree asked unit)
  open_of_causes none = by_least least_barred
    where
      by_least : NoneOrLeast (IsBarred tree asked) → (unit : List ℕ) → ¬ (IsBarred tree asked unit)
      by_least (inl free) = free
      by_least (inr found) = absurd (none found.1.has.refusal (takes_none (record { name = found.0; least = found.1; told = found.1.has.cause })))

  -- ---- each cause has one refusal

  one_cannot : (unit : List ℕ) (found : Loading) (r q : Refused) → CannotEnable unit found r → CannotEnable unit found q → r ≡ q
  one_cannot unit found r q isnt_found isnt_found = refl
  one_cannot unit found r q is_masked is_masked = refl
  one_cannot unit found r q has_bad_setting has_bad_setting = refl
  one_cannot unit found r q (lacks_instance e) (lacks_instance f) = refl

  one_too_many : (r q : Refused) → HasTooMany tree asked r → HasTooMany tree asked q → r ≡ q
  one_too_many r q (too_many all many) (too_many other more) = refl

  one_links_refusal : (r q : Refused) → CausesOfLinks tree asked r → CausesOfLinks tree asked q → r ≡ q
  one_links_refusal =
      one_first _ _ (one_named (IsUnfit tree asked) (λ path r. r ≡ bad_path path) (λ path r q h k. h ∙ sym k))
      (one_first _ _ (one_named (IsOccupied tree asked) (λ path r. r ≡ exists_at path) (λ path r q h k. h ∙ sym k)) one_too_many)

  one_bars_refusal : (r q : Refused) → NamesLeast (IsBarred tree asked) (λ unit r. CannotEnable unit (load tree unit) r) r
      → NamesLeast (IsBarred tree asked) (λ unit r. CannotEnable unit (load tree unit) r) q → r ≡ q
  one_bars_refusal = one_named (IsBarred tree asked) (λ unit r. CannotEnable unit (load tree unit) r) (λ unit. one_cannot unit (load tree unit))

  -- ---- the links that disabling removes

  -- a link stands at the path, and one of the names is meant by it
  pub unlinked_or_not : (path : List ℕ) → IsDecided (IsUnlinked tree asked path)
  unlinked_or_not path =
      decided_as there back
      (any_decided (λ name. is_link_of name (path_parts path) (map.get tree.entries path) ≡ true) (λ name. passes_or_not (is_link_of name (path_parts path) (map.get tree.entries path)) true)
      (meant_list tree asked).0)
    where
      there : AnyOf (λ name. is_link_of name (path_parts path) (map.get tree.entries path) ≡ true) (meant_list tree asked).0 → IsUnlinked tree asked path
      there any = unlinked_by tree asked path any.0 ((meant_list tree asked).1.has any.0 any.1) any.2

      back : IsUnlinked tree asked path → AnyOf (λ name. is_link_of name (path_parts path) (map.get tree.entries path) ≡ true) (meant_list tree asked).0
      back h = (h.name, (meant_list tree asked).1.all h.name h.meant, unlinked_test tree asked path h)

  unlinked_held : (path : List ℕ) → IsUnlinked tree asked path → Among (map.keys tree.entries) path
  unlinked_held path h = among_keys tree.entries path (ap is_some h.link)

  -- a list has just the paths at which something is removed
  unlinked_list : (paths : List (List ℕ)) × IsListOf (IsUnlinked tree asked) paths
  unlinked_list = list_of (IsUnlinked tree asked) unlinked_or_not (map.keys tree.entries) unlinked_held

  one_disabled : (u v : Tree) → IsDisabled tree asked u → IsDisabled tree asked v → u ≡ v
  one_disabled u v h k = same_tree u v at
    where
      at : (path : List ℕ) → map.get u path ≡ map.get v path
      at path = elim (unlinked_or_not path) as (λ _. map.get u path ≡ map.get v path) [
        | inl is ↦ h.gone path is ∙ sym (k.gone path is)
        | inr isnt ↦ h.kept path isnt ∙ sym (k.kept path isnt)
      ]

  without_paths : List (List ℕ) → Tree
  without_paths [] = tree.entries
  without_paths (path ∷ paths) = map.remove (without_paths paths) path

  paths_gone : (paths : List (List ℕ)) (path : List ℕ) → Among paths path → map.get (without_paths paths) path ≡ None
  unfolding without_paths
  paths_gone [] path none = absurd none
  paths_gone (other ∷ paths) path (inl is) = removed_here (without_paths paths) other path is
  paths_gone (other ∷ paths) path (inr later) = elim (same_name path other) as (λ _. map.get (map.remove (without_paths paths) other) path ≡ None) [
    | inl is ↦ removed_here (without_paths paths) other path is
    | inr apart ↦ removed_apart (without_paths paths) other path apart ∙ paths_gone paths path later
  ]

  paths_kept : (paths : List (List ℕ)) (path : List ℕ) → ¬ (Among paths path) → map.get (without_paths paths) path ≡ map.get tree.entries path
  unfolding without_paths
  paths_kept [] path none = refl
  paths_kept (other ∷ paths) path none =
      removed_apart (without_paths paths) other path (λ is. none (inl is)) ∙ paths_kept paths path (λ later. none (inr later))

  a_disabled : (disabled : Tree) × IsDisabled tree asked disabled
  a_disabled =
      let paths = unlinked_list in (
        without_paths paths.0,
        record {
          gone = λ path is. paths_gone paths.0 path (paths.1.all path is);
          kept = λ path isnt. paths_kept paths.0 path (λ among. isnt (paths.1.has path among));
        },
      )

  -- a link without which a tree has the same drop-ins
  link_removed : (t : Tree) (path : List ℕ) (held : Option Entry) → map.get t path ≡ held → HasNoFile held → (folder : List ℕ) → drop_ins_in (map.remove t path) folder ≡ drop_ins_in t folder
  link_removed t path None e none folder = ap (λ x. drop_ins_in x folder) (same_tree (map.remove t path) t at)
    where
      at : (q : List ℕ) → map.get (map.remove t path) q ≡ map.get t q
      at q = elim (same_name q path) as (λ _. map.get (map.remove t path) q ≡ map.get t q) [
        | inl is ↦ removed_here t path q is ∙ sym (ap (map.get t) is ∙ e)
        | inr apart ↦ removed_apart t path q apart
      ]
  link_removed t path (Some (File text)) e none folder = absurd (none text refl)
  link_removed t path (Some (Link target)) e none folder =
      sym (ap (λ x. drop_ins_in x folder) (same_tree t (map.insert (map.remove t path) path (Link target)) at)
      ∙ link_inserted folder path target (map.remove t path) (λ text f. none-some (File text) (sym (removed_here t path path refl) ∙ f)))
    where
      at : (q : List ℕ) → map.get t q ≡ map.get (map.insert (map.remove t path) path (Link target)) q
      at q = elim (same_name q path) as (λ _. map.get t q ≡ map.get (map.insert (map.remove t path) path (Link target)) q) [
        | inl is ↦ ap (map.get t) is ∙ (e ∙ sym (inserted_here (map.remove t path) path (Link target) q is))
        | inr apart ↦ sym (inserted_apart (map.remove t path) path (Link target) q apart ∙ removed_apart t path q apart)
      ]

  no_file_left : (paths : List (List ℕ)) (path : List ℕ) → HasNoFile (map.get tree.entries path) → HasNoFile (map.get (without_paths paths) path)
  unfolding without_paths
  no_file_left [] path none text = none text
  no_file_left (other ∷ paths) path none text = elim (same_name path other) as (λ _. map.get (map.remove (without_paths paths) other) path ≢ Some (File text)) [
    | inl is ↦ λ e. none-some (File text) (sym (removed_here (without_paths paths) other path is) ∙ e)
    | inr apart ↦ λ e. no_file_left paths path none text (sym (removed_apart (without_paths paths) other path apart) ∙ e)
  ]

  drop_ins_left : (paths : List (List ℕ)) → ((path : List ℕ) → Among paths path → HasNoFile (map.get tree.entries path)) → (folder : List ℕ)
      → drop_ins_in (without_paths paths) folder ≡ drop_ins_in tree.entries folder
  unfolding without_paths
  drop_ins_left [] none folder = refl
  drop_ins_left (path ∷ paths) none folder =
      link_removed (without_paths paths) path (map.get (without_paths paths) path) refl (no_file_left paths path (none path (inl refl))) folder
      ∙ drop_ins_left paths (λ other among. none other (inr among)) folder

  -- only links are removed
  no_file_unlinked : (path : List ℕ) → IsUnlinked tree asked path → HasNoFile (map.get tree.entries path)
  no_file_unlinked path h text e = isnt_file h.target (sym h.link ∙ e)
    where
      isnt_file : (target : List ℕ) → Some (Link target) ≢ Some (File text)
      isnt_file target same = cc

  -- so the drop-ins are those of the tree
  pub disabled_drop_ins : (v : Tree) → IsDisabled tree asked v → (folder : List ℕ) → drop_ins_in v folder ≡ drop_ins_in tree.entries folder
  unfolding a_disabled
  disabled_drop_ins v left folder = ap (λ t. drop_ins_in t folder) (one_disabled v a_disabled.0 left a_disabled.1) ∙ same_left
    where
      same_left : drop_ins_in a_disabled.0 folder ≡ drop_ins_in tree.entries folder
      same_left = drop_ins_left unlinked_list.0 (λ path among. no_file_unlinked path (unlinked_list.1.has path among)) folder

  -- whether disabling removes anything
  linked_or_not : IsDecided ((path : List ℕ) × IsUnlinked tree asked path)
  linked_or_not =
      decided_as (λ any. (any.0, any.2)) (λ found. (found.0, unlinked_held found.0 found.1, found.1)) (any_decided (IsUnlinked tree asked) unlinked_or_not (map.keys tree.entries))

-- ---- all four

-- a verb makes one tree
pub one_install : (tree : ReadTree) (verb : InstallVerb) (unit : List ℕ) (u v : Tree) → Installs tree verb unit u → Installs tree verb unit v → u ≡ v
one_install tree verb unit u v (enables {unit = x} {enabled = a} h) (enables {enabled = b} k) = one_enabled tree x a b h k
one_install tree verb unit u v (disables {unit = x} {disabled = a} h) (disables {disabled = b} k) = one_disabled tree x a b h k
one_install tree verb unit u v (masks {unit = x} {changed = a} e) (masks {changed = b} f) = same_ok (put_link tree.entries (unit_path Etc x) (codes "/dev/null")) a b e f
one_install tree verb unit u v unmasks unmasks = refl

-- and has one refusal for its links, and one for its units
pub one_link_refusal : (tree : ReadTree) (verb : InstallVerb) (unit : List ℕ) (r q : Refused) → RefusesLinks tree verb unit r → RefusesLinks tree verb unit q → r ≡ q
one_link_refusal tree verb unit r q (enables_none {unit = x} {r = a} h) (enables_none {r = b} k) = one_links_refusal tree x a b h k
one_link_refusal tree verb unit r q (masks_none {unit = x} {r = a} e) (masks_none {r = b} f) = same_err (put_link tree.entries (unit_path Etc x) (codes "/dev/null")) a b e f

pub one_unit_refusal : (tree : ReadTree) (verb : InstallVerb) (unit : List ℕ) (r q : Refused) → RefusesUnits tree verb unit r → RefusesUnits tree verb unit q → r ≡ q
one_unit_refusal tree verb unit r q (takes_none {unit = x} {r = a} h) (takes_none {r = b} k) = one_bars_refusal tree x a b h k

pub one_install_refusal : (tree : ReadTree) (verb : InstallVerb) (unit : List ℕ) (r q : Refused) → RefusesInstall tree verb unit r → RefusesInstall tree verb unit q → r ≡ q
one_install_refusal tree verb unit = one_first _ _ (one_link_refusal tree verb unit) (one_unit_refusal tree verb unit)

-- it is refused for its links, or makes a tree
abbrev Becomes : ReadTree → InstallVerb → List ℕ → Type 0
Becomes tree verb unit =
    ((r : Refused) × RefusesLinks tree verb unit r) ⊎ (((r : Refused) → ¬ (RefusesLinks tree verb unit r)) × ((u : Tree) × Installs tree verb unit u))

enable_becomes : (tree : ReadTree) (unit : List ℕ) → OneOrNone (CausesOfLinks tree unit) → Becomes tree verbs.Enable unit
enable_becomes tree unit (inl found) = inl (found.0, enables_none found.1)
enable_becomes tree unit (inr none) =
    let made = an_enabled tree unit (free_of_causes tree unit none) in
    inr (obeyed, (made.0, enables made.1))
  where
    obeyed : (r : Refused) → ¬ (RefusesLinks tree verbs.Enable unit r)
    obeyed r (enables_none h) = none r h

disable_obeys : (tree : ReadTree) (unit : List ℕ) (r : Refused) → ¬ (RefusesLinks tree verbs.Disable unit r)
disable_obeys tree unit r h = elim h [ ]

unmask_obeys : (tree : ReadTree) (unit : List ℕ) (r : Refused) → ¬ (RefusesLinks tree verbs.Unmask unit r)
unmask_obeys tree unit r h = elim h [ ]

mask_becomes : (tree : ReadTree) (unit : List ℕ) (result : Result Tree Refused) → put_link tree.entries (unit_path Etc unit) (codes "/dev/null") ≡ result → Becomes tree verbs.Mask unit
mask_becomes tree unit (Err r) e = inl (r, masks_none e)
mask_becomes tree unit (Ok changed) e = inr (obeyed, (changed, masks e))
  where
    isnt_refused : (result : Result Tree Refused) (r : Refused) → result ≡ Ok changed → ¬ (result ≡ Err r)
    isnt_refused result r e f = cc

    obeyed : (r : Refused) → ¬ (RefusesLinks tree verbs.Mask unit r)
    obeyed r (masks_none f) = isnt_refused (put_link tree.entries (unit_path Etc unit) (codes "/dev/null")) r e f

-- each verb is refused for its links, or makes a tree
pub a_tree_installed : (tree : ReadTree) (verb : InstallVerb) (unit : List ℕ)
    → ((r : Refused) × RefusesLinks tree verb unit r) ⊎ (((r : Refused) → ¬ RefusesLinks tree verb unit r) × ((u : Tree) × Installs tree verb unit u))
a_tree_installed tree verbs.Enable unit = enable_becomes tree unit (links_cause tree unit)
a_tree_installed tree verbs.Disable unit =
    let made = a_disabled tree unit in
    inr (disable_obeys tree unit, (made.0, disables made.1))
a_tree_installed tree verbs.Mask unit = mask_becomes tree unit (put_link tree.entries (unit_path Etc unit) (codes "/dev/null")) refl
a_tree_installed tree verbs.Unmask unit = inr (unmask_obeys tree unit, (unmasked tree.entries unit, unmasks))

-- and for its units, or not
pub units_refused_or_not : (tree : ReadTree) (verb : InstallVerb) (unit : List ℕ) → OneOrNone (RefusesUnits tree verb unit)
units_refused_or_not tree verbs.Enable unit = by_cause (bars_cause tree unit)
  where
    none_taken : ((r : Refused) → ¬ NamesLeast (IsBarred tree unit) (λ other r. CannotEnable other (load tree other) r) r) → (r : Refused)
        → ¬ RefusesUnits tree verbs.Enable unit r
    none_taken none r (takes_none h) = none r h

    by_cause : OneOrNone (NamesLeast (IsBarred tree unit) (λ other r. CannotEnable other (load tree other) r)) → OneOrNone (RefusesUnits tree verbs.Enable unit)
    by_cause (inl found) = inl (found.0, takes_none found.1)
    by_cause (inr none) = inr (none_taken none)
units_refused_or_not tree verbs.Disable unit = inr (λ r h. elim h [ ])
units_refused_or_not tree verbs.Mask unit = inr (λ r h. elim h [ ])
units_refused_or_not tree verbs.Unmask unit = inr (λ r h. elim h [ ])

-- so each is refused, or makes a tree
pub an_install : (tree : ReadTree) (verb : InstallVerb) (unit : List ℕ) → ((r : Refused) × RefusesInstall tree verb unit r) ⊎ (((r : Refused) → ¬ RefusesInstall tree verb unit r) × ((u : Tree) × Installs tree verb unit u))
an_install tree verb unit = by_links (a_tree_installed tree verb unit)
  where
    neither : ((r : Refused) → ¬ RefusesLinks tree verb unit r) → ((r : Refused) → ¬ RefusesUnits tree verb unit r) → (r : Refused) → ¬ RefusesInstall tree verb unit r
    neither none free r (at_first h) = none r h
    neither none free r (at_second _ h) = free r h

    by_units : ((r : Refused) → ¬ RefusesLinks tree verb unit r) → ((u : Tree) × Installs tree verb unit u) → OneOrNone (RefusesUnits tree verb unit)
        → ((r : Refused) × RefusesInstall tree verb unit r) ⊎ (((r : Refused) → ¬ RefusesInstall tree verb unit r) × ((u : Tree) × Installs tree verb unit u))
    by_units none made (inl found) = inl (found.0, at_second none found.1)
    by_units none made (inr free) = inr (neither none free, made)

    by_links : Becomes tree verb unit
        → ((r : Refused) × RefusesInstall tree verb unit r) ⊎ (((r : Refused) → ¬ RefusesInstall tree verb unit r) × ((u : Tree) × Installs tree verb unit u))
    by_links (inl found) = inl (found.0, at_first found.1)
    by_links (inr made) = by_units made.0 made.1 (units_refused_or_not tree verb unit)

-- ---- how a unit is enabled

-- there is one answer
pub one_enabling : (tree : ReadTree) (asked : List ℕ) (a b : Enabling) → IsEnabledAs tree asked a → IsEnabledAs tree asked b → a ≡ b
one_enabling tree asked a b h k =
    h.fits ∙ (ap (enabling_of asked (load tree asked)) (one_answer h.linked k.linked h.decides k.decides) ∙ sym k.fits)

pub an_enabling : (tree : ReadTree) (asked : List ℕ) → (e : Enabling) × IsEnabledAs tree asked e
an_enabling tree asked =
    let told = test_of (linked_or_not tree asked) in
    (enabling_of asked (load tree asked) told.0, record { linked = told.0; decides = told.1; fits = refl })
