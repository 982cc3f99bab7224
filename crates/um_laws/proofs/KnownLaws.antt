-- Known units: if more is named, more is known; it is decided which units are known, which depend on which, and which go before which.
use Rattle.std.proofs.Common.{◌≡◌, ◌≢◌, ◌⊎◌, ◌↔◌, ◌∙◌, ◌&&◌, ℕ, ◌≤◌, Bool, true, false, true≢false, not, List, ◌++◌, length, get_or, append-nil, AllPairs, Option, Some, None, is_some, refl, sym, ap, subst, inl, inr, arith}
use Rattle.std.specs.FinMap as map
use Rattle.std.proofs.lemmas.Bool.{cases_lt, and_parts, cond-true}
use Rattle.std.proofs.lemmas.List.Elements.{All-contains}
use Rattle.std.proofs.lemmas.Option.{none-some, same_Some}
use Rattle.um_model.specs.Profiles.{ReadTree}
use Rattle.um_model.specs.Dependencies.{Links, HasEntry, Gives, Declares, Mentions, IsNamed, IsKnown, unit_limit, KnowsTooMany, Depends, IsDeclared, Declines, PullsIn, Orders, Precedes}
use Rattle.um_model.specs.Dependencies as model
use Rattle.um_model.specs.Names.{is_template, is_unit_name, suffix_of}
use Rattle.um_model.specs.Reached.{first, next}
use Rattle.um_model.specs.Resolution.{unit_path}
use Rattle.um_model.specs.Tree.{Tree, PathParts, Place, Unit as Itself, DropIn, Wants, Requires, place_text, layer_text, is_plain_name, path_parts}
use Rattle.um_model.specs.Units.{unit_named}
use Rattle.um_model.specs.declared.dependencies.DependencyKind.{DependencyKind}
use Rattle.um_model.specs.declared.dependencies.DependencyKind.TheVariants as kinds
use Rattle.um_model.specs.declared.names.Suffix.{Suffix}
use Rattle.um_model.specs.declared.names.Suffix.TheVariants.{Target}
use Rattle.um_laws.proofs.AmongLaws.{both_decided, either_decided, not_decided, passes_or_not, decided_as, AnyOf, any_decided, among_or_not, among_left, among_right, contains_among, IsListOf, list_of}
use Rattle.um_laws.proofs.CoverLaws.{names_cover}
use Rattle.um_laws.proofs.DemandsLaws.{reached_in}
use Rattle.um_laws.proofs.GivesLaws.{all_kinds, among_kinds, links_or_not, names_of_link, IsLoadable, loadable_or_not, of_same, IsEnding, ending_or_not, gives_or_not, declares_or_not, OwnOrName, names_mentioned, mentions_or_not}
use Rattle.um_model.proofs.LeastLaws.{IsDecided, Among}
use Rattle.um_laws.proofs.NamedLaws.{named_by_name}
use Rattle.um_laws.proofs.OnceLaws.{among_at, no_more, once_each}
use Rattle.um_model.proofs.OwnNameLaws.{AskedOrName, named_or_asked}
use Rattle.um_laws.proofs.ReachedLaws.{reached_or_not}
use Rattle.um_model.proofs.TimersLaws.{same_name, among_keys}
use Rattle.um_model.proofs.TreeLaws.{path_of_parts, parts_at, fit-name}
use Rattle.um_model.specs.Names.{is_target_type, is_target}

-- ---- targets

pub target_suffix : (unit : List ℕ) → (is_target unit ≡ true) ↔ (suffix_of unit ≡ Some Target)
target_suffix unit = (by (suffix_of unit), λ e. ap is_target_type e)
  where
    by : (o : Option Suffix) → is_target_type o ≡ true → o ≡ Some Target
    by (Some Target) e = refl
    by other e = absurd (true≢false (sym e))

-- ---- more is known if more is named

module _ (tree : ReadTree) (Other Extra : List ℕ → Type 0) (within : (x : List ℕ) → Other x → IsKnown tree Extra x) where
  named_grows : (x : List ℕ) → IsNamed tree Other x → IsKnown tree Extra x
  named_grows x (model.has entry) = first (model.has entry)
  named_grows x (model.holder links) = first (model.holder links)
  named_grows x (model.link links) = first (model.link links)
  named_grows x (model.extra more) = within x more

  -- if all that the one names besides the tree is known by the other, all that is known by the one is known by the other
  pub known_grows : (x : List ℕ) → IsKnown tree Other x → IsKnown tree Extra x
  known_grows = reached_in (IsKnown tree Extra) named_grows (λ a b known mentions. next known mentions)

  -- and then too many are known if too many were
  pub more_known : KnowsTooMany tree Other → KnowsTooMany tree Extra
  more_known k = record { names = k.names; known = λ place default few. known_grows _ (k.known place default few); apart = k.apart; many = k.many }

-- ---- which names a tree has is decided

-- an entry of a unit of this name stands at the path
pub record IsEntryAt (tree : Tree) (x path : List ℕ) : Type 0 where
  pub parts : PathParts
  pub held : is_some (map.get tree path) ≡ true
  pub served : path_parts path ≡ Some parts
  pub own : parts.place ≡ Itself
  pub named : parts.unit ≡ x
  pub single : is_template x ≡ false

plain_of : (x : List ℕ) → is_unit_name x ≡ true → is_template x ≡ false → is_plain_name x ≡ true
plain_of x name single = ap (λ b. b && not (is_template x)) name ∙ ap not single

pub entry_there : (tree : Tree) (x path : List ℕ) → IsEntryAt tree x path → HasEntry tree x
entry_there tree x path h =
    let of = path_of_parts path h.parts h.served in
    let p = h.parts in
    let name : is_unit_name x ≡ true = subst (λ u. is_unit_name u ≡ true) h.named (fit-name p.unit p.place of.fit) in
    let at : path ≡ unit_path p.layer x =
    of.spelled ∙ (ap (λ place. layer_text p.layer ++ (p.unit ++ place_text place)) h.own
    ∙ (ap (λ text. layer_text p.layer ++ text) (append-nil p.unit) ∙ ap (unit_path p.layer) h.named)) in
    record { layer = p.layer; held = subst (λ q. is_some (map.get tree q) ≡ true) at h.held; plain = plain_of x name h.single }

pub there_entered : (tree : Tree) (x : List ℕ) → HasEntry tree x → (path : List ℕ) × IsEntryAt tree x path
there_entered tree x h =
    let plain = and_parts (is_unit_name x) (not (is_template x)) h.plain in
    let own : PathParts = record { layer = h.layer; unit = x; place = Itself } in (
      unit_path h.layer x,
      record {
        parts = own;
        held = h.held;
        served = ap path_parts (sym (ap (λ text. layer_text h.layer ++ text) (append-nil x))) ∙ (parts_at own plain.0 ∙ cond-true (is_unit_name x) (Some own) None plain.0);
        own = refl;
        named = refl;
        single = not_true (is_template x) plain.1;
      },
    )
  where
    not_true : (b : Bool) → not b ≡ true → b ≡ false
    not_true true e = sym e
    not_true false e = refl

module _ (tree : ReadTree) (x : List ℕ) where
  itself_or_not : (place : Place) → IsDecided (place ≡ Itself)
  itself_or_not Itself = inl refl
  itself_or_not (DropIn name) = inr (λ is. cc)
  itself_or_not (Wants other) = inr (λ is. cc)
  itself_or_not (Requires other) = inr (λ is. cc)

  entry_at_or_not : (path : List ℕ) → IsDecided (IsEntryAt tree.entries x path)
  entry_at_or_not path = by_parts (path_parts path) refl
    where
      by_parts : (o : Option PathParts) → path_parts path ≡ o → IsDecided (IsEntryAt tree.entries x path)
      by_parts None served = inr (λ h. none-some h.parts (sym served ∙ h.served))
      by_parts (Some parts) served =
          decided_as (λ (h : (is_some (map.get tree.entries path) ≡ true) × ((parts.place ≡ Itself) × ((parts.unit ≡ x) × (is_template x ≡ false)))).
          record { parts = parts; held = h.0; served = served; own = h.1.0; named = h.1.1.0; single = h.1.1.1 })
          (λ h. let same = same_Some h.parts parts (sym h.served ∙ served) in
          (h.held, (subst (λ (p : PathParts). p.place ≡ Itself) same h.own, (subst (λ (p : PathParts). p.unit ≡ x) same h.named, h.single))))
          (both_decided (passes_or_not (is_some (map.get tree.entries path)) true)
          (both_decided (itself_or_not parts.place) (both_decided (same_name parts.unit x) (passes_or_not (is_template x) false))))

  has_entry_or_not : IsDecided (HasEntry tree.entries x)
  has_entry_or_not =
      decided_as (λ any. entry_there tree.entries x any.0 any.2)
      (λ h. let found = there_entered tree.entries x h in (found.0, among_keys tree.entries found.0 found.1.held, found.1))
      (any_decided (IsEntryAt tree.entries x) entry_at_or_not (map.keys tree.entries))

  -- x holds a link of this kind
  abbrev Holds : DependencyKind → Type 0
  Holds kind = AnyOf (λ y. Links tree.entries kind x y) names_cover.0

  -- a link of this kind names x
  abbrev IsHeld : DependencyKind → Type 0
  IsHeld kind = AnyOf (λ holder. Links tree.entries kind holder x) names_cover.0

  holds_or_not : IsDecided (AnyOf Holds all_kinds)
  holds_or_not = any_decided Holds (λ kind. any_decided (λ y. Links tree.entries kind x y) (λ y. links_or_not tree.entries kind x y) names_cover.0) all_kinds

  held_or_not : IsDecided (AnyOf IsHeld all_kinds)
  held_or_not = any_decided IsHeld (λ kind. any_decided (λ holder. Links tree.entries kind holder x) (λ holder. links_or_not tree.entries kind holder x) names_cover.0) all_kinds

  module _ (Extra : List ℕ → Type 0) where
    abbrev NamedBy : Type 0
    NamedBy = HasEntry tree.entries x ⊎ (AnyOf Holds all_kinds ⊎ (AnyOf IsHeld all_kinds ⊎ Extra x))

    to_named : NamedBy → IsNamed tree Extra x
    to_named (inl h) = model.has h
    to_named (inr (inl (kind, among, (y, covered, links)))) = model.holder links
    to_named (inr (inr (inl (kind, among, (holder, covered, links))))) = model.link links
    to_named (inr (inr (inr more))) = model.extra more

    -- x is named in the tree or besides, or not
    pub named_or_not : IsDecided (Extra x) → IsDecided (IsNamed tree Extra x)
    named_or_not decided = decided_as to_named from_named (either_decided has_entry_or_not (either_decided holds_or_not (either_decided held_or_not decided)))
      where
        from_named : IsNamed tree Extra x → NamedBy
        from_named (model.has h) = inl h
        from_named (model.holder {kind = kind} {y = y} links) = inr (inl (kind, among_kinds kind, (y, names_cover.1 y (names_of_link tree.entries kind x y links).1, links)))
        from_named (model.link {kind = kind} {x = holder} links) =
            inr (inr (inl (kind, among_kinds kind, (holder, names_cover.1 holder (names_of_link tree.entries kind holder x links).0, links))))
        from_named (model.extra more) = inr (inr (inr more))

-- ---- which units are known is decided, if a list has just the names besides the tree's

module _ (tree : ReadTree) (Extra : List ℕ → Type 0) (extras : List (List ℕ)) where
  -- among those, or a unit name
  abbrev ExtraOrName : List ℕ → Type 0
  ExtraOrName x = Among extras x ⊎ (is_unit_name x ≡ true)

  named_covered : ((x : List ℕ) → Extra x → Among extras x) → (x : List ℕ) → IsNamed tree Extra x → ExtraOrName x
  named_covered within x (model.has h) = inr (and_parts (is_unit_name x) (not (is_template x)) h.plain).0
  named_covered within x (model.holder {kind = kind} {y = y} links) = inr (names_of_link tree.entries kind x y links).0
  named_covered within x (model.link {kind = kind} {x = holder} links) = inr (names_of_link tree.entries kind holder x links).1
  named_covered within x (model.extra more) = inl (within x more)

  own_covered : (a : List ℕ) → ExtraOrName a → ExtraOrName (unit_named tree.entries a)
  own_covered a (inl among) = by_name (named_or_asked tree.entries a)
    where
      by_name : AskedOrName a (unit_named tree.entries a) → ExtraOrName (unit_named tree.entries a)
      by_name (inl asked) = inl (subst (Among extras) (sym asked) among)
      by_name (inr is) = inr is
  own_covered a (inr is) = inr (named_by_name tree.entries a is)

  mentioned_covered : (a b : List ℕ) → ExtraOrName a → Mentions tree a b → ExtraOrName b
  mentioned_covered a b covered mentions = by_name (names_mentioned tree a b mentions)
    where
      by_name : OwnOrName tree a b → ExtraOrName b
      by_name (inl own) = subst ExtraOrName (sym own) (own_covered a covered)
      by_name (inr is) = inr is

  module _ (listed : IsListOf Extra extras) where
    known_covered : (x : List ℕ) → IsKnown tree Extra x → Among (extras ++ names_cover.0) x
    known_covered x known = by_cover (reached_in ExtraOrName (named_covered listed.all) mentioned_covered x known)
      where
        by_cover : ExtraOrName x → Among (extras ++ names_cover.0) x
        by_cover (inl among) = among_left extras names_cover.0 x among
        by_cover (inr is) = among_right extras names_cover.0 x (names_cover.1 x is)

    extra_or_not : (x : List ℕ) → IsDecided (Extra x)
    extra_or_not x = decided_as (listed.has x) (listed.all x) (among_or_not same_name extras x)

    -- it is known or not
    pub known_or_not : (x : List ℕ) → IsDecided (IsKnown tree Extra x)
    known_or_not =
        reached_or_not (IsNamed tree Extra) (Mentions tree) (extras ++ names_cover.0) known_covered (λ x. named_or_not tree x Extra (extra_or_not x)) (mentions_or_not tree)

    -- a list has just the known names
    pub known_list : (xs : List (List ℕ)) × IsListOf (IsKnown tree Extra) xs
    known_list = list_of (IsKnown tree Extra) known_or_not (extras ++ names_cover.0) known_covered

    -- of known names one has the property or none
    among_known : (Has : List ℕ → Type 0) → ((name : List ℕ) → IsDecided (Has name)) → IsDecided ((name : List ℕ) × IsKnown tree Extra name × Has name)
    among_known Has decided =
        decided_as (λ any. (any.0, known_list.1.has any.0 any.1, any.2)) (λ h. (h.0, known_list.1.all h.0 h.1, h.2)) (any_decided Has decided known_list.0)

    -- x depends on y in this kind or not
    pub depends_or_not : (kind : DependencyKind) (x y : List ℕ) → IsDecided (Depends tree Extra kind x y)
    depends_or_not kind x y =
        decided_as (λ h. record { name = h.0.0; known = h.0.1; gives = h.0.2; apart = h.1 }) (λ d. ((d.name, d.known, d.gives), d.apart))
        (both_decided (among_known (λ name. Gives tree name kind x y) (λ name. gives_or_not tree name kind x y)) (not_decided (same_name x y)))

    declared_or_not : (x y : List ℕ) → IsDecided (IsDeclared tree Extra x y)
    declared_or_not x y =
        decided_as (λ h. record { name = h.0; known = h.1; declares = h.2 }) (λ d. (d.name, d.known, d.declares))
        (among_known (λ name. Declares tree name x y) (λ name. declares_or_not tree name x y))

    declines_or_not : (x : List ℕ) → IsDecided (Declines tree x)
    declines_or_not x =
        loadable_or_not tree x (λ l. l.settings.dependencies.default_dependencies ≡ false) (λ l. passes_or_not l.settings.dependencies.default_dependencies false)

    -- the target x wants y, or requires it
    abbrev Pulls : List ℕ → List ℕ → Type 0
    Pulls x y = Depends tree Extra kinds.Wants x y ⊎ Depends tree Extra kinds.Requires x y

    pulled_or_not : (x y : List ℕ) → IsDecided (PullsIn tree Extra x y)
    pulled_or_not x y =
        decided_as (λ (h : (is_target x ≡ true) × (Pulls x y × ((¬ Declines tree x) × (¬ Declines tree y)))).
        record { target = (target_suffix x).0 h.0; depends = h.1.0; accepts = h.1.1.0; too = h.1.1.1 })
        (λ p. ((target_suffix x).1 p.target, (p.depends, (p.accepts, p.too))))
        (both_decided (passes_or_not (is_target x) true)
        (both_decided (either_decided (depends_or_not kinds.Wants x y) (depends_or_not kinds.Requires x y))
        (both_decided (not_decided (declines_or_not x)) (not_decided (declines_or_not y)))))

    -- by one of the three rules x goes before y
    abbrev IsOrdered : List ℕ → List ℕ → Type 0
    IsOrdered x y =
        IsDeclared tree Extra x y
        ⊎ ((PullsIn tree Extra y x × (¬ IsDeclared tree Extra y x)) ⊎ ((name : List ℕ) × IsKnown tree Extra name × IsLoadable tree name (IsEnding tree name x y)))

    to_orders : (x y : List ℕ) → IsOrdered x y → Orders tree Extra x y
    to_orders x y (inl d) = model.declared d
    to_orders x y (inr (inl (p, isnt))) = model.pulled_in p isnt
    to_orders x y (inr (inr (name, known, (l, loadable, (defaults, (same, leads)))))) = of_same (Orders tree Extra) same leads (model.ending known loadable defaults)

    from_orders : (x y : List ℕ) → Orders tree Extra x y → IsOrdered x y
    from_orders x y (model.declared d) = inl d
    from_orders x y (model.pulled_in p isnt) = inr (inl (p, isnt))
    from_orders _ _ (model.ending {a = name} {l = l} known loadable defaults) = inr (inr (name, known, (l, loadable, (defaults, (refl, refl)))))

    -- x goes before y or not
    pub precedes_or_not : (x y : List ℕ) → IsDecided (Precedes tree Extra x y)
    precedes_or_not x y =
        decided_as (λ h. record { orders = to_orders x y h.0; apart = h.1 }) (λ p. (from_orders x y p.orders, p.apart))
        (both_decided
        (either_decided (declared_or_not x y)
        (either_decided (both_decided (pulled_or_not y x) (not_decided (declared_or_not y x)))
        (among_known (λ name. IsLoadable tree name (IsEnding tree name x y)) (λ name. loadable_or_not tree name (IsEnding tree name x y) (ending_or_not tree name x y)))))
        (not_decided (same_name x y)))

    -- a list has each known unit once
    pub known_once : (xs : List (List ℕ)) × IsListOf (IsKnown tree Extra) xs × AllPairs (λ x y. x ≢ y) xs
    known_once = by_list (once_each same_name known_list.0)
      where
        by_list : (xs : List (List ℕ)) × IsListOf (Among known_list.0) xs × AllPairs (λ x y. x ≢ y) xs
            → (xs : List (List ℕ)) × IsListOf (IsKnown tree Extra) xs × AllPairs (λ x y. x ≢ y) xs
        by_list (xs, once, apart) =
            (xs, record { has = λ x among. known_list.1.has x (once.has x among); all = λ x known. once.all x (known_list.1.all x known) }, apart)

    -- too many are known or not
    pub too_many_or_not : IsDecided (KnowsTooMany tree Extra)
    too_many_or_not = by_list known_once
      where
        no_longer : (xs : List (List ℕ)) → IsListOf (IsKnown tree Extra) xs → (k : KnowsTooMany tree Extra) → length k.names ≤ length xs
        no_longer xs list k = no_more k.names xs k.apart (λ z among. list.all z (All-contains (IsKnown tree Extra) k.names z k.known (contains_among k.names z among)))

        by_list : (xs : List (List ℕ)) × IsListOf (IsKnown tree Extra) xs × AllPairs (λ x y. x ≢ y) xs → IsDecided (KnowsTooMany tree Extra)
        by_list (xs, list, apart) = elim (cases_lt unit_limit (length xs)) as (λ _. IsDecided (KnowsTooMany tree Extra)) [
          | inl more ↦ inl (record { names = xs; known = λ k d few. list.has (get_or xs k d) (among_at xs k d few); apart = apart; many = more })
          | inr few ↦ inr (λ k. omega (arith, few, k.many, no_longer xs list k))
        ]
