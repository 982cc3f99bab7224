-- The lists of Tells have just the relations that the definitions of dependencies give.
use Rattle.std.proofs.Common.{◌≡◌, ◌⊎◌, ◌∙◌, ℕ, Bool, true, false, List, [], ◌∷◌, ◌++◌, Contains, Option, Some, None, is_some, if◌then◌else◌, ◌&&◌, refl, sym, ap, subst, inl, inr}
use Rattle.std.specs.FinMap as map
use Rattle.std.specs.List.{flat_map}
use Rattle.std.proofs.lemmas.Bool.{and_parts}
use Rattle.std.proofs.lemmas.List.Elements.{Contains-append_left, Contains-append_right, Contains-append_cases}
use Rattle.um_model.specs.Profiles.{ReadTree}
use Rattle.um_model.specs.Dependencies.{Declares, Gives, HasEntry, IsNamed, Links, Mentions, has_defaults, loadable_in, names_in}
use Rattle.um_model.specs.Resolution.{shutdown_target}
use Rattle.um_model.specs.Dependencies as model
use Rattle.um_model.specs.Names.{is_template, is_unit_name, named, stem_of, suffix_of}
use Rattle.um_model.specs.Tree.{Tree, Entry, File, Link as link_to, PathParts, Place, Unit, DropIn, Wants, Requires, path_parts, is_fit_place, is_plain_name}
use Rattle.um_model.specs.Units.{LoadedUnit, unit_named}
use Rattle.um_model.specs.declared.dependencies.DependencyKind.{DependencyKind}
use Rattle.um_model.specs.declared.dependencies.DependencyKind.TheVariants as kinds
use Rattle.um_laws.proofs.GivesLaws as says
use Rattle.um_laws.proofs.GivesLaws.{Says, HasLink, link_there, there_linked}
use Rattle.um_laws.proofs.KnownLaws.{entry_there, there_entered}
use Rattle.um_model.proofs.TreeLaws.{path_of_parts}
use Rattle.um_graph.specs.Known.{links_told}
use Rattle.um_graph.specs.Tells.{both_of, defaults_told, entry_names, entry_told, follows_by, kind_told, link_names, link_told, names_at, names_given, needs_told, own_name, place_names, place_told, shutdown_told, tell, told_at, told_between, told_from, told_in, told_of, told_to, told_where, unless_template}
use Rattle.um_graph.specs.declared.told.Link.{Link}
use Rattle.um_graph.specs.declared.told.Link.TheVariants.{Depends, Declared, Ending}
use Rattle.um_graph.specs.declared.told.Told.{Told}
use Rattle.um_graph.proofs.ListLaws.{contains_flat, flat_contains, in_first, in_none, in_one, in_second, is_one, one_of_two}
use Rattle.um_graph.proofs.MapLaws.{entry_held, held_entry}
use Rattle.um_graph.proofs.SettingLaws.{AreNames, names_of_loadable}

-- ---- names
named_back : (x y : List ℕ) → named x ≡ Some y → (x ≡ y) × (is_unit_name x ≡ true)
named_back x y = by (is_unit_name x) refl
  where
    by : (b : Bool) → is_unit_name x ≡ b → (if b then Some x else None) ≡ Some y → (x ≡ y) × (is_unit_name x ≡ true)
    by true t h = (cc, t)
    by false t h = cc

named_self : (x : List ℕ) → is_unit_name x ≡ true → named x ≡ Some x
named_self x t = ap (λ b. if b then Some x else None) t

shutdown_is_name : is_unit_name shutdown_target ≡ true
unfolding is_unit_name suffix_of stem_of
shutdown_is_name = refl

module _ (tree : ReadTree) where
  -- ---- the relations from a unit's settings
  pub data SaidBy (l : LoadedUnit) (t : Told) : Type 0 where
    needs : (kind : DependencyKind) (y : List ℕ) → Contains (names_in kind l.settings.dependencies) y → tell (Depends kind) l.name (unit_named tree.entries y) ≡ t → SaidBy l t
    precedes : (y : List ℕ) → Contains l.settings.dependencies.before y → tell Declared l.name (unit_named tree.entries y) ≡ t → SaidBy l t
    follows : (y : List ℕ) → Contains l.settings.dependencies.after y → tell Declared (unit_named tree.entries y) l.name ≡ t → SaidBy l t
    conflicts : has_defaults l ≡ true → tell (Depends kinds.Conflicts) l.name (unit_named tree.entries shutdown_target) ≡ t → SaidBy l t
    ends : has_defaults l ≡ true → tell Ending l.name (unit_named tree.entries shutdown_target) ≡ t → SaidBy l t

  given_is : (link : Link) (unit y : List ℕ) (o : Option (List ℕ)) (t : Told) → named y ≡ o → Contains (told_to tree.entries link unit o) t → tell link unit (unit_named tree.entries y) ≡ t
  given_is link unit y None t n c = absurd (in_none t c)
  given_is link unit y (Some z) t n c = ap (λ w. tell link unit (unit_named tree.entries w)) (named_back y z n).0 ∙ is_one _ t c

  from_is : (unit y : List ℕ) (o : Option (List ℕ)) (t : Told) → named y ≡ o → Contains (told_from tree.entries unit o) t → tell Declared (unit_named tree.entries y) unit ≡ t
  from_is unit y None t n c = absurd (in_none t c)
  from_is unit y (Some z) t n c = ap (λ w. tell Declared (unit_named tree.entries w) unit) (named_back y z n).0 ∙ is_one _ t c

  given_in : (link : Link) (unit y : List ℕ) → is_unit_name y ≡ true → Contains (names_given tree.entries link unit y) (tell link unit (unit_named tree.entries y))
  given_in link unit y n = subst (λ o. Contains (told_to tree.entries link unit o) (tell link unit (unit_named tree.entries y))) (sym (named_self y n)) (in_one _)

  from_in : (unit y : List ℕ) → is_unit_name y ≡ true → Contains (follows_by tree.entries unit y) (tell Declared (unit_named tree.entries y) unit)
  from_in unit y n = subst (λ o. Contains (told_from tree.entries unit o) (tell Declared (unit_named tree.entries y) unit)) (sym (named_self y n)) (in_one _)

  module _ (l : LoadedUnit) (t : Told) where
    kind_out : (kind : DependencyKind) → Contains (kind_told tree.entries l kind (names_in kind l.settings.dependencies)) t → SaidBy l t
    kind_out kind c =
        let r = flat_contains (names_given tree.entries (Depends kind) l.name) (names_in kind l.settings.dependencies) t c in
        needs kind r.0 r.1 (given_is (Depends kind) l.name r.0 (named r.0) t refl r.2)

    needs_out : Contains (needs_told tree.entries l) t → SaidBy l t
    needs_out c =
        let kind_of : DependencyKind → List Told = λ k. kind_told tree.entries l k (names_in k l.settings.dependencies) in
        elim (Contains-append_cases (kind_of kinds.Wants) (kind_of kinds.Requires ++ (kind_of kinds.BindsTo ++ (kind_of kinds.PartOf ++ kind_of kinds.Conflicts))) t c) as (λ _. SaidBy l t) [
          | inl a ↦ kind_out kinds.Wants a
          | inr c ↦ elim (Contains-append_cases (kind_of kinds.Requires) (kind_of kinds.BindsTo ++ (kind_of kinds.PartOf ++ kind_of kinds.Conflicts)) t c) as (λ _. SaidBy l t) [
            | inl a ↦ kind_out kinds.Requires a
            | inr c ↦ elim (Contains-append_cases (kind_of kinds.BindsTo) (kind_of kinds.PartOf ++ kind_of kinds.Conflicts) t c) as (λ _. SaidBy l t) [
              | inl a ↦ kind_out kinds.BindsTo a
              | inr c ↦ elim (Contains-append_cases (kind_of kinds.PartOf) (kind_of kinds.Conflicts) t c) as (λ _. SaidBy l t) [
                | inl a ↦ kind_out kinds.PartOf a
                | inr a ↦ kind_out kinds.Conflicts a
              ]
            ]
          ]
        ]

    shutdown_out : has_defaults l ≡ true → (o : Option (List ℕ)) → named shutdown_target ≡ o → Contains (shutdown_told tree.entries l.name o) t → SaidBy l t
    shutdown_out h None n c = absurd (in_none t c)
    shutdown_out h (Some z) n c =
        let same : unit_named tree.entries shutdown_target ≡ unit_named tree.entries z = ap (unit_named tree.entries) (named_back shutdown_target z n).0 in
        elim (one_of_two _ _ t c) as (λ _. SaidBy l t) [
          | inl e ↦ conflicts h (ap (tell (Depends kinds.Conflicts) l.name) same ∙ e)
          | inr e ↦ ends h (ap (tell Ending l.name) same ∙ e)
        ]

    defaults_out : Contains (defaults_told tree.entries l) t → SaidBy l t
    defaults_out c = by (has_defaults l) refl c
      where
        by : (b : Bool) → has_defaults l ≡ b → Contains (if b then shutdown_told tree.entries l.name (named shutdown_target) else []) t → SaidBy l t
        by true h c = shutdown_out h (named shutdown_target) refl c
        by false h c = absurd (in_none t c)

    pub said_out : Contains (told_of tree.entries l) t → SaidBy l t
    said_out c =
        let d = l.settings.dependencies in
        elim (Contains-append_cases (needs_told tree.entries l) (flat_map (names_given tree.entries Declared l.name) d.before ++ (flat_map (follows_by tree.entries l.name) d.after ++ defaults_told tree.entries l)) t c) as (λ _. SaidBy l t) [
          | inl a ↦ needs_out a
          | inr c ↦ elim (Contains-append_cases (flat_map (names_given tree.entries Declared l.name) d.before) (flat_map (follows_by tree.entries l.name) d.after ++ defaults_told tree.entries l) t c) as (λ _. SaidBy l t) [
            | inl a ↦ let r = flat_contains (names_given tree.entries Declared l.name) d.before t a in precedes r.0 r.1 (given_is Declared l.name r.0 (named r.0) t refl r.2)
            | inr c ↦ elim (Contains-append_cases (flat_map (follows_by tree.entries l.name) d.after) (defaults_told tree.entries l) t c) as (λ _. SaidBy l t) [
              | inl a ↦ let r = flat_contains (follows_by tree.entries l.name) d.after t a in follows r.0 r.1 (from_is l.name r.0 (named r.0) t refl r.2)
              | inr a ↦ defaults_out a
            ]
          ]
        ]

    abbrev of_kind : DependencyKind → List Told
    of_kind kind = kind_told tree.entries l kind (names_in kind l.settings.dependencies)

    abbrev from_part_of : List Told
    from_part_of = of_kind kinds.PartOf ++ of_kind kinds.Conflicts

    abbrev from_binds_to : List Told
    from_binds_to = of_kind kinds.BindsTo ++ from_part_of

    abbrev from_requires : List Told
    from_requires = of_kind kinds.Requires ++ from_binds_to

    kind_in : (kind : DependencyKind) → Contains (of_kind kind) t → Contains (needs_told tree.entries l) t
    kind_in kinds.Wants c = Contains-append_left (of_kind kinds.Wants) from_requires t c
    kind_in kinds.Requires c = Contains-append_right (of_kind kinds.Wants) from_requires t (Contains-append_left (of_kind kinds.Requires) from_binds_to t c)
    kind_in kinds.BindsTo c =
        Contains-append_right (of_kind kinds.Wants) from_requires t (Contains-append_right (of_kind kinds.Requires) from_binds_to t (Contains-append_left (of_kind kinds.BindsTo) from_part_of t c))
    kind_in kinds.PartOf c =
        Contains-append_right (of_kind kinds.Wants) from_requires t (Contains-append_right (of_kind kinds.Requires) from_binds_to t (Contains-append_right (of_kind kinds.BindsTo) from_part_of t
        (Contains-append_left (of_kind kinds.PartOf) (of_kind kinds.Conflicts) t c)))
    kind_in kinds.Conflicts c =
        Contains-append_right (of_kind kinds.Wants) from_requires t (Contains-append_right (of_kind kinds.Requires) from_binds_to t (Contains-append_right (of_kind kinds.BindsTo) from_part_of t
        (Contains-append_right (of_kind kinds.PartOf) (of_kind kinds.Conflicts) t c)))

    abbrev befores : List Told
    befores = flat_map (names_given tree.entries Declared l.name) l.settings.dependencies.before

    abbrev afters : List Told
    afters = flat_map (follows_by tree.entries l.name) l.settings.dependencies.after

    needs_whole : Contains (needs_told tree.entries l) t → Contains (told_of tree.entries l) t
    needs_whole c = Contains-append_left (needs_told tree.entries l) (befores ++ (afters ++ defaults_told tree.entries l)) t c

    befores_whole : Contains befores t → Contains (told_of tree.entries l) t
    befores_whole c = Contains-append_right (needs_told tree.entries l) (befores ++ (afters ++ defaults_told tree.entries l)) t (Contains-append_left befores (afters ++ defaults_told tree.entries l) t c)

    afters_whole : Contains afters t → Contains (told_of tree.entries l) t
    afters_whole c =
        Contains-append_right (needs_told tree.entries l) (befores ++ (afters ++ defaults_told tree.entries l)) t (Contains-append_right befores (afters ++ defaults_told tree.entries l) t
        (Contains-append_left afters (defaults_told tree.entries l) t c))

    defaults_in : has_defaults l ≡ true → Contains (shutdown_told tree.entries l.name (Some shutdown_target)) t → Contains (told_of tree.entries l) t
    defaults_in h c =
        let whole : Contains (shutdown_told tree.entries l.name (named shutdown_target)) t =
        subst (λ o. Contains (shutdown_told tree.entries l.name o) t) (sym (named_self shutdown_target shutdown_is_name)) c in
        let there : Contains (defaults_told tree.entries l) t = subst (λ b. Contains (if b then shutdown_told tree.entries l.name (named shutdown_target) else []) t) (sym h) whole in
        Contains-append_right (needs_told tree.entries l) (befores ++ (afters ++ defaults_told tree.entries l)) t (Contains-append_right befores (afters ++ defaults_told tree.entries l) t
        (Contains-append_right afters (defaults_told tree.entries l) t there))

    pub said_in : AreNames l.settings.dependencies → SaidBy l t → Contains (told_of tree.entries l) t
    said_in n (needs kind y c e) =
        needs_whole (kind_in kind (subst (Contains (kind_told tree.entries l kind (names_in kind l.settings.dependencies))) e
        (contains_flat (names_given tree.entries (Depends kind) l.name) (names_in kind l.settings.dependencies) y _ c (given_in (Depends kind) l.name y (n.needs kind y c)))))
    said_in n (precedes y c e) =
        befores_whole (subst (Contains befores) e (contains_flat (names_given tree.entries Declared l.name) l.settings.dependencies.before y _ c (given_in Declared l.name y (n.before y c))))
    said_in n (follows y c e) =
        afters_whole (subst (Contains afters) e (contains_flat (follows_by tree.entries l.name) l.settings.dependencies.after y _ c (from_in l.name y (n.after y c))))
    said_in n (conflicts h e) = defaults_in h (subst (Contains (shutdown_told tree.entries l.name (Some shutdown_target))) e (in_first _ _))
    said_in n (ends h e) = defaults_in h (subst (Contains (shutdown_told tree.entries l.name (Some shutdown_target))) e (in_second _ _))

  -- ---- the relations of a name, from the settings of its unit
  pub record ToldBy (a : List ℕ) (t : Told) : Type 0 where
    pub unit : LoadedUnit
    pub loadable : loadable_in tree a ≡ Some unit
    pub said : SaidBy unit t

  pub told_out : (a : List ℕ) (t : Told) → Contains (told_in tree a) t → ToldBy a t
  told_out a t c = by (loadable_in tree a) refl c
    where
      by : (o : Option LoadedUnit) → loadable_in tree a ≡ o → Contains (told_where tree.entries o) t → ToldBy a t
      by None e c = absurd (in_none t c)
      by (Some l) e c = record { unit = l; loadable = e; said = said_out l t c }

  pub in_told : (a : List ℕ) (t : Told) → ToldBy a t → Contains (told_in tree a) t
  in_told a t h = subst (λ o. Contains (told_where tree.entries o) t) (sym h.loadable) (said_in h.unit t (names_of_loadable tree a h.unit h.loadable) h.said)

  pub told_mentions : (a : List ℕ) (t : Told) → Contains (told_in tree a) t → Mentions tree a t.from × Mentions tree a t.to
  told_mentions a t c = let r = told_out a t c in by r.unit r.loadable r.said
    where
      by : (l : LoadedUnit) → loadable_in tree a ≡ Some l → SaidBy l t → Mentions tree a t.from × Mentions tree a t.to
      by l h (needs kind y d e) = let g : Gives tree a kind l.name (unit_named tree.entries y) = model.said h d in subst (λ (t : Told). Mentions tree a t.from × Mentions tree a t.to) e (model.owner g, model.other g)
      by l h (precedes y d e) = let g : Declares tree a l.name (unit_named tree.entries y) = model.precedes h d in subst (λ (t : Told). Mentions tree a t.from × Mentions tree a t.to) e (model.earlier g, model.later g)
      by l h (follows y d e) = let g : Declares tree a (unit_named tree.entries y) l.name = model.follows h d in subst (λ (t : Told). Mentions tree a t.from × Mentions tree a t.to) e (model.earlier g, model.later g)
      by l h (conflicts d e) = let g : Gives tree a kinds.Conflicts l.name (unit_named tree.entries shutdown_target) = model.ends h d in subst (λ (t : Told). Mentions tree a t.from × Mentions tree a t.to) e (model.owner g, model.other g)
      by l h (ends d e) = let g : Gives tree a kinds.Conflicts l.name (unit_named tree.entries shutdown_target) = model.ends h d in subst (λ (t : Told). Mentions tree a t.from × Mentions tree a t.to) e (model.owner g, model.other g)

  pub told_gives : (a : List ℕ) (kind : DependencyKind) (x y : List ℕ) → Contains (told_in tree a) (tell (Depends kind) x y) → Gives tree a kind x y
  told_gives a kind x y c = let r = told_out a (tell (Depends kind) x y) c in by r.unit r.loadable r.said
    where
      as_told : (k : DependencyKind) (u v : List ℕ) → tell (Depends k) u v ≡ tell (Depends kind) x y → Gives tree a k u v → Gives tree a kind x y
      as_told k u v e g =
          let ek : k ≡ kind = kind_same k kind (ap (λ (t : Told). t.link) e) in
          subst (λ m. Gives tree a m x y) ek (subst (λ m. Gives tree a k m y) (ap (λ (t : Told). t.from) e) (subst (λ m. Gives tree a k u m) (ap (λ (t : Told). t.to) e) g))
        where
          kind_same : (k j : DependencyKind) → Depends k ≡ Depends j → k ≡ j
          kind_same k j e = cc

      by : (l : LoadedUnit) → loadable_in tree a ≡ Some l → SaidBy l (tell (Depends kind) x y) → Gives tree a kind x y
      by l h (needs k z d e) = as_told k l.name (unit_named tree.entries z) e (model.said h d)
      by l h (precedes z d e) = let no : Declared ≡ Depends kind = ap (λ (t : Told). t.link) e in cc
      by l h (follows z d e) = let no : Declared ≡ Depends kind = ap (λ (t : Told). t.link) e in cc
      by l h (conflicts d e) = as_told kinds.Conflicts l.name (unit_named tree.entries shutdown_target) e (model.ends h d)
      by l h (ends d e) = let no : Ending ≡ Depends kind = ap (λ (t : Told). t.link) e in cc

  pub told_declares : (a x y : List ℕ) → Contains (told_in tree a) (tell Declared x y) → Declares tree a x y
  told_declares a x y c = let r = told_out a (tell Declared x y) c in by r.unit r.loadable r.said
    where
      as_told : (u v : List ℕ) → tell Declared u v ≡ tell Declared x y → Declares tree a u v → Declares tree a x y
      as_told u v e g = subst (λ m. Declares tree a m y) (ap (λ (t : Told). t.from) e) (subst (λ m. Declares tree a u m) (ap (λ (t : Told). t.to) e) g)

      by : (l : LoadedUnit) → loadable_in tree a ≡ Some l → SaidBy l (tell Declared x y) → Declares tree a x y
      by l h (needs k z d e) = let no : Depends k ≡ Declared = ap (λ (t : Told). t.link) e in cc
      by l h (precedes z d e) = as_told l.name (unit_named tree.entries z) e (model.precedes h d)
      by l h (follows z d e) = as_told (unit_named tree.entries z) l.name e (model.follows h d)
      by l h (conflicts d e) = let no : Depends kinds.Conflicts ≡ Declared = ap (λ (t : Told). t.link) e in cc
      by l h (ends d e) = let no : Ending ≡ Declared = ap (λ (t : Told). t.link) e in cc

  -- the unit of a name ends before shutdown.target
  pub record EndsBy (a x y : List ℕ) : Type 0 where
    pub unit : LoadedUnit
    pub loadable : loadable_in tree a ≡ Some unit
    pub defaults : has_defaults unit ≡ true
    pub first : unit.name ≡ x
    pub second : unit_named tree.entries shutdown_target ≡ y

  pub told_ends : (a x y : List ℕ) → Contains (told_in tree a) (tell Ending x y) → EndsBy a x y
  told_ends a x y c = let r = told_out a (tell Ending x y) c in by r.unit r.loadable r.said
    where
      by : (l : LoadedUnit) → loadable_in tree a ≡ Some l → SaidBy l (tell Ending x y) → EndsBy a x y
      by l h (needs k z d e) = let no : Depends k ≡ Ending = ap (λ (t : Told). t.link) e in cc
      by l h (precedes z d e) = let no : Declared ≡ Ending = ap (λ (t : Told). t.link) e in cc
      by l h (follows z d e) = let no : Declared ≡ Ending = ap (λ (t : Told). t.link) e in cc
      by l h (conflicts d e) = let no : Depends kinds.Conflicts ≡ Ending = ap (λ (t : Told). t.link) e in cc
      by l h (ends d e) = record { unit = l; loadable = h; defaults = d; first = ap (λ (t : Told). t.from) e; second = ap (λ (t : Told). t.to) e }

  pub declares_told : (a x y : List ℕ) → Declares tree a x y → Contains (told_in tree a) (tell Declared x y)
  declares_told a _ _ (model.precedes {y = z} {l = l} h d) = in_told a _ (record { unit = l; loadable = h; said = precedes z d refl })
  declares_told a _ _ (model.follows {y = z} {l = l} h d) = in_told a _ (record { unit = l; loadable = h; said = follows z d refl })

  pub ends_told : (a : List ℕ) (l : LoadedUnit) → loadable_in tree a ≡ Some l → has_defaults l ≡ true → Contains (told_in tree a) (tell Ending l.name (unit_named tree.entries shutdown_target))
  ends_told a l h d = in_told a _ (record { unit = l; loadable = h; said = ends d refl })

  -- ---- the relations from links, and the names in entries
  pub record LinkTold (t : Told) : Type 0 where
    pub kind : DependencyKind
    pub x : List ℕ
    pub y : List ℕ
    pub links : Links tree.entries kind x y
    pub is : tell (Depends kind) (unit_named tree.entries x) (unit_named tree.entries y) ≡ t

  between_is : (kind : DependencyKind) (u v : List ℕ) (o p : Option (List ℕ)) (t : Told) → named u ≡ o → named v ≡ p → Contains (told_between tree.entries kind o p) t
      → tell (Depends kind) (unit_named tree.entries u) (unit_named tree.entries v) ≡ t
  between_is kind u v None p t n m c = absurd (in_none t c)
  between_is kind u v (Some z) None t n m c = absurd (in_none t c)
  between_is kind u v (Some z) (Some w) t n m c =
      ap (λ k. tell (Depends kind) (unit_named tree.entries k) (unit_named tree.entries v)) (named_back u z n).0 ∙ (ap (λ k. tell (Depends kind) (unit_named tree.entries z) (unit_named tree.entries k)) (named_back v w m).0 ∙ is_one _ t c)

  linked_by : (path target : List ℕ) (parts : PathParts) (kind : DependencyKind) (y : List ℕ) → Contains (map.entries tree.entries) (path, link_to target) → path_parts path ≡ Some parts
      → Says parts kind parts.unit y → Links tree.entries kind parts.unit y
  linked_by path target parts kind y c p s = there_linked tree.entries kind parts.unit y path target parts (entry_held tree.entries path (link_to target) c) p s

  pub links_out : (t : Told) → Contains (links_told tree.entries) t → LinkTold t
  links_out t c = let r = flat_contains (entry_told tree.entries) (map.entries tree.entries) t c in by_parts r.0.0 r.0.1 r.1 (path_parts r.0.0) refl r.2
    where
      by_place : (path : List ℕ) (entry : Entry) → Contains (map.entries tree.entries) (path, entry) → (parts : PathParts) → path_parts path ≡ Some parts
          → (place : Place) → parts.place ≡ place → Contains (place_told tree.entries parts.unit place entry) t → LinkTold t
      by_place path entry c parts p Unit e d = absurd (in_none t d)
      by_place path entry c parts p (DropIn file) e d = absurd (in_none t d)
      by_place path (File text) c parts p (Wants other) e d = absurd (in_none t d)
      by_place path (link_to target) c parts p (Wants other) e d = record {
        kind = kinds.Wants;
        x = parts.unit;
        y = other;
        links = linked_by path target parts kinds.Wants other c p (says.wants parts other e);
        is = between_is kinds.Wants parts.unit other (named parts.unit) (named other) t refl refl d;
      }
      by_place path (File text) c parts p (Requires other) e d = absurd (in_none t d)
      by_place path (link_to target) c parts p (Requires other) e d = record {
        kind = kinds.Requires;
        x = parts.unit;
        y = other;
        links = linked_by path target parts kinds.Requires other c p (says.requires parts other e);
        is = between_is kinds.Requires parts.unit other (named parts.unit) (named other) t refl refl d;
      }

      by_parts : (path : List ℕ) (entry : Entry) → Contains (map.entries tree.entries) (path, entry) → (o : Option PathParts) → path_parts path ≡ o → Contains (told_at tree.entries o entry) t → LinkTold t
      by_parts path entry c None p d = absurd (in_none t d)
      by_parts path entry c (Some parts) p d = by_place path entry c parts p parts.place refl d

  plain_are : (unit other : List ℕ) → is_plain_name unit && is_plain_name other ≡ true → (is_unit_name unit ≡ true) × (is_unit_name other ≡ true)
  plain_are unit other h = let parts = and_parts _ _ h in ((and_parts _ _ parts.0).0, (and_parts _ _ parts.1).0)

  between_in : (kind : DependencyKind) (u v : List ℕ) → is_unit_name u ≡ true → is_unit_name v ≡ true → Contains (link_told tree.entries kind u v) (tell (Depends kind) (unit_named tree.entries u) (unit_named tree.entries v))
  between_in kind u v n m =
      subst (λ o. Contains (told_between tree.entries kind o (named v)) (tell (Depends kind) (unit_named tree.entries u) (unit_named tree.entries v))) (sym (named_self u n))
      (subst (λ o. Contains (told_between tree.entries kind (Some u) o) (tell (Depends kind) (unit_named tree.entries u) (unit_named tree.entries v))) (sym (named_self v m)) (in_one _))

  fit_parts : (path : List ℕ) (parts : PathParts) (place : Place) → path_parts path ≡ Some parts → parts.place ≡ place → is_fit_place parts.unit place ≡ true
  fit_parts path parts place p e = subst (λ q. is_fit_place parts.unit q ≡ true) e (path_of_parts path parts p).fit

  at_place : (path : List ℕ) (entry : Entry) (parts : PathParts) (place : Place) (t : Told) → Contains (map.entries tree.entries) (path, entry) → path_parts path ≡ Some parts → parts.place ≡ place
      → Contains (place_told tree.entries parts.unit place entry) t → Contains (links_told tree.entries) t
  at_place path entry parts place t c p e d =
      let told : Contains (entry_told tree.entries (path, entry)) t =
      subst (λ o. Contains (told_at tree.entries o entry) t) (sym p) (subst (λ q. Contains (place_told tree.entries parts.unit q entry) t) (sym e) d) in
      contains_flat (entry_told tree.entries) (map.entries tree.entries) (path, entry) t c told

  pub links_in : (kind : DependencyKind) (x y : List ℕ) → Links tree.entries kind x y → Contains (links_told tree.entries) (tell (Depends kind) (unit_named tree.entries x) (unit_named tree.entries y))
  links_in kind x y links = by kind x y l.says
    where
      l : HasLink tree.entries kind x y
      l = link_there tree.entries kind x y links

      held : Contains (map.entries tree.entries) (l.path, link_to l.target)
      held = held_entry tree.entries l.path (link_to l.target) l.link

      by : (kind : DependencyKind) (x y : List ℕ) → Says l.parts kind x y → Contains (links_told tree.entries) (tell (Depends kind) (unit_named tree.entries x) (unit_named tree.entries y))
      by _ _ _ (says.wants p other e) =
          let n = plain_are p.unit other (fit_parts l.path l.parts (Wants other) l.served e) in
          at_place l.path (link_to l.target) l.parts (Wants other) _ held l.served e (between_in kinds.Wants l.parts.unit other n.0 n.1)
      by _ _ _ (says.requires p other e) =
          let n = plain_are p.unit other (fit_parts l.path l.parts (Requires other) l.served e) in
          at_place l.path (link_to l.target) l.parts (Requires other) _ held l.served e (between_in kinds.Requires l.parts.unit other n.0 n.1)

  -- names
  both_are : (u v : List ℕ) (o p : Option (List ℕ)) (x : List ℕ) → named u ≡ o → named v ≡ p → Contains (both_of o p) x → (u ≡ x) ⊎ (v ≡ x)
  both_are u v None p x n m c = absurd (in_none x c)
  both_are u v (Some z) None x n m c = absurd (in_none x c)
  both_are u v (Some z) (Some w) x n m c = elim (one_of_two z w x c) as (λ _. (u ≡ x) ⊎ (v ≡ x)) [
    | inl e ↦ inl ((named_back u z n).0 ∙ e)
    | inr e ↦ inr ((named_back v w m).0 ∙ e)
  ]

  own_is : (u : List ℕ) (o : Option (List ℕ)) (x : List ℕ) → named u ≡ o → Contains (unless_template o) x → (u ≡ x) × (is_template x ≡ false)
  own_is u None x n c = absurd (in_none x c)
  own_is u (Some z) x n c = by (is_template z) refl c
    where
      by : (b : Bool) → is_template z ≡ b → Contains (if b then [] else z ∷ []) x → (u ≡ x) × (is_template x ≡ false)
      by true t c = absurd (in_none x c)
      by false t c = let e = is_one z x c in ((named_back u z n).0 ∙ e, sym (ap is_template e) ∙ t)

  pub names_out : (Extra : List ℕ → Type 0) (x : List ℕ) → Contains (flat_map entry_names (map.entries tree.entries)) x → IsNamed tree Extra x
  names_out Extra x c = let r = flat_contains entry_names (map.entries tree.entries) x c in by_parts r.0.0 r.0.1 r.1 (path_parts r.0.0) refl r.2
    where
      either : (kind : DependencyKind) (u v : List ℕ) → Links tree.entries kind u v → (u ≡ x) ⊎ (v ≡ x) → IsNamed tree Extra x
      either kind u v l (inl e) = subst (IsNamed tree Extra) e (model.holder l)
      either kind u v l (inr e) = subst (IsNamed tree Extra) e (model.link l)

      by_place : (path : List ℕ) (entry : Entry) → Contains (map.entries tree.entries) (path, entry) → (parts : PathParts) → path_parts path ≡ Some parts
          → (place : Place) → parts.place ≡ place → Contains (place_names parts.unit place entry) x → IsNamed tree Extra x
      by_place path entry c parts p Unit e d =
          let own = own_is parts.unit (named parts.unit) x refl d in
          model.has (entry_there tree.entries x path (record { parts = parts; held = ap is_some (entry_held tree.entries path entry c); served = p; own = e; named = own.0; single = own.1 }))
      by_place path entry c parts p (DropIn file) e d = absurd (in_none x d)
      by_place path (File text) c parts p (Wants other) e d = absurd (in_none x d)
      by_place path (link_to target) c parts p (Wants other) e d =
          either kinds.Wants parts.unit other (linked_by path target parts kinds.Wants other c p (says.wants parts other e)) (both_are parts.unit other (named parts.unit) (named other) x refl refl d)
      by_place path (File text) c parts p (Requires other) e d = absurd (in_none x d)
      by_place path (link_to target) c parts p (Requires other) e d =
          either kinds.Requires parts.unit other (linked_by path target parts kinds.Requires other c p (says.requires parts other e)) (both_are parts.unit other (named parts.unit) (named other) x refl refl d)

      by_parts : (path : List ℕ) (entry : Entry) → Contains (map.entries tree.entries) (path, entry) → (o : Option PathParts) → path_parts path ≡ o → Contains (names_at o entry) x → IsNamed tree Extra x
      by_parts path entry c None p d = absurd (in_none x d)
      by_parts path entry c (Some parts) p d = by_place path entry c parts p parts.place refl d

  named_at_place : (path : List ℕ) (entry : Entry) (parts : PathParts) (place : Place) (x : List ℕ) → Contains (map.entries tree.entries) (path, entry) → path_parts path ≡ Some parts → parts.place ≡ place
      → Contains (place_names parts.unit place entry) x → Contains (flat_map entry_names (map.entries tree.entries)) x
  named_at_place path entry parts place x c p e d =
      let there : Contains (entry_names (path, entry)) x =
      subst (λ o. Contains (names_at o entry) x) (sym p) (subst (λ q. Contains (place_names parts.unit q entry) x) (sym e) d) in
      contains_flat entry_names (map.entries tree.entries) (path, entry) x c there

  some_value : (o : Option Entry) → is_some o ≡ true → (entry : Entry) × (o ≡ Some entry)
  some_value (Some entry) is = (entry, refl)
  some_value None is = cc

  entry_named : (x : List ℕ) → HasEntry tree.entries x → Contains (flat_map entry_names (map.entries tree.entries)) x
  entry_named x has =
      let path = (there_entered tree.entries x has).0 in
      let h = (there_entered tree.entries x has).1 in
      let there = some_value (map.get tree.entries path) h.held in
      let u = h.parts.unit in
      let n : is_unit_name u ≡ true = fit_parts path h.parts Unit h.served h.own in
      let single : is_template u ≡ false = ap is_template h.named ∙ h.single in
      let own : Contains (own_name u) u = subst (λ o. Contains (unless_template o) u) (sym (named_self u n)) (subst (λ b. Contains (if b then [] else u ∷ []) u) (sym single) (in_one u)) in
      named_at_place path there.0 h.parts Unit x (held_entry tree.entries path there.0 there.1) h.served h.own (subst (Contains (own_name u)) h.named own)

  both_in : (u v : List ℕ) → is_unit_name u ≡ true → is_unit_name v ≡ true → Contains (link_names u v) u × Contains (link_names u v) v
  both_in u v n m =
      let whole : link_names u v ≡ u ∷ v ∷ [] = ap (λ o. both_of o (named v)) (named_self u n) ∙ ap (both_of (Some u)) (named_self v m) in
      (subst (λ xs. Contains xs u) (sym whole) (in_first u v), subst (λ xs. Contains xs v) (sym whole) (in_second u v))

  link_named : (kind : DependencyKind) (x y : List ℕ) → Links tree.entries kind x y → Contains (flat_map entry_names (map.entries tree.entries)) x × Contains (flat_map entry_names (map.entries tree.entries)) y
  link_named kind x y links = by kind x y l.says
    where
      l : HasLink tree.entries kind x y
      l = link_there tree.entries kind x y links

      held : Contains (map.entries tree.entries) (l.path, link_to l.target)
      held = held_entry tree.entries l.path (link_to l.target) l.link

      at : (place : Place) (z : List ℕ) → l.parts.place ≡ place → Contains (place_names l.parts.unit place (link_to l.target)) z → Contains (flat_map entry_names (map.entries tree.entries)) z
      at place z e d = named_at_place l.path (link_to l.target) l.parts place z held l.served e d

      by : (kind : DependencyKind) (x y : List ℕ) → Says l.parts kind x y → Contains (flat_map entry_names (map.entries tree.entries)) x × Contains (flat_map entry_names (map.entries tree.entries)) y
      by _ _ _ (says.wants p other e) =
          let n = plain_are p.unit other (fit_parts l.path l.parts (Wants other) l.served e) in
          let b = both_in l.parts.unit other n.0 n.1 in (at (Wants other) l.parts.unit e b.0, at (Wants other) other e b.1)
      by _ _ _ (says.requires p other e) =
          let n = plain_are p.unit other (fit_parts l.path l.parts (Requires other) l.served e) in
          let b = both_in l.parts.unit other n.0 n.1 in (at (Requires other) l.parts.unit e b.0, at (Requires other) other e b.1)

  pub names_in_entries : (extra : List (List ℕ)) (x : List ℕ) → IsNamed tree (Contains extra) x → Contains extra x ⊎ Contains (flat_map entry_names (map.entries tree.entries)) x
  names_in_entries extra x (model.has h) = inr (entry_named x h)
  names_in_entries extra x (model.holder {kind = kind} {y = y} l) = inr (link_named kind x y l).0
  names_in_entries extra x (model.link {kind = kind} {x = z} l) = inr (link_named kind z x l).1
  names_in_entries extra x (model.extra e) = inl e

  -- ---- both together
  pub gives_told : (a : List ℕ) (kind : DependencyKind) (x y : List ℕ) → Gives tree a kind x y → Contains (told_in tree a) (tell (Depends kind) x y) ⊎ Contains (links_told tree.entries) (tell (Depends kind) x y)
  gives_told a _ _ _ (model.said {y = z} {kind = kind} {l = l} h d) = inl (in_told a _ (record { unit = l; loadable = h; said = needs kind z d refl }))
  gives_told a _ _ _ (model.linked {y = z} {kind = kind} links) = inr (links_in kind a z links)
  gives_told a _ _ _ (model.ends {l = l} h d) = inl (in_told a _ (record { unit = l; loadable = h; said = conflicts d refl }))

  -- a link's relation is given by its holder
  pub link_gives : (kind : DependencyKind) (x y : List ℕ) → Contains (links_told tree.entries) (tell (Depends kind) x y) → (a : List ℕ) × ((Extra : List ℕ → Type 0) → IsNamed tree Extra a) × Gives tree a kind x y
  link_gives kind x y c =
      let r = links_out (tell (Depends kind) x y) c in
      let ek : r.kind ≡ kind = kind_same r.kind kind (ap (λ (t : Told). t.link) r.is) in (
        r.x,
        λ Extra. model.holder r.links,
        subst (λ m. Gives tree r.x m x y) ek (subst (λ m. Gives tree r.x r.kind m y) (ap (λ (t : Told). t.from) r.is) (subst (λ m. Gives tree r.x r.kind (unit_named tree.entries r.x) m) (ap (λ (t : Told). t.to) r.is) (model.linked r.links))),
      )
    where
      kind_same : (k j : DependencyKind) → Depends k ≡ Depends j → k ≡ j
      kind_same k j e = cc

  pub link_depends : (t : Told) → Contains (links_told tree.entries) t → (kind : DependencyKind) × (t.link ≡ Depends kind)
  link_depends t c = let r = links_out t c in (r.kind, sym (ap (λ (t : Told). t.link) r.is))
