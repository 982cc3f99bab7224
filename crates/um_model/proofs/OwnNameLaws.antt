-- A unit says the same by its own name, so the dependencies and the order of known units don't depend on the other names that are known.
use Rattle.std.proofs.Common.{◌≡◌, ◌⊎◌, ◌∙◌, ℕ, zero, suc, Bool, true, false, cond, List, [], ◌∷◌, Option, Some, None, refl, sym, ap, inl, inr}
use Rattle.std.specs.Option.{option_map_or}
use Rattle.std.proofs.lemmas.Option.{none-some, same_Some}
use Rattle.std.proofs.lemmas.Slice.Eq.{bytes_eq-Decides}
use Rattle.std.specs.Str.{bytes_eq}
use Rattle.um_model.specs.Dependencies.{loadable_of, loadable_in, has_defaults, Gives, Declares, IsKnown, Depends, IsDeclared, PullsIn, Orders, Precedes}
use Rattle.um_model.specs.Dependencies as model
use Rattle.um_model.specs.Names.{is_template, is_unit_name, instance_of, suffix_of, suffix_text_of}
use Rattle.um_model.specs.Profiles.{ReadTree}
use Rattle.um_model.specs.Reached.{first, next}
use Rattle.um_model.specs.Resolution.{Resolution, AtFile, AtNoFile, AtMask, Nowhere, held, is_mask, is_of_same_type, is_served_type, shutdown_target, next_name, resolution_at, resolved, hop_limit, resolution_of, unit_in_target, with_instance_of}
use Rattle.um_model.specs.Tree.{Tree, Entry, File, Link}
use Rattle.um_model.specs.Units.{LoadedUnit, Loading, Found, Masked, NotFound, BadSetting, assignments_in, reason_of, unit_by, loading_at, sources_at, load, name_in, named_at, unit_named}
use Rattle.um_model.specs.declared.dependencies.DependencyKind.{DependencyKind}
use Rattle.um_model.specs.declared.dependencies.DependencyKind.TheVariants as kinds
use Rattle.um_model.specs.declared.names.Suffix.{Suffix}
use Rattle.um_model.proofs.Forms.{found_unless, of_same_type}
use Rattle.um_model.proofs.NamesLaws.{suffix_of-append}

-- ---- a unit's own name leads where each name leads that leads to the unit

suffix_of_text : (type : Option Suffix) → suffix_of (suffix_text_of type) ≡ type
unfolding suffix_of
suffix_of_text None = refl
suffix_of_text (Some suffix) = suffix_of-append [] suffix

same_type : (unit other : List ℕ) → is_of_same_type unit other ≡ true → suffix_of unit ≡ suffix_of other
same_type unit other same =
    sym (suffix_of_text (suffix_of unit))
    ∙ (ap suffix_of ((bytes_eq-Decides (suffix_text_of (suffix_of unit)) (suffix_text_of (suffix_of other))).0 same) ∙ suffix_of_text (suffix_of other))

-- the unit has the given name, or a unit name
abbrev pub AskedOrName : List ℕ → List ℕ → Type 0
AskedOrName asked unit = (unit ≡ asked) ⊎ (is_unit_name unit ≡ true)

-- a unit to which the given name leads has that name's type; its own name leads to the same in any number of hops, and is the given name or a unit name
record Stays (tree : Tree) (asked unit : List ℕ) (r : Resolution) : Type 0 where
  type : suffix_of asked ≡ suffix_of unit
  stays : (hops : ℕ) → resolved hops tree unit ≡ r
  is_name : AskedOrName asked unit

-- so does the unit to which a name leads, if there is one
abbrev Returns : Tree → List ℕ → Resolution → Type 0
Returns tree asked (AtFile unit path text) = Stays tree asked unit (AtFile unit path text)
Returns tree asked (AtNoFile unit) = Stays tree asked unit (AtNoFile unit)
Returns tree asked (AtMask unit) = Stays tree asked unit (AtMask unit)
Returns tree asked Nowhere = Unit {0}

-- a hop leads on to a unit name of the same type
stays_before : (tree : Tree) (asked other unit : List ℕ) (r : Resolution) → suffix_of asked ≡ suffix_of other → is_unit_name other ≡ true → Stays tree other unit r → Stays tree asked unit r
stays_before tree asked other unit r same named s = record { type = same ∙ s.type; stays = s.stays; is_name = inr (by_name s.is_name) }
  where
    by_name : AskedOrName other unit → is_unit_name unit ≡ true
    by_name (inl is) = ap is_unit_name is ∙ named
    by_name (inr is) = is

returns_before : (tree : Tree) (asked other : List ℕ) (r : Resolution) → suffix_of asked ≡ suffix_of other → is_unit_name other ≡ true → Returns tree other r → Returns tree asked r
returns_before tree asked other (AtFile unit path text) same named s = stays_before tree asked other unit (AtFile unit path text) same named s
returns_before tree asked other (AtNoFile unit) same named s = stays_before tree asked other unit (AtNoFile unit) same named s
returns_before tree asked other (AtMask unit) same named s = stays_before tree asked other unit (AtMask unit) same named s
returns_before tree asked other Nowhere same named s = tt

module _ (tree : Tree) (unit : List ℕ) where
  -- the entry that holds the unit leads there, wherever its hops go on
  stays_by : (o : Option (List ℕ × Entry)) (r : Resolution) → held tree unit ≡ o → ((follow : List ℕ → Resolution) → resolution_at unit o follow ≡ r) → Stays tree unit unit r
  stays_by o r at leads = record { type = refl; stays = by_hops; is_name = inl refl }
    where
      by_hops : (hops : ℕ) → resolved hops tree unit ≡ r
      by_hops zero = ap (λ x. resolution_at unit x (λ other. Nowhere)) at ∙ leads (λ other. Nowhere)
      by_hops (suc hops) = ap (λ x. resolution_at unit x (resolved hops tree)) at ∙ leads (resolved hops tree)

  module _ (follow : List ℕ → Resolution) (later : (other : List ℕ) → Returns tree other (follow other)) where
    at_nothing : (b : Bool) → held tree unit ≡ None → bytes_eq unit shutdown_target ≡ b → Returns tree unit (cond b (AtNoFile unit) Nowhere)
    at_nothing true at needs = stays_by None (AtNoFile unit) at (λ further. ap (λ b. cond b (AtNoFile unit) Nowhere) needs)
    at_nothing false at needs = tt

    at_other : (other : List ℕ) (b : Bool) → is_unit_name other ≡ true → is_of_same_type unit other ≡ b → Returns tree unit (option_map_or follow (cond b (Some other) None) Nowhere)
    at_other other true named same = returns_before tree unit other (follow other) (same_type unit other same) named (later other)
    at_other other false named same = tt

    at_next : (other : List ℕ) (b : Bool) → is_unit_name other ≡ b → Returns tree unit (option_map_or follow (of_same_type unit (cond b (Some other) None)) Nowhere)
    at_next other true named = at_other other (is_of_same_type unit other) named refl
    at_next other false named = tt

    at_link : (path target : List ℕ) (b : Bool) → held tree unit ≡ Some (path, Link target) → is_mask target ≡ b
        → Returns tree unit (cond b (AtMask unit) (option_map_or follow (next_name unit target) Nowhere))
    at_link path target true at mask =
        stays_by (Some (path, Link target)) (AtMask unit) at (λ further. ap (λ b. cond b (AtMask unit) (option_map_or further (next_name unit target) Nowhere)) mask)
    at_link path target false at mask = at_next (with_instance_of (instance_of unit) (unit_in_target target)) _ refl

    returns_at : (o : Option (List ℕ × Entry)) → held tree unit ≡ o → Returns tree unit (resolution_at unit o follow)
    returns_at None at = at_nothing (bytes_eq unit shutdown_target) at refl
    returns_at (Some (path, File [])) at = stays_by (Some (path, File [])) (AtMask unit) at (λ further. refl)
    returns_at (Some (path, File (b ∷ bs))) at = stays_by (Some (path, File (b ∷ bs))) (AtFile unit path (b ∷ bs)) at (λ further. refl)
    returns_at (Some (path, Link target)) at = at_link path target (is_mask target) at refl

returns : (hops : ℕ) (tree : Tree) (unit : List ℕ) → Returns tree unit (resolved hops tree unit)
returns zero tree unit = returns_at tree unit (λ other. Nowhere) (λ other. tt) (held tree unit) refl
returns (suc hops) tree unit = returns_at tree unit (resolved hops tree) (returns hops tree) (held tree unit) refl

-- the unit's own name leads to the same in all hops that are allowed, and is the given name or a unit name
record OwnName (tree : Tree) (asked unit : List ℕ) (r : Resolution) : Type 0 where
  leads : resolution_of tree unit ≡ r
  is_name : AskedOrName asked unit

-- the unit to which the given name leads, if it leads to one, has such an own name
abbrev HasOwn : Tree → List ℕ → Resolution → Type 0
HasOwn tree asked (AtFile unit path text) = OwnName tree asked unit (AtFile unit path text)
HasOwn tree asked (AtNoFile unit) = OwnName tree asked unit (AtNoFile unit)
HasOwn tree asked (AtMask unit) = OwnName tree asked unit (AtMask unit)
HasOwn tree asked Nowhere = Unit {0}

own_stays : (tree : Tree) (asked unit : List ℕ) (r : Resolution) → is_served_type (suffix_of asked) ≡ true → Stays tree asked unit r → OwnName tree asked unit r
unfolding resolution_of
own_stays tree asked unit r served s = record {
  leads = ap (λ b. cond b (resolved hop_limit tree unit) Nowhere) (sym (ap is_served_type s.type) ∙ served) ∙ s.stays hop_limit;
  is_name = s.is_name;
}

own_returns : (tree : Tree) (asked : List ℕ) (r : Resolution) → is_served_type (suffix_of asked) ≡ true → Returns tree asked r → HasOwn tree asked r
own_returns tree asked (AtFile unit path text) served s = own_stays tree asked unit (AtFile unit path text) served s
own_returns tree asked (AtNoFile unit) served s = own_stays tree asked unit (AtNoFile unit) served s
own_returns tree asked (AtMask unit) served s = own_stays tree asked unit (AtMask unit) served s
own_returns tree asked Nowhere served s = tt

own_resolution : (tree : Tree) (asked : List ℕ) → HasOwn tree asked (resolution_of tree asked)
unfolding resolution_of
own_resolution tree asked = by_type (is_served_type (suffix_of asked)) refl
  where
    by_type : (b : Bool) → is_served_type (suffix_of asked) ≡ b → HasOwn tree asked (cond b (resolved hop_limit tree asked) Nowhere)
    by_type true served = own_returns tree asked (resolved hop_limit tree asked) served (returns hop_limit tree asked)
    by_type false unserved = tt

name_by_reason : (asked : List ℕ) (u : LoadedUnit) (reason : Option (List ℕ)) → name_in asked (found_unless reason u) ≡ u.name
name_by_reason asked u None = refl
name_by_reason asked u (Some reason) = refl

name_at_file : (tree : ReadTree) (asked unit path text : List ℕ) → name_in asked (loading_at tree (AtFile unit path text)) ≡ unit
name_at_file tree asked unit path text =
    let sources = sources_at tree.entries (AtFile unit path text) in
    name_by_reason asked (unit_by tree.profile unit (Some path) sources) (reason_of tree.profile unit (assignments_in (suffix_of unit) sources))

-- the name that counts is that of the unit that was found
pub named_by_loading : (tree : ReadTree) (asked : List ℕ) → unit_named tree.entries asked ≡ name_in asked (load tree asked)
unfolding load
named_by_loading tree asked = by_resolution (resolution_of tree.entries asked)
  where
    by_resolution : (r : Resolution) → named_at asked r ≡ name_in asked (loading_at tree r)
    by_resolution (AtFile unit path text) = sym (name_at_file tree asked unit path text)
    by_resolution (AtNoFile unit) = refl
    by_resolution (AtMask unit) = refl
    by_resolution Nowhere = refl

-- the name that counts for a given name is that name or a unit name
pub named_or_asked : (tree : Tree) (asked : List ℕ) → AskedOrName asked (unit_named tree asked)
named_or_asked tree asked = by_resolution (resolution_of tree asked) (own_resolution tree asked)
  where
    by_resolution : (r : Resolution) → HasOwn tree asked r → AskedOrName asked (named_at asked r)
    by_resolution (AtFile unit path text) own = own.is_name
    by_resolution (AtNoFile unit) own = own.is_name
    by_resolution (AtMask unit) own = own.is_name
    by_resolution Nowhere own = inl refl

-- a unit that is found is found by its own name
pub found_by_own : (tree : ReadTree) (asked : List ℕ) (l : LoadedUnit) → load tree asked ≡ Found l → load tree l.name ≡ Found l
unfolding load
found_by_own tree asked l found = by_resolution (resolution_of tree.entries asked) (own_resolution tree.entries asked) found
  where
    by_own : (unit : List ℕ) (r : Resolution) → name_in asked (loading_at tree r) ≡ unit → OwnName tree.entries asked unit r → loading_at tree r ≡ Found l
        → loading_at tree (resolution_of tree.entries l.name) ≡ Found l
    by_own unit r named own is = ap (loading_at tree) (ap (resolution_of tree.entries) (sym (ap (name_in asked) is) ∙ named) ∙ own.leads) ∙ is

    by_resolution : (r : Resolution) → HasOwn tree.entries asked r → loading_at tree r ≡ Found l → loading_at tree (resolution_of tree.entries l.name) ≡ Found l
    by_resolution (AtFile unit path text) own is = by_own unit (AtFile unit path text) (name_at_file tree asked unit path text) own is
    by_resolution (AtNoFile unit) own is = by_own unit (AtNoFile unit) refl own is
    by_resolution (AtMask unit) own is = cc
    by_resolution Nowhere own is = cc

-- a unit that can be loaded is found
pub loadable_found : (o : Loading) (l : LoadedUnit) → loadable_of o ≡ Some l → o ≡ Found l
loadable_found (Found u) l loadable = by_template (is_template u.name) loadable
  where
    by_template : (b : Bool) → cond b None (Some u) ≡ Some l → Found u ≡ Found l
    by_template true none = absurd (none-some l none)
    by_template false is = ap Found (same_Some u l is)
loadable_found (Masked unit) l loadable = absurd (none-some l loadable)
loadable_found NotFound l loadable = absurd (none-some l loadable)
loadable_found (BadSetting unit reason) l loadable = absurd (none-some l loadable)

-- and if it can be loaded, it can by its own name
pub loadable_by_own : (tree : ReadTree) (asked : List ℕ) (l : LoadedUnit) → loadable_in tree asked ≡ Some l → loadable_in tree l.name ≡ Some l
loadable_by_own tree asked l loadable =
    let found = loadable_found (load tree asked) l loadable in
    ap loadable_of (found_by_own tree asked l found ∙ sym found) ∙ loadable

-- its name counts for each name that leads to it
pub name_of_loadable : (tree : ReadTree) (asked : List ℕ) (l : LoadedUnit) → loadable_in tree asked ≡ Some l → unit_named tree.entries asked ≡ l.name
name_of_loadable tree asked l loadable = named_by_loading tree asked ∙ ap (name_in asked) (loadable_found (load tree asked) l loadable)

-- ---- the statements of a known unit, whatever else is known

module _ (tree : ReadTree) (Other Extra : List ℕ → Type 0) where
  gives_anyhow : (name : List ℕ) (kind : DependencyKind) (x y : List ℕ) → IsKnown tree Extra x → Gives tree name kind x y
      → (own : List ℕ) × IsKnown tree Extra own × Gives tree own kind x y
  gives_anyhow name _ _ _ known (model.said {l = l} loadable names) = (l.name, known, model.said (loadable_by_own tree name l loadable) names)
  gives_anyhow name _ _ _ known (model.linked links) = (name, first (model.holder links), model.linked links)
  gives_anyhow name _ _ _ known (model.ends {l = l} loadable defaults) = (l.name, known, model.ends (loadable_by_own tree name l loadable) defaults)

  -- a known unit depends on each unit on which it depends when other names are known
  pub depends_by_known : (kind : DependencyKind) (x y : List ℕ) → IsKnown tree Extra x → Depends tree Other kind x y → Depends tree Extra kind x y
  depends_by_known kind x y known d =
      let own = gives_anyhow d.name kind x y known d.gives in
      record { name = own.0; known = own.1; gives = own.2; apart = d.apart }

  -- so does one known unit on another
  pub depends_anyhow : (kind : DependencyKind) (x y : List ℕ) → IsKnown tree Extra x → IsKnown tree Extra y → Depends tree Other kind x y → Depends tree Extra kind x y
  depends_anyhow kind x y known too d = depends_by_known kind x y known d

  declares_anyhow : (name x y : List ℕ) → IsKnown tree Extra x → IsKnown tree Extra y → Declares tree name x y → (own : List ℕ) × IsKnown tree Extra own × Declares tree own x y
  declares_anyhow name _ _ known too (model.precedes {l = l} loadable names) = (l.name, known, model.precedes (loadable_by_own tree name l loadable) names)
  declares_anyhow name _ _ known too (model.follows {l = l} loadable names) = (l.name, too, model.follows (loadable_by_own tree name l loadable) names)

  -- of two known units the one is declared before the other if it is when other names are known
  pub declared_anyhow : (x y : List ℕ) → IsKnown tree Extra x → IsKnown tree Extra y → IsDeclared tree Other x y → IsDeclared tree Extra x y
  declared_anyhow x y known too d =
      let own = declares_anyhow d.name x y known too d.declares in
      record { name = own.0; known = own.1; declares = own.2 }

  ending_anyhow : (a : List ℕ) (l : LoadedUnit) → IsKnown tree Extra l.name → loadable_in tree a ≡ Some l → has_defaults l ≡ true → Orders tree Extra l.name (unit_named tree.entries shutdown_target)
  ending_anyhow a l known loadable defaults = model.ending known (loadable_by_own tree a l loadable) defaults

-- both units of which one pulls the other in are known
pulled_known : (tree : ReadTree) (Extra : List ℕ → Type 0) (x y : List ℕ) → PullsIn tree Extra x y → IsKnown tree Extra x × IsKnown tree Extra y
pulled_known tree Extra x y p = known_by p.depends
  where
    both : (kind : DependencyKind) → Depends tree Extra kind x y → IsKnown tree Extra x × IsKnown tree Extra y
    both kind d = (next d.known (model.owner d.gives), next d.known (model.other d.gives))

    known_by : Depends tree Extra kinds.Wants x y ⊎ Depends tree Extra kinds.Requires x y → IsKnown tree Extra x × IsKnown tree Extra y
    known_by (inl d) = both kinds.Wants d
    known_by (inr d) = both kinds.Requires d

module _ (tree : ReadTree) (Other Extra : List ℕ → Type 0) where
  pulled_anyhow : (x y : List ℕ) → IsKnown tree Extra x → PullsIn tree Other x y → PullsIn tree Extra x y
  pulled_anyhow x y known p = record {
    target = p.target;
    depends = pulled p.depends;
    accepts = p.accepts;
    too = p.too;
  }
    where
      pulled : Depends tree Other kinds.Wants x y ⊎ Depends tree Other kinds.Requires x y → Depends tree Extra kinds.Wants x y ⊎ Depends tree Extra kinds.Requires x y
      pulled (inl d) = inl (depends_by_known tree Other Extra kinds.Wants x y known d)
      pulled (inr d) = inr (depends_by_known tree Other Extra kinds.Requires x y known d)

  orders_anyhow : (x y : List ℕ) → IsKnown tree Extra x → IsKnown tree Extra y → Orders tree Other x y → Orders tree Extra x y
  orders_anyhow x y known too (model.declared d) = model.declared (declared_anyhow tree Other Extra x y known too d)
  orders_anyhow y x known too (model.pulled_in p isnt) =
      model.pulled_in (pulled_anyhow x y too p)
      (λ d. isnt (declared_anyhow tree Extra Other x y (pulled_known tree Other x y p).0 (pulled_known tree Other x y p).1 d))
  orders_anyhow _ _ known too (model.ending {a = a} {l = l} other loadable defaults) = ending_anyhow tree Other Extra a l known loadable defaults

  -- of two known units the one goes before the other if it does when other names are known
  pub precedes_anyhow : (x y : List ℕ) → IsKnown tree Extra x → IsKnown tree Extra y → Precedes tree Other x y → Precedes tree Extra x y
  precedes_anyhow x y known too p = record { orders = orders_anyhow x y known too p.orders; apart = p.apart }
