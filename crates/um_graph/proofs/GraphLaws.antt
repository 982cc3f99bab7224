-- The units joined by all relations found are the graph of the tree.
use Rattle.std.proofs.Common.{◌≡◌, ◌≢◌, ◌⊎◌, ◌∙◌, ◌↔◌, ◌<◌, ◌≤◌, ◌&&◌, ℕ, zero, suc, Bool, true, false, not, List, [], ◌∷◌, length, map, get_or, All, AllPairs, Contains, Option, Some, None, option_map, slice_get, Ordering, refl, sym, ap, subst, inl, inr, arith}
use Rattle.std.specs.BTreeMap as tied
use Rattle.std.specs.Cmp.Lexicographic.{slice_cmp, nat_list_cmp_total}
use Rattle.std.specs.List.{flat_map}
use Rattle.std.specs.Map.{keys_of, values_of}
use Rattle.std.specs.Ordering.{nat_cmp}
use Rattle.std.proofs.lemmas.Bool.{and_parts, cases_lt}
use Rattle.std.proofs.lemmas.List.{length-map}
use Rattle.std.proofs.lemmas.List.Elements.{All-map, Contains-get_or, Contains-append_left, Contains-append_right, Contains-append_cases}
use Rattle.std.proofs.lemmas.Map.Entries.{btree_map_get_place}
use Rattle.std.proofs.lemmas.Map.Keys.{Less-from_sorted}
use Rattle.std.proofs.lemmas.Map.Lookups.{exact_bytes}
use Rattle.std.proofs.lemmas.Map.Views.{btree_map_contains_key_iff}
use Rattle.std.proofs.lemmas.Option.{slice_get-get_or, slice_get-map}
use Rattle.um_model.specs.Profiles.{ReadTree}
use Rattle.um_model.specs.Dependencies.{Declares, Declines, Depends as DependsOn, Gives, IsDeclared, IsKnown, KnowsTooMany, Orders, Precedes, PullsIn, loadable_in, loadable_of, unit_limit}
use Rattle.um_model.specs.Resolution.{shutdown_target}
use Rattle.um_model.specs.Dependencies as model
use Rattle.um_model.specs.Least.{IsNamedBefore}
use Rattle.um_model.specs.Reached.{first}
use Rattle.um_model.specs.Tree.{Tree}
use Rattle.um_model.specs.Units.{LoadedUnit, load, unit_named}
use Rattle.um_model.specs.declared.dependencies.DependencyKind.{DependencyKind}
use Rattle.um_model.specs.declared.dependencies.DependencyKind.TheVariants as kinds
use Rattle.um_laws.proofs.KnownLaws.{target_suffix}
use Rattle.um_model.specs.Names.{is_target}
use Rattle.um_unit.specs.View.{loading_of}
use Rattle.um_graph.specs.Edges.{AreUnits, comes_after, comes_after_by, declines, declines_by, edge, edge_between, edge_bonds, edge_seen, edges_seen, names_of, number_in, order_seen, pair, pair_bonds, unit_seen}
use Rattle.um_graph.specs.Graph.{AreOnce, Holds, IsGraph, IsGraphOf, Stands, row_of}
use Rattle.um_graph.specs.Kinds.{after_bit, before_bit, bit_of, has, inverse_bit_of}
use Rattle.um_graph.specs.Known.{IsFollowed, IsTold, IsUnderWay, Loaded, by_link, by_unit}
use Rattle.um_graph.specs.Rows.{Bond, IsRow, Joins, entries_at, entries_of, found_or_new}
use Rattle.um_graph.specs.Tells.{tell}
use Rattle.um_graph.specs.View.{graph_of}
use Rattle.um_graph.specs.declared.row.Neighbour.{Neighbour}
use Rattle.um_graph.specs.declared.told.Link.{Link}
use Rattle.um_graph.specs.declared.told.Link.TheVariants.{Depends, Declared, Ending}
use Rattle.um_graph.specs.declared.told.Told.{Told}
use Rattle.um_graph.specs.declared.units.Edge.{Edge}
use Rattle.um_graph.specs.declared.units.Pair.{Pair}
use Rattle.um_graph.specs.declared.units.Unit.{Unit}
use Rattle.um_graph.proofs.BondLaws as bonds
use Rattle.um_graph.proofs.BondLaws.{FromEdge, FromOrder, FromPair, between_in, between_out, bit_small, edge_bond_out, inverse_between, order_out, pair_bond_out, same_inverse, same_kind}
use Rattle.um_graph.proofs.KnownLaws.{all_followed, gives_in}
use Rattle.um_graph.proofs.ListLaws.{contains_flat, flat_contains}
use Rattle.um_graph.proofs.NumberLaws.{not_before_itself, number_found, number_of}
use Rattle.um_graph.proofs.OnceLaws.{once_of}
use Rattle.um_graph.proofs.RowLaws.{kind_found, kind_held}
use Rattle.um_graph.proofs.TellLaws.{declares_told, ends_told, link_depends, link_gives, told_declares, told_ends, told_gives}

abbrev cmp : List ℕ → List ℕ → Ordering
cmp = slice_cmp nat_cmp

-- ---- units and their names
names_seen : (units : List Unit) → names_of units ≡ keys_of (map unit_seen units)
names_seen [] = refl
names_seen (u ∷ units) = ap (λ ns. u.name ∷ ns) (names_seen units)

-- in the order of their names
pub keys_ascend : (loaded : Loaded) → tied.IsOrdered cmp loaded → AllPairs IsNamedBefore (keys_of loaded.entries)
keys_ascend loaded o i j d lt le = Less-from_sorted cmp (keys_of loaded.entries) i j d o lt le

pub names_ascend : (loaded : Loaded) (units : List Unit) → map unit_seen units ≡ loaded.entries → tied.IsOrdered cmp loaded → AllPairs IsNamedBefore (names_of units)
names_ascend loaded units e o = subst (AllPairs IsNamedBefore) (sym (names_seen units ∙ ap keys_of e)) (keys_ascend loaded o)

pub row_seen : (units : List Unit) (x : ℕ) → row_of (map (λ (u : Unit). values_of u.row.neighbours.entries) units) x ≡ values_of (entries_of units x)
row_seen [] x = refl
row_seen (u ∷ units) zero = refl
row_seen (u ∷ units) (suc x) = row_seen units x

-- the unit of a number
unit_at : (units : List Unit) (i : ℕ) (x : List ℕ) → slice_get (names_of units) i ≡ Some x → (u : Unit) × (slice_get units i ≡ Some u) × (u.name ≡ x)
unit_at units i x e = by (slice_get units i) refl
  where
    whole : option_map (λ (u : Unit). u.name) (slice_get units i) ≡ Some x
    whole = sym (slice_get-map (λ (u : Unit). u.name) units i) ∙ e

    by : (o : Option Unit) → slice_get units i ≡ o → (u : Unit) × (slice_get units i ≡ Some u) × (u.name ≡ x)
    by None f = let no : option_map (λ (u : Unit). u.name) None ≡ Some x = ap (option_map (λ (u : Unit). u.name)) (sym f) ∙ whole in cc
    by (Some u) f = let yes : option_map (λ (u : Unit). u.name) (Some u) ≡ Some x = ap (option_map (λ (u : Unit). u.name)) (sym f) ∙ whole in (u, f, cc)

module _ (tree : ReadTree) (extra : List (List ℕ)) (loaded : Loaded) (told : List Told) (w : IsUnderWay tree extra loaded [] told) where
  abbrev Extra : List ℕ → Type 0
  Extra = Contains extra

  followed_iff : (x : List ℕ) → IsFollowed loaded x ↔ Contains (keys_of loaded.entries) x
  followed_iff x = btree_map_contains_key_iff nat_list_cmp_total exact_bytes loaded x

  -- the names that were followed are those of the known units
  pub keys_known : (x : List ℕ) → Contains (keys_of loaded.entries) x ↔ IsKnown tree Extra x
  keys_known x = (λ c. w.known x (inl ((followed_iff x).1 c)), λ k. (followed_iff x).0 (all_followed tree extra loaded told w x k))

  -- ---- the relations, by the definitions
  depends_out : (kind : DependencyKind) (x y : List ℕ) → Contains told (tell (Depends kind) x y) → x ≢ y → DependsOn tree Extra kind x y
  depends_out kind x y c ne = by (w.sound (tell (Depends kind) x y) c)
    where
      by : IsTold tree extra (tell (Depends kind) x y) → DependsOn tree Extra kind x y
      by (by_unit a k d) = record { name = a; known = k; gives = told_gives tree a kind x y d; apart = ne }
      by (by_link d) = let g = link_gives tree kind x y d in record { name = g.0; known = first (g.1 Extra); gives = g.2; apart = ne }

  depends_in : (kind : DependencyKind) (x y : List ℕ) → DependsOn tree Extra kind x y → Contains told (tell (Depends kind) x y)
  depends_in kind x y d = gives_in tree extra loaded told w d.name (all_followed tree extra loaded told w d.name d.known) kind x y d.gives

  declared_out : (x y : List ℕ) → Contains told (tell Declared x y) → IsDeclared tree Extra x y
  declared_out x y c = by (w.sound (tell Declared x y) c)
    where
      by : IsTold tree extra (tell Declared x y) → IsDeclared tree Extra x y
      by (by_unit a k d) = record { name = a; known = k; declares = told_declares tree a x y d }
      by (by_link d) = let no : Declared ≡ Depends (link_depends tree (tell Declared x y) d).0 = (link_depends tree (tell Declared x y) d).1 in cc

  declared_in : (x y : List ℕ) → IsDeclared tree Extra x y → Contains told (tell Declared x y)
  declared_in x y d = w.whole d.name (all_followed tree extra loaded told w d.name d.known) (tell Declared x y) (declares_told tree d.name x y d.declares)

  ending_out : (x y : List ℕ) → Contains told (tell Ending x y) → Orders tree Extra x y
  ending_out x y c = by (w.sound (tell Ending x y) c)
    where
      by : IsTold tree extra (tell Ending x y) → Orders tree Extra x y
      by (by_unit a k d) =
          let e = told_ends tree a x y d in
          let o : Orders tree Extra e.unit.name (unit_named tree.entries shutdown_target) = model.ending k e.loadable e.defaults in
          subst (λ z. Orders tree Extra z y) e.first (subst (Orders tree Extra e.unit.name) e.second o)
      by (by_link d) = let no : Ending ≡ Depends (link_depends tree (tell Ending x y) d).0 = (link_depends tree (tell Ending x y) d).1 in cc

  module _ (units : List Unit) (a : AreUnits loaded told units) where
    abbrev start : List Unit
    start = a.start

    abbrev middle : List Unit
    middle = a.joined.middle

    abbrev edges : List Edge
    edges = edges_seen start told

    units_seen : map unit_seen units ≡ loaded.entries
    units_seen = a.joined.same ∙ a.seen

    middle_seen : map unit_seen middle ≡ loaded.entries
    middle_seen = a.joined.same_middle ∙ a.seen

    ascend : AllPairs IsNamedBefore (names_of units)
    ascend = names_ascend loaded units units_seen a.ordered

    start_ascend : AllPairs IsNamedBefore (names_of start)
    start_ascend = names_ascend loaded start a.seen a.ordered

    start_names : names_of start ≡ names_of units
    start_names = names_seen start ∙ (ap keys_of (a.seen ∙ sym units_seen) ∙ sym (names_seen units))

    middle_names : names_of middle ≡ names_of units
    middle_names = names_seen middle ∙ (ap keys_of (middle_seen ∙ sym units_seen) ∙ sym (names_seen units))

    known_iff : (x : List ℕ) → Contains (names_of units) x ↔ IsKnown tree Extra x
    known_iff x = (
      λ c. w.known x (inl ((followed_iff x).1 (subst (λ ns. Contains ns x) (names_seen units ∙ ap keys_of units_seen) c))),
      λ k. subst (λ ns. Contains ns x) (sym (names_seen units ∙ ap keys_of units_seen)) ((followed_iff x).0 (all_followed tree extra loaded told w x k)),
    )

    -- each unit is loaded under its name
    loads : (us : List Unit) → map unit_seen us ≡ loaded.entries → (i : ℕ) (u : Unit) → slice_get us i ≡ Some u → loading_of u.loading ≡ load tree u.name
    loads us e i u g =
        let place : slice_get loaded.entries i ≡ Some (unit_seen u) = ap (λ es. slice_get es i) (sym e) ∙ (slice_get-map unit_seen us i ∙ ap (option_map unit_seen) g) in
        w.loads u.name u.loading (btree_map_get_place nat_list_cmp_total loaded i u.name u.loading a.ordered place)

    loading_there : (i : ℕ) (x : List ℕ) → slice_get (names_of units) i ≡ Some x → option_map loading_of (slice_get (map (λ (u : Unit). u.loading) units) i) ≡ Some (load tree x)
    loading_there i x e =
        let r = unit_at units i x e in
        ap (option_map loading_of) (slice_get-map (λ (u : Unit). u.loading) units i ∙ ap (option_map (λ (u : Unit). u.loading)) r.1)
        ∙ ap Some (loads units units_seen i r.0 r.1 ∙ ap (load tree) r.2)

    -- ---- two units by their numbers
    module _ (i j : ℕ) (x y : List ℕ) (is : slice_get (names_of units) i ≡ Some x) (js : slice_get (names_of units) j ≡ Some y) where
      at_start : number_in (names_of start) x ≡ Some i
      at_start = number_of (names_of start) start_ascend i x (ap (λ ns. slice_get ns i) start_names ∙ is)

      at_start_other : number_in (names_of start) y ≡ Some j
      at_start_other = number_of (names_of start) start_ascend j y (ap (λ ns. slice_get ns j) start_names ∙ js)

      apart : x ≢ y → i ≢ j
      apart ne e = let same : Some x ≡ Some y = sym is ∙ (ap (slice_get (names_of units)) e ∙ js) in ne cc

      not_apart : i ≢ j → x ≢ y
      not_apart ne e = let same : Some i ≡ Some j = sym at_start ∙ (ap (number_in (names_of start)) e ∙ at_start_other) in ne cc

      pub edge_in : (link : Link) → x ≢ y → Contains told (tell link x y) → Contains edges (edge link i j)
      edge_in link ne c =
          contains_flat (edge_seen (names_of start)) told (tell link x y) (edge link i j) c
          (subst (λ o. Contains (edge_between link o (number_in (names_of start) y)) (edge link i j)) (sym at_start)
          (subst (λ p. Contains (edge_between link (Some i) p) (edge link i j)) (sym at_start_other) (between_in link i j (apart ne))))

      pub edge_out : (link : Link) → Contains edges (edge link i j) → Contains told (tell link x y) × (x ≢ y)
      edge_out link c =
          let r = flat_contains (edge_seen (names_of start)) told (edge link i j) c in
          let t = r.0 in
          let b = between_out t.link (number_in (names_of start) t.from) (number_in (names_of start) t.to) link i j r.2 in
          let from : Some t.from ≡ Some x = sym (number_found (names_of start) t.from i b.0) ∙ (ap (λ ns. slice_get ns i) start_names ∙ is) in
          let to : Some t.to ≡ Some y = sym (number_found (names_of start) t.to j b.1) ∙ (ap (λ ns. slice_get ns j) start_names ∙ js) in
          (subst (Contains told) (told_is t link x y b.2 (some_same t.from x from) (some_same t.to y to)) r.1, not_apart b.3)
        where
          some_same : (u v : List ℕ) → Some u ≡ Some v → u ≡ v
          some_same u v e = cc

          told_is : (t : Told) (link : Link) (x y : List ℕ) → t.link ≡ link → t.from ≡ x → t.to ≡ y → t ≡ tell link x y
          told_is t link x y a b c = λ k. record { link = a k; from = b k; to = c k }

      -- ---- the middle rows of x and y, when x wants or requires y
      declared_held : IsDeclared tree Extra x y → x ≢ y → Joins middle before_bit i j
      declared_held d ne = a.joined.first.whole before_bit i j (bonds.before_in edges i j (edge_in Declared ne (declared_in x y d)))

      held_declared : Joins middle before_bit i j → IsDeclared tree Extra x y
      held_declared h = by (edge_bond_out edges before_bit i j (a.joined.first.given before_bit i j h))
        where
          by : FromEdge edges before_bit i j → IsDeclared tree Extra x y
          by (bonds.forward kind e c) = absurd (omega (arith, e, bit_small kind))
          by (bonds.back kind e c) = absurd (omega (arith, e, inverse_between kind))
          by (bonds.before e c) = declared_out x y (edge_out Declared c).0
          by (bonds.after e c) = absurd (omega (arith, e))

      declines_is : (u : Unit) → slice_get middle i ≡ Some u → u.name ≡ x → declines u ≡ true ↔ Declines tree x
      declines_is u g n = (λ t. out (loadable_in tree x) refl (sym same ∙ t), λ d. same ∙ (ap declines_by d.1 ∙ ap not d.2))
        where
          same : declines u ≡ declines_by (loadable_in tree x)
          same = ap (λ l. declines_by (loadable_of l)) (loads middle middle_seen i u g ∙ ap (load tree) n)

          out : (o : Option LoadedUnit) → loadable_in tree x ≡ o → declines_by (loadable_in tree x) ≡ true → Declines tree x
          out None e t = let no : declines_by None ≡ true = ap declines_by (sym e) ∙ t in cc
          out (Some l) e t =
              let yes : not l.settings.dependencies.default_dependencies ≡ true = ap declines_by (sym e) ∙ t in
              (l, e, not_true l.settings.dependencies.default_dependencies yes)
            where
              not_true : (b : Bool) → not b ≡ true → b ≡ false
              not_true true h = cc
              not_true false h = refl

    -- ---- the target x comes after y
    module _ (i j : ℕ) (x y : List ℕ) (is : slice_get (names_of units) i ≡ Some x) (js : slice_get (names_of units) j ≡ Some y) where
      first_unit : (u : Unit) × (slice_get middle i ≡ Some u) × (u.name ≡ x)
      first_unit = unit_at middle i x (ap (λ ns. slice_get ns i) middle_names ∙ is)

      second_unit : (u : Unit) × (slice_get middle j ≡ Some u) × (u.name ≡ y)
      second_unit = unit_at middle j y (ap (λ ns. slice_get ns j) middle_names ∙ js)

      after_is : comes_after middle i j ≡ comes_after_by (Some first_unit.0) (Some second_unit.0) j
      after_is = ap (λ o. comes_after_by o (slice_get middle j) j) first_unit.1 ∙ ap (λ o. comes_after_by (Some first_unit.0) o j) second_unit.1

      row : IsRow (length middle) (entries_of middle i)
      row = a.joined.first.rows i

      entries_is : entries_of middle i ≡ first_unit.0.row.neighbours.entries
      entries_is = ap entries_at first_unit.1

      before_is : has before_bit (found_or_new first_unit.0.row.neighbours.entries j).kinds ≡ has before_bit (found_or_new (entries_of middle i) j).kinds
      before_is = ap (λ es. has before_bit (found_or_new es j).kinds) (sym entries_is)

      false_by : (b : Bool) → (b ≡ true → ⊥) → b ≡ false
      false_by true h = absurd (h refl)
      false_by false h = refl

      not_by : (b : Bool) → not b ≡ true → b ≡ true → ⊥
      not_by true h e = cc
      not_by false h e = cc

      after_out : x ≢ y → comes_after middle i j ≡ true → (is_target x ≡ true) × ¬ Declines tree x × ¬ Declines tree y × ¬ IsDeclared tree Extra x y
      after_out ne t =
          let u = first_unit.0 in
          let v = second_unit.0 in
          let p = and_parts (is_target u.name) _ (sym after_is ∙ t) in
          let q = and_parts (not (declines u)) _ p.1 in
          let r = and_parts (not (declines v)) _ q.1 in (
            sym (ap is_target first_unit.2) ∙ p.0,
            λ d. not_by (declines u) q.0 ((declines_is i j x y is js u first_unit.1 first_unit.2).1 d),
            λ d. not_by (declines v) r.0 ((declines_is j i y x js is v second_unit.1 second_unit.2).1 d),
            λ d. not_by _ r.1 (before_is ∙ kind_found (entries_of middle i) (length middle) row j before_bit (declared_held i j x y is js d ne)),
          )

      after_in : is_target x ≡ true → ¬ Declines tree x → ¬ Declines tree y → ¬ IsDeclared tree Extra x y → comes_after middle i j ≡ true
      after_in t dx dy nd =
          let u = first_unit.0 in
          let v = second_unit.0 in
          let one : is_target u.name ≡ true = ap is_target first_unit.2 ∙ t in
          let two : declines u ≡ false = false_by (declines u) (λ e. dx ((declines_is i j x y is js u first_unit.1 first_unit.2).0 e)) in
          let three : declines v ≡ false = false_by (declines v) (λ e. dy ((declines_is j i y x js is v second_unit.1 second_unit.2).0 e)) in
          let four : has before_bit (found_or_new u.row.neighbours.entries j).kinds ≡ false =
          false_by _ (λ e. nd (held_declared i j x y is js (kind_held (entries_of middle i) (length middle) row j before_bit (sym before_is ∙ e)))) in
          after_is ∙ (ap (λ b. b && (not (declines u) && (not (declines v) && not (has before_bit (found_or_new u.row.neighbours.entries j).kinds)))) one
          ∙ (ap (λ b. not b && (not (declines v) && not (has before_bit (found_or_new u.row.neighbours.entries j).kinds))) two
          ∙ (ap (λ b. not b && not (has before_bit (found_or_new u.row.neighbours.entries j).kinds)) three ∙ ap not four)))

    -- ---- the rows
    abbrev orders : List Pair
    orders = flat_map (order_seen middle) edges

    abbrev edge_part : List Bond
    edge_part = flat_map edge_bonds edges

    abbrev order_part : List Bond
    order_part = flat_map pair_bonds orders

    joins_out : (bit i j : ℕ) → Joins units bit i j → FromEdge edges bit i j ⊎ FromPair orders bit i j
    joins_out bit i j h = elim (Contains-append_cases edge_part order_part (bit, i, j) (a.joined.rows.given bit i j h)) as (λ _. FromEdge edges bit i j ⊎ FromPair orders bit i j) [
      | inl c ↦ inl (edge_bond_out edges bit i j c)
      | inr c ↦ inr (pair_bond_out orders bit i j c)
    ]

    by_edges : (bit i j : ℕ) → Contains edge_part (bit, i, j) → Joins units bit i j
    by_edges bit i j c = a.joined.rows.whole bit i j (Contains-append_left edge_part order_part (bit, i, j) c)

    by_orders : (bit i j : ℕ) → Contains order_part (bit, i, j) → Joins units bit i j
    by_orders bit i j c = a.joined.rows.whole bit i j (Contains-append_right edge_part order_part (bit, i, j) c)

    depends_iff : (kind : DependencyKind) (i j : ℕ) → Joins units (bit_of kind) i j ↔ Contains edges (edge (Depends kind) i j)
    depends_iff kind i j = (λ h. out (joins_out (bit_of kind) i j h), λ c. by_edges (bit_of kind) i j (bonds.forward_in edges i j kind c))
      where
        out : FromEdge edges (bit_of kind) i j ⊎ FromPair orders (bit_of kind) i j → Contains edges (edge (Depends kind) i j)
        out (inl (bonds.forward k e c)) = subst (λ m. Contains edges (edge (Depends m) i j)) (same_kind k kind e) c
        out (inl (bonds.back k e c)) = absurd (omega (arith, e, bit_small kind, inverse_between k))
        out (inl (bonds.before e c)) = absurd (omega (arith, e, bit_small kind))
        out (inl (bonds.after e c)) = absurd (omega (arith, e, bit_small kind))
        out (inr (bonds.first e c)) = absurd (omega (arith, e, bit_small kind))
        out (inr (bonds.second e c)) = absurd (omega (arith, e, bit_small kind))

    needed_iff : (kind : DependencyKind) (i j : ℕ) → Joins units (inverse_bit_of kind) i j ↔ Contains edges (edge (Depends kind) j i)
    needed_iff kind i j = (λ h. out (joins_out (inverse_bit_of kind) i j h), λ c. by_edges (inverse_bit_of kind) i j (bonds.back_in edges j i kind c))
      where
        out : FromEdge edges (inverse_bit_of kind) i j ⊎ FromPair orders (inverse_bit_of kind) i j → Contains edges (edge (Depends kind) j i)
        out (inl (bonds.forward k e c)) = absurd (omega (arith, e, bit_small k, inverse_between kind))
        out (inl (bonds.back k e c)) = subst (λ m. Contains edges (edge (Depends m) j i)) (same_inverse k kind e) c
        out (inl (bonds.before e c)) = absurd (omega (arith, e, inverse_between kind))
        out (inl (bonds.after e c)) = absurd (omega (arith, e, inverse_between kind))
        out (inr (bonds.first e c)) = absurd (omega (arith, e, inverse_between kind))
        out (inr (bonds.second e c)) = absurd (omega (arith, e, inverse_between kind))

    -- by an edge or by the order that follows
    Goes : ℕ → ℕ → Type 0
    Goes i j = Contains edges (edge Declared i j) ⊎ Contains orders (pair i j)

    before_iff : (i j : ℕ) → Joins units before_bit i j ↔ Goes i j
    unfolding Goes
    before_iff i j = (λ h. out (joins_out before_bit i j h), back)
      where
        out : FromEdge edges before_bit i j ⊎ FromPair orders before_bit i j → Goes i j
        out (inl (bonds.forward k e c)) = absurd (omega (arith, e, bit_small k))
        out (inl (bonds.back k e c)) = absurd (omega (arith, e, inverse_between k))
        out (inl (bonds.before e c)) = inl c
        out (inl (bonds.after e c)) = absurd (omega (arith, e))
        out (inr (bonds.first e c)) = inr c
        out (inr (bonds.second e c)) = absurd (omega (arith, e))

        back : Goes i j → Joins units before_bit i j
        back (inl c) = by_edges before_bit i j (bonds.before_in edges i j c)
        back (inr c) = by_orders before_bit i j (bonds.first_in orders i j c)

    after_iff : (i j : ℕ) → Joins units after_bit i j ↔ Goes j i
    unfolding Goes
    after_iff i j = (λ h. out (joins_out after_bit i j h), back)
      where
        out : FromEdge edges after_bit i j ⊎ FromPair orders after_bit i j → Goes j i
        out (inl (bonds.forward k e c)) = absurd (omega (arith, e, bit_small k))
        out (inl (bonds.back k e c)) = absurd (omega (arith, e, inverse_between k))
        out (inl (bonds.before e c)) = absurd (omega (arith, e))
        out (inl (bonds.after e c)) = inl c
        out (inr (bonds.first e c)) = absurd (omega (arith, e))
        out (inr (bonds.second e c)) = inr c

        back : Goes j i → Joins units after_bit i j
        back (inl c) = by_edges after_bit i j (bonds.after_in edges j i c)
        back (inr c) = by_orders after_bit i j (bonds.second_in orders j i c)

    -- ---- the order
    order_in : (x y : List ℕ) → Orders tree Extra x y → (i j : ℕ) → slice_get (names_of units) i ≡ Some x → slice_get (names_of units) j ≡ Some y → x ≢ y → Goes i j
    unfolding Goes
    order_in x y (model.declared d) i j is js ne = inl (edge_in i j x y is js Declared ne (declared_in x y d))
    order_in x y (model.pulled_in p nd) i j is js ne =
        inr (pulled p.depends)
      where
        pulled_by : (kind : DependencyKind) → (kind ≡ kinds.Wants) ⊎ (kind ≡ kinds.Requires) → DependsOn tree Extra kind y x → Contains (flat_map (order_seen middle) edges) (pair i j)
        pulled_by kind k d =
            bonds.pulls_in middle edges i j kind k (edge_in j i y x js is (Depends kind) (λ e. ne (sym e)) (depends_in kind y x d)) (after_in j i y x js is ((target_suffix y).1 p.target) p.accepts p.too nd)

        pulled : DependsOn tree Extra kinds.Wants y x ⊎ DependsOn tree Extra kinds.Requires y x → Contains (flat_map (order_seen middle) edges) (pair i j)
        pulled (inl d) = pulled_by kinds.Wants (inl refl) d
        pulled (inr d) = pulled_by kinds.Requires (inr refl) d
    order_in _ _ (model.ending {a = n} {l = l} k h d) i j is js ne =
        inr (bonds.ends_in middle edges i j (edge_in i j l.name (unit_named tree.entries shutdown_target) is js Ending ne
        (w.whole n (all_followed tree extra loaded told w n k) (tell Ending l.name (unit_named tree.entries shutdown_target)) (ends_told tree n l h d))))

    precedes_iff : (i j : ℕ) (x y : List ℕ) → slice_get (names_of units) i ≡ Some x → slice_get (names_of units) j ≡ Some y → Goes i j ↔ Precedes tree Extra x y
    unfolding Goes
    precedes_iff i j x y is js = (out, λ p. order_in x y p.orders i j is js p.apart)
      where
        either : (kind : DependencyKind) → (kind ≡ kinds.Wants) ⊎ (kind ≡ kinds.Requires) → DependsOn tree Extra kind y x → DependsOn tree Extra kinds.Wants y x ⊎ DependsOn tree Extra kinds.Requires y x
        either kind (inl is) d = inl (subst (λ k. DependsOn tree Extra k y x) is d)
        either kind (inr is) d = inr (subst (λ k. DependsOn tree Extra k y x) is d)

        pulled : FromOrder middle edges i j → Precedes tree Extra x y
        pulled (bonds.ends c) = let e = edge_out i j x y is js Ending c in record { orders = ending_out x y e.0; apart = e.1 }
        pulled (bonds.pulls kind k c t) =
            let e = edge_out j i y x js is (Depends kind) c in
            let f = after_out j i y x js is e.1 t in
            let p : PullsIn tree Extra y x = record { target = (target_suffix y).0 f.0; depends = either kind k (depends_out kind y x e.0 e.1); accepts = f.1; too = f.2 } in
            record { orders = model.pulled_in p f.3; apart = λ q. e.1 (sym q) }

        out : Goes i j → Precedes tree Extra x y
        out (inl c) = let e = edge_out i j x y is js Declared c in record { orders = model.declared (declared_out x y e.0); apart = e.1 }
        out (inr c) = pulled (order_out middle edges i j c)

    -- ---- the graph
    rows_within : All (All (λ (n : Neighbour). n.unit < length (names_of units))) (map (λ (u : Unit). values_of u.row.neighbours.entries) units)
    rows_within = All-map (All (λ (n : Neighbour). n.unit < length (names_of units))) (λ (u : Unit). values_of u.row.neighbours.entries) units (λ k d lt.
        let r = a.joined.rows.rows k in
        let here : entries_of units k ≡ (get_or units k d).row.neighbours.entries = ap entries_at (slice_get-get_or units k d lt) in
        let long : length units ≡ length (names_of units) = sym (length-map units (λ (u : Unit). u.name)) in
        subst (λ es. All (λ (n : Neighbour). n.unit < length (names_of units)) (values_of es)) here
        (All-map (λ (n : Neighbour). n.unit < length (names_of units)) (λ (e : ℕ × Neighbour). e.1) (entries_of units k)
        (λ m e within. subst (λ z. (get_or (entries_of units k) m e).1.unit < z) long (subst (λ z. z < length units) (r.keyed m e within) (r.within m e within)))))

    rows_long : length (map (λ (u : Unit). values_of u.row.neighbours.entries) units) ≡ length (names_of units)
    rows_long = length-map units (λ (u : Unit). values_of u.row.neighbours.entries) ∙ sym (length-map units (λ (u : Unit). u.name))

    stands_out : (bit i j : ℕ) → Stands (map (λ (u : Unit). values_of u.row.neighbours.entries) units) bit i j → Joins units bit i j
    stands_out bit i j h = subst (λ ns. Holds ns bit j) (row_seen units i) h

    stands_in : (bit i j : ℕ) → Joins units bit i j → Stands (map (λ (u : Unit). values_of u.row.neighbours.entries) units) bit i j
    stands_in bit i j h = subst (λ ns. Holds ns bit j) (sym (row_seen units i)) h

    pub graph_is : (count : ℕ) → IsGraphOf tree Extra (graph_of units count)
    graph_is count = record {
      known = known_iff;
      sorted = ascend;
      loaded = loading_there;
      depends = λ kind i j x y is js. (
        λ h. let e = edge_out i j x y is js (Depends kind) ((depends_iff kind i j).0 (stands_out (bit_of kind) i j h)) in depends_out kind x y e.0 e.1,
        λ d. stands_in (bit_of kind) i j ((depends_iff kind i j).1 (edge_in i j x y is js (Depends kind) d.apart (depends_in kind x y d))),
      );
      needed = λ kind i j x y is js. (
        λ h. let e = edge_out j i y x js is (Depends kind) ((needed_iff kind i j).0 (stands_out (inverse_bit_of kind) i j h)) in depends_out kind y x e.0 e.1,
        λ d. stands_in (inverse_bit_of kind) i j ((needed_iff kind i j).1 (edge_in j i y x js is (Depends kind) d.apart (depends_in kind y x d))),
      );
      before = λ i j x y is js. (
        λ h. (precedes_iff i j x y is js).0 ((before_iff i j).0 (stands_out before_bit i j h)),
        λ p. stands_in before_bit i j ((before_iff i j).1 ((precedes_iff i j x y is js).1 p)),
      );
      after = λ i j x y is js. (
        λ h. (precedes_iff j i y x js is).0 ((after_iff i j).0 (stands_out after_bit i j h)),
        λ p. stands_in after_bit i j ((after_iff i j).1 ((precedes_iff j i y x js is).1 p)),
      );
      within = rows_within;
      rowed = rows_long;
    }

    once : (x : ℕ) → AreOnce (row_of (map (λ (u : Unit). values_of u.row.neighbours.entries) units) x)
    once x = let r = a.joined.rows.rows x in subst AreOnce (sym (row_seen units x)) (once_of (entries_of units x) r.keyed r.unique)

    few_names : ¬ KnowsTooMany tree Extra → length (names_of units) ≤ unit_limit
    few_names few = elim (cases_lt unit_limit (length (names_of units))) as (λ _. length (names_of units) ≤ unit_limit) [
      | inl many ↦ absurd (few (record {
        names = names_of units;
        known = λ k d lt. (known_iff (get_or (names_of units) k d)).0 (Contains-get_or (names_of units) k d lt);
        apart = λ i j d lt le e. not_before_itself _ _ (ascend i j d lt le) e;
        many = many;
      }))
      | inr fits ↦ omega arith
    ]

    pub graph_sound : ¬ KnowsTooMany tree Extra → (count : ℕ) → IsGraph (graph_of units count)
    graph_sound few count = record {
      few = few_names few;
      once = once;
      loaded = length-map units (λ (u : Unit). u.loading) ∙ sym (length-map units (λ (u : Unit). u.name));
      rowed = rows_long;
      sorted = ascend;
      within = rows_within;
      mirrored = λ kind i j. (
        λ h. stands_in (bit_of kind) j i ((depends_iff kind j i).1 ((needed_iff kind i j).0 (stands_out (inverse_bit_of kind) i j h))),
        λ h. stands_in (inverse_bit_of kind) i j ((needed_iff kind i j).1 ((depends_iff kind j i).0 (stands_out (bit_of kind) j i h))),
      );
      ordered = λ i j. (
        λ h. stands_in before_bit j i ((before_iff j i).1 ((after_iff i j).0 (stands_out after_bit i j h))),
        λ h. stands_in after_bit i j ((after_iff i j).1 ((before_iff j i).0 (stands_out before_bit j i h))),
      );
    }
