-- The search for known units: at each step nothing is forgotten and nothing too much is found; at its end all known units are found.
use Rattle.std.proofs.Common.{◌≡◌, ◌⊎◌, ◌∙◌, ℕ, Bool, true, false, cond, List, [], ◌∷◌, ◌++◌, Contains, Some, None, is_some, refl, sym, ap, subst, inl, inr}
use Rattle.std.specs.BTreeMap as sorted
use Rattle.std.specs.Cmp.{eq_by_cmp_equiv}
use Rattle.std.specs.Cmp.Lexicographic.{slice_cmp, nat_list_cmp_total}
use Rattle.std.specs.FinMap as map
use Rattle.std.specs.List.{flat_map}
use Rattle.std.specs.Ordering.{eq_by_cmp, nat_cmp}
use Rattle.std.proofs.lemmas.List.Elements.{Contains-append_left, Contains-append_right, Contains-append_cases, Contains-push, Contains-push_cases}
use Rattle.std.proofs.lemmas.Map.Lookups.{exact_bytes}
use Rattle.std.proofs.lemmas.Map.Views.{tells_apart}
use Rattle.um_model.specs.Profiles.{ReadTree}
use Rattle.um_model.specs.Dependencies.{IsKnown, IsNamed, KnowsTooMany, Gives, Declares, Mentions, loadable_of}
use Rattle.um_model.specs.Dependencies as model
use Rattle.um_model.specs.Reached.{first, next}
use Rattle.um_model.specs.Tree.{Tree}
use Rattle.um_model.specs.Units.{load}
use Rattle.um_unit.specs.View.{loading_of}
use Rattle.um_unit.specs.declared.loaded.Loading.{Loading}
use Rattle.um_graph.specs.Known.{IsFollowed, IsMet, IsTold, IsUnderWay, LeavesOut, Loaded, by_link, by_unit, ends_left, links_told, loading_at, unless_followed}
use Rattle.um_graph.specs.Tells.{entry_names, tell, told_in}
use Rattle.um_graph.specs.declared.told.Link.TheVariants.{Depends, Declared}
use Rattle.um_graph.specs.declared.told.Told.{Told}
use Rattle.um_graph.proofs.ListLaws.{contains_flat, flat_contains, in_none, in_one, is_one}
use Rattle.um_graph.proofs.TellLaws.{declares_told, gives_told, link_depends, link_gives, names_in_entries, names_out, told_mentions}

module _ (loaded : Loaded) where
  -- a name that is not left was followed
  met_unless : (x : List ℕ) → IsFollowed loaded x ⊎ Contains (unless_followed loaded x) x
  met_unless x = by (is_some (loading_at loaded x)) refl
    where
      by : (b : Bool) → is_some (loading_at loaded x) ≡ b → (b ≡ true) ⊎ Contains (cond b [] (x ∷ [])) x
      by true e = inl refl
      by false e = inr (in_one x)

  unless_is : (x y : List ℕ) → Contains (unless_followed loaded x) y → x ≡ y
  unless_is x y c = by (is_some (loading_at loaded x)) c
    where
      by : (b : Bool) → Contains (cond b [] (x ∷ [])) y → x ≡ y
      by true c = absurd (in_none y c)
      by false c = is_one x y c

  abbrev ends_all : List Told → List (List ℕ)
  ends_all told = flat_map (ends_left loaded) told

  ends_met : (told : List Told) (t : Told) → Contains told t → (IsFollowed loaded t.from ⊎ Contains (ends_all told) t.from) × (IsFollowed loaded t.to ⊎ Contains (ends_all told) t.to)
  ends_met told t c = (
    elim (met_unless t.from) as (λ _. IsFollowed loaded t.from ⊎ Contains (ends_all told) t.from) [
      | inl f ↦ inl f
      | inr d ↦ inr (contains_flat (ends_left loaded) told t t.from c (Contains-append_left (unless_followed loaded t.from) (unless_followed loaded t.to) t.from d))
    ],
    elim (met_unless t.to) as (λ _. IsFollowed loaded t.to ⊎ Contains (ends_all told) t.to) [
      | inl f ↦ inl f
      | inr d ↦ inr (contains_flat (ends_left loaded) told t t.to c (Contains-append_right (unless_followed loaded t.from) (unless_followed loaded t.to) t.to d))
    ],
  )

  ends_are : (told : List Told) (x : List ℕ) → Contains (ends_all told) x → (t : Told) × Contains told t × ((t.from ≡ x) ⊎ (t.to ≡ x))
  ends_are told x c =
      let r = flat_contains (ends_left loaded) told x c in (
        r.0,
        r.1,
        elim (Contains-append_cases (unless_followed loaded r.0.from) (unless_followed loaded r.0.to) x r.2) as (λ _. (r.0.from ≡ x) ⊎ (r.0.to ≡ x)) [
          | inl a ↦ inl (unless_is r.0.from x a)
          | inr b ↦ inr (unless_is r.0.to x b)
        ],
      )

-- ---- the names in a relation are known
module _ (tree : ReadTree) (extra : List (List ℕ)) where
  abbrev Known : List ℕ → Type 0
  Known = IsKnown tree (Contains extra)

  told_known : (t : Told) → IsTold tree extra t → Known t.from × Known t.to
  told_known t (by_unit a k c) = let m = told_mentions tree a t c in (next k m.0, next k m.1)
  told_known t (by_link c) =
      let d = link_depends tree t c in
      let same : t ≡ tell (Depends d.0) t.from t.to = ap (λ l. tell l t.from t.to) d.1 in
      let g = link_gives tree d.0 t.from t.to (subst (Contains (links_told tree.entries)) same c) in
      let k : Known g.0 = first (g.1 (Contains extra)) in
      (next k (model.owner g.2), next k (model.other g.2))

  -- ---- the beginning
  pub begun : (loaded : Loaded) (left : List (List ℕ)) (told : List Told) → ((x : List ℕ) → loading_at loaded x ≡ None) → told ≡ links_told tree.entries
      → left ≡ (extra ++ flat_map entry_names (map.entries tree.entries)) ++ flat_map (ends_left loaded) told → IsUnderWay tree extra loaded left told
  begun loaded left told none t l = record {
    loads = λ x v e. let no : None ≡ Some v = sym (none x) ∙ e in cc;
    known = λ x m. elim m as (λ _. Known x) [
      | inl f ↦ absurd (not_followed x f)
      | inr c ↦ left_known x (subst (λ xs. Contains xs x) l c)
    ];
    named = λ x n. inr (subst (λ xs. Contains xs x) (sym l) (Contains-append_left (extra ++ flat_map entry_names (map.entries tree.entries)) (flat_map (ends_left loaded) told) x (
        elim (names_in_entries tree extra x n) as (λ _. Contains (extra ++ flat_map entry_names (map.entries tree.entries)) x) [
          | inl a ↦ Contains-append_left extra (flat_map entry_names (map.entries tree.entries)) x a
          | inr b ↦ Contains-append_right extra (flat_map entry_names (map.entries tree.entries)) x b
        ])));
    sound = λ u c. by_link (subst (λ ts. Contains ts u) t c);
    linked = λ u c. subst (λ ts. Contains ts u) (sym t) c;
    whole = λ x f. absurd (not_followed x f);
    ends = λ u c. let e = ends_met loaded told u c in (in_left u.from e.0, in_left u.to e.1);
  }
    where
      not_followed : (x : List ℕ) → IsFollowed loaded x → ⊥
      not_followed x f = let no : false ≡ true = sym (ap is_some (none x)) ∙ f in cc

      in_left : (x : List ℕ) → IsFollowed loaded x ⊎ Contains (flat_map (ends_left loaded) told) x → IsMet loaded left x
      in_left x (inl f) = inl f
      in_left x (inr c) = inr (subst (λ xs. Contains xs x) (sym l) (Contains-append_right (extra ++ flat_map entry_names (map.entries tree.entries)) (flat_map (ends_left loaded) told) x c))

      an_end : (x : List ℕ) → (u : Told) × Contains told u × ((u.from ≡ x) ⊎ (u.to ≡ x)) → Known x
      an_end x (u, c, inl e) = subst Known e (told_known u (by_link (subst (λ ts. Contains ts u) t c))).0
      an_end x (u, c, inr e) = subst Known e (told_known u (by_link (subst (λ ts. Contains ts u) t c))).1

      left_known : (x : List ℕ) → Contains ((extra ++ flat_map entry_names (map.entries tree.entries)) ++ flat_map (ends_left loaded) told) x → Known x
      left_known x c = elim (Contains-append_cases (extra ++ flat_map entry_names (map.entries tree.entries)) (flat_map (ends_left loaded) told) x c) as (λ _. Known x) [
        | inl a ↦ elim (Contains-append_cases extra (flat_map entry_names (map.entries tree.entries)) x a) as (λ _. Known x) [
          | inl b ↦ first (model.extra b)
          | inr b ↦ first (names_out tree (Contains extra) x b)
        ]
        | inr a ↦ an_end x (ends_are loaded told x a)
      ]

  pub begun_by : (fresh loaded : Loaded) (names left : List (List ℕ)) (list told : List Told) → ((x : List ℕ) → loading_at fresh x ≡ None) → loaded ≡ fresh → list ≡ links_told tree.entries
      → told ≡ list → names ≡ extra ++ flat_map entry_names (map.entries tree.entries) → left ≡ names ++ flat_map (ends_left fresh) list → IsUnderWay tree extra loaded left told
  begun_by fresh loaded names left list told none same links tolds named lefts =
      begun loaded left told (λ x. ap (λ m. loading_at m x) same ∙ none x) (tolds ∙ links)
      (lefts ∙ (ap (λ ns. ns ++ flat_map (ends_left fresh) list) named
      ∙ (ap (λ m. (extra ++ flat_map entry_names (map.entries tree.entries)) ++ flat_map (ends_left m) list) (sym same)
      ∙ ap (λ ts. (extra ++ flat_map entry_names (map.entries tree.entries)) ++ flat_map (ends_left loaded) ts) (sym tolds))))

  -- ---- a name that was followed is left out
  pub left_out : (loaded : Loaded) (old new : List (List ℕ)) (told : List Told) → LeavesOut loaded old new → IsUnderWay tree extra loaded old told → IsUnderWay tree extra loaded new told
  left_out loaded old new told o w = record {
    loads = w.loads;
    known = λ x m. w.known x (back x m);
    named = λ x n. on x (w.named x n);
    sound = w.sound;
    linked = w.linked;
    whole = w.whole;
    ends = λ t c. let e = w.ends t c in (on t.from e.0, on t.to e.1);
  }
    where
      back : (x : List ℕ) → IsMet loaded new x → IsMet loaded old x
      back x (inl f) = inl f
      back x (inr c) = inr (o.fewer x c)

      on : (x : List ℕ) → IsMet loaded old x → IsMet loaded new x
      on x (inl f) = inl f
      on x (inr c) = o.kept x c

  pub left_out_as : (loaded same : Loaded) (old new : List (List ℕ)) (told kept : List Told) → same ≡ loaded → kept ≡ told → LeavesOut loaded old new → IsUnderWay tree extra loaded old told
      → IsUnderWay tree extra same new kept
  left_out_as loaded same old new told kept l t o w =
      subst (λ m. IsUnderWay tree extra m new kept) (sym l) (subst (λ ts. IsUnderWay tree extra loaded new ts) (sym t) (left_out loaded old new told o w))

  -- ---- a name is followed
  module _ (old new : Loaded) (left after : List (List ℕ)) (told later : List Told) (name : List ℕ) (l : Loading)
      (updates : sorted.Updates (slice_cmp nat_cmp) old new name (Some l)) (is : loading_of l ≡ load tree name)
      (lefts : after ≡ left ++ flat_map (ends_left new) (told_in tree name)) (tolds : later ≡ told ++ told_in tree name) where
    here : loading_at new name ≡ Some l
    here = updates.0 name ∙ ap (λ b. cond b (Some l) (loading_at old name)) ((eq_by_cmp_equiv nat_list_cmp_total).refl name)

    here_followed : IsFollowed new name
    here_followed = ap is_some here

    cases : (x : List ℕ) → (name ≡ x) ⊎ (loading_at new x ≡ loading_at old x)
    cases x = by (eq_by_cmp (slice_cmp nat_cmp) name x) refl
      where
        by : (b : Bool) → eq_by_cmp (slice_cmp nat_cmp) name x ≡ b → (name ≡ x) ⊎ (loading_at new x ≡ loading_at old x)
        by true t = inl (tells_apart exact_bytes name x t)
        by false t = inr (updates.0 x ∙ ap (λ b. cond b (Some l) (loading_at old x)) t)

    still_followed : (x : List ℕ) → IsFollowed old x → IsFollowed new x
    still_followed x f = elim (cases x) as (λ _. IsFollowed new x) [
      | inl e ↦ subst (IsFollowed new) e here_followed
      | inr e ↦ ap is_some e ∙ f
    ]

    from_left : (x : List ℕ) → Contains left x → IsMet new after x
    from_left x c = inr (subst (λ xs. Contains xs x) (sym lefts) (Contains-append_left left (flat_map (ends_left new) (told_in tree name)) x c))

    still_met : (x : List ℕ) → IsMet old (left ++ name ∷ []) x → IsMet new after x
    still_met x (inl f) = inl (still_followed x f)
    still_met x (inr c) = elim (Contains-push_cases left name x c) as (λ _. IsMet new after x) [
      | inl d ↦ from_left x d
      | inr e ↦ inl (subst (IsFollowed new) e here_followed)
    ]

    end_met : (x : List ℕ) → IsFollowed new x ⊎ Contains (flat_map (ends_left new) (told_in tree name)) x → IsMet new after x
    end_met x (inl f) = inl f
    end_met x (inr c) = inr (subst (λ xs. Contains xs x) (sym lefts) (Contains-append_right left (flat_map (ends_left new) (told_in tree name)) x c))

    pub followed : IsUnderWay tree extra old (left ++ name ∷ []) told → IsUnderWay tree extra new after later
    followed w = record {
      loads = λ x v e. elim (cases x) as (λ _. loading_of v ≡ load tree x) [
        | inl s ↦ let same : l ≡ v = value_same l v (sym here ∙ (ap (loading_at new) s ∙ e)) in ap loading_of (sym same) ∙ (is ∙ ap (load tree) s)
        | inr s ↦ w.loads x v (sym s ∙ e)
      ];
      known = known_still;
      named = λ x n. still_met x (w.named x n);
      sound = λ t c. elim (Contains-append_cases told (told_in tree name) t (subst (λ ts. Contains ts t) tolds c)) as (λ _. IsTold tree extra t) [
        | inl a ↦ w.sound t a
        | inr b ↦ by_unit name name_known b
      ];
      linked = λ t c. kept t (w.linked t c);
      whole = λ x f t c. elim (cases x) as (λ _. Contains later t) [
        | inl s ↦ added t (subst (λ n. Contains (told_in tree n) t) (sym s) c)
        | inr s ↦ kept t (w.whole x (ap is_some (sym s) ∙ f) t c)
      ];
      ends = λ t c. elim (Contains-append_cases told (told_in tree name) t (subst (λ ts. Contains ts t) tolds c)) as (λ _. IsMet new after t.from × IsMet new after t.to) [
        | inl a ↦ let e = w.ends t a in (still_met t.from e.0, still_met t.to e.1)
        | inr b ↦ let e = ends_met new (told_in tree name) t b in (end_met t.from e.0, end_met t.to e.1)
      ];
    }
      where
        value_same : (a b : Loading) → Some a ≡ Some b → a ≡ b
        value_same a b e = cc

        name_known : Known name
        name_known = w.known name (inr (Contains-push left name))

        kept : (t : Told) → Contains told t → Contains later t
        kept t c = subst (λ ts. Contains ts t) (sym tolds) (Contains-append_left told (told_in tree name) t c)

        added : (t : Told) → Contains (told_in tree name) t → Contains later t
        added t c = subst (λ ts. Contains ts t) (sym tolds) (Contains-append_right told (told_in tree name) t c)

        new_end : (x : List ℕ) → (u : Told) × Contains (told_in tree name) u × ((u.from ≡ x) ⊎ (u.to ≡ x)) → Known x
        new_end x (u, c, inl e) = subst Known e (next name_known (told_mentions tree name u c).0)
        new_end x (u, c, inr e) = subst Known e (next name_known (told_mentions tree name u c).1)

        known_still : (x : List ℕ) → IsMet new after x → Known x
        known_still x (inl f) = elim (cases x) as (λ _. Known x) [
          | inl s ↦ subst Known s name_known
          | inr s ↦ w.known x (inl (ap is_some (sym s) ∙ f))
        ]
        known_still x (inr c) = elim (Contains-append_cases left (flat_map (ends_left new) (told_in tree name)) x (subst (λ xs. Contains xs x) lefts c)) as (λ _. Known x) [
          | inl a ↦ w.known x (inr (Contains-append_left left (name ∷ []) x a))
          | inr b ↦ new_end x (ends_are new (told_in tree name) x b)
        ]

  -- ---- the end: each known name was followed
  module _ (loaded : Loaded) (told : List Told) (w : IsUnderWay tree extra loaded [] told) where
    only_followed : (x : List ℕ) → IsMet loaded [] x → IsFollowed loaded x
    only_followed x (inl f) = f
    only_followed x (inr c) = absurd (in_none x c)

    told_followed : (t : Told) → Contains told t → IsFollowed loaded t.from × IsFollowed loaded t.to
    told_followed t c = let e = w.ends t c in (only_followed t.from e.0, only_followed t.to e.1)

    pub gives_in : (a : List ℕ) → IsFollowed loaded a → (kind : _) (x y : List ℕ) → Gives tree a kind x y → Contains told (tell (Depends kind) x y)
    gives_in a f kind x y g = elim (gives_told tree a kind x y g) as (λ _. Contains told (tell (Depends kind) x y)) [
      | inl c ↦ w.whole a f (tell (Depends kind) x y) c
      | inr c ↦ w.linked (tell (Depends kind) x y) c
    ]

    mentioned : (a x : List ℕ) → IsFollowed loaded a → Mentions tree a x → IsFollowed loaded x
    mentioned a x f (model.owner {y = y} {kind = kind} g) = (told_followed (tell (Depends kind) x y) (gives_in a f kind x y g)).0
    mentioned a x f (model.other {x = z} {kind = kind} g) = (told_followed (tell (Depends kind) z x) (gives_in a f kind z x g)).1
    mentioned a x f (model.earlier {y = y} g) = (told_followed (tell Declared x y) (w.whole a f (tell Declared x y) (declares_told tree a x y g))).0
    mentioned a x f (model.later {x = z} g) = (told_followed (tell Declared z x) (w.whole a f (tell Declared z x) (declares_told tree a z x g))).1

    pub all_followed : (x : List ℕ) → Known x → IsFollowed loaded x
    all_followed x (first n) = only_followed x (w.named x n)
    all_followed x (next {a = a} k m) = mentioned a x (all_followed a k) m
