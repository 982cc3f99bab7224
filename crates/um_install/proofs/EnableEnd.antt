-- The outcome of enabling, from the results of its checks.
use Rattle.std.proofs.Common.{ℕ, zero, suc, ◌+◌, ◌-◌, ◌<◌, ◌≤◌, ◌≡◌, ◌≢◌, ◌⊎◌, ◌∙◌, nat_le, Bool, true, false, not, ◌||◌, List, [], ◌∷◌, Contains, Option, Some, None, Result, Ok, Err, refl, sym, ap, subst, arith, inl, inr, codes}
use Rattle.std.specs.Cmp.Lexicographic.{slice_cmp, nat_list_cmp_total}
use Rattle.std.specs.FinMap as map
use Rattle.std.specs.FinMap.{slice_cmp-IsAntisymmetric, nat_cmp-IsAntisymmetric}
use Rattle.std.specs.Ordering.{nat_cmp}
use Rattle.std.specs.Result.{IfOk}
use Rattle.std.specs.Str.{bytes_eq}
use Rattle.std.proofs.lemmas.Bool.Decides.{nat_tests}
use Rattle.std.proofs.lemmas.Option.{none-some}
use Rattle.um_model.specs.Profiles.{ReadTree}
use Rattle.um_model.specs.Install.{LinkAt, link_at, linked_name, IsTaken, IsAskedFor, IsEnabled, IsUnfit, IsOccupied, HasTooMany, too_many, CannotEnable, isnt_found, is_masked, has_bad_setting, lacks_instance, IsBarred, Installs, enables, RefusesLinks, enables_none, RefusesUnits, takes_none}
use Rattle.um_model.specs.Least.{IsNamedBefore, NamesLeast}
use Rattle.um_model.specs.Refusals.{Refused, at_first, at_second, bad_path, exists_at, too_large, not_found, masked, bad_setting}
use Rattle.um_model.specs.Tree.{Tree, IsTree, Link, entry_limit, is_fit_target, is_other_than_link, path_parts}
use Rattle.um_model.specs.Units.{LoadedUnit, Loading, Found, Masked, NotFound, BadSetting, load}
use Rattle.um_model.specs.declared.install.InstallVerb.TheVariants as verbs
use Rattle.um_model.specs.declared.refusals.Limit.TheVariants.{Entries}
use Rattle.um_laws.proofs.NameMaps.{After, Rising}
use Rattle.um_wire.specs.Refusal.{refused_of}
use Rattle.um_wire.specs.declared.refusal.Refusal.{Refusal}
use Rattle.um_install.specs.Changes.{linked}
use Rattle.um_wire.specs.Gives.{Gives, RefusesBy}
use Rattle.um_install.specs.Checks.{is_occupied, is_other, is_unfit, links_in, with_targets, least_of, new_paths, has_room, Names, LacksRoom, RefusesFirst, here, later}
use Rattle.um_install.specs.View.{Targets, Units}
use Rattle.um_install.specs.Walk.{AreWalked}
use Rattle.um_install.specs.declared.walk.Naming.TheVariants.{AsResolved}
use Rattle.um_install.proofs.EnableLaws.{MayStand, may_stand, grown, kept_at, linked_at, len_grown, all_put}
use Rattle.um_install.proofs.LeastPaths.{least_has, none_has, none_is}
use Rattle.um_install.proofs.LinkLaws.{asked_for, listed, there, target_asked, targets_there, unfit_in, unfit_out, occupied_in, occupied_out, same_text, to_taken}
use Rattle.um_install.proofs.Members.{after_at, contains_later, get_there, rising, there_get}
use Rattle.um_install.proofs.WalkLaws.{some_value}

-- ---- the first that can't be enabled

record IsFirstBarred (es : List (List ℕ × Loading)) (r : Refused) : Type 0 where
  e : List ℕ × Loading
  inside : Contains es e
  cannot : CannotEnable e.0 e.1 r
  before : (o : List ℕ × Loading) → Contains es o → (q : Refused) → CannotEnable o.0 o.1 q → o.0 ≢ e.0 → IsNamedBefore e.0 o.0

after_head : (x : List ℕ × Loading) (es : List (List ℕ × Loading)) → After x.0 es → (o : List ℕ × Loading) → Contains (x ∷ es) o → o.0 ≢ x.0 → IsNamedBefore x.0 o.0
after_head x es a o (zero, h, g) ne = absurd (ne (sym (ap (λ y. y.0) g)))
after_head x es a o (suc k, h, g) ne = after_at x.0 es a k o (omega arith) g

behind_head : (x : List ℕ × Loading) (es : List (List ℕ × Loading)) (n : List ℕ) → ((q : Refused) → ¬ CannotEnable x.0 x.1 q)
    → ((o : List ℕ × Loading) → Contains es o → (q : Refused) → CannotEnable o.0 o.1 q → o.0 ≢ n → IsNamedBefore n o.0)
    → (o : List ℕ × Loading) → Contains (x ∷ es) o → (q : Refused) → CannotEnable o.0 o.1 q → o.0 ≢ n → IsNamedBefore n o.0
behind_head x es n free rest o (zero, h, g) q c ne = absurd (free q (subst (λ (y : List ℕ × Loading). CannotEnable y.0 y.1 q) (sym g) c))
behind_head x es n free rest o (suc k, h, g) q c ne = rest o (k, omega arith, g) q c ne

first_barred : (es : List (List ℕ × Loading)) → Rising es → (r : Refused) → RefusesFirst es r → IsFirstBarred es r
first_barred [] rise r h = elim h [ ]
first_barred (x ∷ es) rise r (here c) = record { e = x; inside = (0, omega arith, refl); cannot = c; before = λ o in_ q d ne. after_head x es rise.0 o in_ ne }
first_barred (x ∷ es) rise r (later free h) =
    let f = first_barred es rise.1 r h in
    record { e = f.e; inside = contains_later x es f.e f.inside; cannot = f.cannot; before = behind_head x es f.e.0 free f.before }

free_with : (unit : List ℕ) (l : LoadedUnit) (n : List ℕ) → linked_name l ≡ Some n → (q : Refused) → CannotEnable unit (Found l) q → ⊥
free_with unit l n e q (lacks_instance none) = none-some n (sym none ∙ e)

found_by : (unit : List ℕ) (l : LoadedUnit) (o : Option (List ℕ)) → linked_name l ≡ o → ((r : Refused) × CannotEnable unit (Found l) r) ⊎ ((q : Refused) → ¬ CannotEnable unit (Found l) q)
found_by unit l None e = inl (bad_setting l.name (codes "default-instance"), lacks_instance e)
found_by unit l (Some n) e = inr (free_with unit l n e)

decided : (unit : List ℕ) (l : Loading) → ((r : Refused) × CannotEnable unit l r) ⊎ ((q : Refused) → ¬ CannotEnable unit l q)
decided unit (Found l) = found_by unit l (linked_name l) refl
decided unit (Masked other) = inl (masked other, is_masked)
decided unit NotFound = inl (not_found unit, isnt_found)
decided unit (BadSetting other reason) = inl (bad_setting other reason, has_bad_setting)

or_first : (x : List ℕ × Loading) (es : List (List ℕ × Loading)) → ((r : Refused) × RefusesFirst es r) → (r : Refused) × RefusesFirst (x ∷ es) r
or_first x es s = elim (decided x.0 x.1) as (λ _. (r : Refused) × RefusesFirst (x ∷ es) r) [
  | inl d ↦ (d.0, here d.1)
  | inr free ↦ (s.0, later free s.1)
]

some_first : (es : List (List ℕ × Loading)) (e : List ℕ × Loading) (q : Refused) → Contains es e → CannotEnable e.0 e.1 q → (r : Refused) × RefusesFirst es r
some_first [] e q (k, h, g) c = absurd (omega arith)
some_first (x ∷ es) e q (zero, h, g) c = (q, here (subst (λ (y : List ℕ × Loading). CannotEnable y.0 y.1 q) (sym g) c))
some_first (x ∷ es) e q (suc k, h, g) c = or_first x es (some_first es e q (k, omega arith, g) c)

same_ok : (a b : Tree) → ◌≡◌ {A = Result Tree Refused} (Ok a) (Ok b) → a ≡ b
same_ok a b e = cc

not_both : (a : Tree) (r : Refused) → ◌≡◌ {A = Result Tree Refused} (Ok a) (Err r) → ⊥
not_both a r e = cc

module _ (tree : ReadTree) (asked : List ℕ) (units : Units) (w : AreWalked AsResolved tree asked units) where
  abbrev links : List LinkAt
  links = links_in units

  abbrev targets : Targets
  targets = with_targets map.empty links

  abbrev es : List (List ℕ × List ℕ)
  es = map.entries targets

  -- ---- units that can't be enabled

  entry_of : (unit : List ℕ) → IsTaken tree asked unit → Contains (map.entries units) (unit, load tree unit)
  entry_of unit t = get_there units unit (load tree unit) (there tree asked units w unit t)

  pub by_barred : (r : Refused) → RefusesFirst (map.entries units) r → RefusesUnits tree verbs.Enable asked r
  by_barred r h =
      let f = first_barred (map.entries units) (rising (map.entries units) (map.entries_sorted units)) r h in
      let at = there_get units f.e f.inside in
      let cannot = subst (λ l. CannotEnable f.e.0 l r) (w.loaded f.e.0 f.e.1 at) f.cannot in
      takes_none
      (record {
        name = f.e.0;
        least = record {
          has = record { taken = to_taken tree asked f.e.0 (w.walked f.e.0 f.e.1 at); refusal = r; cause = cannot };
          first = λ other b ne. f.before (other, load tree other) (entry_of other b.taken) b.refusal b.cause ne;
        };
        told = cannot;
      })

  none_barred : ((q : Refused) → ¬ RefusesFirst (map.entries units) q) → (q : Refused) → ¬ RefusesUnits tree verbs.Enable asked q
  none_barred cans q (takes_none h) =
      let b = h.least.has in
      let s = some_first (map.entries units) (h.name, load tree h.name) b.refusal (entry_of h.name b.taken) b.cause in
      cans s.0 s.1

  pub refuses_units : {X : Type 0} (result : Result X Refusal) → RefusesBy (RefusesFirst (map.entries units)) result → RefusesBy (RefusesUnits tree verbs.Enable asked) result
  refuses_units (Ok done) none = none_barred none
  refuses_units (Err e) first = λ differs. by_barred (refused_of e) (first differs)

  -- ---- unfit and occupied paths

  names_unfit : (o : Option (List ℕ)) (r : Refused) → least_of is_unfit None links ≡ o → Names bad_path o r → NamesLeast (IsUnfit tree asked) (λ path r. r ≡ bad_path path) r
  names_unfit None r e h = absurd h
  names_unfit (Some p) r e h = record { name = p; least = least_has is_unfit links (IsUnfit tree asked) (unfit_in tree asked units w) (unfit_out tree asked units w) p e; told = h }

  none_found : (refusal : List ℕ → Refused) (o : Option (List ℕ)) → ((q : Refused) → ¬ Names refusal o q) → o ≡ None
  none_found refusal None h = refl
  none_found refusal (Some p) h = absurd (h (refusal p) refl)

  none_unfit : least_of is_unfit None links ≡ None → (q : Refused) → ¬ NamesLeast (IsUnfit tree asked) (λ path r. r ≡ bad_path path) q
  none_unfit n q h = none_has is_unfit links (IsUnfit tree asked) (unfit_in tree asked units w) (unfit_out tree asked units w) n h.name h.least.has

  names_occupied : (o : Option (List ℕ)) (r : Refused) → least_of (is_occupied tree.entries targets) None links ≡ o → Names exists_at o r → NamesLeast (IsOccupied tree asked) (λ path r. r ≡ exists_at path) r
  names_occupied None r e h = absurd h
  names_occupied (Some p) r e h = record {
    name = p;
    least = least_has (is_occupied tree.entries targets) links (IsOccupied tree asked) (occupied_in tree asked units w) (occupied_out tree asked units w) p e;
    told = h;
  }

  none_occupied : least_of (is_occupied tree.entries targets) None links ≡ None → (q : Refused) → ¬ NamesLeast (IsOccupied tree asked) (λ path r. r ≡ exists_at path) q
  none_occupied n q h = none_has (is_occupied tree.entries targets) links (IsOccupied tree asked) (occupied_in tree asked units w) (occupied_out tree asked units w) n h.name h.least.has

  pub by_unfit : (r : Refused) → Names bad_path (least_of is_unfit None links) r → RefusesLinks tree verbs.Enable asked r
  by_unfit r h = enables_none (at_first (names_unfit (least_of is_unfit None links) r refl h))

  module _ (fits : (q : Refused) → ¬ Names bad_path (least_of is_unfit None links) q) where
    no_unfit : least_of is_unfit None links ≡ None
    no_unfit = none_found bad_path (least_of is_unfit None links) fits

    pub by_occupied : (r : Refused) → Names exists_at (least_of (is_occupied tree.entries targets) None links) r → RefusesLinks tree verbs.Enable asked r
    by_occupied r h = enables_none (at_second (none_unfit no_unfit) (at_first (names_occupied (least_of (is_occupied tree.entries targets) None links) r refl h)))

    module _ (frees : (q : Refused) → ¬ Names exists_at (least_of (is_occupied tree.entries targets) None links) q) where
      no_occupied : least_of (is_occupied tree.entries targets) None links ≡ None
      no_occupied = none_found exists_at (least_of (is_occupied tree.entries targets) None links) frees

      not_false : (b : Bool) → not b ≡ false → b ≡ true
      not_false true e = refl
      not_false false e = cc

      neither : (a b : Bool) → (a || b) ≡ false → (a ≡ false) × (b ≡ false)
      neither true b e = cc
      neither false b e = (refl, e)

      may : (e : List ℕ × List ℕ) → Contains es e → MayStand tree.entries e
      may e c =
          let l = link_at e.0 e.1 in
          let in_ = target_asked tree asked units w e.0 e.1 (there_get targets e c) in
          may_stand tree.entries e
          (not_false (is_fit_target (path_parts e.0) e.1) ((none_is is_unfit None links no_unfit).1 l in_))
          (neither (is_other_than_link (map.get tree.entries e.0) e.1) (is_other (map.get targets e.0) e.1) ((none_is (is_occupied tree.entries targets) None links no_occupied).1 l in_)).0

      rise : Rising es
      rise = rising es (map.entries_sorted targets)

      same_target : (path target kept : List ℕ) → Contains links (link_at path target) → map.get targets path ≡ Some kept → kept ≡ target
      same_target path target kept c at =
          same_text kept target
          (not_false (bytes_eq kept target)
          (sym (ap (λ o. is_other o target) at)
          ∙ (neither (is_other_than_link (map.get tree.entries path) target) (is_other (map.get targets path) target) ((none_is (is_occupied tree.entries targets) None links no_occupied).1 (link_at path target) c)).1))

      stands_at : (path target : List ℕ) → IsAskedFor tree asked (link_at path target) → map.get (grown tree.entries es) path ≡ Some (Link target)
      stands_at path target a =
          let c = listed tree asked units w (link_at path target) a in
          let v = some_value (map.get targets path) (targets_there map.empty links (link_at path target) c) in
          linked_at tree.entries es rise (path, v.0) (get_there targets path v.0 v.1) ∙ ap (λ t. Some (Link t)) (same_target path target v.0 c v.1)

      not_found_at : (path : List ℕ) → ¬ ((target : List ℕ) × IsAskedFor tree asked (link_at path target)) → (o : Option (List ℕ)) → map.get targets path ≡ o → map.find (slice_cmp nat_cmp) path es ≡ None
      not_found_at path none None e = sym (map.get-entries targets path) ∙ e
      not_found_at path none (Some t) e = absurd (none (t, asked_for tree asked units w (link_at path t) (target_asked tree asked units w path t e)))

      whole : IsEnabled tree asked (grown tree.entries es)
      whole = record {
        linked = stands_at;
        kept = λ path none. kept_at tree.entries es path (not_found_at path none (map.get targets path) refl);
      }

      none_asked : (path : List ℕ) → map.get targets path ≡ None → ¬ ((target : List ℕ) × IsAskedFor tree asked (link_at path target))
      none_asked path n (target, a) =
          let v = some_value (map.get targets path) (targets_there map.empty links (link_at path target) (listed tree asked units w (link_at path target) a)) in
          none-some v.0 (sym n ∙ v.1)

      same_at : (other : Tree) → IsEnabled tree asked other → (path : List ℕ) (o : Option (List ℕ)) → map.get targets path ≡ o → map.get other path ≡ map.get (grown tree.entries es) path
      same_at other e path None n = e.kept path (none_asked path n) ∙ sym (whole.kept path (none_asked path n))
      same_at other e path (Some t) s =
          let a = asked_for tree asked units w (link_at path t) (target_asked tree asked units w path t s) in
          e.linked path t a ∙ sym (whole.linked path t a)

      one_enabled : (other : Tree) → IsEnabled tree asked other → other ≡ grown tree.entries es
      one_enabled other e =
          map.same_map nat_list_cmp_total (slice_cmp-IsAntisymmetric nat_cmp-IsAntisymmetric) other (grown tree.entries es) (λ path. same_at other e path (map.get targets path) refl)

      past : (m n : ℕ) → nat_le n (entry_limit - m) ≡ false → entry_limit < m + n
      past m n e = let f : entry_limit - m < n = grind (arith, nat_tests) in omega (arith, f)

      pub by_room : (r : Refused) → LacksRoom tree.entries targets r → RefusesLinks tree verbs.Enable asked r
      by_room r h =
          enables_none
          (at_second (none_unfit no_unfit) (at_second (none_occupied no_occupied)
          (subst (HasTooMany tree asked) (sym h.refusal)
          (too_many whole (subst (λ n. entry_limit < n) (sym (len_grown tree.entries es rise)) (past (map.len tree.entries) (new_paths tree.entries (map.keys targets)) h.full))))))

      module _ (is : IsTree tree.entries) (rooms : (q : Refused) → ¬ LacksRoom tree.entries targets q) where
        room_by : (b : Bool) → has_room tree.entries targets ≡ b → has_room tree.entries targets ≡ true
        room_by true e = e
        room_by false e = absurd (rooms (too_large Entries) (record { full = e; refusal = refl }))

        within : (m n : ℕ) → m ≤ entry_limit → nat_le n (entry_limit - m) ≡ true → m + n ≤ entry_limit
        within m n few e = let f : n ≤ entry_limit - m = grind (arith, nat_tests) in omega (arith, f, few)

        few : map.len tree.entries + new_paths tree.entries (map.keys targets) ≤ entry_limit
        few = within (map.len tree.entries) (new_paths tree.entries (map.keys targets)) is.few (room_by (has_room tree.entries targets) refl)

        not_too_many : (q : Refused) → ¬ HasTooMany tree asked q
        not_too_many q (too_many {enabled = other} all m) =
            let l = ap map.len (one_enabled other all) ∙ len_grown tree.entries es rise in
            let f = few in
            omega (arith, l, m, f)

        no_cause : (q : Refused) → ¬ RefusesLinks tree verbs.Enable asked q
        no_cause q (enables_none (at_first h)) = none_unfit no_unfit q h
        no_cause q (enables_none (at_second n (at_first h))) = none_occupied no_occupied q h
        no_cause q (enables_none (at_second n (at_second m h))) = not_too_many q h

        made : linked tree.entries es ≡ Ok (grown tree.entries es)
        made = all_put tree.entries es rise may few

        pub installs : (result : Result Tree Refusal) → Gives (λ t. t) result (linked tree.entries es) → IfOk result (λ t. Installs tree verbs.Enable asked t)
        installs (Ok t) g = enables (subst (IsEnabled tree asked) (same_ok (grown tree.entries es) t (sym made ∙ g)) whole)
        installs (Err e) g = tt

        pub refuses : (result : Result Tree Refusal) → Gives (λ t. t) result (linked tree.entries es) → RefusesBy (RefusesLinks tree verbs.Enable asked) result
        refuses (Ok t) g = no_cause
        refuses (Err e) g = λ differs. absurd (not_both (grown tree.entries es) (refused_of e) (sym made ∙ g differs))
