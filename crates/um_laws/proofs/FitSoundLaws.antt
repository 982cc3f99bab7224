-- The units of a state whose numbers are apart pass the test of sound bytes: windows up to the clock, numbers distinct and below the next one.
use Rattle.std.proofs.Common.{ℕ, ◌≡◌, ◌⊎◌, inl, inr, ◌∙◌, ◌<◌, ◌≤◌, ◌^◌, ◌==◌, nat_lt, Bool, true, false, not, cond, List, [], ◌∷◌, ◌++◌, flat_map, Option, Some, None, unwrap_or, refl, sym, ap, subst, T, is_eq}
use Rattle.std.specs.Prelude.{IfSome}
use Rattle.std.specs.List.{list_all}
use Rattle.std.specs.Cmp.{tied_itself}
use Rattle.std.specs.Cmp.Lexicographic.{slice_cmp, nat_list_cmp_total}
use Rattle.std.specs.FinMap as map
use Rattle.std.specs.FinMap.Entries.{find}
use Rattle.std.specs.Ordering.{nat_cmp, eq_by_cmp}
use Rattle.std.proofs.lemmas.Bool.{lt-ltb, le-leb, ne_eqb}
use Rattle.std.proofs.lemmas.List.Folds.{list_all-append}
use Rattle.std.proofs.lemmas.Map.Lookups.{exact_bytes}
use Rattle.std.proofs.lemmas.Map.Views.{tells_apart}
use Rattle.std.proofs.lemmas.Option.{none-some}
use Rattle.um_model.specs.Machine.{State}
use Rattle.um_model.specs.Service.{dead_unit, state_of_unit}
use Rattle.um_model.specs.StateSpellings.{is_sub_state_in, have_sub_states, numbers_in, are_distinct, is_sound}
use Rattle.um_model.specs.Transitions.{live_numbers, HasNumber}
use Rattle.um_model.specs.declared.limit.Counted.{Counted}
use Rattle.um_model.specs.declared.service.UnitState.{UnitState}
use Rattle.um_laws.proofs.AmongLaws.{among_either}
use Rattle.um_model.proofs.BytesLaws.{left_holds, right_holds}
use Rattle.um_model.proofs.EntriesLaws.{below_none, both_true, left_true, right_true, from_each}
use Rattle.um_laws.proofs.FitNumbersLaws.{HasGoodUnits}
use Rattle.um_laws.proofs.FitUnitLaws.{IsGood}
use Rattle.um_model.proofs.LeastLaws.{Among}
use Rattle.um_model.proofs.Forms.{numbers, has_begun}

-- ---- distinct numbers

abbrev live_of : Option ℕ → Option ℕ → List ℕ
live_of main control = numbers main ++ numbers control

absent : (n : ℕ) (ns : List ℕ) → ¬ Among ns n → list_all (λ m. not (m == n)) ns ≡ true
absent n [] isnt = refl
absent n (m ∷ ns) isnt = both_true _ _ (ap not (ne_eqb m n (λ e. isnt (inl (sym e))))) (absent n ns (λ later. isnt (inr later)))

distinct_both : (ms ns : List ℕ) → are_distinct ms ≡ true → are_distinct ns ≡ true → ((n : ℕ) → Among ms n → ¬ Among ns n) → are_distinct (ms ++ ns) ≡ true
distinct_both [] ns h k apart = k
distinct_both (m ∷ ms) ns h k apart =
    both_true _ _ (list_all-append (λ n. not (n == m)) ms ns ∙ both_true _ _ (left_true (list_all (λ n. not (n == m)) ms) _ h) (absent m ns (apart m (inl refl))))
    (distinct_both ms ns (right_true (list_all (λ n. not (n == m)) ms) _ h) k (λ n later. apart n (inr later)))

distinct_one : (main control : Option ℕ) → ((n : ℕ) → main ≡ Some n → control ≡ Some n → ⊥) → are_distinct (live_of main control) ≡ true
distinct_one None None apart = refl
distinct_one None (Some b) apart = refl
distinct_one (Some a) None apart = refl
distinct_one (Some a) (Some b) apart = both_true _ _ (both_true _ _ (ap not (ne_eqb b a (λ e. apart a refl (ap Some e)))) refl) refl

live_number : (main control : Option ℕ) (n : ℕ) → Among (live_of main control) n → (main ≡ Some n) ⊎ (control ≡ Some n)
live_number None None n none = absurd none
live_number None (Some b) n (inl is) = inr (ap Some (sym is))
live_number None (Some b) n (inr none) = absurd none
live_number (Some a) None n (inl is) = inl (ap Some (sym is))
live_number (Some a) None n (inr none) = absurd none
live_number (Some a) (Some b) n (inl is) = inl (ap Some (sym is))
live_number (Some a) (Some b) n (inr (inl is)) = inr (ap Some (sym is))
live_number (Some a) (Some b) n (inr (inr none)) = absurd none

all_pass : (test : ℕ → Bool) (ns : List ℕ) → ((n : ℕ) → Among ns n → test n ≡ true) → list_all test ns ≡ true
all_pass test [] each = refl
all_pass test (n ∷ ns) each = both_true _ _ (each n (inl refl)) (all_pass test ns (λ m later. each m (inr later)))

-- ---- the numbers in entries

abbrev Entries : Type 0
Entries = List (List ℕ × UnitState)

abbrev numbers_of : Entries → List ℕ
numbers_of es = flat_map (λ e. live_numbers e.1) es

first_found : (e : List ℕ × UnitState) (es : Entries) → find (slice_cmp nat_cmp) e.0 (e ∷ es) ≡ Some e.1
first_found e es = ap (λ r. cond (is_eq r) (Some e.1) (find (slice_cmp nat_cmp) e.0 es)) (tied_itself nat_list_cmp_total e.0)

later_found : (e : List ℕ × UnitState) (es : Entries) → T (map.is_sorted (slice_cmp nat_cmp) (e ∷ es)) → (k : List ℕ) (u : UnitState) → find (slice_cmp nat_cmp) k es ≡ Some u → find (slice_cmp nat_cmp) k (e ∷ es) ≡ Some u
later_found e es sorted k u is = ap (λ b. cond b (Some e.1) (find (slice_cmp nat_cmp) k es)) (other (eq_by_cmp (slice_cmp nat_cmp) k e.0) refl) ∙ is
  where
    other : (b : Bool) → eq_by_cmp (slice_cmp nat_cmp) k e.0 ≡ b → eq_by_cmp (slice_cmp nat_cmp) k e.0 ≡ false
    other true t =
        absurd (none-some u (sym (below_none e.0 es (left_holds _ _ sorted)) ∙ (ap (λ (l : List ℕ). find (slice_cmp nat_cmp) l es) (sym (tells_apart exact_bytes k e.0 t)) ∙ is)))
    other false t = t

-- the number is that of a unit of these entries
record IsNumberIn (es : Entries) (n : ℕ) : Type 0 where
  key : List ℕ
  unit : UnitState
  found : find (slice_cmp nat_cmp) key es ≡ Some unit
  has : HasNumber unit n

number_found : (es : Entries) → T (map.is_sorted (slice_cmp nat_cmp) es) → (n : ℕ) → Among (numbers_of es) n → IsNumberIn es n
number_found [] sorted n none = absurd none
number_found (e ∷ es) sorted n among = by (among_either (live_numbers e.1) (numbers_of es) n among) (number_found es (right_holds _ _ sorted) n)
  where
    by : Among (live_numbers e.1) n ⊎ Among (numbers_of es) n → (Among (numbers_of es) n → IsNumberIn es n) → IsNumberIn (e ∷ es) n
    by (inl early) later = record { key = e.0; unit = e.1; found = first_found e es; has = live_number e.1.main e.1.control n early }
    by (inr late) later =
        let h = later late in
        record { key = h.key; unit = h.unit; found = later_found e es sorted h.key h.unit h.found; has = h.has }

-- each unit has two numbers, and no two units have one
record AreApart (es : Entries) : Type 0 where
  own : (k : List ℕ) (u : UnitState) → find (slice_cmp nat_cmp) k es ≡ Some u → (n : ℕ) → u.main ≡ Some n → u.control ≡ Some n → ⊥
  others : (k l : List ℕ) (u v : UnitState) (n : ℕ) → find (slice_cmp nat_cmp) k es ≡ Some u → find (slice_cmp nat_cmp) l es ≡ Some v → HasNumber u n → HasNumber v n → k ≡ l

distinct_numbers : (es : Entries) → T (map.is_sorted (slice_cmp nat_cmp) es) → AreApart es → are_distinct (numbers_of es) ≡ true
distinct_numbers [] sorted h = refl
distinct_numbers (e ∷ es) sorted h =
    distinct_both (live_numbers e.1) (numbers_of es) (distinct_one e.1.main e.1.control (h.own e.0 e.1 (first_found e es)))
    (distinct_numbers es (right_holds _ _ sorted) (record {
      own = λ k u is. h.own k u (later_found e es sorted k u is);
      others = λ k l u v n is too. h.others k l u v n (later_found e es sorted k u is) (later_found e es sorted l v too);
    }))
    (λ n early late. apart n early (number_found es (right_holds _ _ sorted) n late))
  where
    apart : (n : ℕ) → Among (live_numbers e.1) n → IsNumberIn es n → ⊥
    apart n early late =
        let same = h.others e.0 late.key e.1 late.unit n (first_found e es) (later_found e es sorted late.key late.unit late.found) (live_number e.1.main e.1.control n early) late.has in
        none-some late.unit (sym (below_none e.0 es (left_holds _ _ sorted)) ∙ (ap (λ (l : List ℕ). find (slice_cmp nat_cmp) l es) same ∙ late.found))

-- ---- a state

module _ (s : State) (h : HasGoodUnits s.clock s) where
  state_found : (k : List ℕ) (u : UnitState) → find (slice_cmp nat_cmp) k (map.entries s.units) ≡ Some u → state_of_unit s.units k ≡ u
  state_found k u is = ap (λ o. unwrap_or o dead_unit) (map.get-entries s.units k ∙ is)

  number_held : (k : List ℕ) (u : UnitState) (n : ℕ) → find (slice_cmp nat_cmp) k (map.entries s.units) ≡ Some u → HasNumber u n → HasNumber (state_of_unit s.units k) n
  number_held k u n is has = subst (λ w. HasNumber w n) (sym (state_found k u is)) has

  windows_begun : list_all (λ e. has_begun s.clock e.1.window) (map.entries s.units) ≡ true
  windows_begun = from_each (λ e. has_begun s.clock e.1.window) s.units (λ k u at. by u.window (subst (IsGood s.clock) (ap (λ o. unwrap_or o dead_unit) at) (h.good k)).window_low)
    where
      by : (o : Option Counted) → IfSome o (λ w. (w.began ≤ s.clock) × (w.count < 2 ^ 32)) → has_begun s.clock o ≡ true
      by None low = refl
      by (Some w) low = le-leb w.began s.clock low.0

  numbers_low : list_all (λ n. nat_lt n s.next) (numbers_in s.units) ≡ true
  numbers_low = all_pass (λ n. nat_lt n s.next) (numbers_in s.units) (λ n among. low n (number_found (map.entries s.units) (map.entries_sorted s.units) n among))
    where
      low : (n : ℕ) → IsNumberIn (map.entries s.units) n → nat_lt n s.next ≡ true
      low n is = lt-ltb n s.next (h.within is.key n (number_held is.key is.unit n is.found is.has)).1

  numbers_apart : are_distinct (numbers_in s.units) ≡ true
  numbers_apart = distinct_numbers (map.entries s.units) (map.entries_sorted s.units) (record {
    own = λ k u is. (subst (IsGood s.clock) (state_found k u is) (h.good k)).apart;
    others = λ k l u v n is too has also. h.apart k l n (number_held k u n is has) (number_held l v n too also);
  })

  -- the state passes the test, if each unit may be in its sub state by the loaded profile
  pub sound : ((unit : List ℕ) → is_sub_state_in s.loaded.profile (state_of_unit s.units unit).sub ≡ true) → is_sound s ≡ true
  sound may = both_true _ _ (both_true _ _ (both_true _ _ subs windows_begun) numbers_low) numbers_apart
    where
      subs : have_sub_states s.loaded.profile s.units ≡ true
      subs = from_each (λ e. is_sub_state_in s.loaded.profile e.1.sub) s.units
          (λ k u at. ap (λ (o : Option UnitState). is_sub_state_in s.loaded.profile (unwrap_or o dead_unit).sub) (sym at) ∙ may k)
