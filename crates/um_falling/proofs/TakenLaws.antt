-- The code goes from one unit to the next by the rows of the graph: the starts it has taken so far, and those in the end.
use Rattle.std.proofs.Common.{◌≡◌, ◌≢◌, ◌⊎◌, ◌∙◌, ◌==◌, ◌&&◌, ℕ, suc, Bool, true, false, cond, List, [], ◌∷◌, ◌++◌, length, Contains, Option, Some, None, slice_get, unwrap_or, refl, sym, ap, subst, inl, inr, arith}
use Rattle.std.proofs.lemmas.Bool.{and_parts, or_cases}
use Rattle.std.proofs.lemmas.Bool.Decides.{Decides-eqb}
use Rattle.std.proofs.lemmas.List.Elements.{Contains-append_left, Contains-push, Contains-push_cases}
use Rattle.std.proofs.lemmas.Option.{none-some, same_Some}
use Rattle.um_model.specs.Dependencies.{Depends, IsKnown, extra}
use Rattle.um_model.specs.Jobs.{AreTidyJobs, jobs_of_unit, no_jobs, without_start}
use Rattle.um_model.specs.Machine.{State, IsHeld, IsBefore, NeedsStart, IsTakenAlong, TakesAlong, is_waiting}
use Rattle.um_model.specs.Reached.{first, next}
use Rattle.um_model.specs.Service.{AreTidyUnits, state_of_unit}
use Rattle.um_model.specs.declared.dependencies.DependencyKind.{DependencyKind}
use Rattle.um_model.specs.declared.dependencies.DependencyKind.TheVariants.{Requires, BindsTo}
use Rattle.um_model.specs.declared.jobs.JobState.TheVariants.{Waiting}
use Rattle.um_model.proofs.OwnNameLaws.{depends_anyhow, precedes_anyhow}
use Rattle.um_model.proofs.TimersLaws.{same_name}
use Rattle.um_model.proofs.UnitLaws.{jobs_apart, jobs_here, state_apart, state_here, tidy_jobs, tidy_units}
use Rattle.um_graph.specs.Graph.{GraphView, IsGraphOf, IsNumberOf, Stands, row_of}
use Rattle.um_graph.specs.Kinds.{has, before_bit, inverse_bit_of}
use Rattle.um_graph.specs.declared.row.Neighbour.{Neighbour}
use Rattle.um_falling.specs.Along.{Taking, is_later, needs_it, taken, taken_all, taken_by, taken_next, without_start_of, with_result_dependency}
use Rattle.um_falling.specs.Over.{Serves}
use Rattle.um_falling.proofs.AlongLaws.{StartWaits, all_quiet, and_both, cons_cases, known_by, number_by, once_there, or_both, pending_apart, units_apart, waiting_is}

-- ---- dependencies and order of the graph, whatever else is known

abbrev pub Everything : List ℕ → Type 0
Everything unit = Unit {0}

module _ (g : GraphView) (s : State) (serves : Serves g s) where
  abbrev Named : List ℕ → Type 0
  Named = Contains serves.extra

  is_known : (x : List ℕ) → Contains g.names x → IsKnown s.loaded Named x
  is_known x c = (serves.of.known x).0 c

  pub needed_by : (kind : DependencyKind) (i j : ℕ) (x y : List ℕ) → IsNumberOf g i x → IsNumberOf g j y → Stands g.rows (inverse_bit_of kind) i j → Depends s.loaded Everything kind y x
  needed_by kind i j x y n m h = depends_anyhow s.loaded Named Everything kind y x (first (extra tt)) (first (extra tt)) ((serves.of.needed kind i j x y n m).0 h)

  pub needs_by : (kind : DependencyKind) (i j : ℕ) (x y : List ℕ) → IsNumberOf g i x → IsNumberOf g j y → Depends s.loaded Everything kind y x → Stands g.rows (inverse_bit_of kind) i j
  needs_by kind i j x y n m d =
      (serves.of.needed kind i j x y n m).1
      (depends_anyhow s.loaded Everything Named kind y x (is_known y (known_by g j y m)) (is_known x (known_by g i x n)) d)

  pub before_by : (i j : ℕ) (x y : List ℕ) → IsNumberOf g i x → IsNumberOf g j y → Stands g.rows before_bit i j → IsBefore s.loaded x y
  before_by i j x y n m h = precedes_anyhow s.loaded Named Everything x y (first (extra tt)) (first (extra tt)) ((serves.of.before i j x y n m).0 h)

  pub stands_by : (i j : ℕ) (x y : List ℕ) → IsNumberOf g i x → IsNumberOf g j y → IsBefore s.loaded x y → Stands g.rows before_bit i j
  stands_by i j x y n m d =
      (serves.of.before i j x y n m).1
      (precedes_anyhow s.loaded Everything Named x y (is_known x (known_by g i x n)) (is_known y (known_by g j y m)) d)

-- a unit of which a job is pending is held
pub starts_held : (c : State) (x : List ℕ) → (jobs_of_unit c.pending x).start ≡ Some Waiting → IsHeld c x
starts_held c x w = inr (λ e. none-some Waiting (sym (ap (λ o. (unwrap_or o no_jobs).start) e) ∙ w))

-- ---- the starts taken so far
module _ (g : GraphView) (s : State) (failed : List ℕ) where
  -- the unit is as it was
  record Stays (c : State) (x : List ℕ) : Type 0 where
    jobs : jobs_of_unit c.pending x ≡ jobs_of_unit s.pending x
    state : state_of_unit c.units x ≡ state_of_unit s.units x

  -- its start is taken along and gone
  record IsTaken (c : State) (x : List ℕ) : Type 0 where
    along : IsTakenAlong s failed x
    jobs : jobs_of_unit c.pending x ≡ without_start (jobs_of_unit s.pending x)
    state : state_of_unit c.units x ≡ with_result_dependency (state_of_unit s.units x)

  -- its start failed, or is gone
  abbrev IsLost : State → List ℕ → Type 0
  IsLost c x = (x ≡ failed) ⊎ IsTaken c x

  abbrev IsListed : List ℕ → List ℕ → Type 0
  IsListed l x = (u : ℕ) × IsNumberOf g u x × Contains l u

  -- each lost start is in hand, or its unit is listed, or no start waits for it
  pub record IsUnderWay (InHand : List ℕ → Type 0) (c : State) (l : List ℕ) : Type 0 where
    each : (x : List ℕ) → Stays c x ⊎ IsTaken c x
    rest : c ≡ record s { units = c.units; pending = c.pending }
    tidy_jobs : AreTidyJobs c.pending
    tidy_units : AreTidyUnits c.units
    held : (x : List ℕ) → IsHeld c x → Contains g.names x
    listed : (u : ℕ) → Contains l u → (x : List ℕ) × IsNumberOf g u x × IsLost c x
    followed : (x : List ℕ) → IsLost c x → InHand x ⊎ (IsListed l x ⊎ ((y : List ℕ) → ¬ NeedsStart c x y))

  abbrev pub IsGoing : State → List ℕ → Type 0
  IsGoing = IsUnderWay (λ x. ⊥)

  module _ (serves : Serves g s) where
    -- it begins
    pub begins_so : (u : ℕ) (l : List ℕ) → IsNumberOf g u failed → l ≡ u ∷ [] → AreTidyJobs s.pending → AreTidyUnits s.units → IsGoing s l
    begins_so u l n e tidy_jobs tidy_units = record {
      each = λ x. inl (record { jobs = refl; state = refl });
      rest = refl;
      tidy_jobs = tidy_jobs;
      tidy_units = tidy_units;
      held = serves.held;
      listed = λ v c. elim (cons_cases u [] v (subst (λ k. Contains k v) e c)) as (λ _. (x : List ℕ) × IsNumberOf g v x × IsLost s x) [
        | inl is ↦ (failed, subst (λ k. IsNumberOf g k failed) is n, inl refl)
        | inr none ↦ absurd (omega (arith, none.1))
      ];
      followed = λ x lost. elim lost as (λ _. ⊥ ⊎ (IsListed l x ⊎ ((y : List ℕ) → ¬ NeedsStart s x y))) [
        | inl is ↦ inr (inl (u, subst (IsNumberOf g u) (sym is) n, subst (λ k. Contains k u) (sym e) (0, omega arith, refl)))
        | inr taken ↦ absurd (untouched x taken)
      ];
    }
      where
        untouched : (x : List ℕ) → IsTaken s x → ⊥
        untouched x taken = none-some Waiting (sym (ap (λ j. j.start) taken.jobs) ∙ waits_of taken.along)
          where
            waits_of : IsTakenAlong s failed x → (jobs_of_unit s.pending x).start ≡ Some Waiting
            waits_of (first h) = h.waits
            waits_of (next r h) = h.waits

    -- ---- one start more
    module _ (InHand : List ℕ → Type 0) (c : State) (l : List ℕ) (way : IsUnderWay InHand c l) (u : ℕ) (y : List ℕ) (number : IsNumberOf g u y)
        (waits : (jobs_of_unit c.pending y).start ≡ Some Waiting) (along : (jobs_of_unit s.pending y).start ≡ Some Waiting → IsTakenAlong s failed y) where
      abbrev c' : State
      c' = without_start_of c y

      abbrev l' : List ℕ
      l' = l ++ u ∷ []

      stayed : Stays c y
      stayed = elim (way.each y) as (λ _. Stays c y) [
        | inl stays ↦ stays
        | inr taken ↦ absurd (none-some Waiting (sym (ap (λ j. j.start) taken.jobs) ∙ waits))
      ]

      here : IsTaken c' y
      here = record {
        along = along (sym (ap (λ j. j.start) stayed.jobs) ∙ waits);
        jobs = jobs_here c.pending y (without_start (jobs_of_unit c.pending y)) ∙ ap without_start stayed.jobs;
        state = state_here c.units y (with_result_dependency (state_of_unit c.units y)) ∙ ap with_result_dependency stayed.state;
      }

      away_jobs : (x : List ℕ) → x ≢ y → jobs_of_unit c'.pending x ≡ jobs_of_unit c.pending x
      away_jobs x apart = jobs_apart c.pending y (without_start (jobs_of_unit c.pending y)) x apart

      away_state : (x : List ℕ) → x ≢ y → state_of_unit c'.units x ≡ state_of_unit c.units x
      away_state x apart = state_apart c.units y (with_result_dependency (state_of_unit c.units y)) x apart

      taken_still : (x : List ℕ) → IsTaken c x → IsTaken c' x
      taken_still x taken = elim (same_name x y) as (λ _. IsTaken c' x) [
        | inl is ↦ subst (IsTaken c') (sym is) here
        | inr apart ↦ record { along = taken.along; jobs = away_jobs x apart ∙ taken.jobs; state = away_state x apart ∙ taken.state }
      ]

      lost_still : (x : List ℕ) → IsLost c x → IsLost c' x
      lost_still x (inl is) = inl is
      lost_still x (inr taken) = inr (taken_still x taken)

      lost_before : (x : List ℕ) → IsLost c' x → (x ≡ y) ⊎ IsLost c x
      lost_before x (inl is) = inr (inl is)
      lost_before x (inr taken) = elim (same_name x y) as (λ _. (x ≡ y) ⊎ IsLost c x) [
        | inl is ↦ inl is
        | inr apart ↦ inr (inr (record { along = taken.along; jobs = sym (away_jobs x apart) ∙ taken.jobs; state = sym (away_state x apart) ∙ taken.state }))
      ]

      each_now : (x : List ℕ) → Stays c' x ⊎ IsTaken c' x
      each_now x = elim (same_name x y) as (λ _. Stays c' x ⊎ IsTaken c' x) [
        | inl is ↦ inr (subst (IsTaken c') (sym is) here)
        | inr apart ↦ elim (way.each x) as (λ _. Stays c' x ⊎ IsTaken c' x) [
          | inl stays ↦ inl (record { jobs = away_jobs x apart ∙ stays.jobs; state = away_state x apart ∙ stays.state })
          | inr taken ↦ inr (taken_still x taken)
        ]
      ]

      held_now : (x : List ℕ) → IsHeld c' x → Contains g.names x
      held_now x h = elim (same_name x y) as (λ _. Contains g.names x) [
        | inl is ↦ subst (Contains g.names) (sym is) (known_by g u y number)
        | inr apart ↦ way.held x (held_before x apart h)
      ]
        where
          held_before : (x : List ℕ) → x ≢ y → IsHeld c' x → IsHeld c x
          held_before x apart (inl h) = inl (λ e. h (units_apart c.units y (with_result_dependency (state_of_unit c.units y)) x apart ∙ e))
          held_before x apart (inr h) = inr (λ e. h (pending_apart c.pending y (without_start (jobs_of_unit c.pending y)) x apart ∙ e))

      needs_before : (x z : List ℕ) → NeedsStart c' x z → NeedsStart c x z
      needs_before x z h = record {
        needs = h.needs;
        later = h.later;
        waits = elim (same_name z y) as (λ _. (jobs_of_unit c.pending z).start ≡ Some Waiting) [
          | inl is ↦ absurd (none-some Waiting (sym (ap (λ j. j.start) (ap (jobs_of_unit c'.pending) is ∙ here.jobs)) ∙ h.waits))
          | inr apart ↦ sym (ap (λ j. j.start) (away_jobs z apart)) ∙ h.waits
        ];
      }

      pub one_more : IsUnderWay InHand c' l'
      one_more = record {
        each = each_now;
        rest = ap (λ (z : State). record z { units = c'.units; pending = c'.pending }) way.rest;
        tidy_jobs = tidy_jobs c.pending y (without_start (jobs_of_unit c.pending y)) way.tidy_jobs;
        tidy_units = tidy_units c.units y (with_result_dependency (state_of_unit c.units y)) way.tidy_units;
        held = held_now;
        listed = λ v k. elim (Contains-push_cases l u v k) as (λ _. (x : List ℕ) × IsNumberOf g v x × IsLost c' x) [
          | inl old ↦ let (x, n, lost) = way.listed v old in (x, n, lost_still x lost)
          | inr is ↦ (y, subst (λ i. IsNumberOf g i y) is number, inr here)
        ];
        followed = λ x lost. elim (lost_before x lost) as (λ _. InHand x ⊎ (IsListed l' x ⊎ ((z : List ℕ) → ¬ NeedsStart c' x z))) [
          | inl is ↦ inr (inl (u, subst (IsNumberOf g u) (sym is) number, Contains-push l u))
          | inr before ↦ elim (way.followed x before) as (λ _. InHand x ⊎ (IsListed l' x ⊎ ((z : List ℕ) → ¬ NeedsStart c' x z))) [
            | inl hand ↦ inl hand
            | inr other ↦ elim other as (λ _. InHand x ⊎ (IsListed l' x ⊎ ((z : List ℕ) → ¬ NeedsStart c' x z))) [
              | inl there ↦ inr (inl (there.0, there.1, Contains-append_left l (u ∷ []) there.0 there.2))
              | inr none ↦ inr (inr (λ z needs. none z (needs_before x z needs)))
            ]
          ]
        ];
      }

    -- ---- the neighbours of one unit
    module _ (u : ℕ) (x : List ℕ) (number : IsNumberOf g u x) (source : (x ≡ failed) ⊎ IsTakenAlong s failed x) where
      abbrev row : List Neighbour
      row = row_of g.rows u

      abbrev InHand : List ℕ → Type 0
      InHand z = z ≡ x

      reaches : (y : List ℕ) → NeedsStart s x y → IsTakenAlong s failed y
      reaches y needs = elim source as (λ _. IsTakenAlong s failed y) [
        | inl is ↦ first (subst (λ z. NeedsStart s z y) is needs)
        | inr along ↦ next along needs
      ]

      needs_so : (n : Neighbour) (y : List ℕ) → Contains row n → needs_it n ≡ true → IsNumberOf g n.unit y → Depends s.loaded Everything Requires y x ⊎ Depends s.loaded Everything BindsTo y x
      needs_so n y c t m = elim (or_cases (has (inverse_bit_of Requires) n.kinds) (has (inverse_bit_of BindsTo) n.kinds) t) as (λ _. Depends s.loaded Everything Requires y x ⊎ Depends s.loaded Everything BindsTo y x) [
        | inl h ↦ inl (needed_by g s serves Requires u n.unit x y number m (record { neighbour = n; listed = c; is = refl; kind = h }))
        | inr h ↦ inr (needed_by g s serves BindsTo u n.unit x y number m (record { neighbour = n; listed = c; is = refl; kind = h }))
      ]

      later_so : (n : Neighbour) (y : List ℕ) → Contains row n → is_later n ≡ true → IsNumberOf g n.unit y → IsBefore s.loaded x y
      later_so n y c t m = before_by g s serves u n.unit x y number m (record { neighbour = n; listed = c; is = refl; kind = t })

      go_next : (n : Neighbour) → Contains row n → (m : Taking) → IsUnderWay InHand m.0 m.1 → IsUnderWay InHand (taken_next g n m).0 (taken_next g n m).1
      go_next n c m way = by_test (needs_it n && is_later n) refl
        where
          by_waiting : (y : List ℕ) → IsNumberOf g n.unit y → (needs_it n && is_later n) ≡ true → (b : Bool) → is_waiting (jobs_of_unit m.0.pending y).start ≡ b
              → IsUnderWay InHand (cond b (without_start_of m.0 y, m.1 ++ n.unit ∷ []) m).0 (cond b (without_start_of m.0 y, m.1 ++ n.unit ∷ []) m).1
          by_waiting y is t true e =
              let p = and_parts (needs_it n) (is_later n) t in
              one_more InHand m.0 m.1 way n.unit y is (waiting_is (jobs_of_unit m.0.pending y).start e)
              (λ w. reaches y (record { needs = needs_so n y c p.0 is; later = later_so n y c p.1 is; waits = w }))
          by_waiting y is t false e = way

          by_name : (o : Option (List ℕ)) → slice_get g.names n.unit ≡ o → (needs_it n && is_later n) ≡ true
              → IsUnderWay InHand (taken_by o n.unit m).0 (taken_by o n.unit m).1
          by_name None e t = way
          by_name (Some y) e t = by_waiting y e t (is_waiting (jobs_of_unit m.0.pending y).start) refl

          by_test : (b : Bool) → (needs_it n && is_later n) ≡ b → IsUnderWay InHand (cond b (taken g n.unit m) m).0 (cond b (taken g n.unit m) m).1
          by_test true t = by_name (slice_get g.names n.unit) refl t
          by_test false t = way

      go_all : (ns : List Neighbour) → ((n : Neighbour) → Contains ns n → Contains row n) → (m : Taking) → IsUnderWay InHand m.0 m.1
          → IsUnderWay InHand (taken_all g ns m).0 (taken_all g ns m).1
      go_all [] sub m way = way
      go_all (n ∷ ns) sub m way = go_all ns (λ k c. sub k (later n ns k c)) (taken_next g n m) (go_next n (sub n (0, omega arith, refl)) m way)
        where
          later : (n : Neighbour) (ns : List Neighbour) (k : Neighbour) → Contains ns k → Contains (n ∷ ns) k
          later n ns k (i, h, e) = (suc i, omega arith, e)

      -- no start waits for that of the unit then
      none_needs : (m : Taking) → IsUnderWay InHand (taken_all g row m).0 (taken_all g row m).1 → (y : List ℕ) → ¬ NeedsStart (taken_all g row m).0 x y
      none_needs m way y needs =
          let c = (taken_all g row m).0 in
          let same : c.loaded ≡ s.loaded = ap (λ (z : State). z.loaded) way.rest in
          let (j, is) = number_by g y (way.held y (starts_held c y needs.waits)) in
          let before = subst (λ t. IsBefore t x y) same needs.later in
          let stands = stands_by g s serves u j x y number is before in
          by_kind c same j is stands needs
        where
          quiet : (j : ℕ) → IsNumberOf g j y → Stands g.rows before_bit u j → (n : Neighbour) → Contains row n → n.unit ≡ j → needs_it n ≡ true → ¬ StartWaits (taken_all g row m) y
          quiet j is stands n c e t =
              let later : is_later n ≡ true =
              subst (λ (k : Neighbour). is_later k ≡ true) (once_there row (serves.graph.once u) stands.neighbour n stands.listed c (stands.is ∙ sym e)) stands.kind in
              all_quiet g row m n c (and_both (needs_it n) (is_later n) t later) y (subst (λ i. IsNumberOf g i y) (sym e) is)

          by_kind : (c : State) → c.loaded ≡ s.loaded → (j : ℕ) → IsNumberOf g j y → Stands g.rows before_bit u j → NeedsStart (taken_all g row m).0 x y → ⊥
          by_kind c same j is stands needs = elim (there) as (λ _. ⊥) [
            | inl h ↦ quiet j is stands h.neighbour h.listed h.is (or_both (has (inverse_bit_of Requires) h.neighbour.kinds) (has (inverse_bit_of BindsTo) h.neighbour.kinds) (inl h.kind)) needs.waits
            | inr h ↦ quiet j is stands h.neighbour h.listed h.is (or_both (has (inverse_bit_of Requires) h.neighbour.kinds) (has (inverse_bit_of BindsTo) h.neighbour.kinds) (inr h.kind)) needs.waits
          ]
            where
              loaded : (taken_all g row m).0.loaded ≡ s.loaded
              loaded = ap (λ (z : State). z.loaded) way.rest

              there : Stands g.rows (inverse_bit_of Requires) u j ⊎ Stands g.rows (inverse_bit_of BindsTo) u j
              there = elim needs.needs as (λ _. Stands g.rows (inverse_bit_of Requires) u j ⊎ Stands g.rows (inverse_bit_of BindsTo) u j) [
                | inl d ↦ inl (needs_by g s serves Requires u j x y number is (subst (λ t. Depends t Everything Requires y x) loaded d))
                | inr d ↦ inr (needs_by g s serves BindsTo u j x y number is (subst (λ t. Depends t Everything BindsTo y x) loaded d))
              ]

    -- ---- a turn
    lost_source : (c : State) (x : List ℕ) → IsLost c x → (x ≡ failed) ⊎ IsTakenAlong s failed x
    lost_source c x (inl is) = inl is
    lost_source c x (inr taken) = inr taken.along

    pub goes_on : (c : State) (l l' : List ℕ) (u : ℕ) (m : Taking) → IsGoing c l → l ≡ l' ++ u ∷ [] → m ≡ taken_all g (row_of g.rows u) (c, l') → IsGoing m.0 m.1
    goes_on c l l' u m way e is =
        let (x, number, lost) = way.listed u (subst (λ k. Contains k u) (sym e) (Contains-push l' u)) in
        let source = lost_source c x lost in
        let taken_now : Taking = taken_all g (row_of g.rows u) (c, l') in
        let after = go_all u x number source (row_of g.rows u) (λ n k. k) (c, l') (in_hand x number) in
        subst (λ (z : Taking). IsGoing z.0 z.1) (sym is) (put_down x taken_now after (none_needs u x number source (c, l') after))
      where
        in_hand : (x : List ℕ) → IsNumberOf g u x → IsUnderWay (λ z. z ≡ x) c l'
        in_hand x number = record {
          each = way.each;
          rest = way.rest;
          tidy_jobs = way.tidy_jobs;
          tidy_units = way.tidy_units;
          held = way.held;
          listed = λ v k. way.listed v (subst (λ z. Contains z v) (sym e) (Contains-append_left l' (u ∷ []) v k));
          followed = λ z lost. elim (way.followed z lost) as (λ _. (z ≡ x) ⊎ (IsListed l' z ⊎ ((y : List ℕ) → ¬ NeedsStart c z y))) [
            | inl none ↦ absurd none
            | inr other ↦ elim other as (λ _. (z ≡ x) ⊎ (IsListed l' z ⊎ ((y : List ℕ) → ¬ NeedsStart c z y))) [
              | inl there ↦ elim (Contains-push_cases l' u there.0 (subst (λ k. Contains k there.0) e there.2)) as (λ _. (z ≡ x) ⊎ (IsListed l' z ⊎ ((y : List ℕ) → ¬ NeedsStart c z y))) [
                | inl old ↦ inr (inl (there.0, there.1, old))
                | inr same ↦ inl (same_Some z x (sym there.1 ∙ (ap (slice_get g.names) (sym same) ∙ number)))
              ]
              | inr none ↦ inr (inr none)
            ]
          ];
        }

        put_down : (x : List ℕ) (t : Taking) → IsUnderWay (λ z. z ≡ x) t.0 t.1 → ((y : List ℕ) → ¬ NeedsStart t.0 x y) → IsGoing t.0 t.1
        put_down x t w none = record {
          each = w.each;
          rest = w.rest;
          tidy_jobs = w.tidy_jobs;
          tidy_units = w.tidy_units;
          held = w.held;
          listed = w.listed;
          followed = λ z lost. elim (w.followed z lost) as (λ _. ⊥ ⊎ (IsListed t.1 z ⊎ ((y : List ℕ) → ¬ NeedsStart t.0 z y))) [
            | inl is ↦ inr (inr (subst (λ k. (y : List ℕ) → ¬ NeedsStart t.0 k y) (sym is) none))
            | inr other ↦ inr other
          ];
        }

    -- ---- the end
    module _ (c : State) (l : List ℕ) (way : IsGoing c l) (empty : length l ≡ 0) where
      loaded_same : c.loaded ≡ s.loaded
      loaded_same = ap (λ (z : State). z.loaded) way.rest

      none_left : (x : List ℕ) → IsLost c x → (y : List ℕ) → ¬ NeedsStart c x y
      none_left x lost = elim (way.followed x lost) as (λ _. (y : List ℕ) → ¬ NeedsStart c x y) [
        | inl none ↦ absurd none
        | inr other ↦ elim other as (λ _. (y : List ℕ) → ¬ NeedsStart c x y) [
          | inl there ↦ absurd (omega (arith, there.2.1, empty))
          | inr none ↦ none
        ]
      ]

      needs_now : (x y : List ℕ) → NeedsStart s x y → Stays c y → NeedsStart c x y
      needs_now x y h stays = record {
        needs = subst (λ t. Depends t Everything Requires y x ⊎ Depends t Everything BindsTo y x) (sym loaded_same) h.needs;
        later = subst (λ t. IsBefore t x y) (sym loaded_same) h.later;
        waits = ap (λ j. j.start) stays.jobs ∙ h.waits;
      }

      taken_by_lost : (x y : List ℕ) → IsLost c x → NeedsStart s x y → IsTaken c y
      taken_by_lost x y lost needs = elim (way.each y) as (λ _. IsTaken c y) [
        | inl stays ↦ absurd (none_left x lost y (needs_now x y needs stays))
        | inr taken ↦ taken
      ]

      all_taken : (x : List ℕ) → IsTakenAlong s failed x → IsTaken c x
      all_taken x (first needs) = taken_by_lost failed x (inl refl) needs
      all_taken x (next {a = z} reached needs) = taken_by_lost z x (inr (all_taken z reached)) needs

      stays_else : (x : List ℕ) → ¬ IsTakenAlong s failed x → Stays c x
      stays_else x not_along = elim (way.each x) as (λ _. Stays c x) [ inl stays ↦ stays | inr taken ↦ absurd (not_along taken.along) ]

      pub ends_so : TakesAlong s failed c × Serves g c
      ends_so = (
        record {
          starts = λ x along. (all_taken x along).jobs;
          results = λ x along. (all_taken x along).state;
          other_jobs = λ x other. (stays_else x other).jobs;
          other_units = λ x other. (stays_else x other).state;
          tidy_jobs = way.tidy_jobs;
          tidy_units = way.tidy_units;
          rest = way.rest;
        },
        record { extra = serves.extra; graph = serves.graph; of = subst (λ t. IsGraphOf t (Contains serves.extra) g) (sym loaded_same) serves.of; held = way.held },
      )
