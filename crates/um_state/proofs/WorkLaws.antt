-- Rows in work: a row that is set, the rows that differ, and how many they are.
use Rattle.std.proofs.Common.{◌≡◌, ◌⊎◌, ◌∙◌, ◌+◌, ◌<◌, ◌≤◌, ◌++◌, ◌&&◌, not, ℕ, zero, suc, Bool, true, false, true≢false, cond, List, [], ◌∷◌, length, set, get_or, map, Contains, refl, sym, ap, subst, inl, inr, arith, append-nil}
use Rattle.std.proofs.lemmas.List.{get_or_past, length-map}
use Rattle.um_model.specs.Jobs.{AreTidyJobs, jobs_of_unit, no_jobs, with_jobs}
use Rattle.um_model.specs.Least.{IsNamedBefore}
use Rattle.um_model.specs.Machine.{State}
use Rattle.um_model.specs.Service.{AreTidyUnits, dead_unit, state_of_unit, with_unit}
use Rattle.um_model.specs.Standing.{Standing}
use Rattle.um_model.specs.declared.jobs.UnitJobs.{UnitJobs}
use Rattle.um_model.specs.declared.service.UnitState.{UnitState}
use Rattle.um_name.specs.Names.{name_at, IsApart, AreAscending}
use Rattle.um_name.proofs.NumberLaws.{AreOnce, names_once, among_or_apart}
use Rattle.um_state.specs.Rows.{put_row, rows_after, timed}
use Rattle.um_state.specs.Tables.{units_by, jobs_by, unit_put, jobs_put}
use Rattle.um_state.specs.Working.{WorkView, with_maps, with_rows, unit_set, jobs_set, picked, differ_at, rows_at, is_same_unit, is_same_jobs, changed, CountsDiffering}
use Rattle.um_state.specs.declared.row.Row.{Row}
use Rattle.um_state.proofs.PutLaws.{units_put, jobs_put_well}
use Rattle.um_state.proofs.SameRows.{same_unit, same_jobs, unit_itself, jobs_itself}
use Rattle.um_state.proofs.TableLaws.{by_at, by_none, by_tidy, put_past, row_set}
use Rattle.um_state.proofs.PickLaws.{one, picked_more, pairs_picked, picked_there, picked_is, picked_mapped}

-- ---- the first n items of one list, and the others of another

module _ {A : Type 0} (nothing : A) where
  abbrev pub mix : ℕ → List A → List A → List A
  mix zero a b = a
  mix (suc n) [] b = []
  mix (suc n) (x ∷ a) [] = x ∷ a
  mix (suc n) (x ∷ a) (y ∷ b) = y ∷ mix n a b

  pub mix_length : (n : ℕ) (a b : List A) → length (mix n a b) ≡ length a
  mix_length zero a b = refl
  mix_length (suc n) [] b = refl
  mix_length (suc n) (x ∷ a) [] = refl
  mix_length (suc n) (x ∷ a) (y ∷ b) = ap suc (mix_length n a b)

  pub mix_more : (n : ℕ) (a b : List A) → n < length a → length a ≡ length b → set (mix n a b) n (get_or b n nothing) ≡ mix (suc n) a b
  mix_more n [] b h l = absurd (omega arith)
  mix_more n (x ∷ a) [] h l = absurd (omega (arith, l))
  mix_more zero (x ∷ a) (y ∷ b) h l = refl
  mix_more (suc n) (x ∷ a) (y ∷ b) h l = ap (λ xs. y ∷ xs) (mix_more n a b (omega arith) (omega (arith, l)))

  pub mix_same : (n : ℕ) (a b : List A) → n < length a → length a ≡ length b → get_or a n nothing ≡ get_or b n nothing → mix n a b ≡ mix (suc n) a b
  mix_same n [] b h l e = absurd (omega arith)
  mix_same n (x ∷ a) [] h l e = absurd (omega (arith, l))
  mix_same zero (x ∷ a) (y ∷ b) h l e = ap (λ z. z ∷ a) e
  mix_same (suc n) (x ∷ a) (y ∷ b) h l e = ap (λ xs. y ∷ xs) (mix_same n a b (omega arith) (omega (arith, l)) e)

  pub mix_all : (n : ℕ) (a b : List A) → length a ≤ n → length a ≡ length b → mix n a b ≡ b
  mix_all zero [] [] h l = refl
  mix_all zero [] (y ∷ b) h l = absurd (omega (arith, l))
  mix_all zero (x ∷ a) b h l = absurd (omega arith)
  mix_all (suc n) [] [] h l = refl
  mix_all (suc n) [] (y ∷ b) h l = absurd (omega (arith, l))
  mix_all (suc n) (x ∷ a) [] h l = absurd (omega (arith, l))
  mix_all (suc n) (x ∷ a) (y ∷ b) h l = ap (λ xs. y ∷ xs) (mix_all n a b (omega arith) (omega (arith, l)))

-- ---- a row is set

pub set_unit_row : (v : WorkView) (b : Standing) (us : List UnitState) (js : List UnitJobs) (n : ℕ) → record { base = b; now = with_rows b us js n } ≡ v → AreAscending b.names
    → length us ≡ length b.names → (i : ℕ) (u : UnitState) → i < length us → with_rows b (set us i u) js n ≡ unit_set v.now i u
set_unit_row v b us js n seen sorted l i u h =
    ap (λ m. with_maps b m (jobs_by b.names js) n) (row_set dead_unit with_unit units_put b.names us sorted l i u h) ∙ ap (λ (w : WorkView). unit_set w.now i u) seen

pub set_jobs_row : (v : WorkView) (b : Standing) (us : List UnitState) (js : List UnitJobs) (n : ℕ) → record { base = b; now = with_rows b us js n } ≡ v → AreAscending b.names
    → length js ≡ length b.names → (i : ℕ) (j : UnitJobs) → i < length js → with_rows b us (set js i j) n ≡ jobs_set v.now i j
set_jobs_row v b us js n seen sorted l i j h =
    ap (λ m. with_maps b (units_by b.names us) m n) (row_set no_jobs with_jobs jobs_put_well b.names js sorted l i j h) ∙ ap (λ (w : WorkView). jobs_set w.now i j) seen

-- past the last row nothing is
pub past_unit_row : (v : WorkView) (b : Standing) (us : List UnitState) (js : List UnitJobs) (n : ℕ) → record { base = b; now = with_rows b us js n } ≡ v
    → length us ≡ length b.names → (i : ℕ) (u : UnitState) → length us ≤ i → v.now ≡ unit_set v.now i u
past_unit_row v b us js n seen l i u h = subst (λ (w : WorkView). w.now ≡ unit_set w.now i u) seen
    (ap (λ m. with_maps b m (jobs_by b.names js) n) (sym (put_past dead_unit with_unit units_put b.names (units_by b.names us) i u (omega (arith, l, h)))))

pub past_jobs_row : (v : WorkView) (b : Standing) (us : List UnitState) (js : List UnitJobs) (n : ℕ) → record { base = b; now = with_rows b us js n } ≡ v
    → length js ≡ length b.names → (i : ℕ) (j : UnitJobs) → length js ≤ i → v.now ≡ jobs_set v.now i j
past_jobs_row v b us js n seen l i j h = subst (λ (w : WorkView). w.now ≡ jobs_set w.now i j) seen
    (ap (λ m. with_maps b (units_by b.names us) m n) (sym (put_past no_jobs with_jobs jobs_put_well b.names (jobs_by b.names js) i j (omega (arith, l, h)))))

-- nothing is held that is empty
pub units_tidy : (v : WorkView) (b : Standing) (us : List UnitState) (js : List UnitJobs) (n : ℕ) → record { base = b; now = with_rows b us js n } ≡ v → AreTidyUnits v.now.state.units
units_tidy v b us js n seen = subst (λ (w : WorkView). AreTidyUnits w.now.state.units) seen (by_tidy dead_unit with_unit units_put b.names us)

pub jobs_tidy : (v : WorkView) (b : Standing) (us : List UnitState) (js : List UnitJobs) (n : ℕ) → record { base = b; now = with_rows b us js n } ≡ v → AreTidyJobs v.now.state.pending
jobs_tidy v b us js n seen = subst (λ (w : WorkView). AreTidyJobs w.now.state.pending) seen (by_tidy no_jobs with_jobs jobs_put_well b.names js)

-- the contents of a row
pub unit_row : (v : WorkView) (b : Standing) (us : List UnitState) (js : List UnitJobs) (n : ℕ) → record { base = b; now = with_rows b us js n } ≡ v → AreAscending b.names
    → (i : ℕ) → i < length v.now.names → get_or us i dead_unit ≡ state_of_unit v.now.state.units (name_at v.now.names i)
unit_row v b us js n seen sorted i h =
    subst (λ (w : WorkView). i < length w.now.names → get_or us i dead_unit ≡ state_of_unit w.now.state.units (name_at w.now.names i)) seen
    (λ k. sym (by_at dead_unit with_unit units_put b.names us (names_once b.names sorted) i k)) h

pub jobs_row : (v : WorkView) (b : Standing) (us : List UnitState) (js : List UnitJobs) (n : ℕ) → record { base = b; now = with_rows b us js n } ≡ v → AreAscending b.names
    → (i : ℕ) → i < length v.now.names → get_or js i no_jobs ≡ jobs_of_unit v.now.state.pending (name_at v.now.names i)
jobs_row v b us js n seen sorted i h =
    subst (λ (w : WorkView). i < length w.now.names → get_or js i no_jobs ≡ jobs_of_unit w.now.state.pending (name_at w.now.names i)) seen
    (λ k. sym (by_at no_jobs with_jobs jobs_put_well b.names js (names_once b.names sorted) i k)) h

-- past the last one it is a dead unit's, and no job's
pub unit_past : (v : WorkView) (b : Standing) (us : List UnitState) (js : List UnitJobs) (n : ℕ) → record { base = b; now = with_rows b us js n } ≡ v
    → length us ≡ length b.names → (i : ℕ) → length v.now.names ≤ i → get_or us i dead_unit ≡ dead_unit
unit_past v b us js n seen l i h =
    subst (λ (w : WorkView). length w.now.names ≤ i → get_or us i dead_unit ≡ dead_unit) seen (λ k. get_or_past us i dead_unit (omega (arith, l, k))) h

pub jobs_past : (v : WorkView) (b : Standing) (us : List UnitState) (js : List UnitJobs) (n : ℕ) → record { base = b; now = with_rows b us js n } ≡ v
    → length js ≡ length b.names → (i : ℕ) → length v.now.names ≤ i → get_or js i no_jobs ≡ no_jobs
jobs_past v b us js n seen l i h =
    subst (λ (w : WorkView). length w.now.names ≤ i → get_or js i no_jobs ≡ no_jobs) seen (λ k. get_or_past js i no_jobs (omega (arith, l, k))) h

-- ---- the rows that differ

not_true : (b : Bool) → not b ≡ false → b ≡ true
not_true true e = refl
not_true false e = absurd (true≢false e)

not_false : (b : Bool) → not b ≡ true → b ≡ false
not_false true e = absurd (true≢false (sym e))
not_false false e = refl

both : (p q : Bool) → p && q ≡ true → (p ≡ true) × (q ≡ true)
both true q t = (refl, t)
both false q t = cc

join : (p q : Bool) → p ≡ true → q ≡ true → p && q ≡ true
join true q e f = f
join false q e f = cc

module _ (s : Standing) (sorted : AreAscending s.names) (was : List UnitState) (had : List UnitJobs) (units : List UnitState) (jobs : List UnitJobs) (m clock next : ℕ)
    (was_len : length was ≡ length s.names) (had_len : length had ≡ length s.names) (units_len : length units ≡ length s.names) (jobs_len : length jobs ≡ length s.names) where
  abbrev step_at : ℕ → Standing
  step_at k = timed clock next (with_maps s (units_by s.names (mix dead_unit k was units)) (jobs_by s.names (mix no_jobs k had jobs)) m)

  put_one : (k : ℕ) → k < length s.names → put_row (rows_at units jobs k) (step_at k) ≡ step_at (suc k)
  put_one k h =
      let u : unit_put s.names (units_by s.names (mix dead_unit k was units)) k (get_or units k dead_unit) ≡ units_by s.names (mix dead_unit (suc k) was units) =
      sym (row_set dead_unit with_unit units_put s.names (mix dead_unit k was units) sorted (mix_length dead_unit k was units ∙ was_len) k (get_or units k dead_unit)
      (omega (arith, h, was_len, mix_length dead_unit k was units)))
      ∙ ap (units_by s.names) (mix_more dead_unit k was units (omega (arith, h, was_len)) (was_len ∙ sym units_len)) in
      let j : jobs_put s.names (jobs_by s.names (mix no_jobs k had jobs)) k (get_or jobs k no_jobs) ≡ jobs_by s.names (mix no_jobs (suc k) had jobs) =
      sym (row_set no_jobs with_jobs jobs_put_well s.names (mix no_jobs k had jobs) sorted (mix_length no_jobs k had jobs ∙ had_len) k (get_or jobs k no_jobs)
      (omega (arith, h, had_len, mix_length no_jobs k had jobs)))
      ∙ ap (jobs_by s.names) (mix_more no_jobs k had jobs (omega (arith, h, had_len)) (had_len ∙ sym jobs_len)) in
      λ i. timed clock next (with_maps s (u i) (j i) m)

  leave_one : (k : ℕ) → k < length s.names → differ_at was had units jobs k ≡ false → step_at k ≡ step_at (suc k)
  leave_one k h e =
      let t = both _ _ (not_true _ e) in
      let u = mix_same dead_unit k was units (omega (arith, h, was_len)) (was_len ∙ sym units_len) (same_unit _ _ t.0) in
      let j = mix_same no_jobs k had jobs (omega (arith, h, had_len)) (had_len ∙ sym jobs_len) (same_jobs _ _ t.1) in
      λ i. timed clock next (with_maps s (units_by s.names (u i)) (jobs_by s.names (j i)) m)

  pub rows_put : (k n : ℕ) → k + n ≡ length s.names → rows_after (picked (differ_at was had units jobs) (rows_at units jobs) k n) (step_at k) ≡ step_at (length s.names)
  rows_put k zero e = ap step_at (omega (arith, e))
  rows_put k (suc n) e = by_test (differ_at was had units jobs k) refl (rows_put (suc k) n (omega (arith, e)))
    where
      by_test : (b : Bool) → differ_at was had units jobs k ≡ b
          → rows_after (picked (differ_at was had units jobs) (rows_at units jobs) (suc k) n) (step_at (suc k)) ≡ step_at (length s.names)
          → rows_after (cond b (rows_at units jobs k ∷ []) [] ++ picked (differ_at was had units jobs) (rows_at units jobs) (suc k) n) (step_at k) ≡ step_at (length s.names)
      by_test true t rest = ap (rows_after (picked (differ_at was had units jobs) (rows_at units jobs) (suc k) n)) (put_one k (omega (arith, e))) ∙ rest
      by_test false t rest = ap (rows_after (picked (differ_at was had units jobs) (rows_at units jobs) (suc k) n)) (leave_one k (omega (arith, e)) t) ∙ rest

  -- ---- and how many they are

  abbrev before_work : State
  before_work = (with_maps s (units_by s.names was) (jobs_by s.names had) s.state.next).state

  abbrev after_work : State
  after_work = (with_maps s (units_by s.names units) (jobs_by s.names jobs) m).state

  abbrev Same : List ℕ → Type 0
  Same x = (state_of_unit before_work.units x ≡ state_of_unit after_work.units x) × (jobs_of_unit before_work.pending x ≡ jobs_of_unit after_work.pending x)

  once : AreOnce s.names
  once = names_once s.names sorted

  abbrev SameAt : ℕ → Type 0
  SameAt i = (get_or was i dead_unit ≡ get_or units i dead_unit) × (get_or had i no_jobs ≡ get_or jobs i no_jobs)

  -- the value in the rows is the value of the name
  told_here : (i : ℕ) → i < length s.names → SameAt i → Same (name_at s.names i)
  told_here i h e = (
    by_at dead_unit with_unit units_put s.names was once i h ∙ (e.0 ∙ sym (by_at dead_unit with_unit units_put s.names units once i h)),
    by_at no_jobs with_jobs jobs_put_well s.names had once i h ∙ (e.1 ∙ sym (by_at no_jobs with_jobs jobs_put_well s.names jobs once i h)),
  )

  here_told : (i : ℕ) → i < length s.names → Same (name_at s.names i) → SameAt i
  here_told i h e = (
    sym (by_at dead_unit with_unit units_put s.names was once i h) ∙ (e.0 ∙ by_at dead_unit with_unit units_put s.names units once i h),
    sym (by_at no_jobs with_jobs jobs_put_well s.names had once i h) ∙ (e.1 ∙ by_at no_jobs with_jobs jobs_put_well s.names jobs once i h),
  )

  apart_same : (x : List ℕ) → IsApart s.names x → Same x
  apart_same x a = (
    by_none dead_unit with_unit units_put s.names was x a ∙ sym (by_none dead_unit with_unit units_put s.names units x a),
    by_none no_jobs with_jobs jobs_put_well s.names had x a ∙ sym (by_none no_jobs with_jobs jobs_put_well s.names jobs x a),
  )

  same_test : (i : ℕ) → SameAt i → differ_at was had units jobs i ≡ true → ⊥
  same_test i e t =
      let u : is_same_unit (get_or was i dead_unit) (get_or units i dead_unit) ≡ true = subst (λ y. is_same_unit (get_or was i dead_unit) y ≡ true) e.0 (unit_itself (get_or was i dead_unit)) in
      let j : is_same_jobs (get_or had i no_jobs) (get_or jobs i no_jobs) ≡ true = subst (λ y. is_same_jobs (get_or had i no_jobs) y ≡ true) e.1 (jobs_itself (get_or had i no_jobs)) in
      true≢false (sym (join _ _ u j) ∙ not_false _ t)

  test_same : (i : ℕ) → differ_at was had units jobs i ≡ false → SameAt i
  test_same i t = let e = both _ _ (not_true _ t) in (same_unit _ _ e.0, same_jobs _ _ e.1)

  abbrev names_changed : List (List ℕ)
  names_changed = map (λ (r : Row). name_at s.names r.number) (changed was had units jobs (length s.names))

  seen_so : names_changed ≡ picked (differ_at was had units jobs) (name_at s.names) 0 (length s.names)
  seen_so = picked_mapped (differ_at was had units jobs) (rows_at units jobs) (λ (r : Row). name_at s.names r.number) 0 (length s.names)

  differs_in : (x : List ℕ) → Contains (picked (differ_at was had units jobs) (name_at s.names) 0 (length s.names)) x → Same x → ⊥
  differs_in x c e =
      let p = picked_is (differ_at was had units jobs) (name_at s.names) 0 (length s.names) x c in
      same_test p.0 (here_told p.0 (omega (arith, p.2)) (subst Same (sym p.4) e)) p.3

  in_where : (x : List ℕ) → (Same x → ⊥) → ((i : ℕ) × (i < length s.names) × (name_at s.names i ≡ x)) ⊎ IsApart s.names x
      → Contains (picked (differ_at was had units jobs) (name_at s.names) 0 (length s.names)) x
  in_where x d (inr apart) = absurd (d (apart_same x apart))
  in_where x d (inl (i, h, e)) = by_test (differ_at was had units jobs i) refl
    where
      by_test : (b : Bool) → differ_at was had units jobs i ≡ b → Contains (picked (differ_at was had units jobs) (name_at s.names) 0 (length s.names)) x
      by_test true t = subst (Contains (picked (differ_at was had units jobs) (name_at s.names) 0 (length s.names))) e
          (picked_there (differ_at was had units jobs) (name_at s.names) 0 (length s.names) i (omega arith) (omega (arith, h)) t)
      by_test false t = absurd (d (subst Same e (told_here i h (test_same i t))))

  pub differing : (n : ℕ) → n ≡ length (changed was had units jobs (length s.names)) → CountsDiffering before_work after_work n
  differing n l = record {
    differing = names_changed;
    count = length-map (changed was had units jobs (length s.names)) (λ (r : Row). name_at s.names r.number) ∙ sym l;
    once = subst AreAscending (sym seen_so) (pairs_picked (differ_at was had units jobs) (name_at s.names) (λ n o. IsNamedBefore n o) 0 (length s.names) (λ i j h k. sorted i j [] h (omega (arith, k))));
    exact = λ x. (λ c. differs_in x (subst (λ ns. Contains ns x) seen_so c), λ d. subst (λ ns. Contains ns x) (sym seen_so) (in_where x d (among_or_apart s.names x)));
  }

-- ---- the same, of rows in work

pub changed_more : (was : List UnitState) (had : List UnitJobs) (units : List UnitState) (jobs : List UnitJobs) (k : ℕ) (xs ys : List Row)
    → ys ≡ xs ++ one (differ_at was had units jobs) (rows_at units jobs) k → xs ≡ changed was had units jobs k → ys ≡ changed was had units jobs (k + 1)
changed_more was had units jobs k xs ys e f =
    let test = differ_at was had units jobs in
    let told = rows_at units jobs in
    let here : k ≡ 0 + k = omega arith in
    let later : suc k ≡ k + 1 = omega arith in
    e ∙ (ap (λ zs. zs ++ one test told k) f ∙ (ap (λ j. picked test told 0 k ++ one test told j) here ∙ (sym (picked_more test told 0 k) ∙ ap (picked test told 0) later)))

-- one that is no other is not among them
pub changed_no_more : (was : List UnitState) (had : List UnitJobs) (units : List UnitState) (jobs : List UnitJobs) (k : ℕ) (xs : List Row)
    → differ_at was had units jobs k ≡ false → xs ≡ changed was had units jobs k → xs ≡ changed was had units jobs (k + 1)
changed_no_more was had units jobs k xs same f =
    changed_more was had units jobs k xs xs (sym (append-nil xs) ∙ ap (λ b. xs ++ cond b (rows_at units jobs k ∷ []) []) (sym same)) f

module _ (v : WorkView) (b : Standing) (units : List UnitState) (jobs : List UnitJobs) (m : ℕ) (seen : record { base = b; now = with_rows b units jobs m } ≡ v) (sorted : AreAscending b.names)
    (was : List UnitState) (had : List UnitJobs) (were : units_by b.names was ≡ b.state.units) (had_so : jobs_by b.names had ≡ b.state.pending)
    (was_len : length was ≡ length b.names) (had_len : length had ≡ length b.names) (units_len : length units ≡ length b.names) (jobs_len : length jobs ≡ length b.names)
    (rows : List Row) (made : rows ≡ changed was had units jobs (length jobs)) where
  made_so : rows ≡ changed was had units jobs (length b.names)
  made_so = made ∙ ap (changed was had units jobs) jobs_len

  pub work_after : (clock next : ℕ) → rows_after rows (timed clock next v.base) ≡ timed clock next v.now
  work_after clock next = subst (λ (w : WorkView). rows_after rows (timed clock next w.base) ≡ timed clock next w.now) seen from_base
    where
      begins : timed clock next (with_maps b (units_by b.names was) (jobs_by b.names had) m) ≡ timed clock next b
      begins = λ i. timed clock next (with_maps b (were i) (had_so i) m)

      ends_units : mix dead_unit (length b.names) was units ≡ units
      ends_units = mix_all dead_unit (length b.names) was units (omega (arith, was_len)) (was_len ∙ sym units_len)

      ends_jobs : mix no_jobs (length b.names) had jobs ≡ jobs
      ends_jobs = mix_all no_jobs (length b.names) had jobs (omega (arith, had_len)) (had_len ∙ sym jobs_len)

      from_base : rows_after rows (timed clock next b) ≡ timed clock next (with_rows b units jobs m)
      from_base =
          ap (rows_after rows) (sym begins) ∙ (ap (λ rs. rows_after rs (timed clock next (with_maps b (units_by b.names was) (jobs_by b.names had) m))) made_so
          ∙ (rows_put b sorted was had units jobs m clock next was_len had_len units_len jobs_len 0 (length b.names) (omega arith)
          ∙ (λ i. timed clock next (with_maps b (units_by b.names (ends_units i)) (jobs_by b.names (ends_jobs i)) m))))

  pub work_counts : (n : ℕ) → n ≡ length rows → CountsDiffering v.base.state v.now.state n
  work_counts n l = subst (λ (w : WorkView). CountsDiffering w.base.state w.now.state n) seen
      (subst (λ (t : State). CountsDiffering t (with_rows b units jobs m).state n) (λ i. (with_maps b (were i) (had_so i) b.state.next).state)
      (differing b sorted was had units jobs m 0 0 was_len had_len units_len jobs_len n (l ∙ ap length made_so)))
