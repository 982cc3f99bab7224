-- The entries of the map that a table stands for are its rows of which something is held, in the order of the names.
use Rattle.std.proofs.Common.{◌≡◌, ◌≢◌, ◌∙◌, ◌+◌, ◌<◌, ◌&&◌, ◌++◌, ℕ, zero, suc, Bool, true, false, true≢false, not, cond, if◌then◌else◌, List, [], ◌∷◌, length, get_or, map, flat_map, Option, Some, unwrap_or, refl, sym, ap, subst, arith, T, append_assoc, append-nil}
use Rattle.std.proofs.lemmas.Option.{none-some, same_Some}
use Rattle.std.proofs.lemmas.Map.Views.{tells_apart}
use Rattle.std.proofs.lemmas.Map.Lookups.{exact_bytes}
use Rattle.std.specs.FinMap as finite
use Rattle.std.specs.FinMap.Entries.{below_all}
use Rattle.std.specs.List.{list_all}
use Rattle.std.specs.Cmp.Lexicographic.{slice_cmp}
use Rattle.std.specs.Ordering.{nat_cmp, eq_by_cmp, is_lt}
use Rattle.um_model.specs.Least.{IsNamedBefore}
use Rattle.um_model.specs.Jobs.{no_jobs, with_jobs, has_job, jobs_shown, jobs_shown_of}
use Rattle.um_model.specs.Service.{ByUnit, dead_unit, with_unit, holds_nothing}
use Rattle.um_model.specs.declared.jobs.UnitJobs.{UnitJobs}
use Rattle.um_model.specs.declared.service.UnitState.{UnitState}
use Rattle.um_model.proofs.UnitLaws.{same_tidy, nothing_held, not_dead, no_job_held, not_jobless}
use Rattle.um_name.specs.Names.{name_at, AreAscending}
use Rattle.um_name.proofs.NumberLaws.{AreOnce, names_once}
use Rattle.um_state.specs.Tables.{by_names, units_by, jobs_by}
use Rattle.um_state.proofs.PutLaws.{look, Puts, look_empty, units_put, jobs_put_well}
use Rattle.um_state.proofs.TableLaws.{by_tidy, by_none, once_later, first_apart}

-- the rows of which something is held, with their names
abbrev pub held_rows : {A : Type 0} → (A → Bool) → List (List ℕ) → List A → List (List ℕ × A)
held_rows is_held [] rows = []
held_rows is_held (n ∷ ns) [] = []
held_rows is_held (n ∷ ns) (row ∷ rows) = if is_held row then (n, row) ∷ held_rows is_held ns rows else held_rows is_held ns rows

-- the values of as many numbers from one on, one after another
abbrev pub gathered : {X : Type 0} → (ℕ → List X) → ℕ → ℕ → List X
gathered f k zero = []
gathered f k (suc n) = f k ++ gathered f (suc k) n

both_hold : (a b : Bool) → T a → T b → T (a && b)
both_hold true b h k = k
both_hold false b h k = absurd h

module _ {A : Type 0} (nothing : A) (put : ByUnit A → List ℕ → A → ByUnit A) (puts : Puts nothing put) (is_held : A → Bool)
    (empty : (x : A) → is_held x ≡ false → x ≡ nothing) (held : (x : A) → is_held x ≡ true → x ≢ nothing) where
  below : (k : List ℕ) (names : List (List ℕ)) (rows : List A) → ((i : ℕ) → i < length names → IsNamedBefore k (name_at names i)) → T (below_all (slice_cmp nat_cmp) k (held_rows is_held names rows))
  below k [] rows h = tt
  below k (n ∷ ns) [] h = tt
  below k (n ∷ ns) (r ∷ rows) h = by (is_held r) (below k ns rows (λ i l. h (suc i) (omega (arith, l))))
    where
      by : (b : Bool) → T (below_all (slice_cmp nat_cmp) k (held_rows is_held ns rows)) → T (below_all (slice_cmp nat_cmp) k (cond b ((n, r) ∷ held_rows is_held ns rows) (held_rows is_held ns rows)))
      by true rest = both_hold _ _ (subst (λ o. T (is_lt o)) (sym (h 0 (omega arith))) tt) rest
      by false rest = rest

  rising : (names : List (List ℕ)) (rows : List A) → AreAscending names → T (finite.is_sorted (slice_cmp nat_cmp) (held_rows is_held names rows))
  rising [] rows s = tt
  rising (n ∷ ns) [] s = tt
  rising (n ∷ ns) (r ∷ rows) s = by (is_held r) (rising ns rows (λ i j d h k. s (suc i) (suc j) d (omega (arith, h)) (omega (arith, k))))
    where
      by : (b : Bool) → T (finite.is_sorted (slice_cmp nat_cmp) (held_rows is_held ns rows)) → T (finite.is_sorted (slice_cmp nat_cmp) (cond b ((n, r) ∷ held_rows is_held ns rows) (held_rows is_held ns rows)))
      by true rest = both_hold _ _ (below n ns rows (λ i l. s 0 (suc i) [] (omega arith) (omega (arith, l)))) rest
      by false rest = rest

  put_in : (b : Bool) (o : Option A) (x : A) → cond b x (unwrap_or o nothing) ≡ unwrap_or (cond b (Some x) o) nothing
  put_in true o x = refl
  put_in false o x = refl

  left_out : (b : Bool) (x y : A) → (b ≡ true → y ≡ x) → cond b x y ≡ y
  left_out true x y e = sym (e refl)
  left_out false x y e = refl

  found : (names : List (List ℕ)) (rows : List A) → AreOnce names → (q : List ℕ) → look nothing (by_names put names rows) q ≡ unwrap_or (finite.find (slice_cmp nat_cmp) q (held_rows is_held names rows)) nothing
  found [] rows once q = look_empty nothing q
  found (n ∷ ns) [] once q = look_empty nothing q
  found (n ∷ ns) (r ∷ rows) once q = puts.after (by_names put ns rows) n r q ∙ by (is_held r) refl (found ns rows (once_later n ns once) q)
    where
      by : (b : Bool) → is_held r ≡ b → look nothing (by_names put ns rows) q ≡ unwrap_or (finite.find (slice_cmp nat_cmp) q (held_rows is_held ns rows)) nothing
          → cond (eq_by_cmp (slice_cmp nat_cmp) q n) r (look nothing (by_names put ns rows) q) ≡ unwrap_or (finite.find (slice_cmp nat_cmp) q (cond b ((n, r) ∷ held_rows is_held ns rows) (held_rows is_held ns rows))) nothing
      by true t rest = ap (cond (eq_by_cmp (slice_cmp nat_cmp) q n) r) rest ∙ put_in (eq_by_cmp (slice_cmp nat_cmp) q n) (finite.find (slice_cmp nat_cmp) q (held_rows is_held ns rows)) r
      by false t rest =
          left_out (eq_by_cmp (slice_cmp nat_cmp) q n) r (look nothing (by_names put ns rows) q)
          (λ same. by_none nothing put puts ns rows q (λ i h is. first_apart n ns once i h (sym (tells_apart exact_bytes q n same) ∙ sym is)) ∙ sym (empty r t)) ∙ rest

  none_empty : (names : List (List ℕ)) (rows : List A) (q : List ℕ) → finite.find (slice_cmp nat_cmp) q (held_rows is_held names rows) ≢ Some nothing
  none_empty [] rows q e = none-some nothing e
  none_empty (n ∷ ns) [] q e = none-some nothing e
  none_empty (n ∷ ns) (r ∷ rows) q e = by (is_held r) refl (none_empty ns rows q) e
    where
      in_front : (c : Bool) (o : Option A) → is_held r ≡ true → o ≢ Some nothing → cond c (Some r) o ≢ Some nothing
      in_front true o t h f = held r t (same_Some r nothing f)
      in_front false o t h f = h f

      by : (b : Bool) → is_held r ≡ b → finite.find (slice_cmp nat_cmp) q (held_rows is_held ns rows) ≢ Some nothing
          → finite.find (slice_cmp nat_cmp) q (cond b ((n, r) ∷ held_rows is_held ns rows) (held_rows is_held ns rows)) ≢ Some nothing
      by true t rest = in_front (eq_by_cmp (slice_cmp nat_cmp) q n) (finite.find (slice_cmp nat_cmp) q (held_rows is_held ns rows)) t rest
      by false t rest = rest

  pub entries_by : (names : List (List ℕ)) (rows : List A) → AreAscending names → finite.entries (by_names put names rows) ≡ held_rows is_held names rows
  entries_by names rows sorted =
      let up = rising names rows sorted in
      let got = λ (q : List ℕ). finite.get-from_sorted (slice_cmp nat_cmp) (held_rows is_held names rows) q up in
      ap finite.entries (same_tidy nothing (by_names put names rows) (finite.from_sorted (held_rows is_held names rows)) (by_tidy nothing put puts names rows)
      (λ q e. none_empty names rows q (sym (got q) ∙ e))
      (λ q. found names rows (names_once names sorted) q ∙ ap (λ o. unwrap_or o nothing) (sym (got q))))
      ∙ finite.entries-from_sorted (slice_cmp nat_cmp) (held_rows is_held names rows) up

-- ---- a list over the entries is a list over the rows

-- one number more
pub gathered_more : {X : Type 0} (f : ℕ → List X) (k n : ℕ) → gathered f k (suc n) ≡ gathered f k n ++ f (k + n)
gathered_more f k zero = append-nil (f k) ∙ ap f (omega arith)
gathered_more f k (suc n) =
    ap (λ xs. f k ++ xs) (gathered_more f (suc k) n)
    ∙ (sym (append_assoc (f k) (gathered f (suc k) n) (f (suc k + n))) ∙ ap (λ j. (f k ++ gathered f (suc k) n) ++ f j) (omega arith))

later : {X : Type 0} (f : ℕ → List X) (k n : ℕ) → gathered f (suc k) n ≡ gathered (λ i. f (suc i)) k n
later f k zero = refl
later f k (suc n) = ap (λ xs. f (suc k) ++ xs) (later f (suc k) n)

-- the list so far is that of the numbers before this one, and now includes this one
pub one_more : {X : Type 0} (f : ℕ → List X) (i : ℕ) (begun told now : List X) → now ≡ told ++ f i → told ≡ begun ++ gathered f 0 i → now ≡ begun ++ gathered f 0 (i + 1)
one_more f i begun told now e h =
    let here : i ≡ 0 + i = omega arith in
    let next : suc i ≡ i + 1 = omega arith in
    e ∙ (ap (λ xs. xs ++ f i) h ∙ (append_assoc begun (gathered f 0 i) (f i) ∙ ap (λ xs. begun ++ xs) (ap (λ j. gathered f 0 i ++ f j) here ∙ (sym (gathered_more f 0 i) ∙ ap (gathered f 0) next))))

module _ {A : Type 0} (nothing : A) (is_held : A → Bool) where
  -- the names of the rows of which something is held
  pub keys_gathered : (names : List (List ℕ)) (rows : List A) → length rows ≡ length names
      → map (λ (e : List ℕ × A). e.0) (held_rows is_held names rows) ≡ gathered (λ i. cond (is_held (get_or rows i nothing)) (name_at names i ∷ []) []) 0 (length names)
  keys_gathered [] rows l = refl
  keys_gathered (n ∷ ns) [] l = absurd (omega (arith, l))
  keys_gathered (n ∷ ns) (r ∷ rows) l =
      by (is_held r) (keys_gathered ns rows (omega (arith, l)))
      ∙ ap (λ xs. cond (is_held r) (n ∷ []) [] ++ xs) (sym (later (λ i. cond (is_held (get_or (r ∷ rows) i nothing)) (name_at (n ∷ ns) i ∷ []) []) 0 (length ns)))
    where
      by : (b : Bool) → map (λ (e : List ℕ × A). e.0) (held_rows is_held ns rows) ≡ gathered (λ i. cond (is_held (get_or rows i nothing)) (name_at ns i ∷ []) []) 0 (length ns)
          → map (λ (e : List ℕ × A). e.0) (cond b ((n, r) ∷ held_rows is_held ns rows) (held_rows is_held ns rows))
          ≡ cond b (n ∷ []) [] ++ gathered (λ i. cond (is_held (get_or rows i nothing)) (name_at ns i ∷ []) []) 0 (length ns)
      by true rest = ap (λ xs. n ∷ xs) rest
      by false rest = rest

  -- the values of each row, where a row of which nothing is held has none
  pub flat_gathered : {X : Type 0} (g : List ℕ → A → List X) → ((n : List ℕ) (r : A) → is_held r ≡ false → g n r ≡ []) → (names : List (List ℕ)) (rows : List A) → length rows ≡ length names
      → flat_map (λ (e : List ℕ × A). g e.0 e.1) (held_rows is_held names rows) ≡ gathered (λ i. g (name_at names i) (get_or rows i nothing)) 0 (length names)
  flat_gathered g none [] rows l = refl
  flat_gathered g none (n ∷ ns) [] l = absurd (omega (arith, l))
  flat_gathered {X = X} g none (n ∷ ns) (r ∷ rows) l =
      by (is_held r) refl (flat_gathered g none ns rows (omega (arith, l)))
      ∙ ap (λ xs. g n r ++ xs) (sym (later (λ i. g (name_at (n ∷ ns) i) (get_or (r ∷ rows) i nothing)) 0 (length ns)))
    where
      by : (b : Bool) → is_held r ≡ b → flat_map (λ (e : List ℕ × A). g e.0 e.1) (held_rows is_held ns rows) ≡ gathered (λ i. g (name_at ns i) (get_or rows i nothing)) 0 (length ns)
          → flat_map (λ (e : List ℕ × A). g e.0 e.1) (cond b ((n, r) ∷ held_rows is_held ns rows) (held_rows is_held ns rows))
          ≡ g n r ++ gathered (λ i. g (name_at ns i) (get_or rows i nothing)) 0 (length ns)
      by true t rest = ap (λ xs. g n r ++ xs) rest
      by false t rest = rest ∙ ap (λ ys. ys ++ gathered (λ i. g (name_at ns i) (get_or rows i nothing)) 0 (length ns)) (sym (none n r t))

  pub flat_of_rows : {X : Type 0} (g : A → List X) → ((r : A) → is_held r ≡ false → g r ≡ []) → (names : List (List ℕ)) (rows : List A) → length rows ≡ length names
      → flat_map (λ (e : List ℕ × A). g e.1) (held_rows is_held names rows) ≡ flat_map g rows
  flat_of_rows g none [] [] l = refl
  flat_of_rows g none [] (r ∷ rows) l = absurd (omega (arith, l))
  flat_of_rows g none (n ∷ ns) [] l = absurd (omega (arith, l))
  flat_of_rows g none (n ∷ ns) (r ∷ rows) l = by (is_held r) refl (flat_of_rows g none ns rows (omega (arith, l)))
    where
      by : (b : Bool) → is_held r ≡ b → flat_map (λ (e : List ℕ × A). g e.1) (held_rows is_held ns rows) ≡ flat_map g rows
          → flat_map (λ (e : List ℕ × A). g e.1) (cond b ((n, r) ∷ held_rows is_held ns rows) (held_rows is_held ns rows)) ≡ g r ++ flat_map g rows
      by true t rest = ap (λ xs. g r ++ xs) rest
      by false t rest = rest ∙ ap (λ ys. ys ++ flat_map g rows) (sym (none r t))

  pub all_of_rows : (test : A → Bool) → ((r : A) → is_held r ≡ false → test r ≡ true) → (names : List (List ℕ)) (rows : List A) → length rows ≡ length names
      → list_all (λ (e : List ℕ × A). test e.1) (held_rows is_held names rows) ≡ list_all test rows
  all_of_rows test passes [] [] l = refl
  all_of_rows test passes [] (r ∷ rows) l = absurd (omega (arith, l))
  all_of_rows test passes (n ∷ ns) [] l = absurd (omega (arith, l))
  all_of_rows test passes (n ∷ ns) (r ∷ rows) l = by (is_held r) refl (all_of_rows test passes ns rows (omega (arith, l)))
    where
      by : (b : Bool) → is_held r ≡ b → list_all (λ (e : List ℕ × A). test e.1) (held_rows is_held ns rows) ≡ list_all test rows
          → list_all (λ (e : List ℕ × A). test e.1) (cond b ((n, r) ∷ held_rows is_held ns rows) (held_rows is_held ns rows)) ≡ (test r && list_all test rows)
      by true t rest = ap (λ c. test r && c) rest
      by false t rest = rest ∙ ap (λ c. c && list_all test rows) (sym (passes r t))

-- ---- units and pending jobs

abbrev pub is_held_unit : UnitState → Bool
is_held_unit u = not (holds_nothing u)

pub not_held : (u : UnitState) → is_held_unit u ≡ false → u ≡ dead_unit
not_held u e = nothing_held u (turn (holds_nothing u) e)
  where
    turn : (b : Bool) → not b ≡ false → b ≡ true
    turn true e = refl
    turn false e = absurd (true≢false e)

pub is_there : (u : UnitState) → is_held_unit u ≡ true → u ≢ dead_unit
is_there u e = not_dead u (turn (holds_nothing u) e)
  where
    turn : (b : Bool) → not b ≡ true → b ≡ false
    turn true e = absurd (true≢false (sym e))
    turn false e = refl

pub unit_entries : (names : List (List ℕ)) (rows : List UnitState) → AreAscending names → finite.entries (units_by names rows) ≡ held_rows is_held_unit names rows
unit_entries names rows sorted = entries_by dead_unit with_unit units_put is_held_unit not_held is_there names rows sorted

pub job_entries : (names : List (List ℕ)) (rows : List UnitJobs) → AreAscending names → finite.entries (jobs_by names rows) ≡ held_rows has_job names rows
job_entries names rows sorted = entries_by no_jobs with_jobs jobs_put_well has_job no_job_held not_jobless names rows sorted

unit_keys_are : (m : ByUnit UnitState) → map (λ (e : List ℕ × UnitState). e.0) (finite.entries m) ≡ finite.keys m
unit_keys_are m = refl

job_keys_are : (m : ByUnit UnitJobs) → map (λ (e : List ℕ × UnitJobs). e.0) (finite.entries m) ≡ finite.keys m
job_keys_are m = refl

pub unit_keys : (names : List (List ℕ)) (rows : List UnitState) → AreAscending names → length rows ≡ length names
    → gathered (λ i. cond (is_held_unit (get_or rows i dead_unit)) (name_at names i ∷ []) []) 0 (length names) ≡ finite.keys (units_by names rows)
unit_keys names rows sorted l =
    sym (keys_gathered dead_unit is_held_unit names rows l)
    ∙ (ap (map (λ (e : List ℕ × UnitState). e.0)) (sym (unit_entries names rows sorted)) ∙ unit_keys_are (units_by names rows))

pub job_keys : (names : List (List ℕ)) (rows : List UnitJobs) → AreAscending names → length rows ≡ length names
    → gathered (λ i. cond (has_job (get_or rows i no_jobs)) (name_at names i ∷ []) []) 0 (length names) ≡ finite.keys (jobs_by names rows)
job_keys names rows sorted l =
    sym (keys_gathered no_jobs has_job names rows l)
    ∙ (ap (map (λ (e : List ℕ × UnitJobs). e.0)) (sym (job_entries names rows sorted)) ∙ job_keys_are (jobs_by names rows))

-- the jobs of the rows, one after another, are the listed jobs
pub jobs_told : (names : List (List ℕ)) (rows : List UnitJobs) → AreAscending names → length rows ≡ length names
    → gathered (λ i. jobs_shown_of (name_at names i) (get_or rows i no_jobs)) 0 (length names) ≡ jobs_shown (jobs_by names rows)
jobs_told names rows sorted l =
    sym (flat_gathered no_jobs has_job jobs_shown_of none names rows l) ∙ ap (flat_map (λ (e : List ℕ × UnitJobs). jobs_shown_of e.0 e.1)) (sym (job_entries names rows sorted))
  where
    none : (n : List ℕ) (r : UnitJobs) → has_job r ≡ false → jobs_shown_of n r ≡ []
    none n r e = ap (jobs_shown_of n) (no_job_held r e)

-- the values of each row are those of each entry, and a test of all rows is one of all entries, where a dead unit doesn't count
pub unit_flat : {X : Type 0} (g : UnitState → List X) → g dead_unit ≡ [] → (names : List (List ℕ)) (rows : List UnitState) → AreAscending names → length rows ≡ length names
    → flat_map g rows ≡ flat_map (λ (e : List ℕ × UnitState). g e.1) (finite.entries (units_by names rows))
unit_flat g dead names rows sorted l =
    sym (flat_of_rows dead_unit is_held_unit g (λ r e. ap g (not_held r e) ∙ dead) names rows l) ∙ ap (flat_map (λ (e : List ℕ × UnitState). g e.1)) (sym (unit_entries names rows sorted))

pub unit_all : (test : UnitState → Bool) → test dead_unit ≡ true → (names : List (List ℕ)) (rows : List UnitState) → AreAscending names → length rows ≡ length names
    → list_all test rows ≡ list_all (λ (e : List ℕ × UnitState). test e.1) (finite.entries (units_by names rows))
unit_all test dead names rows sorted l =
    sym (all_of_rows dead_unit is_held_unit test (λ r e. ap test (not_held r e) ∙ dead) names rows l) ∙ ap (list_all (λ (e : List ℕ × UnitState). test e.1)) (sym (unit_entries names rows sorted))
