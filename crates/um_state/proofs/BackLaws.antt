-- A walk over rows from the last one back: the values put so far stand for the rows that were passed.
use Rattle.std.proofs.Common.{◌≡◌, ◌≢◌, ◌∙◌, ◌+◌, ◌-◌, ◌<◌, ◌≤◌, ℕ, Bool, true, false, cond, List, [], ◌∷◌, length, drop, get_or, Option, Some, None, refl, sym, ap, subst, arith}
use Rattle.std.proofs.lemmas.List.{drop_all, drop_more, get_or-drop, length-drop}
use Rattle.std.proofs.lemmas.Map.Views.{tells_apart}
use Rattle.std.proofs.lemmas.Map.Lookups.{exact_bytes}
use Rattle.std.specs.FinMap as map
use Rattle.std.specs.Cmp.Lexicographic.{slice_cmp, nat_list_cmp_total}
use Rattle.std.specs.Ordering.{nat_cmp, eq_by_cmp}
use Rattle.um_model.specs.Machine.{AreDeadlines}
use Rattle.um_model.specs.Service.{ByUnit, dead_unit, with_unit, state_of_unit}
use Rattle.um_model.specs.Timers.{Timers}
use Rattle.um_model.specs.declared.service.UnitState.{UnitState}
use Rattle.um_name.specs.Names.{AreAscending, IsApart, name_at}
use Rattle.um_name.proofs.NumberLaws.{names_once}
use Rattle.um_state.specs.Due.{with_deadline}
use Rattle.um_state.specs.Tables.{by_names, units_by}
use Rattle.um_state.proofs.PutLaws.{look, units_put, look_empty}
use Rattle.um_state.proofs.TableLaws.{by_none}

module _ {A : Type 0} (nothing : A) (put : ByUnit A → List ℕ → A → ByUnit A) (names : List (List ℕ)) (rows : List A) (l : length rows ≡ length names) where
  pub none_passed : by_names put (drop (length rows) names) (drop (length rows) rows) ≡ map.empty
  none_passed = ap (λ ns. by_names put ns (drop (length rows) rows)) (drop_all (length rows) names (omega (arith, l)))

  -- the row before those that were passed
  pub front : (i : ℕ) → 0 < i → i ≤ length names
      → by_names put (drop (i - 1) names) (drop (i - 1) rows) ≡ put (by_names put (drop i names) (drop i rows)) (name_at names (i - 1)) (get_or rows (i - 1) nothing)
  front i pos within =
      let n = i - 1 in
      let next : n + 1 ≡ i = omega (arith, pos) in
      (λ j. by_names put (drop_more names n [] (omega (arith, pos, within)) j) (drop_more rows n nothing (omega (arith, pos, within, l)) j))
      ∙ ap (λ k. put (by_names put (drop k names) (drop k rows)) (name_at names n) (get_or rows n nothing)) next

  pub one_passed : (i : ℕ) → 0 < i → i ≤ length names → (m more : ByUnit A) → more ≡ put m (name_at names (i - 1)) (get_or rows (i - 1) nothing)
      → m ≡ by_names put (drop i names) (drop i rows) → more ≡ by_names put (drop (i - 1) names) (drop (i - 1) rows)
  one_passed i pos within m more e h = e ∙ (ap (λ p. put p (name_at names (i - 1)) (get_or rows (i - 1) nothing)) h ∙ sym (front i pos within))

  pub all_passed : (i : ℕ) → i ≡ 0 → (m : ByUnit A) → m ≡ by_names put (drop i names) (drop i rows) → m ≡ by_names put names rows
  all_passed i z m h = h ∙ ap (λ k. by_names put (drop k names) (drop k rows)) z

-- ---- deadlines

module _ (names : List (List ℕ)) (rows : List UnitState) (sorted : AreAscending names) (l : length rows ≡ length names) where
  put_get : (t : Timers) (k x : List ℕ) (d : Option ℕ) → (eq_by_cmp (slice_cmp nat_cmp) x k ≡ true → map.get t x ≡ None)
      → map.get (with_deadline t k d) x ≡ cond (eq_by_cmp (slice_cmp nat_cmp) x k) d (map.get t x)
  put_get t k x None h = elim (eq_by_cmp (slice_cmp nat_cmp) x k) as (λ b. (b ≡ true → map.get t x ≡ None) → map.get t x ≡ cond b None (map.get t x)) [
    | true ↦ λ e. e refl
    | false ↦ λ e. refl
  ] h
  put_get t k x (Some d) h = map.get-insert nat_list_cmp_total t k d x

  either_deadline : (b : Bool) (u v : UnitState) → cond b u.deadline v.deadline ≡ (cond b u v).deadline
  either_deadline true u v = refl
  either_deadline false u v = refl

  front_apart : (i : ℕ) → 0 < i → i ≤ length names → IsApart (drop i names) (name_at names (i - 1))
  front_apart i pos within j h e =
      let low : i + j < length names = let long : j < length names - i = subst (λ n. j < n) (length-drop i names) h in omega (arith, long, within) in
      let same = names_once names sorted (i + j) (i - 1) low (omega (arith, pos, within)) (sym (get_or-drop i names j []) ∙ e) in
      omega (arith, same, pos)

  pub deadline_passed : (i : ℕ) → 0 < i → i ≤ length names → (timers more : Timers) → more ≡ with_deadline timers (name_at names (i - 1)) (get_or rows (i - 1) dead_unit).deadline
      → AreDeadlines (units_by (drop i names) (drop i rows)) timers → AreDeadlines (units_by (drop (i - 1) names) (drop (i - 1) rows)) more
  deadline_passed i pos within timers more e h = λ x.
      let k = name_at names (i - 1) in
      let r = get_or rows (i - 1) dead_unit in
      let passed = units_by (drop i names) (drop i rows) in
      let none : eq_by_cmp (slice_cmp nat_cmp) x k ≡ true → map.get timers x ≡ None = λ t.
      h x ∙ ap (λ (u : UnitState). u.deadline)
      (ap (state_of_unit passed) (tells_apart exact_bytes x k t) ∙ by_none dead_unit with_unit units_put (drop i names) (drop i rows) k (front_apart i pos within)) in
      ap (λ t. map.get t x) e
      ∙ (put_get timers k x r.deadline none
      ∙ (ap (cond (eq_by_cmp (slice_cmp nat_cmp) x k) r.deadline) (h x)
      ∙ (either_deadline (eq_by_cmp (slice_cmp nat_cmp) x k) r (state_of_unit passed x)
      ∙ ap (λ (u : UnitState). u.deadline) (sym (units_put.after passed k r x) ∙ ap (λ m. state_of_unit m x) (sym (front dead_unit with_unit names rows l i pos within))))))

  pub no_deadline : (timers : Timers) → timers ≡ map.empty → AreDeadlines (units_by (drop (length rows) names) (drop (length rows) rows)) timers
  no_deadline timers none = λ x.
      ap (λ t. map.get t x) none ∙ (map.get-empty (slice_cmp nat_cmp) x
      ∙ ap (λ (u : UnitState). u.deadline) (sym (look_empty dead_unit x) ∙ ap (λ m. state_of_unit m x) (sym (none_passed dead_unit with_unit names rows l))))

  pub all_deadlines : (i : ℕ) → i ≡ 0 → (timers : Timers) → AreDeadlines (units_by (drop i names) (drop i rows)) timers → AreDeadlines (units_by names rows) timers
  all_deadlines i z timers h = subst (λ k. AreDeadlines (units_by (drop k names) (drop k rows)) timers) z h
