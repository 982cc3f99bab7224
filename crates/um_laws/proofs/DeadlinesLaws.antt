-- The deadlines of units, as a scan of their entries collects them.
use Rattle.std.proofs.Common.{ℕ, ◌≡◌, ◌∙◌, Bool, true, false, cond, List, [], ◌∷◌, Option, Some, None, refl, sym, ap, Less, is_eq}
use Rattle.std.specs.List.{AllByRecursion}
use Rattle.std.specs.List.Sorted.{IsStrictlySortedBy}
use Rattle.std.specs.FinMap as map
use Rattle.std.specs.Map.{keys_of}
use Rattle.std.specs.Cmp.Lexicographic.{slice_cmp, nat_list_cmp_total}
use Rattle.std.specs.Ordering.{nat_cmp, eq_by_cmp}
use Rattle.std.proofs.lemmas.Map.Views.{tells_apart}
use Rattle.std.proofs.lemmas.Map.Lookups.{exact_bytes}
use Rattle.um_model.specs.Timers.{Timers}
use Rattle.um_model.specs.declared.service.UnitState.{UnitState}

-- with a deadline, if there is one
abbrev pub with_deadline : Timers → List ℕ → Option ℕ → Timers
with_deadline m n None = m
with_deadline m n (Some d) = map.insert m n d

-- with the deadlines of these entries
abbrev pub with_deadlines : Timers → List (List ℕ × UnitState) → Timers
with_deadlines m [] = m
with_deadlines m (e ∷ es) = with_deadlines (with_deadline m e.0 e.1.deadline) es

abbrev deadline_in : Option UnitState → Option ℕ
deadline_in None = None
deadline_in (Some u) = u.deadline

abbrev pub or_else : Option ℕ → Option ℕ → Option ℕ
or_else None o = o
or_else (Some x) o = Some x

absent : (n q : List ℕ) (es : List (List ℕ × UnitState)) → n ≡ q → AllByRecursion (λ y. slice_cmp nat_cmp n y ≡ Less) (keys_of es) → map.find (slice_cmp nat_cmp) q es ≡ None
absent n q [] e a = refl
absent n q (x ∷ es) e a =
    let other : eq_by_cmp (slice_cmp nat_cmp) q x.0 ≡ false = ap (λ m. is_eq (slice_cmp nat_cmp m x.0)) (sym e) ∙ ap is_eq a.0 in
    ap (λ b. cond b (Some x.1) (map.find (slice_cmp nat_cmp) q es)) other ∙ absent n q es e a.1

pub get_with : (m : Timers) (n q : List ℕ) (o : Option ℕ) → map.get (with_deadline m n o) q ≡ cond (eq_by_cmp (slice_cmp nat_cmp) q n) (or_else o (map.get m q)) (map.get m q)
get_with m n q None = elim (eq_by_cmp (slice_cmp nat_cmp) q n) as (λ b. map.get m q ≡ cond b (map.get m q) (map.get m q)) [
  | true ↦ refl
  | false ↦ refl
]
get_with m n q (Some d) = map.get-insert nat_list_cmp_total m n d q

-- the deadline here or in the rest: a unit that stands here stands nowhere else
put_first : (b : Bool) (f : Option UnitState) (u : UnitState) (g : Option ℕ) → (b ≡ true → f ≡ None)
    → or_else (deadline_in f) (cond b (or_else u.deadline g) g) ≡ or_else (deadline_in (cond b (Some u) f)) g
put_first true f u g h = ap (λ o. or_else (deadline_in o) (or_else u.deadline g)) (h refl)
put_first false f u g h = refl

get_all : (m : Timers) (es : List (List ℕ × UnitState)) (q : List ℕ) → IsStrictlySortedBy (slice_cmp nat_cmp) (keys_of es)
    → map.get (with_deadlines m es) q ≡ or_else (deadline_in (map.find (slice_cmp nat_cmp) q es)) (map.get m q)
unfolding IsStrictlySortedBy
get_all m [] q s = refl
get_all m (e ∷ es) q s =
    get_all (with_deadline m e.0 e.1.deadline) es q s.1
    ∙ (ap (or_else (deadline_in (map.find (slice_cmp nat_cmp) q es))) (get_with m e.0 q e.1.deadline)
    ∙ put_first (eq_by_cmp (slice_cmp nat_cmp) q e.0) (map.find (slice_cmp nat_cmp) q es) e.1 (map.get m q)
    (λ t. absent e.0 q es (sym (tells_apart exact_bytes q e.0 t)) s.0))
