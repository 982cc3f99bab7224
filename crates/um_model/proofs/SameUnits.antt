-- The meaning of `==` on the states of units; and states and jobs by the names of units are the same or not.
use Rattle.std.proofs.Common.{◌≡◌, ◌&&◌, ◌==◌, ℕ, Bool, true, false, true≢false, List, [], ◌∷◌, Option, Some, None, refl, sym, ap, subst, inl, inr}
use Rattle.std.specs.Bool.{Decides}
use Rattle.std.specs.Cmp.{unsigned_Decides, booleans_Decides}
use Rattle.std.specs.Cmp.Derive.{bare_equiv}
use Rattle.std.specs.FinMap as map
use Rattle.std.specs.Option.{option_eq}
use denote.Enum.Bare.{same_true}
use Rattle.um_model.specs.contracts.service.SubState as sub_state
use Rattle.um_model.specs.contracts.service.UnitResult as unit_result
use Rattle.um_model.specs.contracts.service.EndPartialEq.TheImpl as end_eq
use Rattle.um_model.specs.contracts.limit.CountedPartialEq.TheImpl as counted_eq
use Rattle.um_model.specs.contracts.service.UnitStatePartialEq.TheImpl as derived
use Rattle.um_model.specs.declared.limit.Counted.{Counted}
use Rattle.um_model.specs.declared.service.End.{End}
use Rattle.um_model.specs.declared.service.End.TheVariants.{Code, Signal, Lost}
use Rattle.um_model.specs.declared.service.UnitState.{UnitState}
use Rattle.um_model.specs.declared.jobs.JobState.{JobState}
use Rattle.um_model.specs.declared.jobs.JobState.TheVariants.{Waiting, Running}
use Rattle.um_model.specs.declared.jobs.UnitJobs.{UnitJobs}
use Rattle.um_model.specs.Service.{ByUnit}
use Rattle.um_model.proofs.LeastLaws.{IsDecided}
use Rattle.um_model.proofs.TimersLaws.{same_name, same_option}

and_parts : (p q : Bool) → p && q ≡ true → (p ≡ true) × (q ≡ true)
and_parts true q t = (refl, t)
and_parts false q t = cc

option_same : {T : Type 0} (E : T → T → Bool) → ((x y : T) → E x y ≡ true → x ≡ y) → (a b : Option T) → option_eq E a b ≡ true → a ≡ b
option_same E each None None t = refl
option_same E each None (Some y) t = cc
option_same E each (Some x) None t = cc
option_same E each (Some x) (Some y) t = ap Some (each x y t)

end_same : (a b : End) → (end_eq.ghosts).eq a b ≡ true → a ≡ b
end_same (Code a) (Code b) t = ap Code ((unsigned_Decides a b).0 t)
end_same (Code a) (Signal b) t = cc
end_same (Code a) Lost t = cc
end_same (Signal a) (Code b) t = cc
end_same (Signal a) (Signal b) t = ap Signal ((unsigned_Decides a b).0 t)
end_same (Signal a) Lost t = cc
end_same Lost (Code b) t = cc
end_same Lost (Signal b) t = cc
end_same Lost Lost t = refl

counted_same : (a b : Counted) → (counted_eq.ghosts).eq a b ≡ true → a ≡ b
counted_same a b t =
    let (began, count) = and_parts _ _ t in
    let f = (unsigned_Decides a.began b.began).0 began in
    let g = (unsigned_Decides a.count b.count).0 count in
    λ i. record { began = f i; count = g i }

same : (a b : UnitState) → (derived.ghosts).eq a b ≡ true → a ≡ b
same a b t =
    let (sub, t1) = and_parts _ _ t in
    let (result, t2) = and_parts _ _ t1 in
    let (main, t3) = and_parts _ _ t2 in
    let (control, t4) = and_parts _ _ t3 in
    let (index, t5) = and_parts _ _ t4 in
    let (deadline, t6) = and_parts _ _ t5 in
    let (window, t7) = and_parts _ _ t6 in
    let (asked, last) = and_parts _ _ t7 in
    let sub_is = same_true sub_state.the_type tt a.sub b.sub sub in
    let result_is = same_true unit_result.the_type tt a.result b.result result in
    let main_is = option_same _ (λ x y. (unsigned_Decides x y).0) a.main b.main main in
    let control_is = option_same _ (λ x y. (unsigned_Decides x y).0) a.control b.control control in
    let index_is = (unsigned_Decides a.index b.index).0 index in
    let deadline_is = option_same _ (λ x y. (unsigned_Decides x y).0) a.deadline b.deadline deadline in
    let window_is = option_same _ counted_same a.window b.window window in
    let asked_is = (booleans_Decides a.stop_asked b.stop_asked).0 asked in
    let last_is = option_same _ end_same a.last b.last last in
    λ i. record {
      sub = sub_is i;
      result = result_is i;
      main = main_is i;
      control = control_is i;
      index = index_is i;
      deadline = deadline_is i;
      window = window_is i;
      stop_asked = asked_is i;
      last = last_is i;
    }

and_true : (p q : Bool) → p ≡ true → q ≡ true → p && q ≡ true
and_true true q e f = f
and_true false q e f = cc

option_refl : {T : Type 0} (E : T → T → Bool) → ((x : T) → E x x ≡ true) → (a : Option T) → option_eq E a a ≡ true
option_refl E each None = refl
option_refl E each (Some x) = each x

number_refl : (n : ℕ) → n == n ≡ true
number_refl n = (unsigned_Decides n n).1 refl

end_refl : (a : End) → (end_eq.ghosts).eq a a ≡ true
end_refl (Code a) = number_refl a
end_refl (Signal a) = number_refl a
end_refl Lost = refl

counted_refl : (a : Counted) → (counted_eq.ghosts).eq a a ≡ true
counted_refl a = and_true _ _ (number_refl a.began) (number_refl a.count)

itself : (a : UnitState) → (derived.ghosts).eq a a ≡ true
itself a =
    and_true _ _ ((bare_equiv sub_state.enum).refl a.sub)
    (and_true _ _ ((bare_equiv unit_result.enum).refl a.result)
    (and_true _ _ (option_refl (λ x y. x == y) number_refl a.main)
    (and_true _ _ (option_refl (λ x y. x == y) number_refl a.control)
    (and_true _ _ (number_refl a.index)
    (and_true _ _ (option_refl (λ x y. x == y) number_refl a.deadline)
    (and_true _ _ (option_refl (λ x y. (counted_eq.ghosts).eq x y) counted_refl a.window)
    (and_true _ _ ((booleans_Decides a.stop_asked a.stop_asked).1 refl) (option_refl (λ x y. (end_eq.ghosts).eq x y) end_refl a.last))))))))

pub unit_decides : (a b : UnitState) → Decides ((derived.ghosts).eq a b) (a ≡ b)
unit_decides a b = (same a b, λ e. subst (λ x. (derived.ghosts).eq a x ≡ true) e (itself a))

-- ---- maps are the same or not

pub same_job_state : (a b : JobState) → IsDecided (a ≡ b)
same_job_state Waiting Waiting = inl refl
same_job_state Running Running = inl refl
same_job_state Waiting Running = inr (λ e. cc)
same_job_state Running Waiting = inr (λ e. cc)

-- a test that decides it shows which
by_test : {P : Type 0} (b : Bool) → Decides b P → IsDecided P
by_test true decides = inl (decides.0 refl)
by_test false decides = inr (λ is. true≢false (sym (decides.1 is)))

module _ {A : Type 0} (same_value : (a b : A) → IsDecided (a ≡ b)) where
  same_entry : (e f : List ℕ × A) → IsDecided (e ≡ f)
  same_entry e f = by_parts (same_name e.0 f.0) (same_value e.1 f.1)
    where
      by_parts : IsDecided (e.0 ≡ f.0) → IsDecided (e.1 ≡ f.1) → IsDecided (e ≡ f)
      by_parts (inl name) (inl value) = inl (λ i. (name i, value i))
      by_parts (inr apart) value = inr (λ is. apart (ap (λ x. x.0) is))
      by_parts (inl name) (inr apart) = inr (λ is. apart (ap (λ x. x.1) is))

  same_rows : (es fs : List (List ℕ × A)) → IsDecided (es ≡ fs)
  same_rows [] [] = inl refl
  same_rows [] (f ∷ fs) = inr (λ is. cc)
  same_rows (e ∷ es) [] = inr (λ is. cc)
  same_rows (e ∷ es) (f ∷ fs) = by_parts (same_entry e f) (same_rows es fs)
    where
      by_parts : IsDecided (e ≡ f) → IsDecided (es ≡ fs) → IsDecided ((e ∷ es) ≡ (f ∷ fs))
      by_parts (inl first) (inl others) = inl (λ i. first i ∷ others i)
      by_parts (inr apart) others = inr (λ is. apart (cc))
      by_parts (inl first) (inr apart) = inr (λ is. apart (cc))

  -- maps by name are the same or not, if their values are
  pub same_by_name : (m n : ByUnit A) → IsDecided (m ≡ n)
  same_by_name m n = elim (same_rows (map.entries m) (map.entries n)) as (λ _. IsDecided (m ≡ n)) [
    | inl is ↦ inl (map.same_entries_map m n is)
    | inr apart ↦ inr (λ is. apart (ap map.entries is))
  ]

pub same_jobs : (a b : UnitJobs) → IsDecided (a ≡ b)
same_jobs a b = by_parts (same_option same_job_state a.stop b.stop) (same_option same_job_state a.start b.start)
  where
    by_parts : IsDecided (a.stop ≡ b.stop) → IsDecided (a.start ≡ b.start) → IsDecided (a ≡ b)
    by_parts (inl stop) (inl start) = inl (λ i. record { stop = stop i; start = start i })
    by_parts (inr apart) start = inr (λ is. apart (ap (λ (x : UnitJobs). x.stop) is))
    by_parts (inl stop) (inr apart) = inr (λ is. apart (ap (λ (x : UnitJobs). x.start) is))

pub same_units : (m n : ByUnit UnitState) → IsDecided (m ≡ n)
same_units = same_by_name (λ a b. by_test ((derived.ghosts).eq a b) (unit_decides a b))

pub same_pending : (m n : ByUnit UnitJobs) → IsDecided (m ≡ n)
same_pending = same_by_name same_jobs
