-- `==` of rows: of unit states, and of pending jobs.
use Rattle.std.proofs.Common.{◌≡◌, ◌&&◌, Bool, true, false, Option, Some, None, refl, ap, subst}
use Rattle.std.specs.Cmp.Derive.{bare_equiv}
use Rattle.std.specs.Option.{option_eq}
use denote.Enum.Bare.{same_true}
use Rattle.um_model.specs.contracts.jobs.JobState as job_type
use Rattle.um_model.specs.contracts.jobs.JobStatePartialEq.TheImpl as job_state
use Rattle.um_model.specs.declared.jobs.JobState.{JobState}
use Rattle.um_model.specs.declared.jobs.UnitJobs.{UnitJobs}
use Rattle.um_model.specs.declared.service.UnitState.{UnitState}
use Rattle.um_model.proofs.SameUnits.{unit_decides}
use Rattle.um_state.specs.Working.{is_same_jobs, is_same_unit}

pub same_unit : (a b : UnitState) → is_same_unit a b ≡ true → a ≡ b
same_unit a b = (unit_decides a b).0

pub unit_itself : (a : UnitState) → is_same_unit a a ≡ true
unit_itself a = (unit_decides a a).1 refl

both : (p q : Bool) → p && q ≡ true → (p ≡ true) × (q ≡ true)
both true q t = (refl, t)
both false q t = cc

join : (p q : Bool) → p ≡ true → q ≡ true → p && q ≡ true
join true q e f = f
join false q e f = cc

option_same : {X : Type 0} (E : X → X → Bool) → ((x y : X) → E x y ≡ true → x ≡ y) → (a b : Option X) → option_eq E a b ≡ true → a ≡ b
option_same E each None None t = refl
option_same E each None (Some y) t = cc
option_same E each (Some x) None t = cc
option_same E each (Some x) (Some y) t = ap Some (each x y t)

option_refl : {X : Type 0} (E : X → X → Bool) → ((x : X) → E x x ≡ true) → (a : Option X) → option_eq E a a ≡ true
option_refl E each None = refl
option_refl E each (Some x) = each x

job_same : (a b : JobState) → (job_state.ghosts).eq a b ≡ true → a ≡ b
job_same a b t = same_true job_type.the_type tt a b t

pub same_jobs : (a b : UnitJobs) → is_same_jobs a b ≡ true → a ≡ b
same_jobs a b t =
    let (stop, start) = both _ _ t in
    let stop_is = option_same _ job_same a.stop b.stop stop in
    let start_is = option_same _ job_same a.start b.start start in
    λ i. record { stop = stop_is i; start = start_is i }

pub jobs_itself : (a : UnitJobs) → is_same_jobs a a ≡ true
jobs_itself a =
    join _ _ (option_refl (λ x y. (job_state.ghosts).eq x y) (bare_equiv job_type.enum).refl a.stop) (option_refl (λ x y. (job_state.ghosts).eq x y) (bare_equiv job_type.enum).refl a.start)

-- both rows are as they were
pub same_rows : (a b : UnitState) (c d : UnitJobs) → a ≡ b → c ≡ d → is_same_unit a b && is_same_jobs c d ≡ true
same_rows a b c d u j = join _ _ (subst (λ x. is_same_unit a x ≡ true) u (unit_itself a)) (subst (λ x. is_same_jobs c x ≡ true) j (jobs_itself c))
