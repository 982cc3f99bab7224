-- The joint facts of two clauses on one result, and refusals.
use Rattle.std.proofs.Common.{◌≡◌, ◌≢◌, ◌⊎◌, ◌↔◌, inl, inr, ⊎_elim, ℕ, Bool, true, false, [], Result, Ok, Err, sym, subst, ◌∙◌}
use Rattle.std.proofs.lemmas.Bool.{cases_Bool, false≢true}
use Rattle.std.specs.Result.{IfOk, OnOk}
use Rattle.um_memory.specs.Stores.{IsOfStep}
use Rattle.um_model.specs.Machine as model
use Rattle.um_model.specs.Machine.{State, Input, Reply, Step}
use Rattle.um_sector.specs.Refused.{IsLost}
use Rattle.um_wire.specs.Refusal.{refused_of}
use Rattle.um_wire.specs.declared.refusal.Refusal.{Refusal}
use Rattle.um_wire.specs.declared.refusal.Refusal.TheVariants.{Device, Reopen, GenerationsSpent}

pub if_ok_with : {T E : Type 0} (r : Result T E) (P R : T → Type 0) (Q : Type 0) → IfOk r P → OnOk r Q → ((x : T) → P x → Q → R x) → IfOk r R
if_ok_with (Ok x) P R Q p q f = f x p q
if_ok_with (Err e) P R Q p q f = tt

pub if_ok_both : {T E : Type 0} (r : Result T E) (P Q R : T → Type 0) → IfOk r P → IfOk r Q → ((x : T) → P x → Q x → R x) → IfOk r R
if_ok_both (Ok x) P Q R p q f = f x p q
if_ok_both (Err e) P Q R p q f = tt

pub on_ok : {T E : Type 0} (r : Result T E) (P Q : Type 0) → OnOk r P → (P → Q) → OnOk r Q
on_ok (Ok x) P Q p f = f p
on_ok (Err e) P Q p f = tt

pub at_ok : {T E : Type 0} (r : Result T E) (Q : Type 0) → Q → OnOk r Q
at_ok (Ok x) Q q = q
at_ok (Err e) Q q = tt

-- a refusal of none of the other causes is that of the step
pub of_step : {A B : Type 0} (e : Refusal) → IsLost e ⊎ (e ≡ Reopen) ⊎ (e ≡ GenerationsSpent) ⊎ (A × B) → IsOfStep e → B
of_step e (inl (inl same)) is = absurd (is.memory same)
of_step e (inl (inr same)) is = absurd (is.device same)
of_step e (inr (inl same)) is = absurd (is.reopen same)
of_step e (inr (inr (inl same))) is = absurd (is.spent same)
of_step e (inr (inr (inr (a, b)))) is = b

-- that step with the input, the reply and the state as they stand
pub step_at : (size : ℕ) (s t : State) (i j : Input) (reply : Reply) (e : Refusal) → Step size s i (model.Refusal (refused_of e)) [] s → i ≡ j → t ≡ s
    → reply ≡ model.Refusal (refused_of e) → Step size s j reply [] t
step_at size s t i j reply e step input state told =
    subst (λ (z : State). Step size s j reply [] z) (sym state) (subst (λ (r : Reply). Step size s j r [] s) (sym told)
    (subst (λ (k : Input). Step size s k (model.Refusal (refused_of e)) [] s) input step))

one_error : {T : Type 0} (r : Result T Refusal) (x y : Refusal) → r ≡ Err x → r ≡ Err y → x ≡ y
one_error r x y p q = cc

-- a keeper that is refused by another than its disk works on
pub works_on : {T : Type 0} (r : Result T Refusal) (old new : Bool) (e : Refusal) → r ≡ Err e → old ≡ false → ((new ≡ true) ↔ ((old ≡ true) ⊎ (r ≡ Err Device))) → e ≢ Device
    → new ≡ false
works_on r old new e is works failed differs = ⊎_elim
    (λ yes. ⊎_elim (λ was. absurd (false≢true (sym works ∙ was))) (λ lost. absurd (differs (one_error r e Device is lost))) (failed.0 yes))
    (λ well. well)
    (cases_Bool new)
