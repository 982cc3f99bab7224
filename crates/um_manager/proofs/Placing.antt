-- Where a store stands from one call to the next.
use Rattle.std.proofs.Common.{◌≡◌, ◌≢◌, ◌⊎◌, ◌↔◌, inl, inr, ◌∙◌, ◌∷◌, [], ◌<◌, ℕ, List, length, Bool, true, false, Result, Ok, Err, refl, sym, ap, subst, true≢false, arith}
use Rattle.std.proofs.lemmas.Result.{err_from_is_err_and}
use Rattle.std.specs.Prelude.{IfErr}
use Rattle.std.specs.Result.{IsErrAnd}
use Rattle.um_model.specs.declared.layout.Layout.{Layout}
use Rattle.um_wire.specs.declared.refusal.Refusal.{Refusal}
use Rattle.um_wire.specs.declared.refusal.Refusal.TheVariants.{NoMemory, Device, Reopen}
use Rattle.um_sector.specs.Refused.{CountsDevice, IsLost}
use Rattle.um_manager.specs.Places.{place, is_trusted}

pub same_place : {m n : ℕ} {k l : Layout} {h i f g : Bool} → n ≡ m → l ≡ k → i ≡ h → g ≡ f → place n l (is_trusted i g) ≡ place m k (is_trusted h f)
same_place {m} {n} {k} {l} {h} {i} {f} {g} size layout honest failed =
    ap (λ x. place x l (is_trusted i g)) size ∙ ap (λ (x : Layout). place m x (is_trusted i g)) layout ∙ ap (λ x. place m k (is_trusted x g)) honest ∙ ap (λ x. place m k (is_trusted h x)) failed

pub answered_no_device : {r : Result Unit Refusal} {u : Unit} → r ≡ Ok u → r ≡ Err Device → ⊥
answered_no_device p q = cc

-- a turn that is answered fails no call
pub same_failed : {r : Result Unit Refusal} {u : Unit} {o n : Bool} → r ≡ Ok u → ((n ≡ true) ↔ ((o ≡ true) ⊎ (r ≡ Err Device))) → n ≡ o
same_failed {o = true} is failed = failed.1 (inl refl)
same_failed {o = false} {n = false} is failed = refl
same_failed {o = false} {n = true} is failed = elim (failed.0 refl) [ inl was ↦ sym was | inr device ↦ absurd (answered_no_device is device) ]

-- a refusal that is handed on
pub same_err : (r t : Result Unit Refusal) (e : Refusal) → IsErrAnd r (λ y. y ≡ e) → t ≡ Err e → r ≡ t
same_err r t e is was = let (y, err, same) = err_from_is_err_and r is in err ∙ ap Err same ∙ sym was

-- a refusal that is handed on as another answer's
pub handed_on : {A B : Type 0} {r : Result A Refusal} {t : Result B Refusal} {e y d : Refusal} → r ≡ Err y → y ≡ e → t ≡ Err e → t ≡ Err d → r ≡ Err d
handed_on p q s u = cc

pub handed_back : {A B : Type 0} {r : Result A Refusal} {t : Result B Refusal} {e y d : Refusal} → r ≡ Err y → y ≡ e → t ≡ Err e → r ≡ Err d → t ≡ Err d
handed_back p q s u = cc

pub ok_no_device : {A : Type 0} {x : A} → Ok x ≡ Err Device → ⊥
ok_no_device p = cc

-- a store has failed after two calls if it had, or if the second answers E16
pub failed_on : {A B : Type 0} {r : Result A Refusal} {t : Result B Refusal} {o m n : Bool} → m ≡ o → (t ≡ Err Device → r ≡ Err Device) → (r ≡ Err Device → t ≡ Err Device)
    → ((n ≡ true) ↔ ((m ≡ true) ⊎ (t ≡ Err Device))) → (n ≡ true) ↔ ((o ≡ true) ⊎ (r ≡ Err Device))
failed_on still there back failed = (
  (λ is. elim (failed.0 is) [ inl was ↦ inl (sym still ∙ was) | inr device ↦ inr (there device) ]),
  (λ is. failed.1 (elim is [ inl was ↦ inl (still ∙ was) | inr device ↦ inr (back device) ])),
)

pub refused_not_ok : {r : Result Unit Refusal} {e : Refusal} → r ≡ Err e → r ≡ Ok tt → ⊥
refused_not_ok p q = cc

-- ---- refusals

-- no call on the disk failed where it is answered
pub counted_ok : {r : Result Unit Refusal} {u : Unit} {m n : ℕ} → r ≡ Ok u → CountsDevice r m n → n ≡ m
counted_ok {m = m} {n = n} is counts = subst (λ r. CountsDevice r m n) is counts

differs : {b : Bool} → b ≡ true → b ≡ false → ⊥
differs p q = true≢false (sym p ∙ q)

answered_no_memory : {r : Result Unit Refusal} {u : Unit} → r ≡ Ok u → r ≡ Err NoMemory → ⊥
answered_no_memory p q = cc

answered_no_reopen : {r : Result Unit Refusal} {u : Unit} → r ≡ Ok u → r ≡ Err Reopen → ⊥
answered_no_reopen p q = cc

-- a turn that is answered follows no call that failed
pub works : {r : Result Unit Refusal} {u : Unit} (failed : Bool) → r ≡ Ok u → (r ≢ Err NoMemory → (r ≡ Err Reopen) ↔ (failed ≡ true)) → failed ≡ false
works false is exactly = refl
works true is exactly = absurd (answered_no_reopen is ((exactly (answered_no_memory is)).1 refl))

-- the end of a script whose turns were all answered
pub all_worked : {X : Type 0} (steps : List X) (index : ℕ) (failed : Bool) (u : Unit) → (0 < index → failed ≡ false) → ¬ (index < length steps)
    → (◌≡◌ {A = Result Unit Refusal} (Ok u) (Err Reopen)) ↔ ((failed ≡ true) × (steps ≢ []))
all_worked [] index failed u worked done = ((λ is. cc), (λ p. absurd (p.1 refl)))
all_worked (step ∷ steps) index failed u worked done = ((λ is. cc), (λ p. absurd (differs p.0 (worked (omega (arith, done))))))

some_steps : {X : Type 0} (steps : List X) (index : ℕ) → index < length steps → steps ≢ []
some_steps [] index within is = absurd (omega (arith, within))
some_steps (step ∷ steps) index within is = cc

-- the last turn of a script
pub last_reopen : {X : Type 0} {r t : Result Unit Refusal} {f h : Bool} (steps : List X) (index : ℕ) → r ≡ t → f ≡ h → index < length steps
    → (t ≢ Err NoMemory → (t ≡ Err Reopen) ↔ (f ≡ true)) → r ≢ Err NoMemory → (r ≡ Err Reopen) ↔ ((h ≡ true) × (steps ≢ []))
last_reopen steps index same failed within exactly other =
    let both = exactly (λ is. other (same ∙ is)) in (
      (λ is. (sym failed ∙ both.0 (sym same ∙ is), some_steps steps index within)),
      (λ p. same ∙ both.1 (failed ∙ p.0)),
    )

-- no call failed before, so the refusal is that of the device
pub device_alone : (result : Result Unit Refusal) (failed : Bool) → failed ≡ false → IfErr result (λ e. (e ≡ Device) ⊎ (e ≡ Reopen)) → ((result ≡ Err Reopen) ↔ (failed ≡ true))
    → IfErr result (λ e. e ≡ Device)
device_alone (Ok u) failed works refused reopen = tt
device_alone (Err e) failed works refused reopen = elim refused [ inl device ↦ device | inr again ↦ absurd (differs (reopen.0 (ap Err again)) works) ]
