-- Of results.
use Rattle.std.proofs.Common.{◌≡◌, ◌⊎◌, ◌∙◌, inl, inr, sym, subst}
use Rattle.std.specs.Prelude.{Result, Ok, Err, OnOk, OnErr, IfOk, IfErr, Option, Some, IfSome}
use Rattle.std.specs.Result.{IsErrAnd}
use Rattle.std.proofs.lemmas.Result.{err_from_is_err_and}

-- a fact at Ok from another
pub ok_from : {T E : Type 0} (result : Result T E) {P Q : Type 0} → (P → Q) → OnOk result P → OnOk result Q
ok_from (Ok x) f p = f p
ok_from (Err e) f p = tt

-- a fact at Ok and one at Err, from others
pub in_both : {T E : Type 0} (result : Result T E) {P : Type 0} → OnOk result P → OnErr result P → P
in_both (Ok x) p q = p
in_both (Err e) p q = q

-- both at Ok
pub ok_both : {T E : Type 0} (result : Result T E) (P Q : Type 0) → OnOk result P → OnOk result Q → OnOk result (P × Q)
ok_both (Ok x) P Q p q = (p, q)
ok_both (Err e) P Q p q = tt

-- a fact that holds anyway
pub ok_always : {T E : Type 0} (result : Result T E) {P : Type 0} → P → OnOk result P
ok_always (Ok x) p = p
ok_always (Err e) p = tt

pub err_from : {T E : Type 0} (result : Result T E) {P : Type 0} → P → OnErr result P
err_from (Ok x) p = tt
err_from (Err e) p = p

-- an error that a `?` hands on as it is
pub err_same : {T E : Type 0} (P : E → Type 0) (result : Result T E) (e : E) → IsErrAnd result (λ y. y ≡ e) → P e → IfErr result P
err_same P result e is p = let (y, r, q) = err_from_is_err_and result is in subst (λ x. IfErr x P) (sym r) (subst P (sym q) p)

pub err_is : {T E : Type 0} (result : Result T E) (e d : E) → IsErrAnd result (λ y. y ≡ e) → result ≡ Err d → e ≡ d
err_is result e d is told = let (y, r, q) = err_from_is_err_and result is in sym q ∙ one_err (sym r ∙ told)
  where
    one_err : {T E : Type 0} {y d : E} → ◌≡◌ {A = Result T E} (Err y) (Err d) → y ≡ d
    one_err is = cc

-- a fact of the value at Ok from another
pub if_ok_from : {T E : Type 0} (result : Result T E) (P Q : T → Type 0) → ((x : T) → P x → Q x) → IfOk result P → IfOk result Q
if_ok_from (Ok x) P Q f p = f x p
if_ok_from (Err e) P Q f p = tt

-- a fact of the value from four others
pub if_ok_all_four : {T E : Type 0} (result : Result T E) (P Q R S U : T → Type 0) → ((x : T) → P x → Q x → R x → S x → U x)
    → IfOk result P → IfOk result Q → IfOk result R → IfOk result S → IfOk result U
if_ok_all_four (Ok x) P Q R S U f p q r s = f x p q r s
if_ok_all_four (Err e) P Q R S U f p q r s = tt

-- a fact of each refusal
pub if_err_all : {T E : Type 0} (result : Result T E) (P : E → Type 0) → ((e : E) → P e) → IfErr result P
if_err_all (Ok x) P f = tt
if_err_all (Err e) P f = f e

-- a fact of the refusal from another
pub if_err_from : {T E : Type 0} (result : Result T E) (P Q : E → Type 0) → ((e : E) → P e → Q e) → IfErr result P → IfErr result Q
if_err_from (Ok x) P Q f p = tt
if_err_from (Err e) P Q f p = f e p

-- a second case from another
pub or_more : {A B C : Type 0} → (B → C) → A ⊎ B → A ⊎ C
or_more f (inl a) = inl a
or_more f (inr b) = inr (f b)

-- the other of two cases
pub the_other : {A B : Type 0} → ¬ A → A ⊎ B → B
the_other not (inl a) = absurd (not a)
the_other not (inr b) = b

-- a fact at a refusal from another
pub err_more : {T E : Type 0} (result : Result T E) {P Q : Type 0} → (P → Q) → OnErr result P → OnErr result Q
err_more (Ok x) f p = tt
err_more (Err e) f p = f p

-- the fact of the case that holds
pub of_first : {A B C : Type 0} → A → (A × B) ⊎ ((¬ A) × C) → B
of_first a (inl both) = both.1
of_first a (inr other) = absurd (other.0 a)

-- a refusal is no value
pub err_ok : {T E : Type 0} {e : E} {x : T} → ◌≡◌ {A = Result T E} (Err e) (Ok x) → ⊥
err_ok is = cc

-- a fact of the value if there is one
pub some_from : {T : Type 0} {o : Option T} {x : T} (P : T → Type 0) → o ≡ Some x → IfSome o P → P x
some_from P is all = subst (λ o. IfSome o P) is all
