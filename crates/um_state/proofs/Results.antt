-- A property of a call's result, passed on to the same result.
use Rattle.std.proofs.Common.{Result, Ok, Err, IfOk, OnOk, OnErr}

-- a property that holds anyway also holds after a refusal
pub on_any_err : {T E P : Type 0} (r : Result T E) → P → OnErr r P
on_any_err (Ok a) p = tt
on_any_err (Err e) p = p

pub on_err_more : {T E P Q : Type 0} (r : Result T E) → (P → Q) → OnErr r P → OnErr r Q
on_err_more (Ok a) f p = tt
on_err_more (Err e) f p = f p

pub on_ok_more : {T E P Q : Type 0} (r : Result T E) → (P → Q) → OnOk r P → OnOk r Q
on_ok_more (Ok a) f p = f p
on_ok_more (Err e) f p = tt

pub if_ok_more : {T E : Type 0} {P Q : T → Type 0} (r : Result T E) → ((a : T) → P a → Q a) → IfOk r P → IfOk r Q
if_ok_more (Ok a) f p = f a p
if_ok_more (Err e) f p = tt

pub if_ok_both : {T E : Type 0} {P Q R : T → Type 0} (r : Result T E) → ((a : T) → P a → Q a → R a) → IfOk r P → IfOk r Q → IfOk r R
if_ok_both (Ok a) f p q = f a p q
if_ok_both (Err e) f p q = tt
