-- How to go on from a result: from its value, or with the same error.
-- No manual page has this: it is Rust's functions on a Result, as std's specifications have them for an Option.
-- Readings of values and of requests depend on this file.
use Rattle.std.specs.Prelude.{Result, Ok, Err, ◌≡◌, Option, Some}

infixl 10 ◌and_then◌
-- the function's result for the value, or the same error
abbrev pub ◌and_then◌ : {A B E : Type 0} → Result A E → (A → Result B E) → Result B E
(Ok a) and_then next = next a
(Err e) and_then next = Err e

-- the value with the function applied to it, or the same error
abbrev pub result_map : {A B E : Type 0} → (A → B) → Result A E → Result B E
result_map f r = r and_then λ a. Ok (f a)

-- a value is found exactly if it has the property
abbrev pub Finds : {A : Type 0} → Option A → (A → Type 0) → Type 0
Finds {A = A} found Is = (x : A) → (found ≡ Some x → Is x) × (Is x → found ≡ Some x)
