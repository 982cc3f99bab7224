-- The bytes that a spelling takes are there.
use Rattle.std.specs.Prelude.{◌≡◌, ℕ, ◌+◌, ◌-◌, ◌<◌, ◌≤◌, true, IfSome, List, length, slice_index}
use Rattle.um_model.specs.Ascii.{is_space}
use Rattle.um_model.specs.WordSpellings.{Spelling, Stop, Bad, Turn, Means, Kept}

-- the bytes that a spelling takes are there, and end after an ASCII byte or at the first
abbrev pub IsThere : Spelling → ℕ → List ℕ → Type 0
IsThere Stop first more = is_space first ≡ true
IsThere Bad first more = Unit {0}
IsThere (Turn other) first more = (first < 128) × IfSome other (λ quote. quote < 128)
IsThere (Means meaning n) first more = (meaning < 128) × (2 ≤ n) × (n ≤ length more + 1) × (slice_index more (n - 2) < 128)
IsThere (Kept n) first more = (1 ≤ n) × (n ≤ length more + 1)
