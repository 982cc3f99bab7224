-- The entry of each call in the history of calls, and the facts about a number in it.
use Rattle.std.specs.Prelude.{◌≡◌, ◌&&◌, ◌==◌, ◌++◌, ◌∷◌, [], ℕ, List, Bool, true, false, not, Option, Result}
use Rattle.std.specs.List.{list_any}
use Rattle.std.specs.Option.{option_map_or}
use Rattle.std.specs.Result.{is_ok, result_ok}
use Rattle.um_model.specs.Children.{Spawn, Call, Spawned, Signalled, Asked, Forgot, ForgotOthers}
use Rattle.um_model.specs.declared.children.Fate.{Fate}
use Rattle.um_model.specs.declared.children.Fate.TheVariants.{Absent}
use Rattle.um_model.specs.declared.service.Signal.{Signal}

abbrev pub is_absent : Fate → Bool
is_absent Absent = true
is_absent other = false

-- whether absence was reported
abbrev pub tells_absent : Option Fate → Bool
tells_absent told = option_map_or is_absent told false

-- whether a call starts the number
abbrev pub is_start : ℕ → Call → Bool
is_start n (Spawned spawn is_taken starts) = starts && (spawn.number == n)
is_start n other = false

-- whether a call reports that the number is absent
abbrev pub is_absence : ℕ → Call → Bool
is_absence n (Asked number claim told) = tells_absent told && (number == n)
is_absence n other = false

-- whether the number was started
abbrev pub has_started : List Call → ℕ → Bool
has_started calls n = list_any (is_start n) calls

-- whether the number was reported absent
abbrev pub was_absent : List Call → ℕ → Bool
was_absent calls n = list_any (is_absence n) calls

-- no number that was reported absent starts
abbrev pub IsFinal : List Call → Type 0
IsFinal calls = (n : ℕ) → was_absent calls n ≡ true → has_started calls n ≡ false

-- A start is one call more, whatever it answered; only the children know whether its number starts.
abbrev pub Spawns : {E : Type 0} → Spawn → Result Unit E → List Call → List Call → Type 0
Spawns spawn result old new = (starts : Bool) × (new ≡ old ++ Spawned spawn (is_ok result) starts ∷ [])

-- a signal is one call more, whatever it answered
abbrev pub Signals : ℕ → Signal → List Call → List Call → Type 0
Signals number signal old new = new ≡ old ++ Signalled number signal ∷ []

-- a fate that was queried is one call more, with its result
abbrev pub Asks : {E : Type 0} → ℕ → Bool → Result Fate E → List Call → List Call → Type 0
Asks number claim result old new = new ≡ old ++ Asked number claim (result_ok result) ∷ []

-- forgetting a number is one call more, whatever it answered
abbrev pub Forgets : ℕ → List Call → List Call → Type 0
Forgets number old new = new ≡ old ++ Forgot number ∷ []

-- forgetting all others below the next number is one call more, whatever it answered
abbrev pub ForgetsOthers : List ℕ → ℕ → List Call → List Call → Type 0
ForgetsOthers live next old new = new ≡ old ++ ForgotOthers live next ∷ []

-- whether a call forgets the number
abbrev pub lets_go : ℕ → Call → Bool
lets_go n (Forgot number) = number == n
lets_go n (ForgotOthers live next) = not (list_any (λ m. m == n) live)
lets_go n other = false

-- whether a call forgets any number
abbrev pub lets_any : Call → Bool
lets_any (Forgot number) = true
lets_any (ForgotOthers live next) = true
lets_any other = false

-- these calls forget no number that passes the test
abbrev pub Spares : (ℕ → Bool) → List Call → Type 0
Spares test calls = (n : ℕ) → test n ≡ true → list_any (lets_go n) calls ≡ false
