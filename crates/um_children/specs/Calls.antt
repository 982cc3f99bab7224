-- The calls that children in memory keep, as those of the definitions.
-- No manual page has this: processes under numbers are the project's own.
-- Children in memory stand on this file.
use Rattle.std.specs.Prelude.{◌≡◌, List, ℕ, true, false, map}
use Rattle.um_model.specs.Children as model
use Rattle.um_children.specs.History.{is_start, is_absence, has_started, was_absent}
use Rattle.um_children.specs.declared.call.Call.{Call}
use Rattle.um_children.specs.declared.call.Call.TheVariants as call

abbrev pub call_of : Call → model.Call
call_of (call.Spawned number start is_taken starts) =
    model.Spawned (record { number = number; words = start.words; environment = start.environment }) is_taken starts
call_of (call.Signalled number signal) = model.Signalled number signal
call_of (call.Asked number claim told) = model.Asked number claim told
call_of (call.Forgot number) = model.Forgot number
call_of (call.ForgotOthers live next) = model.ForgotOthers live.items next

abbrev pub calls_of : List Call → List model.Call
calls_of calls = map call_of calls

-- with one call more no number that was reported absent starts
abbrev pub Fits : model.Call → List model.Call → Type 0
Fits call calls = (n : ℕ) → (was_absent calls n ≡ true → is_start n call ≡ false) × (is_absence n call ≡ true → has_started calls n ≡ false)
