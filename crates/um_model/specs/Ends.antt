-- How the end of a process counts: clean ends, the result that an unclean one leaves, and whether a restart is wanted.
-- Follows systemd.service(5), "SuccessExitStatus=", "Restart=", "RestartPreventExitStatus=" and "RestartForceExitStatus=".
-- The service table depends on this file.
use Rattle.std.specs.Prelude.{ℕ, ◌&&◌, ◌||◌, Bool, true, false, not, ◌==◌, ◌∷◌, List, []}
use Rattle.std.specs.Option.{option_map_or}
use Rattle.std.specs.List.{list_any}
use Rattle.std.specs.Str.{bytes_eq}
use Rattle.um_model.specs.Settings.{ServiceSettings, has_dash}
use Rattle.um_model.specs.declared.service.End.{End}
use Rattle.um_model.specs.declared.service.End.TheVariants.{Code, Signal, Lost}
use Rattle.um_model.specs.declared.service.SubState.{SubState}
use Rattle.um_model.specs.declared.service.SubState.TheVariants.{StartPre, Start, Stop, StopSigterm, StopSigkill, Failed}
use Rattle.um_model.specs.declared.service.UnitResult.{UnitResult}
use Rattle.um_model.specs.declared.service.UnitResult.TheVariants as result
use Rattle.um_model.specs.declared.service.UnitState.{UnitState}
use Rattle.um_model.specs.declared.settings.RestartPolicy.{RestartPolicy}
use Rattle.um_model.specs.declared.settings.RestartPolicy.TheVariants.{Always, OnSuccess, OnFailure, OnAbnormal, OnAbort}
use Rattle.um_model.specs.declared.transition.CommandList.TheVariants.{OfStart}
use Rattle.um_model.specs.declared.transition.Process.{Process}
use Rattle.um_model.specs.declared.transition.Process.TheVariants.{Main, Control}
use Rattle.um_model.specs.declared.transition.UnitKind.{UnitKind}
use Rattle.um_model.specs.declared.transition.UnitKind.TheVariants.{Simple, Exec, Oneshot}
use Rattle.um_model.specs.Values.{restart_text}

-- the end is known: by a code or a signal
abbrev pub is_told : End → Bool
is_told Lost = false
is_told other = true

-- the stop states
abbrev pub is_stopping : SubState → Bool
is_stopping Stop = true
is_stopping StopSigterm = true
is_stopping StopSigkill = true
is_stopping other = false

-- a start of the unit has begun and hasn't ended
abbrev pub is_starting : SubState → Bool
is_starting StartPre = true
is_starting Start = true
is_starting other = false

-- the unit waits for the report that the program of its main process runs
abbrev pub waits_for_report : SubState → Bool
waits_for_report Start = true
waits_for_report other = false

abbrev pub is_failed : SubState → Bool
is_failed Failed = true
is_failed other = false

-- the signals that request a service to end: hang-up, interrupt, a broken pipe, terminate
abbrev pub asks_to_end : ℕ → Bool
asks_to_end n = n == 1 || n == 2 || n == 13 || n == 15

-- a simple or an exec service runs one command, which is its main process for as long as it runs
abbrev pub has_one_command : UnitKind → Bool
has_one_command Simple = true
has_one_command Exec = true
has_one_command other = false

-- clean whatever is set: code 0; of a service that runs one command, a signal that requests its end; in a stop state, a signal of unknown number
abbrev pub is_clean_alone : UnitKind → SubState → End → Bool
is_clean_alone kind sub (Code code) = code == 0
is_clean_alone kind sub (Signal n) = has_one_command kind && asks_to_end n || n == 0 && is_stopping sub
is_clean_alone kind sub Lost = false

-- the command of the main process is written with `-`: in these states a oneshot's main process is its command at the index
abbrev pub main_has_dash : UnitKind → SubState → ServiceSettings → UnitState → Bool
main_has_dash Simple sub s u = has_dash s OfStart 0
main_has_dash Exec sub s u = has_dash s OfStart 0
main_has_dash Oneshot Start s u = has_dash s OfStart u.index
main_has_dash Oneshot StopSigterm s u = has_dash s OfStart u.index
main_has_dash Oneshot StopSigkill s u = has_dash s OfStart u.index
main_has_dash other sub s u = false

-- the end of a process of the unit is clean
abbrev pub is_clean : ServiceSettings → UnitState → Process → End → Bool
is_clean s u Control e = is_clean_alone s.kind u.sub e || s.success e
is_clean s u Main e = is_clean_alone s.kind u.sub e || s.success e || is_told e && main_has_dash s.kind u.sub s u

-- the result that an unclean end leaves
abbrev pub unclean_result : End → UnitResult
unclean_result (Code code) = result.ExitCode
unclean_result (Signal number) = result.Signal
unclean_result Lost = result.Lost

-- a result stands once it isn't success
abbrev pub or_later : UnitResult → UnitResult → UnitResult
or_later result.Success later = later
or_later first later = first

-- the table of Restart=: the policies that want a restart after this result
abbrev pub policies_after : UnitResult → List RestartPolicy
policies_after result.Success = Always ∷ OnSuccess ∷ []
policies_after result.ExitCode = Always ∷ OnFailure ∷ []
policies_after result.Signal = Always ∷ OnFailure ∷ OnAbnormal ∷ OnAbort ∷ []
policies_after result.Timeout = Always ∷ OnFailure ∷ OnAbnormal ∷ []
policies_after result.Lost = Always ∷ OnFailure ∷ OnAbnormal ∷ []
policies_after other = []

-- this policy is one of them
abbrev pub restarts_after : UnitResult → RestartPolicy → Bool
restarts_after left policy = list_any (λ p. bytes_eq (restart_text p) (restart_text policy)) (policies_after left)

-- a restart is wanted: by the last end of the main process, else by the result
abbrev pub is_restart_wanted : ServiceSettings → UnitState → Bool
is_restart_wanted s u =
    not (option_map_or s.prevents_restart u.last false) && (option_map_or s.forces_restart u.last false || restarts_after u.result s.restart)
