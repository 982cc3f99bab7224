-- How a number stands by the files of its runner, and the fate that is reported of it.
-- No manual page has this: the runner's files are the project's own (docs/FORMATS.md, "The files of a process").
-- Children through runners stand on this file.
use Rattle.std.specs.Prelude.{◌&&◌, Bool, true, false, not, Option, Some, None, Result, Ok, is_none, if◌then◌else◌}
use Rattle.um_model.specs.declared.children.Fate.{Fate}
use Rattle.um_model.specs.declared.children.Fate.TheVariants as fate
use Rattle.um_model.specs.declared.service.Signal.{Signal}
use Rattle.um_model.specs.declared.service.Signal.TheVariants.{Term, Kill}
use Rattle.um_runner.specs.declared.runner_file.Claimant.TheVariants.{Manager, Runner}
use Rattle.um_runner.specs.declared.notes.Claiming.{Claiming}
use Rattle.um_runner.specs.declared.notes.Claiming.TheVariants.{New, Stands}
use Rattle.um_runner.specs.declared.notes.Told.{Told}
use Rattle.um_runner.specs.declared.notes.Told.TheVariants.{Nothing, NoPid, Pid}
use Rattle.um_children.specs.declared.standing.Standing.{Standing}
use Rattle.um_children.specs.declared.standing.Standing.TheVariants.{Silent, Taken, Running, Ended, Barred}

-- the fate of a number that stands so: one that the manager has claimed is absent if it is queried with a claim
abbrev pub fate_of : Standing → Bool → Fate
fate_of Silent claim = fate.Starting
fate_of Taken claim = fate.Starting
fate_of (Running pid) claim = fate.Executed
fate_of (Ended end) claim = fate.Ended end
fate_of Barred claim = if claim then fate.Absent else fate.Starting

-- the claimant decides: a number that the manager has claimed never starts
abbrev pub claimed : Claiming → Standing
claimed New = Barred
claimed (Stands Manager) = Barred
claimed (Stands Runner) = Taken

-- the standing of a number that hasn't ended, by its pid file; if the file isn't there the number stands as before
abbrev pub by_pid : Told → Standing → Standing
by_pid (Pid pid) before = Running (Some pid)
by_pid NoPid before = Running None
by_pid Nothing before = before

-- no file changes it any more
abbrev pub is_final : Standing → Bool
is_final Silent = false
is_final Taken = false
is_final (Running pid) = false
is_final (Ended end) = true
is_final Barred = true

-- it runs, and no signal waits for its pid: its fate changes by a file alone
abbrev pub is_settled : Standing → Option Signal → Bool
is_settled (Running pid) None = true
is_settled (Running pid) (Some signal) = false
is_settled Silent kept = false
is_settled Taken kept = false
is_settled (Ended end) kept = false
is_settled Barred kept = false

-- its runner is to report on it, and no signal waits: nobody else changes its fate
abbrev pub waits_for_runner : Standing → Option Signal → Bool
waits_for_runner standing kept = not (is_final standing) && is_none kept

-- a fate of which a runner is to report more: the process is starting, or runs
abbrev pub goes_on : {E : Type 0} → Result Fate E → Bool
goes_on (Ok fate.Starting) = true
goes_on (Ok fate.Executed) = true
goes_on other = false

-- of two signals the one that no process outlives
abbrev pub stronger : Option Signal → Signal → Signal
stronger (Some Kill) signal = Kill
stronger (Some Term) signal = signal
stronger None signal = signal
