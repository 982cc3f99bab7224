-- The steps of a runner, and the names and texts that it alone deals with.
-- Follows systemd.exec(5) in the code of a command that can't be executed; the files are this project's own
-- (docs/FORMATS.md, "The files of a process").
use Rattle.std.specs.Prelude.{◌==◌, ◌&&◌, ◌++◌, ◌∷◌, [], ℕ, Bool, true, false, List, reverse, Option, Some, None, codes}
use Rattle.std.specs.List.{find, before_first, after_first}
use Rattle.std.specs.Option.{option_map}
use Rattle.std.specs.Str.{bytes_eq}
use Rattle.um_runner.specs.Runner.{file_name, pid_text, status_text}
use Rattle.um_model.specs.declared.service.End.{End}
use Rattle.um_model.specs.declared.service.End.TheVariants.{Code}
use Rattle.um_runner.specs.declared.runner_file.RunnerFile.{RunnerFile}
use Rattle.um_runner.specs.declared.runner_file.RunnerFile.TheVariants.{Pid, Status}

-- its path, where the folder is this one
abbrev pub file_path : List ℕ → ℕ → RunnerFile → List ℕ
file_path folder number file = folder ++ (codes "/" ++ file_name number file)

abbrev pub is_entry_sign : ℕ → Bool
is_entry_sign b = b == 61

-- the value that the entries NAME=value set the variable to: of equal names the later counts
abbrev pub entry_value : List (List ℕ) → List ℕ → Option (List ℕ)
entry_value entries name =
    option_map (λ entry. after_first is_entry_sign entry) (find (λ entry. bytes_eq (before_first is_entry_sign entry) name) (reverse entries))

-- the outcome of claiming a number: it is this runner's, somebody's claim stood there, or the folder refused it
pub data Claimed : Type 0 where
  Ours : Claimed
  Taken : Claimed
  Refused : Claimed

-- a step of a runner, with the answer of the system
pub data RunnerStep : Type 0 where
  -- the number is claimed
  Claims : (claimed : Claimed) → RunnerStep
  -- the words are started as a command, with these entries set over the runner's own environment; there is a pid where that went well
  Starts : (words entries : List (List ℕ)) (pid : Option ℕ) → RunnerStep
  -- a file is given this text, whole; or the folder refuses it
  Writes : (file : RunnerFile) (text : List ℕ) (is_done : Bool) → RunnerStep
  -- the process is waited for
  Waits : (end : End) → RunnerStep

-- a command that can't be executed ends so
abbrev pub not_executed : End
not_executed = Code 203

-- the whole life of a runner for these words and entries, and whether the folder took all its reports
pub data RunnerLife (words entries : List (List ℕ)) : List RunnerStep → Bool → Type 0 where
  -- somebody has the number: nothing is started
  yields : RunnerLife words entries (Claims Taken ∷ []) true
  -- nobody may start a number that can't be claimed
  fails : RunnerLife words entries (Claims Refused ∷ []) false
  -- the command can't be executed: there is no pid
  refuses : (told : Bool) → RunnerLife words entries (Claims Ours ∷ Starts words entries None ∷ Writes Status (status_text not_executed) told ∷ []) told
  -- the command runs, and its end is reported after its pid, also if the pid couldn't be
  runs : (pid : ℕ) (end : End) (told_pid told : Bool)
      → RunnerLife words entries
      (Claims Ours ∷ Starts words entries (Some pid) ∷ Writes Pid (pid_text pid) told_pid ∷ Waits end ∷ Writes Status (status_text end) told ∷ [])
      (told_pid && told)
