-- How a job is a list of words, and which command it is.
-- Follows the command line of a runner (docs/FORMATS.md, "The program").
-- The contracts of Job cite it.
use Rattle.std.specs.Prelude.{◌≡◌, ℕ, Bool, true, false, ◌&&◌, not, nat_lt, List, ◌∷◌, length, map, take, drop, Some, option_map, string_bytes}
use Rattle.std.specs.List.{list_all, list_any}
use Rattle.std.specs.Process.{command_program, command_args, command_var, clears_env, SameOtherVars}
use Rattle.std.specs.declared.process.command.Command.{Command}
use Rattle.um_model.specs.Text.{first_passes}
use Rattle.um_runner.specs.RunnerSteps.{is_entry_sign, entry_value}
use Rattle.um_runner.specs.declared.job.Job.{Job}

-- the words of the command
abbrev pub words_of : Job → List (List ℕ)
words_of job = string_bytes job.program.now ∷ map string_bytes job.arguments.now

abbrev pub entries_of : Job → List (List ℕ)
entries_of job = map string_bytes job.entries.now

-- the word is an entry NAME=value: there is an `=`, and not in front
abbrev pub is_entry : List ℕ → Bool
is_entry word = list_any is_entry_sign word && not (first_passes is_entry_sign word)

-- the words can be a job with this many entries
abbrev pub can_be_job : ℕ → List (List ℕ) → Bool
can_be_job count words = nat_lt count (length words) && list_all is_entry (take count words)

-- the job of these words
pub record IsJobOf (count : ℕ) (words : List (List ℕ)) (job : Job) : Type 0 where
  pub possible : can_be_job count words ≡ true
  pub first : entries_of job ≡ take count words
  pub others : words_of job ≡ drop count words

-- a command is these words, with these entries set over the environment that it is started in
pub record IsCommandOf {A : Type 0} (words entries : List (List ℕ)) (command : Command A) : Type 0 where
  pub says : command_program command ∷ command_args command ≡ words
  pub inherits : clears_env command ≡ false
  pub sets : (name : List ℕ) → command_var command name ≡ option_map Some (entry_value entries name)

-- the command sets this variable to this value, and leaves all others as they were
abbrev pub SetsTo : {A : Type 0} → (name value : List ℕ) → Command A → Command A → Type 0
SetsTo name value old new = (command_var new name ≡ Some (Some value)) × SameOtherVars old new name
