-- The files by which a runner reports on a process to the manager, and its command line.
-- Follows wait(2) in codes, signals and pids; the files are this project's own (docs/FORMATS.md, "The files of a
-- process").
-- The runner and the manager's children stand on this file, and the laws in proofs/RunnerLaws.
use Rattle.std.specs.Prelude.{ℕ, Bool, ◌==◌, ◌<◌, ◌^◌, if◌then◌else◌, List, [], ◌∷◌, ◌++◌, length}
use Rattle.std.specs.Prelude.{codes, decimal, bytes_eq}
use Rattle.um_runner.specs.declared.runner_file.Claimant.{Claimant}
use Rattle.um_runner.specs.declared.runner_file.Claimant.TheVariants.{Manager, Runner}
use Rattle.um_runner.specs.declared.runner_file.RunnerFile.{RunnerFile}
use Rattle.um_runner.specs.declared.runner_file.RunnerFile.TheVariants.{Claim, Pid, Status, ManagerDraft, RunnerDraft, PidDraft, StatusDraft, Entries}
use Rattle.um_model.specs.declared.service.End.{End}
use Rattle.um_model.specs.declared.service.End.TheVariants.{Code, Signal, Lost}

-- ---- names

-- the part of a file's name after the number
abbrev pub ending_of : RunnerFile → List ℕ
ending_of Claim = codes ".claim"
ending_of Pid = codes ".pid"
ending_of Status = codes ".status"
ending_of ManagerDraft = codes ".claim.manager"
ending_of RunnerDraft = codes ".claim.runner"
ending_of PidDraft = codes ".pid.new"
ending_of StatusDraft = codes ".status.new"
ending_of Entries = codes ".env"

-- the name of a file of this process number
abbrev pub file_name : ℕ → RunnerFile → List ℕ
file_name number file = decimal number ++ ending_of file

-- the path of the socket in the folder at which runners wake the manager
abbrev pub news_path : List ℕ → List ℕ
news_path folder = folder ++ codes "/news"

-- a slash parts the names of a path
abbrev pub is_slash : ℕ → Bool
is_slash b = b == 47

-- ---- texts

-- the text of a claim
abbrev pub claim_text : Claimant → List ℕ
claim_text Manager = codes "manager\n"
claim_text Runner = codes "runner\n"

-- whose a claim is: with any text but the manager's it is a runner's
abbrev pub claimant_of : List ℕ → Claimant
claimant_of text = if bytes_eq text (claim_text Manager) then Manager else Runner

-- the text for a pid
abbrev pub pid_text : ℕ → List ℕ
pid_text pid = decimal pid ++ codes "\n"

-- pids are below this: no greater number is one of wait(2)
abbrev pub pid_limit : ℕ
pid_limit = 2 ^ 31

-- the text names this pid; that of the system's first process is none, and no signal goes there
pub data IsPid : List ℕ → ℕ → Type 0 where
  pid : (n : ℕ) → 1 < n → n < pid_limit → IsPid (pid_text n) n

-- the text for an end; an end that nobody can know has the empty one
abbrev pub status_text : End → List ℕ
status_text (Code code) = codes "code " ++ (decimal code ++ codes "\n")
status_text (Signal number) = codes "signal " ++ (decimal number ++ codes "\n")
status_text Lost = []

-- the text names this end: by a code or a signal, each below 256
pub data IsStatus : List ℕ → End → Type 0 where
  exited : (code : ℕ) → code < 256 → IsStatus (status_text (Code code)) (Code code)
  killed : (number : ℕ) → number < 256 → IsStatus (status_text (Signal number)) (Signal number)

-- the end that a status file names: nobody can know it if the text is of another form
pub data TellsEnd (text : List ℕ) : End → Type 0 where
  told : {end : End} → IsStatus text end → TellsEnd text end
  odd : ((end : End) → IsStatus text end → ⊥) → TellsEnd text Lost

-- ---- the command line

-- the words of a runner, after `umd run`: the folder, the number, how many entries there are, the entries and the words
-- of the command
abbrev pub runner_words : (folder : List ℕ) (number : ℕ) (entries words : List (List ℕ)) → List (List ℕ)
runner_words folder number entries words =
    codes "--dir" ∷ folder ∷ codes "--number" ∷ decimal number ∷ codes "--env" ∷ decimal (length entries) ∷ codes "--" ∷ (entries ++ words)
