-- The command lines by which the manager looks for its runner, starts one, and signals a process.
-- Follows sh(1) and kill(1); the runner's own words are the project's (docs/FORMATS.md, "The program").
-- Children through runners stand on this file.
use Rattle.std.specs.Prelude.{◌≡◌, ◌∷◌, ◌++◌, List, ℕ, map, codes, decimal}
use Rattle.std.specs.Borrow.{Bor}
use Rattle.std.specs.Process.{command_program, command_args}
use Rattle.std.specs.declared.process.command.Command.{Command}
use Rattle.um_model.specs.declared.service.Signal.{Signal}
use Rattle.um_model.specs.declared.service.Signal.TheVariants.{Term, Kill}
use Rattle.um_runner.specs.RunnerLines.{handed_words}

-- The shell's program: its words after the first become a command of its own, which goes on by itself, with no stream
-- of the manager. If the second word names no file that it can execute, it ends with 126 and runs nothing. The
-- command's output is appended to the file of the first word, if that is a regular file which can be written, and else
-- goes to /dev/null.
abbrev pub detaching : List ℕ
detaching =
    codes "o=$1; shift; case $1 in */*) p=$1;; *) p=$(command -v \"$1\");; esac && test -f \"$p\" && test -x \"$p\" || exit 126; "
    ++ codes "test -f \"$o\" && true 2>/dev/null >>\"$o\" || o=/dev/null; exec </dev/null >>\"$o\" 2>&1; \"$@\" &"

-- the shell's program: it does nothing, and fails if its word names no file that it can execute
abbrev pub finding : List ℕ
finding = codes "case $1 in */*) p=$1;; *) p=$(command -v \"$1\");; esac && test -f \"$p\" && test -x \"$p\""

-- the shell's program: it sends the signal of its first word to the pid of its second
abbrev pub signalling : List ℕ
signalling = codes "kill -s \"$1\" \"$2\""

-- the words of the runner that starts this command under the number, without its program: no entry of the environment is among them
abbrev pub runner_words : (folder : List ℕ) (number : ℕ) (words : List (List ℕ)) → List (List ℕ)
runner_words folder number words = codes "run" ∷ handed_words folder (decimal number) words

-- texts that are lent
abbrev pub lent : List (Bor (List ℕ)) → List (List ℕ)
lent texts = map (λ text. text.now) texts

-- the name of a signal as kill(1) has it
abbrev pub signal_name : Signal → List ℕ
signal_name Term = codes "TERM"
signal_name Kill = codes "KILL"

-- a shell that runs this text, with these words
abbrev pub IsShell : {A : Type 0} → List ℕ → List (List ℕ) → Command A → Type 0
IsShell text words command = (command_program command ≡ codes "sh") × (command_args command ≡ codes "-c" ∷ text ∷ codes "sh" ∷ words)
