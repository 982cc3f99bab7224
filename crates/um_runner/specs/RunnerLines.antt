-- Which words a runner takes.
-- Follows the command line of a runner (docs/FORMATS.md, "The program").
-- The contract of RunnerLine cites it.
use Rattle.std.specs.Prelude.{◌≡◌, ◌≤◌, ◌<◌, ℕ, Bool, true, false, List, [], ◌∷◌, length, codes, decimal}
use Rattle.std.specs.List.{list_all}
use Rattle.um_model.specs.Moments.{process_limit}
use Rattle.um_runner.specs.Runner.{runner_words}
use Rattle.um_runner.specs.Jobs.{is_entry}

-- the words of a runner, whatever stands for its numbers and after `--`
abbrev pub line_words : (folder number count : List ℕ) (words : List (List ℕ)) → List (List ℕ)
line_words folder number count words = codes "--dir" ∷ folder ∷ codes "--number" ∷ number ∷ codes "--env" ∷ count ∷ codes "--" ∷ words

-- the words of a runner whose entries stand in the file of its number: none is among them
abbrev pub handed_words : (folder number : List ℕ) (words : List (List ℕ)) → List (List ℕ)
handed_words folder number words = codes "--dir" ∷ folder ∷ codes "--number" ∷ number ∷ codes "--env-file" ∷ codes "--" ∷ words

-- the words are a runner's: of a process number, of entries NAME=value and of a command of one word at least
pub record IsRunnerLine (folder : List ℕ) (number : ℕ) (entries command words : List (List ℕ)) : Type 0 where
  pub says : words ≡ runner_words folder number entries command
  pub first : 1 ≤ number
  pub last : number < process_limit
  pub set : list_all is_entry entries ≡ true
  pub some : 1 ≤ length command

-- the words are a runner's whose entries stand in a file: of a process number, and of a command of one word at least
pub record IsHandedLine (folder : List ℕ) (number : ℕ) (command words : List (List ℕ)) : Type 0 where
  pub says : words ≡ handed_words folder (decimal number) command
  pub first : 1 ≤ number
  pub last : number < process_limit
  pub some : 1 ≤ length command

-- the words are a runner's line: with these entries, or none if a file has them
abbrev pub TellsRunner : (has_file : Bool) (folder : List ℕ) (number : ℕ) (entries command words : List (List ℕ)) → Type 0
TellsRunner false folder number entries command words = IsRunnerLine folder number entries command words
TellsRunner true folder number entries command words = (entries ≡ []) × IsHandedLine folder number command words
