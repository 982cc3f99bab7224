-- A runner's words are read in only one way.
use Rattle.std.proofs.Common.{◌≡◌, ◌<◌, ◌++◌, ℕ, ◌^◌, Bool, true, false, List, [], Some, length, slice_get, get_or, take, drop, codes, refl, sym, ap, ◌∙◌, arith, length-append}
use Rattle.std.specs.Prelude.{decimal}
use Rattle.std.proofs.lemmas.Fmt.{decimal_injective}
use Rattle.std.proofs.lemmas.List.{take_at, drop_at}
use Rattle.um_line.specs.Line.{IsRunLine, IsToRun}
use Rattle.um_line.specs.declared.line.Line.{Line}
use Rattle.um_line.specs.declared.line.Line.TheVariants.{Memory, Run, Create, Check, Serve, LongBoot, Ctl, Sync, Status, Verify, Logs, Help, Topic, Told, Wrong}
use Rattle.um_runner.specs.Jobs.{entries_of, words_of}
use Rattle.um_runner.specs.Runner.{runner_words}
use Rattle.um_runner.specs.RunnerLines.{TellsRunner, handed_words}

-- a runner's words don't begin with `--help`
no_help : (has_file : Bool) (words : List (List ℕ)) (folder : List ℕ) (number : ℕ) (entries command : List (List ℕ))
    → TellsRunner has_file folder number entries command words → slice_get words 0 ≡ Some (codes "--help") → ⊥
no_help false words folder number entries command told help =
    let e : Some (codes "--dir") ≡ Some (codes "--help") = ap (λ ws. slice_get ws 0) (sym told.says) ∙ help in cc
no_help true words folder number entries command told help =
    let e : Some (codes "--dir") ≡ Some (codes "--help") = ap (λ ws. slice_get ws 0) (sym told.1.says) ∙ help in cc

record AreOne (has_file has_file' : Bool) (folder folder' : List ℕ) (number number' : ℕ) (entries entries' command command' : List (List ℕ)) : Type 0 where
  files : has_file ≡ has_file'
  folders : folder ≡ folder'
  numbers : number ≡ number'
  entered : entries ≡ entries'
  commands : command ≡ command'

-- entries are either among the words or in a file
not_both : (words : List (List ℕ)) (folder folder' : List ℕ) (number number' : ℕ) (entries command command' : List (List ℕ))
    → words ≡ runner_words folder number entries command → words ≡ handed_words folder' (decimal number') command' → ⊥
not_both words folder folder' number number' entries command command' a b =
    let e : codes "--env" ≡ codes "--env-file" = ap (λ ws. get_or ws 4 []) (sym a ∙ b) in cc

one : (has_file has_file' : Bool) (words : List (List ℕ)) (folder folder' : List ℕ) (number number' : ℕ) (entries entries' command command' : List (List ℕ)) → length words < 2 ^ 64
    → TellsRunner has_file folder number entries command words → TellsRunner has_file' folder' number' entries' command' words
    → AreOne has_file has_file' folder folder' number number' entries entries' command command'
one false false words folder folder' number number' entries entries' command command' small a b =
    let e : runner_words folder number entries command ≡ runner_words folder' number' entries' command' = sym a.says ∙ b.says in
    let others : entries ++ command ≡ entries' ++ command' = ap (drop 7) e in
    let first : length entries < 2 ^ 64 = omega (arith, small, ap length a.says, length-append entries command) in
    let second : length entries' < 2 ^ 64 = omega (arith, small, ap length b.says, length-append entries' command') in
    let counts : length entries ≡ length entries' = decimal_injective (length entries) (length entries') first second (ap (λ ws. get_or ws 5 []) e) in
    record {
      files = refl;
      folders = ap (λ ws. get_or ws 1 []) e;
      numbers = decimal_injective number number' (omega (arith, a.last)) (omega (arith, b.last)) (ap (λ ws. get_or ws 3 []) e);
      entered = sym (take_at entries command (length entries) refl) ∙ ap (take (length entries)) others ∙ take_at entries' command' (length entries) (sym counts);
      commands = sym (drop_at entries command (length entries) refl) ∙ ap (drop (length entries)) others ∙ drop_at entries' command' (length entries) (sym counts);
    }
one true true words folder folder' number number' entries entries' command command' small a b =
    let e : handed_words folder (decimal number) command ≡ handed_words folder' (decimal number') command' = sym a.1.says ∙ b.1.says in
    record {
      files = refl;
      folders = ap (λ ws. get_or ws 1 []) e;
      numbers = decimal_injective number number' (omega (arith, a.1.last)) (omega (arith, b.1.last)) (ap (λ ws. get_or ws 3 []) e);
      entered = a.0 ∙ sym b.0;
      commands = ap (drop 6) e;
    }
one false true words folder folder' number number' entries entries' command command' small a b =
    absurd (not_both words folder folder' number number' entries command command' a.says b.1.says)
one true false words folder folder' number number' entries entries' command command' small a b =
    absurd (not_both words folder' folder number' number entries' command' command b.says a.1.says)

pub are_run : (has_file : Bool) (folder : List ℕ) (number : ℕ) (entries command words : List (List ℕ)) (line : Line) → length words < 2 ^ 64
    → TellsRunner has_file folder number entries command words → IsRunLine words line → IsToRun has_file folder number entries command line
are_run has_file folder number entries command words (Run line) small says is =
    let o = one line.has_file has_file words line.folder.now folder line.number number (entries_of line.job) entries (words_of line.job) command small is says in
    (o.files, o.folders, o.numbers, o.entered, o.commands)
are_run has_file folder number entries command words (Told text) small says is = absurd (no_help has_file words folder number entries command says is)
are_run has_file folder number entries command words (Wrong text) small says is = absurd (is.1 has_file folder number entries command says)
are_run has_file folder number entries command words Memory small says is = absurd is
are_run has_file folder number entries command words (Create line) small says is = absurd is
are_run has_file folder number entries command words (Check line) small says is = absurd is
are_run has_file folder number entries command words (Serve line) small says is = absurd is
are_run has_file folder number entries command words LongBoot small says is = absurd is
are_run has_file folder number entries command words (Ctl line) small says is = absurd is
are_run has_file folder number entries command words (Sync line) small says is = absurd is
are_run has_file folder number entries command words (Logs line) small says is = absurd is
are_run has_file folder number entries command words (Help n) small says is = absurd is
are_run has_file folder number entries command words (Status line) small says is = absurd is
are_run has_file folder number entries command words (Verify line) small says is = absurd is
are_run has_file folder number entries command words (Topic line) small says is = absurd is
