-- What the words of a command line mean: the words as clap reads them, and the line for each of its mistakes.
-- No manual page has this: it is the project's own (docs/FORMATS.md, "The program").
-- The program stands on this file.
use Rattle.std.specs.Prelude.{⊤, ◌≡◌, ◌≢◌, ◌⊎◌, ◌↔◌, ◌<◌, ◌≤◌, ◌^◌, ℕ, List, [], ◌∷◌, Bool, true, Option, Some, None, map, option_map, slice_get, bytes_eq, codes, decimal, drop, length, if◌then◌else◌}
use Rattle.clap.specs.Words.{App, Kinds, Row, Rule, IsAmong, all_of, fault_of, first_of, matches_of, new_app, new_rule, with_rule}
use Rattle.clap.specs.Simple.{on_top}
use Rattle.clap.specs.declared.builder.action.ArgAction.TheVariants.{SetTrue, Append}
use Rattle.clap.specs.declared.error.kind.ErrorKind.{ErrorKind}
use Rattle.clap.specs.declared.error.kind.ErrorKind.TheVariants.{DisplayHelp, DisplayVersion}
use Rattle.um_line.specs.declared.check.CheckLine.{CheckLine}
use Rattle.um_line.specs.declared.create.CreateLine.{CreateLine}
use Rattle.um_line.specs.declared.ctl.CtlLine.{CtlLine}
use Rattle.um_line.specs.declared.logs.LogsLine.{LogsLine}
use Rattle.um_line.specs.declared.serve.ServeLine.{ServeLine}
use Rattle.um_line.specs.declared.status.StatusLine.{StatusLine}
use Rattle.um_line.specs.declared.sync.SyncLine.{SyncLine}
use Rattle.um_line.specs.declared.verify.VerifyLine.{VerifyLine}
use Rattle.um_line.specs.declared.line.Line.{Line}
use Rattle.um_line.specs.declared.help.TopicLine.{TopicLine}
use Rattle.um_line.specs.declared.line.Line.TheVariants.{Memory, Run, Create, Check, Serve, LongBoot, Ctl, Sync, Status, Verify, Logs, Help, Topic, Told, Wrong}
use Rattle.um_line.specs.declared.line.Subcommand.{Subcommand}
use Rattle.um_line.specs.declared.line.Subcommand.TheVariants as sub
use Rattle.um_runner.specs.Jobs.{entries_of, words_of}
use Rattle.um_runner.specs.RunnerLines.{TellsRunner}
use Rattle.um_sentences.specs.Sentences.{topic_named}

-- ---- the words that are allowed

-- a required option with one value
abbrev pub option_rule : List ℕ → Rule
option_rule name = record (new_rule name) { long = Some name; required = true; value_names = 1 }

-- a required word in its place
abbrev pub word_rule : List ℕ → Rule
word_rule name = record (new_rule name) { required = true; value_names = 1 }

-- an option that may be omitted
abbrev pub optional_rule : List ℕ → Rule
optional_rule name = record (new_rule name) { long = Some name; value_names = 1 }

-- an optional flag
abbrev pub flag_rule : List ℕ → Rule
flag_rule name = record (new_rule name) { long = Some name; action = Some SetTrue }

-- an option of one letter that may be omitted
abbrev pub letter_rule : List ℕ → ℕ → Rule
letter_rule name letter = record (new_rule name) { short = Some letter; value_names = 1 }

-- an optional flag of one letter
abbrev pub letter_flag_rule : List ℕ → ℕ → Rule
letter_flag_rule name letter = record (new_rule name) { short = Some letter; action = Some SetTrue }

-- one or more words
abbrev pub words_rule : List ℕ → Rule
words_rule name = record (new_rule name) { required = true; value_names = 1; action = Some Append }

-- any number of words
abbrev pub any_words_rule : List ℕ → Rule
any_words_rule name = record (new_rule name) { value_names = 1; action = Some Append }

-- the flag `--memory`, which is required
abbrev pub memory_rule : Rule
memory_rule = record (new_rule (codes "memory")) { long = Some (codes "memory"); required = true; action = Some SetTrue }

-- the words of the program: `--memory`, and `--help` and `--version`, which clap adds
abbrev pub umd_words : App
umd_words = on_top (λ s. record s { has_version = true }) (with_rule (new_app (codes "umd")) memory_rule)

-- the words of `umd create`
abbrev pub create_words : App
create_words =
    with_rule (with_rule (with_rule (new_app (codes "umd create")) (option_rule (codes "slot"))) (option_rule (codes "log"))) (word_rule (codes "file"))

-- the words of `umd check`
abbrev pub check_words : App
check_words = with_rule (with_rule (new_app (codes "umd check")) (flag_rule (codes "units"))) (word_rule (codes "file"))

-- the words of `umd serve`: the unit to start, the output folder and the size of an output file are optional
abbrev pub serve_words : App
serve_words =
    with_rule (with_rule (with_rule (with_rule (with_rule (with_rule (with_rule (with_rule (new_app (codes "umd serve")) (option_rule (codes "boot")))
    (option_rule (codes "socket"))) (option_rule (codes "dir"))) (option_rule (codes "runner"))) (optional_rule (codes "start")))
    (optional_rule (codes "output"))) (optional_rule (codes "output-size"))) (word_rule (codes "file"))

-- the words of `umd ctl`: optional are a socket, two times, a mode and three flags; then a verb with its arguments, or
-- `sync` with its folder
abbrev pub ctl_words : App
ctl_words =
    with_rule (with_rule (with_rule (with_rule (with_rule (with_rule (with_rule (with_rule (new_app (codes "umd ctl")) (optional_rule (codes "socket")))
    (optional_rule (codes "retry"))) (optional_rule (codes "timeout"))) (optional_rule (codes "mode"))) (flag_rule (codes "wait")))
    (flag_rule (codes "dry-run"))) (flag_rule (codes "all"))) (words_rule (codes "word"))

-- the words of `umd status`: optional are the socket, two times and two folders; then units
abbrev pub status_words : App
status_words =
    with_rule (with_rule (with_rule (with_rule (with_rule (with_rule (new_app (codes "umd status")) (optional_rule (codes "socket")))
    (optional_rule (codes "retry"))) (optional_rule (codes "timeout"))) (optional_rule (codes "dir"))) (optional_rule (codes "output")))
    (any_words_rule (codes "unit"))

-- the words of `umd verify`: folders and files
abbrev pub verify_words : App
verify_words = with_rule (new_app (codes "umd verify")) (words_rule (codes "path"))

-- the words of `umd logs`: optional are the output folder, the number of lines, and two flags; then a unit
abbrev pub logs_words : App
logs_words =
    with_rule (with_rule (with_rule (with_rule (with_rule (new_app (codes "umd logs")) (optional_rule (codes "output"))) (letter_rule (codes "lines") 110))
    (letter_flag_rule (codes "follow") 102)) (flag_rule (codes "raw"))) (word_rule (codes "unit"))

-- ---- mistakes

-- the first mistake of the words, the program's name included; none if they are right
abbrev pub mistakes_of : List (List ℕ) → Kinds
mistakes_of = fault_of umd_words

-- in clap's words a request for help or the version is a mistake
abbrev pub IsTold : Kinds → Type 0
IsTold mistakes = IsAmong DisplayHelp mistakes ⊎ IsAmong DisplayVersion mistakes

-- any other mistake
abbrev pub IsMistake : Kinds → Type 0
IsMistake mistakes = (kind : ErrorKind) × IsAmong kind mistakes × (kind ≢ DisplayHelp) × (kind ≢ DisplayVersion)

-- this line reports a mistake of this kind
abbrev pub IsToldAs : ErrorKind → Line → Type 0
IsToldAs kind (Told text) = (kind ≡ DisplayHelp) ⊎ (kind ≡ DisplayVersion)
IsToldAs kind (Wrong text) = (kind ≢ DisplayHelp) × (kind ≢ DisplayVersion)
IsToldAs kind other = ⊥

-- the line that reports these mistakes
abbrev pub TellsMistake : Kinds → Line → Type 0
TellsMistake mistakes (Told text) = IsTold mistakes
TellsMistake mistakes (Wrong text) = IsMistake mistakes
TellsMistake mistakes other = ⊥

-- words without a mistake give the line of their values; otherwise the line reports the mistake
abbrev pub IsReadLine : Kinds → (Line → Type 0) → Line → Type 0
IsReadLine mistakes Takes line = ((mistakes ≡ []) × Takes line) ⊎ TellsMistake mistakes line

-- ---- numbers

-- the value of an option is this number in decimal digits, and within its limits
abbrev pub IsNumber : (low high n : ℕ) → Option (List ℕ) → Type 0
IsNumber low high n text = (text ≡ Some (decimal n)) × (low ≤ n) × (n ≤ high)

-- it is no such number
abbrev pub IsNoNumber : (low high : ℕ) → Option (List ℕ) → Type 0
IsNoNumber low high text = (n : ℕ) → low ≤ n → n ≤ high → text ≢ Some (decimal n)

-- the sectors of a slot, and of the log
abbrev pub least_slot : ℕ
least_slot = 64

abbrev pub least_log : ℕ
least_log = 512

abbrev pub most_sectors : ℕ
most_sectors = 2 ^ 20

-- the longest wait, in seconds: a day
abbrev pub most_seconds : ℕ
most_seconds = 86400

-- an optional time: it is absent, or it is this number within its limits
abbrev pub IsTime : Option (List ℕ) → Option ℕ → Type 0
IsTime text None = text ≡ None
IsTime text (Some seconds) = IsNumber 1 most_seconds seconds text

-- a time is given, and is no number within its limits
abbrev pub IsNoTime : Option (List ℕ) → Type 0
IsNoTime text = (text ≢ None) × IsNoNumber 1 most_seconds text

-- the bytes of an output file that are kept by default
abbrev pub usual_size : ℕ
usual_size = 2 ^ 20

-- the least size that may be given, and the greatest
abbrev pub least_size : ℕ
least_size = 4096

abbrev pub most_size : ℕ
most_size = 2 ^ 24

-- an optional size: it is absent, and the default is taken, or it is this number within its limits
abbrev pub IsSize : Option (List ℕ) → ℕ → Type 0
IsSize text size = ((text ≡ None) × (size ≡ usual_size)) ⊎ IsNumber least_size most_size size text

-- a size is given, and is no number within its limits
abbrev pub IsNoSize : Option (List ℕ) → Type 0
IsNoSize text = (text ≢ None) × IsNoNumber least_size most_size text

-- the greatest number of output lines that can be requested
abbrev pub most_lines : ℕ
most_lines = 1000000

-- an optional number of lines: it is absent, or it is this number within its limits
abbrev pub IsCount : Option (List ℕ) → Option ℕ → Type 0
IsCount text None = text ≡ None
IsCount text (Some lines) = IsNumber 0 most_lines lines text

-- a number of lines is given, and is no number within its limits
abbrev pub IsNoCount : Option (List ℕ) → Type 0
IsNoCount text = (text ≢ None) × IsNoNumber 0 most_lines text

-- the longest id of a boot, in bytes
abbrev pub boot_limit : ℕ
boot_limit = 64

-- the number of the last refusal
abbrev pub last_refusal : ℕ
last_refusal = 22

-- ---- lines

abbrev pub IsMemory : Line → Type 0
IsMemory Memory = ⊤
IsMemory other = ⊥

-- the line for the words of the program itself
abbrev pub IsTopLine : List (List ℕ) → Line → Type 0
IsTopLine words = IsReadLine (mistakes_of words) IsMemory

-- the words are no runner's, for any folder, number, entries and command
abbrev pub IsNoRunner : List (List ℕ) → Type 0
IsNoRunner words =
    (has_file : Bool) (folder : List ℕ) (number : ℕ) (entries command : List (List ℕ)) → TellsRunner has_file folder number entries command words → ⊥

-- the line runs this command with these entries, or with those of the number's file, as the process of this number
abbrev pub IsToRun : (has_file : Bool) (folder : List ℕ) (number : ℕ) (entries command : List (List ℕ)) → Line → Type 0
IsToRun has_file folder number entries command (Run line) =
    (line.has_file ≡ has_file) × (line.folder.now ≡ folder) × (line.number ≡ number) × (entries_of line.job ≡ entries) × (words_of line.job ≡ command)
IsToRun has_file folder number entries command other = ⊥

-- the line for the words after `run`: a runner's words are run, others are wrong, except `--help` in front
abbrev pub IsRunLine : List (List ℕ) → Line → Type 0
IsRunLine words (Run line) = TellsRunner line.has_file line.folder.now line.number (entries_of line.job) (words_of line.job) words
IsRunLine words (Told text) = slice_get words 0 ≡ Some (codes "--help")
IsRunLine words (Wrong text) = (slice_get words 0 ≢ Some (codes "--help")) × IsNoRunner words
IsRunLine words other = ⊥

-- a store with this number of sectors in a slot and in its log, in a new file
abbrev pub IsCreate : List Row → CreateLine → Type 0
IsCreate rows line =
    IsNumber least_slot most_sectors line.slot (first_of (codes "slot") rows) × IsNumber least_log most_sectors line.log (first_of (codes "log") rows)
    × (first_of (codes "file") rows ≡ Some line.file.now)

-- a number isn't within its limits, or a word is missing
abbrev pub IsNoCreate : List Row → Type 0
IsNoCreate rows =
    IsNoNumber least_slot most_sectors (first_of (codes "slot") rows) ⊎ IsNoNumber least_log most_sectors (first_of (codes "log") rows)
    ⊎ (first_of (codes "file") rows ≡ None)

-- the line for these values
abbrev pub TakesCreate : List Row → Line → Type 0
TakesCreate rows (Create line) = IsCreate rows line
TakesCreate rows (Wrong text) = IsNoCreate rows
TakesCreate rows other = ⊥

-- the line for the words from `create` on
abbrev pub IsCreateLine : List (List ℕ) → Line → Type 0
IsCreateLine words = IsReadLine (fault_of create_words words) (TakesCreate (matches_of create_words words))

-- a store to report on, and whether its units are wanted
abbrev pub IsCheck : List Row → CheckLine → Type 0
IsCheck rows line =
    ((line.units ≡ true) ↔ (first_of (codes "units") rows ≡ Some (codes "true"))) × (first_of (codes "file") rows ≡ Some line.file.now)

-- the line for these values
abbrev pub TakesCheck : List Row → Line → Type 0
TakesCheck rows (Check line) = IsCheck rows line
TakesCheck rows (Wrong text) = first_of (codes "file") rows ≡ None
TakesCheck rows other = ⊥

-- the line for the words from `check` on
abbrev pub IsCheckLine : List (List ℕ) → Line → Type 0
IsCheckLine words = IsReadLine (fault_of check_words words) (TakesCheck (matches_of check_words words))

-- the store that is served, and the boot, the places, the unit to start and the size of an output file
abbrev pub IsServe : List Row → ServeLine → Type 0
IsServe rows line =
    (first_of (codes "boot") rows ≡ Some line.boot.now) × (first_of (codes "socket") rows ≡ Some line.socket.now)
    × (first_of (codes "dir") rows ≡ Some line.dir.now) × (first_of (codes "runner") rows ≡ Some line.runner.now)
    × (first_of (codes "start") rows ≡ option_map (λ unit. unit.now) line.start)
    × (first_of (codes "output") rows ≡ option_map (λ folder. folder.now) line.output) × IsSize (first_of (codes "output-size") rows) line.output_size
    × (first_of (codes "file") rows ≡ Some line.file.now)

-- a word is missing, or the size of an output file isn't within its limits
abbrev pub IsNoServe : List Row → Type 0
IsNoServe rows =
    (first_of (codes "boot") rows ≡ None) ⊎ (first_of (codes "socket") rows ≡ None) ⊎ (first_of (codes "dir") rows ≡ None)
    ⊎ (first_of (codes "runner") rows ≡ None) ⊎ IsNoSize (first_of (codes "output-size") rows) ⊎ (first_of (codes "file") rows ≡ None)

-- the line for these values; a long id of a boot is refused as a request would be
abbrev pub TakesServe : List Row → Line → Type 0
TakesServe rows (Serve line) = IsServe rows line × (length line.boot.now ≤ boot_limit)
TakesServe rows LongBoot = (boot : List ℕ) × (first_of (codes "boot") rows ≡ Some boot) × (boot_limit < length boot)
TakesServe rows (Wrong text) = IsNoServe rows
TakesServe rows other = ⊥

-- the line for the words from `serve` on
abbrev pub IsServeLine : List (List ℕ) → Line → Type 0
IsServeLine words = IsReadLine (fault_of serve_words words) (TakesServe (matches_of serve_words words))

-- this flag was given
abbrev pub HasFlag : List ℕ → List Row → Type 0
HasFlag name rows = first_of name rows ≡ Some (codes "true")

-- one of the flags of `sync` was given
abbrev pub HasSyncFlag : List Row → Type 0
HasSyncFlag rows = HasFlag (codes "dry-run") rows ⊎ HasFlag (codes "all") rows

-- a verb of a request, other than `sync`, with its arguments, the socket, the times, and whether to wait for the unit
abbrev pub IsCtl : List Row → CtlLine → Type 0
IsCtl rows line =
    (first_of (codes "socket") rows ≡ option_map (λ path. path.now) line.socket) × IsTime (first_of (codes "retry") rows) line.retry
    × IsTime (first_of (codes "timeout") rows) line.timeout × (first_of (codes "mode") rows ≡ option_map (λ mode. mode.now) line.mode)
    × ((line.waits ≡ true) ↔ HasFlag (codes "wait") rows) × ¬ HasSyncFlag rows × (line.verb.now ≢ codes "sync")
    × (all_of (codes "word") rows ≡ Some (line.verb.now ∷ map (λ word. word.now) line.arguments.items))

-- `sync` with a folder, the socket, the times, whether the steps are only printed, and whether everything is put
abbrev pub IsSync : List Row → SyncLine → Type 0
IsSync rows line =
    (first_of (codes "socket") rows ≡ option_map (λ path. path.now) line.socket) × IsTime (first_of (codes "retry") rows) line.retry
    × IsTime (first_of (codes "timeout") rows) line.timeout × (first_of (codes "mode") rows ≡ None) × ¬ HasFlag (codes "wait") rows
    × ((line.is_dry ≡ true) ↔ HasFlag (codes "dry-run") rows) × ((line.all ≡ true) ↔ HasFlag (codes "all") rows)
    × (all_of (codes "word") rows ≡ Some (codes "sync" ∷ line.folder.now ∷ []))

-- a word is missing, or a time isn't within its limits
abbrev pub IsNoCtl : List Row → Type 0
IsNoCtl rows =
    IsNoTime (first_of (codes "retry") rows) ⊎ IsNoTime (first_of (codes "timeout") rows)
    ⊎ (all_of (codes "word") rows ≡ None) ⊎ (all_of (codes "word") rows ≡ Some [])

-- words that begin with `sync`
abbrev pub AsksSync : List (List ℕ) → Type 0
AsksSync words = slice_get words 0 ≡ Some (codes "sync")

-- a flag of `sync` stands with a verb
abbrev pub IsNoVerb : List Row → Type 0
IsNoVerb rows = (words : List (List ℕ)) × (all_of (codes "word") rows ≡ Some words) × ¬ AsksSync words × HasSyncFlag rows

-- `sync` without a folder or with several, or with a mode or with `--wait`
abbrev pub IsNoSync : List Row → Type 0
IsNoSync rows =
    (words : List (List ℕ)) × (all_of (codes "word") rows ≡ Some words) × AsksSync words
    × ((length words ≢ 2) ⊎ (first_of (codes "mode") rows ≢ None) ⊎ HasFlag (codes "wait") rows)

-- the line for these values
abbrev pub TakesCtl : List Row → Line → Type 0
TakesCtl rows (Ctl line) = IsCtl rows line
TakesCtl rows (Sync line) = IsSync rows line
TakesCtl rows (Wrong text) = IsNoCtl rows ⊎ IsNoVerb rows ⊎ IsNoSync rows
TakesCtl rows other = ⊥

-- the line for the words from `ctl` on
abbrev pub IsCtlLine : List (List ℕ) → Line → Type 0
IsCtlLine words = IsReadLine (fault_of ctl_words words) (TakesCtl (matches_of ctl_words words))

-- the units that words name; none if no word is there
abbrev pub IsUnits : Option (List (List ℕ)) → List (List ℕ) → Type 0
IsUnits None units = units ≡ []
IsUnits (Some words) units = units ≡ words

-- units whose state is wanted, the socket, the times, and the folders of processes and of their output
abbrev pub IsStatus : List Row → StatusLine → Type 0
IsStatus rows line =
    (first_of (codes "socket") rows ≡ option_map (λ path. path.now) line.socket) × IsTime (first_of (codes "retry") rows) line.retry
    × IsTime (first_of (codes "timeout") rows) line.timeout × (first_of (codes "dir") rows ≡ option_map (λ folder. folder.now) line.dir)
    × (first_of (codes "output") rows ≡ option_map (λ folder. folder.now) line.output)
    × IsUnits (all_of (codes "unit") rows) (map (λ unit. unit.now) line.units.items)

-- a time isn't within its limits
abbrev pub IsNoStatus : List Row → Type 0
IsNoStatus rows = IsNoTime (first_of (codes "retry") rows) ⊎ IsNoTime (first_of (codes "timeout") rows)

-- the line for these values
abbrev pub TakesStatus : List Row → Line → Type 0
TakesStatus rows (Status line) = IsStatus rows line
TakesStatus rows (Wrong text) = IsNoStatus rows
TakesStatus rows other = ⊥

-- the line for the words from `status` on
abbrev pub IsStatusLine : List (List ℕ) → Line → Type 0
IsStatusLine words = IsReadLine (fault_of status_words words) (TakesStatus (matches_of status_words words))

-- the line for these values: folders and files to verify
abbrev pub TakesVerify : List Row → Line → Type 0
TakesVerify rows (Verify line) = all_of (codes "path") rows ≡ Some (map (λ path. path.now) line.paths.items)
TakesVerify rows (Wrong text) = all_of (codes "path") rows ≡ None
TakesVerify rows other = ⊥

-- the line for the words from `verify` on
abbrev pub IsVerifyLine : List (List ℕ) → Line → Type 0
IsVerifyLine words = IsReadLine (fault_of verify_words words) (TakesVerify (matches_of verify_words words))

-- a unit whose output is wanted, the folder of outputs, the number of last lines, and whether to follow the output and
-- to print it raw
abbrev pub IsLogs : List Row → LogsLine → Type 0
IsLogs rows line =
    (first_of (codes "output") rows ≡ option_map (λ folder. folder.now) line.output) × IsCount (first_of (codes "lines") rows) line.lines
    × ((line.follows ≡ true) ↔ (first_of (codes "follow") rows ≡ Some (codes "true")))
    × ((line.is_raw ≡ true) ↔ (first_of (codes "raw") rows ≡ Some (codes "true"))) × (first_of (codes "unit") rows ≡ Some line.unit.now)

-- the unit is missing, or the number of lines isn't within its limits
abbrev pub IsNoLogs : List Row → Type 0
IsNoLogs rows = IsNoCount (first_of (codes "lines") rows) ⊎ (first_of (codes "unit") rows ≡ None)

-- the line for these values
abbrev pub TakesLogs : List Row → Line → Type 0
TakesLogs rows (Logs line) = IsLogs rows line
TakesLogs rows (Wrong text) = IsNoLogs rows
TakesLogs rows other = ⊥

-- the line for the words from `logs` on
abbrev pub IsLogsLine : List (List ℕ) → Line → Type 0
IsLogsLine words = IsReadLine (fault_of logs_words words) (TakesLogs (matches_of logs_words words))

-- the letter before the number of a refusal: `E` or `e`
abbrev pub IsLetter : ℕ → Type 0
IsLetter b = (b ≡ 69) ⊎ (b ≡ 101)

-- the word for a refusal: that letter, and its number in decimal digits
abbrev pub IsCode : ℕ → List ℕ → Type 0
IsCode n word = (letter : ℕ) × IsLetter letter × (word ≡ letter ∷ decimal n) × (1 ≤ n) × (n ≤ last_refusal)

-- it is no such word
abbrev pub IsNoCode : List ℕ → Type 0
IsNoCode word = (letter n : ℕ) → IsLetter letter → 1 ≤ n → n ≤ last_refusal → word ≢ letter ∷ decimal n

-- ---- the subcommands

abbrev pub named : Option (List ℕ) → Subcommand
named None = sub.Nothing
named (Some word) =
    if bytes_eq word (codes "run") then sub.Run
    else (if bytes_eq word (codes "create") then sub.Create
    else (if bytes_eq word (codes "check") then sub.Check
    else (if bytes_eq word (codes "serve") then sub.Serve
    else (if bytes_eq word (codes "ctl") then sub.Ctl
    else (if bytes_eq word (codes "status") then sub.Status
    else (if bytes_eq word (codes "verify") then sub.Verify
    else (if bytes_eq word (codes "logs") then sub.Logs
    else (if bytes_eq word (codes "help") then sub.Help else sub.Nothing))))))))

-- ---- help

-- the words are this one word
abbrev pub IsOneWord : List (List ℕ) → (List ℕ → Type 0) → Type 0
IsOneWord words Is = (word : List ℕ) × (words ≡ word ∷ []) × Is word

-- the word has no help: it is no refusal, no subcommand and no word with a sentence
abbrev pub HasNoHelp : List ℕ → Type 0
HasNoHelp word = IsNoCode word × (named (Some word) ≡ sub.Nothing) × (topic_named word ≡ None)

-- the line for the words after `help`: the meaning of one refusal or word, or the usage of `umd help` or a subcommand
abbrev pub IsHelpLine : List (List ℕ) → Line → Type 0
IsHelpLine words (Help n) = IsOneWord words (IsCode n)
IsHelpLine words (Topic line) = (words ≡ line.word.now ∷ []) × (topic_named line.word.now ≡ Some line.topic)
IsHelpLine words (Told text) = (words ≡ []) ⊎ (words ≡ codes "--help" ∷ []) ⊎ IsOneWord words (λ word. named (Some word) ≢ sub.Nothing)
IsHelpLine words (Wrong text) = (words ≢ []) × (words ≢ codes "--help" ∷ []) × ((word : List ℕ) → words ≡ word ∷ [] → HasNoHelp word)
IsHelpLine words other = ⊥

-- ---- all of them

-- the subcommand after the program's name
abbrev pub subcommand_of : List (List ℕ) → Subcommand
subcommand_of words = named (slice_get words 1)

abbrev pub IsLineBy : Subcommand → List (List ℕ) → Line → Type 0
IsLineBy sub.Run words = IsRunLine (drop 1 (drop 1 words))
IsLineBy sub.Create words = IsCreateLine (drop 1 words)
IsLineBy sub.Check words = IsCheckLine (drop 1 words)
IsLineBy sub.Serve words = IsServeLine (drop 1 words)
IsLineBy sub.Ctl words = IsCtlLine (drop 1 words)
IsLineBy sub.Status words = IsStatusLine (drop 1 words)
IsLineBy sub.Verify words = IsVerifyLine (drop 1 words)
IsLineBy sub.Logs words = IsLogsLine (drop 1 words)
IsLineBy sub.Help words = IsHelpLine (drop 1 (drop 1 words))
IsLineBy sub.Nothing words = IsTopLine words

-- the line for the words of a command line
abbrev pub IsLineOf : List (List ℕ) → Line → Type 0
IsLineOf words line = IsLineBy (subcommand_of words) words line
