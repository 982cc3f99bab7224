-- The sentences for the numbers and words in replies: the meaning of each to a person.
-- No manual page has this: the words are those of docs/FORMATS.md, the sentences the project's own.
-- The sentences of `umd help`, `umd verify` and `umd status` stand on this file.
use Rattle.std.specs.Prelude.{ℕ, List, [], ◌∷◌, ◌++◌, Bool, Option, Some, codes, flat_map, if◌then◌else◌, nat_eq}
use Rattle.std.specs.List.{starts_with}
use Rattle.std.specs.Map.{lookup}
use Rattle.std.specs.Option.{option_or}
use Rattle.std.specs.Str.{bytes_eq}
use Rattle.um_model.specs.declared.service.UnitResult.{UnitResult}
use Rattle.um_model.specs.declared.service.UnitResult.TheVariants as result
use Rattle.um_model.specs.declared.warnings.WarningKind.{WarningKind}
use Rattle.um_model.specs.declared.warnings.WarningKind.TheVariants as warning
use Rattle.um_sentences.specs.declared.topics.Topic.{Topic}
use Rattle.um_sentences.specs.declared.topics.Topic.TheVariants.{Setting, ServiceType, ExecCount, Restart, Template, DefaultInstance, Outcome}

-- ---- warnings

-- the sentence of a warning for its line
abbrev pub warning_sentence : WarningKind → List ℕ
warning_sentence warning.BeforeAnySection = codes "before any section, no effect"
warning_sentence warning.NoEqualsSign = codes "no = in it, no effect"
warning_sentence warning.UnknownSection = codes "unknown section, no effect"
warning_sentence warning.UnknownKey = codes "unknown key, no effect"
warning_sentence warning.UnreadableValue = codes "unreadable value, no effect"
warning_sentence warning.UnreadableSpecifier = codes "unreadable specifier, no effect"

-- ---- keys that no unit may have

-- the keys that are named, each with why it isn't served
abbrev pub refused_keys : List (List ℕ × List ℕ)
refused_keys =
    (codes "User", codes "every service runs as umd's user")
    ∷ (codes "Group", codes "every service runs with umd's groups")
    ∷ (codes "DynamicUser", codes "every service runs as umd's user")
    ∷ (codes "RootDirectory", codes "every service has umd's root directory")
    ∷ (codes "WorkingDirectory", codes "every service has umd's working directory")
    ∷ (codes "EnvironmentFile", codes "variables are set by Environment= alone")
    ∷ (codes "ExecCondition", codes "no command decides whether a service starts")
    ∷ (codes "ExecStartPost", codes "no command runs behind those of ExecStart=")
    ∷ (codes "ExecStopPost", codes "no command runs behind those of ExecStop=")
    ∷ (codes "Requisite", codes "Requires= and BindsTo= are")
    ∷ (codes "Upholds", codes "Wants= and Requires= are")
    ∷ (codes "OnFailure", codes "no unit is started because another failed")
    ∷ (codes "OnSuccess", codes "no unit is started because another succeeded")
    ∷ []

-- the fronts of refused keys, and why these aren't served
abbrev pub refused_fronts : List (List ℕ × List ℕ)
refused_fronts =
    (codes "Condition", codes "no start depends on a condition")
    ∷ (codes "Assert", codes "no start depends on an assertion")
    ∷ []

-- whether a key begins with a text
abbrev pub begins_with : List ℕ → List ℕ → Bool
begins_with key front = starts_with nat_eq key front

-- why no unit may have the key with a value, as files are read now; none for other keys
abbrev pub key_why : List ℕ → Option (List ℕ)
key_why key = option_or (lookup (bytes_eq key) refused_keys) (lookup (begins_with key) refused_fronts)

-- the sentence for a key: `User= isn't served: every service runs as umd's user`
abbrev pub key_sentence : (key why : List ℕ) → List ℕ
key_sentence key why = key ++ (codes "= isn't served: " ++ why)

-- ---- the sentences at the lines of the other reasons

-- at the Type= that isn't served
abbrev pub type_sentence : List ℕ → List ℕ
type_sentence value = codes "Type=" ++ (value ++ codes " isn't served: simple, exec and oneshot are")

-- at the Restart= that isn't served
abbrev pub restart_sentence : List ℕ → List ℕ
restart_sentence value = codes "Restart=" ++ (value ++ codes " isn't served with Type=oneshot")

-- for a lack of commands
abbrev pub no_command : List ℕ
no_command = codes "no ExecStart= that can be read"

-- at a further command
abbrev pub further_command : List ℕ
further_command = codes "a command too many: all but Type=oneshot have exactly one"

-- the sentence at a line: that of a warning, and the text of the line
abbrev pub warning_at : WarningKind → List ℕ → List ℕ
warning_at kind text = warning_sentence kind ++ (codes ": " ++ text)

-- ---- topics

-- the words that have a sentence: the reasons of E6, and the results
abbrev pub topics : List (List ℕ × Topic)
topics =
    (codes "setting", Setting) ∷ (codes "type", ServiceType) ∷ (codes "exec-count", ExecCount) ∷ (codes "restart", Restart)
    ∷ (codes "template", Template) ∷ (codes "default-instance", DefaultInstance)
    ∷ (codes "success", Outcome result.Success) ∷ (codes "exit-code", Outcome result.ExitCode) ∷ (codes "signal", Outcome result.Signal)
    ∷ (codes "timeout", Outcome result.Timeout) ∷ (codes "lost", Outcome result.Lost)
    ∷ (codes "start-limit-hit", Outcome result.StartLimitHit) ∷ (codes "dependency", Outcome result.Dependency)
    ∷ (codes "not-loaded", Outcome result.NotLoaded) ∷ (codes "resources", Outcome result.Resources) ∷ []

-- the topic of this word
abbrev pub topic_named : List ℕ → Option Topic
topic_named word = lookup (bytes_eq word) topics

-- the topic of a reason of E6, as a refusal has it: `setting` is followed by a key
abbrev pub topic_of_reason : List ℕ → Option Topic
topic_of_reason reason = if begins_with reason (codes "setting ") then Some Setting else topic_named reason

-- the sentence for the outcome of a unit
abbrev pub result_sentence : UnitResult → List ℕ
result_sentence result.Success = codes "nothing has failed."
result_sentence result.ExitCode =
    codes "a process ended with a code that counts as a failure: 'umd status UNIT' tells the code, 'umd logs UNIT' what it printed."
result_sentence result.Signal = codes "a signal that counts as a failure ended a process: 'umd status UNIT' tells which."
result_sentence result.Timeout = codes "a start or a stop took longer than TimeoutStartSec= or TimeoutStopSec= allows."
result_sentence result.Lost = codes "nobody can tell how a process ended, as when its files in the folder of processes are gone."
result_sentence result.StartLimitHit =
    codes "it was started more often than StartLimitBurst= allows within StartLimitIntervalSec=: mend the cause, then ask reset-failed and start."
result_sentence result.Dependency = codes "its start was given up because a unit that it requires failed to start: 'umd status' tells which one failed."
result_sentence result.NotLoaded = codes "it couldn't be loaded as its start began: 'umd status UNIT' says why."
result_sentence result.Resources = codes "no process number was left to start it with."

-- the sentence of a topic for a person
abbrev pub topic_sentence : Topic → List ℕ
topic_sentence Setting = codes "a key has a value that umd doesn't serve and that a start can't ignore: take the line out; 'umd verify' tells which line it is."
topic_sentence ServiceType = codes "the Type= isn't served: simple, exec and oneshot are."
topic_sentence ExecCount =
    codes "a service has exactly one command in ExecStart=; of Type=oneshot it has one or more, or none with RemainAfterExit=yes and a command in ExecStop=."
topic_sentence Restart =
    codes "a service of Type=oneshot isn't started again behind a success: neither Restart=always nor Restart=on-success is served with it."
topic_sentence Template = codes "a template isn't started: name an instance of it, as name@instance.service."
topic_sentence DefaultInstance = codes "a template without a fit DefaultInstance= isn't enabled: name an instance of it, as name@instance.service."
topic_sentence (Outcome outcome) = result_sentence outcome

-- ---- the text of help

-- the line of a key with why it isn't served; `more` follows its name
abbrev pub key_line : List ℕ → List ℕ × List ℕ → List ℕ
key_line more (key, why) = codes "  " ++ (key ++ (more ++ (codes "= isn't served: " ++ (why ++ codes "\n"))))

-- the lines of the keys that no unit may have
abbrev pub key_lines : List ℕ
key_lines = flat_map (key_line []) refused_keys ++ flat_map (key_line (codes "..")) refused_fronts

-- the text after a topic's sentence: the keys after that of settings
abbrev pub behind_topic : Topic → List ℕ
behind_topic Setting = key_lines
behind_topic other = []

-- a word, and the sentence of its topic: `type: the Type= isn't served: simple, exec and oneshot are.`
abbrev pub topic_line : List ℕ → Topic → List ℕ
topic_line word topic = word ++ (codes ": " ++ (topic_sentence topic ++ codes "\n"))

-- the text that `umd help` prints for a word
abbrev pub topic_help : List ℕ → Topic → List ℕ
topic_help word topic = topic_line word topic ++ behind_topic topic

-- the words for the reasons of E6
abbrev pub reason_words : List (List ℕ × Topic)
reason_words =
    (codes "setting", Setting) ∷ (codes "type", ServiceType) ∷ (codes "exec-count", ExecCount) ∷ (codes "restart", Restart)
    ∷ (codes "template", Template) ∷ (codes "default-instance", DefaultInstance) ∷ []

-- the line of a reason, for the help of E6
abbrev pub reason_line : List ℕ × Topic → List ℕ
reason_line (word, topic) = codes "  " ++ (word ++ (codes ": " ++ (topic_sentence topic ++ codes "\n")))

-- a line for each reason of E6
unfoldable pub reason_lines : List ℕ
reason_lines = flat_map reason_line reason_words
