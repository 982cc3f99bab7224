-- The meanings of settings' values: truth values, numbers, time spans, sets of exits, and when a service is started again.
-- Follows systemd.syntax(7) in truth values, systemd.time(7), "Parsing Time Spans", and systemd.service(5) in `Restart=` and `SuccessExitStatus=`.
-- Settings and the service table depend on this file.
use Rattle.std.specs.Prelude.{ℕ, ◌+◌, ◌-◌, ◌*◌, Bool, true, false, not, ◌&&◌, ◌==◌, nat_le, nat_lt}
use Rattle.std.specs.Prelude.{List, [], ◌∷◌, length, drop, filter, take_while, codes, Option, Some, None, option_map, option_and_then}
use Rattle.std.specs.Prelude.{find, fold, is_some, sum, if◌then◌else◌}
use Rattle.std.specs.List.{list_any, list_all, slice_split}
use Rattle.std.specs.Map.{lookup}
use Rattle.std.specs.Option.{option_map_or}
use Rattle.std.specs.Str.{bytes_eq, str_eq_ignore_ascii_case}
use Rattle.um_model.specs.Moments.{span_limit, millisecond, second, minute, hour, day, week}
use Rattle.um_model.specs.Ascii.{is_space, is_digit, is_letter}
use Rattle.um_model.specs.Pieces.{Front, Unreadable, Gives, reading}
use Rattle.um_model.specs.Text.{trim_start, is_blank}
use Rattle.um_model.specs.declared.service.End.{End}
use Rattle.um_model.specs.declared.service.End.TheVariants.{Code, Signal}
use Rattle.um_model.specs.declared.settings.RestartPolicy.{RestartPolicy}
use Rattle.um_model.specs.declared.settings.RestartPolicy.TheVariants.{No, Always, OnSuccess, OnFailure, OnAbnormal, OnAbort, OnWatchdog}

-- the words for yes and for no
abbrev pub words_for : Bool → List (List ℕ)
words_for true = codes "1" ∷ codes "yes" ∷ codes "true" ∷ codes "on" ∷ codes "y" ∷ codes "t" ∷ []
words_for false = codes "0" ∷ codes "no" ∷ codes "false" ∷ codes "off" ∷ codes "n" ∷ codes "f" ∷ []

-- the truth value that the text is a word for, in any case of its letters
unfoldable pub boolean_of : List ℕ → Option Bool
boolean_of text = find (λ b. list_any (str_eq_ignore_ascii_case text) (words_for b)) (true ∷ false ∷ [])

-- ---- numbers

-- the number that decimal digits spell
abbrev pub decimal : List ℕ → ℕ
decimal digits = fold (λ n b. 10 * n + (b - 48)) 0 digits

-- decimal digits alone, and one at least
abbrev pub is_decimal : List ℕ → Bool
is_decimal text = nat_lt 0 (length text) && list_all is_digit text

-- the number that the text spells, if 32 bits hold it
unfoldable pub number_of : List ℕ → Option ℕ
number_of text = if is_decimal text && nat_le (decimal text) 4294967295 then Some (decimal text) else None

-- ---- time spans

-- the units of time by their names, with their microseconds; a part without a unit is in seconds
abbrev pub time_units : List (List ℕ × ℕ)
time_units =
    ([], second) ∷ (codes "s", second) ∷ (codes "sec", second) ∷ (codes "second", second) ∷ (codes "seconds", second)
    ∷ (codes "us", 1) ∷ (codes "usec", 1)
    ∷ (codes "ms", millisecond) ∷ (codes "msec", millisecond)
    ∷ (codes "m", minute) ∷ (codes "min", minute) ∷ (codes "minute", minute) ∷ (codes "minutes", minute)
    ∷ (codes "h", hour) ∷ (codes "hr", hour) ∷ (codes "hour", hour) ∷ (codes "hours", hour)
    ∷ (codes "d", day) ∷ (codes "day", day) ∷ (codes "days", day)
    ∷ (codes "w", week) ∷ (codes "week", week) ∷ (codes "weeks", week) ∷ []

-- the microseconds that a number and a unit say
abbrev pub time_of : List ℕ → List ℕ → Option ℕ
time_of digits unit = if nat_lt 0 (length digits) then option_map (λ size. decimal digits * size) (lookup (bytes_eq unit) time_units) else None

-- a piece of a text of times: whitespace, or a part, which is digits and the letters of a unit, with any whitespace between them
abbrev pub time_front : ℕ → List ℕ → Front ℕ
time_front b bs =
    let digits = take_while is_digit (b ∷ bs) in
    let behind = trim_start (drop (length digits) (b ∷ bs)) in
    let unit = take_while is_letter behind in
    let left = drop (length unit) behind in
    if is_space b then Gives [] 1 else option_map_or (λ n. Gives (n ∷ []) (length (b ∷ bs) - length left)) (time_of digits unit) Unreadable

-- the microseconds that the text says, or that they never end: `infinity`, or one part at least, which add up to them
unfoldable pub span_of : List ℕ → Option (Option ℕ)
span_of text =
    if bytes_eq text (codes "infinity") then Some None
    else (if is_blank text then None
    else option_and_then (λ n. if nat_le n span_limit then Some (Some n) else None) (option_map sum (reading time_front text)))

-- ---- sets of exits

-- the signals by their names, with their numbers
abbrev pub signals : List (List ℕ × ℕ)
signals =
    (codes "SIGHUP", 1) ∷ (codes "SIGINT", 2) ∷ (codes "SIGQUIT", 3) ∷ (codes "SIGILL", 4) ∷ (codes "SIGTRAP", 5)
    ∷ (codes "SIGABRT", 6) ∷ (codes "SIGBUS", 7) ∷ (codes "SIGFPE", 8) ∷ (codes "SIGKILL", 9) ∷ (codes "SIGUSR1", 10)
    ∷ (codes "SIGSEGV", 11) ∷ (codes "SIGUSR2", 12) ∷ (codes "SIGPIPE", 13) ∷ (codes "SIGALRM", 14) ∷ (codes "SIGTERM", 15) ∷ []

-- the greatest exit code
abbrev pub code_limit : ℕ
code_limit = 255

-- the greatest number of a signal
abbrev pub signal_limit : ℕ
signal_limit = 64

-- the end that a word names: an exit code, or a signal by its name
abbrev pub exit_of : List ℕ → Option End
exit_of word =
    if is_decimal word then (if nat_le (decimal word) code_limit then Some (Code (decimal word)) else None)
    else option_map Signal (lookup (bytes_eq word) signals)

-- it is this end
abbrev pub is_end : End → Option End → Bool
is_end end None = false
is_end (Code a) (Some (Code b)) = a == b
is_end (Signal a) (Some (Signal b)) = a == b
is_end end (Some other) = false

-- the set of the ends that the text's words name, if each of them names one; its words stand between spaces and tabs
unfoldable pub exits_of : List ℕ → Option (End → Bool)
exits_of text =
    let words = filter (λ word. not (length word == 0)) (slice_split is_space text) in
    if list_all (λ word. is_some (exit_of word)) words then Some (λ end. list_any (λ word. is_end end (exit_of word)) words) else None

-- ---- Restart=

-- the word for a policy
abbrev pub restart_text : RestartPolicy → List ℕ
restart_text No = codes "no"
restart_text Always = codes "always"
restart_text OnSuccess = codes "on-success"
restart_text OnFailure = codes "on-failure"
restart_text OnAbnormal = codes "on-abnormal"
restart_text OnAbort = codes "on-abort"
restart_text OnWatchdog = codes "on-watchdog"

-- the policy of this name
unfoldable pub policy_named : List ℕ → Option RestartPolicy
policy_named text = find (λ policy. bytes_eq text (restart_text policy)) (No ∷ Always ∷ OnSuccess ∷ OnFailure ∷ OnAbnormal ∷ OnAbort ∷ OnWatchdog ∷ [])
