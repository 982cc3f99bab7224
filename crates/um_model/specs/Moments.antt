-- Time in microseconds; the bounds of moments, spans, deadlines and process numbers.
-- Follows systemd.time(7) in counting microseconds; the bounds are this project's own.
-- Service transitions, the machine, requests and canonical bytes depend on this file.
use Rattle.std.specs.Prelude.{ℕ, ◌-◌, ◌*◌, ◌^◌}

-- microseconds in a millisecond, a second, a minute, an hour, a day and a week
abbrev pub millisecond : ℕ
millisecond = 1000

abbrev pub second : ℕ
second = 1000 * millisecond

abbrev pub minute : ℕ
minute = 60 * second

abbrev pub hour : ℕ
hour = 60 * minute

abbrev pub day : ℕ
day = 24 * hour

abbrev pub week : ℕ
week = 7 * day

-- a moment is at most 2^62 microseconds
abbrev pub moment_limit : ℕ
moment_limit = 2 ^ 62

-- a span of time is at most 2^62 microseconds
abbrev pub span_limit : ℕ
span_limit = 2 ^ 62

-- a deadline is a span after a moment: at most 2^63 microseconds
abbrev pub deadline_limit : ℕ
deadline_limit = 2 ^ 63

-- processes have the numbers below 2^63
abbrev pub process_limit : ℕ
process_limit = 2 ^ 63

-- the last number of 64 bits
abbrev pub last_of_64_bits : ℕ
last_of_64_bits = 2 ^ 64 - 1
