-- The start limit: which starts of a unit are let through, and the window of time in which they are counted.
-- Follows systemd.unit(5), "StartLimitIntervalSec=, StartLimitBurst=".
-- Service transitions and the state of a unit depend on this file.
use Rattle.std.specs.Prelude.{ℕ, ◌+◌, ◌==◌, ◌||◌, nat_lt, Bool, true, false, Option, Some, None, if◌then◌else◌}
use Rattle.um_model.specs.declared.limit.Counted.{Counted}

-- an interval of 0 microseconds or a burst of 0 starts is no limit; an interval that is None is infinite
abbrev pub is_unlimited : Option ℕ → ℕ → Bool
is_unlimited None burst = burst == 0
is_unlimited (Some interval) burst = interval == 0 || burst == 0

-- at the moment t more than the interval went by since the moment at which the window began
abbrev pub is_over : Option ℕ → ℕ → ℕ → Bool
is_over None t began = false
is_over (Some interval) t began = nat_lt (began + interval) t

-- under a limit: a start begins a window if there is none or it is over, else it is counted if the window has room, else it is refused
abbrev pub limited : Option ℕ → ℕ → ℕ → Option Counted → Bool × Option Counted
limited interval burst t None = (true, Some (record { began = t; count = 1 }))
limited interval burst t (Some w) =
    if is_over interval t w.began then (true, Some (record { began = t; count = 1 }))
    else (if nat_lt w.count burst then (true, Some (record w { count = w.count + 1 })) else (false, Some w))

-- a start at the moment t: whether it is let through, and the window after it
abbrev pub counted : Option ℕ → ℕ → ℕ → Option Counted → Bool × Option Counted
counted interval burst t window = if is_unlimited interval burst then (true, window) else limited interval burst t window
