-- The least deadline past a moment, as a scan of the units finds it.
-- No manual page has this: it is the project's own (docs/DECISIONS.md, "Serving").
-- The scan for the deadline that is slept for stands on this file.
use Rattle.std.specs.Prelude.{ℕ, nat_le, Option, Some, None, if◌then◌else◌}

-- the sooner one of a deadline so far and the next one
abbrev pub sooner : Option ℕ → ℕ → Option ℕ
sooner None deadline = Some deadline
sooner (Some so_far) deadline = if nat_le so_far deadline then Some so_far else Some deadline

-- the same where a unit has a next one, and it is past a moment
abbrev pub sooner_past : ℕ → Option ℕ → Option ℕ → Option ℕ
sooner_past moment so_far None = so_far
sooner_past moment so_far (Some deadline) = if nat_le deadline moment then so_far else sooner so_far deadline
