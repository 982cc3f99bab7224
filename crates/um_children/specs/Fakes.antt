-- The fates that children in memory report of a number, and which call their fuse fails.
-- No manual page has this: processes under numbers are the project's own.
-- Children in memory stand on this file.
use Rattle.std.specs.Prelude.{◌-◌, ◌==◌, ◌∷◌, [], List, ℕ, Bool, Option, Some, None, if◌then◌else◌}
use Rattle.um_model.specs.Children.{Call}
use Rattle.um_model.specs.declared.children.Fate.{Fate}
use Rattle.um_model.specs.declared.children.Fate.TheVariants.{Starting, Executed, Ended, Absent}
use Rattle.um_model.specs.declared.service.End.{End}
use Rattle.um_children.specs.History.{has_started}

-- the end that was set first for the number
abbrev pub end_of : List (ℕ × End) → ℕ → Option End
end_of [] n = None
end_of (told ∷ ends) n = if told.0 == n then Some told.1 else end_of ends n

-- executed until its end is set
abbrev pub started_fate : Option End → Fate
started_fate None = Executed
started_fate (Some end) = Ended end

-- the fate of a number: one that wasn't started is absent under a claim
abbrev pub fate_of : List Call → List (ℕ × End) → ℕ → Bool → Fate
fate_of calls ends n claim = if has_started calls n then started_fate (end_of ends n) else (if claim then Absent else Starting)

-- whether this call is the one to fail
abbrev pub is_due : ℕ → Bool
is_due fuse = fuse == 1

abbrev pub fuse_after : ℕ → ℕ
fuse_after fuse = fuse - 1
