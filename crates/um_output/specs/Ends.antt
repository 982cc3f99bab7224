-- The lines that record how processes ended.
-- No manual page has this: it is the project's own (docs/FORMATS.md, "Output").
-- Output stands on this file.
use Rattle.std.specs.Prelude.{ℕ, Option, Some, None, List, ◌++◌, codes, decimal}
use Rattle.um_model.specs.declared.children.Fate.{Fate}
use Rattle.um_model.specs.declared.children.Fate.TheVariants as fate
use Rattle.um_model.specs.declared.service.End.TheVariants.{Code, Signal, Lost}
use Rattle.um_output.specs.declared.ends.Ended.{Ended}
use Rattle.um_output.specs.declared.ends.Ended.TheVariants.{By, NotStarted}

-- the end that a fate reports; none for a process that may still start, or that runs
abbrev pub ended_of : Fate → Option Ended
ended_of (fate.Ended how) = Some (By how)
ended_of fate.Absent = Some NotStarted
ended_of fate.Starting = None
ended_of fate.Executed = None

-- how it ended, or that it never started
abbrev pub ended_text : Ended → List ℕ
ended_text (By (Code code)) = codes "code " ++ (decimal code ++ codes "\n")
ended_text (By (Signal number)) = codes "signal " ++ (decimal number ++ codes "\n")
ended_text (By Lost) = codes "lost\n"
ended_text NotStarted = codes "not-started\n"

-- the line: the number, the moment in microseconds and how it ended
abbrev pub end_line : (number moment : ℕ) → Ended → List ℕ
end_line number moment ended = decimal number ++ (codes " " ++ (decimal moment ++ (codes " " ++ ended_text ended)))
