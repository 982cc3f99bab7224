use Rattle.std.proofs.Common.{◌≡◌, ℕ, List, map, take, option_map, Some, string_bytes}
use Rattle.std.specs.Process.{command_var, clears_env, SameProgramAndArgs}
use Rattle.um_runner.specs.RunnerSteps.{entry_value}
use Rattle.um_runner.proofs.job.set_entries.Given as goal

-- the entries so far are set
abbrev pub invariant-loop-entry : goal.invariant-loop-entry
invariant-loop-entry l = record {
  sets : (name : List ℕ) → command_var l.command name ≡ option_map Some (entry_value (map string_bytes (take l.entry-index l.entries)) name);
  call : SameProgramAndArgs l.initial.command l.command;
  inherits : clears_env l.command ≡ clears_env l.initial.command;
}
