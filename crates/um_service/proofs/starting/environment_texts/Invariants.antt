use Rattle.std.proofs.Common.{◌≡◌, ◌++◌, map, drop, string_bytes}
use Rattle.um_service.specs.Variables.{variable_text}
use Rattle.um_words.specs.Environment.{variables_of}
use Rattle.um_service.proofs.starting.environment_texts.Given as goal

-- the texts and those of the variables that are left are all texts
abbrev pub invariant-loop-variable : goal.invariant-loop-variable
invariant-loop-variable l = map string_bytes l.texts.items ++ map variable_text (variables_of (drop l.variable-index l.environment)) ≡ map variable_text (variables_of l.environment)
