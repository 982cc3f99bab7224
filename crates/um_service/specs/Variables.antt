-- A variable as a process is given it.
use Rattle.std.specs.Prelude.{ℕ, List, ◌∷◌, ◌++◌}
use Rattle.um_model.specs.Substitution.{Variable}

-- `NAME=value`
abbrev pub variable_text : Variable → List ℕ
variable_text v = v.name ++ (61 ∷ v.value)
