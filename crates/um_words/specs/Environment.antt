-- An environment, as the code holds it.
use Rattle.std.specs.Prelude.{List, map, string_bytes}
use Rattle.um_model.specs.Substitution as pure
use Rattle.um_words.specs.declared.variables.Variable.{Variable}

-- a variable's name and value, as texts
abbrev pub variable_of : Variable → pure.Variable
variable_of v = record { name = string_bytes v.name; value = string_bytes v.value }

-- the variables of an environment, in order
abbrev pub variables_of : List Variable → List pure.Variable
variables_of environment = map variable_of environment
