use Rattle.std.proofs.Common.{◌≡◌, map, take, string_bytes}
use Rattle.um_model.specs.FileForms.{names_of}
use Rattle.um_unit.specs.Readings.{fits_use}
use Rattle.um_unit.proofs.lists.names_of.Given as goal

-- the names of the values so far
abbrev pub invariant-loop-value : goal.invariant-loop-value
invariant-loop-value l = map string_bytes l.names.items ≡ names_of (fits_use l.uses l.unit) l.unit (map (λ v. v.now) (take l.value-index l.values))
