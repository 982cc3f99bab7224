use Rattle.std.proofs.Common.{◌≡◌, map, take, Some}
use Rattle.std.specs.List.{flat_map}
use Rattle.um_model.specs.Units as model
use Rattle.um_unit.specs.Sources.{assigned_in, assigned_of, source_of}
use Rattle.um_unit.proofs.assignments.assignments.Given as goal

-- the assignments of the files so far
abbrev pub invariant-loop-source : goal.invariant-loop-source
invariant-loop-source l = map assigned_of l.assigned.items ≡ flat_map (λ (s : model.Source). assigned_in (Some l.suffix) s.reading) (map source_of (take l.source-index l.sources))
