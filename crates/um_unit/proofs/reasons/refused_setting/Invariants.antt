use Rattle.std.proofs.Common.{◌≡◌, map, drop}
use Rattle.um_model.specs.Units.{refused_setting}
use Rattle.um_unit.specs.Sources.{assigned_of}
use Rattle.um_unit.proofs.reasons.refused_setting.Given as goal

-- none of the assignments so far is refused
abbrev pub invariant-loop-one : goal.invariant-loop-one
invariant-loop-one l = refused_setting l.profile (map assigned_of (drop l.one-index l.assigned)) ≡ refused_setting l.profile (map assigned_of l.assigned)
