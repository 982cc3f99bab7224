use Rattle.std.proofs.Common.{◌≡◌, map, drop}
use Rattle.um_model.specs.FileForms.{last_or}
use Rattle.um_model.specs.Units.{all_said}
use Rattle.um_unit.proofs.singles.last_read.Given as goal

-- the last one of the values left, or else the one so far, is the last of all
abbrev pub invariant-loop-value : goal.invariant-loop-value
invariant-loop-value g l =
    let kind = g.R.Reader.kind in
    let unit = g.R.Reader.unit l.reader in
    let seen = g.R.Reader.seen in
    last_or (seen l.last) (all_said unit kind (map (λ v. v.now) (drop l.value-index l.value-items)))
    ≡ last_or (seen l.fn.default) (all_said unit kind (map (λ v. v.now) l.value-items))
