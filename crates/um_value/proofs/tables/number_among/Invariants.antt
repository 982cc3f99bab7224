use Rattle.std.proofs.Common.{◌≡◌, map, drop}
use Rattle.std.specs.Map.{lookup}
use Rattle.std.specs.Str.{bytes_eq}
use Rattle.um_value.proofs.tables.number_among.Given as goal

-- the name is none of those so far
abbrev pub invariant-loop-known : goal.invariant-loop-known
invariant-loop-known g l =
    lookup (bytes_eq l.name) (map (λ row. (row.0.now, row.1)) (drop l.known-index l.table)) ≡ lookup (bytes_eq l.name) (map (λ row. (row.0.now, row.1)) l.table)
