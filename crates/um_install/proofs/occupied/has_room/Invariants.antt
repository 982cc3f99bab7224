use Rattle.std.proofs.Common.{◌≡◌, nat_le, map as each, string_bytes}
use Rattle.um_install.specs.Checks.{new_paths}
use Rattle.um_install.proofs.occupied.has_room.Given as goal

-- there is room for those left exactly if there was for all
abbrev pub invariant-loop-path : goal.invariant-loop-path
invariant-loop-path l =
    nat_le (new_paths l.tree (each (λ e. string_bytes e.0) l.path-iterator)) l.room
    ≡ nat_le (new_paths l.tree (each (λ e. string_bytes e.0) l.initial.path-iterator)) l.initial.room
