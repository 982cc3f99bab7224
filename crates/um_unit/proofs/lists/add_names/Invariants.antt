use Rattle.std.proofs.Common.{◌≡◌, ◌++◌, map, filter_map, string_bytes}
use Rattle.std.specs.Result.{result_ok}
use Rattle.um_unit.proofs.lists.add_names.Given as goal

-- the names so far
abbrev pub invariant-loop-reading : goal.invariant-loop-reading
invariant-loop-reading l = map string_bytes l.names.items ≡ map string_bytes l.fn.names.items ++ map string_bytes (filter_map result_ok l.yielded)
