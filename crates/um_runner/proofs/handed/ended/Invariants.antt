use Rattle.std.proofs.Common.{◌≡◌, ◌++◌, map, drop, string_bytes}
use Rattle.um_runner.specs.Handed as handed
use Rattle.um_runner.proofs.handed.ended.Given as goal

-- the entries that are added and those that are left are all entries
abbrev pub invariant-loop-entry : goal.invariant-loop-entry
invariant-loop-entry l = l.text.items ++ handed.ended (map string_bytes (drop l.entry-index l.entries)) ≡ handed.ended (map string_bytes l.entries)
