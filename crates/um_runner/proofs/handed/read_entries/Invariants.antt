use Rattle.std.proofs.Common.{◌≡◌, length, map, string_bytes}
use denote.Text.{Utf8}
use denote.Shadow.{shadow}
use Rattle.um_runner.specs.Handed.{entries_in}
use Rattle.um_runner.proofs.EntryTexts.{all_onto}
use Rattle.um_runner.proofs.handed.read_entries.Given as goal

-- the entries that were read, in front of those that the rest holds
abbrev pub invariant-parts : goal.invariant-parts
invariant-parts l = shadow (Utf8 l.rest) × (all_onto (map string_bytes l.entries.items) (entries_in l.rest) ≡ entries_in l.text)

-- each entry takes the zero byte at its end along
abbrev pub decreases-parts : goal.decreases-parts
decreases-parts l = length l.rest
