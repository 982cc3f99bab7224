use Rattle.std.proofs.Common.{◌≡◌, ◌++◌, take, map as each, string_bytes}
use Rattle.std.specs.List.{flat_map}
use Rattle.um_install.specs.Walk.{name_in}
use Rattle.um_install.proofs.walk.push_names.Given as goal

-- those that were there, and those of the texts so far
abbrev pub invariant-loop-text : goal.invariant-loop-text
invariant-loop-text l = l.waiting.items ≡ l.initial.waiting.items ++ flat_map name_in (each string_bytes (take l.text-index l.texts))
