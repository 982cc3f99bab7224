use Rattle.std.proofs.Common.{◌≡◌, ◌++◌, take, flat_map, string_bytes}
use Rattle.um_model.specs.Names.{escape_of}
use Rattle.um_name.proofs.escapes.escape.Given as goal

abbrev pub invariant-loop-b : goal.invariant-loop-b
invariant-loop-b l = string_bytes l.text ≡ string_bytes l.initial.text ++ flat_map escape_of (take l.b-index l.rest)
