use Rattle.std.proofs.Common.{◌≡◌, ◌++◌, flat_map, take}
use Rattle.um_model.specs.Names.{byte_escape}
use Rattle.um_output.proofs.showing.push_escapes.Given as goal

-- the escapes of the bytes so far follow the text
abbrev pub invariant-loop-byte : goal.invariant-loop-byte
invariant-loop-byte l = l.text.items ≡ l.initial.text.items ++ flat_map byte_escape (take l.byte-index l.bytes)
