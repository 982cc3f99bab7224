use Rattle.std.proofs.Common.{◌≡◌, ◌++◌, flat_map, take, string_bytes}
use Rattle.um_model.specs.Names.{byte_escape}
use Rattle.um_ctl.proofs.escapes.push_bytes.Given as goal

-- the escapes of the bytes so far follow the text
abbrev pub invariant-loop-byte : goal.invariant-loop-byte
invariant-loop-byte l =
    string_bytes l.text ≡ string_bytes l.initial.text ++ flat_map byte_escape (take l.byte-index l.bytes)
