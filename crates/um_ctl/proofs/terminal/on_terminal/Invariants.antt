use Rattle.std.proofs.Common.{◌≡◌, flat_map, string_bytes}
use Rattle.std.specs.Str.{encode_utf8_all}
use Rattle.um_ctl.specs.Shown.{terminal_char}
use Rattle.um_ctl.proofs.terminal.on_terminal.Given as goal

-- the characters so far are written as they go to a terminal
abbrev pub invariant-loop-c : goal.invariant-loop-c
invariant-loop-c l = string_bytes l.all ≡ encode_utf8_all (flat_map terminal_char l.yielded)
