use Rattle.std.proofs.Common.{◌≡◌, flat_map, string_bytes}
use Rattle.std.specs.Str.{encode_utf8_all}
use Rattle.um_ctl.specs.Shown.{shown_char}
use Rattle.um_ctl.proofs.escapes.shown.Given as goal

-- the characters so far are shown
abbrev pub invariant-loop-c : goal.invariant-loop-c
invariant-loop-c l = string_bytes l.all ≡ encode_utf8_all (flat_map shown_char l.yielded)
