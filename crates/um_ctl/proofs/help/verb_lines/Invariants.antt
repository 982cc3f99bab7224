use Rattle.std.proofs.Common.{◌≡◌, flat_map, take, string_bytes}
use Rattle.um_ctl.specs.Help.{verb_line}
use Rattle.um_ctl.proofs.help.verb_lines.Given as goal

-- the lines so far
abbrev pub invariant-loop-verb : goal.invariant-loop-verb
invariant-loop-verb l = string_bytes l.text ≡ flat_map verb_line (take l.verb-index l.verbs)
