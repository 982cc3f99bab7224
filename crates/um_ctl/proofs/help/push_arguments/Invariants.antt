use Rattle.std.proofs.Common.{◌≡◌, ◌++◌, map, take, string_bytes}
use Rattle.um_ctl.specs.Help.{arguments_shown}
use Rattle.um_ctl.proofs.help.push_arguments.Given as goal

-- those so far follow the text
abbrev pub invariant-loop-name : goal.invariant-loop-name
invariant-loop-name l =
    string_bytes l.text ≡ string_bytes l.initial.text ++ arguments_shown l.left l.right (map (λ s. s.now) (take l.name-index l.names))
