use Rattle.std.proofs.Common.{◌≡◌, ◌++◌, filter, map, take}
use Rattle.um_ctl.specs.Words.{is_argument}
use Rattle.um_ctl.proofs.words.with_argument_names.Given as goal

-- those so far follow the fields
abbrev pub invariant-loop-name : goal.invariant-loop-name
invariant-loop-name l =
    map (λ s. s.now) l.all.items ≡ map (λ s. s.now) l.initial.all.items ++ filter is_argument (map (λ s. s.now) (take l.name-index l.names))
