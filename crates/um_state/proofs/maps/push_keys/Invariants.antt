use Rattle.std.proofs.Common.{◌≡◌, ◌++◌, map}
use Rattle.um_state.proofs.maps.push_keys.Given as goal

-- the names pushed so far and those left are the old names and the names of the whole
abbrev pub invariant-loop-name : goal.invariant-loop-name
invariant-loop-name g l = l.names.items ++ map (λ e. e.0) l.name-iterator ≡ l.initial.names.items ++ map (λ e. e.0) l.initial.name-iterator
