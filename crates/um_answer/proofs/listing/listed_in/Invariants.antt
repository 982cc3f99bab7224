use Rattle.std.proofs.Common.{◌≡◌, map, take}
use Rattle.um_model.specs.Machine.{unit_listed}
use Rattle.um_state.specs.View.{listed_of, state_of}
use Rattle.um_answer.proofs.listing.listed_in.Given as goal

abbrev pub invariant-loop-unit : goal.invariant-loop-unit
invariant-loop-unit l = map listed_of l.listed.items ≡ map (unit_listed (state_of l.state)) (take l.unit l.graph.names)
