use Rattle.std.proofs.Common.{◌≡◌, ◌++◌, ◌∷◌, [], cond, get_or}
use Rattle.um_name.specs.Names.{name_at}
use Rattle.um_model.specs.Service.{dead_unit}
use Rattle.um_state.proofs.EntryLaws.{gathered, is_held_unit}
use Rattle.um_state.proofs.rows.push_held_units.Given as goal

-- the list has the names of the rows so far of which something is held
abbrev pub invariant-loop-i : goal.invariant-loop-i
invariant-loop-i l = l.noted.items ≡ l.initial.noted.items ++ gathered (λ i. cond (is_held_unit (get_or l.rows i dead_unit)) (name_at l.names i ∷ []) []) 0 l.i
