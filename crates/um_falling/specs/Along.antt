-- Which starts a failed start takes along, as the code goes from one unit to the next by the rows of the graph.
-- Follows the definition of the starts that a failed start takes along: it states it by numbers.
-- The taking along stands on this file.
use Rattle.std.specs.Prelude.{ℕ, ◌&&◌, ◌||◌, ◌++◌, Bool, if◌then◌else◌, List, [], ◌∷◌, Option, Some, None, slice_get}
use Rattle.um_model.specs.Jobs.{jobs_of_unit, with_jobs, without_start}
use Rattle.um_model.specs.Machine.{State, is_waiting}
use Rattle.um_model.specs.Service.{state_of_unit, with_unit}
use Rattle.um_model.specs.declared.dependencies.DependencyKind.TheVariants.{Requires, BindsTo}
use Rattle.um_model.specs.declared.service.UnitResult.TheVariants.{Dependency}
use Rattle.um_model.specs.declared.service.UnitState.{UnitState}
use Rattle.um_graph.specs.Graph.{GraphView}
use Rattle.um_graph.specs.Kinds.{has, before_bit, inverse_bit_of}
use Rattle.um_graph.specs.declared.row.Neighbour.{Neighbour}

-- a state, and the numbers of the units that are yet to be followed
abbrev pub Taking : Type 0
Taking = State × List ℕ

-- the neighbour requires the unit or is bound to it
abbrev pub needs_it : Neighbour → Bool
needs_it n = has (inverse_bit_of Requires) n.kinds || has (inverse_bit_of BindsTo) n.kinds

-- the neighbour comes after the unit in whose row it stands
abbrev pub is_later : Neighbour → Bool
is_later n = has before_bit n.kinds

-- the unit, whose start was taken along
abbrev pub with_result_dependency : UnitState → UnitState
with_result_dependency u = record u { result = Dependency }

-- the start of the unit is gone, and its result says so
abbrev pub without_start_of : State → List ℕ → State
without_start_of s unit = record s {
  units = with_unit s.units unit (with_result_dependency (state_of_unit s.units unit));
  pending = with_jobs s.pending unit (without_start (jobs_of_unit s.pending unit));
}

-- the start of the unit of this name and number is gone if it waits, and the unit is to be followed then
abbrev pub taken_named : List ℕ → ℕ → Taking → Taking
taken_named name unit m = if is_waiting (jobs_of_unit m.0.pending name).start then (without_start_of m.0 name, m.1 ++ unit ∷ []) else m

abbrev pub taken_by : Option (List ℕ) → ℕ → Taking → Taking
taken_by None unit m = m
taken_by (Some name) unit m = taken_named name unit m

abbrev pub taken : GraphView → ℕ → Taking → Taking
taken g unit m = taken_by (slice_get g.names unit) unit m

-- the start of a neighbour is gone if it needs that of the unit in whose row it stands
abbrev pub taken_next : GraphView → Neighbour → Taking → Taking
taken_next g n m = if needs_it n && is_later n then taken g n.unit m else m

-- so are those of all these neighbours
abbrev pub taken_all : GraphView → List Neighbour → Taking → Taking
taken_all g [] m = m
taken_all g (n ∷ ns) m = taken_all g ns (taken_next g n m)
