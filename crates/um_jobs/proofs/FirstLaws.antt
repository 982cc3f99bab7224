-- A unit's start waits while that of the first neighbour which it comes after is pending.
use Rattle.std.proofs.Common.{◌≡◌, ◌&&◌, ℕ, Bool, true, false, cond, List, [], ◌∷◌, Option, Some, None, IfSome, find, option_map, is_some, refl}
use Rattle.std.specs.List.{list_any}
use Rattle.std.proofs.lemmas.Bool.{or_left, or_right}
use Rattle.um_model.specs.declared.jobs.UnitJobs.{UnitJobs}
use Rattle.um_graph.specs.Graph.{first_after}
use Rattle.um_graph.specs.Kinds.{after_bit, has}
use Rattle.um_graph.specs.declared.row.Neighbour.{Neighbour}
use Rattle.um_jobs.specs.Named.{jobs_at}
use Rattle.um_jobs.specs.RowReady.{holds_start}

-- if the start of this unit is pending, one of the neighbours holds a start
abbrev pub Holds : List UnitJobs → List Neighbour → ℕ → Type 0
Holds units row v = is_some (jobs_at units v).start ≡ true → list_any (holds_start units) row ≡ true

abbrev number_in : Option Neighbour → Option ℕ
number_in o = option_map (λ m. m.unit) o

behind : (units : List UnitJobs) (n : Neighbour) (row : List Neighbour) (o : Option Neighbour) → IfSome (number_in o) (Holds units row) → IfSome (number_in o) (Holds units (n ∷ row))
behind units n row None h = tt
behind units n row (Some m) h = λ started. or_right (holds_start units n) (list_any (holds_start units) row) (h started)

by : (units : List UnitJobs) (n : Neighbour) (row : List Neighbour) (b : Bool) → has after_bit n.kinds ≡ b → (o : Option Neighbour)
    → IfSome (number_in o) (Holds units row) → IfSome (number_in (cond b (Some n) o)) (Holds units (n ∷ row))
by units n row true e o h = λ started.
    or_left (holds_start units n) (list_any (holds_start units) row)
    (or_left (has after_bit n.kinds && is_some (jobs_at units n.unit).start) _ (rw (e, started) refl))
by units n row false e o h = behind units n row o h

pub first_holds : (units : List UnitJobs) (row : List Neighbour) → IfSome (first_after row) (Holds units row)
first_holds units [] = tt
first_holds units (n ∷ row) = by units n row (has after_bit n.kinds) refl (find (λ m. has after_bit m.kinds) row) (first_holds units row)
