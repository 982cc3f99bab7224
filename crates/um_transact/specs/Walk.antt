-- A walk over demands: which of them are marked for each unit, and those that are yet to be followed.
-- Follows no manual page: it is how the code finds the demands that a demand brings.
-- The demands by number stand on this file.
use Rattle.std.specs.Prelude.{◌≡◌, ℕ, ◌+◌, ◌||◌, ◌&&◌, if◌then◌else◌, Bool, true, false, List, [], ◌∷◌, ◌++◌, slice_index_or, slice_set}
use Rattle.std.specs.List.{flat_map}
use Rattle.um_model.specs.Jobs.{is_active}
use Rattle.um_model.specs.declared.dependencies.Demand.{Demand}
use Rattle.um_model.specs.declared.dependencies.Demand.TheVariants.{Start, Stop, Restart}
use Rattle.um_model.specs.declared.dependencies.DependencyKind.TheVariants.{Requires, BindsTo, PartOf, Conflicts}
use Rattle.um_model.specs.declared.service.ActiveState.{ActiveState}
use Rattle.um_model.specs.declared.service.ActiveState.TheVariants.{Inactive}
use Rattle.um_graph.specs.Kinds.{has, bit_of, inverse_bit_of}
use Rattle.um_graph.specs.declared.row.Neighbour.{Neighbour}
use Rattle.um_transact.specs.declared.walk.Marks.{Marks}

-- a demand on the unit with a number
abbrev pub Demanded : Type 0
Demanded = Demand × ℕ

-- ---- marks

abbrev pub no_marks : Marks
no_marks = record { start = false; stop = false; restart = false }

abbrev pub has_mark : Demand → Marks → Bool
has_mark Start m = m.start
has_mark Stop m = m.stop
has_mark Restart m = m.restart

abbrev pub with_mark : Demand → Marks → Marks
with_mark Start m = record { start = true; stop = m.stop; restart = m.restart }
with_mark Stop m = record { start = m.start; stop = true; restart = m.restart }
with_mark Restart m = record { start = m.start; stop = m.stop; restart = true }

abbrev pub marks_at : List Marks → ℕ → Marks
marks_at marks u = slice_index_or marks u no_marks

abbrev pub is_marked : List Marks → Demanded → Bool
is_marked marks p = has_mark p.0 (marks_at marks p.1)

abbrev pub IsMarked : List Marks → Demanded → Type 0
IsMarked marks p = is_marked marks p ≡ true

-- the marks, and the demands that are yet to be followed
abbrev pub Met : Type 0
Met = List Marks × List Demanded

-- a demand is marked and appended to those to be followed, unless it was marked
abbrev pub met : Demanded → Met → Met
met p s = if is_marked s.0 p then s else (slice_set s.0 p.1 (with_mark p.0 (marks_at s.0 p.1)), s.1 ++ p ∷ [])

-- one after another
abbrev pub all_met : List Demanded → Met → Met
all_met [] s = s
all_met (p ∷ ps) s = all_met ps (met p s)

-- how many demands on a unit aren't marked
abbrev pub count_if : Bool → ℕ
count_if true = 0
count_if false = 1

abbrev pub unmarked : Marks → ℕ
unmarked m = count_if m.start + (count_if m.stop + count_if m.restart)

-- ---- the demands that a demand brings, by one neighbour

-- the neighbour is required, or bound to
abbrev pub needs : Neighbour → Bool
needs n = has (bit_of Requires) n.kinds || has (bit_of BindsTo) n.kinds

-- they are in conflict, either way
abbrev pub conflicts : Neighbour → Bool
conflicts n = has (bit_of Conflicts) n.kinds || has (inverse_bit_of Conflicts) n.kinds

-- the neighbour requires the unit, binds itself to it or is part of it
abbrev pub leans : Neighbour → Bool
leans n = has (inverse_bit_of Requires) n.kinds || (has (inverse_bit_of BindsTo) n.kinds || has (inverse_bit_of PartOf) n.kinds)

-- a demand on the unit brings the other on the neighbour, which is active or not
abbrev pub brings : Demand → Demand → Bool → Neighbour → Bool
brings Start Start active n = needs n
brings Start Stop active n = conflicts n
brings Start Restart active n = false
brings Stop Start active n = false
brings Stop Stop active n = leans n
brings Stop Restart active n = false
brings Restart Start active n = needs n
brings Restart Stop active n = conflicts n
brings Restart Restart active n = leans n && active

abbrev pub one_if : Bool → Demanded → List Demanded
one_if true p = p ∷ []
one_if false p = []

abbrev pub brought_by : Demand → Bool → Neighbour → List Demanded
brought_by d active n =
    one_if (brings d Start active n) (Start, n.unit) ++ (one_if (brings d Stop active n) (Stop, n.unit) ++ one_if (brings d Restart active n) (Restart, n.unit))

-- how active the unit with this number is: one past the last is inactive
abbrev pub activity_at : List ActiveState → ℕ → ActiveState
activity_at activity u = slice_index_or activity u Inactive

abbrev pub brought : List ActiveState → Demand → List Neighbour → List Demanded
brought activity d ns = flat_map (λ n. brought_by d (is_active (activity_at activity n.unit)) n) ns
