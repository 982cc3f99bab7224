-- The rows of units as lists: for each row the dependencies, and the order.
-- Follows no manual page: it is how the code goes over the rows.
-- The lists of a graph stand on this file.
use Rattle.std.specs.Prelude.{ℕ, ◌<◌, ◌↔◌, List, [], ◌∷◌, Contains, if◌then◌else◌}
use Rattle.std.specs.List.{flat_map}
use Rattle.um_model.specs.declared.dependencies.DependencyKind.{DependencyKind}
use Rattle.um_model.specs.declared.dependencies.DependencyKind.TheVariants.{Wants, Requires, BindsTo, PartOf, Conflicts}
use Rattle.um_graph.specs.Kinds.{before_bit, bit_of, has}
use Rattle.um_graph.specs.declared.row.Neighbour.{Neighbour}

abbrev pub all_kinds : List DependencyKind
all_kinds = Wants ∷ Requires ∷ BindsTo ∷ PartOf ∷ Conflicts ∷ []

-- the unit with this number depends on its neighbour so, or doesn't
abbrev pub dependency_by : ℕ → Neighbour → DependencyKind → List (DependencyKind × ℕ × ℕ)
dependency_by x n kind = if has (bit_of kind) n.kinds then (kind, x, n.unit) ∷ [] else []

abbrev pub dependencies_by : ℕ → Neighbour → List (DependencyKind × ℕ × ℕ)
dependencies_by x n = flat_map (dependency_by x n) all_kinds

abbrev pub dependencies_in : ℕ → List Neighbour → List (DependencyKind × ℕ × ℕ)
dependencies_in x row = flat_map (dependencies_by x) row

-- the unit comes before its neighbour, or doesn't
abbrev pub order_by : ℕ → Neighbour → List (ℕ × ℕ)
order_by x n = if has before_bit n.kinds then (x, n.unit) ∷ [] else []

abbrev pub order_in : ℕ → List Neighbour → List (ℕ × ℕ)
order_in x row = flat_map (order_by x) row

-- the items are those of the units with a number below n
abbrev pub AreOf : {A : Type 0} → (ℕ → List A) → ℕ → List A → Type 0
AreOf given n items = (a : _) → Contains items a ↔ ((x : ℕ) × (x < n) × Contains (given x) a)
