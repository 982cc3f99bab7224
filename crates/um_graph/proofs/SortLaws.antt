-- Rows that are put in the order of their numbers keep their contents.
use Rattle.std.proofs.Common.{◌≡◌, ◌≢◌, ◌==◌, ◌∙◌, ◌<◌, ◌≤◌, ℕ, zero, suc, false, true≢false, cond, Less, Equal, Greater, List, [], ◌∷◌, length, get_or, set, All, AllPairs, Contains, IsPermutation, refl, sym, ap, subst, inl, inr, arith, lt-ltb, nat_eq}
use Rattle.std.specs.Cmp.{nat_cmp_total}
use Rattle.std.specs.List.{IsDistinct}
use Rattle.std.specs.List.Sorted.{IsSorted}
use Rattle.std.specs.Map.{keys_of, values_of}
use Rattle.std.specs.Ordering.{is_lt, nat_cmp}
use Rattle.std.proofs.lemmas.Bool.{cases_eq, cases_lt}
use Rattle.std.proofs.lemmas.Bool.Decides.{Decides-eqb}
use Rattle.std.proofs.lemmas.List.{length-set}
use Rattle.std.proofs.lemmas.List.Elements.{Contains-get_or}
use Rattle.std.proofs.lemmas.List.Sorted.{All-permutation, Contains-permutation, IsPermutation-map, IsPermutation-sym, ranks_by, sorted_far}
use Rattle.std.proofs.lemmas.Map.Entries.{length-keys_of, length-values_of}
use Rattle.std.proofs.lemmas.Map.Made.{AllPairs-from_IsDistinct}
use Rattle.um_graph.specs.Graph.{GraphView, Holds, IsGraph, row_of}
use Rattle.um_graph.specs.Rows.{AreRows, Bond, Entries, IsRow, Joins, entries_of}
use Rattle.um_graph.specs.Sorted.{AreSorted, IsAscending, IsSortedAt, IsSortedGraph, SortsRow}
use Rattle.um_graph.specs.View.{graph_of}
use Rattle.um_graph.specs.declared.row.Neighbour.{Neighbour}
use Rattle.um_graph.specs.declared.units.Unit.{Unit}
use Rattle.um_graph.proofs.GraphLaws.{row_seen}
use Rattle.um_graph.proofs.OnceLaws.{number_at}
use Rattle.um_graph.proofs.RowLaws.{entries_other, entries_read, entries_same}
use Rattle.um_graph.proofs.StandLaws.{neighbour_within}

-- of two numbers that differ, the one that isn't above is below
below_by : (a b : ℕ) → a ≢ b → is_lt (nat_cmp b a) ≡ false → a < b
below_by a b apart e = elim (cases_lt b a) as (λ _. a < b) [
  | inl lower ↦ absurd (true≢false (sym (ap (λ t. is_lt (cond t Less (cond (b == a) Equal Greater))) (lt-ltb b a lower)) ∙ e))
  | inr past ↦ omega (arith, apart, past)
]

keys_below : (ks : List ℕ) → IsSorted nat_cmp ks → IsDistinct nat_eq ks → AllPairs (λ (a b : ℕ). a < b) ks
keys_below ks sorted distinct i j d h k =
    below_by (get_or ks i d) (get_or ks j d)
    (AllPairs-from_IsDistinct Decides-eqb ks distinct i j d h k)
    (sorted_far (λ x y. is_lt (nat_cmp x y)) (ranks_by nat_cmp_total (λ (x : ℕ). x)) ks sorted i j d (omega arith) k)

row_ascends : (es : Entries) → All (λ e. e.0 ≡ e.1.unit) es → IsSorted nat_cmp (keys_of es) → IsDistinct nat_eq (keys_of es) → IsAscending (values_of es)
row_ascends es keyed sorted distinct i j n h l =
    let within : j < length es = omega (arith, length-values_of es) in
    let below = keys_below (keys_of es) sorted distinct i j 0 h (omega (arith, length-keys_of es)) in
    omega (arith, below, number_at es keyed i n (omega arith), number_at es keyed j n within)

held : (xs ys : List Neighbour) → IsPermutation xs ys → (bit unit : ℕ) → Holds xs bit unit → Holds ys bit unit
held xs ys p bit unit h = record { neighbour = h.neighbour; listed = Contains-permutation xs ys h.neighbour p h.listed; is = h.is; kind = h.kind }

pub row_sorted : (bonds : List Bond) (units : List Unit) (x : ℕ) (q r : Unit) → AreRows bonds units → x < length units → q ≡ get_or units x q
    → IsPermutation q.row.neighbours.entries r.row.neighbours.entries → IsSorted nat_cmp (keys_of r.row.neighbours.entries)
    → IsDistinct nat_eq (keys_of r.row.neighbours.entries) → SortsRow bonds x units (set units x r)
row_sorted bonds units x q r a h w moves sorted unique =
    let es : Entries = q.row.neighbours.entries in
    let fs : Entries = r.row.neighbours.entries in
    let old : entries_of units x ≡ es = entries_read units x q h w in
    let new : entries_of (set units x r) x ≡ fs = entries_same units x r h in
    let longs : length units ≡ length (set units x r) = sym (length-set units x r) in
    let row : IsRow (length units) es = subst (IsRow (length units)) old (a.rows x) in
    let made : IsRow (length units) fs = record {
      keyed = All-permutation (λ (e : ℕ × Neighbour). e.0 ≡ e.1.unit) es fs moves row.keyed;
      within = All-permutation (λ (e : ℕ × Neighbour). e.0 < length units) es fs moves row.within;
      unique = unique;
    } in
    let there : IsPermutation (values_of es) (values_of fs) = IsPermutation-map (λ (e : ℕ × Neighbour). e.1) es fs moves in
    let back : IsPermutation (values_of fs) (values_of es) = IsPermutation-sym (values_of es) (values_of fs) there in
    record {
      rows = record {
        rows = λ z. subst (λ m. IsRow m (entries_of (set units x r) z)) longs (elim (cases_eq z x) as (λ _. IsRow (length units) (entries_of (set units x r) z)) [
          | inl s ↦ subst (λ v. IsRow (length units) (entries_of (set units x r) v)) (sym s) (subst (IsRow (length units)) (sym new) made)
          | inr ne ↦ subst (IsRow (length units)) (sym (entries_other units x z r ne)) (a.rows z)
        ]);
        given = λ j z v s. elim (cases_eq z x) as (λ _. Contains bonds (j, z, v)) [
          | inl c ↦
              let here : Holds (values_of fs) j v = subst (λ gs. Holds (values_of gs) j v) (ap (entries_of (set units x r)) c ∙ new) s in
              a.given j z v (subst (λ gs. Holds (values_of gs) j v) (sym (ap (entries_of units) c ∙ old)) (held (values_of fs) (values_of es) back j v here))
          | inr ne ↦ a.given j z v (subst (λ gs. Holds (values_of gs) j v) (entries_other units x z r ne) s)
        ];
        whole = λ j z v c. elim (cases_eq z x) as (λ _. Joins (set units x r) j z v) [
          | inl s ↦
              let here : Holds (values_of es) j v = subst (λ gs. Holds (values_of gs) j v) (ap (entries_of units) s ∙ old) (a.whole j z v c) in
              subst (λ gs. Holds (values_of gs) j v) (sym (ap (entries_of (set units x r)) s ∙ new)) (held (values_of es) (values_of fs) there j v here)
          | inr ne ↦ subst (λ gs. Holds (values_of gs) j v) (sym (entries_other units x z r ne)) (a.whole j z v c)
        ];
      };
      sorted = subst (λ gs. IsAscending (values_of gs)) (sym new) (row_ascends fs made.keyed sorted unique);
      others = λ z ne. entries_other units x z r ne;
    }

-- ---- one row after another
pub one_more : (bonds : List Bond) (x : ℕ) (old new : List Unit) → ((z : ℕ) → z < x → IsSortedAt old z) → SortsRow bonds x old new → (z : ℕ) → z < suc x → IsSortedAt new z
one_more bonds x old new below s z h = elim (cases_eq z x) as (λ _. IsSortedAt new z) [
  | inl e ↦ subst (IsSortedAt new) (sym e) s.sorted
  | inr ne ↦ subst (λ gs. IsAscending (values_of gs)) (sym (s.others z ne)) (below z (omega (arith, ne)))
]

entries_past : (units : List Unit) (z : ℕ) → length units ≤ z → entries_of units z ≡ []
entries_past [] z h = refl
entries_past (u ∷ units) zero h = absurd (omega arith)
entries_past (u ∷ units) (suc z) h = entries_past units z (omega arith)

none_ascends : IsAscending []
none_ascends i j d h k = absurd (omega arith)

pub all_sorted : (units : List Unit) (n : ℕ) → length units ≤ n → ((z : ℕ) → z < n → IsSortedAt units z) → AreSorted units
all_sorted units n h below z = elim (cases_lt z n) as (λ _. IsSortedAt units z) [
  | inl l ↦ below z l
  | inr past ↦ subst (λ gs. IsAscending (values_of gs)) (sym (entries_past units z (omega (arith, past, h)))) none_ascends
]

-- ---- the graph
pub sorted_graph : (units : List Unit) (count : ℕ) → IsGraph (graph_of units count) → AreSorted units → IsSortedGraph (graph_of units count)
sorted_graph units count is sorted = record { graph = is; ascends = λ x. subst IsAscending (sym (row_seen units x)) (sorted x) }

-- each neighbour is a unit
pub all_within : (g : GraphView) → IsGraph g → (x : ℕ) → All (λ (n : Neighbour). n.unit < length g.names) (row_of g.rows x)
all_within g is x k n h = neighbour_within g is x (get_or (row_of g.rows x) k n) (Contains-get_or (row_of g.rows x) k n h)
