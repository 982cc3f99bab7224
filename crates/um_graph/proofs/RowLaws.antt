-- A row, and the rows, after a kind is added.
use Rattle.std.proofs.Common.{◌≡◌, ◌≢◌, ◌⊎◌, ◌==◌, ◌<◌, ◌^◌, ℕ, zero, suc, Bool, true, false, cond, List, [], ◌∷◌, ◌++◌, length, map, get_or, set, All, Contains, Option, Some, None, refl, sym, ap, ◌∙◌, subst, inl, inr, arith}
use Rattle.std.specs.Cmp.{nat_eq_equiv}
use Rattle.std.specs.List.{IsDistinct}
use Rattle.std.specs.Map.{keys_of, lookup, values_of}
use Rattle.std.specs.Prelude.{nat_eq}
use Rattle.std.specs.Int.RustNames.{bit_and, bit_or}
use Rattle.std.proofs.lemmas.Bool.{cases_eq}
use Rattle.std.proofs.lemmas.Bool.Decides.{Decides-eqb}
use Rattle.std.proofs.lemmas.List.{length-set}
use Rattle.std.proofs.lemmas.Map.Views.{lookup-from_Contains}
use Rattle.std.proofs.lemmas.List.Elements.{All-cons, All-head, All-tail, All-nil, Contains-append_left, Contains-push, Contains-push_cases}
use Rattle.std.proofs.lemmas.Nat.{and_or_self, and_or_apart, and_le_l, pow_apart, pow_pos}
use Rattle.indexmap.specs.IndexMap.{insert_entry}
use Rattle.um_graph.specs.Kinds.{has}
use Rattle.um_graph.specs.Edges.{unit_seen}
use Rattle.um_graph.specs.Graph.{Holds}
use Rattle.um_graph.specs.Rows.{AreRows, Bond, Entries, IsRow, Joins, entries_of, found_or_new, unless_new, with_kind, with_kinds}
use Rattle.um_graph.specs.declared.row.Neighbour.{Neighbour}
use Rattle.um_graph.specs.declared.units.Unit.{Unit}
use Rattle.um_graph.specs.declared.kinds.Kinds.{Kinds}

-- each neighbour stands under its own number
abbrev IsKeyed : Entries → Type 0
IsKeyed entries = All (λ e. e.0 ≡ e.1.unit) entries

-- ---- sets of kinds
test_of : (a b : ℕ) → a ≡ b → (a == b) ≡ true
test_of a b e = (Decides-eqb a b).1 e

told_by : (a b : ℕ) → (a == b) ≡ true → a ≡ b
told_by a b e = (Decides-eqb a b).0 e

pub has_added : (i : ℕ) (n : Neighbour) (k : Kinds) → k.0 ≡ 2 ^ i → has i (with_kinds n k).kinds ≡ true
has_added i n k e = test_of (bit_and (bit_or n.kinds.0 k.0) (2 ^ i)) (2 ^ i) (subst (λ m. bit_and (bit_or n.kinds.0 m) (2 ^ i) ≡ 2 ^ i) (sym e) (and_or_self (2 ^ i) n.kinds.0))

same_others : (i j : ℕ) (n : Neighbour) (k : Kinds) → k.0 ≡ 2 ^ i → i ≢ j → bit_and (bit_or n.kinds.0 k.0) (2 ^ j) ≡ bit_and n.kinds.0 (2 ^ j)
same_others i j n k e ne = subst (λ m. bit_and (bit_or n.kinds.0 m) (2 ^ j) ≡ bit_and n.kinds.0 (2 ^ j)) (sym e) (and_or_apart (2 ^ j) n.kinds.0 (2 ^ i) (pow_apart i j ne))

pub has_kept : (i j : ℕ) (n : Neighbour) (k : Kinds) → k.0 ≡ 2 ^ i → has j n.kinds ≡ true → has j (with_kinds n k).kinds ≡ true
has_kept i j n k e h = elim (cases_eq i j) as (λ _. has j (with_kinds n k).kinds ≡ true) [
  | inl same ↦ subst (λ m. has m (with_kinds n k).kinds ≡ true) same (has_added i n k e)
  | inr ne ↦ ap (λ m. m == 2 ^ j) (same_others i j n k e ne) ∙ h
]

pub has_before : (i j : ℕ) (n : Neighbour) (k : Kinds) → k.0 ≡ 2 ^ i → has j (with_kinds n k).kinds ≡ true → (j ≡ i) ⊎ (has j n.kinds ≡ true)
has_before i j n k e h = elim (cases_eq i j) as (λ _. (j ≡ i) ⊎ (has j n.kinds ≡ true)) [
  | inl same ↦ inl (sym same)
  | inr ne ↦ inr (sym (ap (λ m. m == 2 ^ j) (same_others i j n k e ne)) ∙ h)
]

-- ---- entries
values-cons : (e : ℕ × Neighbour) (es : Entries) (m : Neighbour) → Contains (values_of es) m → Contains (values_of (e ∷ es)) m
values-cons e es m (k, h, q) = (suc k, omega arith, q)

value_first : (e : ℕ × Neighbour) (es : Entries) → Contains (values_of (e ∷ es)) e.1
value_first e es = (0, omega arith, refl)

values_cases : (e : ℕ × Neighbour) (es : Entries) (m : Neighbour) → Contains (values_of (e ∷ es)) m → (e.1 ≡ m) ⊎ Contains (values_of es) m
values_cases e es m (zero, h, q) = inl q
values_cases e es m (suc k, h, q) = inr (k, omega arith, q)

-- the new value is among the values
pub put_in : (es : Entries) (y : ℕ) (n : Neighbour) → Contains (values_of (insert_entry nat_eq es y n)) n
put_in [] y n = (0, omega arith, refl)
put_in (e ∷ es) y n = by (nat_eq y e.0) (put_in es y n)
  where
    by : (b : Bool) → Contains (values_of (insert_entry nat_eq es y n)) n → Contains (values_of (cond b ((e.0, n) ∷ es) (e ∷ insert_entry nat_eq es y n))) n
    by true rest = value_first (e.0, n) es
    by false rest = values-cons e (insert_entry nat_eq es y n) n rest

-- a value was among the values before, or is the new one
pub put_cases : (es : Entries) (y : ℕ) (n m : Neighbour) → Contains (values_of (insert_entry nat_eq es y n)) m → (n ≡ m) ⊎ Contains (values_of es) m
put_cases [] y n m h = values_cases (y, n) [] m h
put_cases (e ∷ es) y n m h = by (nat_eq y e.0) (put_cases es y n m) h
  where
    by : (b : Bool) → (Contains (values_of (insert_entry nat_eq es y n)) m → (n ≡ m) ⊎ Contains (values_of es) m) → Contains (values_of (cond b ((e.0, n) ∷ es) (e ∷ insert_entry nat_eq es y n))) m → (n ≡ m) ⊎ Contains (values_of (e ∷ es)) m
    by true rest h = elim (values_cases (e.0, n) es m h) [ inl a ↦ inl a | inr b ↦ inr (values-cons e es m b) ]
    by false rest h = elim (values_cases e (insert_entry nat_eq es y n) m h) [
      | inl a ↦ inr (subst (λ x. Contains (values_of (e ∷ es)) x) a (value_first e es))
      | inr b ↦ elim (rest b) [ inl c ↦ inl c | inr d ↦ inr (values-cons e es m d) ]
    ]

-- a value that was there is still there, unless it is the one found under that number
pub put_kept : (es : Entries) (y : ℕ) (n m : Neighbour) → Contains (values_of es) m → Contains (values_of (insert_entry nat_eq es y n)) m ⊎ (lookup (nat_eq y) es ≡ Some m)
put_kept [] y n m (k, h, q) = absurd (omega arith)
put_kept (e ∷ es) y n m h = by (nat_eq y e.0) (put_kept es y n m)
  where
    by : (b : Bool) → (Contains (values_of es) m → Contains (values_of (insert_entry nat_eq es y n)) m ⊎ (lookup (nat_eq y) es ≡ Some m)) → Contains (values_of (cond b ((e.0, n) ∷ es) (e ∷ insert_entry nat_eq es y n))) m ⊎ (cond b (Some e.1) (lookup (nat_eq y) es) ≡ Some m)
    by true rest = elim (values_cases e es m h) [ inl a ↦ inr (ap Some a) | inr b ↦ inl (values-cons (e.0, n) es m b) ]
    by false rest = elim (values_cases e es m h) [
      | inl a ↦ inl (subst (λ x. Contains (values_of (e ∷ insert_entry nat_eq es y n)) x) a (value_first e (insert_entry nat_eq es y n)))
      | inr b ↦ elim (rest b) [ inl c ↦ inl (values-cons e (insert_entry nat_eq es y n) m c) | inr d ↦ inr d ]
    ]

-- a found value is among the values, under its own number
pub found_in : (es : Entries) (y : ℕ) (m : Neighbour) → IsKeyed es → lookup (nat_eq y) es ≡ Some m → Contains (values_of es) m × (m.unit ≡ y)
found_in [] y m a h = cc
found_in (e ∷ es) y m a h = by (nat_eq y e.0) refl (found_in es y m (All-tail (λ e. e.0 ≡ e.1.unit) e es a)) h
  where
    by : (b : Bool) → nat_eq y e.0 ≡ b → (lookup (nat_eq y) es ≡ Some m → Contains (values_of es) m × (m.unit ≡ y)) → cond b (Some e.1) (lookup (nat_eq y) es) ≡ Some m → Contains (values_of (e ∷ es)) m × (m.unit ≡ y)
    by true t rest h =
        let same : e.1 ≡ m = cc in
        (subst (λ x. Contains (values_of (e ∷ es)) x) same (value_first e es), sym (ap (λ (x : Neighbour). x.unit) same) ∙ (sym (All-head (λ e. e.0 ≡ e.1.unit) e es a) ∙ sym (told_by y e.0 t)))
    by false t rest h = let r = rest h in (values-cons e es m r.0, r.1)

pub keyed_more : (es : Entries) (y : ℕ) (n : Neighbour) → IsKeyed es → n.unit ≡ y → IsKeyed (insert_entry nat_eq es y n)
keyed_more [] y n a u = All-cons (λ e. e.0 ≡ e.1.unit) (y, n) [] (sym u) (All-nil (λ e. e.0 ≡ e.1.unit))
keyed_more (e ∷ es) y n a u = by (nat_eq y e.0) refl (keyed_more es y n (All-tail (λ e. e.0 ≡ e.1.unit) e es a) u)
  where
    by : (b : Bool) → nat_eq y e.0 ≡ b → IsKeyed (insert_entry nat_eq es y n) → IsKeyed (cond b ((e.0, n) ∷ es) (e ∷ insert_entry nat_eq es y n))
    by true t rest = All-cons (λ e. e.0 ≡ e.1.unit) (e.0, n) es (sym (told_by y e.0 t) ∙ sym u) (All-tail (λ e. e.0 ≡ e.1.unit) e es a)
    by false t rest = All-cons (λ e. e.0 ≡ e.1.unit) e (insert_entry nat_eq es y n) (All-head (λ e. e.0 ≡ e.1.unit) e es a) rest

-- ---- a row with a kind added
module _ (es : Entries) (y i : ℕ) (k : Kinds) (a : IsKeyed es) (one : k.0 ≡ 2 ^ i) where
  abbrev New : Neighbour
  New = with_kinds (found_or_new es y) k

  unit_by : (o : Option Neighbour) → lookup (nat_eq y) es ≡ o → (unless_new y o).unit ≡ y
  unit_by None e = refl
  unit_by (Some m) e = (found_in es y m a e).1

  new_unit : New.unit ≡ y
  new_unit = unit_by (lookup (nat_eq y) es) refl

  pub row_keyed : IsKeyed (with_kind es y k)
  row_keyed = keyed_more es y New a new_unit

  pub row_holds : Holds (values_of (with_kind es y k)) i y
  row_holds = record { neighbour = New; listed = put_in es y New; is = new_unit; kind = has_added i (found_or_new es y) k one }

  pub row_keeps : (j z : ℕ) → Holds (values_of es) j z → Holds (values_of (with_kind es y k)) j z
  row_keeps j z h = elim (put_kept es y New h.neighbour h.listed) as (λ _. Holds (values_of (with_kind es y k)) j z) [
    | inl c ↦ record { neighbour = h.neighbour; listed = c; is = h.is; kind = h.kind }
    | inr f ↦ record {
      neighbour = New;
      listed = put_in es y New;
      is = new_unit ∙ (sym (found_in es y h.neighbour a f).1 ∙ h.is);
      kind = has_kept i j (found_or_new es y) k one (subst (λ (o : Option Neighbour). has j (unless_new y o).kinds ≡ true) (sym f) h.kind);
    }
  ]

  old_kind : (o : Option Neighbour) → lookup (nat_eq y) es ≡ o → (j : ℕ) → has j (unless_new y o).kinds ≡ true → Holds (values_of es) j y
  old_kind None e j h = absurd (none_has j h)
    where
      none_has : (j : ℕ) → has j (record { 0 = 0 }) ≡ true → ⊥
      none_has j h = omega (arith, told_by (bit_and 0 (2 ^ j)) (2 ^ j) h, and_le_l 0 (2 ^ j), pow_pos j)
  old_kind (Some m) e j h = let f = found_in es y m a e in record { neighbour = m; listed = f.0; is = f.1; kind = h }

  pub row_cases : (j z : ℕ) → Holds (values_of (with_kind es y k)) j z → Holds (values_of es) j z ⊎ ((j ≡ i) × (z ≡ y))
  row_cases j z h = elim (put_cases es y New h.neighbour h.listed) as (λ _. Holds (values_of es) j z ⊎ ((j ≡ i) × (z ≡ y))) [
    | inl n ↦
        let at : z ≡ y = sym h.is ∙ (sym (ap (λ (m : Neighbour). m.unit) n) ∙ new_unit) in
        elim (has_before i j (found_or_new es y) k one (subst (λ (m : Neighbour). has j m.kinds ≡ true) (sym n) h.kind)) as (λ _. Holds (values_of es) j z ⊎ ((j ≡ i) × (z ≡ y))) [
          | inl e ↦ inr (e, at)
          | inr old ↦ inl (subst (λ w. Holds (values_of es) j w) (sym at) (old_kind (lookup (nat_eq y) es) refl j old))
        ]
    | inr c ↦ inl (record { neighbour = h.neighbour; listed = c; is = h.is; kind = h.kind })
  ]

-- ---- the units with a kind added to the row of one of them
within_more : (m : ℕ) (es : Entries) (y : ℕ) (n : Neighbour) → All (λ e. e.0 < m) es → y < m → All (λ e. e.0 < m) (insert_entry nat_eq es y n)
within_more m [] y n a h = All-cons (λ e. e.0 < m) (y, n) [] h (All-nil (λ e. e.0 < m))
within_more m (e ∷ es) y n a h = by (nat_eq y e.0) (within_more m es y n (All-tail (λ e. e.0 < m) e es a) h)
  where
    by : (b : Bool) → All (λ e. e.0 < m) (insert_entry nat_eq es y n) → All (λ e. e.0 < m) (cond b ((e.0, n) ∷ es) (e ∷ insert_entry nat_eq es y n))
    by true rest = All-cons (λ e. e.0 < m) (e.0, n) es (All-head (λ e. e.0 < m) e es a) (All-tail (λ e. e.0 < m) e es a)
    by false rest = All-cons (λ e. e.0 < m) e (insert_entry nat_eq es y n) (All-head (λ e. e.0 < m) e es a) rest

pub entries_same : (units : List Unit) (x : ℕ) (r : Unit) → x < length units → entries_of (set units x r) x ≡ r.row.neighbours.entries
entries_same [] x r h = absurd (omega arith)
entries_same (q ∷ units) zero r h = refl
entries_same (q ∷ units) (suc x) r h = entries_same units x r (omega arith)

pub entries_other : (units : List Unit) (x z : ℕ) (r : Unit) → z ≢ x → entries_of (set units x r) z ≡ entries_of units z
entries_other [] x z r ne = refl
entries_other (q ∷ units) zero zero r ne = absurd (ne refl)
entries_other (q ∷ units) zero (suc z) r ne = refl
entries_other (q ∷ units) (suc x) zero r ne = refl
entries_other (q ∷ units) (suc x) (suc z) r ne = entries_other units x z r (λ e. ne (ap suc e))

pub entries_read : (units : List Unit) (x : ℕ) (q : Unit) → x < length units → q ≡ get_or units x q → entries_of units x ≡ q.row.neighbours.entries
entries_read [] x q h e = absurd (omega arith)
entries_read (r ∷ units) zero q h e = ap (λ (s : Unit). s.row.neighbours.entries) (sym e)
entries_read (r ∷ units) (suc x) q h e = entries_read units x q (omega arith) e

pub seen_same : (units : List Unit) (x : ℕ) (q r : Unit) → x < length units → q ≡ get_or units x q → unit_seen r ≡ unit_seen q → map unit_seen (set units x r) ≡ map unit_seen units
seen_same [] x q r h e s = absurd (omega arith)
seen_same (u ∷ units) zero q r h e s = ap (λ v. v ∷ map unit_seen units) (s ∙ ap unit_seen e)
seen_same (u ∷ units) (suc x) q r h e s = ap (λ vs. unit_seen u ∷ vs) (seen_same units x q r (omega arith) e s)

pub rows_more : (bonds : List Bond) (units : List Unit) (x y i : ℕ) (q r : Unit) (k : Kinds) → AreRows bonds units → x < length units → y < length units
    → q ≡ get_or units x q → r.row.neighbours.entries ≡ with_kind q.row.neighbours.entries y k → IsDistinct nat_eq (keys_of r.row.neighbours.entries) → k.0 ≡ 2 ^ i
    → AreRows (bonds ++ (i, x, y) ∷ []) (set units x r)
rows_more bonds units x y i q r k a h w e n u one =
    let es : Entries = q.row.neighbours.entries in
    let old : entries_of units x ≡ es = entries_read units x q h e in
    let row : IsRow (length units) es = subst (IsRow (length units)) old (a.rows x) in
    let new : entries_of (set units x r) x ≡ with_kind es y k = entries_same units x r h ∙ n in
    let longs : length units ≡ length (set units x r) = sym (length-set units x r) in
    let made : IsRow (length units) (with_kind es y k) = record {
      keyed = row_keyed es y i k row.keyed one;
      within = within_more (length units) es y (with_kinds (found_or_new es y) k) row.within w;
      unique = subst (λ fs. IsDistinct nat_eq (keys_of fs)) n u;
    } in
    record {
      rows = λ z. subst (λ m. IsRow m (entries_of (set units x r) z)) longs (elim (cases_eq z x) as (λ _. IsRow (length units) (entries_of (set units x r) z)) [
        | inl s ↦ subst (λ v. IsRow (length units) (entries_of (set units x r) v)) (sym s) (subst (IsRow (length units)) (sym new) made)
        | inr ne ↦ subst (IsRow (length units)) (sym (entries_other units x z r ne)) (a.rows z)
      ]);
      given = λ j z v s. elim (cases_eq z x) as (λ _. Contains (bonds ++ (i, x, y) ∷ []) (j, z, v)) [
        | inl c ↦
            elim (row_cases es y i k row.keyed one j v (subst (λ fs. Holds (values_of fs) j v) (ap (entries_of (set units x r)) c ∙ new) s)) as (λ _. Contains (bonds ++ (i, x, y) ∷ []) (j, z, v)) [
              | inl b ↦ Contains-append_left bonds ((i, x, y) ∷ []) (j, z, v) (a.given j z v (subst (λ fs. Holds (values_of fs) j v) (sym (ap (entries_of units) c ∙ old)) b))
              | inr b ↦ subst (λ t. Contains (bonds ++ (i, x, y) ∷ []) t) (bond_same j i z x v y b.0 c b.1) (Contains-push bonds (i, x, y))
            ]
        | inr ne ↦ Contains-append_left bonds ((i, x, y) ∷ []) (j, z, v) (a.given j z v (subst (λ fs. Holds (values_of fs) j v) (entries_other units x z r ne) s))
      ];
      whole = λ j z v c. elim (Contains-push_cases bonds (i, x, y) (j, z, v) c) as (λ _. Joins (set units x r) j z v) [
        | inl b ↦
            elim (cases_eq z x) as (λ _. Joins (set units x r) j z v) [
              | inl s ↦ subst (λ fs. Holds (values_of fs) j v) (sym (ap (entries_of (set units x r)) s ∙ new)) (row_keeps es y i k row.keyed one j v (subst (λ fs. Holds (values_of fs) j v) (ap (entries_of units) s ∙ old) (a.whole j z v b)))
              | inr ne ↦ subst (λ fs. Holds (values_of fs) j v) (sym (entries_other units x z r ne)) (a.whole j z v b)
            ]
        | inr t ↦ subst (λ (t : Bond). Joins (set units x r) t.0 t.1 t.2) t (subst (λ fs. Holds (values_of fs) i y) (sym new) (row_holds es y i k row.keyed one))
      ];
    }
  where
    bond_same : (j i z x v y : ℕ) → j ≡ i → z ≡ x → v ≡ y → ◌≡◌ {A = Bond} (i, x, y) (j, z, v)
    bond_same j i z x v y a b c = cc

entries_nothing : (units : List Unit) → All (λ (u : Unit). u.row.neighbours.entries ≡ []) units → (x : ℕ) → entries_of units x ≡ []
entries_nothing [] a x = refl
entries_nothing (r ∷ units) a zero = All-head (λ (u : Unit). u.row.neighbours.entries ≡ []) r units a
entries_nothing (r ∷ units) a (suc x) = entries_nothing units (All-tail (λ (u : Unit). u.row.neighbours.entries ≡ []) r units a) x

distinct_nothing : IsDistinct nat_eq []
unfolding IsDistinct
distinct_nothing = tt

pub rows_nothing : (units : List Unit) → All (λ (u : Unit). u.row.neighbours.entries ≡ []) units → AreRows [] units
rows_nothing units a = record {
  rows = λ x. subst (IsRow (length units)) (sym (entries_nothing units a x)) (record { keyed = All-nil (λ e. e.0 ≡ e.1.unit); within = All-nil (λ e. e.0 < length units); unique = distinct_nothing });
  given = λ j x y s. absurd (none_held (values_of (entries_of units x)) j y (ap values_of (entries_nothing units a x)) s);
  whole = λ j x y c. absurd (omega (arith, c.1));
}
  where
    none_held : (ns : List Neighbour) (j y : ℕ) → ns ≡ [] → Holds ns j y → ⊥
    none_held ns j y e h = let within = h.listed.1 in omega (arith, ap length e)

-- ---- a look-up in a row
pair_same : (e : ℕ × Neighbour) (k : ℕ) (m : Neighbour) → e.0 ≡ k → e.1 ≡ m → e ≡ (k, m)
pair_same e k m a b = λ i. (a i, b i)

entry_of_value : (es : Entries) (m : Neighbour) → IsKeyed es → Contains (values_of es) m → Contains es (m.unit, m)
entry_of_value [] m a (k, h, q) = absurd (omega arith)
entry_of_value (e ∷ es) m a h = elim (values_cases e es m h) as (λ _. Contains (e ∷ es) (m.unit, m)) [
  | inl q ↦ (0, omega arith, pair_same e m.unit m (All-head (λ e. e.0 ≡ e.1.unit) e es a ∙ ap (λ (n : Neighbour). n.unit) q) q)
  | inr c ↦ let r = entry_of_value es m (All-tail (λ e. e.0 ≡ e.1.unit) e es a) c in (suc r.0, omega (arith, r.1), r.2)
]

module _ (es : Entries) (n : ℕ) (row : IsRow n es) (y j : ℕ) where
  pub kind_held : has j (found_or_new es y).kinds ≡ true → Holds (values_of es) j y
  kind_held h = by (lookup (nat_eq y) es) refl h
    where
      by : (o : Option Neighbour) → lookup (nat_eq y) es ≡ o → has j (unless_new y o).kinds ≡ true → Holds (values_of es) j y
      by None e h = absurd (omega (arith, told_by (bit_and 0 (2 ^ j)) (2 ^ j) h, and_le_l 0 (2 ^ j), pow_pos j))
      by (Some m) e h = let f = found_in es y m row.keyed e in record { neighbour = m; listed = f.0; is = f.1; kind = h }

  pub kind_found : Holds (values_of es) j y → has j (found_or_new es y).kinds ≡ true
  kind_found h =
      let found : lookup (nat_eq h.neighbour.unit) es ≡ Some h.neighbour =
      lookup-from_Contains nat_eq_equiv h.neighbour.unit h.neighbour es row.unique (entry_of_value es h.neighbour row.keyed h.listed) in
      subst (λ (o : Option Neighbour). has j (unless_new y o).kinds ≡ true) (sym (ap (λ k. lookup (nat_eq k) es) (sym h.is) ∙ found)) h.kind
