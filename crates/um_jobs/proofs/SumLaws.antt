-- Sums over a row, and the part of one unit in them.
use Rattle.std.proofs.Common.{◌≡◌, ◌≢◌, ◌⊎◌, ◌∙◌, ◌+◌, ◌*◌, ◌<◌, ◌≤◌, ℕ, suc, Bool, true, false, true≢false, cond, ◌&&◌, ◌||◌, ◌==◌, List, [], ◌∷◌, length, take, set, get_or, refl, sym, ap, subst, inl, inr, arith}
use Rattle.std.specs.List.{list_any, sum_by}
use Rattle.std.proofs.lemmas.Bool.Decides.{eqb_tells}
use Rattle.std.proofs.lemmas.Grind.{get_or-set_at}
use Rattle.std.proofs.lemmas.List.{get_or-set_other}
use Rattle.std.proofs.lemmas.List.Folds.{list_any_none}
use Rattle.std.proofs.lemmas.List.Sums.{sum_by-cons, sum_by-le, sum_by-le-sum_by, sum_by_more, sum_by_more_le}
use Rattle.um_model.specs.Jobs.{no_jobs}
use Rattle.um_model.specs.declared.jobs.UnitJobs.{UnitJobs}
use Rattle.um_graph.specs.Graph.{AreOnce}
use Rattle.um_graph.specs.declared.row.Neighbour.{Neighbour}
use Rattle.um_jobs.specs.Counts.{Counting, ahead, is_listed, sum_of}
use Rattle.um_jobs.specs.Named.{jobs_at}

pub number_tells : (a b : ℕ) → (((a == b) ≡ true) × (a ≡ b)) ⊎ (((a == b) ≡ false) × (a ≢ b))
number_tells a b = eqb_tells a b

pub same_number : (a b : ℕ) → a ≡ b → (a == b) ≡ true
same_number a b e = elim (number_tells a b) as (λ _. (a == b) ≡ true) [ inl h ↦ h.0 | inr h ↦ absurd (h.1 e) ]

pub other_number : (a b : ℕ) → a ≢ b → (a == b) ≡ false
other_number a b n = elim (number_tells a b) as (λ _. (a == b) ≡ false) [ inl h ↦ absurd (n h.1) | inr h ↦ h.0 ]

pub neither : (a b : Bool) → (a || b) ≡ false → (a ≡ false) × (b ≡ false)
neither false false e = (refl, refl)
neither true b e = absurd (true≢false e)
neither false true e = absurd (true≢false e)

or_none : (a : Bool) → (a || false) ≡ a
or_none true = refl
or_none false = refl

-- the part of a unit in the first neighbours and in the next one
pub taken_le : (w : Neighbour → ℕ) (row : List Neighbour) (i : ℕ) (d : Neighbour) → i < length row
    → sum_of w (get_or row i d).unit (take i row) + w (get_or row i d) ≤ sum_of w (get_or row i d).unit row
taken_le w row i d h =
    let n = get_or row i d in
    let test : Neighbour → ℕ = λ m. cond (m.unit == n.unit) (w m) 0 in
    subst (λ b. sum_by test (take i row) + cond b (w n) 0 ≤ sum_by test row) (same_number n.unit n.unit refl) (sum_by_more_le test row i d h)

-- if the next neighbour is counted again, all up to that one are
pub counted_more : (w v : Neighbour → ℕ) (first now later : ℕ → ℕ) (row : List Neighbour) (i : ℕ) (d : Neighbour) → i < length row
    → ((u : ℕ) → now u + sum_of w u (take i row) ≡ first u + sum_of v u (take i row))
    → later (get_or row i d).unit + w (get_or row i d) ≡ now (get_or row i d).unit + v (get_or row i d)
    → ((u : ℕ) → u ≢ (get_or row i d).unit → later u ≡ now u)
    → (u : ℕ) → later u + sum_of w u (take (i + 1) row) ≡ first u + sum_of v u (take (i + 1) row)
counted_more w v first now later row i d h so_far here others u =
    let n = get_or row i d in
    let a = sum_by_more (λ m. cond (m.unit == u) (w m) 0) row i d h in
    let b = sum_by_more (λ m. cond (m.unit == u) (v m) 0) row i d h in
    let e = so_far u in
    elim (number_tells n.unit u) as (λ _. later u + sum_of w u (take (i + 1) row) ≡ first u + sum_of v u (take (i + 1) row)) [
      | inl s ↦
          let p : cond (n.unit == u) (w n) 0 ≡ w n = ap (λ t. cond t (w n) 0) s.0 in
          let q : cond (n.unit == u) (v n) 0 ≡ v n = ap (λ t. cond t (v n) 0) s.0 in
          let f : later u + w n ≡ now u + v n = subst (λ x. later x + w n ≡ now x + v n) s.1 here in omega arith
      | inr s ↦
          let p : cond (n.unit == u) (w n) 0 ≡ 0 = ap (λ t. cond t (w n) 0) s.0 in
          let q : cond (n.unit == u) (v n) 0 ≡ 0 = ap (λ t. cond t (v n) 0) s.0 in
          let f = others u (λ x. s.1 (sym x)) in omega arith
    ]

-- sums over the same row
pub sums_alike : (f a g b : Neighbour → ℕ) → ((n : Neighbour) → f n + a n ≡ g n + b n) → (row : List Neighbour) → sum_by f row + sum_by a row ≡ sum_by g row + sum_by b row
sums_alike f a g b e [] = refl
sums_alike f a g b e (n ∷ row) =
    let p = sum_by-cons f n row in
    let q = sum_by-cons a n row in
    let r = sum_by-cons g n row in
    let s = sum_by-cons b n row in
    let h = e n in
    let k = sums_alike f a g b e row in omega arith

-- the jobs of one unit change: the counts of the others stay
pub counted_anew : (counting : Counting) (units : List UnitJobs) (x : ℕ) (j : UnitJobs) → x < length units → (row : List Neighbour)
    → sum_by (λ n. ahead counting (jobs_at (set units x j) n.unit) n) row + sum_of (ahead counting (jobs_at units x)) x row
    ≡ sum_by (λ n. ahead counting (jobs_at units n.unit) n) row + sum_of (ahead counting j) x row
counted_anew counting units x j l row = sums_alike
    (λ n. ahead counting (jobs_at (set units x j) n.unit) n) (λ n. cond (n.unit == x) (ahead counting (jobs_at units x) n) 0)
    (λ n. ahead counting (jobs_at units n.unit) n) (λ n. cond (n.unit == x) (ahead counting j n) 0) each row
  where
    each : (n : Neighbour) → ahead counting (jobs_at (set units x j) n.unit) n + cond (n.unit == x) (ahead counting (jobs_at units x) n) 0
        ≡ ahead counting (jobs_at units n.unit) n + cond (n.unit == x) (ahead counting j n) 0
    each n = elim (number_tells n.unit x) as (λ _. ahead counting (jobs_at (set units x j) n.unit) n + cond (n.unit == x) (ahead counting (jobs_at units x) n) 0
        ≡ ahead counting (jobs_at units n.unit) n + cond (n.unit == x) (ahead counting j n) 0) [
          | inl h ↦
              let now : jobs_at (set units x j) n.unit ≡ j = get_or-set_at units x n.unit j no_jobs h.1 l in
              let a : ahead counting (jobs_at (set units x j) n.unit) n ≡ ahead counting j n = ap (λ k. ahead counting k n) now in
              let b : cond (n.unit == x) (ahead counting (jobs_at units x) n) 0 ≡ ahead counting (jobs_at units x) n = ap (λ t. cond t (ahead counting (jobs_at units x) n) 0) h.0 in
              let c : ahead counting (jobs_at units n.unit) n ≡ ahead counting (jobs_at units x) n = ap (λ u. ahead counting (jobs_at units u) n) h.1 in
              let d : cond (n.unit == x) (ahead counting j n) 0 ≡ ahead counting j n = ap (λ t. cond t (ahead counting j n) 0) h.0 in omega arith
          | inr h ↦
              let now : jobs_at (set units x j) n.unit ≡ jobs_at units n.unit = get_or-set_other units x n.unit j no_jobs h.1 in
              let a : ahead counting (jobs_at (set units x j) n.unit) n ≡ ahead counting (jobs_at units n.unit) n = ap (λ k. ahead counting k n) now in
              let b : cond (n.unit == x) (ahead counting (jobs_at units x) n) 0 ≡ 0 = ap (λ t. cond t (ahead counting (jobs_at units x) n) 0) h.0 in
              let d : cond (n.unit == x) (ahead counting j n) 0 ≡ 0 = ap (λ t. cond t (ahead counting j n) 0) h.0 in omega arith
        ]

-- the count of a unit is a part of the whole
pub summed_le : (counting : Counting) (units : List UnitJobs) (x : ℕ) (row : List Neighbour)
    → sum_of (ahead counting (jobs_at units x)) x row ≤ sum_by (λ n. ahead counting (jobs_at units n.unit) n) row
summed_le counting units x row = sum_by-le-sum_by (λ n. cond (n.unit == x) (ahead counting (jobs_at units x) n) 0) (λ n. ahead counting (jobs_at units n.unit) n) row each
  where
    each : (n : Neighbour) → cond (n.unit == x) (ahead counting (jobs_at units x) n) 0 ≤ ahead counting (jobs_at units n.unit) n
    each n = elim (number_tells n.unit x) as (λ _. cond (n.unit == x) (ahead counting (jobs_at units x) n) 0 ≤ ahead counting (jobs_at units n.unit) n) [
      | inl h ↦
          let b : cond (n.unit == x) (ahead counting (jobs_at units x) n) 0 ≡ ahead counting (jobs_at units x) n = ap (λ t. cond t (ahead counting (jobs_at units x) n) 0) h.0 in
          let c : ahead counting (jobs_at units n.unit) n ≡ ahead counting (jobs_at units x) n = ap (λ u. ahead counting (jobs_at units u) n) h.1 in omega arith
      | inr h ↦ let b : cond (n.unit == x) (ahead counting (jobs_at units x) n) 0 ≡ 0 = ap (λ t. cond t (ahead counting (jobs_at units x) n) 0) h.0 in omega arith
    ]

-- a sum is at most the bound for each item times the number of items
pub sum_most : (f : Neighbour → ℕ) (m : ℕ) → ((n : Neighbour) → f n ≤ m) → (row : List Neighbour) → sum_by f row ≤ length row * m
sum_most f m h row = sum_by-le f m row (λ k d l. h (get_or row k d))

pub sum_of_most : (w : Neighbour → ℕ) (m : ℕ) → ((n : Neighbour) → w n ≤ m) → (x : ℕ) (row : List Neighbour) → sum_of w x row ≤ length row * m
sum_of_most w m h x row = sum_most (λ n. cond (n.unit == x) (w n) 0) m (λ n. each (n.unit == x) (w n) (h n)) row
  where
    each : (b : Bool) (k : ℕ) → k ≤ m → cond b k 0 ≤ m
    each true k l = l
    each false k l = omega arith

-- a unit that isn't in the row counts nothing
pub sum_of_none : (w : Neighbour → ℕ) (x : ℕ) (row : List Neighbour) → is_listed row x ≡ false → sum_of w x row ≡ 0
sum_of_none w x [] e = refl
sum_of_none w x (n ∷ row) e =
    let f = neither (n.unit == x) (is_listed row x) e in
    let here : cond (n.unit == x) (w n) 0 ≡ 0 = ap (λ t. cond t (w n) 0) f.0 in
    let rest = sum_of_none w x row f.1 in
    let s = sum_by-cons (λ m. cond (m.unit == x) (w m) 0) n row in omega arith

any_none : (p : Neighbour → Bool) (x : ℕ) (row : List Neighbour) → is_listed row x ≡ false → list_any (λ n. (n.unit == x) && p n) row ≡ false
any_none p x [] e = refl
any_none p x (n ∷ row) e =
    let f = neither (n.unit == x) (is_listed row x) e in
    ap (λ t. (t && p n) || list_any (λ n. (n.unit == x) && p n) row) f.0 ∙ any_none p x row f.1

once_rest : (n : Neighbour) (row : List Neighbour) → AreOnce (n ∷ row) → AreOnce row
once_rest n row once i j d l k = once (suc i) (suc j) d (omega arith) (omega arith)

alone : (n : Neighbour) (row : List Neighbour) → AreOnce (n ∷ row) → is_listed row n.unit ≡ false
alone n row once = list_any_none (λ m. m.unit == n.unit) row (λ k d l. other_number (get_or row k d).unit n.unit (λ e. once 0 (suc k) d (omega arith) (omega arith) (sym e)))

-- a unit that stands in a row at most once counts as its bits say
pub sum_of_once : (w : Bool → Bool → ℕ) → w false false ≡ 0 → (p q : Neighbour → Bool) (x : ℕ) (row : List Neighbour) → AreOnce row
    → sum_of (λ n. w (p n) (q n)) x row ≡ w (list_any (λ n. (n.unit == x) && p n) row) (list_any (λ n. (n.unit == x) && q n) row)
sum_of_once w z p q x [] once = sym z
sum_of_once w z p q x (n ∷ row) once =
    let s = sum_by-cons (λ m. cond (m.unit == x) (w (p m) (q m)) 0) n row in
    s ∙ (elim (number_tells n.unit x) as (λ _. cond (n.unit == x) (w (p n) (q n)) 0 + sum_of (λ n. w (p n) (q n)) x row
    ≡ w (((n.unit == x) && p n) || list_any (λ n. (n.unit == x) && p n) row) (((n.unit == x) && q n) || list_any (λ n. (n.unit == x) && q n) row)) [
      | inl h ↦
          let gone : is_listed row x ≡ false = subst (λ u. is_listed row u ≡ false) h.1 (alone n row once) in
          let a = any_none p x row gone in
          let b = any_none q x row gone in
          let t = sum_of_none (λ n. w (p n) (q n)) x row gone in
          at true (sym h.0) (here (w (p n) (q n)) (p n) (q n) (list_any (λ n. (n.unit == x) && p n) row) (list_any (λ n. (n.unit == x) && q n) row) (sum_of (λ n. w (p n) (q n)) x row) refl a b t)
      | inr h ↦ at false (sym h.0) (let r = sum_of_once w z p q x row (once_rest n row once) in let o : 0 + sum_of (λ n. w (p n) (q n)) x row ≡ sum_of (λ n. w (p n) (q n)) x row = omega arith in o ∙ r)
    ])
  where
    Fits : Bool → Type 0
    Fits b = cond b (w (p n) (q n)) 0 + sum_of (λ n. w (p n) (q n)) x row
        ≡ w ((b && p n) || list_any (λ n. (n.unit == x) && p n) row) ((b && q n) || list_any (λ n. (n.unit == x) && q n) row)

    at : (b : Bool) → b ≡ (n.unit == x) → Fits b → Fits (n.unit == x)
    at b e f = subst Fits e f

    here : (k : ℕ) (a b : Bool) (c d : Bool) (t : ℕ) → k ≡ w a b → c ≡ false → d ≡ false → t ≡ 0 → k + t ≡ w (a || c) (b || d)
    here k a b c d t e f g h =
        let v : w (a || c) (b || d) ≡ w a b = λ i. w ((ap (λ c. a || c) f ∙ or_none a) i) ((ap (λ d. b || d) g ∙ or_none b) i) in omega arith

-- a row counts nothing if the test finds nothing
pub counts_none : (f : Neighbour → ℕ) (p : Neighbour → Bool) → ((n : Neighbour) → (p n ≡ true) × (0 < f n) ⊎ (p n ≡ false) × (f n ≡ 0)) → (row : List Neighbour)
    → (list_any p row ≡ true) × (0 < sum_by f row) ⊎ (list_any p row ≡ false) × (sum_by f row ≡ 0)
counts_none f p h [] = inr (refl, refl)
counts_none f p h (n ∷ row) =
    let s = sum_by-cons f n row in
    elim (h n) as (λ _. (list_any p (n ∷ row) ≡ true) × (0 < sum_by f (n ∷ row)) ⊎ (list_any p (n ∷ row) ≡ false) × (sum_by f (n ∷ row) ≡ 0)) [
      | inl a ↦ inl (ap (λ t. t || list_any p row) a.0, omega (arith, a.1))
      | inr a ↦ elim (counts_none f p h row) as (λ _. (list_any p (n ∷ row) ≡ true) × (0 < sum_by f (n ∷ row)) ⊎ (list_any p (n ∷ row) ≡ false) × (sum_by f (n ∷ row) ≡ 0)) [
        | inl b ↦ inl (ap (λ t. t || list_any p row) a.0 ∙ b.0, omega (arith, a.1, b.1))
        | inr b ↦ inr (ap (λ t. t || list_any p row) a.0 ∙ b.0, omega (arith, a.1, b.1))
      ]
    ]
