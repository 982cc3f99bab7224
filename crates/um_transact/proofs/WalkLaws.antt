-- The invariant of a walk: the demands that it was led to are marked, and each marked demand is followed or is yet to be.
use Rattle.std.proofs.Common.{◌≡◌, ◌⊎◌, ◌↔◌, ◌+◌, ◌<◌, ◌≤◌, ℕ, zero, suc, Bool, true, false, cond, List, [], ◌∷◌, ◌++◌, length, set, replicate, sum_by, Contains, refl, sym, ap, ◌∙◌, subst, inl, inr, arith}
use Rattle.std.proofs.lemmas.List.{length-set, length-replicate, length-append}
use Rattle.std.proofs.lemmas.List.Sums.{sum_by-cons}
use Rattle.std.proofs.lemmas.List.Elements.{Contains-append_left, Contains-push, Contains-push_cases}
use Rattle.um_model.specs.Reached.{Reached, first, next}
use Rattle.um_laws.proofs.DemandsLaws.{reached_in}
use Rattle.um_model.specs.declared.dependencies.Demand.{Demand}
use Rattle.um_model.specs.declared.dependencies.Demand.TheVariants.{Start, Stop, Restart}
use Rattle.um_transact.specs.Walk.{Demanded, IsMarked, Met, all_met, count_if, has_mark, is_marked, marks_at, met, no_marks, unmarked, with_mark}
use Rattle.um_transact.specs.declared.walk.Marks.{Marks}

-- ---- the marks of one unit
has_kept : (d e : Demand) (m : Marks) → has_mark e m ≡ true → has_mark e (with_mark d m) ≡ true
has_kept Start Start m h = refl
has_kept Start Stop m h = h
has_kept Start Restart m h = h
has_kept Stop Start m h = h
has_kept Stop Stop m h = refl
has_kept Stop Restart m h = h
has_kept Restart Start m h = h
has_kept Restart Stop m h = h
has_kept Restart Restart m h = refl

has_new : (d : Demand) (m : Marks) → has_mark d (with_mark d m) ≡ true
has_new Start m = refl
has_new Stop m = refl
has_new Restart m = refl

had_before : (d e : Demand) (m : Marks) → has_mark e (with_mark d m) ≡ true → (has_mark e m ≡ true) ⊎ (e ≡ d)
had_before Start Start m h = inr refl
had_before Start Stop m h = inl h
had_before Start Restart m h = inl h
had_before Stop Start m h = inl h
had_before Stop Stop m h = inr refl
had_before Stop Restart m h = inl h
had_before Restart Start m h = inl h
had_before Restart Stop m h = inl h
had_before Restart Restart m h = inr refl

has_none : (e : Demand) → has_mark e no_marks ≡ true → ⊥
has_none Start h = cc
has_none Stop h = cc
has_none Restart h = cc

fewer_here : (d : Demand) (m : Marks) → has_mark d m ≡ false → unmarked (with_mark d m) + 1 ≡ unmarked m
fewer_here Start m h = let e : count_if m.start ≡ 1 = ap count_if h in omega (arith, e)
fewer_here Stop m h = let e : count_if m.stop ≡ 1 = ap count_if h in omega (arith, e)
fewer_here Restart m h = let e : count_if m.restart ≡ 1 = ap count_if h in omega (arith, e)

-- ---- the marks of all units
abbrev marking : Demand → ℕ → List Marks → List Marks
marking d n m = set m n (with_mark d (marks_at m n))

marks_kept : (m : List Marks) (n : ℕ) (d e : Demand) (u : ℕ) → is_marked m (e, u) ≡ true → is_marked (marking d n m) (e, u) ≡ true
marks_kept [] n d e u h = h
marks_kept (x ∷ m) zero d e zero h = has_kept d e x h
marks_kept (x ∷ m) zero d e (suc u) h = h
marks_kept (x ∷ m) (suc n) d e zero h = h
marks_kept (x ∷ m) (suc n) d e (suc u) h = marks_kept m n d e u h

marked_before : (m : List Marks) (n : ℕ) (d e : Demand) (u : ℕ) → is_marked (marking d n m) (e, u) ≡ true → (is_marked m (e, u) ≡ true) ⊎ ((e ≡ d) × (u ≡ n))
marked_before [] n d e u h = inl h
marked_before (x ∷ m) zero d e zero h = elim (had_before d e x h) [ inl a ↦ inl a | inr s ↦ inr (s, refl) ]
marked_before (x ∷ m) zero d e (suc u) h = inl h
marked_before (x ∷ m) (suc n) d e zero h = inl h
marked_before (x ∷ m) (suc n) d e (suc u) h = elim (marked_before m n d e u h) [ inl a ↦ inl a | inr s ↦ inr (s.0, ap suc s.1) ]

marked_at : (m : List Marks) (n : ℕ) (d : Demand) → n < length m → is_marked (marking d n m) (d, n) ≡ true
marked_at [] n d h = absurd (omega arith)
marked_at (x ∷ m) zero d h = has_new d x
marked_at (x ∷ m) (suc n) d h = marked_at m n d (omega arith)

fewer : (m : List Marks) (n : ℕ) (d : Demand) → n < length m → is_marked m (d, n) ≡ false → sum_by unmarked (marking d n m) + 1 ≡ sum_by unmarked m
fewer [] n d h e = absurd (omega arith)
fewer (x ∷ m) zero d h e = omega (arith, sum_by-cons unmarked x m, sum_by-cons unmarked (with_mark d x) m, fewer_here d x e)
fewer (x ∷ m) (suc n) d h e = omega (arith, sum_by-cons unmarked x m, sum_by-cons unmarked x (marking d n m), fewer m n d (omega arith) e)

-- ---- marks and list after demands are marked
abbrev pub left : Met → ℕ
left s = sum_by unmarked s.0 + length s.1

pub record Meets (ps : List Demanded) (s t : Met) : Type 0 where
  pub long : length t.0 ≡ length s.0
  pub kept : (q : Demanded) → IsMarked s.0 q → IsMarked t.0 q
  pub listed : (q : Demanded) → Contains s.1 q → Contains t.1 q
  pub done : (q : Demanded) → Contains ps q → IsMarked t.0 q
  pub origin : (q : Demanded) → IsMarked t.0 q → IsMarked s.0 q ⊎ (Contains ps q × Contains t.1 q)
  pub marks : (q : Demanded) → Contains t.1 q → Contains s.1 q ⊎ IsMarked t.0 q
  pub falls : left t ≤ left s

one_is : (p q : Demanded) → Contains (p ∷ []) q → p ≡ q
one_is p q (zero, h, e) = e
one_is p q (suc k, h, e) = absurd (omega arith)

meets_one : (p : Demanded) (s : Met) → p.1 < length s.0 → Meets (p ∷ []) s (met p s)
meets_one p s h = by (is_marked s.0 p) refl
  where
    by : (b : Bool) → is_marked s.0 p ≡ b → Meets (p ∷ []) s (cond b s (marking p.0 p.1 s.0, s.1 ++ p ∷ []))
    by true e = record {
      long = refl;
      kept = λ q m. m;
      listed = λ q c. c;
      done = λ q c. subst (IsMarked s.0) (one_is p q c) e;
      origin = λ q m. inl m;
      marks = λ q c. inl c;
      falls = omega arith;
    }
    by false e = record {
      long = length-set s.0 p.1 (with_mark p.0 (marks_at s.0 p.1));
      kept = λ q m. marks_kept s.0 p.1 p.0 q.0 q.1 m;
      listed = λ q c. Contains-append_left s.1 (p ∷ []) q c;
      done = λ q c. subst (IsMarked (marking p.0 p.1 s.0)) (one_is p q c) (marked_at s.0 p.1 p.0 h);
      origin = λ q m. elim (marked_before s.0 p.1 p.0 q.0 q.1 m) [
        | inl a ↦ inl a
        | inr i ↦ let same : p ≡ q = λ j. (sym i.0 j, sym i.1 j) in inr ((0, omega arith, same), subst (Contains (s.1 ++ p ∷ [])) same (Contains-push s.1 p))
      ];
      marks = λ q c. elim (Contains-push_cases s.1 p q c) [ inl a ↦ inl a | inr i ↦ inr (subst (IsMarked (marking p.0 p.1 s.0)) i (marked_at s.0 p.1 p.0 h)) ];
      falls = omega (arith, fewer s.0 p.1 p.0 h e, length-append s.1 (p ∷ []));
    }

cons_cases : (p : Demanded) (ps : List Demanded) (q : Demanded) → Contains (p ∷ ps) q → Contains (p ∷ []) q ⊎ Contains ps q
cons_cases p ps q (zero, h, e) = inl (0, omega arith, e)
cons_cases p ps q (suc k, h, e) = inr (k, omega arith, e)

cons_first : (p : Demanded) (ps : List Demanded) (q : Demanded) → Contains (p ∷ []) q → Contains (p ∷ ps) q
cons_first p ps q c = (0, omega arith, one_is p q c)

cons_later : (p : Demanded) (ps : List Demanded) (q : Demanded) → Contains ps q → Contains (p ∷ ps) q
cons_later p ps q (k, h, e) = (suc k, omega arith, e)

pub meets_all : (ps : List Demanded) (s : Met) → ((q : Demanded) → Contains ps q → q.1 < length s.0) → Meets ps s (all_met ps s)
meets_all [] s h = record {
  long = refl;
  kept = λ q m. m;
  listed = λ q c. c;
  done = λ q c. absurd (omega (arith, c.1));
  origin = λ q m. inl m;
  marks = λ q c. inl c;
  falls = omega arith;
}
meets_all (p ∷ ps) s h =
    let a = meets_one p s (h p (0, omega arith, refl)) in
    let b = meets_all ps (met p s) (λ q c. subst (λ n. q.1 < n) (sym a.long) (h q (cons_later p ps q c))) in
    record {
      long = b.long ∙ a.long;
      kept = λ q m. b.kept q (a.kept q m);
      listed = λ q c. b.listed q (a.listed q c);
      done = λ q c. elim (cons_cases p ps q c) [ inl d ↦ b.kept q (a.done q d) | inr d ↦ b.done q d ];
      origin = λ q m. elim (b.origin q m) [
        | inl n ↦ elim (a.origin q n) [ inl o ↦ inl o | inr d ↦ inr (cons_first p ps q d.0, b.listed q d.1) ]
        | inr d ↦ inr (cons_later p ps q d.0, d.1)
      ];
      marks = λ q c. elim (b.marks q c) [ inl d ↦ elim (a.marks q d) [ inl o ↦ inl o | inr n ↦ inr (b.kept q n) ] | inr n ↦ inr n ];
      falls = omega (arith, a.falls, b.falls);
    }

-- ---- a walk under way, from one demand along a rule
module _ (Next : Demanded → Demanded → Type 0) (root : Demanded) where
  pub record IsUnderWay (n : ℕ) (m : List Marks) (l : List Demanded) : Type 0 where
    pub long : length m ≡ n
    pub sound : (q : Demanded) → IsMarked m q → Reached (λ p. p ≡ root) Next q
    pub began : IsMarked m root
    pub listed : (q : Demanded) → Contains l q → IsMarked m q
    pub followed : (p : Demanded) → IsMarked m p → Contains l p ⊎ ((q : Demanded) → Next p q → IsMarked m q)

  none_marked : (n : ℕ) (e : Demand) (u : ℕ) → is_marked (replicate n no_marks) (e, u) ≡ true → ⊥
  none_marked zero e u h = has_none e h
  none_marked (suc n) e zero h = has_none e h
  none_marked (suc n) e (suc u) h = none_marked n e u h

  -- the walk begins
  pub way_begins : (n : ℕ) (m0 m : List Marks) (l0 l : List Demanded) → root.1 < n → m0 ≡ replicate n no_marks → l0 ≡ [] → (m, l) ≡ met root (m0, l0) → IsUnderWay n m l
  way_begins n m0 m l0 l h e f g =
      let fresh : (m, l) ≡ met root (replicate n no_marks, []) = g ∙ (ap (λ x. met root (x, l0)) e ∙ ap (λ x. met root (replicate n no_marks, x)) f) in
      let within : root.1 < length (replicate n no_marks) = subst (λ k. root.1 < k) (sym (length-replicate n no_marks)) h in
      let one = meets_one root (replicate n no_marks, []) within in
      let whole : Meets (root ∷ []) (replicate n no_marks, []) (m, l) = subst (Meets (root ∷ []) (replicate n no_marks, [])) (sym fresh) one in
      record {
        long = whole.long ∙ length-replicate n no_marks;
        sound = λ q k. elim (whole.origin q k) as (λ _. Reached (λ p. p ≡ root) Next q) [ inl o ↦ absurd (none_marked n q.0 q.1 o) | inr d ↦ first (sym (one_is root q d.0)) ];
        began = whole.done root (0, omega arith, refl);
        listed = λ q c. elim (whole.marks q c) as (λ _. IsMarked m q) [ inl d ↦ absurd (omega (arith, d.1)) | inr k ↦ k ];
        followed = λ p k. elim (whole.origin p k) [ inl o ↦ absurd (none_marked n p.0 p.1 o) | inr d ↦ inl d.1 ];
      }

  -- the last of the list is followed
  pub way_goes_on : (n : ℕ) (m : List Marks) (l l' : List Demanded) (p : Demanded) (found : List Demanded) (m' : List Marks) (l'' : List Demanded) → IsUnderWay n m l → l ≡ l' ++ p ∷ []
      → ((q : Demanded) → Contains found q ↔ Next p q) → ((q : Demanded) → Contains found q → q.1 < n) → (m', l'') ≡ all_met found (m, l')
      → IsUnderWay n m' l'' × (left (m', l'') < left (m, l))
  way_goes_on n m l l' p found m' l'' u e is within g =
      let here : IsMarked m p = u.listed p (subst (λ x. Contains x p) (sym e) (Contains-push l' p)) in
      let all = meets_all found (m, l') (λ q c. subst (λ k. q.1 < k) (sym u.long) (within q c)) in
      let whole : Meets found (m, l') (m', l'') = subst (Meets found (m, l')) (sym g) all in
      let shorter : length l ≡ length l' + 1 = ap length e ∙ length-append l' (p ∷ []) in (
        record {
          long = whole.long ∙ u.long;
          sound = λ q k. elim (whole.origin q k) as (λ _. Reached (λ r. r ≡ root) Next q) [ inl o ↦ u.sound q o | inr d ↦ next (u.sound p here) ((is q).0 d.0) ];
          began = whole.kept root u.began;
          listed = λ q c. elim (whole.marks q c) as (λ _. IsMarked m' q) [ inl d ↦ whole.kept q (u.listed q (subst (λ x. Contains x q) (sym e) (Contains-append_left l' (p ∷ []) q d))) | inr k ↦ k ];
          followed = λ r k. elim (whole.origin r k) [
            | inl o ↦ elim (u.followed r o) [
              | inl c ↦ elim (Contains-push_cases l' p r (subst (λ x. Contains x r) e c)) [
                | inl d ↦ inl (whole.listed r d)
                | inr same ↦ inr (λ q h. whole.done q ((is q).1 (subst (λ x. Next x q) (sym same) h)))
              ]
              | inr closed ↦ inr (λ q h. whole.kept q (closed q h))
            ]
            | inr d ↦ inl d.1
          ];
        },
        omega (arith, whole.falls),
      )

  -- nothing is left to be followed: just the demands that the rule leads to are marked
  pub way_ends : (n : ℕ) (m : List Marks) (l : List Demanded) → IsUnderWay n m l → length l ≡ 0 → (q : Demanded) → IsMarked m q ↔ Reached (λ p. p ≡ root) Next q
  way_ends n m l u e q = (
    u.sound q,
    reached_in (IsMarked m) (λ p h. subst (IsMarked m) (sym h) u.began) (λ p r k h. elim (u.followed p k) as (λ _. IsMarked m r) [ inl c ↦ absurd (omega (arith, c.1)) | inr closed ↦ closed r h ]) q,
  )
