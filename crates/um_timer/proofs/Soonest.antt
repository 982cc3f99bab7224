-- The scan in the order of the names finds the timer that is due first.
use Rattle.std.specs.Option.{MatchOption}
use Rattle.std.proofs.Common.{Bor, ℕ, ◌≡◌, ◌≢◌, ◌∙◌, ◌⊎◌, ◌<◌, ◌≤◌, true, false, cond, nat_le, List, [], ◌∷◌, length, Option, Some, None, refl, sym, ap, subst, inl, inr, arith, zero, suc, Contains, get_or, Less}
use Rattle.std.specs.BTreeMap as tree
use Rattle.std.specs.BTreeMap.{BTreeMap}
use Rattle.std.specs.FinMap as map
use Rattle.std.specs.Cmp.Lexicographic.{slice_cmp, nat_list_cmp_total}
use Rattle.std.specs.Ordering.{nat_cmp}
use Rattle.std.proofs.lemmas.Bool.{cases_lt}
use Rattle.std.proofs.lemmas.Bool.Decides.{nat_tests}
use Rattle.std.proofs.lemmas.Option.{same_Some, none-some}
use Rattle.std.proofs.lemmas.Map.Views.{btree_map_get_iff}
use Rattle.std.proofs.lemmas.Map.Lookups.{exact_bytes}
use Rattle.um_model.specs.Timers.{IsDueBefore, earlier, by_name, IsDueFirst}
use Rattle.um_model.proofs.TimersLaws.{due_before_others}
use Rattle.um_timer.specs.Due.{sooner, soonest, seen_due}
use Rattle.um_laws.proofs.NameMaps.{seen, get_seen, seen_nothing, After, Rising, rising}

abbrev AfterDue : Option (ℕ × List ℕ) → List (List ℕ × ℕ) → Type 0
AfterDue None es = Unit {0}
AfterDue (Some due) es = After due.1 es

-- this timer is that one, or due before it
abbrev IsDue : ℕ → List ℕ → List ℕ × ℕ → Type 0
IsDue d n e = (e.0 ≡ n) ⊎ IsDueBefore (d, n) (e.1, e.0)

abbrev AllDue : ℕ → List ℕ → List (List ℕ × ℕ) → Type 0
AllDue d n [] = Unit {0}
AllDue d n (e ∷ es) = IsDue d n e × AllDue d n es

-- no later than a timer so far, and that one itself if the deadline is the same
abbrev IsKept : ℕ → List ℕ → ℕ × List ℕ → Type 0
IsKept d n b = (d < b.0) ⊎ ((d ≡ b.0) × (n ≡ b.1))

record Found (due : Option (ℕ × List ℕ)) (es : List (List ℕ × ℕ)) (d : ℕ) (n : List ℕ) : Type 0 where
  kept : (b : ℕ × List ℕ) → due ≡ Some b → IsKept d n b
  all : AllDue d n es
  from : (due ≡ Some (d, n)) ⊎ Contains es (n, d)

due_head : (d : ℕ) (n : List ℕ) (x : List ℕ × ℕ) → IsKept d n (x.1, x.0) → IsDue d n x
due_head d n x (inl lower) = inr (earlier lower)
due_head d n x (inr same) = inl (sym same.1)

same_pair : (x : List ℕ × ℕ) (d : ℕ) (n : List ℕ) → ◌≡◌ {A = ℕ × List ℕ} (x.1, x.0) (d, n) → x ≡ (n, d)
same_pair x d n e = λ i. ((e i).1, (e i).0)

from_head : (x : List ℕ × ℕ) (es : List (List ℕ × ℕ)) (d : ℕ) (n : List ℕ) → (◌≡◌ {A = Option (ℕ × List ℕ)} (Some (x.1, x.0)) (Some (d, n))) ⊎ Contains es (n, d) → Contains (x ∷ es) (n, d)
from_head x es d n (inl e) = (0, omega arith, same_pair x d n (same_Some (x.1, x.0) (d, n) e))
from_head x es d n (inr c) = (suc c.0, omega arith, c.2)

from_tail : (b : ℕ × List ℕ) (x : List ℕ × ℕ) (es : List (List ℕ × ℕ)) (d : ℕ) (n : List ℕ) → (Some b ≡ Some (d, n)) ⊎ Contains es (n, d) → (Some b ≡ Some (d, n)) ⊎ Contains (x ∷ es) (n, d)
from_tail b x es d n (inl e) = inl e
from_tail b x es d n (inr c) = inr (suc c.0, omega arith, c.2)

-- the one so far stays, and comes before the next by its deadline or by its name
due_later : (d : ℕ) (n : List ℕ) (b : ℕ × List ℕ) (x : List ℕ × ℕ) → b.0 ≤ x.1 → slice_cmp nat_cmp b.1 x.0 ≡ Less → IsKept d n b → IsDue d n x
due_later d n b x le less (inl lower) = inr (earlier (omega arith))
due_later d n b x le less (inr same) = elim (cases_lt b.0 x.1) as (λ _. IsDue d n x) [
  | inl lower ↦ let e = same.0 in inr (earlier (omega arith))
  | inr past ↦ let e = same.0 in inr (by_name (omega arith) (subst (λ m. slice_cmp nat_cmp m x.0 ≡ Less) (sym same.1) less))
]

kept_lower : (d : ℕ) (n : List ℕ) (b : ℕ × List ℕ) (m : ℕ) (k : List ℕ) → m < b.0 → IsKept d n (m, k) → IsKept d n b
kept_lower d n b m k lt (inl lower) = inl (omega arith)
kept_lower d n b m k lt (inr same) = let e = same.0 in inl (omega arith)

stays : (b : ℕ × List ℕ) (x : List ℕ × ℕ) → b.0 ≤ x.1 → sooner (Some b) x ≡ Some b
stays b x le = let t : nat_le b.0 x.1 ≡ true = grind (arith, nat_tests) in ap (λ c. cond c (Some b) (Some (x.1, x.0))) t

gives_way : (b : ℕ × List ℕ) (x : List ℕ × ℕ) → x.1 < b.0 → sooner (Some b) x ≡ Some (x.1, x.0)
gives_way b x lt = let t : nat_le b.0 x.1 ≡ false = grind (arith, nat_tests) in ap (λ c. cond c (Some b) (Some (x.1, x.0))) t

found : (due : Option (ℕ × List ℕ)) (es : List (List ℕ × ℕ)) → AfterDue due es → Rising es → (d : ℕ) (n : List ℕ) → soonest due es ≡ Some (d, n) → Found due es d n
found due [] a r d n e = record {
  kept = λ b f. let s : b ≡ (d, n) = same_Some b (d, n) (sym f ∙ e) in inr (sym (ap (λ p. p.0) s), sym (ap (λ p. p.1) s));
  all = tt;
  from = inl e;
}
found None (x ∷ es) a r d n e =
    let f = found (Some (x.1, x.0)) es r.0 r.1 d n e in
    record { kept = λ b g. absurd (none-some b g); all = (due_head d n x (f.kept (x.1, x.0) refl), f.all); from = inr (from_head x es d n f.from) }
found (Some b) (x ∷ es) a r d n e = elim (cases_lt x.1 b.0) as (λ _. Found (Some b) (x ∷ es) d n) [
  | inl lt ↦
      let f = found (Some (x.1, x.0)) es r.0 r.1 d n (sym (ap (λ o. soonest o es) (gives_way b x lt)) ∙ e) in
      record {
        kept = λ c g. subst (IsKept d n) (same_Some b c g) (kept_lower d n b x.1 x.0 lt (f.kept (x.1, x.0) refl));
        all = (due_head d n x (f.kept (x.1, x.0) refl), f.all);
        from = inr (from_head x es d n f.from);
      }
  | inr le ↦
      let f = found (Some b) es a.1 r.1 d n (sym (ap (λ o. soonest o es) (stays b x le)) ∙ e) in
      record { kept = f.kept; all = (due_later d n b x le a.0 (f.kept b refl), f.all); from = from_tail b x es d n f.from }
]

some_stays : (b : ℕ × List ℕ) (es : List (List ℕ × ℕ)) → soonest (Some b) es ≡ None → ⊥
some_stays b [] e = none-some b (sym e)
some_stays b (x ∷ es) e = elim (cases_lt x.1 b.0) [
  | inl lt ↦ some_stays (x.1, x.0) es (sym (ap (λ o. soonest o es) (gives_way b x lt)) ∙ e)
  | inr le ↦ some_stays b es (sym (ap (λ o. soonest o es) (stays b x le)) ∙ e)
]

none_found : (es : List (List ℕ × ℕ)) → soonest None es ≡ None → es ≡ []
none_found [] e = refl
none_found (x ∷ es) e = absurd (some_stays (x.1, x.0) es e)

due_at : (d : ℕ) (n : List ℕ) (es : List (List ℕ × ℕ)) → AllDue d n es → (k : ℕ) (e : List ℕ × ℕ) → k < length es → get_or es k e ≡ e → IsDue d n e
due_at d n [] a k e h g = absurd (omega arith)
due_at d n (x ∷ es) a zero e h g = subst (IsDue d n) g a.0
due_at d n (x ∷ es) a (suc k) e h g = due_at d n es a.1 k e (omega arith) g

apart : (d : ℕ) (n : List ℕ) (e : List ℕ × ℕ) → e.0 ≢ n → IsDue d n e → IsDueBefore (d, n) (e.1, e.0)
apart d n e ne (inl same) = absurd (ne same)
apart d n e ne (inr due) = due

-- the timer that the scan finds is due first
pub due_first : (m : BTreeMap (List ℕ) ℕ) → tree.IsOrdered (slice_cmp nat_cmp) m → (d : ℕ) (n : List ℕ) → soonest None m.entries ≡ Some (d, n) → IsDueFirst (seen m) d n
due_first m o d n e =
    let f = found None m.entries tt (rising m.entries o) d n e in
    due_before_others (seen m) d n (get_seen m n ∙ (btree_map_get_iff nat_list_cmp_total exact_bytes m o n d).1 (held f.from))
    (λ later other is ne.
    let c = (btree_map_get_iff nat_list_cmp_total exact_bytes m o other later).0 (sym (get_seen m other) ∙ is) in
    apart d n (other, later) ne (due_at d n m.entries f.all c.0 (other, later) c.1 c.2))
  where
    held : (◌≡◌ {A = Option (ℕ × List ℕ)} None (Some (d, n))) ⊎ Contains m.entries (n, d) → Contains m.entries (n, d)
    held (inl q) = absurd (none-some (d, n) q)
    held (inr c) = c

-- if it finds none, no timer is set
pub none_set : (m : BTreeMap (List ℕ) ℕ) → soonest None m.entries ≡ None → seen m ≡ map.empty
none_set m e = seen_nothing m (none_found m.entries e)

-- the same of the timer as the code holds it
pub told : (m : BTreeMap (List ℕ) ℕ) → tree.IsOrdered (slice_cmp nat_cmp) m → (next : Option (ℕ × Bor (List ℕ))) → seen_due next ≡ soonest None m.entries → (timers : map.FinMap (slice_cmp nat_cmp) ℕ) → seen m ≡ timers → MatchOption next (timers ≡ map.empty) (λ due. IsDueFirst timers due.0 due.1.now)
told m o None e timers v = sym v ∙ none_set m (sym e)
told m o (Some due) e timers v = subst (λ t. IsDueFirst t due.0 due.1.now) v (due_first m o due.0 due.1.now (sym e))
