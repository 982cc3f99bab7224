-- One turn of a walk: the demands found can be marked, and the walk goes on.
use Rattle.std.proofs.Common.{◌≡◌, ◌<◌, ◌∙◌, ℕ, suc, List, [], ◌∷◌, ◌++◌, length, get_or, drop, drop-cons, set, All, Contains, sym, ap, subst, refl, Bool, true, false, cond}
use Rattle.std.proofs.lemmas.List.{length-set}
use Rattle.std.proofs.lemmas.List.Elements.{Contains-get_or}
use Rattle.um_model.specs.declared.service.ActiveState.{ActiveState}
use Rattle.um_graph.specs.Graph.{GraphView, IsGraph, row_of}
use Rattle.um_transact.specs.Situation.{LeadsBy}
use Rattle.um_transact.specs.Walk.{Demanded, Met, all_met, brought, is_marked, marks_at, met, with_mark}
use Rattle.um_transact.specs.declared.walk.Marks.{Marks}
use Rattle.um_transact.proofs.WalkLaws.{IsUnderWay, left, way_goes_on}
use Rattle.um_transact.proofs.RowLaws.{leads_within}

-- marking a demand keeps the count of marks
pub met_long : (p : Demanded) (s : Met) → length (met p s).0 ≡ length s.0
met_long p s = by (is_marked s.0 p)
  where
    by : (b : Bool) → length (let t : Met = cond b s (set s.0 p.1 (with_mark p.0 (marks_at s.0 p.1)), s.1 ++ p ∷ []) in t.0) ≡ length s.0
    by true = refl
    by false = length-set s.0 p.1 (with_mark p.0 (marks_at s.0 p.1))

-- one more of a list is marked
pub met_more : (found : List Demanded) (i j : ℕ) (d : Demanded) (s t u : Met) → j ≡ suc i → i < length found → t ≡ met (get_or found i d) s → all_met (drop i found) s ≡ u → all_met (drop j found) t ≡ u
met_more found i j d s t u n h e is =
    ap (λ k. all_met (drop k found) t) n ∙ (ap (all_met (drop (suc i) found)) e ∙ (sym (ap (λ ps. all_met ps s) (drop-cons found i d h)) ∙ is))

-- each demand found can be marked
pub found_fits : (n len : ℕ) (found : List Demanded) → len ≡ n → ((q : Demanded) → Contains found q → q.1 < n) → All (λ (p : Demanded). p.1 < len) found
found_fits n len found long within k d h = let q = get_or found k d in subst (λ j. q.1 < j) (sym long) (within q (Contains-get_or found k d h))

module _ (g : GraphView) (is : IsGraph g) (activity : List ActiveState) where
  pub required_within : (p : Demanded) (ds found : List Demanded) → ds ≡ found → found ≡ brought activity p.0 (row_of g.rows p.1) → (q : Demanded) → Contains ds q → q.1 < length g.names
  required_within p ds found d f q c = leads_within g is activity p q (subst (λ x. Contains x q) (d ∙ f) c)

  pub required_turn : (root : Demanded) (m : List Marks) (l l' : List Demanded) (p : Demanded) (ds found : List Demanded) (m' : List Marks) (l'' : List Demanded) → IsUnderWay (LeadsBy g activity) root (length g.names) m l → l ≡ l' ++ p ∷ []
      → ds ≡ found → found ≡ brought activity p.0 (row_of g.rows p.1) → (m', l'') ≡ all_met ds (m, l') → IsUnderWay (LeadsBy g activity) root (length g.names) m' l'' × (left (m', l'') < left (m, l))
  required_turn root m l l' p ds found m' l'' u e d f t =
      way_goes_on (LeadsBy g activity) root (length g.names) m l l' p ds m' l'' u e (λ q. (λ c. subst (λ x. Contains x q) (d ∙ f) c, λ c. subst (λ x. Contains x q) (sym (d ∙ f)) c)) (required_within p ds found d f) t
