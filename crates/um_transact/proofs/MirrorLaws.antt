-- Each dependency stands in both rows, so the rows agree with the definitions of demands.
use Rattle.std.proofs.Common.{◌≡◌, ◌⊎◌, ◌||◌, ◌∙◌, ℕ, Bool, true, List, Contains, refl, sym, ap, subst, inl, inr}
use Rattle.um_model.specs.Reached.{Reached, first, next}
use Rattle.um_model.specs.Demands.{Brings, required, bound, conflicting, conflicted, stopped, restarted, LeansOn, requires, binds, is_part, starts, restarts, BringsAlong, needed, wanted, IsStartable, IsRequired, IsDemanded}
use Rattle.um_model.specs.Jobs.{is_active}
use Rattle.um_model.specs.declared.dependencies.Demand.{Demand}
use Rattle.um_model.specs.declared.dependencies.Demand.TheVariants.{Start, Stop, Restart}
use Rattle.um_model.specs.declared.dependencies.DependencyKind.{DependencyKind}
use Rattle.um_model.specs.declared.dependencies.DependencyKind.TheVariants.{Wants, Requires, BindsTo, PartOf, Conflicts}
use Rattle.um_model.specs.declared.service.ActiveState.{ActiveState}
use Rattle.um_model.specs.declared.service.ActiveState.TheVariants.{Inactive, Activating, Active, Deactivating, Failed}
use Rattle.um_laws.proofs.DemandsLaws.{reached_in}
use Rattle.um_graph.specs.Graph.{GraphView, IsGraph, Stands, row_of}
use Rattle.um_graph.specs.Kinds.{has, bit_of, inverse_bit_of}
use Rattle.um_graph.specs.declared.row.Neighbour.{Neighbour}
use Rattle.um_transact.specs.Situation.{IsDemandedBy, IsRequiredBy, IsStartableBy, LeadsAlongBy, LeadsBy, is_loadable_at}
use Rattle.um_transact.specs.Walk.{Demanded, activity_at, brings, brought, brought_by, conflicts, leans, needs}
use Rattle.std.proofs.lemmas.Bool.{and_from, and_parts, or_cases, or_left, or_right}
use Rattle.um_graph.proofs.ListLaws.{contains_flat, flat_contains}
use Rattle.um_transact.proofs.RowLaws.{by_one, to_one}

active_is : (a : ActiveState) → is_active a ≡ true → a ≡ Active
active_is Inactive h = cc
active_is Activating h = cc
active_is Active h = refl
active_is Deactivating h = cc
active_is Failed h = cc

-- two rules that agree reach the same
reached_same : (P Q : Demanded → Demanded → Type 0) → ((p q : Demanded) → P p q → Q p q) → (root q : Demanded) → Reached (λ p. p ≡ root) P q → Reached (λ p. p ≡ root) Q q
reached_same P Q f root q r = reached_in (Reached (λ p. p ≡ root) Q) (λ a e. first e) (λ a b i h. next i (f a b h)) q r

module _ (g : GraphView) (is : IsGraph g) (activity : List ActiveState) where
  abbrev pub Depends : DependencyKind → ℕ → ℕ → Type 0
  Depends kind i j = Stands g.rows (bit_of kind) i j

  abbrev pub IsActive : ℕ → Type 0
  IsActive u = activity_at activity u ≡ Active

  abbrev pub IsLoadable : ℕ → Type 0
  IsLoadable u = is_loadable_at g u ≡ true

  abbrev Leads : Demanded → Demanded → Type 0
  Leads = Brings Depends IsActive

  abbrev active : Neighbour → Bool
  active n = is_active (activity_at activity n.unit)

  stands : (bit x : ℕ) (n : Neighbour) → Contains (row_of g.rows x) n → has bit n.kinds ≡ true → Stands g.rows bit x n.unit
  stands bit x n c h = record { neighbour = n; listed = c; is = refl; kind = h }

  conflict_led : (x : ℕ) (n : Neighbour) → Contains (row_of g.rows x) n → conflicts n ≡ true → (Depends Conflicts x n.unit) ⊎ (Depends Conflicts n.unit x)
  conflict_led x n c b = elim (or_cases (has (bit_of Conflicts) n.kinds) (has (inverse_bit_of Conflicts) n.kinds) b) [
    | inl h ↦ inl (stands (bit_of Conflicts) x n c h)
    | inr h ↦ inr ((is.mirrored Conflicts x n.unit).0 (stands (inverse_bit_of Conflicts) x n c h))
  ]

  leans_led : (x : ℕ) (n : Neighbour) → Contains (row_of g.rows x) n → leans n ≡ true → LeansOn Depends n.unit x
  leans_led x n c b = elim (or_cases (has (inverse_bit_of Requires) n.kinds) (has (inverse_bit_of BindsTo) n.kinds || has (inverse_bit_of PartOf) n.kinds) b) as (λ _. LeansOn Depends n.unit x) [
    | inl h ↦ requires ((is.mirrored Requires x n.unit).0 (stands (inverse_bit_of Requires) x n c h))
    | inr r ↦ elim (or_cases (has (inverse_bit_of BindsTo) n.kinds) (has (inverse_bit_of PartOf) n.kinds) r) as (λ _. LeansOn Depends n.unit x) [
      | inl h ↦ binds ((is.mirrored BindsTo x n.unit).0 (stands (inverse_bit_of BindsTo) x n c h))
      | inr h ↦ is_part ((is.mirrored PartOf x n.unit).0 (stands (inverse_bit_of PartOf) x n c h))
    ]
  ]

  needs_led : (x : ℕ) (n : Neighbour) → Contains (row_of g.rows x) n → needs n ≡ true → (Depends Requires x n.unit) ⊎ (Depends BindsTo x n.unit)
  needs_led x n c b = elim (or_cases (has (bit_of Requires) n.kinds) (has (bit_of BindsTo) n.kinds) b) [ inl h ↦ inl (stands (bit_of Requires) x n c h) | inr h ↦ inr (stands (bit_of BindsTo) x n c h) ]

  led : (d e : Demand) (x : ℕ) (n : Neighbour) → Contains (row_of g.rows x) n → brings d e (active n) n ≡ true → Leads (d, x) (e, n.unit)
  led Start Start x n c b = elim (needs_led x n c b) as (λ _. Leads (Start, x) (Start, n.unit)) [ inl h ↦ required starts h | inr h ↦ bound starts h ]
  led Start Stop x n c b = elim (conflict_led x n c b) as (λ _. Leads (Start, x) (Stop, n.unit)) [ inl h ↦ conflicting starts h | inr h ↦ conflicted starts h ]
  led Start Restart x n c b = cc
  led Stop Start x n c b = cc
  led Stop Stop x n c b = stopped (leans_led x n c b)
  led Stop Restart x n c b = cc
  led Restart Start x n c b = elim (needs_led x n c b) as (λ _. Leads (Restart, x) (Start, n.unit)) [ inl h ↦ required restarts h | inr h ↦ bound restarts h ]
  led Restart Stop x n c b = elim (conflict_led x n c b) as (λ _. Leads (Restart, x) (Stop, n.unit)) [ inl h ↦ conflicting restarts h | inr h ↦ conflicted restarts h ]
  led Restart Restart x n c b = let p = and_parts (leans n) (active n) b in restarted (leans_led x n c p.0) (active_is (activity_at activity n.unit) p.1)

  found : (d e : Demand) (bit x y : ℕ) (h : Stands g.rows bit x y) → brings d e (active h.neighbour) h.neighbour ≡ true → LeadsBy g activity (d, x) (e, y)
  found d e bit x y h b = subst (λ u. Contains (brought activity d (row_of g.rows x)) (e, u)) h.is
      (contains_flat (λ n. brought_by d (active n) n) (row_of g.rows x) h.neighbour (e, h.neighbour.unit) h.listed (to_one d e (active h.neighbour) h.neighbour b))

  found_leaning : (d : Demand) (x y : ℕ) → LeansOn Depends y x → ((n : Neighbour) → n.unit ≡ y → leans n ≡ true → brings d d (active n) n ≡ true) → LeadsBy g activity (d, x) (d, y)
  found_leaning d x y (requires h) f =
      let s = (is.mirrored Requires x y).1 h in
      found d d (inverse_bit_of Requires) x y s (f s.neighbour s.is (or_left (has (inverse_bit_of Requires) s.neighbour.kinds) (has (inverse_bit_of BindsTo) s.neighbour.kinds || has (inverse_bit_of PartOf) s.neighbour.kinds) s.kind))
  found_leaning d x y (binds h) f =
      let s = (is.mirrored BindsTo x y).1 h in
      found d d (inverse_bit_of BindsTo) x y s (f s.neighbour s.is (or_right (has (inverse_bit_of Requires) s.neighbour.kinds) (has (inverse_bit_of BindsTo) s.neighbour.kinds || has (inverse_bit_of PartOf) s.neighbour.kinds)
      (or_left (has (inverse_bit_of BindsTo) s.neighbour.kinds) (has (inverse_bit_of PartOf) s.neighbour.kinds) s.kind)))
  found_leaning d x y (is_part h) f =
      let s = (is.mirrored PartOf x y).1 h in
      found d d (inverse_bit_of PartOf) x y s (f s.neighbour s.is (or_right (has (inverse_bit_of Requires) s.neighbour.kinds) (has (inverse_bit_of BindsTo) s.neighbour.kinds || has (inverse_bit_of PartOf) s.neighbour.kinds)
      (or_right (has (inverse_bit_of BindsTo) s.neighbour.kinds) (has (inverse_bit_of PartOf) s.neighbour.kinds) s.kind)))

  finds : (p q : Demanded) → Leads p q → LeadsBy g activity p q
  finds p q (required {x = x} {y = y} starts h) = found Start Start (bit_of Requires) x y h (or_left (has (bit_of Requires) h.neighbour.kinds) (has (bit_of BindsTo) h.neighbour.kinds) h.kind)
  finds p q (required {x = x} {y = y} restarts h) = found Restart Start (bit_of Requires) x y h (or_left (has (bit_of Requires) h.neighbour.kinds) (has (bit_of BindsTo) h.neighbour.kinds) h.kind)
  finds p q (bound {x = x} {y = y} starts h) = found Start Start (bit_of BindsTo) x y h (or_right (has (bit_of Requires) h.neighbour.kinds) (has (bit_of BindsTo) h.neighbour.kinds) h.kind)
  finds p q (bound {x = x} {y = y} restarts h) = found Restart Start (bit_of BindsTo) x y h (or_right (has (bit_of Requires) h.neighbour.kinds) (has (bit_of BindsTo) h.neighbour.kinds) h.kind)
  finds p q (conflicting {x = x} {y = y} starts h) = found Start Stop (bit_of Conflicts) x y h (or_left (has (bit_of Conflicts) h.neighbour.kinds) (has (inverse_bit_of Conflicts) h.neighbour.kinds) h.kind)
  finds p q (conflicting {x = x} {y = y} restarts h) = found Restart Stop (bit_of Conflicts) x y h (or_left (has (bit_of Conflicts) h.neighbour.kinds) (has (inverse_bit_of Conflicts) h.neighbour.kinds) h.kind)
  finds p q (conflicted {x = x} {y = y} starts h) =
      let t = (is.mirrored Conflicts x y).1 h in found Start Stop (inverse_bit_of Conflicts) x y t (or_right (has (bit_of Conflicts) t.neighbour.kinds) (has (inverse_bit_of Conflicts) t.neighbour.kinds) t.kind)
  finds p q (conflicted {x = x} {y = y} restarts h) =
      let t = (is.mirrored Conflicts x y).1 h in found Restart Stop (inverse_bit_of Conflicts) x y t (or_right (has (bit_of Conflicts) t.neighbour.kinds) (has (inverse_bit_of Conflicts) t.neighbour.kinds) t.kind)
  finds p q (stopped {x = x} {y = y} l) = found_leaning Stop x y l (λ n e b. b)
  finds p q (restarted {x = x} {y = y} l a) = found_leaning Restart x y l (λ n e b. and_from (leans n) (active n) b (ap is_active (ap (activity_at activity) e ∙ a)))

  brought_leads : (p q : Demanded) → LeadsBy g activity p q → Leads p q
  brought_leads p q c =
      let r = flat_contains (λ n. brought_by p.0 (active n) n) (row_of g.rows p.1) q c in
      let t = by_one p.0 (active r.0) r.0 q r.2 in
      subst (Leads p) t.2 (led p.0 t.0 p.1 r.0 r.1 t.1)

  -- ---- the required set, the units that can be started along, and the demanded set
  required_there : (root q : Demanded) → IsRequiredBy g activity root q → IsRequired Depends IsActive root q
  required_there root q r = reached_same (LeadsBy g activity) Leads brought_leads root q r

  required_here : (root q : Demanded) → IsRequired Depends IsActive root q → IsRequiredBy g activity root q
  required_here root q r = reached_same Leads (LeadsBy g activity) finds root q r

  startable_there : (w : ℕ) → IsStartableBy g activity w → IsStartable Depends IsActive IsLoadable w
  startable_there w s = record {
    loadable = λ y r. s.loadable y (required_here (Start, w) (Start, y) r);
    apart = λ y r t. s.apart y (required_here (Start, w) (Start, y) r) (required_here (Start, w) (Stop, y) t);
  }

  startable_here : (w : ℕ) → IsStartable Depends IsActive IsLoadable w → IsStartableBy g activity w
  startable_here w s = record {
    loadable = λ y r. s.loadable y (required_there (Start, w) (Start, y) r);
    apart = λ y r t. s.apart y (required_there (Start, w) (Start, y) r) (required_there (Start, w) (Stop, y) t);
  }

  along_there : (p q : Demanded) → LeadsAlongBy g activity p q → BringsAlong Depends IsActive IsLoadable p q
  along_there p q l = elim l as (λ _. BringsAlong Depends IsActive IsLoadable p q) [
    | inl b ↦ needed (brought_leads p q b)
    | inr w ↦ subst (BringsAlong Depends IsActive IsLoadable p) w.is
        (wanted w.starting (stands (bit_of Wants) p.1 w.neighbour w.listed w.wanted) (startable_there w.neighbour.unit w.startable))
  ]

  along_here : (p q : Demanded) → BringsAlong Depends IsActive IsLoadable p q → LeadsAlongBy g activity p q
  along_here p q (needed b) = inl (finds p q b)
  along_here p q (wanted s h good) =
      inr (record { starting = s; neighbour = h.neighbour; listed = h.listed; wanted = h.kind; startable = subst (IsStartableBy g activity) (sym h.is) (startable_here _ good); is = ap (λ u. (Start, u)) h.is })

  pub demanded_there : (root q : Demanded) → IsDemandedBy g activity root q → IsDemanded Depends IsActive IsLoadable root q
  demanded_there root q r = reached_same (LeadsAlongBy g activity) (BringsAlong Depends IsActive IsLoadable) along_there root q r

  pub demanded_here : (root q : Demanded) → IsDemanded Depends IsActive IsLoadable root q → IsDemandedBy g activity root q
  demanded_here root q r = reached_same (BringsAlong Depends IsActive IsLoadable) (LeadsAlongBy g activity) along_here root q r
