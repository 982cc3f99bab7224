-- The `Known` of a state stays known for it after rows are put under the numbers of the graph's units.
use Rattle.std.proofs.Common.{◌≡◌, ◌≢◌, ◌∙◌, ◌<◌, ◌≤◌, ℕ, List, [], ◌∷◌, Contains, length, refl, sym, ap, subst, inl, inr}
use Rattle.std.proofs.lemmas.Bool.{cases_lt}
use Rattle.std.proofs.lemmas.List.{get_or_default}
use Rattle.std.specs.FinMap as map
use Rattle.um_model.specs.Jobs.{no_jobs, with_jobs}
use Rattle.um_model.specs.Machine.{IsHeld}
use Rattle.um_model.specs.Service.{dead_unit, with_unit}
use Rattle.um_model.specs.Standing.{Standing}
use Rattle.um_model.proofs.TimersLaws.{same_name}
use Rattle.um_name.specs.Names.{name_at}
use Rattle.um_state.specs.Deltas.{delta_after, delta_before}
use Rattle.um_state.specs.Rows.{put_row, rows_after, rows_before, timed}
use Rattle.um_state.specs.declared.delta.Delta.{Delta}
use Rattle.um_state.specs.declared.row.Row.{Row}
use Rattle.um_state.proofs.PutLaws.{jobs_put_well, units_put}
use Rattle.um_state.proofs.TableLaws.{put_past, put_within}
use Rattle.um_graph.specs.Graph.{GraphView}
use Rattle.um_falling.specs.Work.{WorkView}
use Rattle.um_falling.proofs.AlongLaws.{pending_apart, units_apart}
use Rattle.um_engine.specs.Known.{KnownView, KnowsFor}
use Rattle.um_engine.specs.Served.{IsNumberedBy, ServedView, begun_at, standing_of, trees_weight}
use Rattle.um_engine.proofs.KnownLaws.{knows_still}

module _ (k : KnownView) where
  -- the names with a number are those of the graph, and it is known for the state
  abbrev pub Stands : Standing → Type 0
  Stands s = IsNumberedBy k.graph.names s × KnowsFor k s.state

  put_knows : (r : Row) (s : Standing) → Stands s → Stands (put_row r s)
  put_knows r s (numbered, knows) = (
    numbered,
    knows_still k s.state (put_row r s).state knows refl (λ x h. elim (cases_lt r.number (length s.names)) as (λ _. Contains k.graph.names x) [
      | inl within ↦ elim (same_name x (name_at s.names r.number)) as (λ _. Contains k.graph.names x) [
        | inl is ↦ subst (Contains k.graph.names) (sym is) (subst (λ ns. Contains ns (name_at s.names r.number)) numbered.1 (r.number, within, get_or_default s.names r.number (name_at s.names r.number) [] within))
        | inr apart ↦ knows.held x (before_within within x apart h)
      ]
      | inr past ↦ knows.held x (before_past past x h)
    ]),
  )
    where
      before_within : r.number < length s.names → (x : List ℕ) → x ≢ name_at s.names r.number → IsHeld (put_row r s).state x → IsHeld s.state x
      before_within within x apart (inl h) = inl (λ e. h (ap (λ m. map.get m x) (put_within dead_unit with_unit units_put s.names s.state.units r.number r.unit within)
          ∙ (units_apart s.state.units (name_at s.names r.number) r.unit x apart ∙ e)))
      before_within within x apart (inr h) = inr (λ e. h (ap (λ m. map.get m x) (put_within no_jobs with_jobs jobs_put_well s.names s.state.pending r.number r.jobs within)
          ∙ (pending_apart s.state.pending (name_at s.names r.number) r.jobs x apart ∙ e)))

      before_past : length s.names ≤ r.number → (x : List ℕ) → IsHeld (put_row r s).state x → IsHeld s.state x
      before_past past x (inl h) = inl (λ e. h (ap (λ m. map.get m x) (put_past dead_unit with_unit units_put s.names s.state.units r.number r.unit past) ∙ e))
      before_past past x (inr h) = inr (λ e. h (ap (λ m. map.get m x) (put_past no_jobs with_jobs jobs_put_well s.names s.state.pending r.number r.jobs past) ∙ e))

  timed_knows : (clock next : ℕ) (s : Standing) → Stands s → Stands (timed clock next s)
  timed_knows clock next s (numbered, knows) = (numbered, knows_still k s.state (timed clock next s).state knows refl knows.held)

  pub after_knows : (rows : List Row) (s : Standing) → Stands s → Stands (rows_after rows s)
  after_knows [] s h = h
  after_knows (r ∷ rows) s h = after_knows rows (put_row r s) (put_knows r s h)

  pub before_knows : (rows : List Row) (s : Standing) → Stands s → Stands (rows_before rows s)
  before_knows [] s h = h
  before_knows (r ∷ rows) s h = put_knows r (rows_before rows s) (before_knows rows s h)

  -- so any delta may be taken, and any way back
  pub delta_knows : (d : Delta) (s : Standing) → Stands s → Stands (delta_after d s)
  delta_knows d s h = after_knows d.rows.items (timed d.clock d.next s) (timed_knows d.clock d.next s h)

  pub back_knows : (d : Delta) (s : Standing) → Stands s → Stands (delta_before d s)
  back_knows d s h = timed_knows d.clock d.next (rows_before d.rows.items s) (before_knows d.rows.items s h)

  -- the weight of the trees doesn't change
  after_weighs : (rows : List Row) (s : Standing) → trees_weight (rows_after rows s).state ≡ trees_weight s.state
  after_weighs [] s = refl
  after_weighs (r ∷ rows) s = after_weighs rows (put_row r s)

  before_weighs : (rows : List Row) (s : Standing) → trees_weight (rows_before rows s).state ≡ trees_weight s.state
  before_weighs [] s = refl
  before_weighs (r ∷ rows) s = before_weighs rows s

  pub delta_weighs : (d : Delta) (s t : Standing) (n : ℕ) → t ≡ delta_after d s → n ≡ trees_weight s.state → n ≡ trees_weight t.state
  delta_weighs d s t n is so = so ∙ (sym (after_weighs d.rows.items (timed d.clock d.next s)) ∙ ap (λ (x : Standing). trees_weight x.state) (sym is))

  pub undo_weighs : (d : Delta) (s t : Standing) (n : ℕ) → t ≡ delta_before d s → n ≡ trees_weight s.state → n ≡ trees_weight t.state
  undo_weighs d s t n is so = so ∙ (sym (before_weighs d.rows.items s) ∙ ap (λ (x : Standing). trees_weight x.state) (sym is))

  -- the standing of a served value is that of its state
  pub standing_so : (s : Standing) → IsNumberedBy k.graph.names s → standing_of (record { state = s.state; known = k }) ≡ s
  standing_so s numbered = λ i. record { state = s.state; common = sym numbered.0 i; names = sym numbered.1 i }

-- a work that begins in the served value begins in its state
pub served_begun : (v : ServedView) (k : KnownView) (s : Standing) → record { state = s.state; known = k } ≡ v → IsNumberedBy k.graph.names s → (g : GraphView) → g ≡ k.graph → (w : WorkView) (t : ℕ)
    → w ≡ begun_at s g t → w ≡ begun_at (standing_of v) v.known.graph t
served_begun v k s seen numbered g shown w t is =
    subst (λ (x : ServedView). w ≡ begun_at (standing_of x) x.known.graph t) seen (is ∙ (ap (λ h. begun_at s h t) shown ∙ ap (λ (y : Standing). begun_at y k.graph t) (sym (standing_so k s numbered))))

-- the value that is served after its state was given a delta, or was taken back
module _ (k : KnownView) (s : Standing) (numbered : IsNumberedBy k.graph.names s) (knows : KnowsFor k s.state) (d : Delta) where
  pub delta_stands : (t : Standing) → t ≡ delta_after d s → Stands k t
  delta_stands t is = subst (Stands k) (sym is) (delta_knows k d s (numbered, knows))

  pub delta_served : (v : ServedView) (t : Standing) → record { state = s.state; known = k } ≡ v → t ≡ delta_after d s → standing_of (record { state = t.state; known = k }) ≡ delta_after d (standing_of v)
  delta_served v t seen is =
      standing_so k t (delta_stands t is).0 ∙ (is ∙ subst (λ (x : ServedView). delta_after d s ≡ delta_after d (standing_of x)) seen (ap (delta_after d) (sym (standing_so k s numbered))))

  pub undo_stands : (t : Standing) → t ≡ delta_before d s → Stands k t
  undo_stands t is = subst (Stands k) (sym is) (back_knows k d s (numbered, knows))

  pub undo_served : (v : ServedView) (t : Standing) → record { state = s.state; known = k } ≡ v → t ≡ delta_before d s → standing_of (record { state = t.state; known = k }) ≡ delta_before d (standing_of v)
  undo_served v t seen is =
      standing_so k t (undo_stands t is).0 ∙ (is ∙ subst (λ (x : ServedView). delta_before d s ≡ delta_before d (standing_of x)) seen (ap (delta_before d) (sym (standing_so k s numbered))))

-- and leads back by the delta that was exchanged for it
pub back_served : (k : KnownView) (s t : Standing) (v : ServedView) (d : Delta) → IsNumberedBy k.graph.names s → IsNumberedBy k.graph.names t → record { state = s.state; known = k } ≡ v → delta_before d t ≡ s
    → delta_before d (standing_of (record { state = t.state; known = k })) ≡ standing_of v
back_served k s t v d numbered there seen is =
    ap (delta_before d) (standing_so k t there) ∙ (is ∙ subst (λ (x : ServedView). s ≡ standing_of x) seen (sym (standing_so k s numbered)))
