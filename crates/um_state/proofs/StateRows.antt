-- A row exchanged in both tables of a state is put into the state; the old row put back restores the state.
use Rattle.std.proofs.Common.{◌≡◌, ◌∙◌, ◌≤◌, ℕ, Bool, true, List, [], length, sym, ap, subst, arith}
use Rattle.std.specs.FinMap as map
use Rattle.um_model.specs.Jobs.{no_jobs, with_jobs}
use Rattle.um_model.specs.Machine.{State}
use Rattle.um_model.specs.Profiles.{ReadTree}
use Rattle.um_model.specs.Service.{dead_unit, with_unit}
use Rattle.um_model.specs.Standing.{Standing, Table}
use Rattle.um_model.specs.Tree.{Tree}
use Rattle.um_model.specs.declared.jobs.UnitJobs.{UnitJobs}
use Rattle.um_model.specs.declared.service.UnitState.{UnitState}
use Rattle.um_state.specs.Rows.{common_names, put_row}
use Rattle.um_name.specs.Names.{AreAscending}
use Rattle.um_state.specs.Tables.{unit_put, jobs_put, units_by, jobs_by}
use Rattle.um_state.specs.Working.{AreRowsOf}
use Rattle.um_state.specs.declared.row.Numbered.{Numbered}
use Rattle.um_state.specs.declared.row.Row.{Row}
use Rattle.um_state.proofs.PutLaws.{units_put, jobs_put_well}
use Rattle.um_state.proofs.TableLaws.{put_past}

-- a state with these fields, and no unit
abbrev pub state_with : Tree → ReadTree → List ℕ → ℕ → ℕ → State
state_with tree loaded boot clock next = record { tree = tree; loaded = loaded; boot = boot; clock = clock; next = next; units = map.empty; pending = map.empty }

-- a state with these tables
abbrev pub standing_of : State → Bool → Table UnitState → Table UnitJobs → Standing
standing_of s is_common units pending = record { state = record s { units = units.held; pending = pending.held }; common = is_common; names = common_names is_common units.names }

module _ (s : State) (is_common : Bool) (common : is_common ≡ true) (u v : Table UnitState) (p q : Table UnitJobs) (same : p.names ≡ u.names) (kept : v.names ≡ u.names) where
  all_names : (ns : List (List ℕ)) → common_names is_common ns ≡ ns
  all_names ns = ap (λ b. common_names b ns) common

  pub row_put : (r : Row) → v.held ≡ unit_put u.names u.held r.number r.unit → q.held ≡ jobs_put p.names p.held r.number r.jobs
      → standing_of s is_common v q ≡ put_row r (standing_of s is_common u p)
  row_put r e f =
      let units = e ∙ ap (λ ns. unit_put ns u.held r.number r.unit) (sym (all_names u.names)) in
      let pending = f ∙ ap (λ ns. jobs_put ns p.held r.number r.jobs) (same ∙ sym (all_names u.names)) in
      λ k. record { state = record s { units = units k; pending = pending k }; common = is_common; names = common_names is_common (kept k) }

  pub row_back : q.names ≡ p.names → (r : Row) → unit_put v.names v.held r.number r.unit ≡ u.held → jobs_put q.names q.held r.number r.jobs ≡ p.held
      → put_row r (standing_of s is_common v q) ≡ standing_of s is_common u p
  row_back stays r e f =
      let units = ap (λ ns. unit_put ns v.held r.number r.unit) (all_names v.names) ∙ e in
      let pending = ap (λ ns. jobs_put ns q.held r.number r.jobs) (all_names v.names ∙ (kept ∙ (sym same ∙ sym stays))) ∙ f in
      λ k. record { state = record s { units = units k; pending = pending k }; common = is_common; names = common_names is_common (kept k) }

-- the rows of both tables are those of the state
pub rows_are : (s : State) (is_common : Bool) → is_common ≡ true → (u : Table UnitState) (p : Table UnitJobs) → p.names ≡ u.names → (n : Numbered) → n.names.now ≡ u.names
    → units_by u.names n.units.now ≡ u.held → length n.units.now ≡ length u.names → AreAscending u.names → jobs_by p.names n.jobs.now ≡ p.held → length n.jobs.now ≡ length p.names
    → (t : Standing) → standing_of s is_common u p ≡ t → AreRowsOf t n
rows_are s is_common common u p same n named units units_len sorted jobs jobs_len t seen =
    let all : common_names is_common u.names ≡ u.names = ap (λ b. common_names b u.names) common in
    subst (λ z. AreRowsOf z n) seen (record {
      common = common;
      names = named ∙ sym all;
      units = ap (λ ns. units_by ns n.units.now) all ∙ units;
      pending = ap (λ ns. jobs_by ns n.jobs.now) (all ∙ sym same) ∙ jobs;
      units_len = units_len ∙ ap length (sym all);
      jobs_len = jobs_len ∙ ap length (same ∙ sym all);
      ascending = subst AreAscending (sym all) sorted;
    })

-- if no name has a number, nothing is put
pub row_nowhere : (r : Row) (s : Standing) → s.names ≡ [] → put_row r s ≡ s
row_nowhere r s none =
    let past : length s.names ≤ r.number = let empty : length s.names ≡ 0 = ap length none in omega (arith, empty) in
    λ k. record s {
      state = record s.state {
        units = put_past dead_unit with_unit units_put s.names s.state.units r.number r.unit past k;
        pending = put_past no_jobs with_jobs jobs_put_well s.names s.state.pending r.number r.jobs past k;
      };
    }
