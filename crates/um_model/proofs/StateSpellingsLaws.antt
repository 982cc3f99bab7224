-- The laws of the bytes of trees, units, pending jobs and the state.
use Rattle.std.proofs.Common.{◌≡◌, ℕ, Bool, true, false, not, List, ◌++◌, Option, Some, None, refl, sym, ap, ◌∙◌}
use Rattle.std.specs.FinMap as map
use Rattle.std.proofs.lemmas.Bool.{leb-true, le-leb}
use Rattle.um_model.specs.Bytes.{IsCanonical, text_spelling, arm_in}
use Rattle.um_model.specs.Names.{is_unit_name}
use Rattle.um_model.specs.Tree.{Tree, Entry, File, Link, IsTree, is_fit_entry, entry_limit}
use Rattle.um_model.specs.Service.{ByUnit, AreTidyUnits, holds_nothing, dead_unit}
use Rattle.um_model.specs.StateSpellings.{entry_tag, entry_arms, entry_spelling, entry_at, FitEntry, any_text, tree_spelling, is_tree, tree_at, FitTree, units_spelling, are_known, units_at, FitUnits}
use Rattle.um_model.specs.StateSpellings.{is_boot, boot_at, FitBoot, state_spelling, StateFields, state_of, is_sound, state_at, FitState}
use Rattle.um_model.specs.Machine.{State}
use Rattle.um_model.proofs.BytesLaws.{AllTell, tells, canonical_arms, canonical_text, canonical_map, canonical_only, canonical_fits, canonical_as, canonical_pair}
use Rattle.um_model.proofs.SpellingsLaws.{canonical_profile, canonical_moment, canonical_next, canonical_unit}
use Rattle.um_model.proofs.PendingSpellingsLaws.{canonical_pending}
use Rattle.um_model.proofs.EntriesLaws.{left_true, right_true, both_true, at_each, from_each}
use Rattle.um_model.proofs.UnitLaws.{nothing_held, not_dead}
use Rattle.um_model.specs.declared.service.UnitState.{UnitState}
use Rattle.um_model.proofs.Forms.{is_fit_at, entry_fields}

-- ---- a tree

pub canonical_entry : IsCanonical FitEntry entry_spelling entry_at
canonical_entry = canonical_arms entry_arms all again where
  all : AllTell entry_tag entry_fields FitEntry 0 entry_arms
  all = (tells 0 File canonical_text (λ text fit. (refl, refl, fit)), (tells 1 Link canonical_text (λ text fit. (refl, refl, fit)), tt))

  again : (e : Entry) (rest : List ℕ) → FitEntry e → arm_in entry_arms (entry_tag e) (entry_fields e ++ rest) ≡ Some (e, rest)
  again (File text) rest h = rw (canonical_text.again text rest h) refl
  again (Link target) rest h = rw (canonical_text.again target rest h) refl

-- a tree passes the test of a tree
tree_passes : (tree : Tree) → IsTree tree → is_tree tree ≡ true
tree_passes tree is =
    both_true _ _ (from_each (λ e. is_fit_entry e.0 e.1) tree (λ path entry here. ap (is_fit_at path) (sym here) ∙ is.fit path)) (le-leb (map.len tree) entry_limit is.few)

pub passes_tree : (tree : Tree) → is_tree tree ≡ true → IsTree tree
passes_tree tree e = record { fit = λ path. at_path path (map.get tree path) refl; few = leb-true (map.len tree) entry_limit (right_true _ _ e) } where
  at_path : (path : List ℕ) (o : Option Entry) → map.get tree path ≡ o → is_fit_at path (map.get tree path) ≡ true
  at_path path None here = ap (is_fit_at path) here
  at_path path (Some entry) here = ap (is_fit_at path) here ∙ at_each (λ e. is_fit_entry e.0 e.1) tree (left_true _ _ e) path entry here

pub canonical_tree : IsCanonical FitTree tree_spelling tree_at
canonical_tree =
    canonical_fits (λ tree h. record { texts = h.0; is = passes_tree tree h.1 }) (λ tree h. (h.texts, tree_passes tree h.is)) (canonical_only is_tree (canonical_map any_text canonical_entry))

-- ---- the units

known : (b : Bool) → not b ≡ true → b ≡ false
known true h = sym h
known false h = refl

pub known_is_tidy : (units : ByUnit UnitState) → are_known units ≡ true → AreTidyUnits units
known_is_tidy units e unit here = not_dead dead_unit (known _ (at_each (λ e. not (holds_nothing e.1)) units e unit dead_unit here)) refl

tidy_is_known : (units : ByUnit UnitState) → AreTidyUnits units → are_known units ≡ true
tidy_is_known units tidy = from_each (λ e. not (holds_nothing e.1)) units (λ unit u here. by unit u here (holds_nothing u) refl) where
  by : (unit : List ℕ) (u : UnitState) → map.get units unit ≡ Some u → (b : Bool) → holds_nothing u ≡ b → not (holds_nothing u) ≡ true
  by unit u here true e = absurd (tidy unit (here ∙ ap Some (nothing_held u e)))
  by unit u here false e = ap not e

pub canonical_units : IsCanonical FitUnits units_spelling units_at
canonical_units =
    canonical_fits (λ units h. record { named = h.0; tidy = known_is_tidy units h.1 }) (λ units h. (h.named, tidy_is_known units h.tidy)) (canonical_only are_known (canonical_map is_unit_name canonical_unit))

-- ---- the state

pub canonical_boot : IsCanonical FitBoot text_spelling boot_at
canonical_boot = canonical_only is_boot canonical_text

abbrev fields : State → StateFields
fields s = (s.loaded.profile, (s.tree, (s.loaded.entries, (s.boot, (s.clock, (s.next, (s.units, s.pending)))))))

pub canonical_state : IsCanonical FitState state_spelling state_at
canonical_state =
    canonical_fits
    (λ s h.
    let f = h.0.1 in
    record { tree = f.0; loaded = f.1.0; boot = f.1.1.0; clock = f.1.1.1.0; next = f.1.1.1.1.0; units = f.1.1.1.1.1.0; pending = f.1.1.1.1.1.1; sound = h.1 })
    (λ s h. ((tt, (h.tree, (h.loaded, (h.boot, (h.clock, (h.next, (h.units, h.pending))))))), h.sound))
    (canonical_only is_sound (canonical_as state_of fields (λ f. refl) (λ s. refl)
    (canonical_pair canonical_profile (canonical_pair canonical_tree (canonical_pair canonical_tree (canonical_pair canonical_boot (canonical_pair canonical_moment
    (canonical_pair canonical_next (canonical_pair canonical_units canonical_pending)))))))))
