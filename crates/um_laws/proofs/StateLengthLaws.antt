-- A state is spelled in no more bytes than it weighs.
use Rattle.std.proofs.Common.{ℕ, ◌≡◌, ◌≢◌, ◌∙◌, ◌+◌, ◌*◌, ◌≤◌, Bool, true, false, cond, List, [], ◌∷◌, ◌++◌, length, map as each, flat_map, AllPairs, Option, Some, None, is_some, refl, sym, ap, subst, length-append, inl, inr, arith, T}
use Rattle.std.proofs.lemmas.Bool.{leb-true, true≢false}
use Rattle.std.proofs.lemmas.List.{length-map}
use Rattle.std.proofs.lemmas.List.Kept.{AllPairs-cons}
use Rattle.std.proofs.lemmas.List.Sums.{sum-map, sum_by-cons}
use Rattle.std.specs.Cmp.Lexicographic.{slice_cmp}
use Rattle.std.specs.FinMap as map
use Rattle.std.specs.FinMap.Entries.{find}
use Rattle.std.specs.List.{list_all, sum_by, AllByRecursion}
use Rattle.std.specs.Ordering.{nat_cmp, eq_by_cmp}
use Rattle.byteorder.specs.Endian.{big_bytes}
use Rattle.um_model.specs.Bytes.{Spelling, ByText, text_spelling, pair_spelling, option_spelling, list_spelling, tagged, truth_tag}
use Rattle.um_model.specs.Dependencies.{CountsFor, extra}
use Rattle.um_model.specs.Jobs.{JobShown, job_shown, jobs_shown_of, jobs_shown}
use Rattle.um_model.specs.Machine.{State, IsHeld, boot_limit}
use Rattle.um_model.specs.Names.{is_unit_name}
use Rattle.um_model.specs.Reached.{first}
use Rattle.um_model.specs.Spellings.{end_spelling, counted_spelling, unit_spelling, sub_tag, result_tag, kind_tag, job_state_tag}
use Rattle.um_model.specs.StateSpellings.{entry_spelling, tree_spelling, units_spelling, job_spelling, pending_spelling, state_spelling, FitState}
use Rattle.um_model.specs.Tree.{Tree, Entry, File, Link}
use Rattle.um_model.specs.Weight.{tree_weight, weight_of}
use Rattle.um_model.specs.declared.jobs.JobKind.{JobKind}
use Rattle.um_model.specs.declared.jobs.JobKind.TheVariants.{Stop, Start}
use Rattle.um_model.specs.declared.jobs.JobState.{JobState}
use Rattle.um_model.specs.declared.jobs.UnitJobs.{UnitJobs}
use Rattle.um_model.specs.declared.limit.Counted.{Counted}
use Rattle.um_model.specs.declared.service.UnitState.{UnitState}
use Rattle.um_laws.proofs.AmongLaws.{among_contained}
use Rattle.um_model.proofs.BytesLaws.{left_holds, right_holds}
use Rattle.um_model.proofs.EntriesLaws.{left_true, right_true, below_none}
use Rattle.um_laws.proofs.InputLengthLaws.{number_long, text_long, end_long}
use Rattle.um_model.proofs.LeastLaws.{Among}
use Rattle.um_laws.proofs.OnceLaws.{no_more, among_at}
use Rattle.um_model.proofs.UnitLaws.{alike}
use Rattle.um_model.proofs.WeightLaws.{short_name, weight_by_entry}
use Rattle.um_model.proofs.Forms.{FitJob}

-- ---- the entries of a map are no more than the names of which it holds something

module _ {X : Type 0} where
  abbrev keys : List (List ℕ × X) → List (List ℕ)
  keys es = each (λ e. e.0) es

  -- at a key something is found
  found_at : (k : List ℕ) (es : List (List ℕ × X)) → Among (keys es) k → is_some (find (slice_cmp nat_cmp) k es) ≡ true
  found_at k [] none = absurd none
  found_at k (e ∷ es) (inl is) = ap (λ b. is_some (cond b (Some e.1) (find (slice_cmp nat_cmp) k es))) (ap (λ q. eq_by_cmp (slice_cmp nat_cmp) q e.0) is ∙ alike e.0)
  found_at k (e ∷ es) (inr later) = by (eq_by_cmp (slice_cmp nat_cmp) k e.0) (found_at k es later)
    where
      by : (b : Bool) → is_some (find (slice_cmp nat_cmp) k es) ≡ true → is_some (cond b (Some e.1) (find (slice_cmp nat_cmp) k es)) ≡ true
      by true found = refl
      by false found = found

  -- no key stands twice
  keys_apart : (es : List (List ℕ × X)) → T (map.is_sorted (slice_cmp nat_cmp) es) → AllPairs (λ x y. x ≢ y) (keys es)
  keys_apart [] sorted = λ i j d less few. absurd (omega arith)
  keys_apart (e ∷ es) sorted =
      AllPairs-cons (λ x y. x ≢ y) e.0 (keys es)
      (λ k d few is. true≢false (sym (found_at e.0 es (subst (Among (keys es)) (sym is) (among_at (keys es) k d few))) ∙ ap is_some (below_none e.0 es (left_holds _ _ sorted))))
      (keys_apart es (right_holds _ _ sorted))

  pub entries_few : (m : ByText X) (names : List (List ℕ)) → ((k : List ℕ) → map.get m k ≢ None → Among names k) → length (map.entries m) ≤ length names
  entries_few m names named =
      let few = no_more (keys (map.entries m)) names (keys_apart (map.entries m) (map.entries_sorted m)) (λ k among. named k (there k among)) in
      omega (arith, few, length-map (map.entries m) (λ (e : List ℕ × X). e.0))
    where
      there : (k : List ℕ) → Among (keys (map.entries m)) k → map.get m k ≢ None
      there k among none = true≢false (sym (found_at k (map.entries m) among) ∙ ap is_some (sym (map.get-entries m k) ∙ none))

-- ---- a unit

option_long : {A : Type 0} (one : Spelling A) (n : ℕ) → ((a : A) → length (one a) ≤ n) → (o : Option A) → length (option_spelling one o) ≤ 1 + n
option_long one n each None = omega arith
option_long one n each (Some a) = omega (arith, each a)

number8_long : (o : Option ℕ) → length (option_spelling (big_bytes 8) o) ≤ 9
number8_long = option_long (big_bytes 8) 8 (λ n. omega (arith, number_long 8 n))

counted_long : (c : Counted) → length (counted_spelling c) ≤ 12
counted_long c = omega (arith, length-append (big_bytes 8 c.began) (big_bytes 4 c.count), number_long 8 c.began, number_long 4 c.count)

two_long : (a b : List ℕ) (m n : ℕ) → length a ≤ m → length b ≤ n → length (a ++ b) ≤ m + n
two_long a b m n h k = omega (arith, length-append a b)

unit_long : (u : UnitState) → length (unit_spelling u) ≤ 50
unit_long u =
    let number : Option ℕ → List ℕ = option_spelling (big_bytes 8) in
    let last = tagged truth_tag u.stop_asked ++ option_spelling end_spelling u.last in
    let window = option_spelling counted_spelling u.window ++ last in
    let deadline = number u.deadline ++ window in
    let index = big_bytes 4 u.index ++ deadline in
    let control = number u.control ++ index in
    let main = number u.main ++ control in
    let last_long = two_long (tagged truth_tag u.stop_asked) (option_spelling end_spelling u.last) 1 3 (omega arith) (option_long end_spelling 2 end_long u.last) in
    let window_long = two_long (option_spelling counted_spelling u.window) last 13 4 (option_long counted_spelling 12 counted_long u.window) last_long in
    let deadline_long = two_long (number u.deadline) window 9 17 (number8_long u.deadline) window_long in
    let index_long = two_long (big_bytes 4 u.index) deadline 4 26 (omega (arith, number_long 4 u.index)) deadline_long in
    let control_long = two_long (number u.control) index 9 30 (number8_long u.control) index_long in
    let main_long = two_long (number u.main) control 9 39 (number8_long u.main) control_long in
    two_long (tagged sub_tag u.sub) (tagged result_tag u.result ++ main) 1 49 (omega arith) (two_long (tagged result_tag u.result) main 1 48 (omega arith) main_long)

unit_entries_long : (es : List (List ℕ × UnitState)) → list_all (λ e. is_unit_name e.0) es ≡ true → length (flat_map (pair_spelling text_spelling unit_spelling) es) ≤ length es * 309
unit_entries_long [] named = omega arith
unit_entries_long (e ∷ es) named =
    let name = short_name e.0 (left_true _ _ named) in
    let rest = unit_entries_long es (right_true (is_unit_name e.0) _ named) in
    omega (
      arith,
      length-append (pair_spelling text_spelling unit_spelling e) (flat_map (pair_spelling text_spelling unit_spelling) es),
      length-append (text_spelling e.0) (unit_spelling e.1),
      text_long e.0,
      unit_long e.1,
    )

-- ---- pending jobs

jobs_long : (js : List JobShown) → AllByRecursion FitJob js → length (flat_map job_spelling js) ≤ length js * 261
jobs_long [] fit = omega arith
jobs_long (j ∷ js) fit =
    let name = short_name j.unit fit.0.1 in
    let rest = jobs_long js fit.1 in
    omega (
      arith,
      length-append (job_spelling j) (flat_map job_spelling js),
      length-append (text_spelling j.unit) (tagged kind_tag j.kind ++ tagged job_state_tag j.state),
      text_long j.unit,
    )

one_few : (unit : List ℕ) (kind : JobKind) (o : Option JobState) → length (job_shown unit kind o) ≤ 1
one_few unit kind None = omega arith
one_few unit kind (Some state) = omega arith

pub shown_few : (es : List (List ℕ × UnitJobs)) → length (flat_map (λ e. jobs_shown_of e.0 e.1) es) ≤ length es * 2
shown_few [] = omega arith
shown_few (e ∷ es) =
    let rest = shown_few es in
    omega (
      arith,
      length-append (jobs_shown_of e.0 e.1) (flat_map (λ e. jobs_shown_of e.0 e.1) es),
      length-append (job_shown e.0 Stop e.1.stop) (job_shown e.0 Start e.1.start),
      one_few e.0 Stop e.1.stop,
      one_few e.0 Start e.1.start,
    )

-- ---- a tree

entry_long : (path : List ℕ) (entry : Entry) → length (pair_spelling text_spelling entry_spelling (path, entry)) ≤ weight_by_entry (path, entry)
entry_long path (File text) = omega (arith, length-append (text_spelling path) (entry_spelling (File text)), text_long path, text_long text)
entry_long path (Link target) = omega (arith, length-append (text_spelling path) (entry_spelling (Link target)), text_long path, text_long target)

entries_long : (es : List (List ℕ × Entry)) → length (flat_map (pair_spelling text_spelling entry_spelling) es) ≤ sum_by weight_by_entry es
entries_long [] = omega arith
entries_long (e ∷ es) =
    let rest = entries_long es in
    omega (
      arith,
      sum_by-cons weight_by_entry e es,
      length-append (pair_spelling text_spelling entry_spelling e) (flat_map (pair_spelling text_spelling entry_spelling) es),
      entry_long e.0 e.1,
    )

list_long : {A : Type 0} (one : Spelling A) (xs : List A) → length (list_spelling one xs) ≡ 4 + length (flat_map one xs)
list_long one xs = length-append (big_bytes 4 (length xs)) (flat_map one xs) ∙ ap (λ n. n + length (flat_map one xs)) (number_long 4 (length xs))

tree_long : (tree : Tree) → length (tree_spelling tree) ≤ 4 + tree_weight tree
tree_long tree = omega (arith, list_long (pair_spelling text_spelling entry_spelling) (map.entries tree), entries_long (map.entries tree), sum-map weight_by_entry (map.entries tree))

-- ---- the state

units_long : (s : State) → FitState s → (names : List (List ℕ)) → ((unit : List ℕ) → IsHeld s unit → Among names unit) → length (units_spelling s.units) ≤ 4 + 309 * length names
units_long s fit names held =
    let few = entries_few s.units names (λ unit there. held unit (inl there)) in
    let long = unit_entries_long (map.entries s.units) fit.units.named.1 in
    omega (arith, list_long (pair_spelling text_spelling unit_spelling) (map.entries s.units), few, long)

pending_long : (s : State) → FitState s → (names : List (List ℕ)) → ((unit : List ℕ) → IsHeld s unit → Among names unit) → length (pending_spelling s.pending) ≤ 4 + 522 * length names
pending_long s fit names held =
    let few = entries_few s.pending names (λ unit there. held unit (inr there)) in
    let long = jobs_long (jobs_shown s.pending) fit.pending.jobs.1 in
    omega (arith, list_long job_spelling (jobs_shown s.pending), few, long, shown_few (map.entries s.pending))

whole_long : (s : State) (a b c f g : ℕ) → length (tree_spelling s.tree) ≤ a → length (tree_spelling s.loaded.entries) ≤ b → length (text_spelling s.boot) ≤ c
    → length (units_spelling s.units) ≤ f → length (pending_spelling s.pending) ≤ g → length (state_spelling s) ≤ 17 + a + b + c + f + g
whole_long s a b c f g tree loaded boot units pending =
    let behind_next = units_spelling s.units ++ pending_spelling s.pending in
    let behind_clock = big_bytes 8 s.next ++ behind_next in
    let behind_boot = big_bytes 8 s.clock ++ behind_clock in
    let behind_loaded = text_spelling s.boot ++ behind_boot in
    let behind_tree = tree_spelling s.loaded.entries ++ behind_loaded in
    omega (
      arith,
      length-append (tree_spelling s.tree) behind_tree,
      length-append (tree_spelling s.loaded.entries) behind_loaded,
      length-append (text_spelling s.boot) behind_boot,
      length-append (big_bytes 8 s.clock) behind_clock,
      length-append (big_bytes 8 s.next) behind_next,
      length-append (units_spelling s.units) (pending_spelling s.pending),
      number_long 8 s.clock,
      number_long 8 s.next,
    )

-- if its loaded tree counts for n units
pub spelled_short : (s : State) (n : ℕ) → FitState s → CountsFor s.loaded (IsHeld s) n → length (state_spelling s) ≤ weight_of s.tree s.loaded.entries n
spelled_short s n fit counts =
    let known = counts.by_tree in
    let held : (unit : List ℕ) → IsHeld s unit → Among known.names unit = λ unit is. among_contained known.names unit ((known.whole unit).1 (first (extra is))) in
    let few : length known.names ≤ n = omega (arith, known.long, counts.greater) in
    let boot : length (text_spelling s.boot) ≤ 68 = omega (arith, text_long s.boot, leb-true (length s.boot) boot_limit fit.boot.1) in
    let whole = whole_long s (4 + tree_weight s.tree) (4 + tree_weight s.loaded.entries) 68 (4 + 309 * length known.names) (4 + 522 * length known.names)
    (tree_long s.tree) (tree_long s.loaded.entries) boot (units_long s fit known.names held) (pending_long s fit known.names held) in
    omega (arith, whole, few)
