use Rattle.std.proofs.Common.{◌≡◌, ◌<◌, ◌≤◌, ◌∙◌, ◌+◌, ◌==◌, ℕ, Bool, false, cond, List, length, get_or, sym, ap, inl, inr, arith}
use Rattle.std.proofs.lemmas.Bool.{cases_lt}
use Rattle.std.proofs.lemmas.List.{get_or_past}
use Rattle.um_model.specs.Jobs.{no_jobs}
use Rattle.um_model.specs.declared.jobs.UnitJobs.{UnitJobs}
use Rattle.um_jobs.specs.Counts.{is_free, start_at, stop_at}
use Rattle.um_jobs.specs.Jobs.{held_at}
use Rattle.um_jobs.specs.declared.counts.Blockers.{Blockers}
use Rattle.um_jobs.proofs.KeptLaws.{free_by}
use Rattle.um_jobs.proofs.SumLaws.{number_tells}
use Rattle.um_jobs.proofs.marks.mark_all.Goals as goal

-- the first n are marked, and one more
one_more : (free : ℕ → Bool) (before after : List Bool) (n : ℕ) → ((u : ℕ) → u < n → get_or before u false ≡ free u)
    → ((u : ℕ) → get_or after u false ≡ cond (u == n) (free u) (get_or before u false)) → (u : ℕ) → u < n + 1 → get_or after u false ≡ free u
one_more free before after n told marked u l = elim (number_tells u n) as (λ _. get_or after u false ≡ free u) [
  | inl h ↦ marked u ∙ ap (λ b. cond b (free u) (get_or before u false)) h.0
  | inr h ↦ marked u ∙ (ap (λ b. cond b (free u) (get_or before u false)) h.0 ∙ told u (omega (arith, l, h.1)))
]

-- none is marked past the last one
none_past : (units : List UnitJobs) (held : List Bool) (counts : List Blockers) (u : ℕ) → length units ≤ u → is_free units held counts u ≡ false
none_past units held counts u l = ap (λ j. free_by j (held_at held u) (stop_at counts u) (start_at counts u)) (get_or_past units u no_jobs l)

pub loop-unit-preserved : goal.loop-unit-preserved
loop-unit-preserved c = record {
  len = c.mark.ensures.len ∙ c.loop-unit.invariant.len;
  each = one_more (λ u. is_free c.args.units.now c.args.held.now c.args.counts.now u) c.loop-unit.ready c.mark.new.ready c.loop-unit.unit c.loop-unit.invariant.each c.mark.ensures.each;
}

pub returns-clause-each : goal.returns-clause-each
returns-clause-each c u =
    let units = c.args.units.now in
    let held = c.args.held.now in
    let counts = c.args.counts.now in
    let ready = c.loop-unit.ready in
    elim (cases_lt u (length units)) as (λ _. get_or ready u false ≡ is_free units held counts u) [
      | inl h ↦ c.loop-unit.invariant.each u (omega (arith, h, c.loop-unit-test.false))
      | inr h ↦ get_or_past ready u false (omega (arith, h, c.loop-unit.invariant.len, c.requires.ready)) ∙ sym (none_past units held counts u (omega (arith, h)))
    ]
