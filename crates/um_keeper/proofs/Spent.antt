-- Of the log of the last generation: from where on it is free, and which inputs have no room there.
use Rattle.std.proofs.Common.{◌≡◌, ◌∙◌, ℕ, ◌+◌, ◌-◌, ◌^◌, ◌≤◌, arith, length, sym, ap, subst}
use Rattle.std.specs.Prelude.{Err}
use Rattle.um_log.specs.Reading.{Fits}
use Rattle.um_model.specs.InputSpellings.{input_spelling}
use Rattle.um_model.specs.Machine.{Input}
use Rattle.um_model.specs.Store.{part_count, log_start, log_end}
use Rattle.um_model.specs.declared.layout.Layout.{Layout}
use Rattle.um_keeper.specs.Answering.{Answer, IsSpentAt}
use Rattle.um_keeper.specs.Keepers.{layout_in, log_generation_in, next_in, IsFreeFrom}
use Rattle.um_keeper.specs.Underway.{LacksRoom, IsFreeAt}
use Rattle.um_log.specs.declared.write.Log.{Log}
use Rattle.um_keeper.specs.declared.keeper.Keeper.{Keeper}
use Rattle.um_wire.specs.declared.refusal.Refusal.TheVariants.{GenerationsSpent}

-- ---- where the log is free

-- where the log is as before
pub free_still : {D : Type 0} {g : _} {k l : Keeper D g} {from : ℕ} → layout_in l ≡ layout_in k → log_generation_in l ≡ log_generation_in k → next_in l ≡ next_in k → IsFreeFrom k from → IsFreeFrom l from
free_still {from = from} layout generation next free = record {
  start = subst (λ n. n ≤ from) (ap (λ (z : Layout). log_start z (2 ^ 64 - 1)) (sym layout)) free.start;
  behind = λ last. omega (arith, next, free.behind (sym generation ∙ last));
}

-- the same of a log
pub free_at : {D : Type 0} {g : _} {k : Keeper D g} {from : ℕ} → IsFreeFrom k from → IsFreeAt k.ahead.log from
free_at free = record { start = free.start; behind = free.behind }

-- after the written sectors
pub free_behind : {log l : Log} {from : ℕ} (n : ℕ) → l.layout ≡ log.layout → l.generation ≡ log.generation → l.next ≡ log.next + n → IsFreeAt log from → IsFreeAt l (from + n)
free_behind {from = from} n layout generation next free = record {
  start = subst (λ m. m ≤ from + n) (ap (λ (z : Layout). log_start z (2 ^ 64 - 1)) (sym layout)) (omega (arith, free.start));
  behind = λ last. omega (arith, next, free.behind (sym generation ∙ last));
}

pub free_at_more : {log : Log} {from : ℕ} (n : ℕ) → IsFreeAt log from → IsFreeAt log (from + n)
free_at_more n free = record { start = omega (arith, free.start); behind = λ last. omega (arith, free.behind last) }

-- ---- inputs that are turned away in the last generation

-- a record that has no room has none further on
no_room : {layout l : Layout} {generation next from size : ℕ} → l ≡ layout → generation ≡ 2 ^ 64 - 1 → next ≤ from → ¬ Fits l generation next size
    → ¬ Fits layout (2 ^ 64 - 1) from size
no_room {layout} {l} {generation} {next} {from} {size} same last low none fits = none (record {
  some = fits.some;
  short = fits.short;
  within = subst (λ m. next + part_count size ≤ m) (sym ((λ k. log_end (same k) (last k)))) (omega (arith, low, fits.within));
})

-- an input that was turned away so had no room there
pub spent_at : {log : Log} {layout : Layout} {from generation : ℕ} (input : Input) (answer : Answer) → IsFreeAt log from → log.layout ≡ layout → log.generation ≤ generation
    → (answer ≡ Err GenerationsSpent → LacksRoom log (length (input_spelling input))) → IsSpentAt layout generation from input answer
spent_at input answer free same high told is =
    let none = told is in
    (omega (arith, none.last, high), no_room same none.last (free.behind none.last) none.no_room)
