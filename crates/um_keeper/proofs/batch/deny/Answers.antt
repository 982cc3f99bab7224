use Rattle.std.proofs.Common.{◌≡◌, ◌∙◌, ◌<◌, ◌+◌, ◌-◌, ℕ, suc, List, [], ◌∷◌, ◌++◌, append_assoc, replicate, sym, ap, arith, Err}
use Rattle.um_wire.specs.declared.refusal.Refusal.TheVariants.{Device}
use Rattle.um_keeper.proofs.batch.deny.Goals as goal

filled : {A : Type 0} (told next whole : List A) (x : A) (i count : ℕ) → i < count → next ≡ told ++ x ∷ [] → told ++ replicate (count - i) x ≡ whole → next ++ replicate (count - (i + 1)) x ≡ whole
filled told next whole x i count low is so_far =
    let one : count - i ≡ suc (count - (i + 1)) = omega arith in
    ap (λ l. l ++ replicate (count - (i + 1)) x) is ∙ append_assoc told (x ∷ []) (replicate (count - (i + 1)) x) ∙ ap (λ n. told ++ replicate n x) (sym one) ∙ so_far

pub loop-preserved : goal.loop-preserved
loop-preserved c = record {
  items = filled c.loop.answers.items c.note.new.answers.items _ (Err Device) c.loop.counter c.args.count c.loop-test.true c.note.ensures.items c.loop.invariant.items;
  len = omega (arith, c.note.ensures.len, c.loop.invariant.len);
  capacity = omega (arith, c.note.ensures.capacity, c.loop.invariant.capacity);
}
