use Rattle.std.specs.Prelude.{List, ℕ, ◌++◌, ◌+◌}
use Rattle.std.proofs.Common.{◌∙◌, ap, arith}
use Rattle.um_model.specs.Disk.{Past, seen}
use Rattle.um_slot.proofs.Joining.{body_more, long_more}
use Rattle.um_slot.proofs.read.read_body.Goals as goal

pub loop-i-preserved : goal.loop-i-preserved
loop-i-preserved g c = record {
  read = λ h.
      let image = seen (g.D.Disk.past c.args.disk.now) in
      let is = c.in_ok-read.ensures.value (c.loop-i.invariant.honest ∙ h) ∙ ap (λ (p : Past). seen p (c.args.at + c.loop-i.i)) (c.loop-i.invariant.past h) in
      let grown = c.in_ok-extend_from_slice.ensures.items ∙ ap (λ (l : List ℕ). c.loop-i.body.items ++ l) c.front.ensures in
      body_more c.args.size c.loop-i.i image c.args.at c.loop-i.body.items c.extend_from_slice.new.self.items c.read.new.sector _ (omega (arith, c.loop-i-test.true, c.div_ceil-i-end.ensures)) c.read.array_long is (c.loop-i.invariant.read h) grown;
  long =
      let grown = c.in_ok-extend_from_slice.ensures.items ∙ ap (λ (l : List ℕ). c.loop-i.body.items ++ l) c.front.ensures in
      long_more c.args.size c.loop-i.i c.loop-i.body.items c.extend_from_slice.new.self.items c.read.new.sector (omega (arith, c.loop-i-test.true, c.div_ceil-i-end.ensures)) c.read.array_long c.loop-i.invariant.long grown;
  calls = omega (arith, c.read.ensures.calls, c.loop-i.invariant.calls);
  past = λ h. c.read.ensures.past (c.loop-i.invariant.honest ∙ h) ∙ c.loop-i.invariant.past h;
  failures = c.in_ok-read.ensures.failures ∙ c.loop-i.invariant.failures;
  size = c.read.ensures.size ∙ c.loop-i.invariant.size;
  honest = c.read.ensures.honest ∙ c.loop-i.invariant.honest;
}
