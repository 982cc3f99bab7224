use Rattle.std.proofs.Common.{◌≡◌, ◌∙◌, vec_len, length, ap, sym, subst}
use Rattle.um_model.specs.Standing.{Standing}
use Rattle.um_state.specs.Deltas.{delta_after}
use Rattle.um_state.specs.View.{state_of}
use Rattle.um_state.specs.Working.{AreRowsOf, CountsDiffering}
use Rattle.um_engine.proofs.BetweenLaws.{leads_to}
use Rattle.um_engine.proofs.between.delta_to.Goals as goal

pub put_rows-requires : goal.put_rows-requires
put_rows-requires c =
    let base : c.in-Some.work.base ≡ c.args.base.now = rw c.in-Some.is at c.in_ok-work.ensures.base in
    let now : c.in-Some.work.now ≡ c.args.base.now = rw c.in-Some.is at c.in_ok-work.ensures.now in
    let names : length c.args.after.now.names ≡ length c.in-Some.work.base.names = ap length c.requires.same.names ∙ ap (λ (s : Standing). length s.names) (sym base) in
    record {
      begins = now ∙ sym base;
      was = subst (λ (s : Standing). AreRowsOf s c.args.was) (sym base) c.requires.was;
      units = c.requires.rows.units_len ∙ names;
      jobs = c.requires.rows.jobs_len ∙ names;
    }

pub returns : goal.returns
returns c =
    let delta = c.in_ok-delta.delta in
    let base : c.in-Some.work.base ≡ c.args.base.now = rw c.in-Some.is at c.in_ok-work.ensures.base in
    let begins : c.set_next.new.self.base ≡ c.args.base.now = c.set_next.ensures.base ∙ (c.put_rows.ensures.base ∙ base) in
    let after : delta_after delta c.args.base.now ≡ c.args.after.now =
    leads_to c.args.base.now c.args.after.now (delta_after delta c.args.base.now) c.args.rows c.in-Some.work c.put_rows.new.work c.set_next.new.self c.clock.result c.next.result
    c.requires.same c.requires.was.common c.requires.rows base c.put_rows.ensures.base c.put_rows.ensures.now c.set_next.ensures.base c.set_next.ensures.now c.clock.ensures c.next.ensures
    (ap (delta_after delta) (sym begins) ∙ c.in_ok-delta.ensures.after) in
    record {
      after = after;
      count = subst (λ (s : Standing). CountsDiffering (state_of c.args.base.now) (state_of s) (vec_len delta.rows)) after
          (subst (λ (s : Standing). CountsDiffering (state_of s) (state_of (delta_after delta s)) (vec_len delta.rows)) begins c.in_ok-delta.ensures.count);
    }
