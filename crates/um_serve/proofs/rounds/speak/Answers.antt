use Rattle.std.proofs.Common.{◌≡◌, ◌∙◌, ◌≤◌, ℕ, slice_get, ap, refl, sym, subst, rules, arith}
use Rattle.std.specs.Bool.{IsTrue}
use Rattle.um_serve.proofs.SaidLaws.{says_none, says_more, stirred_none, stirred_more, empties_more, same_above}
use Rattle.um_serve.proofs.rounds.speak.Goals as goal

pub loop-number-init : goal.loop-number-init
loop-number-init g c =
    let none = says_none c.args.manager.now.sessions.items c.args.backlog.now (g.G.Gate.past c.args.gate.now) in
    record {
      empties = search (rules, arith);
      same = search rules;
      keeper = search rules;
      children = search rules;
      marks = search rules;
      says = (none.0, none.1, λ h w. none.2);
      wait = search rules;
      stirred = stirred_none c.args.manager.now.sessions.items c.args.backlog.now c.args.backlog.now;
      events = search rules;
      gate = search rules;
    }

pub loop-number-preserved : goal.loop-number-preserved
loop-number-preserved g c =
    let n = c.loop-number.number in
    let j = c.connection.result in
    let inv = c.loop-number.invariant in
    let ts = c.args.manager.now.sessions.items in
    let mid = c.loop-number.manager.sessions.items in
    let new = c.output-output.new.self.sessions.items in
    let bytes = c.output-output.result.bytes.items in
    let failed = c.output-output.result.failed in
    let output = c.output-output.ensures.taken in
    let here : n ≤ n = omega arith in
    let is : slice_get mid j ≡ slice_get ts n = ap (λ (i : ℕ). slice_get mid i) c.connection.ensures ∙ inv.same n here in
    record {
      empties = empties_more n j ts mid new bytes failed c.connection.ensures inv.empties (inv.same n here) output c.output-output.ensures.others;
      same = same_above n j ts mid new c.connection.ensures inv.same c.output-output.ensures.others;
      keeper = c.output-output.ensures.keeper ∙ inv.keeper;
      children = c.output-output.ensures.children ∙ inv.children;
      marks = c.output-output.ensures.marks ∙ inv.marks;
      says = says_more (g.G.Gate.past c.args.gate.now) (g.G.Gate.past c.loop-number.gate) (g.G.Gate.past c.hand_out-is_stirred.new.gate) n ts (slice_get mid j) (slice_get new j) c.args.backlog.now c.loop-number.backlog c.hand_out-is_stirred.new.backlog bytes failed
          inv.says c.hand_out-is_stirred.ensures.hands output is (inv.wait n here) c.hand_out-is_stirred.ensures.others (subst IsTrue (sym inv.gate)) c.hand_out-is_stirred.ensures.gate.whole;
      wait = same_above n n c.args.backlog.now c.loop-number.backlog c.hand_out-is_stirred.new.backlog refl inv.wait c.hand_out-is_stirred.ensures.others;
      stirred = stirred_more n ts (slice_get mid j) (slice_get new j) c.args.backlog.now c.loop-number.backlog c.hand_out-is_stirred.new.backlog bytes failed c.loop-number.is_stirred
          c.hand_out-is_stirred.result inv.stirred c.hand_out-is_stirred.ensures.stirred output is (inv.wait n here) c.hand_out-is_stirred.ensures.others;
      events = λ w. inv.events (c.hand_out-is_stirred.ensures.gate.whole w);
      gate = c.hand_out-is_stirred.ensures.gate.honest ∙ inv.gate;
    }
