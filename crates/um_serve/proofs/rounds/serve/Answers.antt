use Rattle.std.proofs.Common.{◌≡◌, ◌∙◌, ◌+◌, ◌≤◌, ◌∷◌, ◌++◌, [], length, length-append, true, Result, Ok, Err, refl, sym, subst, inl, inr, rules, arith}
use Rattle.std.specs.Prelude.{◌⊎◌, ◌↔◌}
use Rattle.um_wire.specs.declared.refusal.Refusal.{Refusal}
use Rattle.um_wire.specs.declared.refusal.Refusal.TheVariants.{Device}
use Rattle.std.specs.Bool.{IsTrue}
use Rattle.um_keeper.specs.Keepers.{disk_in, layout_in, has_failed}
use Rattle.um_manager.proofs.Beginning.{opened_place}
use Rattle.um_manager.specs.Places.{Place, place_in}
use Rattle.um_manager.specs.Turns.{now_in}
use Rattle.um_serve.specs.Rounds.{Round, trust, Serves, IsRound, served}
use Rattle.um_serve.proofs.JoinLaws.{round_less, serves_less, joined}
use Rattle.um_serve.proofs.GotLaws.{followed}
use Rattle.um_serve.proofs.LifeLaws.{rounds_live_on}
use Rattle.um_serve.proofs.RoundLaws.{round_of, last_of, same_place, same_failed, all_rounds, last_round}
use Rattle.um_manager.proofs.Placing.{counted_ok, works, ok_no_device}
use Rattle.um_sector.specs.Refused.{CountsDevice}
use Rattle.um_serve.proofs.rounds.serve.Goals as goal

pub loop-init : goal.loop-init
loop-init g c = record {
  done = ([], search rules, (inl refl, refl));
  whole = search rules;
  honest = search rules;
  events = search rules;
  gate = search rules;
  moments = search rules;
  clock = search rules;
  place = search rules;
  disk = search rules;
  failures = search rules;
  worked = λ some. absurd (omega (arith, some));
  failed = search rules;
}

pub loop-preserved : goal.loop-preserved
loop-preserved g c =
    let D = g.D.Disk in
    let first = c.args.manager.now.keeper in
    let old = c.loop.manager.keeper in
    let m = c.round.new.manager in
    let inv = c.loop.invariant in
    let start = place_in (D.honest (disk_in first)) first in
    let there = place_in (D.honest (disk_in old)) old in
    let same : there ≡ start = same_place inv.place.size inv.place.layout inv.disk inv.failed in
    let begun = served (g.G.Gate.past c.args.gate.now.gate) (g.M.Moments.given c.args.clock.now) c.args.gate.now.backlog c.args.gate.now.was_busy c.args.gate.now.turned c.args.gate.now.has_lost
    (now_in first (g.C.Children.past c.args.manager.now.children) c.args.manager.now.marks c.args.manager.now.sessions.items (D.past (disk_in first))) in
    let before = served (g.G.Gate.past c.loop.gate.gate) (g.M.Moments.given c.loop.clock) c.loop.gate.backlog c.loop.gate.was_busy c.loop.gate.turned c.loop.gate.has_lost
    (now_in old (g.C.Children.past c.loop.manager.children) c.loop.manager.marks c.loop.manager.sessions.items (D.past (disk_in old))) in
    let after = served (g.G.Gate.past c.round.new.self.gate) (g.M.Moments.given c.round.new.clock) c.round.new.self.backlog c.round.new.self.was_busy c.round.new.self.turned c.round.new.self.has_lost
    (now_in m.keeper (g.C.Children.past m.children) m.marks m.sessions.items (D.past (disk_in m.keeper))) in
    let known = trust (g.C.Children.honest c.args.manager.now.children) (g.C.Children.whole c.loop.manager.children) (g.G.Gate.honest c.args.gate.now.gate) (g.G.Gate.whole c.loop.gate.gate) (g.M.Moments.honest c.args.clock.now) (g.M.Moments.whole c.loop.clock) in
    let here = trust (g.C.Children.honest c.loop.manager.children) (g.C.Children.whole m.children) (g.G.Gate.honest c.loop.gate.gate) (g.G.Gate.whole c.round.new.self.gate) (g.M.Moments.honest c.loop.clock) (g.M.Moments.whole c.round.new.clock) in
    let later = trust (g.C.Children.honest c.args.manager.now.children) (g.C.Children.whole m.children) (g.G.Gate.honest c.args.gate.now.gate) (g.G.Gate.whole c.round.new.self.gate) (g.M.Moments.honest c.args.clock.now) (g.M.Moments.whole c.round.new.clock) in
    let p = round_of here there _ before after c.in-Ok.ensures.serves in
    let round = subst (λ (s : Place). IsRound later s (Ok tt) p.0 before after) same
    (round_less later here there (Ok tt) p.0 before after
    (record {
      children = subst IsTrue (sym inv.honest);
      calls = λ h. h;
      gate = subst IsTrue (sym inv.gate);
      events = λ h. h;
      clock = subst IsTrue (sym inv.clock);
      moments = λ h. h;
    }) p.1) in
    let rounds = joined known later start inv.done.0 (p.0 ∷ []) (Ok tt) begun before after
    (record { children = λ h. h; calls = c.round.ensures.frame.children.whole; gate = λ h. h; events = c.round.ensures.gate.whole; clock = λ h. h; moments = c.round.ensures.clock.whole })
    inv.done.2 (inl (after, round, (inl refl, refl))) in
    let e : length (inv.done.0 ++ p.0 ∷ []) ≡ c.loop.counter + 1 = omega (arith, inv.done.1, length-append inv.done.0 (p.0 ∷ [])) in
    record {
      done = (inv.done.0 ++ p.0 ∷ [], e, rounds);
      whole = search rules;
      honest = search rules;
      events = search rules;
      gate = search rules;
      moments = search rules;
      clock = search rules;
      place = record { layout = c.round.ensures.frame.store.place.layout ∙ inv.place.layout; size = c.round.ensures.frame.store.place.size ∙ inv.place.size; opened = c.round.ensures.frame.store.place.opened ∙ inv.place.opened };
      disk = c.round.ensures.frame.store.disk ∙ inv.disk;
      failures = counted_ok c.in-Ok.is c.round.ensures.device ∙ inv.failures;
      worked = λ some. sym inv.failed ∙ works (has_failed old) c.in-Ok.is c.round.ensures.reopen;
      failed = same_failed c.in-Ok.is c.round.ensures.frame.store.failed ∙ inv.failed;
    }

pub returns-clause-reopen : goal.returns-clause-reopen
returns-clause-reopen g c = λ other. all_rounds c.args.limit c.loop.counter (has_failed c.args.manager.now.keeper) c.loop.invariant.worked (search rules)

pub returns-in-Err-clause-refused : goal.returns-in-Err-clause-refused
returns-in-Err-clause-refused g c = c.in-Err.ensures.refused

pub returns-in-Err-clause-device : goal.returns-in-Err-clause-device
returns-in-Err-clause-device g c =
    subst (λ n. CountsDevice {T = Unit} (Err c.in-Err.refusal) n (g.D.Disk.failures (disk_in c.round.new.manager.keeper))) c.loop.invariant.failures c.in-Err.ensures.device

pub returns-in-Err-clause-reopen : goal.returns-in-Err-clause-reopen
returns-in-Err-clause-reopen g c = last_round c.args.limit c.loop.counter c.loop.invariant.failed c.loop-test.true c.in-Err.ensures.reopen

pub returns-clause-serves : goal.returns-clause-serves
returns-clause-serves g c =
    let p = c.loop.invariant.done in
    let e : c.loop.counter ≡ c.args.limit = search rules in
    (p.0, p.1 ∙ e, p.2)

pub returns-in-Err-clause-serves : goal.returns-in-Err-clause-serves
returns-in-Err-clause-serves g c =
    let D = g.D.Disk in
    let first = c.args.manager.now.keeper in
    let old = c.loop.manager.keeper in
    let m = c.round.new.manager in
    let inv = c.loop.invariant in
    let start = place_in (D.honest (disk_in first)) first in
    let there = place_in (D.honest (disk_in old)) old in
    let same : there ≡ start = same_place inv.place.size inv.place.layout inv.disk inv.failed in
    let begun = served (g.G.Gate.past c.args.gate.now.gate) (g.M.Moments.given c.args.clock.now) c.args.gate.now.backlog c.args.gate.now.was_busy c.args.gate.now.turned c.args.gate.now.has_lost
    (now_in first (g.C.Children.past c.args.manager.now.children) c.args.manager.now.marks c.args.manager.now.sessions.items (D.past (disk_in first))) in
    let before = served (g.G.Gate.past c.loop.gate.gate) (g.M.Moments.given c.loop.clock) c.loop.gate.backlog c.loop.gate.was_busy c.loop.gate.turned c.loop.gate.has_lost
    (now_in old (g.C.Children.past c.loop.manager.children) c.loop.manager.marks c.loop.manager.sessions.items (D.past (disk_in old))) in
    let after = served (g.G.Gate.past c.round.new.self.gate) (g.M.Moments.given c.round.new.clock) c.round.new.self.backlog c.round.new.self.was_busy c.round.new.self.turned c.round.new.self.has_lost
    (now_in m.keeper (g.C.Children.past m.children) m.marks m.sessions.items (D.past (disk_in m.keeper))) in
    let known = trust (g.C.Children.honest c.args.manager.now.children) (g.C.Children.whole c.loop.manager.children) (g.G.Gate.honest c.args.gate.now.gate) (g.G.Gate.whole c.loop.gate.gate) (g.M.Moments.honest c.args.clock.now) (g.M.Moments.whole c.loop.clock) in
    let here = trust (g.C.Children.honest c.loop.manager.children) (g.C.Children.whole m.children) (g.G.Gate.honest c.loop.gate.gate) (g.G.Gate.whole c.round.new.self.gate) (g.M.Moments.honest c.loop.clock) (g.M.Moments.whole c.round.new.clock) in
    let later = trust (g.C.Children.honest c.args.manager.now.children) (g.C.Children.whole m.children) (g.G.Gate.honest c.args.gate.now.gate) (g.G.Gate.whole c.round.new.self.gate) (g.M.Moments.honest c.args.clock.now) (g.M.Moments.whole c.round.new.clock) in
    let last = last_of here there c.in-Err.refusal before after c.in-Err.ensures.serves in
    let ends = subst (λ (s : Place). Serves later s last.0 (Err c.in-Err.refusal) before after) same
    (serves_less later here there last.0 (Err c.in-Err.refusal) before after
    (record {
      children = subst IsTrue (sym inv.honest);
      calls = λ h. h;
      gate = subst IsTrue (sym inv.gate);
      events = λ h. h;
      clock = subst IsTrue (sym inv.clock);
      moments = λ h. h;
    }) last.2) in
    let rounds = joined known later start inv.done.0 last.0 (Err c.in-Err.refusal) begun before after
    (record { children = λ h. h; calls = c.round.ensures.frame.children.whole; gate = λ h. h; events = c.round.ensures.gate.whole; clock = λ h. h; moments = c.round.ensures.clock.whole })
    inv.done.2 ends in
    (inv.done.0 ++ last.0, omega (arith, inv.done.1, last.1, c.loop-test.true, length-append inv.done.0 last.0), rounds)

pub returns-clause-life : goal.returns-clause-life
returns-clause-life g c = λ sure working.
    let D = g.D.Disk in
    let first = c.args.manager.now.keeper in
    let begun = served (g.G.Gate.past c.args.gate.now.gate) (g.M.Moments.given c.args.clock.now) c.args.gate.now.backlog c.args.gate.now.was_busy c.args.gate.now.turned c.args.gate.now.has_lost
    (now_in first (g.C.Children.past c.args.manager.now.children) c.args.manager.now.marks c.args.manager.now.sessions.items (D.past (disk_in first))) in
    let last = c.loop.manager.keeper in
    let ended = served (g.G.Gate.past c.loop.gate.gate) (g.M.Moments.given c.loop.clock) c.loop.gate.backlog c.loop.gate.was_busy c.loop.gate.turned c.loop.gate.has_lost
    (now_in last (g.C.Children.past c.loop.manager.children) c.loop.manager.marks c.loop.manager.sessions.items (D.past (disk_in last))) in
    let known = trust (g.C.Children.honest c.args.manager.now.children) (g.C.Children.whole c.loop.manager.children) (g.G.Gate.honest c.args.gate.now.gate) (g.G.Gate.whole c.loop.gate.gate) (g.M.Moments.honest c.args.clock.now) (g.M.Moments.whole c.loop.clock) in
    rounds_live_on known (layout_in first) begun ended (opened_place (sym first.holds.size_is) refl sure working)

pub returns-in-Err-clause-life : goal.returns-in-Err-clause-life
returns-in-Err-clause-life g c = λ sure working.
    let D = g.D.Disk in
    let first = c.args.manager.now.keeper in
    let begun = served (g.G.Gate.past c.args.gate.now.gate) (g.M.Moments.given c.args.clock.now) c.args.gate.now.backlog c.args.gate.now.was_busy c.args.gate.now.turned c.args.gate.now.has_lost
    (now_in first (g.C.Children.past c.args.manager.now.children) c.args.manager.now.marks c.args.manager.now.sessions.items (D.past (disk_in first))) in
    let m = c.round.new.manager in
    let ended = served (g.G.Gate.past c.round.new.self.gate) (g.M.Moments.given c.round.new.clock) c.round.new.self.backlog c.round.new.self.was_busy c.round.new.self.turned c.round.new.self.has_lost
    (now_in m.keeper (g.C.Children.past m.children) m.marks m.sessions.items (D.past (disk_in m.keeper))) in
    let later = trust (g.C.Children.honest c.args.manager.now.children) (g.C.Children.whole m.children) (g.G.Gate.honest c.args.gate.now.gate) (g.G.Gate.whole c.round.new.self.gate) (g.M.Moments.honest c.args.clock.now) (g.M.Moments.whole c.round.new.clock) in
    rounds_live_on later (layout_in first) begun ended (opened_place (sym first.holds.size_is) refl sure working)

pub returns-clause-client : goal.returns-clause-client
returns-clause-client g c = λ k follows.
    let D = g.D.Disk in
    let first = c.args.manager.now.keeper in
    let begun = served (g.G.Gate.past c.args.gate.now.gate) (g.M.Moments.given c.args.clock.now) c.args.gate.now.backlog c.args.gate.now.was_busy c.args.gate.now.turned c.args.gate.now.has_lost
    (now_in first (g.C.Children.past c.args.manager.now.children) c.args.manager.now.marks c.args.manager.now.sessions.items (D.past (disk_in first))) in
    let last = c.loop.manager.keeper in
    let ended = served (g.G.Gate.past c.loop.gate.gate) (g.M.Moments.given c.loop.clock) c.loop.gate.backlog c.loop.gate.was_busy c.loop.gate.turned c.loop.gate.has_lost
    (now_in last (g.C.Children.past c.loop.manager.children) c.loop.manager.marks c.loop.manager.sessions.items (D.past (disk_in last))) in
    let known = trust (g.C.Children.honest c.args.manager.now.children) (g.C.Children.whole c.loop.manager.children) (g.G.Gate.honest c.args.gate.now.gate) (g.G.Gate.whole c.loop.gate.gate) (g.M.Moments.honest c.args.clock.now) (g.M.Moments.whole c.loop.clock) in
    let all = returns-clause-serves g c in
    followed follows known _ all.0 _ ended all.2

pub returns-in-Err-clause-client : goal.returns-in-Err-clause-client
returns-in-Err-clause-client g c = λ k follows.
    let D = g.D.Disk in
    let first = c.args.manager.now.keeper in
    let begun = served (g.G.Gate.past c.args.gate.now.gate) (g.M.Moments.given c.args.clock.now) c.args.gate.now.backlog c.args.gate.now.was_busy c.args.gate.now.turned c.args.gate.now.has_lost
    (now_in first (g.C.Children.past c.args.manager.now.children) c.args.manager.now.marks c.args.manager.now.sessions.items (D.past (disk_in first))) in
    let m = c.round.new.manager in
    let ended = served (g.G.Gate.past c.round.new.self.gate) (g.M.Moments.given c.round.new.clock) c.round.new.self.backlog c.round.new.self.was_busy c.round.new.self.turned c.round.new.self.has_lost
    (now_in m.keeper (g.C.Children.past m.children) m.marks m.sessions.items (D.past (disk_in m.keeper))) in
    let later = trust (g.C.Children.honest c.args.manager.now.children) (g.C.Children.whole m.children) (g.G.Gate.honest c.args.gate.now.gate) (g.G.Gate.whole c.round.new.self.gate) (g.M.Moments.honest c.args.clock.now) (g.M.Moments.whole c.round.new.clock) in
    let all = returns-in-Err-clause-serves g c in
    followed follows later _ all.0 _ ended all.2

pub returns-in-Err-clause-frame : goal.returns-in-Err-clause-frame
returns-in-Err-clause-frame g c =
    let first = c.args.manager.now.keeper in
    let new = c.round.new.manager.keeper in
    let inv = c.loop.invariant in
    let store = c.round.ensures.frame.store in
    let children = c.round.ensures.frame.children in
    record {
      store = record {
        place = record { layout = store.place.layout ∙ inv.place.layout; size = store.place.size ∙ inv.place.size; opened = store.place.opened ∙ inv.place.opened };
        disk = store.disk ∙ inv.disk;
        failed = subst (λ (r : Result Unit Refusal). (has_failed new ≡ true) ↔ ((has_failed first ≡ true) ⊎ (r ≡ Err Device))) c.in-Err.is
            (subst (λ b. (has_failed new ≡ true) ↔ ((b ≡ true) ⊎ (c.round.result ≡ Err Device))) inv.failed store.failed);
      };
      children = record { honest = children.honest ∙ inv.honest; whole = λ is. inv.whole (children.whole is) };
    }

pub returns-clause-frame : goal.returns-clause-frame
returns-clause-frame g c =
    let inv = c.loop.invariant in
    record {
      store = record {
        place = inv.place;
        disk = inv.disk;
        failed = ((λ is. inl (sym inv.failed ∙ is)), (λ is. elim is [ inl was ↦ inv.failed ∙ was | inr device ↦ absurd (ok_no_device device) ]));
      };
      children = record { honest = inv.honest; whole = inv.whole };
    }
