use Rattle.std.proofs.Common.{◌≡◌, ◌∙◌, ◌+◌, ◌≤◌, ℕ, Bool, true, List, length, sym, ap, subst, arith}
use Rattle.std.specs.Prelude.{if◌then◌else◌}
use Rattle.um_model.specs.Store.{body_limit}
use Rattle.um_model.specs.declared.layout.Layout.{Layout}
use Rattle.um_keeper.specs.Keeping.{has_bytes, log_generation}
use Rattle.um_keeper.proofs.Aside.{own_generation}
use Rattle.um_keeper.proofs.Judged.{some_has}
use Rattle.um_keeper.proofs.Underway.{underway_anew}
use Rattle.um_keeper.proofs.recording.begin.Goals as goal

pub returns-clause-under : goal.returns-clause-under
returns-clause-under c past here s taken state spelled may clean under =
    underway_anew under clean here c.new-ahead.ensures.of.0 c.requires.anew c.requires.idle (some_has c.args.next.body.items c.requires.some) spelled may c.new-ahead.ensures.of.1 c.new-ahead.ensures.empty.0 c.new-ahead.ensures.empty.1

one_more : (n : ℕ) (kept : List ℕ) → has_bytes kept ≡ true → n + 1 ≡ log_generation n kept
one_more n kept has = ap (λ (b : Bool). n + (if b then 1 else 0)) (sym has)

pub invariant_of-ahead : goal.invariant_of-ahead
invariant_of-ahead c =
    let a = c.args.ahead.now in
    let own = own_generation a.home.generation a.log.generation a.aside.body.items a.same c.requires.idle in
    record {
      same = c.new-ahead.ensures.of.1 ∙ ap (λ (n : ℕ). n + 1) own ∙ one_more a.home.generation c.args.next.body.items (some_has c.args.next.body.items c.requires.some);
      early = λ sure. omega (arith, own, c.requires.early);
      short = subst (λ (l : Layout). length c.args.next.body.items ≤ body_limit l) (sym c.new-ahead.ensures.of.0) c.requires.fits;
    }
