use Rattle.std.proofs.Common.{◌≡◌, ◌||◌, ◌∷◌, [], ℕ, true, subst, sym}
use Rattle.um_keeper.specs.Receipts.{handed_of}
use Rattle.um_manager.specs.Orders.{Grew}
use Rattle.um_fates.specs.Live.{has, is_live, HasFewLive}
use Rattle.um_manager.proofs.Carrying.{grew_refused}
use Rattle.um_manager.proofs.orders.ask.Goals as goal

pub returns-in-Err-clause-carries : goal.returns-in-Err-clause-carries
returns-in-Err-clause-carries g c = λ h w.
    let p = c.in-Err.ensures.past h w in
    subst (λ a. Grew c.args.units.now.held (g.C.Children.past c.args.children.now) (g.C.Children.past c.spawn.new.self) c.args.marks.now c.mark.new.self (handed_of a ∷ [])) (sym c.in-Spawn.is) (grew_refused _ _ _ c.in-Spawn.order p.0 _ _ p.1
    (subst (λ number. HasFewLive c.args.units.now.held → (x : ℕ) → is_live c.args.units.now.held x ≡ true → has x c.mark.new.self ≡ (has x c.args.marks.now || has x (number ∷ []))) c.number-number.ensures c.mark.ensures))
