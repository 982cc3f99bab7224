use Rattle.std.proofs.Common.{arith, ◌∙◌, ap, is_ok}
use Rattle.um_state.specs.LiveRows.{told}
use Rattle.um_state.specs.declared.live.Live.{Live}
use Rattle.um_state.proofs.LiveLaws.{rising_if, rising_lent, told_added, told_others}
use Rattle.um_state.proofs.live.LiveRows.add.Goals as goal

pub invariant_of-self : goal.invariant_of-self
invariant_of-self c =
    let list = c.args.self.now.list.items in
    let live : Live = record { number = c.args.number; row = c.args.row } in
    let place = c.lower_than-i in
    record {
      rising =
          rising_if (is_ok c.insert.result) list c.insert.new.self.items place.result live c.insert.ensures.items c.args.self.now.rising
          (rising_lent c.deref.result.now list place.result live c.deref.ensures.value c.args.self.now.rising (omega arith) c.requires place.ensures.lower place.ensures.others);
    }

pub returns-clause-others : goal.returns-clause-others
returns-clause-others c = λ n other.
    ap (λ l. told l n) c.in-Ok.ensures.items ∙ told_others c.args.self.now.list.items c.lower_than-i.result (record { number = c.args.number; row = c.args.row }) n other

pub returns-clause-told : goal.returns-clause-told
returns-clause-told c = λ _.
    let list = c.args.self.now.list.items in
    let live : Live = record { number = c.args.number; row = c.args.row } in
    let place = c.lower_than-i in
    ap (λ l. told l c.args.number) c.in-Ok.ensures.items
    ∙ told_added list place.result live
    (rising_lent c.deref.result.now list place.result live c.deref.ensures.value c.args.self.now.rising (omega arith) c.requires place.ensures.lower place.ensures.others) (omega arith)
