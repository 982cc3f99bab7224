use Rattle.std.proofs.Common.{◌∙◌, ap}
use Rattle.std.specs.FinMap as map
use Rattle.um_laws.proofs.NameMaps.{seen, seen_inserted, seen_removed}
use Rattle.um_state.proofs.maps.hold.Goals as goal

pub returns-then-holds_nothing-clause-ok : goal.returns-then-holds_nothing-clause-ok
returns-then-holds_nothing-clause-ok c =
    rw (← c.holds_nothing.ensures, c.if-holds_nothing.true) (seen_removed c.args.entries.now c.remove.new.self c.args.unit.now c.remove.ensures.updates)

pub returns-in_ok-insert-clause-ok : goal.returns-in_ok-insert-clause-ok
returns-in_ok-insert-clause-ok c =
    rw (← c.holds_nothing.ensures, c.if-holds_nothing.false)
    (seen_inserted c.args.entries.now c.insert.new.self c.in_ok-copy.field-0 c.args.state.now c.in_ok-insert.ensures.updates
    ∙ ap (λ n. map.insert (seen c.args.entries.now) n c.args.state.now) c.in_ok-copy.ensures)
