use Rattle.std.proofs.lemmas.List.{map-set}
use Rattle.um_state.specs.declared.overlay.ChangedRow.{ChangedRow}
use Rattle.um_state.proofs.overlay.set_again.Goals as goal

pub returns-clause-items : goal.returns-clause-items
returns-clause-items c = map-set (λ (r : ChangedRow). r.unit) c.args.changed.now.items c.args.place (record { unit = c.args.unit })
