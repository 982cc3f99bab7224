use Rattle.std.proofs.Common.{arith, subst, sym}
use Rattle.um_state.specs.Awaiting.{HasAll}
use Rattle.um_state.specs.Finding.{Finds}
use Rattle.um_state.proofs.AwaitingLaws.{has_kept, has_set}
use Rattle.um_state.proofs.FindingLaws.{finds_set}
use Rattle.um_state.proofs.units.put.Goals as goal

pub leave-requires : goal.leave-requires
leave-requires c =
    subst (λ rows. Finds rows c.note.new.self) (sym c.as_slice-2.ensures.value)
    (finds_set c.args.states.now.items c.note.new.self c.args.i c.args.state (omega arith)
    (subst (λ rows. Finds rows c.note.new.self) c.as_slice.ensures.value c.note.ensures.finds) c.note.ensures.told)

pub leave-requires-2-clause-all : goal.leave-requires-2-clause-all
leave-requires-2-clause-all c =
    subst (λ rows. HasAll rows c.note-2.new.self) (sym c.as_slice-3.ensures.value)
    (has_set c.args.states.now.items c.note-2.new.self c.args.i c.args.state (omega arith)
    (has_kept c.args.states.now.items c.args.awaited.now c.note-2.new.self c.requires.had c.note-2.ensures.keeps) c.note-2.ensures.has)
