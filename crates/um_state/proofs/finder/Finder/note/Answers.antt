use Rattle.um_state.proofs.FindingLaws.{finds_kept}
use Rattle.um_state.proofs.finder.Finder.note.Goals as goal

pub returns-clause-finds : goal.returns-clause-finds
returns-clause-finds c = finds_kept c.args.rows.now c.let_go-2.new.self c.add.new.self c.let_go-2.ensures.finds c.add.ensures.keeps
