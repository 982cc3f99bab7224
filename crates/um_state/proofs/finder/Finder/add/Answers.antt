use Rattle.um_state.proofs.FindingLaws.{told_both}
use Rattle.um_state.proofs.finder.Finder.add.Goals as goal

pub returns-clause-keeps : goal.returns-clause-keeps
returns-clause-keeps c = λ other n told. c.add_number-2.ensures.keeps other n (c.add_number.ensures.keeps other n told)

pub returns-clause-told : goal.returns-clause-told
returns-clause-told c =
    told_both c.add_number.new.self c.add_number-2.new.self c.args.row c.args.state.now c.add_number.ensures.told
    (λ n told. c.add_number-2.ensures.keeps c.args.row n told) c.add_number-2.ensures.told
