use Rattle.um_serve.proofs.JoinLaws.{joined, counted}
use Rattle.um_serve.proofs.laws.rounds_join.Goals as goal

pub returns : goal.returns
returns c = λ all rest place first more result limit later x mid y within serves count again counts.
    (joined all rest place first more result x mid y within serves again, counted result first more limit later count counts)
