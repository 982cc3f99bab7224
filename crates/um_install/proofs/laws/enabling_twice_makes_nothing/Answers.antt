use Rattle.um_install.proofs.EnablingLaws.{enable_twice, enable_twice_tells_none}
use Rattle.um_install.proofs.laws.enabling_twice_makes_nothing.Goals as goal

pub returns-clause-free : goal.returns-clause-free
returns-clause-free c = enable_twice

pub returns-clause-nothing : goal.returns-clause-nothing
returns-clause-nothing c = λ tree asked u w is no_alias obeys. enable_twice_tells_none tree asked u is no_alias obeys w
