use Rattle.um_laws.proofs.NumbersLaws as numbers
use Rattle.um_engine.proofs.laws.numbers_rise.Goals as goal

pub returns : goal.returns
returns c = numbers.numbers_rise
