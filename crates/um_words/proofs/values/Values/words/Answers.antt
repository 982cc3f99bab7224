use Rattle.std.proofs.Common.{◌∙◌, ap, option_map}
use Rattle.um_words.specs.Values.{split_seen}
use Rattle.um_words.proofs.ValueLemmas.{no_words}
use Rattle.um_words.proofs.values.Values.words.Goals as goal

pub returns-in-None : goal.returns-in-None
returns-in-None c = λ environment holds. no_words environment c.args.name.now (ap (option_map split_seen) c.in-None.ensures.value ∙ holds c.args.name.now)
