use Rattle.um_sentences.proofs.SentenceLaws.{reason_told}
use Rattle.um_sentences.proofs.laws.each_reason_has_a_sentence.Goals as goal

pub returns : goal.returns
returns c = reason_told
