use Rattle.um_sentences.proofs.SentenceLaws.{refused_key_told}
use Rattle.um_sentences.proofs.laws.each_refused_key_has_a_sentence.Goals as goal

pub returns : goal.returns
returns c = refused_key_told
