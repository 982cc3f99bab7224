use Rattle.std.proofs.Common.{◌≡◌, map, string_bytes}
use Rattle.um_words.specs.Views.{word_of}
use Rattle.um_words.proofs.splitting.words_by.Given as goal
use Rattle.um_model.specs.FileForms.{word_values}

abbrev pub invariant-loop-word : goal.invariant-loop-word
invariant-loop-word l = map string_bytes l.words.items ≡ word_values (map word_of l.yielded)
