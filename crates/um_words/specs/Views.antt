-- The code's types as those of the definitions.
use Rattle.std.specs.Prelude.{string_bytes}
use Rattle.um_model.specs.Words.{Word}
use Rattle.um_model.specs.WordSpellings.{Spelling, Stop, Bad, Turn, Means, Kept}
use Rattle.um_words.specs.declared.spelling.WordFront as code
use Rattle.um_words.specs.declared.spelling.WordFront.TheVariants as codes
use Rattle.um_words.specs.declared.word.Spelled.{Spelled}

-- how the front of a text is spelled
abbrev pub spelling_of : code.WordFront → Spelling
spelling_of codes.Stop = Stop
spelling_of codes.Bad = Bad
spelling_of (codes.Turn quote) = Turn quote
spelling_of (codes.Means meaning n) = Means meaning n
spelling_of (codes.Kept n) = Kept n

-- a word as it is written, and the text that it stands for
abbrev pub word_of : Spelled → Word
word_of word = record { spelling = word.spelling.now; value = string_bytes word.value }
