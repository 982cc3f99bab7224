use Rattle.std.proofs.Common.{◌≡◌, length}
use Rattle.um_model.specs.Names.{unescape_front}
use Rattle.um_model.proofs.PiecesLaws.{prefixed, reading}
use Rattle.um_name.proofs.escapes.unescape.Given as goal

-- the bytes so far, followed by the reading of the rest, are the reading of the text
abbrev pub invariant-loop-first : goal.invariant-loop-first
invariant-loop-first l = prefixed l.bytes.items (reading unescape_front l.rest) ≡ reading unescape_front l.text

abbrev pub decreases-loop-first : goal.decreases-loop-first
decreases-loop-first l = length l.rest
