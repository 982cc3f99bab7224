use Rattle.std.proofs.Common.{sym, subst}
use Rattle.std.specs.Str.{IsCharBoundary}
use Rattle.um_words.proofs.WordLemmas.{boundary_behind_signs}
use Rattle.um_words.proofs.command.split_signs.Goals as goal

pub split_at-requires : goal.split_at-requires
split_at-requires c = subst (IsCharBoundary c.args.first.now) (sym c.signs_len.ensures) (boundary_behind_signs c.args.first.now c.utf8.first)
