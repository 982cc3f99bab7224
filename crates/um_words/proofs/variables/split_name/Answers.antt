use Rattle.std.proofs.Common.{sym, subst}
use Rattle.std.specs.Str.{IsCharBoundary}
use Rattle.um_words.proofs.VariableLemmas.{boundary_behind_name}
use Rattle.um_words.proofs.variables.split_name.Goals as goal

pub split_at-requires : goal.split_at-requires
split_at-requires c = subst (IsCharBoundary c.args.text.now) (sym c.name_len.ensures) (boundary_behind_name c.args.text.now c.utf8.text)
