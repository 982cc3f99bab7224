use Rattle.std.proofs.Common.{sym, subst}
use Rattle.std.specs.Str.{IsCharBoundary}
use Rattle.um_text.proofs.RunLemmas.{boundary_behind_run}
use Rattle.um_text.proofs.classes.split_run.Goals as goal

pub split_at-requires : goal.split_at-requires
split_at-requires c = subst (IsCharBoundary c.args.text.now) (sym c.run_length.ensures) (boundary_behind_run c.args.class c.args.text.now c.utf8.text)
