use Rattle.std.proofs.Common.{not}
use Rattle.std.proofs.lemmas.List.Sums.{suffix_len-le-length}
use Rattle.um_model.specs.Text.{is_empty}
use Rattle.um_unit.proofs.ListLemmas.{behind_last}
use Rattle.um_unit.proofs.assignments.since_empty.Goals as goal

pub overflow_sub-result : goal.overflow_sub-result
overflow_sub-result c = rw c.said_len.ensures (suffix_len-le-length (λ v. not (is_empty v.now)) c.args.values.now)

pub returns : goal.returns
returns c = behind_last is_empty (λ v. v.now) c.args.values.now c.said_len.result c.said_len.ensures
