use Rattle.std.proofs.Common.{map as each, ap, sym, ◌++◌, ◌∙◌}
use Rattle.std.specs.FinMap as map
use Rattle.um_model.specs.Resolution.{drop_ins_of}
use Rattle.um_resolve.specs.View.{text_of, unit_file_of}
use Rattle.std.proofs.Common.{append-nil}
use Rattle.um_resolve.proofs.ByFileLemmas.{values_by_file}
use Rattle.um_resolve.proofs.drop_ins.drop_ins.Goals as goal

pub returns : goal.returns
unfolding drop_ins_of
returns c =
    let all = c.into_iter-drop_in-iterator.ensures.into_iter_gives ∙ c.values-drop_in-items.ensures.rest in
    sym (append-nil (each unit_file_of c.loop-drop_in.found.items))
    ∙ ap (λ ds. each unit_file_of c.loop-drop_in.found.items ++ each text_of ds) (sym c.in-None.ensures.steps.0)
    ∙ c.loop-drop_in.invariant ∙ ap (each text_of) all
    ∙ values_by_file c.in_ok-by_file.by_file c.values-drop_in-items.ensures.ordered
    ∙ ap map.values c.in_ok-by_file.ensures
