use Rattle.std.proofs.Common.{◌∙◌, sym, string_bytes}
use Rattle.std.proofs.lemmas.List.Folds.{list_all-map}
use Rattle.um_runner.specs.Handed as handed
use Rattle.um_runner.proofs.handed.can_all_be_handed.Goals as goal

pub returns : goal.returns
returns c = c.can_each_be_handed.ensures ∙ sym (list_all-map handed.can_be_handed string_bytes c.args.entries.now)
