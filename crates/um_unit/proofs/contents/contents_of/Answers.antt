use Rattle.std.proofs.Common.{map, ap, ◌∙◌}
use Rattle.std.proofs.lemmas.List.{take_all}
use Rattle.std.specs.List.{flat_map}
use Rattle.um_model.specs.Names.{suffix_of}
use Rattle.um_model.specs.Units as model
use Rattle.um_resolve.specs.View.{unit_file_of}
use Rattle.um_unit.proofs.HeardLemmas.{all_assign, all_warn}
use Rattle.um_unit.specs.Sources.{assigned_in}
use Rattle.um_unit.specs.Tests.{warned_in}
use Rattle.um_unit.proofs.contents.contents_of.Goals as goal

pub returns-clause-assigned : goal.returns-clause-assigned
returns-clause-assigned c =
    c.loop-file.invariant.0
    ∙ ap (λ files. flat_map (λ (s : model.Source). assigned_in (suffix_of c.args.unit.now) s.reading) (map model.source_of (map unit_file_of files))) (take_all _ c.args.files.now c.loop-file-test.false)
    ∙ all_assign (suffix_of c.args.unit.now) (map model.source_of (map unit_file_of c.args.files.now))

pub returns-clause-warned : goal.returns-clause-warned
returns-clause-warned c =
    c.loop-file.invariant.1
    ∙ ap (λ files. flat_map (warned_in c.args.profile c.args.unit.now) (map model.source_of (map unit_file_of files))) (take_all _ c.args.files.now c.loop-file-test.false)
    ∙ all_warn c.args.profile c.args.unit.now (map model.source_of (map unit_file_of c.args.files.now))
