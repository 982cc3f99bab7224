use Rattle.std.proofs.Common.{ℕ, List, ◌++◌, ◌∙◌, codes}
use Rattle.um_model.specs.Resolution as model
use Rattle.um_model.specs.Tree.{layer_text}
use Rattle.um_model.specs.declared.tree.Layer.{Layer}
use Rattle.um_model.specs.declared.tree.Layer.TheVariants.{Etc, Run, Lib}
use Rattle.um_resolve.specs.View.{by_file_of}
use Rattle.um_resolve.proofs.ByFileLemmas.{added_three}
use Rattle.um_resolve.proofs.drop_ins.add_unit.Goals as goal

pub returns : goal.returns
returns c =
    let part : Layer → List (List ℕ × model.UnitFile) = λ layer. model.drop_ins_in c.args.tree.now (layer_text layer ++ (c.args.unit.now ++ codes ".d/")) in
    c.in_ok-add_layer-3.ensures
    ∙ added_three (by_file_of c.args.by_file.now.entries) (by_file_of c.add_layer.new.by_file.entries) (by_file_of c.add_layer-2.new.by_file.entries) (part Etc) (part Run) (part Lib)
    c.in_ok-add_layer.ensures c.in_ok-add_layer-2.ensures
