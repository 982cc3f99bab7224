use Rattle.std.proofs.Common.{string_bytes, ◌∙◌}
use Rattle.um_tree.specs.Folder.{with_slash}
use Rattle.um_resolve.specs.View.{by_file_of}
use Rattle.um_resolve.proofs.FolderLemmas.{folder_added}
use Rattle.um_resolve.proofs.drop_ins.add_folder.Goals as goal

pub returns : goal.returns
returns c =
    folder_added (by_file_of c.loop-path.by_file.entries) (by_file_of c.args.by_file.now.entries) c.args.tree.now (with_slash c.args.folder.now) (string_bytes c.in_ok-front.front)
    c.loop-path.path-iterator c.into_iter-path-iterator.result c.in_ok-front.ensures c.in-None.ensures.steps.0
    (c.into_iter-path-iterator.ensures.into_iter_gives ∙ c.in_ok-items.ensures.entries) c.loop-path.invariant
