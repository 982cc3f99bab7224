use Rattle.um_proto.specs.Written.{file_data}
use Rattle.um_resolve.specs.View.{file_of}
use Rattle.um_proto.proofs.Lists.{value_more}
use Rattle.um_proto.proofs.write.files_value.Goals as goal

pub loop-file-preserved : goal.loop-file-preserved
loop-file-preserved c =
    value_more file_data file_of c.args.files.now c.loop-file.file-index c.file-item.result c.loop-file.list.items c.push.new.self.items c.in_ok-file_value.field-0 c.loop-file-test.true c.file-item.is c.loop-file.invariant c.in_ok-file_value.ensures c.in_ok-push.ensures.items
