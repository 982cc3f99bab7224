use Rattle.std.proofs.Common.{rules, ◌∙◌}
use Rattle.std.proofs.KnownBytes.{Appends-nil}
use Rattle.um_memory.proofs.Served.{begins_nothing, replies_same, begins_same}
use Rattle.um_stream.proofs.Written.{on_err}
use Rattle.um_memory.proofs.serving.memory.Goals as goal

pub returns-clause-err : goal.returns-clause-err
returns-clause-err g c = c.frames.invariant.begins _ (begins_nothing _ _ _ _ _ _ (Appends-nil _))

pub returns-in_err-manager-clause-err : goal.returns-in_err-manager-clause-err
returns-in_err-manager-clause-err g c = on_err _ (begins_nothing _ _ _ _ _ _ (Appends-nil _))

pub returns-in_err-manager-2-clause-err : goal.returns-in_err-manager-2-clause-err
returns-in_err-manager-2-clause-err g c =
    on_err _ (c.frames.invariant.begins _ (c.serve_one.ensures.begins (search rules) _ (begins_nothing _ _ _ _ _ _ (Appends-nil _))))

pub frames-preserved : goal.frames-preserved
frames-preserved g c =
    let next = c.in_ok-manager-2.ensures in
    let here = c.frames.invariant in
    let served = c.serve_one.ensures in
    record {
      working = next.working;
      size = next.size ∙ served.size ∙ here.size;
      serves = λ new e w. here.serves new e (served.serves (search rules) new e (replies_same _ _ new e next.size next.state next.kept w));
      begins = λ new w. here.begins new (served.begins (search rules) new (begins_same _ _ new next.size next.state next.kept w));
    }
