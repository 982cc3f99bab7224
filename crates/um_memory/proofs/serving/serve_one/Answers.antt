use Rattle.std.proofs.KnownBytes.{Appends-nil}
use Rattle.um_memory.proofs.Served.{replies_more, replies_end, begins_more, begins_nothing, begins_frame, begins_end}
use Rattle.um_stream.proofs.Written.{on_err}
use Rattle.um_memory.proofs.serving.serve_one.Goals as goal

pub returns-in_err-bytes-clause-err : goal.returns-in_err-bytes-clause-err
returns-in_err-bytes-clause-err g c = on_err _ (begins_nothing _ _ _ _ _ _ (Appends-nil _))

pub returns-in_err-answer_frame-in-Frame-clause-err : goal.returns-in_err-answer_frame-in-Frame-clause-err
returns-in_err-answer_frame-in-Frame-clause-err g c =
    on_err _ (begins_frame _ c.in-Frame.bytes _ _ _ _ (rw c.in-Frame.is at c.in_ok-bytes.ensures) (rw c.as_slice.ensures.value at c.answer_frame.ensures.front))

pub returns-in_err-answer_end-in-End-clause-err : goal.returns-in_err-answer_end-in-End-clause-err
returns-in_err-answer_end-in-End-clause-err g c =
    let (front, more, is, appended) = c.answer_end.ensures.front in
    on_err _ (begins_end _ _ _ _ _ _ _ c.in-End.ending front more (rw c.in-End.is at c.in_ok-bytes.ensures) is appended)

pub returns-in_ok-answer_frame-in-Frame-clause-serves : goal.returns-in_ok-answer_frame-in-Frame-clause-serves
returns-in_ok-answer_frame-in-Frame-clause-serves g c = λ same new e later.
    let (reply, answers, written) = rw c.as_slice.ensures.value at c.in_ok-answer_frame-in-Frame.ensures.ok in
    replies_more _ _ _ _ _ c.in-Frame.bytes _ _ _ _ new e reply (rw c.in-Frame.is at c.in_ok-bytes.ensures) answers written (rw c.in_ok-answer_frame-in-Frame.ensures.size at later)

pub returns-in_ok-answer_frame-in-Frame-clause-begins : goal.returns-in_ok-answer_frame-in-Frame-clause-begins
returns-in_ok-answer_frame-in-Frame-clause-begins g c = λ same new later.
    let (reply, answers, written) = rw c.as_slice.ensures.value at c.in_ok-answer_frame-in-Frame.ensures.ok in
    begins_more _ _ _ _ _ c.in-Frame.bytes _ _ _ _ new reply (rw c.in-Frame.is at c.in_ok-bytes.ensures) answers written (rw c.in_ok-answer_frame-in-Frame.ensures.size at later)

pub returns-in_ok-answer_end-in-End-clause-ends : goal.returns-in_ok-answer_end-in-End-clause-ends
returns-in_ok-answer_end-in-End-clause-ends g c =
    replies_end _ _ _ _ _ _ _ c.in-End.ending (rw c.in-End.is at c.in_ok-bytes.ensures) c.in_ok-answer_end-in-End.ensures.ok
