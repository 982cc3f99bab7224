use Rattle.std.proofs.KnownBytes.{Appends-nil}
use Rattle.um_memory.specs.Managers.{nothing, front}
use Rattle.um_memory.proofs.serving.answer_frame.Goals as goal

pub returns-in_err-text-clause-front : goal.returns-in_err-text-clause-front
returns-in_err-text-clause-front g c = nothing (Appends-nil _)

pub returns-clause-front : goal.returns-clause-front
returns-clause-front g c =
    let (part, more, split, appended) = rw (c.as_slice.ensures.value) at c.put_frame.ensures.front in
    let (reply, text, answers) = c.in_ok-text.ensures.reply in
    front reply _ _ part more answers (rw text at split) appended
