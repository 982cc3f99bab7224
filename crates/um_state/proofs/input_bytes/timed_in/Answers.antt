use Rattle.std.proofs.Common.{rules}
use Rattle.um_model.proofs.BytesLaws.{at_none, at_some}
use Rattle.um_state.proofs.InputArms.{timed_here, timed_none}
use Rattle.um_state.specs.View.{event_of}
use Rattle.um_state.proofs.input_bytes.timed_in.Goals as goal

pub returns-in-Some-2-clause-read : goal.returns-in-Some-2-clause-read
returns-in-Some-2-clause-read c =
    let event = at_some event_of _ _ _ c.in-Some-2.event c.in-Some-2.m c.in_ok-event.ensures.read c.in-Some-2.is in
    timed_here c.args.tag c.args.bytes.now _ _ (event_of c.in-Some-2.event) c.in-Some-2.m (search rules) event

pub returns-in-None-clause-read : goal.returns-in-None-clause-read
returns-in-None-clause-read c =
    let event = at_none event_of _ _ _ c.in_ok-event.ensures.read c.in-None.is in
    timed_none c.args.tag c.args.bytes.now c.in-Some.moment _ (search rules) event
