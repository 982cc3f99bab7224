use Rattle.um_ctl.proofs.Untold.{asked, late_reply, untold_meanwhile, untold_reply}
use Rattle.um_ctl.proofs.connection.ask.Goals as goal

pub returns-clause-err : goal.returns-clause-err
returns-clause-err g c =
    untold_meanwhile c.args.words.now _ _ (c.in_ok-verb.verb, c.in_ok-verb.request) _ c.in-Err.fault c.in_ok-verb.ensures.ok c.in-Err.ensures.kind

pub returns-in-Ok-clause-ok : goal.returns-in-Ok-clause-ok
returns-in-Ok-clause-ok g c = asked c.args.words.now _ _ (c.in_ok-verb.verb, c.in_ok-verb.request) _ c.tell_reply.result c.in_ok-verb.ensures.ok c.tell_reply.ensures.told

pub returns-in-Ok-clause-err : goal.returns-in-Ok-clause-err
returns-in-Ok-clause-err g c =
    untold_reply c.args.words.now _ _ (c.in_ok-verb.verb, c.in_ok-verb.request) _ _ c.tell_reply.result c.in_ok-verb.ensures.ok c.tell_reply.ensures.err

pub returns-in-Ok-clause-late : goal.returns-in-Ok-clause-late
returns-in-Ok-clause-late g c = late_reply _ _ _ c.tell_reply.result c.tell_reply.ensures.err
