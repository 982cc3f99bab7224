use Rattle.std.proofs.Common.{rules}
use Rattle.um_laws.proofs.RequestsLaws.{request_of-read, request_of-unread}
use Rattle.um_proto.proofs.read.read_request.Goals as goal

pub returns-in-Ok : goal.returns-in-Ok
returns-in-Ok c =
    rw (request_of-read c.args.mode c.args.bytes.now _ c.in-Ok.ensures.ok.0 c.in-Ok.ensures.ok.1) c.request_of_value.ensures

pub returns-in-Err-2 : goal.returns-in-Err-2
returns-in-Err-2 c = λ _. request_of-unread c.args.mode c.args.bytes.now (c.in-Err-2.ensures.err (search rules))
