use Rattle.um_ctl.proofs.Texts.{request_depth, request_plain}
use Rattle.um_laws.proofs.RequestsLaws.{request_of-read}
use Rattle.um_model.specs.declared.requests.Mode.TheVariants.{Service}
use Rattle.um_ctl.proofs.writing.request.Goals as goal

pub returns-clause-read : goal.returns-clause-read
returns-clause-read c =
    request_of-read Service _ _ c.in_ok-bytes.ensures.utf8
    ((rw c.in_ok-value.ensures at c.in_ok-bytes.ensures.reads_back) (request_depth _ _ _ _))

pub returns-clause-text : goal.returns-clause-text
returns-clause-text c = (rw c.in_ok-value.ensures at c.in_ok-bytes.ensures.text) (request_plain _ _ _ _)
