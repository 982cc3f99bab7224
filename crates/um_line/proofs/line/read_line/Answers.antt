use Rattle.std.proofs.Common.{IfOk, map, string_bytes, sym, subst, ◌∙◌}
use Rattle.um_line.specs.Line.{IsLineBy, IsServeLine, IsCtlLine, IsLogsLine, IsStatusLine, IsVerifyLine}
use Rattle.um_line.proofs.line.read_line.Goals as goal

pub returns-in-Serve : goal.returns-in-Serve
returns-in-Serve c =
    let named = sym c.subcommand_of.ensures ∙ c.in-Serve.is in
    subst (λ s. IfOk c.read_serve.result (IsLineBy s (map string_bytes c.args.words.now))) (sym named)
    (subst (λ ws. IfOk c.read_serve.result (IsServeLine ws)) c.behind-in-Serve.ensures c.read_serve.ensures)

pub returns-in-Ctl : goal.returns-in-Ctl
returns-in-Ctl c =
    let named = sym c.subcommand_of.ensures ∙ c.in-Ctl.is in
    subst (λ s. IfOk c.read_ctl.result (IsLineBy s (map string_bytes c.args.words.now))) (sym named)
    (subst (λ ws. IfOk c.read_ctl.result (IsCtlLine ws)) c.behind-in-Ctl.ensures c.read_ctl.ensures)

pub returns-in-Logs : goal.returns-in-Logs
returns-in-Logs c =
    let named = sym c.subcommand_of.ensures ∙ c.in-Logs.is in
    subst (λ s. IfOk c.read_logs.result (IsLineBy s (map string_bytes c.args.words.now))) (sym named)
    (subst (λ ws. IfOk c.read_logs.result (IsLogsLine ws)) c.behind-in-Logs.ensures c.read_logs.ensures)

pub returns-in-Status : goal.returns-in-Status
returns-in-Status c =
    let named = sym c.subcommand_of.ensures ∙ c.in-Status.is in
    subst (λ s. IfOk c.read_status.result (IsLineBy s (map string_bytes c.args.words.now))) (sym named)
    (subst (λ ws. IfOk c.read_status.result (IsStatusLine ws)) c.behind-in-Status.ensures c.read_status.ensures)

pub returns-in-Verify : goal.returns-in-Verify
returns-in-Verify c =
    let named = sym c.subcommand_of.ensures ∙ c.in-Verify.is in
    subst (λ s. IfOk c.read_verify.result (IsLineBy s (map string_bytes c.args.words.now))) (sym named)
    (subst (λ ws. IfOk c.read_verify.result (IsVerifyLine ws)) c.behind-in-Verify.ensures c.read_verify.ensures)
