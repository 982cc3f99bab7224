use Rattle.std.proofs.Common.{◌≡◌, ◌+◌, ◌∙◌, ◌++◌, ◌∷◌, [], ap, rules}
use Rattle.um_manager.specs.Connections.{due_of}
use Rattle.um_manager.specs.Replies.{replies_owed, replies_due}
use Rattle.um_manager.proofs.Gathering.{took_more, owed_push}
use Rattle.um_manager.proofs.taking.+take_all.Goals as goal

pub returns-clause-took : goal.returns-clause-took
returns-clause-took t c =
    let noted : c.put_due.new.owed.items ≡ c.args.owed.now.items ++ due_of c.cut_one-request.result ∷ [] = c.put_due.ensures.items ∙ ap (λ d. c.args.owed.now.items ++ d ∷ []) c.note-due.ensures.due in
    search (rules, took_more, noted, c.cut_one-request.ensures, c.note-due.ensures.items, c.take_all.ensures.took)

pub returns-clause-owes : goal.returns-clause-owes
returns-clause-owes t c =
    let push : replies_owed c.put_due.new.owed.items ≡ replies_owed c.args.owed.now.items + replies_due c.note-due.result = ap replies_owed c.put_due.ensures.items ∙ owed_push c.args.owed.now.items c.note-due.result in
    search (rules, push)
