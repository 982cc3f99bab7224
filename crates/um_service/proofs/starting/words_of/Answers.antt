use Rattle.std.proofs.Common.{List, ℕ, cond, map, option_map, string_bytes, sym, ap, subst, ◌∙◌}
use Rattle.std.proofs.lemmas.Result.{IfOk-weaker}
use Rattle.um_model.specs.Substitution.{AreSubstituted}
use Rattle.um_service.specs.Started.{started_words}
use Rattle.um_words.specs.Commands.{command_seen}
use Rattle.um_words.specs.Environment.{variables_of}
use Rattle.um_words.specs.Substituted.{substituted}
use Rattle.um_words.proofs.CountLemmas.{substituted_is}
use Rattle.um_service.proofs.starting.words_of.Goals as goal

pub returns-then-command : goal.returns-then-command
returns-then-command c =
    let environment = variables_of c.args.environment.now in
    let written : List (List ℕ) = map string_bytes c.in-Some.command.now.words.items in
    IfOk-weaker c.substitute.result _ _
    (λ words are. sym (ap (λ o. started_words environment (option_map (λ x. command_seen x.now) o)) c.in-Some.is
    ∙ ap (λ b. cond b (substituted environment written) written) c.if-command.true
    ∙ substituted_is environment written (map string_bytes words.items)
    (subst (λ w. AreSubstituted environment (map string_bytes w) (map string_bytes words.items)) c.as_slice.ensures.value are)))
    c.substitute.ensures

pub returns-else-command : goal.returns-else-command
returns-else-command c =
    let environment = variables_of c.args.environment.now in
    let written : List (List ℕ) = map string_bytes c.in-Some.command.now.words.items in
    IfOk-weaker c.copied.result _ _
    (λ words same. same ∙ ap (map string_bytes) c.as_slice-else-command.ensures.value
    ∙ sym (ap (λ o. started_words environment (option_map (λ x. command_seen x.now) o)) c.in-Some.is
    ∙ ap (λ b. cond b (substituted environment written) written) c.if-command.false))
    c.copied.ensures
