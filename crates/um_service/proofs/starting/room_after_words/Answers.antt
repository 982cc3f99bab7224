use Rattle.std.proofs.Common.{List, ℕ, cond, map, option_map, string_bytes, sym, ap, ◌∙◌}
use Rattle.std.proofs.lemmas.Result.{IfOk-weaker}
use Rattle.um_service.specs.Started.{started_words}
use Rattle.um_words.specs.Commands.{command_seen}
use Rattle.um_words.specs.Environment.{variables_of}
use Rattle.um_words.specs.Rooms.{left}
use Rattle.um_words.specs.Substituted.{substituted}
use Rattle.um_words.proofs.RoomLemmas.{left_nothing}
use Rattle.um_service.proofs.starting.room_after_words.Goals as goal

pub returns-in_default : goal.returns-in_default
returns-in_default c =
    sym (left_nothing c.args.room)
    ∙ ap (left c.args.room) (sym (ap (λ o. started_words (variables_of c.args.environment.now) (option_map (λ x. command_seen x.now) o)) c.in_default.is))

pub returns-then-command : goal.returns-then-command
returns-then-command c =
    let environment = variables_of c.args.environment.now in
    let written : List (List ℕ) = map string_bytes c.in-Some.command.now.words.items in
    let same = ap (λ w. substituted environment (map string_bytes w)) c.as_slice.ensures.value
    ∙ sym (ap (λ o. started_words environment (option_map (λ x. command_seen x.now) o)) c.in-Some.is
    ∙ ap (λ b. cond b (substituted environment written) written) c.if-command.true) in
    IfOk-weaker c.room_after.result _ _ (λ free told. told ∙ ap (left c.args.room) same) c.room_after.ensures

pub returns-else-command : goal.returns-else-command
returns-else-command c =
    let environment = variables_of c.args.environment.now in
    let written : List (List ℕ) = map string_bytes c.in-Some.command.now.words.items in
    c.after_texts.ensures
    ∙ ap (left c.args.room) (ap (map string_bytes) c.as_slice-else-command.ensures.value
    ∙ sym (ap (λ o. started_words environment (option_map (λ x. command_seen x.now) o)) c.in-Some.is
    ∙ ap (λ b. cond b (substituted environment written) written) c.if-command.false))
