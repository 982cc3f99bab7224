use Rattle.std.proofs.Common.{◌≡◌, refl, rules, subst, Ok, List, ℕ, Option, ap, sym}
use Rattle.std.proofs.lemmas.Result.{IfOk-weaker}
use Rattle.um_memory.proofs.Results.{if_ok_with, at_ok}
use Rattle.um_keeper.specs.Keepers.{state_in}
use Rattle.um_memory.specs.Managers.{state_of, size_of, kept_of}
use Rattle.um_model.specs.Frames.{Answers, unread, queried, told, stepped, kept_after}
use Rattle.um_model.specs.Machine.{State, Told, Refusal}
use Rattle.um_model.specs.Requests.{OfActions, request_of}
use Rattle.um_model.specs.Service.{Action}
use Rattle.um_model.specs.declared.requests.Mode.TheVariants.{Memory}
use Rattle.um_state.specs.View.{reply_of}
use Rattle.um_wire.specs.Refusal.{refused_of}
use Rattle.um_memory.proofs.serving.Manager.answer.Goals as goal

told_answers : (size : ℕ) (s t : State) (kept left : List Action) (bytes : List ℕ) (at : Option ℕ) → request_of Memory bytes ≡ Ok (record { at = at; asked = OfActions })
    → t ≡ s → left ≡ kept_after kept → Answers size s kept bytes (Told kept) t left
told_answers size s t kept left bytes at request same is =
    subst (λ l. Answers size s kept bytes (Told kept) t l) (sym is) (subst (λ x. Answers size s kept bytes (Told kept) x (kept_after kept)) (sym same) (told at request))

pub returns-in_ok-reply-in-Query-clause-reply : goal.returns-in_ok-reply-in-Query-clause-reply
returns-in_ok-reply-in-Query-clause-reply c =
    let request = rw c.in-Query.is at c.in-Ok.ensures in
    IfOk-weaker c.text_of.result _ _ (λ t is. (reply_of c.in_ok-reply-in-Query.reply, is, queried _ _ _ request c.in_ok-reply-in-Query.ensures)) c.text_of.ensures.text

pub returns-in_ok-reply-in-Event-clause-reply : goal.returns-in_ok-reply-in-Event-clause-reply
returns-in_ok-reply-in-Event-clause-reply c =
    let request = rw c.in-Event.is at c.in-Ok.ensures in
    let (actions, step, kept) = c.in_ok-reply-in-Event.ensures.step in
    IfOk-weaker c.text_of-in-Event.result _ _ (λ t is. (reply_of c.in_ok-reply-in-Event.reply, is, rw kept (stepped _ _ _ actions _ request step))) c.text_of-in-Event.ensures.text

pub returns-in-Actions-clause-reply : goal.returns-in-Actions-clause-reply
returns-in-Actions-clause-reply c =
    let request = rw c.in-Actions.is at c.in-Ok.ensures in
    if_ok_with c.tell_actions.result _ _ _ c.tell_actions.ensures.text c.tell_actions.ensures.kept
    (λ t is left. (
      Told (kept_of c.args.self.now),
      is,
      told_answers (size_of c.args.self.now) (state_of c.args.self.now) (state_of c.tell_actions.new.self) (kept_of c.args.self.now) (kept_of c.tell_actions.new.self) c.args.bytes.now _ request (ap (λ k. state_in k) c.tell_actions.ensures.keeper) left,
    ))

pub returns-in-Err : goal.returns-in-Err
returns-in-Err c = record {
  reply = IfOk-weaker c.text_of-in-Err.result _ _ (λ t is. (Refusal (refused_of c.in-Err.refusal), is, unread _ (c.in-Err.ensures (search rules)))) c.text_of-in-Err.ensures.text;
  short = c.text_of-in-Err.ensures.short;
  size = refl;
  working = at_ok c.text_of-in-Err.result _ c.requires;
}
