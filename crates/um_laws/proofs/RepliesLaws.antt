-- The text of a reply: no reply holds a float, and none is past the limit.
use Rattle.std.proofs.Common.{◌≡◌, ℕ, ◌<◌, ◌≤◌, ◌^◌, List, [], ◌∷◌, length, map, cond, false, true, refl, sym, ap, ◌∙◌, arith, lit≤}
use Rattle.std.specs.Fmt.{digits}
use Rattle.std.specs.Prelude.{nat_le}
use Rattle.serde_json.proofs.OnLiterals.{serde_json_on_literals}
use Rattle.serde_json.specs.Data.{string}
use Rattle.serde_json.specs.View.{items_of}
use Rattle.serde_json.specs.Written.{has_float, items_have_float, compact_text}
use Rattle.um_model.specs.Jobs.{JobShown, job_kind_text, job_state_text}
use Rattle.um_model.specs.Machine.{Reply, Done, Shown, Activity, Files, Relinked, EnabledAs, Listed, Jobs, Told, Refusal, UnitListed}
use Rattle.um_model.specs.Resolution.{UnitFile}
use Rattle.um_model.specs.Service.{active_state_of, active_state_text, sub_state_text, Action, SpawnProcess, SendSignal}
use Rattle.um_model.specs.Refusals.{Refused, too_large}
use Rattle.um_model.specs.Replies.{warning_data, texts_data, action_data, refused_data, reply_data, reply_text}
use Rattle.um_model.specs.Units.{Warning}
use Rattle.um_model.specs.declared.refusals.Limit.TheVariants.{Reply as ReplyLimit}

texts_plain : (texts : List (List ℕ)) → items_have_float (items_of (map string texts)) ≡ false
texts_plain [] = refl
texts_plain (t ∷ ts) = texts_plain ts

warnings_plain : (warnings : List Warning) → items_have_float (items_of (map warning_data warnings)) ≡ false
warnings_plain [] = refl
warnings_plain (w ∷ ws) = warnings_plain ws

action_plain : (a : Action) → has_float (action_data a) ≡ false
action_plain (SpawnProcess n words environment) = rw (texts_plain words) refl
action_plain (SendSignal n signal) = refl

actions_plain : (actions : List Action) → items_have_float (items_of (map action_data actions)) ≡ false
actions_plain [] = refl
actions_plain (a ∷ others) = rw (action_plain a, actions_plain others) refl

-- lists of lists of texts
rows_plain : {A : Type 0} (row : A → List (List ℕ)) (xs : List A) → items_have_float (items_of (map (λ x. texts_data (row x)) xs)) ≡ false
rows_plain row [] = refl
rows_plain row (x ∷ xs) = rw (texts_plain (row x), rows_plain row xs) refl

-- no reply holds a float
pub refused_plain : (r : Refused) → has_float (refused_data r) ≡ false
refused_plain r = rw (texts_plain r.detail) refl

pub reply_plain : (reply : Reply) → has_float (reply_data reply) ≡ false
reply_plain Done = refl
reply_plain (Shown u) = rw (warnings_plain u.warnings) refl
reply_plain (Activity state) = refl
reply_plain (Files files) = rw (rows_plain (λ (f : UnitFile). f.path ∷ f.text ∷ []) files) refl
reply_plain (Relinked made removed) = rw (texts_plain made, texts_plain removed) refl
reply_plain (EnabledAs answer) = refl
reply_plain (Listed units) = rw (rows_plain (λ (u : UnitListed). u.unit ∷ active_state_text (active_state_of u.sub) ∷ sub_state_text u.sub ∷ []) units) refl
reply_plain (Jobs jobs) = rw (rows_plain (λ (j : JobShown). j.unit ∷ job_kind_text j.kind ∷ job_state_text j.state ∷ []) jobs) refl
reply_plain (Told actions) = rw (actions_plain actions) refl
reply_plain (Refusal r) = refused_plain r

pub reply_text-short : (reply : Reply) (text : List ℕ) → text ≡ compact_text (reply_data reply) → length text ≤ 2 ^ 24 → text ≡ reply_text reply
unfolding reply_text
reply_text-short reply text is short =
    let low : nat_le (length text) (2 ^ 24) ≡ true = grind (arith) in
    is ∙ ap (λ b. compact_text (cond b (reply_data reply) (refused_data (too_large ReplyLimit)))) (sym low ∙ ap (λ t. nat_le (length t) (2 ^ 24)) is)

pub reply_text-long : (reply : Reply) (text : List ℕ) → text ≡ compact_text (reply_data reply) → 2 ^ 24 < length text
    → reply_text reply ≡ compact_text (refused_data (too_large ReplyLimit))
unfolding reply_text
reply_text-long reply text is long =
    let high : nat_le (length text) (2 ^ 24) ≡ false = grind (arith) in
    ap (λ b. compact_text (cond b (reply_data reply) (refused_data (too_large ReplyLimit)))) (sym (ap (λ t. nat_le (length t) (2 ^ 24)) is) ∙ high)

-- the refusal of a reply that is too long is short itself
pub too_large_short : length (compact_text (refused_data (too_large ReplyLimit))) ≤ 2 ^ 24
unfolding serde_json_on_literals digits
too_large_short = lit≤ tt
