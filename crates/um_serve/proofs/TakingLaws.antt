-- The bytes that the gate takes for a client are a beginning of its manager's output for it.
use Rattle.std.proofs.Common.{◌≡◌, ◌≢◌, ◌<◌, ◌∙◌, inl, inr, ℕ, List, [], ◌∷◌, ◌++◌, Bool, true, false, Option, Some, None, Result, Ok, Err, slice_get, refl, sym, ap, subst, true≢false, arith}
use Rattle.std.proofs.lemmas.List.Concat.{flat_map-append}
use Rattle.um_backlog.specs.Backlog.{Waits, nothing}
use Rattle.um_manager.proofs.Having.{new_at}
use Rattle.um_manager.proofs.PuttingOut.{turned_out}
use Rattle.um_manager.specs.Clients.{frame_in}
use Rattle.um_manager.specs.Done.{PutOut, put_out_in}
use Rattle.um_manager.specs.Going.{IsJustOpened}
use Rattle.um_manager.specs.Had.{since_closed, put_out_of, frames_of}
use Rattle.um_manager.specs.Histories.{History, opens, turns, takes}
use Rattle.um_manager.specs.Places.{Place}
use Rattle.um_manager.specs.Turns.{Now}
use Rattle.um_manager.specs.declared.pieces.Piece.{Piece}
use Rattle.um_manager.specs.declared.pieces.Piece.TheVariants.{Nothing, Bytes, Closed}
use Rattle.um_model.specs.Children.{Call}
use Rattle.um_model.specs.Disk.{Past}
use Rattle.um_model.specs.Sessions.{Session}
use Rattle.um_serve.proofs.ClientLaws.{Story, story_either, own_below, kept}
use Rattle.um_serve.proofs.GotLaws.{closed_or, gone_at}
use Rattle.um_serve.specs.Clients.{output_in, taken_of}
use Rattle.um_serve.specs.Histories.{AreRounds, no_round, and_round, last_round, lost_round, FoundMemory}
use Rattle.um_serve.specs.Rounds.{Round, Trust, Served, Empties, IsRound}
use Rattle.um_serve.specs.Taking.{took_in_rounds, WaitsAt, IsTakenBy}
use Rattle.um_wire.specs.declared.refusal.Refusal.{Refusal}

-- ---- one round

-- of a connection that isn't closed all that was had stays
still_had : {X : Type 0} (p : Option Piece) (had : List X) → p ≢ Some Closed → since_closed p had ≡ had
still_had None had stays = refl
still_had (Some Nothing) had stays = refl
still_had (Some (Bytes bytes)) had stays = refl
still_had (Some Closed) had stays = absurd (stays refl)

none_had : (p : Option Piece) → since_closed {X = ℕ} p [] ≡ []
none_had None = refl
none_had (Some Nothing) = refl
none_had (Some (Bytes bytes)) = refl
none_had (Some Closed) = refl

-- the output of a round for it is taken of its session
left_empty : (t u : Option Session) → Empties t u → (v : Session) × (u ≡ Some v) × (v.output ≡ [])
left_empty None u empties = absurd empties
left_empty (Some t) None empties = absurd empties
left_empty (Some t) (Some u) empties = (u, refl, empties.1)

round_takes : (k : ℕ) → k < 64 → {trust : Trust} {at : Place} {result : Result Unit Refusal} {r : Round} {x y : Served} (round : IsRound trust at result r x y) (took : List ℕ)
    {disk : Past} {before : List Call} (past : History disk before x.now) → IsTakenBy k took x past → (found : FoundMemory result)
    → (rest : List ℕ) × ((since_closed (slice_get r.pieces k) took ++ taken_of k round.said) ++ rest ≡ frames_of (put_out_of k (turns past (round.turns.1 found)))) × WaitsAt k y rest
round_takes k low {r = r} {x = x} {y = y} round took past is found =
    let at_hand = is.waiting round.working in
    let turned = round.turns.1 found in
    let (u, u_at, put) = turned_out turned k at_hand.session at_hand.at in
    let here : output_in (slice_get round.turn.sessions k) ≡ frames_of (put_out_in k turned) =
    ap output_in u_at ∙ put ∙ ap (λ l. since_closed (slice_get r.pieces k) l ++ frames_of (put_out_in k turned)) at_hand.empty
    ∙ ap (λ l. l ++ frames_of (put_out_in k turned)) (none_had (slice_get r.pieces k)) in
    let (v, v_at, empty) = left_empty (slice_get round.turn.sessions k) (slice_get y.now.sessions k) (round.empties k low) in
    elim (closed_or (slice_get r.pieces k)) [
      | inl closed ↦
          let next = own_below 64 k round.turn.sessions round.waits round.said y.waits nothing low
          (round.hears.forgets k ∙ gone_at at_hand.waits (slice_get x.waits k) (slice_get r.pieces k) at_hand.there closed) round.says in (
            next.2.rest,
            subst (λ p. (since_closed p took ++ taken_of k round.said) ++ next.2.rest ≡ frames_of (since_closed p (put_out_of k past) ++ put_out_in k turned)) (sym closed)
                (next.2.all ∙ here),
            record { session = v; at = v_at; empty = empty; waits = next.0; there = next.1; are = next.2.waits },
          )
      | inr open_still ↦
          let next = own_below 64 k round.turn.sessions round.waits round.said y.waits at_hand.waits low
          (kept k r.pieces x.waits round.waits open_still round.hears.forgets ∙ at_hand.there) round.says in
          let before : Story nothing at_hand.waits took (frames_of (put_out_of k past)) =
          record { rest = is.rest; all = is.all; waits = at_hand.are; over = λ e. absurd (true≢false (sym e)) } in
          let story = story_either at_hand.waits.is_over nothing at_hand.waits next.0 took (taken_of k round.said) (frames_of (put_out_of k past))
          (output_in (slice_get round.turn.sessions k)) refl before next.2 in (
            story.rest,
            ap (λ l. (l ++ taken_of k round.said) ++ story.rest) (still_had (slice_get r.pieces k) took open_still) ∙ story.all
                ∙ ap (λ l. frames_of (put_out_of k past) ++ l) here
                ∙ sym (flat_map-append (λ (put : PutOut). frame_in put.reply) (put_out_of k past) (put_out_in k turned))
                ∙ ap (λ l. frames_of (l ++ put_out_in k turned)) (sym (still_had (slice_get r.pieces k) (put_out_of k past) open_still)),
            record { session = v; at = v_at; empty = empty; waits = next.0; there = next.1; are = story.waits },
          )
    ]

-- ---- rounds in order

pub rounds_take : (k : ℕ) → k < 64 → {trust : Trust} {at : Place} {disk : Past} {before : List Call} (rs : List Round) (result : Result Unit Refusal) (x y : Served)
    (past : History disk before x.now) (all : History disk before y.now) (took : List ℕ) (rounds : AreRounds trust at rs result x y past all) → IsTakenBy k took x past
    → IsTakenBy k (took_in_rounds k took rounds) y all
rounds_take k low rs result x y past all took no_round is = is
rounds_take k low rs result x y past all took (and_round {r = r} {rs = later} {mid = mid} round found out rest) is =
    let (left, are, waits) = round_takes k low round took past is found in
    rounds_take k low later result mid y (takes (turns past (round.turns.1 found)) out) all (since_closed (slice_get r.pieces k) took ++ taken_of k round.said) rest
    (record { rest = left; all = are; waiting = λ working. waits })
rounds_take k low rs result x y past all took (last_round refused round found out) is =
    let (left, are, waits) = round_takes k low round took past is found in
    record { rest = left; all = are; waiting = λ working. waits }
rounds_take k low rs result x y past all took (lost_round untaken out) is =
    record { rest = is.rest; all = is.all; waiting = λ working. absurd (true≢false (sym untaken.lost ∙ working)) }

-- nothing was put out right after an opening
just_empty : (k : ℕ) → k < 64 → (at : Place) (honest whole : Bool) (moment : ℕ) (boot : List ℕ) (count sectors : ℕ) {disk : Past} {before : List Call} {b : Now} (past : History disk before b)
    → IsJustOpened at honest whole moment boot count sectors past → (t : Session) × (slice_get b.sessions k ≡ Some t) × (t.output ≡ []) × (put_out_of k past ≡ [])
just_empty k low at honest whole moment boot count sectors (opens sessions opened anew) is =
    let (t, there, new) = new_at k sessions (omega (arith, low, anew.0)) anew.1 in
    (t, there, new.1, refl)
just_empty k low at honest whole moment boot count sectors (turns past turned) is = absurd is
just_empty k low at honest whole moment boot count sectors (takes past out) is = absurd is

pub opened_takes : (k : ℕ) → k < 64 → (at : Place) (honest whole : Bool) (moment : ℕ) (boot : List ℕ) (count sectors : ℕ) (x : Served) {disk : Past} {before : List Call}
    (past : History disk before x.now) → IsJustOpened at honest whole moment boot count sectors past → slice_get x.waits k ≡ Some nothing → IsTakenBy k [] x past
opened_takes k low at honest whole moment boot count sectors x past is there =
    let (t, t_at, empty, none) = just_empty k low at honest whole moment boot count sectors past is in
    record {
      rest = [];
      all = sym (ap frames_of none);
      waiting = λ working. record { session = t; at = t_at; empty = empty; waits = nothing; there = there; are = λ stays. refl };
    }
