-- The record of a client over rounds since it was opened, and after calls.
use Rattle.std.proofs.Common.{◌≡◌, ◌≢◌, ◌⊎◌, ◌<◌, ◌∙◌, ℕ, List, [], ◌∷◌, ◌++◌, Bool, true, false, Option, Some, None, Result, Err, slice_get, length, refl, sym, ap, subst, true≢false, inl, inr}
use Rattle.um_backlog.specs.Backlog.{Waits, nothing}
use Rattle.um_manager.proofs.Clients.{closed_turn}
use Rattle.um_manager.proofs.Continuing.{is_want}
use Rattle.um_manager.proofs.Talking.{is_served}
use Rattle.um_manager.specs.Clients.{HasHad, IsServed}
use Rattle.um_manager.specs.Clients as connections
use Rattle.um_manager.specs.Places.{Place}
use Rattle.um_manager.specs.Replies.{IsOutput}
use Rattle.um_manager.specs.declared.pieces.Piece.{Piece}
use Rattle.um_manager.specs.declared.pieces.Piece.TheVariants.{Nothing, Bytes, Closed}
use Rattle.um_model.specs.Sessions.{Session, Does, Take}
use Rattle.um_serve.proofs.ClientLaws.{Story, story_none, story_either, own_below, kept, nothing_taken}
use Rattle.um_serve.specs.Clients.{HasGot, opens, closes, rounds, IsFollowed, has_got, had_got, IsTakenOf, output_in, taken_of}
use Rattle.um_serve.specs.Rounds.{Round, Trust, Served, Empties, after_piece, IsRound, Stops, Serves, IsCount}
use Rattle.um_wire.specs.declared.refusal.Refusal.{Refusal}
use Rattle.um_wire.specs.declared.refusal.Refusal.TheVariants.{NoMemory}

-- the facts known of a client
record Got (k : ℕ) (bytes out took : List ℕ) (x : Served) : Type 0 where
  had : HasHad k bytes out x.now
  w : Waits
  at : slice_get x.waits k ≡ Some w
  story : Story nothing w took out

-- the output of a round for it is taken of its session
emptied : (t u : Option Session) → Empties t u → (failed : Bool) × IsOutput t (output_in t) failed u
emptied None u empties = absurd empties
emptied (Some t) None empties = absurd empties
emptied (Some t) (Some u) empties = (u.failed, (empties, refl))

pub gone_at : (w : Waits) (waits : Option Waits) (piece : Option Piece) → waits ≡ Some w → piece ≡ Some Closed → after_piece piece waits ≡ Some nothing
gone_at w waits piece there closed = ap (λ p. after_piece p waits) closed ∙ ap (λ o. after_piece (Some Closed) o) there

got : (k : ℕ) {bytes out took : List ℕ} {x : Served} → k < 64 → HasGot k bytes out took x → Got k bytes out took x
got k low (opens had there) = record { had = had; w = nothing; at = there; story = story_none nothing }
got k low (closes {result = result} {r = r} {x = x} {y = y} before ok round closed) =
    let g = got k low before in
    let turned = round.turns.1 ok in
    let (t, t_at, served) = is_served k _ _ x.now g.had in
    let (u, u_at, new) = closed_turn turned k t t_at closed in
    let here = own_below 64 k round.turn.sessions round.waits round.said y.waits nothing low
    (round.hears.forgets k ∙ gone_at g.w (slice_get x.waits k) (slice_get r.pieces k) g.at closed) round.says in
    let silent : output_in (slice_get round.turn.sessions k) ≡ [] = ap output_in u_at ∙ new.1 in
    let story : Story nothing here.0 (taken_of k round.said) [] = subst (λ l. Story nothing here.0 (taken_of k round.said) l) silent here.2 in
    let none : taken_of k round.said ≡ [] = nothing_taken (taken_of k round.said) story.rest story.all in
    let (failed, empties) = emptied (slice_get round.turn.sessions k) (slice_get y.now.sessions k) (round.empties k low) in
    record {
      had = subst (λ l. HasHad k [] l y.now) silent (connections.takes (output_in (slice_get round.turn.sessions k)) failed (connections.closes g.had turned closed) empties);
      w = here.0;
      at = here.1;
      story = subst (λ l. Story nothing here.0 l []) none story;
    }
got k low (rounds {r = r} {bytes = bytes} {out = out} {took = took} {x = x} {y = y} before ok round open_still) =
    let g = got k low before in
    let turned = round.turns.1 ok in
    let here = own_below 64 k round.turn.sessions round.waits round.said y.waits g.w low
    (kept k r.pieces x.waits round.waits open_still round.hears.forgets ∙ g.at) round.says in
    let (failed, empties) = emptied (slice_get round.turn.sessions k) (slice_get y.now.sessions k) (round.empties k low) in
    record {
      had = connections.takes (output_in (slice_get round.turn.sessions k)) failed (connections.turns g.had turned open_still) empties;
      w = here.0;
      at = here.1;
      story = story_either g.w.is_over nothing g.w here.0 took (taken_of k round.said) out (output_in (slice_get round.turn.sessions k)) refl g.story here.2;
    }

-- Each client is served.
pub client_served : (k : ℕ) (bytes out took : List ℕ) (x : Served) → k < 64 → HasGot k bytes out took x
    → (had : HasHad k bytes out x.now) × (t : Session) × (slice_get x.now.sessions k ≡ Some t) × IsServed had t
    × (waits : Waits) × (slice_get x.waits k ≡ Some waits) × IsTakenOf took out waits
client_served k bytes out took x low has =
    let g = got k low has in
    let (t, t_at, served) = is_served k bytes out x.now g.had in
    (g.had, t, t_at, served, g.w, g.at, record { rest = g.story.rest; all = g.story.all; waiting = g.story.waits })

-- ---- after calls, whatever they answered

pub closed_or : (piece : Option Piece) → (piece ≡ Some Closed) ⊎ (piece ≢ Some Closed)
closed_or None = inr (λ e. cc)
closed_or (Some Nothing) = inr (λ e. cc)
closed_or (Some (Bytes bytes)) = inr (λ e. cc)
closed_or (Some Closed) = inl refl

after_round : (k : ℕ) {trust : Trust} {place : Place} {result : Result Unit Refusal} {r : Round} {bytes out took : List ℕ} {x y : Served} → HasGot k bytes out took x
    → result ≢ Err NoMemory → IsRound trust place result r x y → IsFollowed k y
after_round k {r = r} before ok round = elim (closed_or (slice_get r.pieces k)) [
  | inl closed ↦ has_got (closes before ok round closed)
  | inr open_still ↦ has_got (rounds before ok round open_still)
]

-- the last round doesn't follow a read that was lost
last_working : {trust : Trust} {place : Place} {result : Result Unit Refusal} {r : Round} {x y : Served} → Stops trust place result r x y → x.lost ≡ false
last_working {result = result} stops = elim (is_want result) [ inl want ↦ (stops.untaken want).working | inr other ↦ (stops.is other).working ]

pub followed : {k : ℕ} {x : Served} → IsFollowed k x → (trust : Trust) (place : Place) (rs : List Round) (result : Result Unit Refusal) (y : Served)
    → Serves trust place rs result x y → IsFollowed k y
followed {k = k} follows trust place [] result y serves = subst (IsFollowed k) (sym serves.1) follows
followed {k = k} (has_got before) trust place (r ∷ rs) result y (inl (mid, round, rest)) =
    followed (after_round k before (λ is. cc) round) trust place rs result y rest
followed {k = k} (has_got before) trust place (r ∷ rs) result y (inr (none, stops)) = elim (is_want result) [
  | inl want ↦ had_got before (stops.untaken want)
  | inr other ↦ after_round k before other (stops.is other)
]
followed (had_got before untaken) trust place (r ∷ rs) result y (inl (mid, round, rest)) = absurd (true≢false (sym untaken.lost ∙ round.working))
followed (had_got before untaken) trust place (r ∷ rs) result y (inr (none, stops)) = absurd (true≢false (sym untaken.lost ∙ last_working stops))

-- After a read that was lost nothing is served.
pub nothing_served : (trust : Trust) (place : Place) (rs : List Round) (result : Result Unit Refusal) (limit : ℕ) (x y : Served) → x.lost ≡ true
    → Serves trust place rs result x y → IsCount result (length rs) limit → (y ≡ x) × (limit ≢ 0 → result ≡ Err NoMemory)
nothing_served trust place [] result limit x y lost serves count = (
  serves.1,
  λ some. elim serves.0 [ inl done ↦ absurd (some (sym (subst (λ (it : Result Unit Refusal). IsCount it 0 limit) done count))) | inr want ↦ want ],
)
nothing_served trust place (r ∷ rs) result limit x y lost (inl (mid, round, rest)) count = absurd (true≢false (sym lost ∙ round.working))
nothing_served trust place (r ∷ rs) result limit x y lost (inr (none, stops)) count = absurd (true≢false (sym lost ∙ last_working stops))
