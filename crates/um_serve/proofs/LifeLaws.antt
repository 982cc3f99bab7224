-- The history of a manager goes on with rounds over a gate, and so does a life of it.
use Rattle.std.proofs.Common.{◌≡◌, ◌≢◌, ◌<◌, ◌∙◌, inl, inr, ℕ, List, [], ◌∷◌, ◌++◌, Bool, IsTrue, Option, Some, None, Result, Ok, Err, append-nil, slice_get, refl, sym, ap, subst}
use Rattle.um_manager.proofs.Continuing.{is_want, none_taken, turned_continues, further}
use Rattle.um_manager.proofs.Living.{store_ok}
use Rattle.um_manager.specs.Going.{offers_told, EndsThere, Continues, goes_on, has_stopped}
use Rattle.um_manager.specs.Done.{IsTaken, TakesOut}
use Rattle.um_manager.specs.Histories.{History, turns, takes, offers_in, HasGoneOn}
use Rattle.um_manager.specs.Offered.{offers_of_turn}
use Rattle.um_manager.specs.Places.{Place, place_on}
use Rattle.um_manager.specs.Turns.{Now}
use Rattle.um_model.specs.Children.{Call}
use Rattle.um_model.specs.Disk.{Past}
use Rattle.um_model.specs.Lives.{Offer}
use Rattle.um_model.specs.Sessions.{Session}
use Rattle.um_model.specs.declared.layout.Layout.{Layout}
use Rattle.um_serve.specs.Histories.{AreRounds, no_round, and_round, last_round, lost_round, offers_in_rounds, LivesOn, FoundMemory}
use Rattle.um_serve.specs.Rounds.{Round, Trust, Served, Empties, IsRound, Serves}
use Rattle.um_wire.specs.declared.refusal.Refusal.{Refusal}
use Rattle.um_wire.specs.declared.refusal.Refusal.TheVariants.{NoMemory}

-- ---- the history

emptied_taken : (t u : Option Session) → Empties t u → IsTaken t u
emptied_taken None u empties = absurd empties
emptied_taken (Some t) None empties = absurd empties
emptied_taken (Some t) (Some u) empties = inr (t.output, empties)

-- the output of a round is taken of the sessions
out_of : {trust : Trust} {at : Place} {result : Result Unit Refusal} {r : Round} {x y : Served} (round : IsRound trust at result r x y) → TakesOut round.turn y.now
out_of {y = y} round = record {
  rest = round.rest;
  each = λ k lt. emptied_taken (slice_get round.turn.sessions k) (slice_get y.now.sessions k) (round.empties k lt);
}

pub rounds_go_on : {trust : Trust} {at : Place} (rs : List Round) (result : Result Unit Refusal) (x y : Served) {disk : Past} {before : List Call} (past : History disk before x.now)
    → Serves trust at rs result x y → (all : History disk before y.now) × AreRounds trust at rs result x y past all
rounds_go_on {trust} {at} [] result x y {disk} {before} past serves =
    subst (λ (z : Served). (all : History disk before z.now) × AreRounds trust at [] result x z past all) (sym serves.1) (past, no_round)
rounds_go_on (r ∷ rs) result x y past (inl (mid, round, rest)) =
    let found : FoundMemory (Ok tt) = λ is. cc in
    let (all, rounds) = rounds_go_on rs result mid y (takes (turns past (round.turns.1 found)) (out_of round)) rest in
    (all, and_round round found (out_of round) rounds)
rounds_go_on {trust} {at} (r ∷ rs) result x y {disk} {before} past (inr (none, stops)) =
    subst (λ l. (all : History disk before y.now) × AreRounds trust at (r ∷ l) result x y past all) (sym none)
    (elim (is_want result) [
      | inl want ↦ let untaken = stops.untaken want in let out = none_taken x.now y.now untaken.untouched in (takes past out, lost_round untaken out)
      | inr found ↦ let round = stops.is found in (takes (turns past (round.turns.1 found)) (out_of round), last_round stops.refused round found (out_of round))
    ])

-- ---- a life

-- taking output of the sessions changes nothing of where a life stands
taken_continues : (layout : Layout) {disk : Past} {before : List Call} {a mid b : Now} (past : History disk before a) (all : History disk before mid) (out : TakesOut mid b) (more : List Offer)
    (result : Result Unit Refusal) → Continues layout past all more result → Continues layout past (takes all out) more result
taken_continues layout past all out more result (goes_on gone are) = goes_on gone are
taken_continues layout {b = b} past all out more result (has_stopped refused life ends) = has_stopped refused life (record {
  by_disk = ends.by_disk;
  found = ends.found;
  stop = ends.stop ∙ sym (ap (λ (n : Now). n.disk) out.rest);
  offers = ends.offers;
  told_is = ends.told_is;
  asked = λ trust. let (by, was, are) = ends.asked trust in (by, was, are ∙ sym (ap (λ (n : Now). n.past) out.rest));
})

pub rounds_continue : (layout : Layout) {trust : Trust} {at : Place} {disk : Past} {before : List Call} (rs : List Round) (result : Result Unit Refusal) (x y : Served)
    (past : History disk before x.now) (all : History disk before y.now) (rounds : AreRounds trust at rs result x y past all) → HasGoneOn layout past → at ≡ place_on layout
    → Continues layout past all (offers_in_rounds rounds) result
rounds_continue layout rs result x y past all no_round gone is = goes_on gone (sym (append-nil (offers_in past)))
rounds_continue layout {trust} rs result x y past all (and_round {rs = later} {mid = mid} round found out rest) gone is =
    let turned = round.turns.1 found in
    let answered = store_ok turned.store turned.behind turned.result_is in
    further layout past (takes (turns past turned) out) all (offers_told turned.store (offers_of_turn turned)) (offers_in_rounds rest) result
    (ap (λ r. offers_in past ++ offers_told r (offers_of_turn turned)) (sym answered))
    (rounds_continue layout later result mid y (takes (turns past turned) out) all rest (gone, is, answered) is)
rounds_continue layout {trust} rs result x y past all (last_round refused round found out) gone is =
    let turned = round.turns.1 found in
    taken_continues layout past (turns past turned) out (offers_told turned.store (offers_of_turn turned)) result
    (turned_continues layout trust.children trust.calls result past turned turned.store refl gone is)
rounds_continue layout rs result x y past all (lost_round untaken out) gone is = goes_on gone (sym (append-nil (offers_in past)))

-- each life goes on with rounds
pub rounds_live_on : (trust : Trust) (layout : Layout) {at : Place} {result : Result Unit Refusal} (x y : Served) → at ≡ place_on layout → LivesOn trust at layout result x y
rounds_live_on trust layout {result = result} x y is = λ rs serves disk before past gone.
    let (all, rounds) = rounds_go_on rs result x y past serves in
    (all, rounds, rounds_continue layout rs result x y past all rounds gone is)
