-- Rounds after rounds, and the facts of rounds that hold under less trust.
use Rattle.std.proofs.Common.{◌++◌, ◌∷◌, ◌+◌, [], ℕ, List, length, Result, Ok, Err, inl, inr, refl, subst, arith, length-append}
use Rattle.um_backlog.specs.Backlog.{Waits}
use Rattle.um_gate.specs.Events.{Event}
use Rattle.um_manager.specs.Places.{Place}
use Rattle.um_manager.proofs.Turning.{turned_less}
use Rattle.um_manager.specs.Turns.{Now, Turns}
use Rattle.um_manager.specs.declared.pieces.Piece.{Piece}
use Rattle.um_serve.specs.Rounds.{Round, Trust, IsWithin, Served, Hears, IsRound, IsUntaken, Stops, Serves, IsCount}
use Rattle.um_wire.specs.declared.refusal.Refusal.{Refusal}

-- ---- less trust

hears_less : (less more : Trust) (r : Round) (said : List Event) (waits : List Waits) (x y : Served) → IsWithin less more → Hears more r said waits x y → Hears less r said waits x y
hears_less less more r said waits x y within p = record {
  only_open = p.only_open;
  are_held = p.are_held;
  none_of_held = p.none_of_held;
  past = λ h w. p.past (within.gate h) (within.events w);
  given = λ h w. p.given (within.clock h) (within.moments w);
  forgets = p.forgets;
}

turns_less : (less more : Trust) (place : Place) (result : Result Unit Refusal) (moment : ℕ) (pieces : List Piece) (a b : Now) → IsWithin less more
    → Turns place result more.children more.calls moment pieces a b → Turns place result less.children less.calls moment pieces a b
turns_less less more place result moment pieces a b within p = (p.0, λ not. turned_less within.children within.calls (p.1 not))

pub round_less : (less more : Trust) (place : Place) (result : Result Unit Refusal) (r : Round) (x y : Served) → IsWithin less more → IsRound more place result r x y
    → IsRound less place result r x y
round_less less more place result r x y within p = record {
  working = p.working;
  said = p.said;
  waits = p.waits;
  hears = hears_less less more r p.said p.waits x y within p.hears;
  turn = p.turn;
  turns = turns_less less more place result r.moment r.pieces x.now p.turn within p.turns;
  says = p.says;
  empties = p.empties;
  rest = p.rest;
  busy = p.busy;
  moment_is = p.moment_is;
  none_lost = p.none_lost;
}

untaken_less : (less more : Trust) (r : Round) (x y : Served) → IsWithin less more → IsUntaken more r x y → IsUntaken less r x y
untaken_less less more r x y within p =
    record { working = p.working; hears = hears_less less more r [] y.waits x y within p.hears; untouched = p.untouched; busy = p.busy; moment_is = p.moment_is; lost = p.lost }

stops_less : (less more : Trust) (place : Place) (result : Result Unit Refusal) (r : Round) (x y : Served) → IsWithin less more → Stops more place result r x y
    → Stops less place result r x y
stops_less less more place result r x y within p = record {
  refused = p.refused;
  untaken = λ e. untaken_less less more r x y within (p.untaken e);
  is = λ e. round_less less more place result r x y within (p.is e);
}

pub serves_less : (less more : Trust) (place : Place) (rs : List Round) (result : Result Unit Refusal) (x y : Served) → IsWithin less more → Serves more place rs result x y
    → Serves less place rs result x y
serves_less less more place [] result x y within p = p
serves_less less more place (r ∷ rs) result x y within (inl (mid, round, others)) =
    inl (mid, round_less less more place (Ok tt) r x mid within round, serves_less less more place rs result mid y within others)
serves_less less more place (r ∷ rs) result x y within (inr (none, stops)) = inr (none, stops_less less more place result r x y within stops)

-- ---- rounds after rounds

pub joined : (all rest : Trust) (place : Place) (first more : List Round) (result : Result Unit Refusal) (x mid y : Served) → IsWithin rest all → Serves all place first (Ok tt) x mid
    → Serves rest place more result mid y → Serves rest place (first ++ more) result x y
joined all rest place [] more result x mid y within serves again = subst (λ (z : Served). Serves rest place more result z y) serves.1 again
joined all rest place (r ∷ rs) more result x mid y within (inl (next, round, others)) again =
    inl (next, round_less rest all place (Ok tt) r x next within round, joined all rest place rs more result next mid y within others again)
joined all rest place (r ∷ rs) more result x mid y within (inr (none, stops)) again = absurd (stops.refused refl)

pub counted : (result : Result Unit Refusal) (first more : List Round) (limit later : ℕ) → IsCount (Ok tt) (length first) limit → IsCount result (length more) later
    → IsCount result (length (first ++ more)) (limit + later)
counted (Ok done) first more limit later count counts = omega (arith, count, counts, length-append first more)
counted (Err e) first more limit later count counts = omega (arith, count, counts, length-append first more)
