-- How rounds over a gate extend a manager's history, and their offers to its store.
-- No manual page has this: it is the project's own (docs/HEADLINE.md, "Which call gives what").
-- `serve` stands on this file.
use Rattle.std.specs.Prelude.{◌≡◌, ◌≢◌, List, [], ◌∷◌, ◌++◌, Result, Ok, Err}
use Rattle.um_manager.specs.Done.{TakesOut}
use Rattle.um_manager.specs.Going.{offers_told, Continues}
use Rattle.um_manager.specs.Histories.{History, turns, takes, HasGoneOn}
use Rattle.um_manager.specs.Offered.{offers_of_turn}
use Rattle.um_manager.specs.Places.{Place}
use Rattle.um_model.specs.Children.{Call}
use Rattle.um_model.specs.Disk.{Past}
use Rattle.um_model.specs.Lives.{Offer}
use Rattle.um_model.specs.declared.layout.Layout.{Layout}
use Rattle.um_serve.specs.Rounds.{Round, Trust, Served, IsRound, IsUntaken, Serves}
use Rattle.um_wire.specs.declared.refusal.Refusal.{Refusal}
use Rattle.um_wire.specs.declared.refusal.Refusal.TheVariants.{NoMemory}

-- a turn that was answered so found memory
abbrev pub FoundMemory : Result Unit Refusal → Type 0
FoundMemory result = result ≢ Err NoMemory

-- Rounds in order: the turn of each, and then its output for clients is taken; a refusal is the last.
pub data AreRounds (trust : Trust) (at : Place) {disk : Past} {before : List Call} : List Round → Result Unit Refusal → (x y : Served)
    → History disk before x.now → History disk before y.now → Type 0 where
  no_round : {result : Result Unit Refusal} {x : Served} {past : History disk before x.now} → AreRounds trust at [] result x x past past
  and_round : {r : Round} {rs : List Round} {result : Result Unit Refusal} {x mid y : Served} {past : History disk before x.now}
      {all : History disk before y.now} (round : IsRound trust at (Ok tt) r x mid) (found : FoundMemory (Ok tt)) (out : TakesOut round.turn mid.now)
      → AreRounds trust at rs result mid y (takes (turns past (round.turns.1 found)) out) all → AreRounds trust at (r ∷ rs) result x y past all
  last_round : {r : Round} {result : Result Unit Refusal} {x y : Served} {past : History disk before x.now} → result ≢ Ok tt
      → (round : IsRound trust at result r x y) (found : FoundMemory result) (out : TakesOut round.turn y.now)
      → AreRounds trust at (r ∷ []) result x y past (takes (turns past (round.turns.1 found)) out)
  lost_round : {r : Round} {result : Result Unit Refusal} {x y : Served} {past : History disk before x.now} → IsUntaken trust r x y
      → (out : TakesOut x.now y.now) → AreRounds trust at (r ∷ []) result x y past (takes past out)

-- the offers of these rounds, in their order, with the outcome of each
abbrev pub offers_in_rounds : {trust : Trust} {at : Place} {disk : Past} {before : List Call} {rs : List Round} {result : Result Unit Refusal} {x y : Served}
    {past : History disk before x.now} {all : History disk before y.now} → AreRounds trust at rs result x y past all → List Offer
offers_in_rounds no_round = []
offers_in_rounds (and_round round found out rest) = offers_told (round.turns.1 found).store (offers_of_turn (round.turns.1 found)) ++ offers_in_rounds rest
offers_in_rounds (last_round refused round found out) = offers_told (round.turns.1 found).store (offers_of_turn (round.turns.1 found))
offers_in_rounds (lost_round untaken out) = []

-- Whichever rounds fit the calls, they extend the manager's history, and each life with that history: it goes on with
-- exactly the rounds' offers, or its store refused the last of them, and there it has stopped.
abbrev pub LivesOn : Trust → Place → Layout → Result Unit Refusal → (x y : Served) → Type 0
LivesOn trust at layout result x y =
    (rs : List Round) → Serves trust at rs result x y → (disk : Past) (before : List Call) (past : History disk before x.now) → HasGoneOn layout past
    → (all : History disk before y.now) × (rounds : AreRounds trust at rs result x y past all) × Continues layout past all (offers_in_rounds rounds) result
