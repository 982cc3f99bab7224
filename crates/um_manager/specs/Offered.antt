-- The offers of openings and turns of a manager to its store, with the outcome of each.
-- No manual page has this: it is the project's own (docs/HEADLINE.md reads the theorem line by line).
-- The history of a manager, and its lives, stand on this file.
use Rattle.std.specs.Prelude.{ℕ, List, [], ◌∷◌, map, Bool, Result}
use Rattle.um_keeper.specs.Offers.{offers, untold}
use Rattle.um_model.specs.Children.{Call}
use Rattle.um_model.specs.Disk.{Past}
use Rattle.um_model.specs.Lives.{answered, unanswered, Offer}
use Rattle.um_model.specs.Machine.{Input}
use Rattle.um_model.specs.declared.layout.Layout.{Layout}
use Rattle.um_wire.specs.declared.refusal.Refusal.{Refusal}
use Rattle.um_manager.specs.Opening.{Opened, IsRefused, untaken, taken_up, unbooted, unadopted, adoptions, boot_at}
use Rattle.um_manager.specs.Places.{Place}
use Rattle.um_manager.specs.Turns.{Now, Turned, inputs_of}
use Rattle.um_manager.specs.declared.pieces.Piece.{Piece}

-- the inputs that a turn offered
abbrev pub offered_in : {at : Place} {honest whole : Bool} {result : Result Unit Refusal} {moment : ℕ} {pieces : List Piece} {a b : Now}
    → Turned at honest whole result moment pieces a b → List Input
offered_in {moment = moment} turned = inputs_of moment turned.told turned.requests

-- the offers of a turn
abbrev pub offers_of_turn : {at : Place} {honest whole : Bool} {result : Result Unit Refusal} {moment : ℕ} {pieces : List Piece} {a b : Now}
    → Turned at honest whole result moment pieces a b → List Offer
offers_of_turn turned = offers (offered_in turned) turned.answers

-- the offers of an opening: the boot, and the fates reported to adoption
abbrev pub offers_of_opening : {at : Place} {honest whole : Bool} {moment : ℕ} {boot : List ℕ} {count sectors : ℕ} {disk : Past} {past : List Call} {b : Now}
    → Opened at honest whole moment boot count sectors disk past b → List Offer
offers_of_opening {moment = moment} {boot = boot} opened =
    record { input = boot_at moment boot; outcome = answered opened.began.reply }
    ∷ offers (adoptions moment opened.began.adopted.told) opened.began.adopted.answers

-- ---- where the machine stops before the answers

-- offers, where the machine stops before any of them is answered
abbrev pub all_untold : List Offer → List Offer
all_untold offered = map (λ (offer : Offer). record { input = offer.input; outcome = untold offer.outcome }) offered

-- the boot, which isn't answered yet
abbrev pub boot_untold : ℕ → List ℕ → Offer
boot_untold moment boot = record { input = boot_at moment boot; outcome = unanswered }

-- the offers of an opening that is refused
abbrev pub untold_of_refused : {layout : Layout} {honest whole : Bool} {moment : ℕ} {boot : List ℕ} {sectors : ℕ} {disk left : Past} {past calls : List Call}
    → IsRefused layout honest whole moment boot sectors disk left past calls → List Offer
untold_of_refused (untaken none stays) = []
untold_of_refused {moment = moment} {boot = boot} (taken_up a b found unasked stays (unbooted state past left) disk calls) = boot_untold moment boot ∷ []
untold_of_refused {moment = moment} {boot = boot} (taken_up a b found unasked stays (unadopted is began) disk calls) =
    boot_untold moment boot ∷ all_untold (offers (adoptions moment began.adopted.told) began.adopted.answers)
