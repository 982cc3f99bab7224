-- The images that a crash leaves of turns that follow each other.
use Rattle.std.proofs.Common.{◌≡◌, ℕ, List, [], ◌∷◌, length, map, Bool, Result, refl, ap, subst, arith}
use Rattle.std.specs.Bool.{IsTrue}
use Rattle.um_keeper.specs.Answering.{Answer, AreAnswered, taken}
use Rattle.um_keeper.specs.Keeping.{IsBegun}
use Rattle.um_keeper.specs.Offers.{offers, untold_offers, HasCome}
use Rattle.um_keeper.specs.Parts.{ArePartsOfLives}
use Rattle.um_laws.proofs.DiskLaws.{weaker}
use Rattle.um_model.specs.Disk.{Image, During}
use Rattle.um_model.specs.Lives.{Offer}
use Rattle.um_model.specs.Machine.{Input}
use Rattle.um_model.specs.Store.{body_limit}
use Rattle.um_wire.specs.declared.refusal.Refusal.{Refusal}
use Rattle.um_manager.proofs.Living.{store_ok, none_again}
use Rattle.um_manager.proofs.Offering.{length-told}
use Rattle.um_manager.specs.Clients.{AllTurned, no_turn, and_turn}
use Rattle.um_manager.specs.Crashes.{all_offers, IsLeft}
use Rattle.um_manager.specs.Offered.{offered_in}
use Rattle.um_manager.specs.Places.{Place}
use Rattle.um_manager.specs.Turns.{Now, Answers, Turned}
use Rattle.um_manager.specs.declared.pieces.Piece.{Piece}
use Rattle.um_manager.specs.declared.script.Step.{Step}

-- the state that a life has reached after turns that ended
turns_come : ArePartsOfLives → (place : Place) (h w : Bool) (steps : List Step) (a b : Now) (turns : AllTurned place h w steps a b) → place.size ≡ body_limit place.layout
    → HasCome place.layout a.state (all_offers turns) b.state
turns_come offering place h w steps a b no_turn on = λ more image m. m
turns_come offering place h w steps a b (and_turn {step} {steps = later} {mid = mid} turn turns) on =
    offering.further place.layout a.state mid.state b.state (offers (offered_in turn) turn.answers) (all_offers turns)
    (offering.answered place.layout a.state mid.state (offered_in turn) turn.answers
    (subst (λ n. AreAnswered n a.state (offered_in turn) turn.answers mid.state) on (turn.tells.ok (store_ok turn.store turn.behind turn.result_is))))
    (turns_come offering place h w later mid b turns on)

inputs_untold : (inputs : List Input) (answers : List Answer) → length answers ≡ length inputs → map (λ (offer : Offer). offer.input) (untold_offers inputs answers) ≡ inputs
inputs_untold [] answers same = refl
inputs_untold (input ∷ inputs) [] same = absurd (omega (arith, same))
inputs_untold (input ∷ inputs) (answer ∷ answers) same = ap (λ l. input ∷ l) (inputs_untold inputs answers (omega (arith, same)))

begun_left : ArePartsOfLives → (place : Place) (h w : Bool) (steps : List Step) (a b c : Now) (turns : AllTurned place h w steps a b) (inputs : List Input) (answers : List Answer) (image : Image) → place.size ≡ body_limit place.layout
    → IsTrue place.trusted → Answers place b.state inputs answers c.state → IsBegun place.layout b.state (taken inputs answers) image
    → IsLeft place.layout a.state (all_offers turns) inputs answers image
begun_left offering place h w steps a b c turns inputs answers image on sure told begun = record {
  last_are = inputs_untold inputs answers (length-told place b.state c.state inputs answers told);
  unanswered = offering.untold inputs answers;
  leaves = turns_come offering place h w steps a b turns on (untold_offers inputs answers) image
      (offering.begun place.layout b.state inputs answers image (none_again offering place sure b.state c.state inputs answers told) begun);
}

pub crash_leaves : ArePartsOfLives → (place : Place) (h w v : Bool) (steps : List Step) (a b c : Now) (turns : AllTurned place h w steps a b) (result : Result Unit Refusal) (moment : ℕ) (pieces : List Piece)
    → place.size ≡ body_limit place.layout → IsTrue place.trusted → (next : Turned place h v result moment pieces b c)
    → During b.disk c.disk (IsLeft place.layout a.state (all_offers turns) (offered_in next) next.answers)
crash_leaves offering place h w v steps a b c turns result moment pieces on sure next =
    weaker b.disk c.disk (IsBegun place.layout b.state (taken (offered_in next) next.answers)) (IsLeft place.layout a.state (all_offers turns) (offered_in next) next.answers)
    (λ image. begun_left offering place h w steps a b c turns (offered_in next) next.answers image on sure next.answered) (next.left sure)
