-- The opening: the store is taken up, the boot is offered, and the processes that are live are adopted.
-- No manual page has this: it is the project's own.
-- `Manager::open` stands on this file.
use Rattle.std.specs.Prelude.{◌≡◌, ◌⊎◌, ℕ, List, [], ◌∷◌, ◌++◌, length, flat_map, map, Bool, true, IsTrue, Result, Ok, Err}
use Rattle.um_keeper.specs.Answering.{Answer, all_asked, taken}
use Rattle.um_keeper.specs.Keeping.{IsBegun}
use Rattle.um_keeper.specs.Opening.{IsTakenUp, IsSomeStore, IsAsBefore}
use Rattle.um_model.specs.Children.{Call, Tale, ForgotOthers}
use Rattle.um_model.specs.Children.{Signalled as Sent}
use Rattle.um_model.specs.Disk.{Image, Past, Images, During, seen}
use Rattle.um_model.specs.Lives.{HasInOrder}
use Rattle.um_model.specs.Machine.{State, Input, Reply, Step, Booted}
use Rattle.um_model.specs.Service.{ByUnit, Action}
use Rattle.um_model.specs.Stands.{StandsFor}
use Rattle.um_model.specs.Store.{body_limit}
use Rattle.um_model.specs.declared.layout.Layout.{Layout}
use Rattle.um_model.specs.declared.layout.Slot.{Slot}
use Rattle.um_model.specs.declared.service.Signal.{Signal}
use Rattle.um_model.specs.declared.service.SubState.{SubState}
use Rattle.um_model.specs.declared.service.UnitState.{UnitState}
use Rattle.um_model.specs.Numbers.{AreNew, started_numbers}
use Rattle.um_model.specs.declared.service.Signal.TheVariants.{Term, Kill}
use Rattle.um_model.specs.declared.service.SubState.TheVariants.{StopSigterm, StopSigkill}
use Rattle.um_wire.specs.declared.refusal.Refusal.{Refusal}
use Rattle.um_wire.specs.declared.refusal.Refusal.TheVariants.{Device}
use Rattle.um_fates.specs.Fates.{AreTalesOf, asks_for, inputs_of_tale, lost, happens_at}
use Rattle.um_fates.specs.Live.{AreLive, AreIn}
use Rattle.um_manager.specs.Orders.{LetGo, signals}
use Rattle.um_manager.specs.Places.{Place, place}
use Rattle.um_manager.specs.Turns.{Now, Answers, Tells, AreSpent, MakesFewCalls, Leaves, Holds, Called}

-- the inputs of adoption: those of the fates reported, where a number that is absent is lost
abbrev pub adoptions : ℕ → List Tale → List Input
adoptions moment told = flat_map (inputs_of_tale lost moment) told

-- the boot as an input
abbrev pub boot_at : ℕ → List ℕ → Input
boot_at moment boot = happens_at moment (Booted boot)

-- The children's calls: all numbers below the next one but the live ones were forgotten, the fates reported queried,
-- these actions ordered, and adopted numbers got TERM if their unit is in stop-sigterm, KILL if in stop-sigkill.
pub record Ended (units : ByUnit UnitState) (live : List ℕ) (next : ℕ) (told : List Tale) (actions : List Action) (old new : List Call)
    (marked : List ℕ) : Type 0 where
  pub termed : List ℕ
  pub are_termed : AreIn units StopSigterm live termed
  pub killed : List ℕ
  pub are_killed : AreIn units StopSigkill live killed
  pub called : Called units (Ok tt) told (actions ++ (signals Term termed ++ signals Kill killed)) (old ++ ForgotOthers live next ∷ []) new live marked

-- so it is if the store took the inputs; if it failed all but the live numbers were forgotten, the fates were queried,
-- and nothing else
abbrev pub CallsOf : Result Unit Refusal → ByUnit UnitState → List ℕ → ℕ → List Tale → List Action → (old new : List Call) → List ℕ → Type 0
CallsOf (Ok done) units live next told actions old new marked = Ended units live next told actions old new marked
CallsOf (Err e) units live next told actions old new marked = new ≡ old ++ (ForgotOthers live next ∷ map asks_for told)

-- Adoption forgot all numbers below the next one that it found but the live ones, queried each live one's fate once,
-- ascending, with a claim, offered the fates, an absent number as lost, and marked the live ones and those whose start
-- was refused.
pub record Adopted (place : Place) (honest whole : Bool) (store : Result Unit Refusal) (moment : ℕ) (a b : Now) : Type 0 where
  pub live : List ℕ
  pub are_live : AreLive a.state.units live
  pub told : List Tale
  pub of_live : AreTalesOf (λ n. true) live told
  pub answers : List Answer
  pub answered : Answers place a.state (adoptions moment told) answers b.state
  pub tells : Tells store place.size a.state (adoptions moment told) answers b.state
  pub order : AreNew a.state.next b.state.next (started_numbers (all_asked answers))
  pub spent : AreSpent place a.state (adoptions moment told) answers a.log b.log
  pub few : store ≡ Ok tt → MakesFewCalls place a.state (adoptions moment told) answers b.state a.log b.log
  pub left : IsTrue place.trusted → Leaves place a.state (adoptions moment told) answers a.disk b.disk
  pub stored : IsTrue place.trusted → store ≡ Ok tt → Holds place b.state b.disk
  pub called : IsTrue honest → IsTrue whole → CallsOf store b.state.units live a.state.next told (all_asked answers) a.past b.past b.marks

-- The steps once the store is taken up: the boot is offered, which has no actions, and then the `count` numbers
-- that are live are adopted.
pub record Began (place : Place) (honest whole : Bool) (store : Result Unit Refusal) (moment : ℕ) (boot : List ℕ) (count : ℕ) (a b : Now) : Type 0 where
  pub mid : Now
  pub reply : Reply
  pub booted : Step place.size a.state (boot_at moment boot) reply [] mid.state
  pub asked_none : mid.past ≡ a.past
  pub left : IsTrue place.trusted → During a.disk mid.disk (IsBegun place.layout a.state (boot_at moment boot ∷ []))
  pub adopted : Adopted place honest whole store moment mid b
  pub numbers : List ℕ
  pub numbers_are : AreLive mid.state.units numbers
  pub count_is : count ≡ length numbers

-- The steps of an opening that is refused, once the store was taken up: the boot was refused, and no call of the
-- children was made; or it was taken, and the store failed while adoption's inputs were offered.
pub data Refuses (place : Place) (honest whole : Bool) (refusal : Refusal) (moment : ℕ) (boot : List ℕ) (a b : Now) : Type 0 where
  unbooted : b.state ≡ a.state → b.past ≡ a.past
      → (IsTrue place.trusted → During a.disk b.disk (IsBegun place.layout a.state (boot_at moment boot ∷ [])))
      → Refuses place honest whole refusal moment boot a b
  unadopted : {count : ℕ} → refusal ≡ Device → Began place honest whole (Err refusal) moment boot count a b
      → Refuses place honest whole refusal moment boot a b

-- the state that a disk of this many sectors is read as, and stands for
pub record IsFound (sectors : ℕ) (disk : Past) (layout : Layout) (s : State) : Type 0 where
  pub slot : Slot
  pub generation : ℕ
  pub taken_up : IsTakenUp sectors (seen disk) layout slot generation s
  pub stands : StandsFor layout (seen disk) s

-- An opening that is refused, of a store of this layout: it wasn't taken up, and nothing was offered or called; or it
-- was, and the boot or the adoption after it was refused.
pub data IsRefused (layout : Layout) (honest whole : Bool) (moment : ℕ) (boot : List ℕ) (sectors : ℕ) (disk left : Past) (past calls : List Call) : Type 0 where
  untaken : calls ≡ past → During disk left (IsAsBefore layout disk) → IsRefused layout honest whole moment boot sectors disk left past calls
  taken_up : {refusal : Refusal} (a b : Now) → IsFound sectors disk layout a.state → a.past ≡ past → During disk a.disk (IsAsBefore layout disk)
      → Refuses (place (body_limit layout) layout true) honest whole refusal moment boot a b → left ≡ b.disk → calls ≡ b.past
      → IsRefused layout honest whole moment boot sectors disk left past calls

-- an image that an opening leaves: a store of a state that one of before was a store of, or of one that a beginning of these inputs gives
abbrev pub IsOfOpening : Layout → Past → State → List Input → Image → Type 0
IsOfOpening layout disk s inputs image = IsAsBefore layout disk image ⊎ IsBegun layout s inputs image

-- Opening: the store is taken up of a disk of this many sectors, and these steps follow; a crash meanwhile leaves a
-- store of a state from before, or of one that the boot and a beginning of adoption's inputs give.
pub record Opened (place : Place) (honest whole : Bool) (moment : ℕ) (boot : List ℕ) (count sectors : ℕ) (disk : Past) (past : List Call) (b : Now)
    : Type 0 where
  pub a : Now
  pub found : IsTrue place.trusted → IsFound sectors disk place.layout a.state
  pub unasked : a.past ≡ past
  pub began : Began place honest whole (Ok tt) moment boot count a b
  pub left : IsTrue place.trusted → Images disk (IsSomeStore place.layout) → During disk b.disk (IsOfOpening place.layout disk a.state
      (boot_at moment boot ∷ taken (adoptions moment began.adopted.told) began.adopted.answers))

-- The children's calls of an opening that is refused after the boot of this state: all numbers that aren't live then
-- are forgotten, below the number that is next then, and fates are queried.
pub record AsksAlone (size : ℕ) (s : State) (moment : ℕ) (boot : List ℕ) (told : List Tale) (old new : List Call) : Type 0 where
  pub reply : Reply
  pub booted : State
  pub boots : Step size s (boot_at moment boot) reply [] booted
  pub live : List ℕ
  pub are_live : AreLive booted.units live
  pub past_is : new ≡ old ++ (ForgotOthers live booted.next ∷ map asks_for told)

-- no call at all is made, or these are
abbrev pub IsSilentIn : ℕ → State → ℕ → List ℕ → List Tale → List Call → List Call → Type 0
IsSilentIn size s moment boot told old new = ((told ≡ []) × (new ≡ old)) ⊎ AsksAlone size s moment boot told old new

-- the same of the state that the disk is read as
pub record IsSilent (sectors : ℕ) (disk : Past) (honest : Bool) (moment : ℕ) (boot : List ℕ) (old new : List Call) : Type 0 where
  pub layout : Layout
  pub state : State
  pub found : IsTrue honest → IsFound sectors disk layout state
  pub told : List Tale
  pub asked : AsksAlone (body_limit layout) state moment boot told old new

-- a store of a state that the boot and some of adoption's inputs give, of those that the children reported meanwhile
pub record IsCutShort (layout : Layout) (moment : ℕ) (boot : List ℕ) (sectors : ℕ) (disk : Past) (honest whole : Bool) (old new : List Call)
    (image : Image) : Type 0 where
  pub state : State
  pub found : IsFound sectors disk layout state
  pub told : List Tale
  pub asked : IsTrue honest → IsTrue whole → IsSilentIn (body_limit layout) state moment boot told old new
  pub some : List Input
  pub are : HasInOrder some (adoptions moment told)
  pub begun : IsBegun layout state (boot_at moment boot ∷ some) image

-- an image that an opening leaves which is refused
abbrev pub IsOfRefused : Layout → ℕ → List ℕ → ℕ → Past → (honest whole : Bool) → (old new : List Call) → Image → Type 0
IsOfRefused layout moment boot sectors disk honest whole old new image =
    IsAsBefore layout disk image ⊎ IsCutShort layout moment boot sectors disk honest whole old new image

-- the signal was sent once, in their order, to those of these numbers whose unit is in this state
pub record Signalled (units : ByUnit UnitState) (sub : SubState) (signal : Signal) (numbers : List ℕ) (old new : List Call) : Type 0 where
  pub chosen : List ℕ
  pub are : AreIn units sub numbers chosen
  pub past_is : new ≡ old ++ map (λ n. Sent n signal) chosen

-- TERM was sent to those of these numbers whose unit is in stop-sigterm, then KILL to those whose unit is in
-- stop-sigkill, and then numbers that aren't live were forgotten.
pub record Ends (units : ByUnit UnitState) (numbers : List ℕ) (old new : List Call) : Type 0 where
  pub termed : List Call
  pub terms : Signalled units StopSigterm Term numbers old termed
  pub killed : List Call
  pub kills : Signalled units StopSigkill Kill numbers termed killed
  pub let_go : LetGo units killed new
