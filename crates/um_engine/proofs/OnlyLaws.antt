-- A refusal of a step is never one of a store. What a state needs to be served, by the tree loaded for it.
use Rattle.std.proofs.Common.{◌≡◌, ◌≢◌, ◌⊎◌, inl, inr, ℕ, ◌≤◌, false, Result, Ok, Err, refl, sym, subst, arith}
use Rattle.std.specs.Prelude.{IsErrAnd, IfErr}
use Rattle.um_model.specs.Profiles.{ReadTree}
use Rattle.um_model.specs.declared.profile.Profile.{Profile}
use Rattle.um_model.specs.Machine.{State, Command, CausesOfLoad, IsTooHeavy}
use Rattle.um_model.specs.Refusals.{Refused}
use Rattle.um_model.specs.Servable.{IsServable}
use Rattle.um_laws.proofs.RefusesLaws.{IsOfCommand, refused_of_command, no_room_of_command}
use Rattle.um_laws.proofs.ServableLaws.{loads_servable, refused_unservable}
use Rattle.um_wire.specs.Refusal.{refused_of}
use Rattle.um_wire.specs.declared.refusal.Refusal.{Refusal}
use Rattle.um_wire.specs.declared.refusal.Refusal.TheVariants as refusal
use Rattle.um_wire.specs.declared.refusal.Refusal.TheVariants.{NoMemory}
use Rattle.um_engine.specs.OfStore.{is_of_store}
use Rattle.um_engine.specs.Planned.{Declines, for_cause, for_room}

-- ---- numbers

declined_of_command : (profile : Profile) (size t : ℕ) (s : State) (command : Command) (r : Refused) → Declines profile size t s command r → IsOfCommand r
declined_of_command profile size t s command r (for_cause h) = refused_of_command profile s command r h
declined_of_command profile size t s command _ (for_room takes heavy) = no_room_of_command

between : (n : ℕ) → (n ≤ 14) ⊎ (n ≡ 21) → 15 ≤ n → n ≤ 20 → ⊥
between n (inl low) least most = omega (arith, low, least)
between n (inr is) least most = omega (arith, is, most)

beyond : (n : ℕ) → (n ≤ 14) ⊎ (n ≡ 21) → 22 ≤ n → ⊥
beyond n (inl low) least = omega (arith, low, least)
beyond n (inr is) least = omega (arith, is, least)

-- a refusal with a command's number, other than want of memory, is never one of a store
of_no_store : (e : Refusal) → (e ≢ NoMemory → IsOfCommand (refused_of e)) → is_of_store e ≡ false
of_no_store refusal.BadRequest of = refl
of_no_store (refusal.UnknownVerb verb) of = refl
of_no_store (refusal.BadName text) of = refl
of_no_store (refusal.NotFound unit) of = refl
of_no_store (refusal.Masked unit) of = refl
of_no_store (refusal.BadSetting unit reason) of = refl
of_no_store (refusal.NotLoaded unit) of = refl
of_no_store (refusal.Clash unit) of = refl
of_no_store (refusal.OrderingCycle units) of = refl
of_no_store (refusal.JobConflict unit) of = refl
of_no_store (refusal.Exists path) of = refl
of_no_store (refusal.BadPath path) of = refl
of_no_store (refusal.TooLarge limit) of = refl
of_no_store refusal.NoRoom of = refl
of_no_store refusal.NoMemory of = refl
of_no_store refusal.Device of = absurd (between 16 (of (λ e. cc)) (omega arith) (omega arith))
of_no_store refusal.Reopen of = absurd (between 17 (of (λ e. cc)) (omega arith) (omega arith))
of_no_store (refusal.Damaged sector) of = absurd (between 18 (of (λ e. cc)) (omega arith) (omega arith))
of_no_store refusal.NotFormatted of = absurd (between 19 (of (λ e. cc)) (omega arith) (omega arith))
of_no_store refusal.GenerationsSpent of = absurd (between 20 (of (λ e. cc)) (omega arith) (omega arith))
of_no_store (refusal.NoSuchJob unit) of = refl
of_no_store refusal.OtherLayout of = absurd (beyond 22 (of (λ e. cc)) (omega arith))

pub declined_of_no_store : (profile : Profile) (size t : ℕ) (s : State) (command : Command) (e : Refusal) → (e ≢ NoMemory → Declines profile size t s command (refused_of e)) → is_of_store e ≡ false
declined_of_no_store profile size t s command e declines = of_no_store e (λ differs. declined_of_command profile size t s command (refused_of e) (declines differs))

-- ---- a state that is served

pub served_servable : (size : ℕ) (s v : State) (tree : ReadTree) → tree ≡ s.loaded → ((r : Refused) → ¬ CausesOfLoad s tree r) → v ≡ s → ¬ IsTooHeavy size v → IsServable size s
served_servable size s v tree is none same light =
    loads_servable size s (subst (λ t. (r : Refused) → ¬ CausesOfLoad s t r) is none) (subst (λ u. ¬ IsTooHeavy size u) same light)

pub load_unservable : (size : ℕ) (s : State) (tree : ReadTree) (e : Refusal) → tree ≡ s.loaded → (e ≢ NoMemory → CausesOfLoad s tree (refused_of e)) → e ≢ NoMemory → ¬ IsServable size s
load_unservable size s tree e is causes differs = refused_unservable size s (refused_of e) (subst (λ t. CausesOfLoad s t (refused_of e)) is (causes differs))

pub heavy_unservable : (size : ℕ) (s v : State) → v ≡ s → IsTooHeavy size v → ¬ IsServable size s
heavy_unservable size s v same heavy held = held.light (subst (IsTooHeavy size) same heavy)

-- a call that passes on a refusal refuses an unservable state
pub unservable_is : {X : Type 0} (size : ℕ) (s : State) (result : Result X Refusal) (e : Refusal) → IsErrAnd result (λ f. f ≡ e) → (e ≢ NoMemory → ¬ IsServable size s)
    → IfErr result (λ f. f ≢ NoMemory → ¬ IsServable size s)
unservable_is size s (Ok done) e h step = absurd h
unservable_is size s (Err f) e h step = subst (λ g. g ≢ NoMemory → ¬ IsServable size s) (sym h) step
