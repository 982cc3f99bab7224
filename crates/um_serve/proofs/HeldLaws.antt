-- Which clients are held back.
use Rattle.std.proofs.Common.{◌≡◌, ◌≢◌, ◌⊎◌, ◌↔◌, ◌<◌, ◌≤◌, ◌+◌, ◌∙◌, ◌||◌, ◌∷◌, [], ℕ, zero, suc, List, Bool, true, false, length, Option, Some, refl, sym, ap, subst, slice_get, slice_set, arith, inl, inr, true≢false}
use Rattle.std.proofs.lemmas.Bool.{cases_lt}
use Rattle.std.proofs.lemmas.Option.{same_Some}
use Rattle.um_backlog.specs.Backlog.{Waits, is_behind_at}
use Rattle.um_manager.specs.Connections.{HoldsFrameAt}
use Rattle.um_model.specs.Sessions.{Session}
use Rattle.um_serve.specs.Rounds.{IsHeldBack}

-- either holds
either : (frame behind : Bool) (F : Type 0) → ((frame ≡ true) ↔ F) → ((frame || behind) ≡ true) ↔ (F ⊎ (behind ≡ true))
either true behind F is = ((λ e. inl (is.0 refl)), λ e. refl)
either false behind F is = ((λ e. inr e), either_back behind F is)
  where
    either_back : (behind : Bool) (F : Type 0) → ((false ≡ true) ↔ F) → F ⊎ (behind ≡ true) → behind ≡ true
    either_back behind F is (inl f) = absurd (true≢false (sym (is.1 f)))
    either_back behind F is (inr e) = e

-- the code's result for one client
pub held_told : (t : Option Session) (waits : Option Waits) (frame behind result : Bool) → ((frame ≡ true) ↔ HoldsFrameAt t) → behind ≡ is_behind_at waits
    → result ≡ (frame || behind) → (result ≡ true) ↔ IsHeldBack t waits
held_told t waits frame behind result frame_is behind_is is =
    let both = either frame behind (HoldsFrameAt t) frame_is in (
      (λ e. subst (λ b. HoldsFrameAt t ⊎ (b ≡ true)) behind_is (both.0 (sym is ∙ e))),
      (λ h. is ∙ both.1 (subst (λ b. HoldsFrameAt t ⊎ (b ≡ true)) (sym behind_is) h)),
    )

below_lt : (i n : ℕ) → i < n → i ≡ n → ⊥
below_lt i n below same = omega (arith, below, same)

of_some : (is : Option Bool) (result : Bool) {P : Type 0} → is ≡ Some result → ((result ≡ true) ↔ P) → (is ≡ Some true) ↔ P
of_some is result at told = ((λ e. told.0 (same_Some result true (sym at ∙ e))), (λ p. at ∙ ap Some (told.1 p)))

-- one more client
pub held_more : (k : ℕ) (ts : List Session) (waits : List Waits) (old new : List Bool) (result : Bool)
    → ((n : ℕ) → n < k → (slice_get old n ≡ Some true) ↔ IsHeldBack (slice_get ts n) (slice_get waits n))
    → ((result ≡ true) ↔ IsHeldBack (slice_get ts k) (slice_get waits k)) → slice_get new k ≡ Some result → ((i : ℕ) → i ≢ k → slice_get new i ≡ slice_get old i)
    → (n : ℕ) → n < k + 1 → (slice_get new n ≡ Some true) ↔ IsHeldBack (slice_get ts n) (slice_get waits n)
held_more k ts waits old new result before told set others n below =
    let last = of_some (slice_get new k) result set told in
    let same : k ≤ n → k ≡ n = λ ge. omega (arith, below, ge) in
    elim (cases_lt n k) [
      | inl lt ↦ subst (λ (o : Option Bool). (o ≡ Some true) ↔ IsHeldBack (slice_get ts n) (slice_get waits n)) (sym (others n (below_lt n k lt))) (before n lt)
      | inr ge ↦ subst (λ (i : ℕ). (slice_get new i ≡ Some true) ↔ IsHeldBack (slice_get ts i) (slice_get waits i)) (same ge) last
    ]

-- ---- a place of an array that is set

pub set_here : (xs : List Bool) (k : ℕ) (b : Bool) → k < length xs → slice_get (slice_set xs k b) k ≡ Some b
set_here [] k b low = absurd (omega (arith, low))
set_here (x ∷ xs) zero b low = refl
set_here (x ∷ xs) (suc k) b low = set_here xs k b (omega (arith, low))

pub set_there : (xs : List Bool) (k i : ℕ) (b : Bool) → i ≢ k → slice_get (slice_set xs k b) i ≡ slice_get xs i
set_there [] k i b other = refl
set_there (x ∷ xs) zero zero b other = absurd (other refl)
set_there (x ∷ xs) zero (suc i) b other = refl
set_there (x ∷ xs) (suc k) zero b other = refl
set_there (x ∷ xs) (suc k) (suc i) b other = set_there xs k i b (λ e. other (ap suc e))

pub set_long : (xs : List Bool) (k : ℕ) (b : Bool) → length (slice_set xs k b) ≡ length xs
set_long [] k b = refl
set_long (x ∷ xs) zero b = refl
set_long (x ∷ xs) (suc k) b = ap suc (set_long xs k b)
