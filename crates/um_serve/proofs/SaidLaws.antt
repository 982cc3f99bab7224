-- The writes to the clients below a number, and the output taken of their sessions.
use Rattle.std.proofs.Common.{◌≡◌, ◌≢◌, ◌<◌, ◌≤◌, ◌++◌, ◌+◌, ◌||◌, ℕ, zero, suc, List, [], Bool, Option, Some, None, refl, ap, sym, subst, ◌∙◌, append_assoc, append-nil, slice_get, IsTrue, false, arith, inl, inr}
use Rattle.std.proofs.Math.Numerals.{add-one}
use Rattle.std.proofs.lemmas.Bool.{cases_lt}
use Rattle.um_backlog.specs.Backlog.{Waits, HandsAt}
use Rattle.um_gate.specs.Events.{Event, Logs}
use Rattle.um_manager.specs.Replies.{IsOutput}
use Rattle.um_model.specs.Sessions.{Session}
use Rattle.um_serve.specs.Rounds.{Empties, SaysTo, SaysBelow, has_bytes, is_freed, is_stirred, any_stirred}

-- the output for a client is the one that its session held
says_output : (n : ℕ) (t u : Option Session) (bytes : List ℕ) (failed : Bool) (old new : Option Waits) (said : List Event) → IsOutput t bytes failed u
    → HandsAt n old bytes failed said new → SaysTo n t old said new
says_output n None u bytes failed old new said output hands = absurd output
says_output n (Some t) None bytes failed old new said output hands = absurd output
says_output n (Some t) (Some u) bytes failed old new said output hands =
    subst (λ b. HandsAt n old t.output b said new) (output.1 ∙ output.0.2) (subst (λ bs. HandsAt n old bs failed said new) output.0.3 hands)

-- the bytes that wait for the others don't matter
says_same : (n : ℕ) (ts : List Session) (old : List Waits) (said : List Event) (mid new : List Waits) → ((i : ℕ) → i < n → slice_get new i ≡ slice_get mid i)
    → SaysBelow n ts old said mid → SaysBelow n ts old said new
unfolding SaysBelow
says_same zero ts old said mid new same says = says
says_same (suc n) ts old said mid new same says = (
  says.0,
  says.1,
  says_same n ts old says.0 mid new (λ i below. same i (omega (arith, below))) says.2,
  subst (λ (w : Option Waits). SaysTo n (slice_get ts n) (slice_get old n) says.1 w) (sym (same n (omega arith))) says.3,
  says.4,
)

one_more : (n : ℕ) (ts : List Session) (old : List Waits) (before here : List Event) (new : List Waits) → SaysBelow n ts old before new
    → SaysTo n (slice_get ts n) (slice_get old n) here (slice_get new n) → SaysBelow (n + 1) ts old (before ++ here) new
unfolding SaysBelow
one_more n ts old before here new says to = subst (λ k. SaysBelow k ts old (before ++ here) new) (sym (add-one n)) (before, here, says, to, refl)

-- nobody is below the first
pub says_none : (ts : List Session) (old : List Waits) (past : List Event) → (said : List Event) × SaysBelow 0 ts old said old × (past ≡ past ++ said)
unfolding SaysBelow
says_none ts old past = ([], refl, sym (append-nil past))

-- one more client
pub says_more : {h w g f : Bool} (past0 past1 past2 : List Event) (n : ℕ) (ts : List Session) (t u : Option Session) (old mid new : List Waits) (bytes : List ℕ) (failed : Bool)
    → (said : List Event) × SaysBelow n ts old said mid × Logs h w past0 past1 said
    → (here : List Event) × HandsAt n (slice_get mid n) bytes failed here (slice_get new n) × Logs g f past1 past2 here
    → IsOutput t bytes failed u → t ≡ slice_get ts n → slice_get mid n ≡ slice_get old n → ((i : ℕ) → i ≢ n → slice_get new i ≡ slice_get mid i)
    → (IsTrue h → IsTrue g) → (IsTrue f → IsTrue w)
    → (said : List Event) × SaysBelow (n + 1) ts old said new × Logs h f past0 past2 said
says_more past0 past1 past2 n ts t u old mid new bytes failed before hands output is same others honest whole =
    let below = says_same n ts old before.0 mid new (λ i lt. others i (λ e. omega (arith, lt, e))) before.1 in
    let to = says_output n (slice_get ts n) u bytes failed (slice_get old n) (slice_get new n) hands.0 (subst (λ (s : Option Session). IsOutput s bytes failed u) is output)
    (subst (λ (w : Option Waits). HandsAt n w bytes failed hands.0 (slice_get new n)) same hands.1) in (
      before.0 ++ hands.0,
      one_more n ts old before.0 hands.0 new below to,
      λ th tf. hands.2 (honest th) tf ∙ ap (λ es. es ++ hands.0) (before.2 th (whole tf)) ∙ append_assoc past0 before.0 hands.0,
    )

-- ---- whether there is more to do

-- the bytes that wait for the others don't matter
stirred_same : (n : ℕ) (ts : List Session) (old mid new : List Waits) → ((i : ℕ) → i < n → slice_get new i ≡ slice_get mid i)
    → any_stirred n ts old new ≡ any_stirred n ts old mid
unfolding any_stirred
stirred_same zero ts old mid new same = refl
stirred_same (suc n) ts old mid new same =
    ap (λ b. b || is_stirred (slice_get ts n) (slice_get old n) (slice_get new n)) (stirred_same n ts old mid new (λ i below. same i (omega (arith, below))))
    ∙ ap (λ (w : Option Waits). any_stirred n ts old mid || is_stirred (slice_get ts n) (slice_get old n) w) (same n (omega arith))

stirred_one : (n : ℕ) (ts : List Session) (old new : List Waits)
    → any_stirred (n + 1) ts old new ≡ (any_stirred n ts old new || is_stirred (slice_get ts n) (slice_get old n) (slice_get new n))
unfolding any_stirred
stirred_one n ts old new = ap (λ k. any_stirred k ts old new) (add-one n)

-- nobody is below the first
pub stirred_none : (ts : List Session) (old new : List Waits) → false ≡ any_stirred 0 ts old new
unfolding any_stirred
stirred_none ts old new = refl

-- one more client
pub stirred_more : (n : ℕ) (ts : List Session) (t u : Option Session) (old mid new : List Waits) (bytes : List ℕ) (failed before here : Bool)
    → before ≡ any_stirred n ts old mid → here ≡ (has_bytes bytes || is_freed (slice_get mid n) (slice_get new n)) → IsOutput t bytes failed u
    → t ≡ slice_get ts n → slice_get mid n ≡ slice_get old n → ((i : ℕ) → i ≢ n → slice_get new i ≡ slice_get mid i)
    → (before || here) ≡ any_stirred (n + 1) ts old new
stirred_more n ts None u old mid new bytes failed before here was is output at same others = absurd output
stirred_more n ts (Some t) None old mid new bytes failed before here was is output at same others = absurd output
stirred_more n ts (Some t) (Some u) old mid new bytes failed before here was is output at same others =
    ap (λ b. b || here) (was ∙ sym (stirred_same n ts old mid new (λ i lt. others i (λ e. omega (arith, lt, e)))))
    ∙ ap (λ b. any_stirred n ts old new || b)
    (is ∙ ap (λ bs. has_bytes bs || is_freed (slice_get mid n) (slice_get new n)) output.0.3 ∙ ap (λ (w : Option Waits). has_bytes t.output || is_freed w (slice_get new n)) same)
    ∙ ap (λ (s : Option Session). any_stirred n ts old new || is_stirred s (slice_get old n) (slice_get new n)) at ∙ sym (stirred_one n ts old new)

-- ---- the output taken of a session

below_lt : (i n : ℕ) → i < n → i ≡ n → ⊥
below_lt i n below same = omega (arith, below, same)

emptied : (t u : Option Session) (bytes : List ℕ) (failed : Bool) → IsOutput t bytes failed u → Empties t u
emptied None u bytes failed output = absurd output
emptied (Some t) None bytes failed output = absurd output
emptied (Some t) (Some u) bytes failed output = (output.0.0, output.0.1, output.0.2, refl)

pub empties_more : (k j : ℕ) (ts mid new : List Session) (bytes : List ℕ) (failed : Bool) → j ≡ k → ((n : ℕ) → n < k → Empties (slice_get ts n) (slice_get mid n))
    → slice_get mid k ≡ slice_get ts k → IsOutput (slice_get mid j) bytes failed (slice_get new j) → ((i : ℕ) → i ≢ j → slice_get new i ≡ slice_get mid i)
    → (n : ℕ) → n < k + 1 → Empties (slice_get ts n) (slice_get new n)
empties_more k j ts mid new bytes failed is before same output others n below =
    let eq : k ≤ n → n ≡ k = λ ge. omega (arith, below, ge) in
    let last : Empties (slice_get ts k) (slice_get new k) =
    subst (λ (t : Option Session). Empties t (slice_get new k)) same (subst (λ (i : ℕ). Empties (slice_get mid i) (slice_get new i)) is (emptied (slice_get mid j) (slice_get new j) bytes failed output)) in
    elim (cases_lt n k) [
      | inl lt ↦ subst (λ (u : Option Session). Empties (slice_get ts n) u) (sym (others n (λ e. below_lt n k lt (e ∙ is)))) (before n lt)
      | inr ge ↦ subst (λ (i : ℕ). Empties (slice_get ts i) (slice_get new i)) (sym (eq ge)) last
    ]

pub same_above : {X : Type 0} (k j : ℕ) (old mid new : List X) → j ≡ k → ((n : ℕ) → k ≤ n → slice_get mid n ≡ slice_get old n)
    → ((i : ℕ) → i ≢ j → slice_get new i ≡ slice_get mid i) → (n : ℕ) → k + 1 ≤ n → slice_get new n ≡ slice_get old n
same_above k j old mid new is before others n above = others n (λ e. omega (arith, above, e, is)) ∙ before n (omega (arith, above))
