-- The reads of the connections below a number.
use Rattle.std.proofs.Common.{◌≡◌, ◌≢◌, ◌<◌, ◌≤◌, ◌++◌, ◌+◌, ℕ, zero, suc, List, Bool, false, Option, Some, None, true, refl, ap, subst, sym, ◌∙◌, append_assoc, append-nil, slice_get, arith, inl, inr}
use Rattle.std.proofs.Math.Numerals.{add-one}
use Rattle.std.proofs.lemmas.Bool.{cases_lt}
use Rattle.um_gate.specs.Events.{Event}
use Rattle.um_manager.specs.declared.pieces.Piece.{Piece}
use Rattle.um_manager.specs.declared.pieces.Piece.TheVariants.{Nothing}
use Rattle.um_serve.specs.Rounds.{reads_below, reads_one, IsSilent}

-- pieces that agree below it give the same reads
reads_same : (n : ℕ) (which held : List Bool) (old new : List Piece) → ((i : ℕ) → i < n → slice_get new i ≡ slice_get old i)
    → reads_below n which held new ≡ reads_below n which held old
unfolding reads_below
reads_same zero which held old new same = refl
reads_same (suc n) which held old new same =
    ap (λ es. es ++ reads_one n (slice_get which n) (slice_get held n) (slice_get new n)) (reads_same n which held old new (λ i below. same i (omega (arith, below))))
    ∙ ap (λ p. reads_below n which held old ++ reads_one n (slice_get which n) (slice_get held n) p) (same n (omega arith))

one_more : (n : ℕ) (which held : List Bool) (pieces : List Piece)
    → reads_below (n + 1) which held pieces ≡ reads_below n which held pieces ++ reads_one n (slice_get which n) (slice_get held n) (slice_get pieces n)
unfolding reads_below
one_more n which held pieces = ap (λ k. reads_below k which held pieces) (add-one n)

-- no read is below the first
pub reads_none : (past : List Event) (which held : List Bool) (pieces : List Piece) → past ≡ past ++ reads_below 0 which held pieces
unfolding reads_below
reads_none past which held pieces = sym (append-nil past)

below_lt : (i n : ℕ) → i < n → i ≡ n → ⊥
below_lt i n below same = omega (arith, below, same)

-- one more read
pub reads_more : (past0 past1 past2 : List Event) (n : ℕ) (which held : List Bool) (old new : List Piece) (is_open is_held : Bool) (piece : Piece)
    → past2 ≡ past1 ++ reads_one n (Some is_open) (Some is_held) (Some piece) → past1 ≡ past0 ++ reads_below n which held old → slice_get which n ≡ Some is_open
    → slice_get held n ≡ Some is_held → slice_get new n ≡ Some piece → ((i : ℕ) → i ≢ n → slice_get new i ≡ slice_get old i)
    → past2 ≡ past0 ++ reads_below (n + 1) which held new
reads_more past0 past1 past2 n which held old new is_open is_held piece more before is_it held_is piece_is others =
    more ∙ ap (λ es. es ++ reads_one n (Some is_open) (Some is_held) (Some piece)) before
    ∙ append_assoc past0 (reads_below n which held old) (reads_one n (Some is_open) (Some is_held) (Some piece))
    ∙ ap (λ es. past0 ++ es)
    (sym
    (one_more n which held new
    ∙ ap (λ es. es ++ reads_one n (slice_get which n) (slice_get held n) (slice_get new n)) (reads_same n which held old new (λ i below. others i (below_lt i n below)))
    ∙ ap (λ o. reads_below n which held old ++ reads_one n o (slice_get held n) (slice_get new n)) is_it
    ∙ ap (λ o. reads_below n which held old ++ reads_one n (Some is_open) o (slice_get new n)) held_is
    ∙ ap (λ p. reads_below n which held old ++ reads_one n (Some is_open) (Some is_held) p) piece_is))

abbrev falsehood : Option Bool → Bool
falsehood (Some b) = b
falsehood None = false

abbrev truth : Option Bool → Bool
truth (Some b) = b
truth None = true

-- one more connection that isn't open has no piece
pub only_more : (k : ℕ) (which : List Bool) (old new : List Piece) (is_open : Bool) (piece : Piece)
    → ((n : ℕ) → n < k → slice_get which n ≡ Some false → slice_get old n ≡ Some Nothing) → slice_get which k ≡ Some is_open
    → slice_get new k ≡ Some piece → (is_open ≡ false → piece ≡ Nothing) → ((i : ℕ) → i ≢ k → slice_get new i ≡ slice_get old i)
    → (n : ℕ) → n < k + 1 → slice_get which n ≡ Some false → slice_get new n ≡ Some Nothing
only_more k which old new is_open piece before is_it piece_is closed others n below shut =
    let same : k ≤ n → n ≡ k = λ ge. omega (arith, below, ge) in
    let last : n ≡ k → slice_get new n ≡ Some Nothing = λ e. ap (λ i. slice_get new i) e ∙ piece_is ∙ ap Some (closed (ap truth (sym is_it ∙ ap (λ i. slice_get which i) (sym e) ∙ shut))) in
    elim (cases_lt n k) [ inl lt ↦ others n (below_lt n k lt) ∙ before n lt shut | inr ge ↦ last (same ge) ]

-- one more that is held back has no bytes
pub silent_more : (k : ℕ) (held : List Bool) (old new : List Piece) (is_held : Bool) (piece : Piece)
    → ((n : ℕ) → n < k → slice_get held n ≡ Some true → IsSilent (slice_get old n)) → slice_get held k ≡ Some is_held
    → slice_get new k ≡ Some piece → (is_held ≡ true → IsSilent (Some piece)) → ((i : ℕ) → i ≢ k → slice_get new i ≡ slice_get old i)
    → (n : ℕ) → n < k + 1 → slice_get held n ≡ Some true → IsSilent (slice_get new n)
silent_more k held old new is_held piece before is_it piece_is silent others n below back =
    let same : k ≤ n → n ≡ k = λ ge. omega (arith, below, ge) in
    let last : n ≡ k → IsSilent (slice_get new n) = λ e.
    subst IsSilent (sym (ap (λ i. slice_get new i) e ∙ piece_is)) (silent (ap falsehood (sym is_it ∙ ap (λ i. slice_get held i) (sym e) ∙ back))) in
    elim (cases_lt n k) [ inl lt ↦ subst IsSilent (sym (others n (below_lt n k lt))) (before n lt back) | inr ge ↦ last (same ge) ]
