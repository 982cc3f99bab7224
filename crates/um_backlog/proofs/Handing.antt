-- The bytes handed to the gate, and those that are left.
use Rattle.std.proofs.Common.{◌≡◌, ◌≢◌, ◌<◌, ◌+◌, ◌++◌, ◌∷◌, [], ℕ, List, Bool, true, false, length, take, drop, nat_lt, refl, sym, ap, ◌∙◌, append_assoc, IsTrue, if◌then◌else◌, inl, subst, arith}
use Rattle.std.proofs.lemmas.List.{take-append-drop, drop-drop}
use Rattle.um_backlog.specs.Backlog.{Waits, given_up, is_given_up, most_waiting, writes, drops, HandsOut, HandsWhere, Hands}
use Rattle.um_gate.specs.Events.{Event, dropped, wrote, Logs}

-- something is left
pub some_left : (is_last : Bool) (left : List ℕ) (n : ℕ) → n ≢ 0 → length left ≡ n → nat_lt 67108864 n ≡ is_given_up is_last left
some_left is_last [] n some is = absurd (some (sym is))
some_left is_last (b ∷ bs) n some is = ap (λ k. nat_lt most_waiting k) (sym is)

-- all that waits is offered
pub offers_all : (number : ℕ) (all taken : List ℕ) → 0 < length all → wrote number all taken ∷ [] ≡ writes number all taken
offers_all number [] taken some = absurd (omega arith)
offers_all number (b ∷ bs) taken some = refl

-- a beginning is taken, and the rest is left
pub cut : (at n : ℕ) (bytes : List ℕ) → take n (drop at bytes) ++ drop (at + n) bytes ≡ drop at bytes
cut at n bytes = ap (λ rest. take n (drop at bytes) ++ rest) (sym (drop-drop n at bytes)) ∙ take-append-drop n (drop at bytes)

-- a client that is given up after a write
pub gives_up : {h w g f : Bool} (p q r : List Event) (number : ℕ) (old : Waits) (bytes : List ℕ) (is_last : Bool) (taken left all : List ℕ)
    → old.is_over ≡ false → all ≡ old.bytes ++ bytes → taken ++ left ≡ all → is_given_up is_last left ≡ true
    → Logs h w p q (writes number all taken) → Logs g f q r (dropped number ∷ []) → (IsTrue h → IsTrue g) → (IsTrue f → IsTrue w)
    → (new : Waits) → new ≡ given_up → (events : List Event) × Hands number old bytes is_last events new × Logs h f p r events
gives_up p q r number old bytes is_last taken left all working all_is cuts is wrote_them dropped_it honest whole new new_is =
    let events = writes number all taken ++ dropped number ∷ [] in
    let out : HandsOut number old bytes is_last events new = record {
      taken = taken;
      left = left;
      all = cuts ∙ all_is;
      events_are = ap (λ xs. writes number xs taken ++ dropped number ∷ []) all_is ∙ ap (λ b. writes number (old.bytes ++ bytes) taken ++ drops number b) (sym is);
      new_is = new_is ∙ sym (ap (λ (b : Bool). if b then given_up else record { bytes = left; is_last = is_last; is_over = false }) is);
    } in (
      events,
      subst (λ (b : Bool). HandsWhere b number old bytes is_last events new) (sym working) (inl out),
      λ th tf.
          dropped_it (honest th) tf ∙ ap (λ xs. xs ++ dropped number ∷ []) (wrote_them th (whole tf)) ∙ append_assoc p (writes number all taken) (dropped number ∷ []),
    )
