-- Ends of bytes that begin a character.
use Rattle.std.proofs.Common.{◌≡◌, ◌≤◌, ◌<◌, ◌+◌, ◌-◌, ◌↔◌, ℕ, Bool, false, IsTrue, List, drop, length, slice_index, arith, rules, tests, subst, ⊎_elim}
use Rattle.std.proofs.lemmas.Bool.Decides.{leb_tells}
use Rattle.bstr.specs.Utf8.{lead_len}
use Rattle.um_output.specs.Showing.{IsOpenEnd}

-- it has three bytes at most
lead_low : (b : ℕ) → lead_len b ≤ 4
lead_low b = search (rules, arith)

pub open_low : (bytes : List ℕ) (size : ℕ) → IsOpenEnd bytes size → size ≤ 3
open_low bytes size is = let low = lead_low (slice_index (drop (length bytes - size) bytes) 0) in let below = is.4 in omega arith

-- fewer, once it is found that no character has that many
pub open_lower : (bytes : List ℕ) (size k : ℕ) (found : Bool) → (IsTrue found ↔ IsOpenEnd bytes (k + 1)) → found ≡ false → size ≤ k + 1 → IsOpenEnd bytes size → size ≤ k
open_lower bytes size k found told absent low is =
    ⊎_elim (λ t. t.1)
    (λ t. let past : k < size = t.1 in
    let same : size ≡ k + 1 = omega arith in
    let at : IsOpenEnd bytes (k + 1) = subst (λ n. IsOpenEnd bytes n) same is in
    let there : IsTrue found = told.1 at in search (rules, tests))
    (leb_tells size k)
