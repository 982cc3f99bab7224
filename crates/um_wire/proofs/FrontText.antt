-- The text in front of bytes, as the code looks for it.
use Rattle.std.proofs.Common.{◌≡◌, ℕ, ◌≤◌, Bool, true, false, cond, ltb, List, length, take, Option, Some, None, refl, sym, ap, subst, ◌∙◌}
use Rattle.std.specs.Str.{IsUtf8, is_utf8}
use Rattle.std.proofs.lemmas.Bool.{le-ltb}
use Rattle.std.proofs.lemmas.Str.{IsUtf8-from_is_utf8, is_utf8-from_IsUtf8}
use Rattle.um_model.specs.Bytes.{front_text}

abbrev some : {A : Type 0} → A → Option A
some x = Some x

abbrev none : Option (List ℕ)
none = None

pub is_text : (bytes : List ℕ) (len : ℕ) (text front : List ℕ) → len ≤ length bytes → front ≡ take len bytes → text ≡ front → IsUtf8 front → some text ≡ front_text len bytes
is_text bytes len text front room e is valid =
    let long : ltb (length bytes) len ≡ false = le-ltb _ _ room in
    let fit : is_utf8 (take len bytes) ≡ true = is_utf8-from_IsUtf8 (take len bytes) (subst IsUtf8 e valid) in
    rw (long, fit) (ap some (is ∙ e))

pub no_text : (bytes : List ℕ) (len : ℕ) (front : List ℕ) → len ≤ length bytes → front ≡ take len bytes → (IsUtf8 front → ⊥) → none ≡ front_text len bytes
no_text bytes len front room e wrong =
    let long : ltb (length bytes) len ≡ false = le-ltb _ _ room in
    rw long (pick (is_utf8 (take len bytes)) refl) where
      pick : (valid : Bool) → is_utf8 (take len bytes) ≡ valid → none ≡ cond valid (some (take len bytes)) none
      pick true is = absurd (wrong (subst IsUtf8 (sym e) (IsUtf8-from_is_utf8 (take len bytes) is)))
      pick false is = refl
