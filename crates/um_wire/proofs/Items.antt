-- Items read and put one after another, as loops do it.
use Rattle.std.proofs.Common.{◌≡◌, ℕ, suc, ◌-◌, ◌+◌, ◌≤◌, ◌<◌, List, [], ◌∷◌, ◌++◌, length, drop, Option, Some, None, refl, sym, ap, ◌∙◌, append_assoc, arith}
use Rattle.std.proofs.lemmas.List.{append-nil, length-drop}
use Rattle.um_model.specs.Bytes.{Decoder, nothing_left, ◌>>=◌, many_at, list_at, number_at}

abbrev some : {A : Type 0} → A → Option A
some x = Some x

abbrev none : {A : Type 0} → Option A
none = None

-- the items read before, and the items still to be read
abbrev pub with_front : {A : Type 0} → List A → Option (List A × List ℕ) → Option (List A × List ℕ)
with_front front read = read >>= λ x. Some (front ++ x.0, x.1)

regroup : {A : Type 0} (front : List A) (n : A) (read : Option (List A × List ℕ)) → with_front front (read >>= λ x. Some (n ∷ x.0, x.1)) ≡ with_front (front ++ n ∷ []) read
regroup {A} front n (Some x) = ap (λ (ns : List A). some (ns, x.1)) (sym (append_assoc front (n ∷ []) x.0))
regroup front n None = refl

module _ {A : Type 0} (one : Decoder A) where
  pub goes_on : (front : List A) (count i : ℕ) (bytes : List ℕ) (n : A) (after : List ℕ) (total : Option (List A × List ℕ)) → i < count → one bytes ≡ Some (n, after)
      → with_front front (many_at one (count - i) bytes) ≡ total → with_front (front ++ n ∷ []) (many_at one (count - (i + 1)) after) ≡ total
  goes_on front count i bytes n after total lt h so_far =
      let k : count - i ≡ suc (count - (i + 1)) = omega arith in
      let here : with_front front (many_at one (count - i) bytes) ≡ with_front (front ++ n ∷ []) (many_at one (count - (i + 1)) after) = rw (k, h) (regroup front n (many_at one (count - (i + 1)) after)) in
      sym here ∙ so_far

  pub ends : (front : List A) (count i : ℕ) (bytes : List ℕ) (total : Option (List A × List ℕ)) → i < count → one bytes ≡ None
      → with_front front (many_at one (count - i) bytes) ≡ total → total ≡ None
  ends front count i bytes total lt h so_far =
      let k : count - i ≡ suc (count - (i + 1)) = omega arith in
      let here : with_front front (many_at one (count - i) bytes) ≡ None = rw (k, h) refl in
      sym so_far ∙ here

  pub is_done : (front : List A) (count i : ℕ) (bytes : List ℕ) (total : Option (List A × List ℕ)) → count ≤ i → with_front front (many_at one (count - i) bytes) ≡ total → total ≡ Some (front, bytes)
  is_done front count i bytes total le so_far =
      let k : count - i ≡ 0 = omega arith in
      let here : with_front front (many_at one (count - i) bytes) ≡ Some (front, bytes) = rw k (ap (λ (ns : List A). some (ns, bytes)) (append-nil front)) in
      sym so_far ∙ here

  pub list_here : (bytes : List ℕ) (count n : ℕ) → number_at 4 bytes ≡ Some (count, drop n bytes) → list_at one bytes ≡ many_at one count (drop n bytes)
  list_here bytes count n e = rw e refl

some_left : {V : Type 0} (v : V) (rest : List ℕ) → 0 < length rest → none ≡ nothing_left (some (v, rest))
some_left v [] h = absurd (omega (arith, h))
some_left v (b ∷ rest) h = refl

-- bytes are left after the read items
pub left_over : {V : Type 0} (r : Option (V × List ℕ)) (v : V) (bytes : List ℕ) (n : ℕ) → r ≡ Some (v, drop n bytes) → n < length bytes → none ≡ nothing_left r
left_over r v bytes n e h = some_left v (drop n bytes) (omega (arith, length-drop n bytes, h)) ∙ ap nothing_left (sym e)
