-- A text that stands for something, piece by piece from its front: for another text, for words, for times.
-- The common form of several rules: escapes in names, specifiers, substitution, time spans, quotes, words and lists of words.
-- Names, Values, Words, Substitution and Specifiers depend on this file.
use Rattle.std.specs.Prelude.{ℕ, zero, suc, ◌-◌, List, [], ◌∷◌, ◌++◌, length, drop, Option, Some, None, option_map, ◌≡◌}
use Rattle.um_model.specs.Bytes.{nothing_left}

-- the front of a text can't be read, ends the reading before it, or stands for these and takes this many bytes
pub data Front (A : Type 0) : Type 0 where
  Unreadable : Front A
  Ends : Front A
  Gives : List A → ℕ → Front A

-- the things found in a text and the rest that is left, by its front and by those found after that
abbrev pub by_front : {A : Type 0} → Front A → List ℕ → (ℕ → Option (List A × List ℕ)) → Option (List A × List ℕ)
by_front Unreadable text later = None
by_front Ends text later = Some ([], text)
by_front (Gives found n) text later = option_map (λ r. (found ++ r.0, r.1)) (later (n - 1))

-- the things that a text begins with, in at most this many pieces, and the rest that is left
abbrev pub begun_in : {A : Type 0} → ℕ → (ℕ → List ℕ → Front A) → List ℕ → Option (List A × List ℕ)
begun_in pieces front [] = Some ([], [])
begun_in zero front (b ∷ bs) = None
begun_in (suc pieces) front (b ∷ bs) = by_front (front b bs) (b ∷ bs) (λ n. begun_in pieces front (drop n bs))

-- the things that a text begins with, and the rest; a text has no more pieces than bytes, and proofs/PiecesLaws states the same as a relation
abbrev pub begun : {A : Type 0} → (ℕ → List ℕ → Front A) → List ℕ → Option (List A × List ℕ)
begun front text = begun_in (length text) front text

-- the things that a whole text stands for
abbrev pub reading : {A : Type 0} → (ℕ → List ℕ → Front A) → List ℕ → Option (List A)
reading front text = nothing_left (begun front text)

-- the text begins with pieces, which stand for these one after the other, up to its end or to a front that ends them; this is left
pub data BeginsWith {A : Type 0} (front : ℕ → List ℕ → Front A) : List ℕ → List A → List ℕ → Type 0 where
  done : BeginsWith front [] [] []
  stops : (b : ℕ) (bs : List ℕ) → front b bs ≡ Ends → BeginsWith front (b ∷ bs) [] (b ∷ bs)
  piece : (b n : ℕ) (bs : List ℕ) (out more : List A) (left : List ℕ) → front b bs ≡ Gives out n → BeginsWith front (drop (n - 1) bs) more left
      → BeginsWith front (b ∷ bs) (out ++ more) left

-- the text is pieces alone, which stand for these
abbrev pub StandsForText : {A : Type 0} → (ℕ → List ℕ → Front A) → List ℕ → List A → Type 0
StandsForText front text found = BeginsWith front text found []
