-- The laws of texts that stand for another, piece by piece: at most one reading, and the function that finds it.
use Rattle.std.proofs.Common.{◌≡◌, ◌↔◌, ◌-◌, ◌<◌, ◌≤◌, ℕ, zero, suc, List, [], ◌∷◌, ◌++◌, Option, Some, None, option_map, length, get_or, take, drop, append_assoc, refl, sym, ap, ◌∙◌, subst, arith}
use Rattle.std.proofs.lemmas.List.{length-append, length-drop, take-append-drop}
use Rattle.std.proofs.Math.Seq.{drop-append_seam}
use Rattle.std.proofs.lemmas.Option.{none-some, same_Some, some_pair_parts}
use Rattle.um_model.specs.Bytes.{nothing_left as whole}
use Rattle.um_model.specs.Pieces.{Front, Unreadable, Ends, Gives, by_front, begun_in, begun}
pub use Rattle.um_model.specs.Pieces.{reading}
use Rattle.um_model.specs.FileForms.{with_front}
use Rattle.um_model.specs.Pieces.{BeginsWith, StandsForText, done, stops, piece}

-- these, and then the reading
abbrev pub prefixed : {A : Type 0} → List A → Option (List A) → Option (List A)
prefixed found r = option_map (λ rest. found ++ rest) r

-- Pieces enough are as good as more.

same_later : {A : Type 0} (f : Front A) (text : List ℕ) (later other : ℕ → Option (List A × List ℕ)) → ((n : ℕ) → later n ≡ other n)
    → by_front f text later ≡ by_front f text other
same_later Unreadable text later other same = refl
same_later Ends text later other same = refl
same_later (Gives found n) text later other same = ap (with_front found) (same (n - 1))

enough : {A : Type 0} (front : ℕ → List ℕ → Front A) (n m : ℕ) (text : List ℕ) → length text ≤ n → length text ≤ m → begun_in n front text ≡ begun_in m front text
enough front zero zero text small low = refl
enough front zero (suc m) [] small low = refl
enough front (suc n) zero [] small low = refl
enough front (suc n) (suc m) [] small low = refl
enough front zero (suc m) (b ∷ bs) small low = absurd (omega arith)
enough front (suc n) zero (b ∷ bs) small low = absurd (omega arith)
enough front (suc n) (suc m) (b ∷ bs) small low =
    same_later (front b bs) (b ∷ bs) (λ k. begun_in n front (drop k bs)) (λ k. begun_in m front (drop k bs))
    (λ k. enough front n m (drop k bs) (omega (arith, length-drop k bs)) (omega (arith, length-drop k bs)))

-- a text begins as its front says, and then as the rest after that begins
pub begun_step : {A : Type 0} (front : ℕ → List ℕ → Front A) (b : ℕ) (bs : List ℕ) → begun front (b ∷ bs) ≡ by_front (front b bs) (b ∷ bs) (λ n. begun front (drop n bs))
begun_step front b bs =
    same_later (front b bs) (b ∷ bs) (λ k. begun_in (length bs) front (drop k bs)) (λ k. begun front (drop k bs))
    (λ k. enough front (length bs) (length (drop k bs)) (drop k bs) (omega (arith, length-drop k bs)) (omega arith))

-- a first piece, and then the values found after it
pub begun_first : {A : Type 0} (front : ℕ → List ℕ → Front A) (b n : ℕ) (bs : List ℕ) (gives : List A) → front b bs ≡ Gives gives n
    → begun front (b ∷ bs) ≡ with_front gives (begun front (drop (n - 1) bs))
begun_first front b n bs gives e = begun_step front b bs ∙ ap (λ f. by_front f (b ∷ bs) (λ k. begun front (drop k bs))) e

-- The function finds each beginning, and nothing else.

pub begun-BeginsWith : {A : Type 0} (front : ℕ → List ℕ → Front A) (text : List ℕ) (found : List A) (left : List ℕ) → BeginsWith front text found left
    → begun front text ≡ Some (found, left)
begun-BeginsWith front text found left done = refl
begun-BeginsWith front text found left (stops b bs e) = begun_step front b bs ∙ ap (λ f. by_front f (b ∷ bs) (λ k. begun front (drop k bs))) e
begun-BeginsWith front text found left (piece b n bs out more rest e later) =
    begun_first front b n bs out e ∙ ap (with_front out) (begun-BeginsWith front (drop (n - 1) bs) more rest later)

taken_off : {A : Type 0} (found : List A) (r : Option (List A × List ℕ)) (all : List A) (left : List ℕ) → with_front found r ≡ Some (all, left)
    → (more : List A) × (r ≡ Some (more, left)) × (found ++ more ≡ all)
taken_off found None all left e = absurd (none-some (all, left) e)
taken_off found (Some p) all left e = let q = some_pair_parts (found ++ p.0) all p.1 left e in (p.0, ap (λ t. Some (p.0, t)) q.1, q.0)

abbrev Finds : {A : Type 0} → (ℕ → List ℕ → Front A) → ℕ → Type 0
Finds {A = A} front size = (text : List ℕ) (found : List A) (left : List ℕ) → length text ≤ size → begun front text ≡ Some (found, left) → BeginsWith front text found left

by_case : {A : Type 0} (front : ℕ → List ℕ → Front A) (size : ℕ) → Finds front size → (f : Front A) (b : ℕ) (bs : List ℕ) (found : List A) (left : List ℕ) → length bs ≤ size
    → front b bs ≡ f → by_front f (b ∷ bs) (λ n. begun front (drop n bs)) ≡ Some (found, left) → BeginsWith front (b ∷ bs) found left
by_case front size finds Unreadable b bs found left small is h = absurd (none-some (found, left) h)
by_case front size finds Ends b bs found left small is h =
    let p = some_pair_parts [] found (b ∷ bs) left h in
    subst (λ w. BeginsWith front (b ∷ bs) w left) p.0 (subst (λ r. BeginsWith front (b ∷ bs) [] r) p.1 (stops b bs is))
by_case front size finds (Gives gives n) b bs found left small is h =
    let t = taken_off gives (begun front (drop (n - 1) bs)) found left h in
    subst (λ o. BeginsWith front (b ∷ bs) o left) t.2
    (piece b n bs gives t.0 left is (finds (drop (n - 1) bs) t.0 left (omega (arith, length-drop (n - 1) bs)) t.1))

BeginsWith-sized : {A : Type 0} (front : ℕ → List ℕ → Front A) (size : ℕ) → Finds front size
BeginsWith-sized front size [] found left small e =
    let p = some_pair_parts [] found [] left e in
    subst (λ w. BeginsWith front [] w left) p.0 (subst (λ r. BeginsWith front [] [] r) p.1 done)
BeginsWith-sized front zero (b ∷ bs) found left small e = absurd (omega arith)
BeginsWith-sized front (suc size) (b ∷ bs) found left small e =
    by_case front size (BeginsWith-sized front size) (front b bs) b bs found left (omega arith) refl (sym (begun_step front b bs) ∙ e)

pub BeginsWith-begun : {A : Type 0} (front : ℕ → List ℕ → Front A) (text : List ℕ) (found : List A) (left : List ℕ) → begun front text ≡ Some (found, left)
    → BeginsWith front text found left
BeginsWith-begun front text found left e = BeginsWith-sized front (length text) text found left (omega arith) e

-- the function finds exactly the beginnings of a text
pub begun_is : {A : Type 0} (front : ℕ → List ℕ → Front A) (text : List ℕ) (found : List A) (left : List ℕ) → (begun front text ≡ Some (found, left)) ↔ BeginsWith front text found left
begun_is front text found left = (BeginsWith-begun front text found left, begun-BeginsWith front text found left)

-- a text begins in one way at most
pub one_beginning : {A : Type 0} (front : ℕ → List ℕ → Front A) (text : List ℕ) (a b : List A) (l r : List ℕ) → BeginsWith front text a l → BeginsWith front text b r
    → (a ≡ b) × (l ≡ r)
one_beginning front text a b l r m n = some_pair_parts a b l r (sym (begun-BeginsWith front text a l m) ∙ begun-BeginsWith front text b r n)

-- the function finds each reading
pub reading-StandsForText : {A : Type 0} (front : ℕ → List ℕ → Front A) (text : List ℕ) (bytes : List A) → StandsForText front text bytes → reading front text ≡ Some bytes
reading-StandsForText front text bytes stands = ap whole (begun-BeginsWith front text bytes [] stands)

nothing_left : {A : Type 0} (r : Option (List A × List ℕ)) (found : List A) → whole r ≡ Some found → r ≡ Some (found, [])
nothing_left None found e = absurd (none-some found e)
nothing_left (Some (f, [])) found e = ap (λ w. Some (w, [])) (same_Some f found e)
nothing_left (Some (f, b ∷ left)) found e = absurd (none-some found e)

-- each value that the function finds is a reading
pub StandsForText-reading : {A : Type 0} (front : ℕ → List ℕ → Front A) (text : List ℕ) (bytes : List A) → reading front text ≡ Some bytes → StandsForText front text bytes
StandsForText-reading front text bytes e = BeginsWith-begun front text bytes [] (nothing_left (begun front text) bytes e)

pub reading_is : {A : Type 0} (front : ℕ → List ℕ → Front A) (text : List ℕ) (found : List A) → (reading front text ≡ Some found) ↔ StandsForText front text found
reading_is front text found = (StandsForText-reading front text found, reading-StandsForText front text found)

-- if it finds none there is none
pub no_reading : {A : Type 0} (front : ℕ → List ℕ → Front A) (text : List ℕ) (bytes : List A) → reading front text ≡ None → ¬ (StandsForText front text bytes)
no_reading front text bytes e stands = none-some bytes (sym e ∙ reading-StandsForText front text bytes stands)

-- a text stands for one other at most
pub one_reading : {A : Type 0} (front : ℕ → List ℕ → Front A) (text : List ℕ) (a b : List A) → StandsForText front text a → StandsForText front text b → a ≡ b
one_reading front text a b m n = (one_beginning front text a b [] [] m n).0

-- Steps.

pub prefixed-prefixed : {A : Type 0} (xs ys : List A) (r : Option (List A)) → prefixed xs (prefixed ys r) ≡ prefixed (xs ++ ys) r
prefixed-prefixed xs ys None = refl
prefixed-prefixed xs ys (Some z) = ap Some (sym (append_assoc xs ys z))

pub prefixed-nil : {A : Type 0} (r : Option (List A)) → prefixed [] r ≡ r
prefixed-nil None = refl
prefixed-nil (Some z) = refl

whole_front : {A : Type 0} (found : List A) (r : Option (List A × List ℕ)) → whole (with_front found r) ≡ prefixed found (whole r)
whole_front found None = refl
whole_front found (Some (more, [])) = refl
whole_front found (Some (more, b ∷ left)) = refl

-- a first piece, and then the reading of the rest
pub reading_first : {A : Type 0} (front : ℕ → List ℕ → Front A) (b n : ℕ) (bs : List ℕ) (gives : List A) → front b bs ≡ Gives gives n
    → reading front (b ∷ bs) ≡ prefixed gives (reading front (drop (n - 1) bs))
reading_first front b n bs gives e = ap whole (begun_first front b n bs gives e) ∙ whole_front gives (begun front (drop (n - 1) bs))

-- one piece more: bytes in front of the reading of a text are the same bytes and the piece, in front of the reading of the rest
pub reading_more : {A : Type 0} (front : ℕ → List ℕ → Front A) (b n : ℕ) (bs : List ℕ) (gives bytes : List A) → front b bs ≡ Gives gives n
    → prefixed bytes (reading front (b ∷ bs)) ≡ prefixed (bytes ++ gives) (reading front (drop (n - 1) bs))
reading_more front b n bs gives bytes e =
    ap (prefixed bytes) (reading_first front b n bs gives e) ∙ prefixed-prefixed bytes gives (reading front (drop (n - 1) bs))

-- a text with an unreadable front has no reading
pub reading_unreadable : {A : Type 0} (front : ℕ → List ℕ → Front A) (b : ℕ) (bs : List ℕ) → front b bs ≡ Unreadable → reading front (b ∷ bs) ≡ None
reading_unreadable front b bs e = ap whole (begun_step front b bs ∙ ap (λ f. by_front f (b ∷ bs) (λ k. begun front (drop k bs))) e)

-- and so no piece more
pub reading_none : {A : Type 0} (front : ℕ → List ℕ → Front A) (b : ℕ) (bs : List ℕ) (bytes : List A) → front b bs ≡ Unreadable → prefixed bytes (reading front (b ∷ bs)) ≡ None
reading_none front b bs bytes e = ap (prefixed bytes) (reading_unreadable front b bs e)

-- a front that can be read
abbrev pub IsRead : {A : Type 0} → Front A → Type 0
IsRead {A = A} front = (gives : List A) × (n : ℕ) × (front ≡ Gives gives n)

has_reading_sized : {A : Type 0} (front : ℕ → List ℕ → Front A) → ((b : ℕ) (bs : List ℕ) → IsRead (front b bs)) → (size : ℕ) (text : List ℕ) → length text ≤ size
    → (bytes : List A) × StandsForText front text bytes
has_reading_sized front reads size [] small = ([], done)
has_reading_sized front reads zero (b ∷ bs) small = absurd (omega arith)
has_reading_sized front reads (suc size) (b ∷ bs) small =
    let here = reads b bs in
    let later = has_reading_sized front reads size (drop (here.1 - 1) bs) (omega (arith, length-drop (here.1 - 1) bs)) in
    (here.0 ++ later.0, piece b here.1 bs here.0 later.0 [] here.2 later.1)

-- if each front can be read, each text can
pub has_reading : {A : Type 0} (front : ℕ → List ℕ → Front A) → ((b : ℕ) (bs : List ℕ) → IsRead (front b bs)) → (text : List ℕ) → (bytes : List A) × StandsForText front text bytes
has_reading front reads text = has_reading_sized front reads (length text) text (omega arith)

-- a run of bytes that each stand for themselves, whatever follows
pub reading-append : (front : ℕ → List ℕ → Front ℕ) (run text : List ℕ) → ((i : ℕ) → i < length run → (bs : List ℕ) → front (get_or run i 0) bs ≡ Gives (get_or run i 0 ∷ []) 1)
    → reading front (run ++ text) ≡ prefixed run (reading front text)
reading-append front [] text plain = sym (prefixed-nil (reading front text))
reading-append front (b ∷ bs) text plain =
    reading_first front b 1 (bs ++ text) (b ∷ []) (plain 0 (omega arith) (bs ++ text))
    ∙ ap (prefixed (b ∷ [])) (reading-append front bs text (λ i below. plain (suc i) (omega arith)))
    ∙ prefixed-prefixed (b ∷ []) bs (reading front text)

-- a run and one piece more
pub reading_more_after : (front : ℕ → List ℕ → Front ℕ) (b n : ℕ) (run bs gives bytes : List ℕ)
    → ((i : ℕ) → i < length run → (later : List ℕ) → front (get_or run i 0) later ≡ Gives (get_or run i 0 ∷ []) 1) → front b bs ≡ Gives gives n
    → prefixed bytes (reading front (run ++ b ∷ bs)) ≡ prefixed ((bytes ++ run) ++ gives) (reading front (drop (n - 1) bs))
reading_more_after front b n run bs gives bytes plain e =
    ap (prefixed bytes) (reading-append front run (b ∷ bs) plain)
    ∙ prefixed-prefixed bytes run (reading front (b ∷ bs))
    ∙ reading_more front b n bs gives (bytes ++ run) e

-- the rest stands at the end of the text, after some front
abbrev pub Follows : List ℕ → List ℕ → Type 0
Follows text rest = (front : List ℕ) × (text ≡ front ++ rest)

-- after a piece that takes all but the rest, the rest is left
pub past_piece : (b : ℕ) (bs rest : List ℕ) → Follows bs rest → drop (length (b ∷ bs) - length rest - 1) bs ≡ rest
past_piece b bs rest at =
    let place : length (b ∷ bs) - length rest - 1 ≡ length at.0 = omega (arith, ap length at.1, length-append at.0 rest) in
    ap (λ n. drop n bs) place ∙ ap (drop (length at.0)) at.1 ∙ drop-append_seam at.0 rest

-- the end of an end of a text is an end of the text
pub follows_more : (bs rest : List ℕ) (n : ℕ) → Follows (drop n bs) rest → Follows bs rest
follows_more bs rest n later =
    (take n bs ++ later.0, sym (take-append-drop n bs) ∙ ap (λ x. take n bs ++ x) later.1 ∙ sym (append_assoc (take n bs) later.0 rest))

-- the bytes left stand at the end of the text
pub left_follows : {A : Type 0} (front : ℕ → List ℕ → Front A) (text : List ℕ) (found : List A) (left : List ℕ) → BeginsWith front text found left → Follows text left
left_follows front text found left done = ([], refl)
left_follows front text found left (stops b bs e) = ([], refl)
left_follows front text found left (piece b n bs out more rest e later) =
    follows_more (b ∷ bs) rest 1 (follows_more bs rest (n - 1) (left_follows front (drop (n - 1) bs) more rest later))
