-- The laws of escapes in names: an escaped text has bytes of names alone, and stands for the bytes that were escaped.
use Rattle.std.proofs.Common.{◌≡◌, ◌+◌, ◌*◌, ◌/◌, ◌%◌, ◌<◌, ℕ, true, ◌&&◌, ◌==◌, List, [], ◌∷◌, ◌++◌, cond, All, flat_map, refl, sym, ap, ◌∙◌, subst, arith, ⊎_elim}
use Rattle.std.specs.Char.{digit_char, digit_value}
use Rattle.std.specs.List.{list_all}
use Rattle.std.proofs.lemmas.Bool.{cases_Bool, cond-true, cond-false, and_from, false≢true, eqb-true, ne_eqb, agree_below_at}
use Rattle.std.proofs.lemmas.List.Elements.{All-head, All-tail}
use Rattle.std.proofs.lemmas.List.Folds.{list_all-append}
use Rattle.std.proofs.lemmas.Str.{digit_value-digit_char}
use Rattle.um_model.specs.Names.{is_prefix_byte, byte_escape, is_plain_byte, escape_of, escaped, is_hex_digit, unescape_front}
use Rattle.um_model.specs.Pieces.{Unreadable, Gives}
use Rattle.um_model.specs.Pieces.{done, piece}
use Rattle.um_model.proofs.Forms.{first_escape_of}
use Rattle.um_model.specs.Specifiers.{StandsForBytes}

-- The meaning of an escape.

is_hex_digit-digit_char : (d : ℕ) → d < 16 → is_hex_digit (digit_char d) ≡ true
is_hex_digit-digit_char d small = agree_below_at (λ n. is_hex_digit (digit_char n)) (λ n. true) 16 d refl small

digits_value : (b : ℕ) → b < 256 → 16 * digit_value (digit_char (b / 16)) + digit_value (digit_char (b % 16)) ≡ b
digits_value b small =
    let high = digit_value-digit_char (b / 16) (omega arith) in
    let low = digit_value-digit_char (b % 16) (omega arith) in
    rw (high, low) (omega arith)

byte_escape-front : (b : ℕ) (rest : List ℕ) → b < 256 → unescape_front 92 (120 ∷ digit_char (b / 16) ∷ digit_char (b % 16) ∷ rest) ≡ Gives (b ∷ []) 4
byte_escape-front b rest small =
    let high = is_hex_digit-digit_char (b / 16) (omega arith) in
    let low = is_hex_digit-digit_char (b % 16) (omega arith) in
    cond-true (is_hex_digit (digit_char (b / 16)) && is_hex_digit (digit_char (b % 16))) _ Unreadable (and_from _ _ high low)
    ∙ ap (λ n. Gives (n ∷ []) 4) (digits_value b small)

byte_escape-stands : (b : ℕ) (text bytes : List ℕ) → b < 256 → StandsForBytes text bytes → StandsForBytes (byte_escape b ++ text) (b ∷ bytes)
byte_escape-stands b text bytes small more =
    piece 92 4 (120 ∷ digit_char (b / 16) ∷ digit_char (b % 16) ∷ text) (b ∷ []) bytes [] (byte_escape-front b text small) more

plain-front : (b : ℕ) (rest : List ℕ) → is_plain_byte b ≡ true → unescape_front b rest ≡ Gives (b ∷ []) 1
plain-front b rest plain =
    cond-false (b == 45) _ _ (ne_eqb b 45 (λ e. false≢true (subst (λ n. is_plain_byte n ≡ true) e plain)))
    ∙ cond-false (b == 92) _ _ (ne_eqb b 92 (λ e. false≢true (subst (λ n. is_plain_byte n ≡ true) e plain)))

escape_of-stands : (b : ℕ) (text bytes : List ℕ) → b < 256 → StandsForBytes text bytes → StandsForBytes (escape_of b ++ text) (b ∷ bytes)
escape_of-stands b text bytes small more =
    ⊎_elim
    (λ slash. rw (cond-true (b == 47) (45 ∷ []) (cond (is_plain_byte b) (b ∷ []) (byte_escape b)) slash, eqb-true b 47 slash)
    (piece 45 1 text (47 ∷ []) bytes [] refl more))
    (λ other. rw (cond-false (b == 47) (45 ∷ []) (cond (is_plain_byte b) (b ∷ []) (byte_escape b)) other)
    (⊎_elim
    (λ plain. rw (cond-true (is_plain_byte b) (b ∷ []) (byte_escape b) plain) (piece b 1 text (b ∷ []) bytes [] (plain-front b text plain) more))
    (λ other. rw (cond-false (is_plain_byte b) (b ∷ []) (byte_escape b) other) (byte_escape-stands b text bytes small more))
    (cases_Bool (is_plain_byte b))))
    (cases_Bool (b == 47))

first_escape_of-stands : (b : ℕ) (text bytes : List ℕ) → b < 256 → StandsForBytes text bytes → StandsForBytes (first_escape_of b ++ text) (b ∷ bytes)
first_escape_of-stands b text bytes small more =
    let P : List ℕ → Type 0 = λ front. StandsForBytes (front ++ text) (b ∷ bytes) in
    ⊎_elim
    (λ dot. subst P (sym (cond-true (b == 46) (byte_escape b) (escape_of b) dot)) (byte_escape-stands b text bytes small more))
    (λ other. subst P (sym (cond-false (b == 46) (byte_escape b) (escape_of b) other)) (escape_of-stands b text bytes small more))
    (cases_Bool (b == 46))

flat_map-stands : (bytes : List ℕ) → All (λ b. b < 256) bytes → StandsForBytes (flat_map escape_of bytes) bytes
flat_map-stands [] small = done
flat_map-stands (b ∷ bs) small =
    escape_of-stands b (flat_map escape_of bs) bs (All-head (λ b. b < 256) b bs small) (flat_map-stands bs (All-tail (λ b. b < 256) b bs small))

-- an escaped text stands for the bytes that were escaped
pub escaped-stands : (bytes : List ℕ) → All (λ b. b < 256) bytes → StandsForBytes (escaped bytes) bytes
escaped-stands [] small = done
escaped-stands (b ∷ bs) small =
    first_escape_of-stands b (flat_map escape_of bs) bs (All-head (λ b. b < 256) b bs small) (flat_map-stands bs (All-tail (λ b. b < 256) b bs small))

-- The bytes of an escaped text.

escape_of-bytes : (b : ℕ) → b < 256 → list_all is_prefix_byte (escape_of b) ≡ true
escape_of-bytes b small = agree_below_at (λ n. list_all is_prefix_byte (escape_of n)) (λ n. true) 256 b refl small

first_escape_of-bytes : (b : ℕ) → b < 256 → list_all is_prefix_byte (first_escape_of b) ≡ true
first_escape_of-bytes b small = agree_below_at (λ n. list_all is_prefix_byte (first_escape_of n)) (λ n. true) 256 b refl small

flat_map-bytes : (bytes : List ℕ) → All (λ b. b < 256) bytes → list_all is_prefix_byte (flat_map escape_of bytes) ≡ true
flat_map-bytes [] small = refl
flat_map-bytes (b ∷ bs) small =
    list_all-append is_prefix_byte (escape_of b) (flat_map escape_of bs)
    ∙ and_from _ _ (escape_of-bytes b (All-head (λ b. b < 256) b bs small)) (flat_map-bytes bs (All-tail (λ b. b < 256) b bs small))

-- an escaped text can stand in a name
pub escaped-bytes : (bytes : List ℕ) → All (λ b. b < 256) bytes → list_all is_prefix_byte (escaped bytes) ≡ true
escaped-bytes [] small = refl
escaped-bytes (b ∷ bs) small =
    list_all-append is_prefix_byte (first_escape_of b) (flat_map escape_of bs)
    ∙ and_from _ _ (first_escape_of-bytes b (All-head (λ b. b < 256) b bs small)) (flat_map-bytes bs (All-tail (λ b. b < 256) b bs small))
