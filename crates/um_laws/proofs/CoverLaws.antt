-- Finitely many texts have all unit names among them.
use Rattle.std.proofs.Common.{ℕ, zero, suc, ◌<◌, ◌≤◌, ◌≡◌, ◌≢◌, ◌||◌, ◌&&◌, ◌==◌, nat_le, nat_lt, Bool, true, false, List, [], ◌∷◌, ◌++◌, length, map, Option, Some, None, refl, sym, ◌∙◌, ap, subst, inl, inr, arith}
use Rattle.std.specs.List.{list_all}
use Rattle.std.proofs.lemmas.Bool.{and_parts, and_from, eqb-true, leb-true, lt-ltb, ltb-true}
use Rattle.std.proofs.lemmas.List.Folds.{list_all-append}
use Rattle.um_model.specs.Names.{is_prefix_byte, is_instance_byte, suffix_text, is_unit_name}
use Rattle.um_model.specs.declared.names.Suffix.{Suffix}
use Rattle.um_model.specs.declared.names.Suffix.TheVariants.{Service, Socket, Device, Mount, Automount, Swap, Target, Path, Timer, Slice, Scope}
use Rattle.um_laws.proofs.AmongLaws.{among_left, among_right, among_map}
use Rattle.um_model.proofs.LeastLaws.{Among}
use Rattle.um_model.proofs.NamesLaws.{named_by_parts}
use Rattle.um_model.proofs.TimersLaws.{same_number}
use Rattle.um_model.proofs.TreeLaws.{all_wider}
use Rattle.um_model.proofs.Forms.{instance_text, is_fit_instance}

-- ---- texts of few bytes

numbers : ℕ → List ℕ
numbers zero = []
numbers (suc n) = n ∷ numbers n

among_numbers : (n b : ℕ) → b < n → Among (numbers n) b
unfolding numbers
among_numbers zero b less = absurd (omega arith)
among_numbers (suc n) b less = elim (same_number b n) as (λ _. Among (n ∷ numbers n) b) [
  | inl is ↦ inl is
  | inr apart ↦ inr (among_numbers n b (below n b less apart))
]
  where
    below : (n b : ℕ) → b < suc n → b ≢ n → b < n
    below n b less apart = omega arith

-- each of the bytes before each of the texts
fronted : List ℕ → List (List ℕ) → List (List ℕ)
fronted [] texts = []
fronted (b ∷ bytes) texts = map (λ text. b ∷ text) texts ++ fronted bytes texts

among_fronted : (bytes : List ℕ) (texts : List (List ℕ)) (b : ℕ) (text : List ℕ) → Among bytes b → Among texts text → Among (fronted bytes texts) (b ∷ text)
unfolding fronted
among_fronted [] texts b text none is = absurd none
among_fronted (x ∷ bytes) texts b text (inl same) is =
    among_left (map (λ t. x ∷ t) texts) (fronted bytes texts) (b ∷ text)
    (subst (λ y. Among (map (λ t. x ∷ t) texts) (y ∷ text)) (sym same) (among_map (λ t. x ∷ t) texts text is))
among_fronted (x ∷ bytes) texts b text (inr later) is =
    among_right (map (λ t. x ∷ t) texts) (fronted bytes texts) (b ∷ text) (among_fronted bytes texts b text later is)

-- the texts of at most this many of the bytes
texts_of : List ℕ → ℕ → List (List ℕ)
texts_of bytes zero = [] ∷ []
texts_of bytes (suc n) = [] ∷ fronted bytes (texts_of bytes n)

is_low : ℕ → ℕ → Bool
is_low n b = nat_lt b n

among_texts : (n limit : ℕ) (text : List ℕ) → length text ≤ limit → list_all (is_low n) text ≡ true → Among (texts_of (numbers n) limit) text
unfolding texts_of is_low
among_texts n zero [] few low = inl refl
among_texts n (suc limit) [] few low = inl refl
among_texts n zero (b ∷ text) few low = absurd (omega arith)
among_texts n (suc limit) (b ∷ text) few low =
    let both = and_parts (is_low n b) (list_all (is_low n) text) low in
    inr (among_fronted (numbers n) (texts_of (numbers n) limit) b text (among_numbers n b (ltb-true b n both.0)) (among_texts n limit text (omega arith) both.1))

-- ---- unit names

low_or : (b : ℕ) (x y : Bool) → (x ≡ true → b < 128) → (y ≡ true → b < 128) → (x || y) ≡ true → b < 128
low_or b true y one other e = one refl
low_or b false y one other e = other e

low_within : (b low high : ℕ) → high < 128 → (nat_le low b && nat_le b high) ≡ true → b < 128
low_within b low high few e = let less = leb-true b high (and_parts (nat_le low b) (nat_le b high) e).1 in omega arith

low_is : (b c : ℕ) → c < 128 → (b == c) ≡ true → b < 128
low_is b c few e = let same = eqb-true b c e in omega arith

low_instance_byte : (b : ℕ) → is_instance_byte b ≡ true → b < 128
low_instance_byte b =
    low_or b _ _
    (low_or b _ _
    (low_or b _ _
    (low_or b _ _
    (low_or b _ _
    (low_or b _ _
    (low_or b _ _
    (low_or b _ _ (low_within b 65 90 (omega arith)) (low_within b 97 122 (omega arith)))
    (low_within b 48 57 (omega arith)))
    (low_is b 58 (omega arith)))
    (low_is b 45 (omega arith)))
    (low_is b 95 (omega arith)))
    (low_is b 46 (omega arith)))
    (low_is b 92 (omega arith)))
    (low_is b 64 (omega arith))

-- the test of such a byte
is_ascii : ℕ → Bool
is_ascii = is_low 128

ascii_instance_byte : (b : ℕ) → is_instance_byte b ≡ true → is_ascii b ≡ true
unfolding is_ascii is_low
ascii_instance_byte b e = lt-ltb b 128 (low_instance_byte b e)

ascii_prefix_byte : (b : ℕ) → is_prefix_byte b ≡ true → is_ascii b ≡ true
ascii_prefix_byte b e = ascii_instance_byte b (ap (λ x. x || b == 64) e)

ascii_instance : (o : Option (List ℕ)) → is_fit_instance o ≡ true → list_all is_ascii (instance_text o) ≡ true
unfolding is_ascii is_low
ascii_instance None fit = refl
ascii_instance (Some i) fit = all_wider is_instance_byte is_ascii ascii_instance_byte i fit

ascii_suffix : (s : Suffix) → list_all is_ascii (suffix_text s) ≡ true
unfolding is_ascii is_low
ascii_suffix Service = refl
ascii_suffix Socket = refl
ascii_suffix Device = refl
ascii_suffix Mount = refl
ascii_suffix Automount = refl
ascii_suffix Swap = refl
ascii_suffix Target = refl
ascii_suffix Path = refl
ascii_suffix Timer = refl
ascii_suffix Slice = refl
ascii_suffix Scope = refl

ascii_append : (xs ys : List ℕ) → list_all is_ascii xs ≡ true → list_all is_ascii ys ≡ true → list_all is_ascii (xs ++ ys) ≡ true
ascii_append xs ys left right = list_all-append is_ascii xs ys ∙ and_from _ _ left right

ascii_name : (name : List ℕ) → is_unit_name name ≡ true → (length name ≤ 255) × (list_all (is_low 128) name ≡ true)
unfolding is_ascii
ascii_name name is =
    let w = named_by_parts name is in
    let p = w.0 in
    let of = w.1 in (
      of.short,
      ap (list_all is_ascii) of.spelled
          ∙ ascii_append p.prefix (instance_text p.instance ++ suffix_text p.suffix) (all_wider is_prefix_byte is_ascii ascii_prefix_byte p.prefix of.fit.prefix_bytes)
          (ascii_append (instance_text p.instance) (suffix_text p.suffix) (ascii_instance p.instance of.fit.instance_bytes) (ascii_suffix p.suffix)),
    )

-- a list that has all unit names
pub names_cover : (cover : List (List ℕ)) × ((name : List ℕ) → is_unit_name name ≡ true → Among cover name)
names_cover = (texts_of (numbers 128) 255, λ name is. among_texts 128 255 name (ascii_name name is).0 (ascii_name name is).1)
