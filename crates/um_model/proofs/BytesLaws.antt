-- The law of each kind of value that has bytes, and what follows from it.
use Rattle.std.proofs.Common.{◌≡◌, ℕ, zero, suc, ◌^◌, ◌<◌, ◌≤◌, ◌+◌, Bool, true, false, cond, ◌&&◌, ltb, Ordering, Less, Equal, Greater, List, [], ◌∷◌, ◌++◌, length, take, drop, Option, Some, None, option_map, refl, sym, ap, subst, ◌∙◌, append_assoc, arith, inl, inr}
use Rattle.std.specs.Prelude.{IfSome, ⊤, T, ◌↔◌}
use Rattle.std.specs.List.{flat_map, AllByRecursion, slice_get}
use Rattle.std.specs.Int.{w32, w64, from_be_bytes}
use Rattle.std.specs.Str.{is_utf8}
use Rattle.std.specs.Ordering.{is_lt, nat_cmp}
use Rattle.std.specs.Cmp.Lexicographic.{slice_cmp, nat_list_cmp_total}
use Rattle.std.specs.FinMap.Entries.{below_all}
use Rattle.std.specs.FinMap as map
use Rattle.std.proofs.lemmas.Bool.{cases_lt, ltb-false, le-ltb, leb-true, le-leb}
use Rattle.std.proofs.lemmas.List.{append-nil, take_at, drop_at, take-append-drop, length-append, length-take, get_or-take, get_or_past}
use Rattle.std.proofs.lemmas.List.Concat.{flat_map-cons}
use Rattle.std.proofs.lemmas.Nat.{be_bytes_4, be_bytes_8}
use Rattle.byteorder.specs.Endian.{big_number, big_bytes}
use Rattle.byteorder.specs.Numbers.{big_number-reads_back, big_from-lt, length-bytes_high_first}
use Rattle.um_model.specs.Bytes.{Decoder, Spelling, IsBytes, IsCanonical, nothing_left, ◌>>=◌, byte_at, number_at, is_between, FitBetween, between_at, pair_spelling, pair_at, as_at, only_at, tag_at, truth_tag, FitText, text_spelling, front_text, text_at, option_spelling, option_at, many_at, list_spelling, list_at, FitList, marked_at, choice_at, arm_in, just_at, none_at, ByText, ascends, are_keys, FitMap, map_spelling, map_at, table_at, tagged, truths}

-- ---- bytes

pub IsBytes-take : (n : ℕ) (bytes : List ℕ) → IsBytes bytes → IsBytes (take n bytes)
IsBytes-take n bytes h i = elim (cases_lt i n) [
  | inl lt ↦ rw (get_or-take n bytes i 0 lt) (h i)
  | inr le ↦ rw (get_or_past (take n bytes) i 0 (omega (arith, length-take n bytes))) (omega arith)
]

pub IsBytes-rest : (b : ℕ) (bytes : List ℕ) → IsBytes (b ∷ bytes) → IsBytes bytes
IsBytes-rest b bytes h i = h (suc i)

-- the rest of bytes after a front is bytes
IsBytes-behind : (front rest : List ℕ) → IsBytes (front ++ rest) → IsBytes rest
IsBytes-behind [] rest h = h
IsBytes-behind (b ∷ front) rest h = IsBytes-behind front rest (λ i. h (suc i))

-- ---- options and tests

pub bind_some : {A B : Type 0} (r : Option A) (f : A → Option B) (y : B) → (r >>= f) ≡ Some y → (x : A) × (r ≡ Some x) × (f x ≡ Some y)
bind_some (Some x) f y e = (x, refl, e)
bind_some None f y e = absurd cc

abbrev some : {A : Type 0} → A → Option A
some x = Some x

abbrev none : {A : Type 0} → Option A
none = None

pub some_is : {A : Type 0} (x y : A) → some x ≡ some y → x ≡ y
some_is x y e = cc

pub none_some : {A : Type 0} (y : A) → none ≡ some y → ⊥
none_some y e = absurd cc

-- a test that was passed
guard_none : {A : Type 0} (b : Bool) (x : Option A) (y : A) → cond b None x ≡ Some y → (b ≡ false) × (x ≡ Some y)
guard_none true x y e = absurd cc
guard_none false x y e = (refl, e)

pub guard_some : {A : Type 0} (b : Bool) (x : Option A) (y : A) → cond b x None ≡ Some y → (b ≡ true) × (x ≡ Some y)
guard_some true x y e = (refl, e)
guard_some false x y e = absurd cc

pub is_true : (b : Bool) → T b → b ≡ true
is_true true h = refl
is_true false h = absurd h

pub left_holds : (a b : Bool) → T (a && b) → T a
left_holds true b h = tt
left_holds false b h = h

pub right_holds : (a b : Bool) → T (a && b) → T b
right_holds true b h = h
right_holds false b h = absurd h

-- ---- whole numbers

pub canonical8 : IsCanonical (λ n. n < 2 ^ 8) (λ n. n ∷ []) byte_at
canonical8 = record { takes = takes8; again = λ v rest h. refl } where
  takes8 : (bytes : List ℕ) (v : ℕ) (rest : List ℕ) → IsBytes bytes → byte_at bytes ≡ Some (v, rest) → (bytes ≡ (v ∷ []) ++ rest) × (v < 2 ^ 8)
  takes8 [] v rest h e = absurd cc
  takes8 (b ∷ bytes) v rest h e = subst (λ (x : ℕ × List ℕ). ((b ∷ bytes) ≡ (x.0 ∷ []) ++ x.1) × (x.0 < 2 ^ 8)) (some_is (b, bytes) (v, rest) e) (refl, h 0)

-- the bytes of the number in front are those in front
abbrev IsReadBack : ℕ → Type 0
IsReadBack width = (bytes : List ℕ) → width ≤ length bytes → IsBytes bytes → big_bytes width (big_number width bytes) ≡ take width bytes

read_back4 : IsReadBack 4
read_back4 bytes long h =
    let same : big_number 4 bytes ≡ from_be_bytes w32 (take 4 bytes) =
    omega (arith, get_or-take 4 bytes 0 0 (omega arith), get_or-take 4 bytes 1 0 (omega arith), get_or-take 4 bytes 2 0 (omega arith), get_or-take 4 bytes 3 0 (omega arith)) in
    be_bytes_4 (take 4 bytes) (big_number 4 bytes) (omega (arith, length-take 4 bytes)) (IsBytes-take 4 bytes h) same

read_back8 : IsReadBack 8
read_back8 bytes long h =
    let same : big_number 8 bytes ≡ from_be_bytes w64 (take 8 bytes) =
    omega (
      arith,
      get_or-take 8 bytes 0 0 (omega arith),
      get_or-take 8 bytes 1 0 (omega arith),
      get_or-take 8 bytes 2 0 (omega arith),
      get_or-take 8 bytes 3 0 (omega arith),
      get_or-take 8 bytes 4 0 (omega arith),
      get_or-take 8 bytes 5 0 (omega arith),
      get_or-take 8 bytes 6 0 (omega arith),
      get_or-take 8 bytes 7 0 (omega arith),
    ) in
    be_bytes_8 (take 8 bytes) (big_number 8 bytes) (omega (arith, length-take 8 bytes)) (IsBytes-take 8 bytes h) same

canonical_number : (width : ℕ) → IsReadBack width → IsCanonical (λ n. n < 256 ^ width) (big_bytes width) (number_at width)
canonical_number width read_back = record { takes = number_takes; again = number_again } where
  number_takes : (bytes : List ℕ) (n : ℕ) (rest : List ℕ) → IsBytes bytes → number_at width bytes ≡ Some (n, rest) → (bytes ≡ big_bytes width n ++ rest) × (n < 256 ^ width)
  number_takes bytes n rest h e =
      let g = guard_none (ltb (length bytes) width) (some (big_number width bytes, drop width bytes)) (n, rest) e in
      let long : width ≤ length bytes = ltb-false _ _ g.0 in
      let front : big_bytes width (big_number width bytes) ≡ take width bytes = read_back bytes long h in
      let parts : bytes ≡ big_bytes width (big_number width bytes) ++ drop width bytes = rw front (sym (take-append-drop width bytes)) in
      subst (λ (x : ℕ × List ℕ). (bytes ≡ big_bytes width x.0 ++ x.1) × (x.0 < 256 ^ width)) (some_is (big_number width bytes, drop width bytes) (n, rest) g.1) (parts, big_from-lt 0 width bytes h)

  number_again : (n : ℕ) (rest : List ℕ) → n < 256 ^ width → number_at width (big_bytes width n ++ rest) ≡ Some (n, rest)
  number_again n rest low =
      let len : length (big_bytes width n) ≡ width = length-bytes_high_first width n in
      let long : ltb (length (big_bytes width n ++ rest)) width ≡ false = le-ltb _ _ (omega (arith, length-append (big_bytes width n) rest)) in
      rw (long, big_number-reads_back width n rest low, drop_at (big_bytes width n) rest width len) refl

pub canonical32 : IsCanonical (λ n. n < 2 ^ 32) (big_bytes 4) (number_at 4)
canonical32 = canonical_number 4 read_back4

pub canonical64 : IsCanonical (λ n. n < 2 ^ 64) (big_bytes 8) (number_at 8)
canonical64 = canonical_number 8 read_back8

-- ---- one after the other

-- the rest after a value that was read is bytes
behind : {V : Type 0} {fits : V → Type 0} {spelling : Spelling V} {reading : Decoder V} → IsCanonical fits spelling reading → (bytes : List ℕ) (v : V) (rest : List ℕ)
    → IsBytes bytes → reading bytes ≡ Some (v, rest) → IsBytes rest
behind {spelling = spelling} law bytes v rest h e = IsBytes-behind (spelling v) rest (subst IsBytes (law.takes bytes v rest h e).0 h)

module _ {A B : Type 0} {fits_a : A → Type 0} {spelling_a : Spelling A} {reading_a : Decoder A} {fits_b : B → Type 0} {spelling_b : Spelling B} {reading_b : Decoder B} where
  pub canonical_pair : IsCanonical fits_a spelling_a reading_a → IsCanonical fits_b spelling_b reading_b
      → IsCanonical (λ (p : A × B). fits_a p.0 × fits_b p.1) (pair_spelling spelling_a spelling_b) (pair_at reading_a reading_b)
  canonical_pair first second = record { takes = pair_takes; again = pair_again } where
    pair_takes : (bytes : List ℕ) (v : A × B) (rest : List ℕ) → IsBytes bytes → pair_at reading_a reading_b bytes ≡ Some (v, rest)
        → (bytes ≡ pair_spelling spelling_a spelling_b v ++ rest) × (fits_a v.0 × fits_b v.1)
    pair_takes bytes v rest h e =
        let a = bind_some (reading_a bytes) (λ a. reading_b a.1 >>= λ b. Some ((a.0, b.0), b.1)) (v, rest) e in
        let b = bind_some (reading_b a.0.1) (λ b. Some ((a.0.0, b.0), b.1)) (v, rest) a.2 in
        let ta = first.takes bytes a.0.0 a.0.1 h a.1 in
        let tb = second.takes a.0.1 b.0.0 b.0.1 (behind first bytes a.0.0 a.0.1 h a.1) b.1 in
        let made : (A × B) × List ℕ = ((a.0.0, b.0.0), b.0.1) in
        subst (λ (x : (A × B) × List ℕ). (bytes ≡ pair_spelling spelling_a spelling_b x.0 ++ x.1) × (fits_a x.0.0 × fits_b x.0.1)) (some_is made (v, rest) b.2)
        (ta.0 ∙ ap (λ (t : List ℕ). spelling_a a.0.0 ++ t) tb.0 ∙ sym (append_assoc (spelling_a a.0.0) (spelling_b b.0.0) b.0.1), (ta.1, tb.1))

    pair_again : (v : A × B) (rest : List ℕ) → fits_a v.0 × fits_b v.1 → pair_at reading_a reading_b (pair_spelling spelling_a spelling_b v ++ rest) ≡ Some (v, rest)
    pair_again v rest h =
        ap (pair_at reading_a reading_b) (append_assoc (spelling_a v.0) (spelling_b v.1) rest) ∙ rw (first.again v.0 (spelling_b v.1 ++ rest) h.0, second.again v.1 rest h.1) refl

-- ---- another form, a test, a mark, a choice, an option, a list

module _ {A B : Type 0} {fits_a : A → Type 0} {fits_b : B → Type 0} {spelling : Spelling A} {reading : Decoder A} where
  -- another form, in which a value is given back only if it fits, on either side
  pub canonical_form : (to : A → B) (from : B → A) → ((a : A) → fits_a a → fits_b (to a) × (from (to a) ≡ a)) → ((b : B) → fits_b b → fits_a (from b) × (to (from b) ≡ b))
      → IsCanonical fits_a spelling reading → IsCanonical fits_b (λ b. spelling (from b)) (as_at to reading)
  canonical_form to from back forth law = record { takes = form_takes; again = form_again } where
    form_takes : (bytes : List ℕ) (v : B) (rest : List ℕ) → IsBytes bytes → as_at to reading bytes ≡ Some (v, rest) → (bytes ≡ spelling (from v) ++ rest) × fits_b v
    form_takes bytes v rest h e =
        let a = bind_some (reading bytes) (λ a. Some (to a.0, a.1)) (v, rest) e in
        let t = law.takes bytes a.0.0 a.0.1 h a.1 in
        let b = back a.0.0 t.1 in
        let made : B × List ℕ = (to a.0.0, a.0.1) in
        subst (λ (x : B × List ℕ). (bytes ≡ spelling (from x.0) ++ x.1) × fits_b x.0) (some_is made (v, rest) a.2) (t.0 ∙ ap (λ (y : A). spelling y ++ a.0.1) (sym b.1), b.0)

    form_again : (v : B) (rest : List ℕ) → fits_b v → as_at to reading (spelling (from v) ++ rest) ≡ Some (v, rest)
    form_again v rest h = rw (law.again (from v) rest (forth v h).0) (ap (λ (b : B). some (b, rest)) (forth v h).1)

module _ {A : Type 0} {fits_a fits_b : A → Type 0} {spelling : Spelling A} {reading : Decoder A} where
  -- the same values fit, said in other words
  pub canonical_fits : ((a : A) → fits_a a → fits_b a) → ((a : A) → fits_b a → fits_a a) → IsCanonical fits_a spelling reading → IsCanonical fits_b spelling reading
  canonical_fits to from law = record {
    takes = λ bytes v rest h e. ((law.takes bytes v rest h e).0, to v (law.takes bytes v rest h e).1);
    again = λ v rest h. law.again v rest (from v h);
  }

module _ {A B : Type 0} {fits : A → Type 0} {spelling : Spelling A} {reading : Decoder A} where
  -- those that fit, in another form that says the same
  pub canonical_where : (to : A → B) (from : B → A) → ((a : A) → fits a → from (to a) ≡ a) → ((b : B) → to (from b) ≡ b) → IsCanonical fits spelling reading
      → IsCanonical (λ b. fits (from b)) (λ b. spelling (from b)) (as_at to reading)
  canonical_where to from back forth law = record { takes = as_takes; again = as_again } where
    as_takes : (bytes : List ℕ) (v : B) (rest : List ℕ) → IsBytes bytes → as_at to reading bytes ≡ Some (v, rest) → (bytes ≡ spelling (from v) ++ rest) × fits (from v)
    as_takes bytes v rest h e =
        let a = bind_some (reading bytes) (λ a. Some (to a.0, a.1)) (v, rest) e in
        let t = law.takes bytes a.0.0 a.0.1 h a.1 in
        let made : B × List ℕ = (to a.0.0, a.0.1) in
        subst (λ (x : B × List ℕ). (bytes ≡ spelling (from x.0) ++ x.1) × fits (from x.0)) (some_is made (v, rest) a.2)
        (subst (λ (y : A). (bytes ≡ spelling y ++ a.0.1) × fits y) (sym (back a.0.0 t.1)) t)

    as_again : (v : B) (rest : List ℕ) → fits (from v) → as_at to reading (spelling (from v) ++ rest) ≡ Some (v, rest)
    as_again v rest h = rw (law.again (from v) rest h) (ap (λ (b : B). some (b, rest)) (forth v))

  -- the same if each value has the other form
  pub canonical_as : (to : A → B) (from : B → A) → ((a : A) → from (to a) ≡ a) → ((b : B) → to (from b) ≡ b) → IsCanonical fits spelling reading
      → IsCanonical (λ b. fits (from b)) (λ b. spelling (from b)) (as_at to reading)
  canonical_as to from back forth law = canonical_where to from (λ a h. back a) forth law

module _ {A : Type 0} {fits : A → Type 0} {spelling : Spelling A} {reading : Decoder A} where
  -- those that pass a test
  pub canonical_only : (test : A → Bool) → IsCanonical fits spelling reading → IsCanonical (λ a. fits a × (test a ≡ true)) spelling (only_at test reading)
  canonical_only test law = record { takes = only_takes; again = only_again } where
    only_takes : (bytes : List ℕ) (v : A) (rest : List ℕ) → IsBytes bytes → only_at test reading bytes ≡ Some (v, rest) → (bytes ≡ spelling v ++ rest) × (fits v × (test v ≡ true))
    only_takes bytes v rest h e =
        let a = bind_some (reading bytes) (λ a. cond (test a.0) (Some a) None) (v, rest) e in
        let g = guard_some (test a.0.0) (some a.0) (v, rest) a.2 in
        let t = law.takes bytes a.0.0 a.0.1 h a.1 in
        subst (λ (x : A × List ℕ). (bytes ≡ spelling x.0 ++ x.1) × (fits x.0 × (test x.0 ≡ true))) (some_is a.0 (v, rest) g.1) (t.0, (t.1, g.0))

    only_again : (v : A) (rest : List ℕ) → fits v × (test v ≡ true) → only_at test reading (spelling v ++ rest) ≡ Some (v, rest)
    only_again v rest h = rw (law.again v rest h.0, h.1) refl

  -- after a fixed byte
  pub canonical_marked : (mark : ℕ) → IsCanonical fits spelling reading → IsCanonical fits (λ a. mark ∷ spelling a) (marked_at mark reading)
  canonical_marked mark law = record { takes = marked_takes; again = marked_again } where
    marked_takes : (bytes : List ℕ) (v : A) (rest : List ℕ) → IsBytes bytes → marked_at mark reading bytes ≡ Some (v, rest) → (bytes ≡ (mark ∷ spelling v) ++ rest) × fits v
    marked_takes [] v rest h e = absurd cc
    marked_takes (b ∷ bytes) v rest h e =
        let low = guard_none (ltb b mark) (cond (ltb mark b) None (reading bytes)) (v, rest) e in
        let high = guard_none (ltb mark b) (reading bytes) (v, rest) low.1 in
        let is : b ≡ mark = omega (arith, ltb-false b mark low.0, ltb-false mark b high.0) in
        let t = law.takes bytes v rest (IsBytes-rest b bytes h) high.1 in
        (ap (λ (x : ℕ). x ∷ bytes) is ∙ ap (λ (w : List ℕ). mark ∷ w) t.0, t.1)

    marked_again : (v : A) (rest : List ℕ) → fits v → marked_at mark reading ((mark ∷ spelling v) ++ rest) ≡ Some (v, rest)
    marked_again v rest h = rw (le-ltb mark mark (omega arith)) (law.again v rest h)

  pub canonical_option : IsCanonical fits spelling reading → IsCanonical (λ o. IfSome o fits) (option_spelling spelling) (option_at reading)
  canonical_option law = record { takes = option_takes; again = option_again } where
    option_takes : (bytes : List ℕ) (v : Option A) (rest : List ℕ) → IsBytes bytes → option_at reading bytes ≡ Some (v, rest) → (bytes ≡ option_spelling spelling v ++ rest) × IfSome v fits
    option_takes [] v rest h e = absurd cc
    option_takes (zero ∷ bytes) v rest h e =
        let made : Option A × List ℕ = (None, bytes) in
        subst (λ (x : Option A × List ℕ). ((0 ∷ bytes) ≡ option_spelling spelling x.0 ++ x.1) × IfSome x.0 fits) (some_is made (v, rest) e) (refl, tt)
    option_takes (suc zero ∷ bytes) v rest h e =
        let a = bind_some (reading bytes) (λ a. Some (Some a.0, a.1)) (v, rest) e in
        let t = law.takes bytes a.0.0 a.0.1 (IsBytes-rest 1 bytes h) a.1 in
        let made : Option A × List ℕ = (Some a.0.0, a.0.1) in
        subst (λ (x : Option A × List ℕ). ((1 ∷ bytes) ≡ option_spelling spelling x.0 ++ x.1) × IfSome x.0 fits) (some_is made (v, rest) a.2) (ap (λ (w : List ℕ). 1 ∷ w) t.0, t.1)
    option_takes (suc (suc b) ∷ bytes) v rest h e = absurd cc

    option_again : (v : Option A) (rest : List ℕ) → IfSome v fits → option_at reading (option_spelling spelling v ++ rest) ≡ Some (v, rest)
    option_again None rest h = refl
    option_again (Some x) rest h = rw (law.again x rest h) refl

  many_takes : IsCanonical fits spelling reading → (n : ℕ) (bytes : List ℕ) (x : List A × List ℕ) → IsBytes bytes → many_at reading n bytes ≡ Some x
      → (bytes ≡ flat_map spelling x.0 ++ x.1) × (length x.0 ≡ n) × AllByRecursion fits x.0
  many_takes law zero bytes x h e =
      let made : List A × List ℕ = ([], bytes) in
      subst (λ (y : List A × List ℕ). (bytes ≡ flat_map spelling y.0 ++ y.1) × (length y.0 ≡ 0) × AllByRecursion fits y.0) (some_is made x e) (refl, refl, tt)
  many_takes law (suc n) bytes x h e =
      let a = bind_some (reading bytes) (λ a. many_at reading n a.1 >>= λ more. Some (a.0 ∷ more.0, more.1)) x e in
      let b = bind_some (many_at reading n a.0.1) (λ more. Some (a.0.0 ∷ more.0, more.1)) x a.2 in
      let t = law.takes bytes a.0.0 a.0.1 h a.1 in
      let s = many_takes law n a.0.1 b.0 (behind law bytes a.0.0 a.0.1 h a.1) b.1 in
      let made : List A × List ℕ = (a.0.0 ∷ b.0.0, b.0.1) in
      subst (λ (y : List A × List ℕ). (bytes ≡ flat_map spelling y.0 ++ y.1) × (length y.0 ≡ suc n) × AllByRecursion fits y.0) (some_is made x b.2) (
        t.0 ∙ ap (λ (w : List ℕ). spelling a.0.0 ++ w) s.0 ∙ sym (append_assoc (spelling a.0.0) (flat_map spelling b.0.0) b.0.1)
            ∙ ap (λ (w : List ℕ). w ++ b.0.1) (sym (flat_map-cons spelling a.0.0 b.0.0)),
        ap suc s.1,
        (t.1, s.2),
      )

  many_again : IsCanonical fits spelling reading → (xs : List A) (rest : List ℕ) → AllByRecursion fits xs → many_at reading (length xs) (flat_map spelling xs ++ rest) ≡ Some (xs, rest)
  many_again law [] rest h = refl
  many_again law (x ∷ xs) rest h =
      let regrouped : flat_map spelling (x ∷ xs) ++ rest ≡ spelling x ++ (flat_map spelling xs ++ rest) =
      ap (λ (w : List ℕ). w ++ rest) (flat_map-cons spelling x xs) ∙ append_assoc (spelling x) (flat_map spelling xs) rest in
      ap (many_at reading (suc (length xs))) regrouped ∙ rw (law.again x (flat_map spelling xs ++ rest) h.0, many_again law xs rest h.1) refl

  pub canonical_list : IsCanonical fits spelling reading → IsCanonical (FitList fits) (list_spelling spelling) (list_at reading)
  canonical_list law = record { takes = list_takes; again = list_again } where
    list_takes : (bytes : List ℕ) (v : List A) (rest : List ℕ) → IsBytes bytes → list_at reading bytes ≡ Some (v, rest) → (bytes ≡ list_spelling spelling v ++ rest) × FitList fits v
    list_takes bytes v rest h e =
        let n = bind_some (number_at 4 bytes) (λ n. many_at reading n.0 n.1) (v, rest) e in
        let tn = canonical32.takes bytes n.0.0 n.0.1 h n.1 in
        let t = many_takes law n.0.0 n.0.1 (v, rest) (behind canonical32 bytes n.0.0 n.0.1 h n.1) n.2 in (
          tn.0 ∙ ap (λ (w : List ℕ). big_bytes 4 n.0.0 ++ w) t.0 ∙ sym (append_assoc (big_bytes 4 n.0.0) (flat_map spelling v) rest)
              ∙ ap (λ (k : ℕ). (big_bytes 4 k ++ flat_map spelling v) ++ rest) (sym t.1),
          (omega (arith, t.1, tn.1), t.2),
        )

    list_again : (v : List A) (rest : List ℕ) → FitList fits v → list_at reading (list_spelling spelling v ++ rest) ≡ Some (v, rest)
    list_again v rest h =
        ap (list_at reading) (append_assoc (big_bytes 4 (length v)) (flat_map spelling v) rest) ∙ rw (canonical32.again (length v) (flat_map spelling v ++ rest) h.0) (many_again law v rest h.1)

-- a choice without fields, by its tag
pub canonical_tag : {A : Type 0} (tag : A → ℕ) (of : ℕ → Option A) → ((a : A) → of (tag a) ≡ Some a) → ((n : ℕ) (a : A) → of n ≡ Some a → tag a ≡ n)
    → IsCanonical (λ (a : A). ⊤) (λ a. tag a ∷ []) (tag_at of)
canonical_tag {A} tag of again back = record { takes = takes; again = λ v rest h. rw (again v) refl } where
  takes : (bytes : List ℕ) (v : A) (rest : List ℕ) → IsBytes bytes → tag_at of bytes ≡ Some (v, rest) → (bytes ≡ (tag v ∷ []) ++ rest) × ⊤
  takes [] v rest h e = absurd cc
  takes (b ∷ bytes) v rest h e =
      let a = bind_some (of b) (λ a. Some (a, bytes)) (v, rest) e in
      subst (λ (x : A × List ℕ). ((b ∷ bytes) ≡ (tag x.0 ∷ []) ++ x.1) × ⊤) (some_is (a.0, bytes) (v, rest) a.2) (ap (λ (n : ℕ). n ∷ bytes) (sym (back b a.0 a.1)), tt)

-- a choice with fields: each arm reads a value of its tag, whose fields are spelled after the tag
pub canonical_choice : {A : Type 0} {fits : A → Type 0} (tag : A → ℕ) (fields : Spelling A) (arm : ℕ → Decoder A)
    → ((n : ℕ) (bytes : List ℕ) (v : A) (rest : List ℕ) → IsBytes bytes → arm n bytes ≡ Some (v, rest) → (n ≡ tag v) × (bytes ≡ fields v ++ rest) × fits v)
    → ((v : A) (rest : List ℕ) → fits v → arm (tag v) (fields v ++ rest) ≡ Some (v, rest))
    → IsCanonical fits (λ v. tag v ∷ fields v) (choice_at arm)
canonical_choice {A} {fits} tag fields arm arm_takes arm_again = record { takes = takes; again = arm_again } where
  takes : (bytes : List ℕ) (v : A) (rest : List ℕ) → IsBytes bytes → choice_at arm bytes ≡ Some (v, rest) → (bytes ≡ (tag v ∷ fields v) ++ rest) × fits v
  takes [] v rest h e = absurd cc
  takes (b ∷ bytes) v rest h e =
      let t = arm_takes b bytes v rest (IsBytes-rest b bytes h) e in
      (ap (λ (n : ℕ). n ∷ bytes) t.0 ∙ ap (λ (w : List ℕ). tag v ∷ w) t.1, t.2)

-- one arm of a choice: whatever holds of each value of that arm holds of the value that was read
pub arm_is : {A B : Type 0} {fits : A → Type 0} {spelling : Spelling A} {reading : Decoder A} (law : IsCanonical fits spelling reading) (to : A → B) (P : B → List ℕ → Type 0) (bytes : List ℕ) (v : B) (rest : List ℕ)
    → IsBytes bytes → as_at to reading bytes ≡ Some (v, rest) → ((a : A) (r : List ℕ) → bytes ≡ spelling a ++ r → fits a → P (to a) r) → P v rest
arm_is {A} {B} {reading = reading} law to P bytes v rest h e holds =
    let a = bind_some (reading bytes) (λ a. Some (to a.0, a.1)) (v, rest) e in
    let t = law.takes bytes a.0.0 a.0.1 h a.1 in
    subst (λ (x : B × List ℕ). P x.0 x.1) (some_is (to a.0.0, a.0.1) (v, rest) a.2) (holds a.0.0 a.0.1 t.0 t.1)

-- the same of an arm without fields
pub just_is : {B : Type 0} (b : B) (P : B → List ℕ → Type 0) (bytes : List ℕ) (v : B) (rest : List ℕ) → just_at b bytes ≡ Some (v, rest) → P b bytes → P v rest
just_is {B} b P bytes v rest e holds = subst (λ (x : B × List ℕ). P x.0 x.1) (some_is (b, bytes) (v, rest) e) holds

-- an arm reads only values of the tag, whose fields are spelled after the tag
pub record Tells {A : Type 0} (tag : A → ℕ) (fields : Spelling A) (fits : A → Type 0) (n : ℕ) (arm : Decoder A) : Type 0 where
  pub is : (bytes : List ℕ) (v : A) (rest : List ℕ) → IsBytes bytes → arm bytes ≡ Some (v, rest) → (n ≡ tag v) × (bytes ≡ fields v ++ rest) × fits v

-- each arm of a table does so for its place, counted from the first
abbrev pub AllTell : {A : Type 0} → (A → ℕ) → Spelling A → (A → Type 0) → ℕ → List (Decoder A) → Type 0
AllTell tag fields fits first [] = ⊤
AllTell tag fields fits first (arm ∷ table) = Tells tag fields fits first arm × AllTell tag fields fits (suc first) table

module _ {A : Type 0} {tag : A → ℕ} {fields : Spelling A} {fits : A → Type 0} where
  pub tells : {F : Type 0} {fits_f : F → Type 0} {spelling : Spelling F} {reading : Decoder F} (n : ℕ) (to : F → A) → IsCanonical fits_f spelling reading
      → ((f : F) → fits_f f → (n ≡ tag (to f)) × (fields (to f) ≡ spelling f) × fits (to f)) → Tells tag fields fits n (as_at to reading)
  tells {spelling = spelling} n to law arm = record {
    is = λ bytes v rest h e.
        arm_is law to (λ w r. (n ≡ tag w) × (bytes ≡ fields w ++ r) × fits w) bytes v rest h e
        (λ f r at fit. ((arm f fit).0, at ∙ ap (λ (w : List ℕ). w ++ r) (sym (arm f fit).1), (arm f fit).2));
  }

  pub tells_just : (n : ℕ) (a : A) → n ≡ tag a → fields a ≡ [] → fits a → Tells tag fields fits n (just_at a)
  tells_just n a at bare fit = record {
    is = λ bytes v rest h e. just_is a (λ w r. (n ≡ tag w) × (bytes ≡ fields w ++ r) × fits w) bytes v rest e (at, ap (λ (w : List ℕ). w ++ bytes) (sym bare), fit);
  }

  pub tells_none : (n : ℕ) → Tells tag fields fits n none_at
  tells_none n = record { is = λ bytes v rest h e. absurd (none_some (v, rest) e) }

  all_tell : (first : ℕ) (table : List (Decoder A)) → AllTell tag fields fits first table → (n : ℕ) → Tells tag fields fits (n + first) (arm_in table n)
  all_tell first [] all n = tells_none (n + first)
  all_tell first (arm ∷ table) all zero = subst (λ (m : ℕ). Tells tag fields fits m arm) (omega arith) all.0
  all_tell first (arm ∷ table) all (suc n) = subst (λ (m : ℕ). Tells tag fields fits m (arm_in table n)) (omega arith) (all_tell (suc first) table all.1 n)

  -- a choice with fields, by a table of its arms
  pub canonical_arms : (table : List (Decoder A)) → AllTell tag fields fits 0 table → ((v : A) (rest : List ℕ) → fits v → arm_in table (tag v) (fields v ++ rest) ≡ Some (v, rest))
      → IsCanonical fits (λ v. tag v ∷ fields v) (choice_at (arm_in table))
  canonical_arms table all again = canonical_choice tag fields (arm_in table) takes again where
    takes : (n : ℕ) (bytes : List ℕ) (v : A) (rest : List ℕ) → IsBytes bytes → arm_in table n bytes ≡ Some (v, rest) → (n ≡ tag v) × (bytes ≡ fields v ++ rest) × fits v
    takes n bytes v rest h e =
        let t = (all_tell 0 table all n).is bytes v rest h e in
        (omega (arith, t.0), t.1, t.2)

-- the tags of the choices of a table are the numbers from the first on
abbrev pub AreTags : {A : Type 0} → (A → ℕ) → ℕ → List A → Type 0
AreTags tag first [] = ⊤
AreTags tag first (a ∷ table) = (tag a ≡ first) × AreTags tag (suc first) table

place_is : {A : Type 0} (tag : A → ℕ) (first : ℕ) (table : List A) → AreTags tag first table → (n : ℕ) (a : A) → slice_get table n ≡ Some a → tag a ≡ n + first
place_is tag first [] tags n a e = absurd (none_some a e)
place_is tag first (x ∷ table) tags zero a e = omega (arith, ap tag (sym (some_is x a e)) ∙ tags.0)
place_is tag first (x ∷ table) tags (suc n) a e = omega (arith, place_is tag (suc first) table tags.1 n a e)

-- the choice at a place has that tag
pub table_back : {A : Type 0} (tag : A → ℕ) (table : List A) → AreTags tag 0 table → (n : ℕ) (a : A) → slice_get table n ≡ Some a → tag a ≡ n
table_back tag table tags n a e = omega (arith, place_is tag 0 table tags n a e)

pub truth_again : (b : Bool) → slice_get truths (truth_tag b) ≡ Some b
truth_again true = refl
truth_again false = refl

pub truth_back : (n : ℕ) (b : Bool) → slice_get truths n ≡ Some b → truth_tag b ≡ n
truth_back zero b e = ap truth_tag (sym (some_is false b e))
truth_back (suc zero) b e = ap truth_tag (sym (some_is true b e))
truth_back (suc (suc n)) b e = absurd cc

pub canonical_truth : IsCanonical (λ (b : Bool). ⊤) (tagged truth_tag) (table_at truths)
canonical_truth = canonical_tag truth_tag (slice_get truths) truth_again truth_back

-- ---- numbers from the first to the last

between : (first last n : ℕ) → is_between first last n ≡ true → FitBetween first last n
between first last n e = (leb-true first n (is_true _ (left_holds _ _ (subst T (sym e) tt))), leb-true n last (is_true _ (right_holds _ _ (subst T (sym e) tt))))

pub canonical_between : (first last : ℕ) → last < 2 ^ 64 → IsCanonical (FitBetween first last) (big_bytes 8) (between_at first last)
canonical_between first last small =
    canonical_fits (λ n h. between first last n h.1) (λ n h. (omega (arith, small, h.1), rw (le-leb first n h.0, le-leb n last h.1) refl)) (canonical_only (is_between first last) canonical64)

-- ---- texts

in_place : {A : Type 0} (x y : A) (rest : List ℕ) (both : A × List ℕ) → x ≡ y → some (y, rest) ≡ some both → (x, rest) ≡ both
in_place {A} x y rest both e is = ap (λ (t : A). (t, rest)) e ∙ some_is (y, rest) both is

pub canonical_text : IsCanonical FitText text_spelling text_at
canonical_text = record { takes = text_takes; again = text_again } where
  text_takes : (bytes : List ℕ) (v : List ℕ) (rest : List ℕ) → IsBytes bytes → text_at bytes ≡ Some (v, rest) → (bytes ≡ text_spelling v ++ rest) × FitText v
  text_takes bytes v rest h e =
      let n = bind_some (number_at 4 bytes) (λ n. front_text n.0 n.1 >>= λ text. Some (text, drop n.0 n.1)) (v, rest) e in
      let f = bind_some (front_text n.0.0 n.0.1) (λ text. Some (text, drop n.0.0 n.0.1)) (v, rest) n.2 in
      let tn = canonical32.takes bytes n.0.0 n.0.1 h n.1 in
      let long = guard_none (ltb (length n.0.1) n.0.0) (cond (is_utf8 (take n.0.0 n.0.1)) (Some (take n.0.0 n.0.1)) None) f.0 f.1 in
      let valid = guard_some (is_utf8 (take n.0.0 n.0.1)) (some (take n.0.0 n.0.1)) f.0 long.1 in
      let t_is : take n.0.0 n.0.1 ≡ f.0 = some_is _ _ valid.1 in
      let room : n.0.0 ≤ length n.0.1 = ltb-false _ _ long.0 in
      let len : length (take n.0.0 n.0.1) ≡ n.0.0 = omega (arith, length-take n.0.0 n.0.1) in
      let made : List ℕ × List ℕ = (take n.0.0 n.0.1, drop n.0.0 n.0.1) in
      let parts : bytes ≡ text_spelling made.0 ++ made.1 =
      tn.0 ∙ ap (λ (w : List ℕ). big_bytes 4 n.0.0 ++ w) (sym (take-append-drop n.0.0 n.0.1)) ∙ sym (append_assoc (big_bytes 4 n.0.0) made.0 made.1) ∙ ap (λ (k : ℕ). (big_bytes 4 k ++ made.0) ++ made.1) (sym len) in
      subst (λ (x : List ℕ × List ℕ). (bytes ≡ text_spelling x.0 ++ x.1) × FitText x.0) {x = made} (in_place made.0 f.0 made.1 (v, rest) t_is f.2)
      (parts, (omega (arith, len, tn.1), valid.0))

  text_again : (v : List ℕ) (rest : List ℕ) → FitText v → text_at (text_spelling v ++ rest) ≡ Some (v, rest)
  text_again v rest h =
      let long : ltb (length (v ++ rest)) (length v) ≡ false = le-ltb _ _ (omega (arith, length-append v rest)) in
      ap text_at (append_assoc (big_bytes 4 (length v)) v rest) ∙ rw (canonical32.again (length v) (v ++ rest) h.0, long, take_at v rest (length v) refl, drop_at v rest (length v) refl, h.1) refl

-- ---- maps

pub both_hold : (a b : Bool) → T a → T b → T (a && b)
both_hold true b p q = q
both_hold false b p q = p

pub lower : (r : Ordering) → T (is_lt r) → r ≡ Less
lower Less h = refl
lower Equal h = absurd h
lower Greater h = absurd h

-- a key below one that is below all is below all
pub lower_all : {A : Type 0} (x y : List ℕ) (es : List (List ℕ × A)) → slice_cmp nat_cmp x y ≡ Less → T (below_all (slice_cmp nat_cmp) y es) → T (below_all (slice_cmp nat_cmp) x es)
lower_all x y [] low h = tt
lower_all x y (e ∷ es) low h =
    let next : slice_cmp nat_cmp y e.0 ≡ Less = lower _ (left_holds _ _ h) in
    both_hold _ _ (subst (λ r. T (is_lt r)) (sym (nat_list_cmp_total.trans x y e.0 low next)) tt) (lower_all x y es low (right_holds _ _ h))

-- keys of which each is below the next are each below all that follow
pub sorted : {A : Type 0} (es : List (List ℕ × A)) → T (ascends es) → T (map.is_sorted (slice_cmp nat_cmp) es)
sorted [] h = tt
sorted (e ∷ []) h = tt
sorted (e ∷ f ∷ es) h =
    let rest = sorted (f ∷ es) (right_holds _ _ h) in
    let low = left_holds _ _ h in
    both_hold _ _ (both_hold _ _ low (lower_all e.0 f.0 es (lower _ low) (left_holds _ _ rest))) rest

pub ascending : {A : Type 0} (es : List (List ℕ × A)) → T (map.is_sorted (slice_cmp nat_cmp) es) → T (ascends es)
ascending [] h = tt
ascending (e ∷ []) h = tt
ascending (e ∷ f ∷ es) h = both_hold _ _ (left_holds _ _ (left_holds _ _ h)) (ascending (f ∷ es) (right_holds _ _ h))

pub sorted_if : {A : Type 0} (es : List (List ℕ × A)) → ascends es ≡ true → T (map.is_sorted (slice_cmp nat_cmp) es)
sorted_if es e = sorted es (subst T (sym e) tt)

pub from_sorted-entries : {A : Type 0} (m : ByText A) → map.from_sorted (map.entries m) ≡ m
from_sorted-entries m = map.same_entries_map _ _ (map.entries-from_sorted (slice_cmp nat_cmp) (map.entries m) (map.entries_sorted m))

module _ {A : Type 0} {fits : A → Type 0} {spelling : Spelling A} {reading : Decoder A} where
  pub canonical_map : (is_key : List ℕ → Bool) → IsCanonical fits spelling reading → IsCanonical (FitMap is_key fits) (map_spelling spelling) (map_at is_key reading)
  canonical_map is_key one = record {
    takes = λ bytes v rest h e. ((law.takes bytes v rest h e).0, ((law.takes bytes v rest h e).1.0.0, (law.takes bytes v rest h e).1.1));
    again = λ v rest h. law.again v rest ((h.0, is_true _ (ascending (map.entries v) (map.entries_sorted v))), h.1);
  } where
    law : IsCanonical (λ (m : ByText A). (FitList (λ e. FitText e.0 × fits e.1) (map.entries m) × (ascends (map.entries m) ≡ true)) × (are_keys is_key (map.entries m) ≡ true)) (map_spelling spelling) (map_at is_key reading)
    law =
        canonical_where map.from_sorted map.entries (λ es h. map.entries-from_sorted (slice_cmp nat_cmp) es (sorted_if es h.0.1)) from_sorted-entries
        (canonical_only (are_keys is_key) (canonical_only ascends (canonical_list (canonical_pair canonical_text one))))

-- ---- what follows from the law

nothing_behind : {V : Type 0} (r : Option (V × List ℕ)) (v : V) → nothing_left r ≡ Some v → r ≡ Some (v, [])
nothing_behind None v e = absurd (none_some v e)
nothing_behind {V} (Some (w, [])) v e = ap (λ (x : V). some (x, [])) (some_is w v e)
nothing_behind (Some (w, b ∷ rest)) v e = absurd (none_some v e)

module _ {V : Type 0} {fits : V → Type 0} {spelling : Spelling V} {reading : Decoder V} where
  -- no spelling begins another, and a value has one
  pub one_reading : IsCanonical fits spelling reading → (v w : V) (r s : List ℕ) → fits v → fits w → spelling v ++ r ≡ spelling w ++ s → (v ≡ w) × (r ≡ s)
  one_reading law v w r s fv fw e =
      let both = some_is (v, r) (w, s) (sym (law.again v r fv) ∙ ap reading e ∙ law.again w s fw) in
      (ap (λ (x : V × List ℕ). x.0) both, ap (λ (x : V × List ℕ). x.1) both)

  -- there is no reading only if no front of the bytes spells a value
  pub none_spelled : IsCanonical fits spelling reading → (bytes : List ℕ) → reading bytes ≡ None → (v : V) (rest : List ℕ) → fits v → bytes ≡ spelling v ++ rest → ⊥
  none_spelled law bytes absent v rest fv e = none_some (v, rest) (sym absent ∙ ap reading e ∙ law.again v rest fv)

  -- the whole of the bytes is read exactly if they are a spelling
  pub whole_spelled : IsCanonical fits spelling reading → (bytes : List ℕ) (v : V) → IsBytes bytes → (nothing_left (reading bytes) ≡ Some v) ↔ ((bytes ≡ spelling v) × fits v)
  whole_spelled law bytes v h = (to, from) where
    to : nothing_left (reading bytes) ≡ Some v → (bytes ≡ spelling v) × fits v
    to e =
        let t = law.takes bytes v [] h (nothing_behind (reading bytes) v e) in
        (t.0 ∙ append-nil (spelling v), t.1)

    from : (bytes ≡ spelling v) × fits v → nothing_left (reading bytes) ≡ Some v
    from t = ap (λ l. nothing_left (reading l)) (t.0 ∙ sym (append-nil (spelling v))) ∙ ap nothing_left (law.again v [] t.1)

-- ---- the result of a call as a reading

-- the value that a call found, as its reading says it
pub at_some : {X V : Type 0} (value : X → V) (bytes : List ℕ) (r : Option (V × List ℕ)) (found : Option (X × ℕ)) (x : X) (n : ℕ) → r ≡ option_map (λ y. (value y.0, drop y.1 bytes)) found
    → found ≡ Some (x, n) → r ≡ Some (value x, drop n bytes)
at_some value bytes r found x n e is = e ∙ ap (option_map (λ y. (value y.0, drop y.1 bytes))) is

pub at_none : {X V : Type 0} (value : X → V) (bytes : List ℕ) (r : Option (V × List ℕ)) (found : Option (X × ℕ)) → r ≡ option_map (λ y. (value y.0, drop y.1 bytes)) found → found ≡ None → r ≡ None
at_none value bytes r found e is = e ∙ ap (option_map (λ y. (value y.0, drop y.1 bytes))) is
