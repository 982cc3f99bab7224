-- The laws of unit names: a text is a unit name by the test exactly if it is the name of some parts, and these parts are unique.
use Rattle.std.proofs.Common.{option_map, ◌≡◌, ◌≢◌, ◌-◌, ◌<◌, ◌≤◌, ℕ, suc, Bool, true, false, not, ◌&&◌, ◌==◌, nat_eq, nat_lt, List, [], ◌∷◌, ◌++◌, Option, Some, None, is_some, length, take, drop, get_or, reverse, find, cond, refl, sym, ap, ◌∙◌, subst, append_assoc, append-nil, take-append-drop, take_at, eq-eqb, arith, ⊎_elim, length-append}
use Rattle.std.specs.List.{list_all, ends_with}
use Rattle.std.proofs.lemmas.List.Folds.{list_all-append}
use Rattle.std.proofs.lemmas.Bool.{or_cases, or_left, cases_Bool, cond-true, cond-false, and_parts, and_from, false≢true, eqb-true, lt-ltb, le-leb, leb-true, not-true, ne_eqb}
use Rattle.std.proofs.lemmas.Bool.Decides.{same_from_decides}
use Rattle.std.proofs.lemmas.List.{reverse-append, reverse-reverse}
use Rattle.std.proofs.lemmas.List.Prefix.{end_rest}
use Rattle.std.proofs.lemmas.Option.{none-some, same_Some}
use Rattle.std.proofs.lemmas.Slice.Eq.{bytes_eq-Decides}
use Rattle.um_model.specs.Names.{suffix_text, is_prefix_byte, is_instance_byte, NameParts, name_text, AreFit, name_limit, IsNameOf, suffixes, suffix_of, stem_of, before_at, after_at, prefix_of, instance_of, is_stem, is_unit_name, suffix_text_of, with_instance, named, template_of}
use Rattle.um_model.specs.declared.names.Suffix.{Suffix}
use Rattle.um_model.specs.declared.names.Suffix.TheVariants.{Service, Socket, Device, Mount, Automount, Swap, Target, Path, Timer, Slice, Scope}
use Rattle.um_model.proofs.Forms.{ends_in, stem_before, instance_text, is_fit_instance}

-- A search in a list.

find-passes : {X : Type 0} (p : X → Bool) (xs : List X) (x : X) → find p xs ≡ Some x → p x ≡ true
find-passes p [] x e = absurd (none-some x e)
find-passes p (y ∷ ys) x e =
    ⊎_elim
    (λ yes. subst (λ z. p z ≡ true) (same_Some y x (sym (cond-true (p y) (Some y) (find p ys) yes) ∙ e)) yes)
    (λ other. find-passes p ys x (sym (cond-false (p y) (Some y) (find p ys) other) ∙ e))
    (cases_Bool (p y))

find-same : {X : Type 0} (p q : X → Bool) (xs : List X) → ((x : X) → p x ≡ q x) → find p xs ≡ find q xs
find-same p q [] same = refl
find-same p q (x ∷ xs) same = ap (λ b. cond b (Some x) (find p xs)) (same x) ∙ ap (λ r. cond (q x) (Some x) r) (find-same p q xs same)

-- How a text ends, read from its end.

abbrev begins : List ℕ → List ℕ → Bool
begins [] ys = true
begins (x ∷ xs) [] = false
begins (x ∷ xs) (y ∷ ys) = (x == y) && begins xs ys

begins-append : (xs ys : List ℕ) → begins xs (xs ++ ys) ≡ true
begins-append [] ys = refl
begins-append (x ∷ xs) ys = and_from _ _ (eq-eqb x x refl) (begins-append xs ys)

append-begins : (xs ys : List ℕ) → begins xs ys ≡ true → (rest : List ℕ) × (ys ≡ xs ++ rest)
append-begins [] ys e = (ys, refl)
append-begins (x ∷ xs) [] e = absurd (false≢true e)
append-begins (x ∷ xs) (y ∷ ys) e =
    let both = and_parts (x == y) (begins xs ys) e in
    let later = append-begins xs ys both.1 in
    let head = eqb-true x y both.0 in
    (later.0, cc (head, later.1))

ends_with-parts : (text p : List ℕ) → ends_with nat_eq text p ≡ true → text ≡ take (length text - length p) text ++ p
ends_with-parts text p e =
    sym (take-append-drop (length text - length p) text) ∙ ap (λ later. take (length text - length p) text ++ later) (sym ((bytes_eq-Decides p (drop (length text - length p) text)).0 e))

ends_with-append : (text front p : List ℕ) → text ≡ front ++ p → ends_with nat_eq text p ≡ true
ends_with-append text front p e = (bytes_eq-Decides p (drop (length text - length p) text)).1 (sym (end_rest text p front e))

ends_with-begins : (text p : List ℕ) → ends_with nat_eq text p ≡ begins (reverse p) (reverse text)
ends_with-begins text p =
    let P : Type 0 = (front : List ℕ) × (text ≡ front ++ p) in
    same_from_decides {P = P} _ _
    (λ e. (take (length text - length p) text, ends_with-parts text p e), λ w. ends_with-append text w.0 p w.1) (
      λ e. let w = append-begins (reverse p) (reverse text) e in
          (reverse w.0, sym (reverse-reverse text) ∙ ap reverse w.1 ∙ reverse-append (reverse p) w.0 ∙ ap (λ later. reverse w.0 ++ later) (reverse-reverse p)),
      λ w. subst (λ back. begins (reverse p) back ≡ true) (sym (ap reverse w.1 ∙ reverse-append w.0 p)) (begins-append (reverse p) (reverse w.0)),
    )

-- No suffix ends in another one.

suffix_behind : (s : Suffix) (back : List ℕ) → find (λ t. begins (reverse (suffix_text t)) (reverse (suffix_text s) ++ back)) suffixes ≡ Some s
suffix_behind Service back = refl
suffix_behind Socket back = refl
suffix_behind Device back = refl
suffix_behind Mount back = refl
suffix_behind Automount back = refl
suffix_behind Swap back = refl
suffix_behind Target back = refl
suffix_behind Path back = refl
suffix_behind Timer back = refl
suffix_behind Slice back = refl
suffix_behind Scope back = refl

-- a text ends in the suffix that stands at its end
pub suffix_of-append : (front : List ℕ) (s : Suffix) → suffix_of (front ++ suffix_text s) ≡ Some s
unfolding suffix_of
suffix_of-append front s =
    find-same _ _ suffixes
    (λ t. ends_with-begins (front ++ suffix_text s) (suffix_text t) ∙ ap (begins (reverse (suffix_text t))) (reverse-append front (suffix_text s)))
    ∙ suffix_behind s (reverse front)

-- the text before a suffix is the stem
pub stem_of-append : (front : List ℕ) (s : Suffix) → stem_of (front ++ suffix_text s) ≡ front
unfolding stem_of
stem_of-append front s =
    ap (stem_before (front ++ suffix_text s)) (suffix_of-append front s)
    ∙ take_at front (suffix_text s) _ (omega (arith, length-append front (suffix_text s)))

-- a text that ends in a suffix is its stem and that suffix
pub stem_of-suffix : (text : List ℕ) (s : Suffix) → suffix_of text ≡ Some s → text ≡ stem_of text ++ suffix_text s
unfolding suffix_of stem_of
stem_of-suffix text s e =
    ends_with-parts text (suffix_text s) (find-passes (ends_in text) suffixes s e) ∙ ap (λ o. stem_before text o ++ suffix_text s) (sym e)

-- the stem of a text that ends in a suffix
pub stem_of-take : (text : List ℕ) (s : Suffix) → suffix_of text ≡ Some s → stem_of text ≡ take (length text - length (suffix_text s)) text
unfolding stem_of
stem_of-take text s e = ap (stem_before text) e

-- a text is as long as its suffix at least
pub length-suffix : (text : List ℕ) (s : Suffix) → suffix_of text ≡ Some s → length (suffix_text s) ≤ length text
length-suffix text s e = omega (arith, ap length (stem_of-suffix text s e), length-append (stem_of text) (suffix_text s))

-- Parts in a stem.

no_at : (xs ys : List ℕ) → list_all is_prefix_byte xs ≡ true → before_at (xs ++ ys) ≡ xs ++ before_at ys
no_at [] ys all = refl
no_at (x ∷ xs) ys all =
    let both = and_parts (is_prefix_byte x) (list_all is_prefix_byte xs) all in
    cond-false (x == 64) [] (x ∷ before_at (xs ++ ys)) (ne_eqb x 64 (λ e. false≢true (subst (λ b. is_prefix_byte b ≡ true) e both.0)))
    ∙ ap (λ later. x ∷ later) (no_at xs ys both.1)

nothing_after : (xs ys : List ℕ) → list_all is_prefix_byte xs ≡ true → after_at (xs ++ ys) ≡ after_at ys
nothing_after [] ys all = refl
nothing_after (x ∷ xs) ys all =
    let both = and_parts (is_prefix_byte x) (list_all is_prefix_byte xs) all in
    cond-false (x == 64) (Some (xs ++ ys)) (after_at (xs ++ ys)) (ne_eqb x 64 (λ e. false≢true (subst (λ b. is_prefix_byte b ≡ true) e both.0)))
    ∙ nothing_after xs ys both.1

-- a text without an `@` is all before it
pub at_absent : (xs : List ℕ) → ((i : ℕ) → i < length xs → get_or xs i 0 ≢ 64) → (before_at xs ≡ xs) × (after_at xs ≡ None)
at_absent [] absent = (refl, refl)
at_absent (x ∷ xs) absent =
    let other = ne_eqb x 64 (absent 0 (omega arith)) in
    let later = at_absent xs (λ i below. absent (suc i) (omega arith)) in
    (cond-false (x == 64) [] (x ∷ before_at xs) other ∙ ap (λ rest. x ∷ rest) later.0, cond-false (x == 64) (Some xs) (after_at xs) other ∙ later.1)

-- the first `@` parts the text
pub at_found : (xs ys : List ℕ) → ((i : ℕ) → i < length xs → get_or xs i 0 ≢ 64) → (before_at (xs ++ 64 ∷ ys) ≡ xs) × (after_at (xs ++ 64 ∷ ys) ≡ Some ys)
at_found [] ys absent = (refl, refl)
at_found (x ∷ xs) ys absent =
    let other = ne_eqb x 64 (absent 0 (omega arith)) in
    let later = at_found xs ys (λ i below. absent (suc i) (omega arith)) in
    (cond-false (x == 64) [] (x ∷ before_at (xs ++ 64 ∷ ys)) other ∙ ap (λ rest. x ∷ rest) later.0, cond-false (x == 64) (Some (xs ++ 64 ∷ ys)) (after_at (xs ++ 64 ∷ ys)) other ∙ later.1)

before_at-instance : (i : Option (List ℕ)) → before_at (instance_text i) ≡ []
before_at-instance None = refl
before_at-instance (Some i) = refl

after_at-instance : (i : Option (List ℕ)) → after_at (instance_text i) ≡ i
after_at-instance None = refl
after_at-instance (Some i) = refl

-- a stem is the text before its first `@` and the text after it
pub before_at-append : (xs : List ℕ) → xs ≡ before_at xs ++ instance_text (after_at xs)
before_at-append [] = refl
before_at-append (x ∷ xs) =
    ⊎_elim
    (λ at. let head = eqb-true x 64 at in
    rw (cond-true (x == 64) [] (x ∷ before_at xs) at, cond-true (x == 64) (Some xs) (after_at xs) at) (ap (λ b. b ∷ xs) head))
    (λ other.
    rw (cond-false (x == 64) [] (x ∷ before_at xs) other, cond-false (x == 64) (Some xs) (after_at xs) other) (ap (λ later. x ∷ later) (before_at-append xs)))
    (cases_Bool (x == 64))

before_at-bytes : (xs : List ℕ) → list_all is_instance_byte xs ≡ true → list_all is_prefix_byte (before_at xs) ≡ true
before_at-bytes [] all = refl
before_at-bytes (x ∷ xs) all =
    let both = and_parts (is_instance_byte x) (list_all is_instance_byte xs) all in
    ⊎_elim
    (λ at. rw (cond-true (x == 64) [] (x ∷ before_at xs) at) refl)
    (λ other. rw (cond-false (x == 64) [] (x ∷ before_at xs) other)
    (and_from _ _ (⊎_elim (λ e. e) (λ at. absurd (false≢true (sym other ∙ at))) (or_cases (is_prefix_byte x) (x == 64) both.0)) (before_at-bytes xs both.1)))
    (cases_Bool (x == 64))

after_at-bytes : (xs : List ℕ) → list_all is_instance_byte xs ≡ true → is_fit_instance (after_at xs) ≡ true
after_at-bytes [] all = refl
after_at-bytes (x ∷ xs) all =
    let both = and_parts (is_instance_byte x) (list_all is_instance_byte xs) all in
    ⊎_elim
    (λ at. rw (cond-true (x == 64) (Some xs) (after_at xs) at) both.1)
    (λ other. rw (cond-false (x == 64) (Some xs) (after_at xs) other) (after_at-bytes xs both.1))
    (cases_Bool (x == 64))

before_at-some : (xs : List ℕ) → is_stem xs ≡ true → 0 < length (before_at xs)
before_at-some [] stem = absurd (false≢true stem)
before_at-some (x ∷ xs) stem =
    let front : (nat_lt 0 (length (x ∷ xs)) ≡ true) × (not (x == 64) ≡ true) = and_parts _ _ (and_parts _ _ stem).0 in
    rw (cond-false (x == 64) [] (x ∷ before_at xs) (not-true (x == 64) front.1)) (omega arith)

list_all-wider : (xs : List ℕ) → list_all is_prefix_byte xs ≡ true → list_all is_instance_byte xs ≡ true
list_all-wider [] all = refl
list_all-wider (x ∷ xs) all =
    let both = and_parts (is_prefix_byte x) (list_all is_prefix_byte xs) all in
    and_from _ _ (or_left (is_prefix_byte x) (x == 64) both.0) (list_all-wider xs both.1)

fit_instance-bytes : (i : Option (List ℕ)) → is_fit_instance i ≡ true → list_all is_instance_byte (instance_text i) ≡ true
fit_instance-bytes None fit = refl
fit_instance-bytes (Some i) fit = fit

is_stem-fit : (prefix : List ℕ) (i : Option (List ℕ)) → 0 < length prefix → list_all is_prefix_byte prefix ≡ true → is_fit_instance i ≡ true → is_stem (prefix ++ instance_text i) ≡ true
is_stem-fit [] i some prefix_bytes instance_bytes = absurd (omega arith)
is_stem-fit (x ∷ xs) i some prefix_bytes instance_bytes =
    let both = and_parts (is_prefix_byte x) (list_all is_prefix_byte xs) prefix_bytes in
    let other : (x == 64) ≡ false = ne_eqb x 64 (λ e. false≢true (subst (λ b. is_prefix_byte b ≡ true) e both.0)) in
    let all : list_all is_instance_byte ((x ∷ xs) ++ instance_text i) ≡ true =
    list_all-append is_instance_byte (x ∷ xs) (instance_text i) ∙ and_from _ _ (list_all-wider (x ∷ xs) prefix_bytes) (fit_instance-bytes i instance_bytes) in
    and_from _ _ (and_from _ _ (lt-ltb 0 (length ((x ∷ xs) ++ instance_text i)) (omega arith)) (ap not other)) all

-- the test of a short text that ends in a suffix is that of its stem
pub is_unit_name-stem : (text : List ℕ) (s : Suffix) → suffix_of text ≡ Some s → length text ≤ name_limit → is_unit_name text ≡ is_stem (take (length text - length (suffix_text s)) text)
unfolding is_unit_name
is_unit_name-stem text s e short =
    ap (λ front. front && is_stem (stem_of text)) (and_from _ _ (le-leb (length text) name_limit short) (ap is_some e))
    ∙ ap is_stem (stem_of-take text s e)

-- The parts of a name.

name_text-stem : (p : NameParts) → name_text p ≡ (p.prefix ++ instance_text p.instance) ++ suffix_text p.suffix
name_text-stem p = sym (append_assoc p.prefix (instance_text p.instance) (suffix_text p.suffix))

stem_of-name : (p : NameParts) → stem_of (name_text p) ≡ p.prefix ++ instance_text p.instance
stem_of-name p = ap stem_of (name_text-stem p) ∙ stem_of-append (p.prefix ++ instance_text p.instance) p.suffix

-- the parts are found again in the name
pub suffix_of-name : (p : NameParts) → suffix_of (name_text p) ≡ Some p.suffix
suffix_of-name p = ap suffix_of (name_text-stem p) ∙ suffix_of-append (p.prefix ++ instance_text p.instance) p.suffix

pub prefix_of-name : (p : NameParts) → AreFit p → prefix_of (name_text p) ≡ p.prefix
unfolding prefix_of
prefix_of-name p fit =
    ap before_at (stem_of-name p) ∙ no_at p.prefix (instance_text p.instance) fit.prefix_bytes
    ∙ ap (λ later. p.prefix ++ later) (before_at-instance p.instance) ∙ append-nil p.prefix

pub instance_of-name : (p : NameParts) → AreFit p → instance_of (name_text p) ≡ p.instance
unfolding instance_of
instance_of-name p fit =
    ap after_at (stem_of-name p) ∙ nothing_after p.prefix (instance_text p.instance) fit.prefix_bytes ∙ after_at-instance p.instance

-- the name of some parts is a unit name
pub is_unit_name-name : (text : List ℕ) (p : NameParts) → IsNameOf text p → is_unit_name text ≡ true
unfolding is_unit_name
is_unit_name-name text p named =
    and_from _ _
    (and_from _ _ (le-leb (length text) name_limit named.short) (ap is_some (ap suffix_of named.spelled ∙ suffix_of-name p)))
    (ap is_stem (ap stem_of named.spelled ∙ stem_of-name p)
    ∙ is_stem-fit p.prefix p.instance named.fit.some named.fit.prefix_bytes named.fit.instance_bytes)

value_of : {X : Type 0} (o : Option X) → is_some o ≡ true → (x : X) × (o ≡ Some x)
value_of None e = absurd (false≢true e)
value_of (Some x) e = (x, refl)

-- a unit name is the name of its parts
pub named_by_parts : (text : List ℕ) → is_unit_name text ≡ true → (p : NameParts) × IsNameOf text p
unfolding is_unit_name prefix_of instance_of
named_by_parts text is =
    let front = and_parts _ _ is in
    let short = and_parts _ _ front.0 in
    let s = value_of (suffix_of text) short.1 in
    let stem : is_stem (stem_of text) ≡ true = front.1 in
    let bytes : list_all is_instance_byte (stem_of text) ≡ true = (and_parts _ _ stem).1 in (
      record { prefix = before_at (stem_of text); instance = after_at (stem_of text); suffix = s.0 },
      record {
        fit = record { some = before_at-some (stem_of text) stem; prefix_bytes = before_at-bytes (stem_of text) bytes; instance_bytes = after_at-bytes (stem_of text) bytes };
        spelled =
            stem_of-suffix text s.0 s.1 ∙ ap (λ stem. stem ++ suffix_text s.0) (before_at-append (stem_of text))
            ∙ append_assoc (before_at (stem_of text)) (instance_text (after_at (stem_of text))) (suffix_text s.0);
        short = leb-true (length text) name_limit short.0;
      },
    )

abbrev parts : List ℕ → Option (List ℕ) → Suffix → NameParts
parts prefix instance suffix = record { prefix = prefix; instance = instance; suffix = suffix }

-- a text is the name of one sequence of parts at most
pub one_reading : (text : List ℕ) (p q : NameParts) → IsNameOf text p → IsNameOf text q → p ≡ q
one_reading text p q one other =
    let same : name_text p ≡ name_text q = sym one.spelled ∙ other.spelled in
    let prefixes : p.prefix ≡ q.prefix = sym (prefix_of-name p one.fit) ∙ ap prefix_of same ∙ prefix_of-name q other.fit in
    let instances : p.instance ≡ q.instance = sym (instance_of-name p one.fit) ∙ ap instance_of same ∙ instance_of-name q other.fit in
    let ends : p.suffix ≡ q.suffix = same_Some p.suffix q.suffix (sym (suffix_of-name p) ∙ ap suffix_of same ∙ suffix_of-name q) in
    ap (λ prefix. parts prefix p.instance p.suffix) prefixes
    ∙ ap (λ instance. parts q.prefix instance p.suffix) instances
    ∙ ap (λ suffix. parts q.prefix q.instance suffix) ends

-- the template of a name is a unit name
pub is_unit_name-template : (name instance : List ℕ) → is_unit_name name ≡ true → instance_of name ≡ Some instance → is_unit_name (with_instance name []) ≡ true
is_unit_name-template name instance is some =
    let w = named_by_parts name is in
    let p = w.0 in
    let of = w.1 in
    let prefixes : prefix_of name ≡ p.prefix = ap prefix_of of.spelled ∙ prefix_of-name p of.fit in
    let instances : Some instance ≡ p.instance = sym some ∙ ap instance_of of.spelled ∙ instance_of-name p of.fit in
    let ends : suffix_of name ≡ Some p.suffix = ap suffix_of of.spelled ∙ suffix_of-name p in
    let q : NameParts = parts p.prefix (Some []) p.suffix in
    let spelled : with_instance name [] ≡ name_text q = cc in
    let whole : name ≡ p.prefix ++ (instance_text (Some instance) ++ suffix_text p.suffix) = of.spelled ∙ ap (λ i. p.prefix ++ (instance_text i ++ suffix_text p.suffix)) (sym instances) in
    is_unit_name-name (with_instance name []) q
    (record {
      fit = record { some = of.fit.some; prefix_bytes = of.fit.prefix_bytes; instance_bytes = refl };
      spelled = spelled;
      short = omega (arith, of.short, ap length spelled, ap length whole, length-append p.prefix (64 ∷ suffix_text p.suffix), length-append p.prefix (instance_text (Some instance) ++ suffix_text p.suffix), length-append instance (suffix_text p.suffix));
    })

-- another instance takes the place of a name's own
pub with_instance-name : (p : NameParts) (instance : List ℕ) → AreFit p → with_instance (name_text p) instance ≡ name_text (record p { instance = Some instance })
with_instance-name p instance fit =
    ap (λ prefix. prefix ++ (64 ∷ instance ++ suffix_text_of (suffix_of (name_text p)))) (prefix_of-name p fit)
    ∙ ap (λ o. p.prefix ++ (64 ∷ instance ++ suffix_text_of o)) (suffix_of-name p)

template_for-named : (name : List ℕ) (o : Option (List ℕ)) → is_unit_name name ≡ true → instance_of name ≡ o → is_some o ≡ true → named (with_instance name []) ≡ option_map (λ instance. with_instance name []) o
template_for-named name None is same some = absurd (false≢true some)
template_for-named name (Some instance) is same some =
    cond-true (is_unit_name (with_instance name [])) (Some (with_instance name [])) None (is_unit_name-template name instance is same)

-- the template of a name with an instance is the name with the empty one
pub template_of-named : (name : List ℕ) → is_unit_name name ≡ true → is_some (instance_of name) ≡ true → named (with_instance name []) ≡ template_of name
template_of-named name is some = template_for-named name (instance_of name) is refl some
