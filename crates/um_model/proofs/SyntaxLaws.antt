-- The reading of a unit file, as a relation and as functions; its lines rise.
use Rattle.std.proofs.Common.{◌≡◌, ◌<◌, ◌≤◌, ℕ, ◌+◌, ◌-◌, zero, suc, Bool, true, false, not, ◌&&◌, ◌||◌, cond, eqb, List, [], ◌∷◌, ◌++◌, length, get_or, take, drop, map, append_assoc, length-append, Option, Some, None, refl, sym, ap, ◌∙◌, subst, inl, inr, arith}
use Rattle.std.specs.List.{AllPass, list_all, prefix_len, position_or_len, before_first, after_first, take_while, slice_index}
use Rattle.std.specs.List.Sorted.{IsStrictlyIncreasing}
use Rattle.std.specs.Str.Lines.{lines}
use Rattle.std.proofs.lemmas.List.{take_at, get_or_at, get_or_past, length_push, take_more, take_all, drop_at}
use Rattle.std.proofs.lemmas.List.Folds.{prefix_len-append}
use Rattle.std.proofs.lemmas.List.Sums.{AllPass-from_list_all, take_while-cons, split_at_first, passes_at_first}
use Rattle.std.proofs.lemmas.Bool.{eqb-true, cases_lt, eq-eqb, cond-true, ltb-true, ltb-false, lt-ltb, le-ltb}
use Rattle.std.proofs.lemmas.Option.{none-some, same_Some}
use Rattle.std.specs.Option.{is_some, option_map_or}
use Rattle.std.proofs.Math.Bool.{or-false, or-true}
use Rattle.um_model.specs.Ascii.{is_space}
use Rattle.um_model.specs.Text.{trim_start, trim, is_empty, is_blank}
use Rattle.std.specs.Ffi.{without_last}
use Rattle.um_model.specs.Syntax.{Line, is_comment, continues, Statement, Blank, Head, Pair, Stray, Item, Section, Assignment, Warned, Placed, physical, first_text, joined, joined_lines, in_brackets, statement_of, section_after, placed_of, placed_in, line_number, reading_of}
use Rattle.um_model.specs.declared.warnings.WarningKind.TheVariants.{BeforeAnySection, NoEqualsSign}
use Rattle.um_model.specs.FileForms.{trim_end, items_of, is_head, items_in, section_past, in_sections}
use Rattle.um_model.specs.FileForms.{physical_line, joined_line, before_bracket, has_equals, pair_of}
use Rattle.um_model.specs.SyntaxSpellings.{IsHeadOf, has_no_equals, Says, AreKept, AreJoined, Give, IsReading, stands_well, says_nothing, says_head, says_pair, says_no_pair, kept_none, drops_comment, keeps_blank, keeps_text, joined_none, stands_alone, goes_on, ends, gives_none, gives_line}

-- The reading of a text as a relation, line by line

-- Lines that count

pub kept_are : (n : ℕ) (ls : List (List ℕ)) → AreKept n ls (physical n ls)
kept_are n [] = kept_none n
kept_are n (l ∷ ls) = by_comment (is_comment l) refl (kept_are (n + 1) ls)
  where
    by_blank : (b : Bool) → is_comment l ≡ false → is_blank l ≡ b → AreKept (n + 1) ls (physical (n + 1) ls) → AreKept n (l ∷ ls) (physical_line n (cond b [] l) ∷ physical (n + 1) ls)
    by_blank true plain is later = keeps_blank n l ls (physical (n + 1) ls) is later
    by_blank false plain is later = keeps_text n l ls (physical (n + 1) ls) plain is later

    by_comment : (c : Bool) → is_comment l ≡ c → AreKept (n + 1) ls (physical (n + 1) ls) → AreKept n (l ∷ ls) (cond c (physical (n + 1) ls) (physical_line n (cond (is_blank l) [] l) ∷ physical (n + 1) ls))
    by_comment true is later = drops_comment n l ls (physical (n + 1) ls) is later
    by_comment false is later = by_blank (is_blank l) is refl later

-- a blank line is no comment
no_comment : (l : List ℕ) → is_blank l ≡ true → is_comment l ≡ false
no_comment l e = by_rest (trim_start l) refl e
  where
    by_rest : (rest : List ℕ) → trim_start l ≡ rest → is_empty rest ≡ true → is_comment l ≡ false
    by_rest [] is e = rw is refl
    by_rest (b ∷ bs) is e = absurd (cc)

pub kept_is : (n : ℕ) (all : List (List ℕ)) (kept : List Line) → AreKept n all kept → kept ≡ physical n all
kept_is n all kept (kept_none m) = refl
kept_is n all kept (drops_comment m l ls later is more) = kept_is (m + 1) ls later more ∙ sym (rw is refl)
kept_is n all kept (keeps_blank m l ls later is more) = ap (λ k. physical_line m [] ∷ k) (kept_is (m + 1) ls later more) ∙ sym (rw (no_comment l is) (rw is refl))
kept_is n all kept (keeps_text m l ls later plain is more) = ap (λ k. physical_line m l ∷ k) (kept_is (m + 1) ls later more) ∙ sym (rw plain (rw is refl))

-- Joined lines

-- there is a joined line if there is a line
joined_some : (l : Line) (ls : List Line) → (j : Line) × (js : List Line) × (joined (l ∷ ls) ≡ j ∷ js)
joined_some l ls = by_test (continues l.text)
  where
    by_test : (c : Bool) → (j : Line) × (js : List Line) × (cond c (joined_line l (first_text (joined ls)) ∷ drop 1 (joined ls)) (l ∷ joined ls) ≡ j ∷ js)
    by_test true = (joined_line l (first_text (joined ls)), drop 1 (joined ls), refl)
    by_test false = (l, joined ls, refl)

-- a line that goes on, before lines whose joined ones are known
joined_behind : (l : Line) (ls : List Line) → continues l.text ≡ true → AreJoined ls (joined ls) → AreJoined (l ∷ ls) (joined_line l (first_text (joined ls)) ∷ drop 1 (joined ls))
joined_behind l [] is later = ends l is
joined_behind l (k ∷ ls) is later =
    let some = joined_some k ls in
    subst (λ js. AreJoined (l ∷ k ∷ ls) (joined_line l (first_text js) ∷ drop 1 js)) (sym some.2)
    (goes_on l some.0 (k ∷ ls) some.1 is (subst (AreJoined (k ∷ ls)) some.2 later))

pub joined_are : (ls : List Line) → AreJoined ls (joined ls)
joined_are [] = joined_none
joined_are (l ∷ ls) = by_test (continues l.text) refl (joined_are ls)
  where
    by_test : (c : Bool) → continues l.text ≡ c → AreJoined ls (joined ls) → AreJoined (l ∷ ls) (cond c (joined_line l (first_text (joined ls)) ∷ drop 1 (joined ls)) (l ∷ joined ls))
    by_test true is later = joined_behind l ls is later
    by_test false is later = stands_alone l ls (joined ls) is later

pub joined_is : (ls js : List Line) → AreJoined ls js → js ≡ joined ls
joined_is all js joined_none = refl
joined_is all js (stands_alone l ls later is more) = ap (λ k. l ∷ k) (joined_is ls later more) ∙ sym (rw is refl)
joined_is all js (goes_on l j ls later is more) =
    let same = joined_is ls (j ∷ later) more in
    ap (λ k. joined_line l (first_text k) ∷ drop 1 k) same ∙ sym (rw is refl)
joined_is all js (ends l is) = sym (rw is refl)

-- The statement of a line

last_at : (xs : List ℕ) (c : ℕ) → eqb (get_or (xs ++ c ∷ []) (length (xs ++ c ∷ []) - 1) 0) c ≡ true
last_at xs c =
    let n : length (xs ++ c ∷ []) - 1 ≡ length xs = omega (arith, length_push xs c) in
    eq-eqb _ c (ap (λ k. get_or (xs ++ c ∷ []) k 0) n ∙ get_or_at xs c [] 0 (length xs) refl)

pub without_last-push : (xs : List ℕ) (c : ℕ) → without_last (xs ++ c ∷ []) ≡ xs
without_last-push xs c =
    let n : length (xs ++ c ∷ []) - 1 ≡ length xs = omega (arith, length_push xs c) in
    ap (λ k. take k (xs ++ c ∷ [])) n ∙ take_at xs (c ∷ []) (length xs) refl

pub before_bracket-push : (xs : List ℕ) → before_bracket (xs ++ 93 ∷ []) ≡ Some xs
before_bracket-push xs = cond-true _ _ _ (last_at xs 93) ∙ ap Some (without_last-push xs 93)

pub ends_in : (line : List ℕ) (c : ℕ) → 0 < c → get_or line (length line - 1) 0 ≡ c → line ≡ take (length line - 1) line ++ c ∷ []
ends_in line c positive e =
    elim (cases_lt 0 (length line)) [
      | inl some ↦ sym (take_all (length line - 1 + 1) line (omega arith)) ∙ take_more line (length line - 1) 0 (omega arith) ∙ ap (λ x. take (length line - 1) line ++ x ∷ []) e
      | inr empty ↦ absurd (omega (arith, e, get_or_past line (length line - 1) 0 (omega arith)))
    ]

-- `in_brackets` finds a name in brackets, and nothing else
in_brackets-head : (text name : List ℕ) → text ≡ 91 ∷ name ++ 93 ∷ [] → in_brackets text ≡ Some name
in_brackets-head text name is = ap in_brackets is ∙ before_bracket-push name

head_from : (text name : List ℕ) → in_brackets text ≡ Some name → text ≡ 91 ∷ name ++ 93 ∷ []
head_from [] name e = absurd (none-some name e)
head_from (b ∷ bs) name e = by_first (eqb b 91) refl e
  where
    by_last : (t : Bool) → b ≡ 91 → eqb (get_or bs (length bs - 1) 0) 93 ≡ t → cond t (Some (without_last bs)) None ≡ Some name → b ∷ bs ≡ 91 ∷ name ++ 93 ∷ []
    by_last true first is e = let same : without_last bs ≡ name = same_Some (without_last bs) name e in
        ap (λ x. x ∷ bs) first ∙ ap (λ xs. 91 ∷ xs) (ends_in bs 93 (omega arith) (eqb-true _ 93 is) ∙ ap (λ xs. xs ++ 93 ∷ []) same)
    by_last false first is e = absurd (none-some name e)

    by_first : (t : Bool) → eqb b 91 ≡ t → cond t (before_bracket bs) None ≡ Some name → b ∷ bs ≡ 91 ∷ name ++ 93 ∷ []
    by_first true is e = by_last (eqb (get_or bs (length bs - 1) 0) 93) (eqb-true b 91 is) refl e
    by_first false is e = absurd (none-some name e)

no_brackets : (text : List ℕ) → ((name : List ℕ) → ¬ IsHeadOf text name) → in_brackets (trim text) ≡ None
no_brackets text never = by_name (in_brackets (trim text)) refl
  where
    by_name : (r : Option (List ℕ)) → in_brackets (trim text) ≡ r → r ≡ None
    by_name None e = refl
    by_name (Some name) e = absurd (never name (head_from (trim text) name e))

-- a blank text has nothing in brackets
blank_no_brackets : (text : List ℕ) → is_blank text ≡ true → in_brackets (trim text) ≡ None
blank_no_brackets text e = by_rest (trim_start text) refl e
  where
    by_rest : (rest : List ℕ) → trim_start text ≡ rest → is_empty rest ≡ true → in_brackets (trim text) ≡ None
    by_rest [] is e = ap (λ r. in_brackets (trim_end r)) is
    by_rest (b ∷ bs) is e = absurd (cc)

-- a text with an `=` in it is not blank
not_blank : (before after : List ℕ) → is_blank (before ++ 61 ∷ after) ≡ false
not_blank [] after = refl
not_blank (b ∷ before) after = by_test (is_space b) (not_blank before after)
  where
    by_test : (t : Bool) → is_blank (before ++ 61 ∷ after) ≡ false → is_empty (cond t (trim_start (before ++ 61 ∷ after)) (b ∷ before ++ 61 ∷ after)) ≡ false
    by_test true later = later
    by_test false later = refl

-- if each passes, the prefix that passes is all, and the other way round
passing_prefix : (q : ℕ → Bool) (xs : List ℕ) → list_all q xs ≡ true → prefix_len q xs ≡ length xs
passing_prefix q [] all = refl
passing_prefix q (x ∷ xs) all = by_test (q x) all (λ more. passing_prefix q xs more)
  where
    by_test : (t : Bool) → (t && list_all q xs) ≡ true → (list_all q xs ≡ true → prefix_len q xs ≡ length xs) → cond t (1 + prefix_len q xs) 0 ≡ suc (length xs)
    by_test true all later = omega (arith, later all)
    by_test false all later = absurd (cc)

prefix_passes : (q : ℕ → Bool) (xs : List ℕ) → list_all q (take_while q xs) ≡ true
prefix_passes q [] = refl
prefix_passes q (x ∷ xs) = ap (list_all q) (take_while-cons q x xs) ∙ by_test (q x) refl (prefix_passes q xs)
  where
    by_test : (t : Bool) → q x ≡ t → list_all q (take_while q xs) ≡ true → list_all q (cond t (x ∷ take_while q xs) []) ≡ true
    by_test true is later = rw is later
    by_test false is later = refl

-- the first `=` stands after a text that has none
first_equals : (before after : List ℕ) → has_no_equals before ≡ true → position_or_len (λ b. eqb b 61) (before ++ 61 ∷ after) ≡ length before
first_equals before after fit =
    let q : ℕ → Bool = λ b. not (eqb b 61) in
    let all : prefix_len q before ≡ length before = passing_prefix q before fit in
    prefix_len-append q before (61 ∷ after) ∙ cond-true _ _ _ (eq-eqb _ _ all) ∙ omega arith

cut_before : (before after : List ℕ) → has_no_equals before ≡ true → before_first (λ b. eqb b 61) (before ++ 61 ∷ after) ≡ before
cut_before before after fit = ap (λ n. take n (before ++ 61 ∷ after)) (first_equals before after fit) ∙ take_at before (61 ∷ after) (length before) refl

cut_after : (before after : List ℕ) → has_no_equals before ≡ true → after_first (λ b. eqb b 61) (before ++ 61 ∷ after) ≡ after
cut_after before after fit =
    ap (λ n. drop (n + 1) (before ++ 61 ∷ after)) (first_equals before after fit)
    ∙ ap (drop (length before + 1)) (sym (append_assoc before (61 ∷ []) after))
    ∙ drop_at (before ++ 61 ∷ []) after (length before + 1) (length_push before 61)

pub says_of : (text : List ℕ) → Says text (statement_of text)
says_of text = by_name (in_brackets (trim text)) refl
  where
    by_equals : (t : Bool) → ((name : List ℕ) → ¬ IsHeadOf text name) → is_blank text ≡ false → has_equals text ≡ t → Says text (cond t (pair_of text) Stray)
    by_equals true never some is =
        let p : ℕ → Bool = λ b. eqb b 61 in
        let lt : position_or_len p text < length text = ltb-true _ _ is in
        says_pair text (before_first p text) (after_first p text) never
        (split_at_first p text 0 lt ∙ ap (λ c. before_first p text ++ c ∷ after_first p text) (eqb-true _ 61 (passes_at_first p text 0 lt)))
        (prefix_passes (λ b. not (eqb b 61)) text)
    by_equals false never some is =
        let q : ℕ → Bool = λ b. not (eqb b 61) in
        let all : length text ≤ prefix_len q text = ltb-false _ _ is in
        says_no_pair text never some (ap (list_all q) (sym (take_all (prefix_len q text) text all)) ∙ prefix_passes q text)

    by_blank : (t : Bool) → ((name : List ℕ) → ¬ IsHeadOf text name) → is_blank text ≡ t → Says text (cond t Blank (cond (has_equals text) (pair_of text) Stray))
    by_blank true never is = says_nothing text is
    by_blank false never is = by_equals (has_equals text) never is refl

    by_name : (r : Option (List ℕ)) → in_brackets (trim text) ≡ r → Says text (option_map_or Head r (cond (is_blank text) Blank (cond (has_equals text) (pair_of text) Stray)))
    by_name (Some name) is = says_head text name (head_from (trim text) name is)
    by_name None is = by_blank (is_blank text) (λ name head. none-some name (sym is ∙ in_brackets-head (trim text) name head)) refl

pub says_is : (text : List ℕ) (statement : Statement) → Says text statement → statement ≡ statement_of text
says_is text statement (says_nothing t blank) = sym (rw (blank_no_brackets t blank) (rw blank refl))
says_is text statement (says_head t name head) = sym (rw (in_brackets-head (trim t) name head) refl)
says_is text statement (says_pair t before after never parts fit) =
    let p : ℕ → Bool = λ b. eqb b 61 in
    let at : position_or_len p t ≡ length before = ap (position_or_len p) parts ∙ first_equals before after fit in
    let more : length t ≡ length before + suc (length after) = ap length parts ∙ length-append before (61 ∷ after) in
    let found : has_equals t ≡ true = lt-ltb _ _ (omega arith) in
    let some : is_blank t ≡ false = ap is_blank parts ∙ not_blank before after in
    let key : before_first p t ≡ before = ap (before_first p) parts ∙ cut_before before after fit in
    let value : after_first p t ≡ after = ap (after_first p) parts ∙ cut_after before after fit in
    ap (λ k. Pair (trim k) (trim after)) (sym key) ∙ ap (λ v. Pair (trim (before_first p t)) (trim v)) (sym value)
    ∙ sym (rw (no_brackets t never) (rw some (rw found refl)))
says_is text statement (says_no_pair t never some fit) =
    let q : ℕ → Bool = λ b. not (eqb b 61) in
    let none : has_equals t ≡ false = le-ltb _ _ (omega (arith, passing_prefix q t fit)) in
    sym (rw (no_brackets t never) (rw some (rw none refl)))

pub give_of : (begun : Bool) (ls : List Line) → Give begun ls (items_in begun ls)
give_of begun [] = gives_none begun
give_of begun (l ∷ ls) = gives_line begun l ls (statement_of l.text) (items_in (begun || is_head (statement_of l.text)) ls) (says_of l.text) (give_of (begun || is_head (statement_of l.text)) ls)

pub give_is : (begun : Bool) (ls : List Line) (items : List Item) → Give begun ls items → items ≡ items_in begun ls
give_is begun all items (gives_none b) = refl
give_is begun all items (gives_line b l ls statement later says more) =
    ap (λ k. items_of statement b l.number l.whole ++ k) (give_is (b || is_head statement) ls later more)
    ∙ ap (λ s. items_of s b l.number l.whole ++ items_in (b || is_head s) ls) (says_is l.text statement says)

-- The reading

-- the items of a line, and then those of the others
line_placed : (l : Line) (ls : List Line) (statement : Statement) (section : Option (List ℕ)) → ((later : Option (List ℕ)) → placed_in later ls ≡ in_sections later (items_in (is_some later) ls))
    → placed_of statement section l ++ placed_in (section_after statement section) ls ≡ in_sections section (items_of statement (is_some section) l.number l.whole ++ items_in (is_some section || is_head statement) ls)
line_placed l ls Blank None rest = rest None
line_placed l ls Blank (Some s) rest = rest (Some s)
line_placed l ls (Head name) None rest = ap (λ k. record { section = Some name; item = Section name l.number } ∷ k) (rest (Some name))
line_placed l ls (Head name) (Some s) rest = ap (λ k. record { section = Some name; item = Section name l.number } ∷ k) (rest (Some name))
line_placed l ls (Pair key value) None rest = ap (λ k. record { section = None; item = Warned BeforeAnySection l.number } ∷ k) (rest None)
line_placed l ls (Pair key value) (Some s) rest = ap (λ k. record { section = Some s; item = Assignment key value l.number l.whole } ∷ k) (rest (Some s))
line_placed l ls Stray None rest = ap (λ k. record { section = None; item = Warned NoEqualsSign l.number } ∷ k) (rest None)
line_placed l ls Stray (Some s) rest = ap (λ k. record { section = Some s; item = Warned NoEqualsSign l.number } ∷ k) (rest (Some s))

-- the items with their sections are those that the lines give in them
pub placed_is : (section : Option (List ℕ)) (ls : List Line) → placed_in section ls ≡ in_sections section (items_in (is_some section) ls)
placed_is section [] = refl
placed_is section (l ∷ ls) = line_placed l ls (statement_of l.text) section (λ later. placed_is later ls)

pub reading_given : (text : List ℕ) → IsReading text (reading_of text)
reading_given text = record {
  kept = physical 1 (lines text);
  joined_ones = joined_lines text;
  items = items_in false (joined_lines text);
  keeps = kept_are 1 (lines text);
  joins = joined_are (physical 1 (lines text));
  gives = give_of false (joined_lines text);
  places = placed_is None (joined_lines text);
}

pub reading_is : (text : List ℕ) (reading : List Placed) → IsReading text reading → reading ≡ reading_of text
reading_is text reading r =
    r.places ∙ ap (in_sections None) (give_is false r.joined_ones r.items r.gives
    ∙ ap (items_in false) (joined_is r.kept r.joined_ones r.joins ∙ ap joined (kept_is 1 (lines text) r.kept r.keeps)))
    ∙ sym (placed_is None (joined_lines text))

-- The lines of a reading rise

-- the numbers rise, from n on
abbrev Rises : ℕ → List ℕ → Type 0
Rises n [] = Unit {0}
Rises n (x ∷ xs) = (n ≤ x) × Rises (x + 1) xs

from_below : (m n : ℕ) (xs : List ℕ) → m ≤ n → Rises n xs → Rises m xs
from_below m n [] le rise = tt
from_below m n (x ∷ xs) le rise = (omega (arith, rise.0), rise.1)

physical_rise : (n : ℕ) (ls : List (List ℕ)) → Rises n (map (λ l. l.number) (physical n ls))
physical_rise n [] = tt
physical_rise n (l ∷ ls) = by_comment (is_comment l) (physical_rise (n + 1) ls)
  where
    by_comment : (c : Bool) → Rises (n + 1) (map (λ l. l.number) (physical (n + 1) ls))
        → Rises n (map (λ l. l.number) (cond c (physical (n + 1) ls) (physical_line n (cond (is_blank l) [] l) ∷ physical (n + 1) ls)))
    by_comment true later = from_below n (n + 1) (map (λ l. l.number) (physical (n + 1) ls)) (omega arith) later
    by_comment false later = (omega arith, later)

rest_rise : (n : ℕ) (ls : List Line) → Rises n (map (λ l. l.number) ls) → Rises n (map (λ l. l.number) (drop 1 ls))
rest_rise n [] rise = tt
rest_rise n (l ∷ ls) rise = from_below n (l.number + 1) (map (λ l. l.number) ls) (omega (arith, rise.0)) rise.1

joined_rise : (n : ℕ) (ls : List Line) → Rises n (map (λ l. l.number) ls) → Rises n (map (λ l. l.number) (joined ls))
joined_rise n [] rise = tt
joined_rise n (l ∷ ls) rise = by_test (continues l.text) rise.0 (joined_rise (l.number + 1) ls rise.1)
  where
    by_test : (c : Bool) → n ≤ l.number → Rises (l.number + 1) (map (λ l. l.number) (joined ls))
        → Rises n (map (λ l. l.number) (cond c (joined_line l (first_text (joined ls)) ∷ drop 1 (joined ls)) (l ∷ joined ls)))
    by_test true le later = (le, rest_rise (l.number + 1) (joined ls) later)
    by_test false le later = (le, later)

-- a line gives one item at most
one_rises : (n k : ℕ) (statement : Statement) (begun whole : Bool) (rest : List Item) → n ≤ k → Rises (k + 1) (map line_number rest)
    → Rises n (map line_number (items_of statement begun k whole ++ rest))
one_rises n k Blank begun whole rest le later = from_below n (k + 1) (map line_number rest) (omega arith) later
one_rises n k (Head name) begun whole rest le later = (le, later)
one_rises n k (Pair key value) true whole rest le later = (le, later)
one_rises n k (Pair key value) false whole rest le later = (le, later)
one_rises n k Stray begun whole rest le later = (le, later)

items_rise : (begun : Bool) (n : ℕ) (ls : List Line) → Rises n (map (λ l. l.number) ls) → Rises n (map line_number (items_in begun ls))
items_rise begun n [] rise = tt
items_rise begun n (l ∷ ls) rise =
    let next = begun || is_head (statement_of l.text) in
    one_rises n l.number (statement_of l.text) begun l.whole (items_in next ls) rise.0 (items_rise next (l.number + 1) ls rise.1)

same_numbers : (section : Option (List ℕ)) (items : List Item) → map (λ p. line_number p.item) (in_sections section items) ≡ map line_number items
same_numbers section [] = refl
same_numbers section (i ∷ is) = ap (λ ns. line_number i ∷ ns) (same_numbers (section_past section i) is)

rises_at : (n : ℕ) (xs : List ℕ) (k : ℕ) → Rises n xs → k + 1 < length xs → slice_index xs k < slice_index xs (k + 1)
rises_at n [] k rise lt = absurd (omega arith)
rises_at n (x ∷ []) k rise lt = absurd (omega arith)
rises_at n (x ∷ y ∷ ys) zero rise lt = omega (arith, rise.1.0)
rises_at n (x ∷ y ∷ ys) (suc k) rise lt =
    let step : suc k + 1 ≡ suc (k + 1) = omega arith in
    subst (λ j. slice_index (y ∷ ys) k < slice_index (x ∷ y ∷ ys) j) (sym step) (rises_at (x + 1) (y ∷ ys) k rise.1 (omega arith))

-- the items of a reading stand in the order of their lines, and a line gives one at most
pub lines_rise : (text : List ℕ) (reading : List Placed) → IsReading text reading → IsStrictlyIncreasing (map (λ p. line_number p.item) reading)
lines_rise text reading r =
    subst IsStrictlyIncreasing (sym (ap (map (λ p. line_number p.item)) (reading_is text reading r ∙ placed_is None (joined_lines text)) ∙ same_numbers None (items_in false (joined_lines text))))
    (λ k. rises_at 1 (map line_number (items_in false (joined_lines text))) k
    (items_rise false 1 (joined_lines text) (joined_rise 1 (physical 1 (lines text)) (physical_rise 1 (lines text)))))

-- Items stand well in their sections

abbrev AllStandWell : List Placed → Type 0
AllStandWell placed = list_all (λ p. stands_well p.section p.item) placed ≡ true

-- the items of a line stand well, if a section has begun exactly when there is one, and if the items that follow stand well
one_stands_well : (statement : Statement) (begun whole : Bool) (section : Option (List ℕ)) (k : ℕ) (later : Bool → List Item) → begun ≡ is_some section
    → ((next : Bool) (after : Option (List ℕ)) → next ≡ is_some after → AllStandWell (in_sections after (later next)))
    → AllStandWell (in_sections section (items_of statement begun k whole ++ later (begun || is_head statement)))
one_stands_well Blank begun whole section k later same rest = rest (begun || false) section (or-false begun ∙ same)
one_stands_well (Head name) begun whole section k later same rest = rest (begun || true) (Some name) (or-true begun)
one_stands_well (Pair key value) true whole (Some name) k later same rest = rest true (Some name) refl
one_stands_well (Pair key value) true whole None k later same rest = absurd (cc)
one_stands_well (Pair key value) false whole (Some name) k later same rest = absurd (cc)
one_stands_well (Pair key value) false whole None k later same rest = rest false None refl
one_stands_well Stray begun whole None k later same rest = rest (begun || false) None (or-false begun ∙ same)
one_stands_well Stray begun whole (Some name) k later same rest = rest (begun || false) (Some name) (or-false begun ∙ same)

all_stand_well : (ls : List Line) (begun : Bool) (section : Option (List ℕ)) → begun ≡ is_some section → AllStandWell (in_sections section (items_in begun ls))
all_stand_well [] begun section same = refl
all_stand_well (l ∷ ls) begun section same =
    one_stands_well (statement_of l.text) begun l.whole section l.number (λ next. items_in next ls) same (λ next after is. all_stand_well ls next after is)

-- in a reading each item stands well in its section
pub sections_fit : (text : List ℕ) (reading : List Placed) → IsReading text reading → AllPass (λ p. stands_well p.section p.item) reading
sections_fit text reading r =
    AllPass-from_list_all (λ p. stands_well p.section p.item) reading
    (subst AllStandWell (sym (reading_is text reading r ∙ placed_is None (joined_lines text))) (all_stand_well (joined_lines text) false None refl))
