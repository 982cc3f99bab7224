-- The laws of values: at most one reading of each kind, and the steps of a sum of parts.
use Rattle.std.proofs.Common.{◌≡◌, ◌<◌, ◌≤◌, ℕ, zero, suc, ◌+◌, ◌-◌, ◌*◌, Bool, true, false, ◌&&◌, not, cond, eqb, leb, List, [], ◌∷◌, ◌++◌, length, take, drop, map, Option, Some, None, option_map, find, inl, inr, refl, sym, ap, subst, ◌∙◌, codes, append_assoc, arith}
use Rattle.std.specs.Prelude.{nat_lt, option_and_then, sum}
use Rattle.std.specs.Char.{to_ascii_lowercase}
use Rattle.std.specs.List.{list_any, list_all}
use Rattle.std.specs.Str.{bytes_eq, str_eq_ignore_ascii_case}
use Rattle.std.proofs.Math.Path.{fun_ext}
use Rattle.std.proofs.lemmas.List.{take-append-drop}
use Rattle.std.proofs.lemmas.List.Sums.{take_while-cons, sum_by-cons}
use Rattle.std.proofs.lemmas.Option.{same_Some, none-some}
use Rattle.std.proofs.lemmas.Bool.{cases_Bool, cond-true, cond-false, and_from, and_parts, or_cases, not-true, eqb-true, lt-ltb, ltb-true, le-leb, leb-true, false_from_ne_true, true≢false}
use Rattle.std.proofs.lemmas.Slice.Eq.{bytes_eq-Decides}
use Rattle.um_model.specs.Ascii.{is_space, is_digit}
use Rattle.std.specs.Option.{option_map_or}
use Rattle.um_model.specs.Pieces.{Gives, Unreadable, reading}
use Rattle.um_model.specs.Text.{trim_start, is_empty, is_blank}
use Rattle.um_model.specs.Results.{Finds}
use Rattle.um_model.specs.Moments.{span_limit}
use Rattle.um_model.specs.Values.{words_for, boolean_of, decimal, is_decimal, number_of, time_of, time_front, span_of, exits_of, restart_text, policy_named}
use Rattle.um_model.specs.declared.service.End.{End}
use Rattle.um_model.specs.declared.settings.RestartPolicy.{RestartPolicy}
use Rattle.um_model.specs.declared.settings.RestartPolicy.TheVariants.{No, Always, OnSuccess, OnFailure, OnAbnormal, OnAbort, OnWatchdog}
use Rattle.um_model.proofs.FindsLaws.{one_found}
use Rattle.um_model.proofs.PiecesLaws.{prefixed, prefixed-nil, reading_first, reading_unreadable, reading-StandsForText, StandsForText-reading, Follows, past_piece}
use Rattle.um_model.specs.Pieces.{done}
use Rattle.um_model.proofs.TextLaws.{trim_start_cuts}
use Rattle.um_model.specs.ValueSpellings.{span_within, tells_end, is_exit}
use Rattle.um_model.specs.FileForms.{number_limit, unit_size, digits_of, unit_of, past_part}
use Rattle.um_model.specs.FileForms.{words_in, policies}
use Rattle.um_model.specs.ValueSpellings.{IsBoolean, IsNumber, AddUpTo, IsSpan, IsExitSet, IsTime}

-- ---- the laws

-- a run of digits doesn't begin with whitespace
no_space_first : (b : ℕ) (bs : List ℕ) → 0 < length (digits_of (b ∷ bs)) → is_space b ≡ true → ⊥
no_space_first b bs some white = elim (cases_Bool (is_digit b)) [
  | inl digit ↦
      let low = and_parts (leb 48 b) (leb b 57) digit in
      elim (or_cases (eqb b 32) (eqb b 9) white) [ inl e ↦ omega (arith, eqb-true b 32 e, leb-true 48 b low.0) | inr e ↦ omega (arith, eqb-true b 9 e, leb-true 48 b low.0) ]
  | inr other ↦ let none : digits_of (b ∷ bs) ≡ [] = take_while-cons is_digit b bs ∙ cond-false _ _ _ other in omega (arith, ap length none)
]

-- a number and a unit say one time
pub one_time : (digits unit : List ℕ) (a b : ℕ) → IsTime digits unit a → IsTime digits unit b → a ≡ b
one_time digits unit a b p q = p.value ∙ ap (λ size. decimal digits * size) (same_Some p.size q.size (sym p.unit_is ∙ q.unit_is)) ∙ sym q.value

trim_start-le : (text : List ℕ) → length (trim_start text) ≤ length text
trim_start-le [] = omega arith
trim_start-le (b ∷ bs) = elim (cases_Bool (is_space b)) [
  | inl white ↦ let e : trim_start (b ∷ bs) ≡ trim_start bs = cond-true _ _ _ white in omega (arith, trim_start-le bs, ap length e)
  | inr other ↦ let e : trim_start (b ∷ bs) ≡ b ∷ bs = cond-false _ _ _ other in omega (arith, ap length e)
]

-- the time of a number and its unit
time_of-IsTime : (digits unit : List ℕ) (n : ℕ) → IsTime digits unit n → time_of digits unit ≡ Some n
time_of-IsTime digits unit n time =
    cond-true _ _ _ (lt-ltb 0 (length digits) time.some) ∙ ap (option_map (λ size. decimal digits * size)) time.unit_is ∙ ap Some (sym time.value)

mapped : {A B : Type 0} (f : A → B) (r : Option A) (y : B) → option_map f r ≡ Some y → (x : A) × (r ≡ Some x) × (f x ≡ y)
mapped f None y e = absurd (none-some y e)
mapped f (Some x) y e = (x, refl, same_Some (f x) y e)

IsTime-time_of : (digits unit : List ℕ) (n : ℕ) → time_of digits unit ≡ Some n → IsTime digits unit n
IsTime-time_of digits unit n e = elim (cases_Bool (nat_lt 0 (length digits))) [
  | inl some ↦
      let t = mapped (λ size. decimal digits * size) (unit_size unit) n (sym (cond-true _ _ _ some) ∙ e) in
      record { some = ltb-true 0 (length digits) some; size = t.0; unit_is = t.1; value = sym t.2 }
  | inr other ↦ absurd (none-some n (sym (cond-false _ _ _ other) ∙ e))
]

trimmed_follows : (m : ℕ) (text : List ℕ) → Follows text (drop m (trim_start text))
trimmed_follows m text =
    let cut = trim_start_cuts text in
    let rest = trim_start text in (
      cut.front ++ take m rest,
      cut.parts ∙ ap (λ x. cut.front ++ x) (sym (take-append-drop m rest)) ∙ sym (append_assoc cut.front (take m rest) (drop m rest)),
    )

part_follows : (n m b : ℕ) (bs : List ℕ) → 0 < n → Follows bs (drop m (trim_start (drop n (b ∷ bs))))
part_follows zero m b bs some = absurd (omega arith)
part_follows (suc n) m b bs some =
    let later = trimmed_follows m (drop n bs) in
    (take n bs ++ later.0, sym (take-append-drop n bs) ∙ ap (λ x. take n bs ++ x) later.1 ∙ sym (append_assoc (take n bs) later.0 _))

-- a part takes a byte at least
past_follows : (b : ℕ) (bs : List ℕ) → 0 < length (digits_of (b ∷ bs)) → Follows bs (past_part (b ∷ bs))
past_follows b bs some = part_follows (length (digits_of (b ∷ bs))) (length (unit_of (b ∷ bs))) b bs some

-- the sum of the times of a text
abbrev sum_in : List ℕ → Option ℕ
sum_in text = option_map sum (reading time_front text)

sum_in-AddUpTo : (text : List ℕ) (n : ℕ) → AddUpTo text n → sum_in text ≡ Some n
sum_in-AddUpTo text n add = ap (option_map sum) (reading-StandsForText time_front text add.0 add.1) ∙ ap Some add.2

AddUpTo-sum_in : (text : List ℕ) (n : ℕ) → sum_in text ≡ Some n → AddUpTo text n
AddUpTo-sum_in text n e =
    let t = mapped sum (reading time_front text) n e in
    (t.0, StandsForText-reading time_front text t.0 t.1, t.2)

space_sum : (b : ℕ) (bs : List ℕ) → is_space b ≡ true → sum_in (b ∷ bs) ≡ sum_in bs
space_sum b bs white = ap (option_map sum) (reading_first time_front b 1 bs [] (cond-true _ _ _ white) ∙ prefixed-nil (reading time_front bs))

trimmed_sum : (text : List ℕ) → sum_in (trim_start text) ≡ sum_in text
trimmed_sum [] = refl
trimmed_sum (b ∷ bs) = elim (cases_Bool (is_space b)) [
  | inl white ↦ ap sum_in (cond-true _ _ _ white) ∙ trimmed_sum bs ∙ sym (space_sum b bs white)
  | inr other ↦ ap sum_in (cond-false _ _ _ other)
]

-- whitespace in front changes no sum
pub sum-untrimmed : (text : List ℕ) (n : ℕ) → AddUpTo (trim_start text) n → AddUpTo text n
sum-untrimmed text n adds = AddUpTo-sum_in text n (sym (trimmed_sum text) ∙ sum_in-AddUpTo (trim_start text) n adds)

pub sum-trimmed : (text : List ℕ) (n : ℕ) → AddUpTo text n → AddUpTo (trim_start text) n
sum-trimmed text n adds = AddUpTo-sum_in (trim_start text) n (trimmed_sum text ∙ sum_in-AddUpTo text n adds)

sum_of_first : (first : ℕ) (r : Option (List ℕ)) → option_map sum (prefixed (first ∷ []) r) ≡ option_map (λ m. first + m) (option_map sum r)
sum_of_first first None = refl
sum_of_first first (Some times) = ap Some (sum_by-cons (λ x. x) first times)

part_sum : (b : ℕ) (bs : List ℕ) (first : ℕ) → is_space b ≡ false → IsTime (digits_of (b ∷ bs)) (unit_of (b ∷ bs)) first
    → sum_in (b ∷ bs) ≡ option_map (λ m. first + m) (sum_in (past_part (b ∷ bs)))
part_sum b bs first apart time =
    let text = b ∷ bs in
    let past = past_part text in
    let n = length text - length past in
    let front = cond-false _ _ _ apart ∙ ap (λ t. option_map_or (λ m. Gives (m ∷ []) n) t Unreadable) (time_of-IsTime (digits_of text) (unit_of text) first time) in
    ap (option_map sum) (reading_first time_front b n bs (first ∷ []) front ∙ ap (λ t. prefixed (first ∷ []) (reading time_front t)) (past_piece b bs past (past_follows b bs time.some)))
    ∙ sum_of_first first (reading time_front past)

-- a sum of nothing, and of one part more
pub nothing : AddUpTo [] 0
nothing = ([], done, refl)

pub part : (text : List ℕ) (first n : ℕ) → IsTime (digits_of text) (unit_of text) first → AddUpTo (past_part text) n → AddUpTo text (first + n)
part [] first n time adds = absurd (omega (arith, time.some))
part (b ∷ bs) first n time adds =
    AddUpTo-sum_in (b ∷ bs) (first + n)
    (part_sum b bs first (false_from_ne_true _ (no_space_first b bs time.some)) time ∙ ap (option_map (λ m. first + m)) (sum_in-AddUpTo (past_part (b ∷ bs)) n adds))

-- a text that is trimmed in front and isn't empty begins with a part
pub sum-first : (text : List ℕ) (n : ℕ) → trim_start text ≡ text → is_empty text ≡ false → AddUpTo text n
    → (first : ℕ) × (m : ℕ) × IsTime (digits_of text) (unit_of text) first × AddUpTo (past_part text) m × (n ≡ first + m)
sum-first [] n trimmed some adds = absurd (true≢false some)
sum-first (b ∷ bs) n trimmed some adds = elim (cases_Bool (is_space b)) [
  | inl white ↦ absurd (omega (arith, trim_start-le bs, ap length (sym (cond-true (is_space b) (trim_start bs) (b ∷ bs) white) ∙ trimmed)))
  | inr apart ↦
      let text = b ∷ bs in
      let size = length text - length (past_part text) in
      elim (time_of (digits_of text) (unit_of text)) as
      (λ t. time_of (digits_of text) (unit_of text) ≡ t → (first : ℕ) × (m : ℕ) × IsTime (digits_of text) (unit_of text) first × AddUpTo (past_part text) m × (n ≡ first + m)) [
        | None ↦ λ e.
            let none = ap (option_map sum) (reading_unreadable time_front b bs (cond-false _ _ _ apart ∙ ap (λ t. option_map_or (λ m. Gives (m ∷ []) size) t Unreadable) e)) in
            absurd (none-some n (sym none ∙ sum_in-AddUpTo text n adds))
        | Some first ↦ λ e.
            let time = IsTime-time_of (digits_of text) (unit_of text) first e in
            let t = mapped (λ m. first + m) (sum_in (past_part text)) n (sym (part_sum b bs first apart time) ∙ sum_in-AddUpTo text n adds) in
            (first, t.0, time, AddUpTo-sum_in (past_part text) t.0 t.1, sym t.2)
      ] refl
]

pub trim_start-trim_start : (text : List ℕ) → trim_start (trim_start text) ≡ trim_start text
trim_start-trim_start [] = refl
trim_start-trim_start (b ∷ bs) = elim (cases_Bool (is_space b)) [
  | inl white ↦ ap trim_start (cond-true _ _ _ white) ∙ trim_start-trim_start bs ∙ sym (cond-true _ _ _ white)
  | inr other ↦ ap trim_start (cond-false (is_space b) (trim_start bs) (b ∷ bs) other)
]

no_sum : (n : ℕ) → AddUpTo (codes "infinity") n → ⊥
no_sum n sum = let q = sum-first (codes "infinity") n refl refl sum in omega (arith, q.2.some)

-- The same as functions.

-- no word for yes is one for no
no_word_for_both : (lower : List ℕ) (words : List (List ℕ)) → list_all (λ w. not (list_any (str_eq_ignore_ascii_case w) (words_for true))) words ≡ true
    → list_any (λ w. bytes_eq lower (map to_ascii_lowercase w)) words ≡ true → list_any (λ w. bytes_eq lower (map to_ascii_lowercase w)) (words_for true) ≡ false
no_word_for_both lower [] apart h = absurd (true≢false (sym h))
no_word_for_both lower (w ∷ words) apart h =
    let t = and_parts (not (list_any (str_eq_ignore_ascii_case w) (words_for true))) _ apart in
    elim (or_cases (bytes_eq lower (map to_ascii_lowercase w)) _ h) [
      | inl same ↦ ap (λ x. list_any (λ v. bytes_eq x (map to_ascii_lowercase v)) (words_for true)) ((bytes_eq-Decides lower (map to_ascii_lowercase w)).0 same) ∙ not-true _ t.0
      | inr later ↦ no_word_for_both lower words t.1 later
    ]

-- the function returns the truth value that a text is a word for
pub boolean_of-IsBoolean : (text : List ℕ) (b : Bool) → IsBoolean text b → boolean_of text ≡ Some b
unfolding boolean_of
boolean_of-IsBoolean text true is = cond-true _ _ _ is
boolean_of-IsBoolean text false is = cond-false _ _ _ (no_word_for_both (map to_ascii_lowercase text) (words_for false) refl is) ∙ cond-true _ _ _ is

boolean_by : (text : List ℕ) (y n b : Bool) → list_any (str_eq_ignore_ascii_case text) (words_for true) ≡ y → list_any (str_eq_ignore_ascii_case text) (words_for false) ≡ n
    → cond y (Some true) (cond n (Some false) None) ≡ Some b → IsBoolean text b
boolean_by text true n b is other e = subst (IsBoolean text) (same_Some true b e) is
boolean_by text false true b other is e = subst (IsBoolean text) (same_Some false b e) is
boolean_by text false false b other more e = absurd (none-some b e)

pub IsBoolean-boolean_of : (text : List ℕ) (b : Bool) → boolean_of text ≡ Some b → IsBoolean text b
unfolding boolean_of
IsBoolean-boolean_of text b e = boolean_by text _ _ b refl refl e

-- the function returns the number of a text
pub number_of-IsNumber : (text : List ℕ) (n : ℕ) → IsNumber text n → number_of text ≡ Some n
unfolding number_of
number_of-IsNumber text n is =
    cond-true _ _ _ (and_from (is_decimal text) (leb (decimal text) number_limit) is.digits (le-leb (decimal text) number_limit (omega (arith, is.value, is.limit))))
    ∙ ap Some (sym is.value)

pub IsNumber-number_of : (text : List ℕ) (n : ℕ) → number_of text ≡ Some n → IsNumber text n
unfolding number_of
IsNumber-number_of text n e = elim (cases_Bool (is_decimal text && leb (decimal text) number_limit)) [
  | inl fits ↦
      let value : decimal text ≡ n = same_Some (decimal text) n (sym (cond-true _ _ _ fits) ∙ e) in
      let t = and_parts (is_decimal text) (leb (decimal text) number_limit) fits in
      let low = leb-true (decimal text) number_limit t.1 in
      record { digits = t.0; value = sym value; limit = subst (λ x. x ≤ number_limit) value low }
  | inr other ↦ absurd (none-some n (sym (cond-false _ _ _ other) ∙ e))
]

-- the function returns the set of the exits
pub exits_of-IsExitSet : (text : List ℕ) (holds : End → Bool) → IsExitSet text holds → exits_of text ≡ Some holds
unfolding exits_of
exits_of-IsExitSet text holds is = cond-true _ _ _ is.readable ∙ ap Some (sym (fun_ext is.exact))

pub IsExitSet-exits_of : (text : List ℕ) (holds : End → Bool) → exits_of text ≡ Some holds → IsExitSet text holds
unfolding exits_of
IsExitSet-exits_of text holds e = elim (cases_Bool (list_all is_exit (words_in text))) [
  | inl readable ↦
      let same = same_Some (tells_end text) holds (sym (cond-true _ _ _ readable) ∙ e) in
      record { readable = readable; exact = λ end. ap (λ f. f end) (sym same) }
  | inr other ↦ absurd (none-some holds (sym (cond-false _ _ _ other) ∙ e))
]

-- the function returns the policy of a name
pub policy_named-restart_text : (policy : RestartPolicy) → policy_named (restart_text policy) ≡ Some policy
unfolding policy_named
policy_named-restart_text No = refl
policy_named-restart_text Always = refl
policy_named-restart_text OnSuccess = refl
policy_named-restart_text OnFailure = refl
policy_named-restart_text OnAbnormal = refl
policy_named-restart_text OnAbort = refl
policy_named-restart_text OnWatchdog = refl

found_passes : (test : RestartPolicy → Bool) (t : Bool) (all : List RestartPolicy) (first policy : RestartPolicy) → test first ≡ t
    → (find test all ≡ Some policy → test policy ≡ true) → cond t (Some first) (find test all) ≡ Some policy → test policy ≡ true
found_passes test true all first policy is later e = ap test (sym (same_Some first policy e)) ∙ is
found_passes test false all first policy is later e = later e

found_so : (test : RestartPolicy → Bool) (all : List RestartPolicy) (policy : RestartPolicy) → find test all ≡ Some policy → test policy ≡ true
found_so test [] policy e = absurd (none-some policy e)
found_so test (first ∷ all) policy e = found_passes test (test first) all first policy refl (found_so test all policy) e

pub restart_text-policy_named : (text : List ℕ) (policy : RestartPolicy) → policy_named text ≡ Some policy → restart_text policy ≡ text
unfolding policy_named
restart_text-policy_named text policy e = sym ((bytes_eq-Decides text (restart_text policy)).0 (found_so (λ p. bytes_eq text (restart_text p)) policies policy e))

-- a text that adds up to something isn't the word for an endless span
not_endless : (text : List ℕ) (n : ℕ) → AddUpTo text n → bytes_eq text (codes "infinity") ≡ false
not_endless text n sum =
    false_from_ne_true _ (λ e. no_sum n (subst (λ x. AddUpTo x n) ((bytes_eq-Decides text (codes "infinity")).0 e) sum))

-- the function returns the time span of a text
pub span_of-IsSpan : (text : List ℕ) (span : Option ℕ) → IsSpan text span → span_of text ≡ Some span
unfolding span_of
span_of-IsSpan text None is = cond-true _ _ _ ((bytes_eq-Decides text (codes "infinity")).1 is)
span_of-IsSpan text (Some n) is =
    cond-false _ _ _ (not_endless text n is.1)
    ∙ cond-false _ _ _ is.0
    ∙ ap (option_and_then span_within) (sum_in-AddUpTo text n is.1)
    ∙ cond-true _ _ _ (le-leb n span_limit is.2)

within_limit : (r : Option ℕ) (span : Option ℕ) → option_and_then span_within r ≡ Some span → (n : ℕ) × (r ≡ Some n) × (n ≤ span_limit) × (Some n ≡ span)
within_limit None span e = absurd (none-some span e)
within_limit (Some n) span e = elim (cases_Bool (leb n span_limit)) [
  | inl fits ↦ (n, refl, leb-true n span_limit fits, same_Some (Some n) span (sym (cond-true _ _ _ fits) ∙ e))
  | inr other ↦ absurd (none-some span (sym (cond-false _ _ _ other) ∙ e))
]

span_by : (text : List ℕ) (endless empty : Bool) (span : Option ℕ) → bytes_eq text (codes "infinity") ≡ endless → is_blank text ≡ empty
    → cond endless (Some None) (cond empty None (option_and_then span_within (sum_in text))) ≡ Some span → IsSpan text span
span_by text true empty span is other e = subst (IsSpan text) (same_Some None span e) ((bytes_eq-Decides text (codes "infinity")).0 is)
span_by text false true span is other e = absurd (none-some span e)
span_by text false false span is some e =
    let t = within_limit (sum_in text) span e in
    subst (IsSpan text) t.3 (some, AddUpTo-sum_in text t.0 t.1, t.2)

pub IsSpan-span_of : (text : List ℕ) (span : Option ℕ) → span_of text ≡ Some span → IsSpan text span
unfolding span_of
IsSpan-span_of text span e = span_by text _ _ span refl refl e

-- each function finds what its relation says

pub finds_boolean : (text : List ℕ) → Finds (boolean_of text) (IsBoolean text)
finds_boolean text = λ b. (IsBoolean-boolean_of text b, boolean_of-IsBoolean text b)

pub finds_number : (text : List ℕ) → Finds (number_of text) (IsNumber text)
finds_number text = λ n. (IsNumber-number_of text n, number_of-IsNumber text n)

pub finds_time : (digits unit : List ℕ) → Finds (time_of digits unit) (IsTime digits unit)
finds_time digits unit = λ n. (IsTime-time_of digits unit n, time_of-IsTime digits unit n)

pub finds_span : (text : List ℕ) → Finds (span_of text) (IsSpan text)
finds_span text = λ span. (IsSpan-span_of text span, span_of-IsSpan text span)

pub finds_exits : (text : List ℕ) → Finds (exits_of text) (IsExitSet text)
finds_exits text = λ holds. (IsExitSet-exits_of text holds, exits_of-IsExitSet text holds)

pub finds_policy : (text : List ℕ) → Finds (policy_named text) (λ policy. restart_text policy ≡ text)
finds_policy text = λ policy. (restart_text-policy_named text policy, λ is. subst (λ t. policy_named t ≡ Some policy) is (policy_named-restart_text policy))

-- a text is one time span at most
pub one_span : (text : List ℕ) (a b : Option ℕ) → IsSpan text a → IsSpan text b → a ≡ b
one_span text = one_found (span_of text) (IsSpan text) (finds_span text)
