-- The rows of live numbers in ascending order, once one is added or let go.
use Rattle.std.proofs.Common.{ℕ, zero, suc, ◌≡◌, ◌≢◌, ◌∙◌, ◌<◌, ◌≤◌, ◌+◌, ◌-◌, ◌==◌, Bool, List, [], ◌∷◌, length, Some, None, refl, sym, ap, subst, arith, true, false, cond, inl, inr}
use Rattle.std.proofs.lemmas.Bool.{cases_lt, eq-eqb, ne_eqb}
use Rattle.std.proofs.lemmas.Option.{none-some}
use Rattle.std.proofs.lemmas.List.Edits.{get_or-insert_at, get_or-insert_below, get_or-insert_above, get_or-remove_below, get_or-remove_above, length-insert, length-remove}
use Rattle.std.specs.List.{insert, remove}
use Rattle.um_state.specs.LiveRows.{IsRising, live_number, live_row, told}
use Rattle.um_state.specs.declared.live.Live.{Live}

-- the row of the first number, and that of another one
told_first : (live : Live) (more : List Live) (n : ℕ) → live.number ≡ n → told (live ∷ more) n ≡ Some live.row
told_first live more n is = ap (λ b. cond b (Some live.row) (told more n)) (eq-eqb live.number n is)

told_later : (live : Live) (more : List Live) (n : ℕ) → live.number ≢ n → told (live ∷ more) n ≡ told more n
told_later live more n isnt = ap (λ b. cond b (Some live.row) (told more n)) (ne_eqb live.number n isnt)

-- none of them has the number
pub none_told : (list : List Live) (n : ℕ) → ((i : ℕ) → i < length list → live_number list i ≢ n) → told list n ≡ None
none_told [] n isnt = refl
none_told (live ∷ more) n isnt = told_later live more n (isnt 0 (omega arith)) ∙ none_told more n (λ i l. isnt (suc i) (omega (arith, l)))

-- the number at that place
pub one_told : (list : List Live) (i n : ℕ) → IsRising list → i < length list → live_number list i ≡ n → told list n ≡ Some (live_row list i)
one_told [] i n rising l is = absurd (omega (arith, l))
one_told (live ∷ more) zero n rising l is = told_first live more n is
one_told (live ∷ more) (suc i) n rising l is =
    told_later live more n (λ e. let lower = rising 0 (suc i) (omega arith) l in absurd (omega (arith, lower, e, is)))
    ∙ one_told more i n (λ a b lt within. rising (suc a) (suc b) (omega (arith, lt)) (omega (arith, within))) (omega (arith, l)) is

-- a number that isn't past the lower ones isn't in the list
pub absent : (list : List Live) (place n : ℕ) → IsRising list → ((k : ℕ) → k < place → live_number list k < n) → ((k : ℕ) → place ≤ k → k < length list → n ≤ live_number list k)
    → (place < length list → live_number list place ≢ n) → told list n ≡ None
absent list place n rising lower others isnt = none_told list n (λ k l e. elim (cases_lt k place) as (λ _. ⊥) [
  | inl before ↦ let less = lower k before in absurd (omega (arith, less, e))
  | inr from ↦ elim (cases_lt place k) as (λ _. ⊥) [
    | inl behind ↦ let more = rising place k behind l in let least = others place (omega arith) (omega (arith, behind, l)) in absurd (omega (arith, more, least, e))
    | inr here ↦ let same : k ≡ place = omega (arith, from, here) in isnt (subst (λ j. j < length list) same l) (subst (λ j. live_number list j ≡ n) same e)
  ]
])

-- ---- one is added

pub told_others : (list : List Live) (i : ℕ) (live : Live) (n : ℕ) → n ≢ live.number → told (insert list i live) n ≡ told list n
told_others [] zero live n other = told_later live [] n (λ e. other (sym e))
told_others [] (suc i) live n other = told_later live [] n (λ e. other (sym e))
told_others (first ∷ more) zero live n other = told_later live (first ∷ more) n (λ e. other (sym e))
told_others (first ∷ more) (suc i) live n other = ap (λ o. cond (first.number == n) (Some first.row) o) (told_others more i live n other)

-- a number that is not found stands nowhere in the list
not_both : (list : List Live) (k n : ℕ) → IsRising list → k < length list → told list n ≡ None → live_number list k ≢ n
not_both list k n rising l none is = none-some (live_row list k) (sym none ∙ one_told list k n rising l is)

rising_added : (list : List Live) (i : ℕ) (live : Live) → IsRising list → i ≤ length list → told list live.number ≡ None
    → ((k : ℕ) → k < i → live_number list k < live.number) → ((k : ℕ) → i ≤ k → k < length list → live.number ≤ live_number list k) → IsRising (insert list i live)
rising_added list i live rising within none lower others a b lt l = elim (cases_lt b i) as (λ _. live_number new a < live_number new b) [
  | inl b_below ↦ omega (arith, below a (omega (arith, lt, b_below)), below b b_below, rising a b lt (omega (arith, b_below, within)))
  | inr b_from ↦ elim (cases_lt a i) as (λ _. live_number new a < live_number new b) [
    | inl a_below ↦ elim (cases_lt i b) as (λ _. live_number new a < live_number new b) [
      | inl b_above ↦ omega (arith, below a a_below, above b b_above, lower a a_below, higher (b - 1) (omega (arith, b_above)) (inside b b_above l))
      | inr b_at ↦ omega (arith, below a a_below, lower a a_below, at b (omega (arith, b_from, b_at)))
    ]
    | inr a_from ↦ elim (cases_lt i a) as (λ _. live_number new a < live_number new b) [
      | inl a_above ↦ omega (arith, above a a_above, above b (omega (arith, a_above, lt)), rising (a - 1) (b - 1) (omega (arith, a_above, lt)) (inside b (omega (arith, a_above, lt)) l))
      | inr a_at ↦
          omega (arith, at a (omega (arith, a_from, a_at)), above b (omega (arith, a_from, lt)), higher (b - 1) (omega (arith, a_from, lt)) (inside b (omega (arith, a_from, lt)) l))
    ]
  ]
]
  where
    new : List Live
    new = insert list i live

    nothing : Live
    nothing = record { number = 0; row = 0 }

    long : length new ≡ length list + 1
    long = length-insert list i live within

    inside : (k : ℕ) → i < k → k < length new → k - 1 < length list
    inside k above l = omega (arith, above, l, long)

    below : (k : ℕ) → k < i → live_number new k ≡ live_number list k
    below k h = ap (λ (x : Live). x.number) (get_or-insert_below list i live nothing k h within)

    at : (k : ℕ) → k ≡ i → live_number new k ≡ live.number
    at k e = ap (live_number new) e ∙ ap (λ (x : Live). x.number) (get_or-insert_at list i live nothing within)

    above : (k : ℕ) → i < k → live_number new k ≡ live_number list (k - 1)
    above k h =
        let back : k ≡ k - 1 + 1 = omega (arith, h) in
        ap (live_number new) back ∙ ap (λ (x : Live). x.number) (get_or-insert_above list i live nothing (k - 1) (omega (arith, h)) within)

    higher : (k : ℕ) → i ≤ k → k < length list → live.number < live_number list k
    higher k h l = elim (cases_lt live.number (live_number list k)) as (λ _. live.number < live_number list k) [
      | inl less ↦ less
      | inr past ↦ absurd (not_both list k live.number rising l none (omega (arith, past, others k h l)))
    ]

-- the same, from the contract of a call on a borrowed list
pub rising_lent : (lent list : List Live) (i : ℕ) (live : Live) → lent ≡ list → IsRising list → i ≤ length list → told list live.number ≡ None
    → ((k : ℕ) → k < i → live_number lent k < live.number) → ((k : ℕ) → i ≤ k → k < length lent → live.number ≤ live_number lent k) → IsRising (insert list i live)
rising_lent lent list i live same rising within none lower others =
    rising_added list i live rising within none (subst (λ l. (k : ℕ) → k < i → live_number l k < live.number) same lower)
    (subst (λ l. (k : ℕ) → i ≤ k → k < length l → live.number ≤ live_number l k) same others)

pub told_added : (list : List Live) (i : ℕ) (live : Live) → IsRising (insert list i live) → i ≤ length list → told (insert list i live) live.number ≡ Some live.row
told_added list i live rising within =
    let at = get_or-insert_at list i live (record { number = 0; row = 0 }) within in
    one_told (insert list i live) i live.number rising (omega (arith, length-insert list i live within, within)) (ap (λ (x : Live). x.number) at) ∙ ap (λ (x : Live). Some x.row) at

-- from the contract of a call that may have found no room
pub rising_if : (b : Bool) (list more : List Live) (i : ℕ) (live : Live) → more ≡ cond b (insert list i live) list → IsRising list → IsRising (insert list i live) → IsRising more
rising_if true list more i live is rising added = subst IsRising (sym is) added
rising_if false list more i live is rising added = subst IsRising (sym is) rising

-- ---- one is let go

pub told_kept : (list : List Live) (i n : ℕ) → i < length list → live_number list i ≢ n → told (remove list i) n ≡ told list n
told_kept [] i n l other = absurd (omega (arith, l))
told_kept (first ∷ more) zero n l other = sym (told_later first more n other)
told_kept (first ∷ more) (suc i) n l other = ap (λ o. cond (first.number == n) (Some first.row) o) (told_kept more i n (omega (arith, l)) other)

module _ (list : List Live) (i : ℕ) (rising : IsRising list) (within : i < length list) where
  below : (k : ℕ) → k < i → live_number (remove list i) k ≡ live_number list k
  below k h = ap (λ (x : Live). x.number) (get_or-remove_below list i (record { number = 0; row = 0 }) k h within)

  above : (k : ℕ) → i ≤ k → live_number (remove list i) k ≡ live_number list (k + 1)
  above k h = ap (λ (x : Live). x.number) (get_or-remove_above list i (record { number = 0; row = 0 }) k h within)

  long : length (remove list i) + 1 ≡ length list
  long = length-remove list i within

  pub none_left : (n : ℕ) → live_number list i ≡ n → told (remove list i) n ≡ None
  none_left n is = none_told (remove list i) n (λ k l e. elim (cases_lt k i) as (λ _. ⊥) [
    | inl lower ↦ let less = rising k i lower within in let same = below k lower in absurd (omega (arith, less, same, e, is))
    | inr past ↦ let more = rising i (k + 1) (omega (arith, past)) (omega (arith, l, long)) in let same = above k past in absurd (omega (arith, more, same, e, is))
  ])
