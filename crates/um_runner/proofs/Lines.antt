-- A line is a word, a number and LF: the reading of one, and the texts that aren't one.
use Rattle.std.proofs.Common.{◌≡◌, ◌≢◌, ◌<◌, ◌≤◌, ◌⊎◌, ℕ, ◌-◌, ◌^◌, true, false, List, [], ◌++◌, length, get_or, take, drop, Option, Some, None, inl, inr, refl, sym, ap, subst, ◌∙◌, codes, arith, MatchOption, take-append-drop, length-append}
use Rattle.std.specs.Prelude.{decimal, bytes_eq}
use Rattle.std.proofs.lemmas.Bool.{true≢false}
use Rattle.std.proofs.lemmas.List.{append_cancel_left, append_cancel_right, take_at, drop_at}
use Rattle.std.proofs.lemmas.Slice.Eq.{bytes_eq-Decides}
use Rattle.um_runner.specs.Runner.{pid_text, pid_limit, IsPid, pid, status_text, IsStatus, exited, killed}
use Rattle.um_model.specs.declared.service.End.{End}
use Rattle.um_model.specs.declared.service.End.TheVariants.{Code, Signal, Lost}
use Rattle.um_runner.proofs.RunnerLaws.{pid_parts, number_behind, CanBeTold, status_parts}

-- ---- the parts in front and at the end

pub no_front : (word text : List ℕ) → bytes_eq (take (length word) text) word ≡ false → (rest : List ℕ) → text ≢ word ++ rest
no_front word text other rest e =
    true≢false (sym ((bytes_eq-Decides (take (length word) text) word).1 (ap (take (length word)) e ∙ take_at word rest (length word) refl)) ∙ other)

pub has_front : (word text rest : List ℕ) → bytes_eq (take (length word) text) word ≡ true → rest ≡ drop (length word) text → text ≡ word ++ rest
has_front word text rest same is =
    sym (take-append-drop (length word) text) ∙ ap (λ front. front ++ drop (length word) text) ((bytes_eq-Decides (take (length word) text) word).0 same) ∙ ap (λ r. word ++ r) (sym is)

pub no_end : (end text : List ℕ) → bytes_eq (drop (length text - length end) text) end ≡ false → (front : List ℕ) → text ≢ front ++ end
no_end end text other front e =
    let size : length text - length end ≡ length front = ap (λ t. length t - length end) e ∙ ap (λ n. n - length end) (length-append front end) ∙ omega arith in
    true≢false (sym ((bytes_eq-Decides (drop (length text - length end) text) end).1 (ap (λ n. drop n text) size ∙ ap (drop (length front)) e ∙ drop_at front end (length front) refl)) ∙ other)

pub has_end : (end text front : List ℕ) → bytes_eq (drop (length text - length end) text) end ≡ true → front ≡ take (length text - length end) text → text ≡ front ++ end
has_end end text front same is =
    sym (take-append-drop (length text - length end) text) ∙ ap (λ r. take (length text - length end) text ++ r) ((bytes_eq-Decides (drop (length text - length end) text) end).0 same)
    ∙ ap (λ f. f ++ end) (sym is)

-- ---- lines

-- the line isn't one: it has another word in front
pub other_word : (word text : List ℕ) → bytes_eq (take (length word) text) word ≡ false → (n : ℕ) → n < 2 ^ 64 → text ≢ word ++ (decimal n ++ codes "\n")
other_word word text other n below = no_front word text other (decimal n ++ codes "\n")

-- it doesn't end with LF
pub other_end : (word text line : List ℕ) → text ≡ word ++ line → bytes_eq (drop (length line - 1) line) (codes "\n") ≡ false
    → (n : ℕ) → n < 2 ^ 64 → text ≢ word ++ (decimal n ++ codes "\n")
other_end word text line is other n below e = no_end (codes "\n") line other (decimal n) (append_cancel_left word _ _ (sym is ∙ e))

-- it is a line if the part between is a number
pub line_of : (word text line digits : List ℕ) (o : Option ℕ) → text ≡ word ++ line → line ≡ digits ++ codes "\n"
    → MatchOption o ((n : ℕ) → n < 2 ^ 64 → digits ≢ decimal n) (λ n. digits ≡ decimal n)
    → MatchOption o ((n : ℕ) → n < 2 ^ 64 → text ≢ word ++ (decimal n ++ codes "\n")) (λ n. text ≡ word ++ (decimal n ++ codes "\n"))
line_of word text line digits None is ends never =
    λ n below e. never n below (append_cancel_right digits (decimal n) (codes "\n") (sym ends ∙ append_cancel_left word _ _ (sym is ∙ e)))
line_of word text line digits (Some n) is ends number = is ∙ ap (λ l. word ++ l) (ends ∙ ap (λ d. d ++ codes "\n") number)

-- ---- pids

no_pid : (text : List ℕ) (n : ℕ) → text ≡ pid_text n → n < 2 ^ 64 → (n ≤ 1) ⊎ (pid_limit ≤ n) → (m : ℕ) → IsPid text m → ⊥
no_pid text n is below never m told =
    let parts = pid_parts text m told in
    let same = number_behind [] m n (omega (arith, parts.2)) below (sym parts.0 ∙ is) in
    elim never [ inl low ↦ omega (arith, same, low, parts.1) | inr big ↦ omega (arith, same, big, parts.2) ]

-- a text with the number of a pid
pub pid_read : (text : List ℕ) (n : ℕ) (o : Option ℕ) → n < 2 ^ 64 → text ≡ pid_text n → MatchOption o ((n ≤ 1) ⊎ (pid_limit ≤ n)) (λ p. (p ≡ n) × (1 < n) × (n < pid_limit))
    → MatchOption o ((m : ℕ) → IsPid text m → ⊥) (IsPid text)
pid_read text n None below is never = λ m told. no_pid text n is below never m told
pid_read text n (Some p) below is can = subst (IsPid text) (sym can.0) (subst (λ t. IsPid t n) (sym is) (pid n can.1 can.2))

pub no_pid_line : (text : List ℕ) → ((n : ℕ) → n < 2 ^ 64 → text ≢ pid_text n) → (m : ℕ) → IsPid text m → ⊥
no_pid_line text never m told = let parts = pid_parts text m told in never m (omega (arith, parts.2)) parts.0

-- ---- ends

-- another code than one of a byte
no_code : (text : List ℕ) (n : ℕ) → n < 2 ^ 64 → 256 ≤ n → text ≡ status_text (Code n) → (end : End) → (text ≡ status_text end) × CanBeTold end → ⊥
no_code text n below big is (Code m) (e, can) = omega (arith, can, big, number_behind (codes "code ") m n (omega (arith, can)) (omega (arith, below)) (sym e ∙ is))
no_code text n below big is (Signal m) (e, can) = omega (arith, ap (λ bs. get_or bs 0 0) (sym e ∙ is))
no_code text n below big is Lost (e, can) = can

no_signal : (text : List ℕ) (n : ℕ) → n < 2 ^ 64 → 256 ≤ n → text ≡ status_text (Signal n) → (end : End) → (text ≡ status_text end) × CanBeTold end → ⊥
no_signal text n below big is (Signal m) (e, can) = omega (arith, can, big, number_behind (codes "signal ") m n (omega (arith, can)) (omega (arith, below)) (sym e ∙ is))
no_signal text n below big is (Code m) (e, can) = omega (arith, ap (λ bs. get_or bs 0 0) (sym e ∙ is))
no_signal text n below big is Lost (e, can) = can

-- a text with the number of a code
pub code_read : (text : List ℕ) (n : ℕ) (o : Option End) → n < 2 ^ 64 → text ≡ status_text (Code n) → MatchOption o (256 ≤ n) (λ end. (end ≡ Code n) × (n < 256))
    → MatchOption o ((end : End) → IsStatus text end → ⊥) (IsStatus text)
code_read text n None below is big = λ end told. no_code text n below big is end (status_parts text end told)
code_read text n (Some end) below is small = subst (IsStatus text) (sym small.0) (subst (λ t. IsStatus t (Code n)) (sym is) (exited n small.1))

-- a text with the number of a signal
pub signal_read : (text : List ℕ) (n : ℕ) (o : Option End) → n < 2 ^ 64 → text ≡ status_text (Signal n) → MatchOption o (256 ≤ n) (λ end. (end ≡ Signal n) × (n < 256))
    → MatchOption o ((end : End) → IsStatus text end → ⊥) (IsStatus text)
signal_read text n None below is big = λ end told. no_signal text n below big is end (status_parts text end told)
signal_read text n (Some end) below is small = subst (IsStatus text) (sym small.0) (subst (λ t. IsStatus t (Signal n)) (sym is) (killed n small.1))

no_text : (text : List ℕ) → ((n : ℕ) → n < 2 ^ 64 → text ≢ status_text (Code n)) → ((n : ℕ) → n < 2 ^ 64 → text ≢ status_text (Signal n))
    → (end : End) → (text ≡ status_text end) × CanBeTold end → ⊥
no_text text codeless silent (Code m) (e, can) = codeless m (omega (arith, can)) e
no_text text codeless silent (Signal m) (e, can) = silent m (omega (arith, can)) e
no_text text codeless silent Lost (e, can) = can

-- neither a code nor a signal
pub no_status : (text : List ℕ) → ((n : ℕ) → n < 2 ^ 64 → text ≢ status_text (Code n)) → ((n : ℕ) → n < 2 ^ 64 → text ≢ status_text (Signal n))
    → (end : End) → IsStatus text end → ⊥
no_status text codeless silent end told = no_text text codeless silent end (status_parts text end told)
