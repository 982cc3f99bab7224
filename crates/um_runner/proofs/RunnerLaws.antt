-- The laws of the files of a process: a text has one reading, and a name is that of one file and leads out of no folder.
use Rattle.std.proofs.Common.{◌≡◌, ◌<◌, ℕ, ◌+◌, ◌%◌, ◌^◌, Bool, false, ◌||◌, List, [], ◌∷◌, ◌++◌, get_or, Option, Some, find, refl, sym, ap, subst, ◌∙◌, codes, arith, rules, cond}
use Rattle.std.specs.Prelude.{◌==◌, decimal, bytes_eq}
use Rattle.std.specs.List.{list_any}
use Rattle.std.proofs.lemmas.Fmt.{decimal_injective, decimal_by_steps}
use Rattle.std.proofs.lemmas.List.{append_cancel_left, append_cancel_right}
use Rattle.std.proofs.lemmas.List.Folds.{list_any-append}
use Rattle.std.proofs.lemmas.Bool.{cond-false, or_parts}
use Rattle.std.proofs.lemmas.Option.{same_Some}
use Rattle.um_runner.specs.Runner.{ending_of, file_name, is_slash, claim_text, claimant_of, pid_text, pid_limit, IsPid, pid, status_text, IsStatus, exited, killed, TellsEnd, told, odd}
use Rattle.um_runner.specs.declared.runner_file.Claimant.{Claimant}
use Rattle.um_runner.specs.declared.runner_file.Claimant.TheVariants.{Manager, Runner}
use Rattle.um_runner.specs.declared.runner_file.RunnerFile.{RunnerFile}
use Rattle.um_runner.specs.declared.runner_file.RunnerFile.TheVariants.{Claim, Pid, Status, ManagerDraft, RunnerDraft, PidDraft, StatusDraft, Entries}
use Rattle.um_model.specs.declared.service.End.{End}
use Rattle.um_model.specs.declared.service.End.TheVariants.{Code, Signal, Lost}

-- ---- pids

pub pid_parts : (text : List ℕ) (n : ℕ) → IsPid text n → (text ≡ pid_text n) × (1 < n) × (n < pid_limit)
pid_parts text n (pid _ some below) = (refl, some, below)

-- a text names one pid at most
pub one_pid : (text : List ℕ) (m n : ℕ) → IsPid text m → IsPid text n → m ≡ n
one_pid text m n p q =
    let a = pid_parts text m p in let b = pid_parts text n q in
    decimal_injective m n (omega (arith, a.2)) (omega (arith, b.2)) (append_cancel_right (decimal m) (decimal n) (codes "\n") (sym a.0 ∙ b.0))

-- ---- ends

-- the end can be named by a text
abbrev pub CanBeTold : End → Type 0
CanBeTold (Code code) = code < 256
CanBeTold (Signal number) = number < 256
CanBeTold Lost = ⊥

pub status_parts : (text : List ℕ) (end : End) → IsStatus text end → (text ≡ status_text end) × CanBeTold end
status_parts text end (exited code below) = (refl, below)
status_parts text end (killed number below) = (refl, below)

-- the number of a line after its word
pub number_behind : (word : List ℕ) (m n : ℕ) → m < 2 ^ 64 → n < 2 ^ 64 → word ++ (decimal m ++ codes "\n") ≡ word ++ (decimal n ++ codes "\n") → m ≡ n
number_behind word m n s t e =
    decimal_injective m n s t (append_cancel_right (decimal m) (decimal n) (codes "\n") (append_cancel_left word _ _ e))

one_text : (a b : End) → CanBeTold a → CanBeTold b → status_text a ≡ status_text b → a ≡ b
one_text (Code m) (Code n) s t e = ap Code (number_behind (codes "code ") m n (omega (arith, s)) (omega (arith, t)) e)
one_text (Code m) (Signal n) s t e = absurd (omega (arith, ap (λ bs. get_or bs 0 0) e))
one_text (Signal m) (Code n) s t e = absurd (omega (arith, ap (λ bs. get_or bs 0 0) e))
one_text (Signal m) (Signal n) s t e = ap Signal (number_behind (codes "signal ") m n (omega (arith, s)) (omega (arith, t)) e)
one_text (Code m) Lost s t e = absurd t
one_text (Signal m) Lost s t e = absurd t
one_text Lost b s t e = absurd s

-- a text names one end at most by a code or a signal
pub one_status : (text : List ℕ) (a b : End) → IsStatus text a → IsStatus text b → a ≡ b
one_status text a b p q =
    let s = status_parts text a p in let t = status_parts text b q in
    one_text a b s.1 t.1 (sym s.0 ∙ t.0)

-- a status file names one end
pub one_end : (text : List ℕ) (a b : End) → TellsEnd text a → TellsEnd text b → a ≡ b
one_end text a b (told p) (told q) = one_status text a b p q
one_end text a b (told p) (odd never) = absurd (never a p)
one_end text a b (odd never) (told q) = absurd (never b q)
one_end text a b (odd never) (odd also) = refl

-- ---- claims

-- the text written for a claim is read as its claimant's
pub claim_read : (claimant : Claimant) → claimant_of (claim_text claimant) ≡ claimant
claim_read Manager = refl
claim_read Runner = refl

-- ---- names

-- a dot parts the number from the ending
abbrev is_dot : ℕ → Bool
is_dot b = b == 46

-- digits are none of the bytes below them
digits_without : (c : ℕ) → c < 48 → (n : ℕ) → n < 2 ^ 64 → list_any (λ b. b == c) (decimal n) ≡ false
digits_without c low n below = decimal_by_steps
    (λ n digits. list_any (λ b. b == c) digits ≡ false)
    (λ n small. search (rules, low))
    (λ n digits big so_far. list_any-append (λ b. b == c) digits ((48 + n % 10) ∷ []) ∙ search (rules, low, so_far))
    n below

ending_without : (file : RunnerFile) → list_any is_slash (ending_of file) ≡ false
ending_without Claim = refl
ending_without Pid = refl
ending_without Status = refl
ending_without ManagerDraft = refl
ending_without RunnerDraft = refl
ending_without PidDraft = refl
ending_without StatusDraft = refl
ending_without Entries = refl

-- no name of a file has a slash
pub name_without : (n : ℕ) (file : RunnerFile) → n < 2 ^ 64 → list_any is_slash (file_name n file) ≡ false
name_without n file below =
    list_any-append is_slash (decimal n) (ending_of file) ∙ ap (λ b. b || list_any is_slash (ending_of file)) (digits_without 47 (omega arith) n below) ∙ ending_without file

-- the files, in any order
abbrev all_files : List RunnerFile
all_files = Claim ∷ Pid ∷ Status ∷ ManagerDraft ∷ RunnerDraft ∷ PidDraft ∷ StatusDraft ∷ Entries ∷ []

abbrev with_ending : List ℕ → Option RunnerFile
with_ending ending = find (λ file. bytes_eq (ending_of file) ending) all_files

ending_found : (file : RunnerFile) → with_ending (ending_of file) ≡ Some file
ending_found Claim = refl
ending_found Pid = refl
ending_found Status = refl
ending_found ManagerDraft = refl
ending_found RunnerDraft = refl
ending_found PidDraft = refl
ending_found StatusDraft = refl
ending_found Entries = refl

-- an ending is that of one file
one_ending : (a b : RunnerFile) → ending_of a ≡ ending_of b → a ≡ b
one_ending a b e = same_Some a b (sym (ending_found a) ∙ ap with_ending e ∙ ending_found b)

-- the part before the first dot
abbrev before_dot : List ℕ → List ℕ
before_dot [] = []
before_dot (b ∷ bs) = cond (b == 46) [] (b ∷ before_dot bs)

before_dot-append : (xs ys : List ℕ) → list_any is_dot xs ≡ false → before_dot (xs ++ (46 ∷ ys)) ≡ xs
before_dot-append [] ys none = refl
before_dot-append (x ∷ xs) ys none =
    let parts = or_parts (x == 46) (list_any is_dot xs) none in
    cond-false (x == 46) _ _ parts.0 ∙ ap (λ others. x ∷ others) (before_dot-append xs ys parts.1)

-- an ending begins with a dot
ending_dot : (file : RunnerFile) → (rest : List ℕ) × (ending_of file ≡ 46 ∷ rest)
ending_dot Claim = (_, refl)
ending_dot Pid = (_, refl)
ending_dot Status = (_, refl)
ending_dot ManagerDraft = (_, refl)
ending_dot RunnerDraft = (_, refl)
ending_dot PidDraft = (_, refl)
ending_dot StatusDraft = (_, refl)
ending_dot Entries = (_, refl)

-- the number stands before the first dot of a name
number_before : (n : ℕ) (file : RunnerFile) → n < 2 ^ 64 → before_dot (file_name n file) ≡ decimal n
number_before n file below =
    let dot = ending_dot file in
    ap (λ ending. before_dot (decimal n ++ ending)) dot.1 ∙ before_dot-append (decimal n) dot.0 (digits_without 46 (omega arith) n below)

same_number : (m n : ℕ) (a b : RunnerFile) → m < 2 ^ 64 → n < 2 ^ 64 → file_name m a ≡ file_name n b → m ≡ n
same_number m n a b s t e = decimal_injective m n s t (sym (number_before m a s) ∙ ap before_dot e ∙ number_before n b t)

-- a name is that of one file of one number
pub one_name : (m n : ℕ) (a b : RunnerFile) → m < 2 ^ 64 → n < 2 ^ 64 → file_name m a ≡ file_name n b → (m ≡ n) × (a ≡ b)
one_name m n a b s t e =
    let same = same_number m n a b s t e in
    (same, one_ending a b (append_cancel_left (decimal n) _ _ (subst (λ k. decimal k ++ ending_of a ≡ file_name n b) same e)))
