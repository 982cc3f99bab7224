-- The words of a runner's line fix its parts.
use Rattle.std.proofs.Common.{◌≡◌, ◌≢◌, ◌≤◌, ◌<◌, ℕ, ◌^◌, Bool, true, false, ◌⊎◌, Option, Some, None, MatchOption, inl, inr, List, [], ◌∷◌, ◌++◌, length, get_or, drop, refl, sym, ap, ◌∙◌, arith, take-append-drop, length-append}
use Rattle.std.specs.Prelude.{decimal}
use Rattle.std.specs.List.{list_all}
use Rattle.std.proofs.lemmas.Bool.{and_from, and_parts, lt-ltb, ltb-true, true≢false, false≢true}
use Rattle.std.proofs.lemmas.List.{take_at, length-take-le}
use Rattle.std.proofs.lemmas.Fmt.{decimal_injective}
use Rattle.um_model.specs.Moments.{process_limit}
use Rattle.um_runner.specs.Jobs.{is_entry, can_be_job, entries_of, words_of, IsJobOf}
use Rattle.um_runner.specs.declared.job.Job.{Job}
use Rattle.um_runner.specs.declared.line.RunnerLine.{RunnerLine}
use Rattle.um_runner.specs.RunnerLines.{IsHandedLine, IsRunnerLine, TellsRunner, handed_words, line_words}

-- after two words that are alike the rest is alike
pub rest_alike : {A : Type 0} (a b c d : A) (xs ys : List A) → a ∷ b ∷ xs ≡ c ∷ d ∷ ys → xs ≡ ys
rest_alike a b c d xs ys e = ap (drop 2) e

-- the words of two lines are alike part by part
pub record AreAlike (folder number count folder' number' count' : List ℕ) (words words' : List (List ℕ)) : Type 0 where
  pub folders : folder ≡ folder'
  pub numbers : number ≡ number'
  pub counts : count ≡ count'
  pub others : words ≡ words'

pub alike : (folder number count folder' number' count' : List ℕ) (words words' : List (List ℕ))
    → line_words folder number count words ≡ line_words folder' number' count' words' → AreAlike folder number count folder' number' count' words words'
alike f n c f' n' c' words words' e =
    record {
      folders = ap (λ ws. get_or ws 1 []) e;
      numbers = ap (λ ws. get_or ws 3 []) e;
      counts = ap (λ ws. get_or ws 5 []) e;
      others = ap (drop 7) e;
    }

-- this many entries in front, and a command after them, are a job
pub can_be_line : (entries command : List (List ℕ)) → list_all is_entry entries ≡ true → 1 ≤ length command → can_be_job (length entries) (entries ++ command) ≡ true
can_be_line entries command set some =
    and_from _ _ (lt-ltb (length entries) (length (entries ++ command)) (omega (arith, some, length-append entries command)))
    (ap (list_all is_entry) (take_at entries command (length entries) refl) ∙ set)

-- the number of a process, by the reading of its digits
pub process_read : (text : List ℕ) (n : ℕ) (o : Option ℕ) → n < 2 ^ 64 → text ≡ decimal n → MatchOption o ((n ≡ 0) ⊎ (process_limit ≤ n)) (λ p. p ≡ n)
    → MatchOption o ((m : ℕ) → 1 ≤ m → m < process_limit → text ≢ decimal m) (λ m. text ≡ decimal m)
process_read text n None below is never = λ m low high e.
    let same = decimal_injective n m below (omega (arith, high)) (sym is ∙ e) in
    elim never [ inl none ↦ omega (arith, same, none, low) | inr big ↦ omega (arith, same, big, high) ]
process_read text n (Some p) below is same = is ∙ ap decimal (sym same)

-- ---- words that are no runner's line

-- they name no process
pub no_number : (words : List (List ℕ)) (f n c : List ℕ) (others : List (List ℕ)) → words ≡ line_words f n c others
    → ((number : ℕ) → 1 ≤ number → number < process_limit → n ≢ decimal number)
    → (folder : List ℕ) (number : ℕ) (entries command : List (List ℕ)) → IsRunnerLine folder number entries command words → ⊥
no_number words f n c others is never folder number entries command line =
    never number line.first line.last
    (alike f n c folder (decimal number) (decimal (length entries)) others (entries ++ command) (sym is ∙ line.says)).numbers

-- they don't count
pub no_count : (words : List (List ℕ)) (f n c : List ℕ) (others : List (List ℕ)) → words ≡ line_words f n c others → length words < 2 ^ 64
    → ((count : ℕ) → count < 2 ^ 64 → c ≢ decimal count)
    → (folder : List ℕ) (number : ℕ) (entries command : List (List ℕ)) → IsRunnerLine folder number entries command words → ⊥
no_count words f n c others is small never folder number entries command line =
    let a = alike f n c folder (decimal number) (decimal (length entries)) others (entries ++ command) (sym is ∙ line.says) in
    never (length entries) (omega (arith, small, ap length is, ap length a.others, length-append entries command)) a.counts

-- they have no job
pub no_command : (words : List (List ℕ)) (f n c : List ℕ) (others : List (List ℕ)) → words ≡ line_words f n c others → length words < 2 ^ 64
    → (count : ℕ) → count < 2 ^ 64 → c ≡ decimal count → can_be_job count others ≡ false
    → (folder : List ℕ) (number : ℕ) (entries command : List (List ℕ)) → IsRunnerLine folder number entries command words → ⊥
no_command words f n c others is small count below counted never folder number entries command line =
    let a = alike f n c folder (decimal number) (decimal (length entries)) others (entries ++ command) (sym is ∙ line.says) in
    let within : length entries < 2 ^ 64 = omega (arith, small, ap length is, ap length a.others, length-append entries command) in
    let same = decimal_injective count (length entries) below within (sym counted ∙ a.counts) in
    true≢false
    (sym (can_be_line entries command line.set line.some) ∙ ap (can_be_job (length entries)) (sym a.others) ∙ ap (λ k. can_be_job k others) (sym same) ∙ never)

-- ---- words that are one

pub is_line : (words : List (List ℕ)) (f n c : List ℕ) (others : List (List ℕ)) → words ≡ line_words f n c others
    → (folder : List ℕ) → folder ≡ f
    → (number : ℕ) → 1 ≤ number → number < process_limit → n ≡ decimal number
    → (count : ℕ) → c ≡ decimal count → (job : Job) → IsJobOf count others job
    → IsRunnerLine folder number (entries_of job) (words_of job) words
is_line words f n c others is folder named number low high numbered count counted job of =
    let can = and_parts _ _ of.possible in
    let below : count < length others = ltb-true count (length others) can.0 in
    let size : length (entries_of job) ≡ count = ap length of.first ∙ length-take-le count others (omega (arith, below)) in
    let whole : others ≡ entries_of job ++ words_of job = sym (take-append-drop count others) ∙ ap (λ ws. ws ++ drop count others) (sym of.first) ∙ ap (λ ws. entries_of job ++ ws) (sym of.others) in
    record {
      says = is ∙ ap (λ d. line_words d n c others) (sym named) ∙ ap (λ d. line_words folder d c others) numbered ∙ ap (λ d. line_words folder (decimal number) d others) (counted ∙ ap decimal (sym size)) ∙ ap (line_words folder (decimal number) (decimal (length (entries_of job)))) whole;
      first = low;
      last = high;
      set = ap (list_all is_entry) of.first ∙ can.1;
      some = omega (arith, below, size, ap length whole, length-append (entries_of job) (words_of job));
    }

-- ---- entries that stand in a file

-- they name no process
pub no_handed_number : (words : List (List ℕ)) (f n : List ℕ) (others : List (List ℕ)) → words ≡ handed_words f n others
    → ((number : ℕ) → 1 ≤ number → number < process_limit → n ≢ decimal number)
    → (folder : List ℕ) (number : ℕ) (command : List (List ℕ)) → IsHandedLine folder number command words → ⊥
no_handed_number words f n others is never folder number command line =
    never number line.first line.last (ap (λ ws. get_or ws 3 []) (sym is ∙ line.says))

-- they have no command
pub no_handed_command : (words : List (List ℕ)) (f n : List ℕ) (others : List (List ℕ)) → words ≡ handed_words f n others → can_be_job 0 others ≡ false
    → (folder : List ℕ) (number : ℕ) (command : List (List ℕ)) → IsHandedLine folder number command words → ⊥
no_handed_command words f n others is never folder number command line =
    let same : others ≡ command = ap (drop 6) (sym is ∙ line.says) in
    true≢false (sym (can_be_line [] command refl line.some) ∙ ap (can_be_job 0) (sym same) ∙ never)

pub is_handed : (words : List (List ℕ)) (f n : List ℕ) (others : List (List ℕ)) → words ≡ handed_words f n others
    → (folder : List ℕ) → folder ≡ f
    → (number : ℕ) → 1 ≤ number → number < process_limit → n ≡ decimal number
    → (job : Job) → IsJobOf 0 others job
    → (entries_of job ≡ []) × IsHandedLine folder number (words_of job) words
is_handed words f n others is folder named number low high numbered job of =
    let can = and_parts _ _ of.possible in
    let below = ltb-true 0 (length others) can.0 in (
      of.first,
      record {
        says = is ∙ ap (λ d. handed_words d n others) (sym named) ∙ ap (λ d. handed_words folder d others) numbered ∙ ap (handed_words folder (decimal number)) (sym of.others);
        first = low;
        last = high;
        some = omega (arith, below, ap length of.others);
      },
    )

-- ---- both

pub tells_counted : (has_file : Bool) (folder : List ℕ) (number : ℕ) (entries command words : List (List ℕ)) → has_file ≡ false
    → IsRunnerLine folder number entries command words → TellsRunner has_file folder number entries command words
tells_counted false folder number entries command words is line = line
tells_counted true folder number entries command words is line = absurd (true≢false is)

pub tells_handed : (has_file : Bool) (folder : List ℕ) (number : ℕ) (entries command words : List (List ℕ)) → has_file ≡ true → entries ≡ []
    → IsHandedLine folder number command words → TellsRunner has_file folder number entries command words
tells_handed true folder number entries command words is none line = (none, line)
tells_handed false folder number entries command words is none line = absurd (false≢true is)

pub tells_nothing : (words : List (List ℕ))
    → ((folder : List ℕ) (number : ℕ) (entries command : List (List ℕ)) → IsRunnerLine folder number entries command words → ⊥)
    → ((folder : List ℕ) (number : ℕ) (command : List (List ℕ)) → IsHandedLine folder number command words → ⊥)
    → (has_file : Bool) (folder : List ℕ) (number : ℕ) (entries command : List (List ℕ)) → TellsRunner has_file folder number entries command words → ⊥
tells_nothing words counted handed false folder number entries command told = counted folder number entries command told
tells_nothing words counted handed true folder number entries command told = handed folder number command told.1

-- the line if no entries stand among the words
pub handed_told : (words : List (List ℕ)) (o : Option RunnerLine)
    → ((folder : List ℕ) (number : ℕ) (entries command : List (List ℕ)) → IsRunnerLine folder number entries command words → ⊥)
    → MatchOption o ((folder : List ℕ) (number : ℕ) (command : List (List ℕ)) → IsHandedLine folder number command words → ⊥)
    (λ line. (line.has_file ≡ true) × (entries_of line.job ≡ []) × IsHandedLine line.folder.now line.number (words_of line.job) words)
    → MatchOption o ((has_file : Bool) (folder : List ℕ) (number : ℕ) (entries command : List (List ℕ)) → TellsRunner has_file folder number entries command words → ⊥)
    (λ line. TellsRunner line.has_file line.folder.now line.number (entries_of line.job) (words_of line.job) words)
handed_told words None counted never = tells_nothing words counted never
handed_told words (Some line) counted told =
    tells_handed line.has_file line.folder.now line.number (entries_of line.job) (words_of line.job) words told.0 told.1 told.2
