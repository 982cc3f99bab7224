-- How words are read, by clap's answers.
use Rattle.std.proofs.Common.{◌≡◌, ◌≢◌, ◌⊎◌, ◌∷◌, ◌<◌, ◌≤◌, ◌^◌, arith, drop, sym, Option, Some, ℕ, List, [], Result, Ok, Err, IfOk, OnOk, inl, inr, true, refl, subst, ap, ◌∙◌}
use Rattle.clap.proofs.OnLiterals.{clap_on_literals}
use Rattle.clap.specs.Words.{App, app_of, Kinds, HasKind, IsAmong, Row, Rule, with_rule, fault_of, is_simple_and_free, is_simple, kind_of, matches_of}
use Rattle.clap.specs.declared.builder.command.Command.{Command}
use Rattle.clap.specs.declared.error.Error.{Error}
use Rattle.clap.specs.declared.error.kind.ErrorKind.{ErrorKind}
use Rattle.clap.specs.declared.error.kind.ErrorKind.TheVariants.{OutOfMemory}
use Rattle.std.proofs.lemmas.Fmt.{decimal_injective}
use Rattle.std.specs.Prelude.{codes, decimal, None}
use Rattle.std.specs.declared.alloc.AllocError.{AllocError}
use Rattle.um_line.specs.Line.{HasNoHelp, named, IsNoCode, IsNoNumber, IsReadLine, last_refusal, IsToldAs, TellsMistake, umd_words, create_words, check_words, serve_words, ctl_words, logs_words, status_words, verify_words}
use Rattle.um_line.specs.declared.line.Line.{Line}
use Rattle.um_line.specs.declared.line.Subcommand.TheVariants.{Nothing}
use Rattle.um_sentences.specs.Sentences.{topic_named}
use Rattle.um_line.specs.declared.line.Line.TheVariants.{Memory, Run, Create, Check, Serve, LongBoot, Ctl, Sync, Status, Verify, Logs, Help, Topic, Told, Wrong}

-- the words of the program are simple ones
pub umd_simple : is_simple_and_free umd_words ≡ true
unfolding clap_on_literals
umd_simple = refl

pub create_simple : is_simple_and_free create_words ≡ true
unfolding clap_on_literals
create_simple = refl

pub create_plain : is_simple create_words ≡ true
unfolding clap_on_literals
create_plain = refl

pub check_simple : is_simple_and_free check_words ≡ true
unfolding clap_on_literals
check_simple = refl

pub check_plain : is_simple check_words ≡ true
unfolding clap_on_literals
check_plain = refl

pub serve_simple : is_simple_and_free serve_words ≡ true
unfolding clap_on_literals
serve_simple = refl

pub serve_plain : is_simple serve_words ≡ true
unfolding clap_on_literals
serve_plain = refl

pub ctl_simple : is_simple_and_free ctl_words ≡ true
unfolding clap_on_literals
ctl_simple = refl

pub ctl_plain : is_simple ctl_words ≡ true
unfolding clap_on_literals
ctl_plain = refl

pub logs_simple : is_simple_and_free logs_words ≡ true
unfolding clap_on_literals
logs_simple = refl

pub logs_plain : is_simple logs_words ≡ true
unfolding clap_on_literals
logs_plain = refl

pub status_simple : is_simple_and_free status_words ≡ true
unfolding clap_on_literals
status_simple = refl

pub status_plain : is_simple status_words ≡ true
unfolding clap_on_literals
status_plain = refl

pub verify_simple : is_simple_and_free verify_words ≡ true
unfolding clap_on_literals
verify_simple = refl

pub verify_plain : is_simple verify_words ≡ true
unfolding clap_on_literals
verify_plain = refl

told : (mistakes : Kinds) (kind : ErrorKind) (line : Line) → IsAmong kind mistakes → IsToldAs kind line → TellsMistake mistakes line
told mistakes kind (Told text) among (inl is) = inl (subst (λ k. IsAmong k mistakes) is among)
told mistakes kind (Told text) among (inr is) = inr (subst (λ k. IsAmong k mistakes) is among)
told mistakes kind (Wrong text) among (no_help, no_version) = (kind, among, no_help, no_version)
told mistakes kind Memory among is = absurd is
told mistakes kind (Run line) among is = absurd is
told mistakes kind (Create line) among is = absurd is
told mistakes kind (Check line) among is = absurd is
told mistakes kind (Serve line) among is = absurd is
told mistakes kind LongBoot among is = absurd is
told mistakes kind (Ctl line) among is = absurd is
told mistakes kind (Sync line) among is = absurd is
told mistakes kind (Logs line) among is = absurd is
told mistakes kind (Help n) among is = absurd is
told mistakes kind (Status line) among is = absurd is
told mistakes kind (Verify line) among is = absurd is
told mistakes kind (Topic line) among is = absurd is

-- a mistake is reported
pub mistaken : {E : Type 0} (mistakes : Kinds) (Takes : Line → Type 0) (e : Error) (r : Result Line E) → HasKind mistakes e
    → IfOk r (IsToldAs (kind_of e)) → OnOk r (kind_of e ≢ OutOfMemory) → IfOk r (IsReadLine mistakes Takes)
mistaken mistakes Takes e (Ok line) (inl memory) is other = absurd (other memory)
mistaken mistakes Takes e (Ok line) (inr among) is other = inr (told mistakes (kind_of e) line among is)
mistaken mistakes Takes e (Err f) has is other = tt

-- the line that words without a mistake stand for, by their rows
pub read : {E : Type 0} (mistakes : Kinds) (Takes : List Row → Line → Type 0) (rows found : List Row) (r : Result Line E) → mistakes ≡ []
    → found ≡ rows → IfOk r (Takes found) → IfOk r (IsReadLine mistakes (Takes rows))
read mistakes Takes rows found (Ok line) none is takes = inl (none, subst (λ all. Takes all line) is takes)
read mistakes Takes rows found (Err f) none is takes = tt

-- the same by the command that has the words
pub read_by : {E S : Type 0} (app : App) (wanted : App) (words : List (List ℕ)) (Takes : List Row → Line → Type 0) (found : List Row) (r : Result Line E)
    → app ≡ wanted → is_simple_and_free wanted ≡ true → is_simple wanted ≡ true → (is_simple_and_free app ≡ true → fault_of app words ≡ [])
    → (is_simple app ≡ true → (found ≡ matches_of app words) × S) → IfOk r (Takes found)
    → IfOk r (IsReadLine (fault_of wanted words) (Takes (matches_of wanted words)))
read_by {E} {S} app wanted words Takes found r is simple plain kinds matches takes =
    let none = subst (λ a. is_simple_and_free a ≡ true → fault_of a words ≡ []) is kinds simple in
    let rows = subst (λ a. is_simple a ≡ true → (found ≡ matches_of a words) × S) is matches plain in
    read (fault_of wanted words) Takes (matches_of wanted words) found r none rows.0 takes

pub mistaken_by : {E : Type 0} (app : App) (wanted : App) (words : List (List ℕ)) (Takes : Line → Type 0) (e : Error) (r : Result Line E)
    → app ≡ wanted → is_simple_and_free wanted ≡ true → (is_simple_and_free app ≡ true → HasKind (fault_of app words) e)
    → IfOk r (IsToldAs (kind_of e)) → OnOk r (kind_of e ≢ OutOfMemory) → IfOk r (IsReadLine (fault_of wanted words) Takes)
mistaken_by app wanted words Takes e r is simple kinds told memory =
    let has = subst (λ a. is_simple_and_free a ≡ true → HasKind (fault_of a words) e) is kinds simple in
    mistaken (fault_of wanted words) Takes e r has told memory

-- a command with one more argument
pub added : (a b x : App) (r : Rule) → b ≡ with_rule a r → a ≡ x → b ≡ with_rule x r
added a b x r is old = is ∙ ap (λ y. with_rule y r) old

-- the last argument of a command, if there is memory for it
pub added_last : (a x : App) (r : Rule) (result : Result Command AllocError) → IfOk result (λ c. app_of c ≡ with_rule a r) → a ≡ x → IfOk result (λ c. app_of c ≡ with_rule x r)
added_last a x r (Ok c) is old = added a (app_of c) x r is old
added_last a x r (Err refused) is old = is

-- a number outside the limits is no number within them
pub outside : (low high m : ℕ) (bytes : List ℕ) (text : Option (List ℕ)) → text ≡ Some bytes → bytes ≡ decimal m → m < 2 ^ 64 → high < 2 ^ 64
    → (m < low) ⊎ (high < m) → IsNoNumber low high text
outside low high m bytes text some is below small (inl under) n least most same =
    let e : decimal m ≡ decimal n = cc in
    let eq = decimal_injective m n below (omega arith) e in omega arith
outside low high m bytes text some is below small (inr over) n least most same =
    let e : decimal m ≡ decimal n = cc in
    let eq = decimal_injective m n below (omega arith) e in omega arith

-- a number that no refusal has is no word for a refusal
pub no_code : (m first : ℕ) (word digits : List ℕ) → word ≡ first ∷ digits → digits ≡ decimal m → m < 2 ^ 64 → (m < 1) ⊎ ((1 ≤ m) × (last_refusal < m))
    → IsNoCode word
no_code m first word digits is said below (inl under) letter n fits least most same =
    let e : decimal m ≡ decimal n = sym said ∙ ap (drop 1) (sym is ∙ same) in
    let eq = decimal_injective m n below (omega arith) e in omega arith
no_code m first word digits is said below (inr (not_under, over)) letter n fits least most same =
    let e : decimal m ≡ decimal n = sym said ∙ ap (drop 1) (sym is ∙ same) in
    let eq = decimal_injective m n below (omega arith) e in omega arith

-- a word that has no help is reported as wrong
pub wrong_word : (word : List ℕ) → IsNoCode word → named (Some word) ≡ Nothing → topic_named word ≡ None → word ≢ codes "--help"
    → (word ∷ [] ≢ []) × (word ∷ [] ≢ codes "--help" ∷ []) × ((w : List ℕ) → word ∷ [] ≡ w ∷ [] → HasNoHelp w)
wrong_word word code none topic other = (
  (λ e. let bad : ⊥ = cc in bad),
  (λ e. let same : word ≡ codes "--help" = cc in other same),
  (λ w e. let same : word ≡ w = cc in subst HasNoHelp same (code, none, topic)),
)
