-- The lives of a runner, step by step.
use Rattle.std.proofs.Common.{◌≡◌, ℕ, Bool, true, false, ◌&&◌, List, [], ◌∷◌, ◌++◌, Some, None, Result, Ok, Err, ap, ◌∙◌, append_assoc}
use Rattle.std.specs.Prelude.{is_ok}
use Rattle.std.specs.Result.{IsErr}
use Rattle.std.proofs.lemmas.Bool.{true≢false, false≢true}
use Rattle.um_runner.specs.Runner.{pid_text, status_text}
use Rattle.um_runner.specs.declared.runner_file.RunnerFile.TheVariants.{Pid, Status}
use Rattle.um_model.specs.declared.service.End.{End}
use Rattle.um_runner.specs.RunnerSteps.{RunnerStep, not_executed, Ours, Taken, Refused, Claims, Starts, Writes, Waits, yields, fails, refuses, runs}
use Rattle.um_runner.specs.Lives.{LivesOn, claimed_when}

-- steps after steps
joined : (a b c xs ys : List RunnerStep) → b ≡ a ++ xs → c ≡ b ++ ys → c ≡ a ++ (xs ++ ys)
joined a b c xs ys p q = q ∙ ap (λ steps. steps ++ ys) p ∙ append_assoc a xs ys

-- the outcome of the claim, by the answer
pub ours : (x : Bool) (a b : List RunnerStep) → x ≡ true → b ≡ a ++ Claims (claimed_when x) ∷ [] → b ≡ a ++ Claims Ours ∷ []
ours true a b is p = p
ours false a b is p = absurd (false≢true is)

pub yielded : (words entries : List (List ℕ)) (x : Bool) (a b : List RunnerStep) → x ≡ false → b ≡ a ++ Claims (claimed_when x) ∷ []
    → LivesOn words entries a b true
yielded words entries false a b is p = (Claims Taken ∷ [], p, yields)
yielded words entries true a b is p = absurd (true≢false is)

pub failed : {T E : Type 0} (words entries : List (List ℕ)) (a b : List RunnerStep) (r : Result T E) → IsErr r → b ≡ a ++ Claims Refused ∷ []
    → LivesOn words entries a b (is_ok r)
failed words entries a b (Ok x) never p = absurd (false≢true never)
failed words entries a b (Err e) is p = (Claims Refused ∷ [], p, fails)

pub refused : (words entries : List (List ℕ)) (told : Bool) (a b c d : List RunnerStep) → b ≡ a ++ Claims Ours ∷ [] → c ≡ b ++ Starts words entries None ∷ []
    → d ≡ c ++ Writes Status (status_text not_executed) told ∷ [] → LivesOn words entries a d told
refused words entries told a b c d p q r = (
  Claims Ours ∷ Starts words entries None ∷ Writes Status (status_text not_executed) told ∷ [],
  joined a c d (Claims Ours ∷ Starts words entries None ∷ []) _ (joined a b c (Claims Ours ∷ []) _ p q) r,
  refuses told,
)

pub ran : (words entries : List (List ℕ)) (pid : ℕ) (end : End) (told_pid told : Bool) (a b c d e f : List RunnerStep)
    → b ≡ a ++ Claims Ours ∷ [] → c ≡ b ++ Starts words entries (Some pid) ∷ [] → d ≡ c ++ Writes Pid (pid_text pid) told_pid ∷ []
    → e ≡ d ++ Waits end ∷ [] → f ≡ e ++ Writes Status (status_text end) told ∷ [] → LivesOn words entries a f (told_pid && told)
ran words entries pid end told_pid told a b c d e f p q r s t =
    let started = joined a b c (Claims Ours ∷ []) (Starts words entries (Some pid) ∷ []) p q in
    let noted = joined a c d _ (Writes Pid (pid_text pid) told_pid ∷ []) started r in
    let waited = joined a d e _ (Waits end ∷ []) noted s in
    (_, joined a e f _ (Writes Status (status_text end) told ∷ []) waited t, runs pid end told_pid told)
