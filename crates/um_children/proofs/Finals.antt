-- No number that was reported absent starts: one call more keeps it.
use Rattle.std.proofs.Common.{◌≡◌, ℕ, Bool, true, false, ◌||◌, cond, List, [], ◌∷◌, ◌++◌, refl, sym, subst, ◌∙◌}
use Rattle.std.proofs.lemmas.Bool.{true≢false}
use Rattle.std.proofs.lemmas.List.{map-append}
use Rattle.std.proofs.lemmas.List.Folds.{list_any-append}
use Rattle.um_model.specs.Children.{Call, Spawned, Signalled, Asked, Forgot, ForgotOthers}
use Rattle.um_children.specs.History.{is_start, is_absence, has_started, was_absent, IsFinal}
use Rattle.um_children.specs.Calls.{Fits, call_of, calls_of}
use Rattle.um_children.specs.declared.call.Call as told

both : (c d : Bool) → c ≡ false → d ≡ false → (c || (d || false)) ≡ false
both false false p q = refl
both true d p q = absurd (true≢false p)
both false true p q = absurd (true≢false q)

joined : (a b c d : Bool) → (a ≡ true → c ≡ false) → (a ≡ true → d ≡ false) → (b ≡ true → c ≡ false) → (b ≡ true → d ≡ false) → (a || (b || false)) ≡ true → (c || (d || false)) ≡ false
joined true b c d p q r s t = both c d (p refl) (q refl)
joined false true c d p q r s t = both c d (r refl) (s refl)
joined false false c d p q r s t = absurd (true≢false (sym t))

not_both : (n : ℕ) (call : Call) → is_absence n call ≡ true → is_start n call ≡ false
not_both n (Spawned spawn taken b) t = absurd (true≢false (sym t))
not_both n (Signalled number signal) t = refl
not_both n (Asked number claim told) t = refl
not_both n (Forgot number) t = refl
not_both n (ForgotOthers live next) t = refl

final_noted : (call : Call) (calls : List Call) → IsFinal calls → Fits call calls → IsFinal (calls ++ call ∷ [])
final_noted call calls kept fits n t =
    list_any-append (is_start n) calls (call ∷ [])
    ∙ joined (was_absent calls n) (is_absence n call) (has_started calls n) (is_start n call)
    (kept n) (fits n).0 (fits n).1 (not_both n call) (sym (list_any-append (is_absence n) calls (call ∷ [])) ∙ t)

pub kept_if : (b : Bool) (call : told.Call) (calls new : List told.Call) → new ≡ cond b (calls ++ call ∷ []) calls → IsFinal (calls_of calls) → Fits (call_of call) (calls_of calls) → IsFinal (calls_of new)
kept_if true call calls new e kept fits = subst (λ xs. IsFinal (calls_of xs)) (sym e) (subst IsFinal (sym (map-append call_of calls (call ∷ []))) (final_noted (call_of call) (calls_of calls) kept fits))
kept_if false call calls new e kept fits = subst (λ xs. IsFinal (calls_of xs)) (sym e) kept
