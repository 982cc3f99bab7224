use Rattle.std.proofs.Common.{◌≡◌, ◌≢◌, ◌≤◌, ℕ, List, [], length, drop, Result, Ok, Err, OnErr, ap, subst, rules, arith}
use Rattle.std.proofs.lemmas.List.{length-drop}
use Rattle.um_backlog.proofs.waiting.Waiting.push.Goals as goal

-- something waits where not all is taken
some_waits : (at : ℕ) (bytes : List ℕ) → at ≤ length bytes → at ≢ length bytes → drop at bytes ≢ []
some_waits at bytes low apart none = let left : length (drop at bytes) ≡ 0 = ap length none in apart (omega (arith, left, low, length-drop at bytes))

on_err : {A E P : Type 0} (result : Result A E) → P → OnErr result P
on_err (Ok value) p = tt
on_err (Err e) p = p

pub returns-clause-err : goal.returns-clause-err
returns-clause-err c =
    on_err c.append.result
    (subst (λ bytes. bytes ≢ []) (ap (λ w. w.bytes) c.self.view_is) (some_waits c.self.inside.at c.self.inside.bytes.items c.self.invariant (search rules)), search rules)
