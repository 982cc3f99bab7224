use Rattle.std.proofs.Common.{◌≡◌, ◌<◌, ◌^◌, ◌++◌, ◌∷◌, ℕ, None, Some, arith, ap, ◌∙◌}
use Rattle.std.proofs.lemmas.Str.Pattern.{split_parts}
use Rattle.std.specs.Prelude.{decimal}
use Rattle.um_status.proofs.Cuts.{no_end_whole, no_end_once, no_end_number, no_end_moment}
use Rattle.um_status.proofs.ends.last_end.Goals as goal

pub returns-in_err-number : goal.returns-in_err-number
returns-in_err-number c =
    let none = split_parts 32 c.args.line.now None c.in_err-number.ensures.cases (omega arith) in
    rw c.from_residual.ensures (no_end_whole c.args.line.now none)

pub returns-in_err-moment : goal.returns-in_err-moment
returns-in_err-moment c =
    let first = split_parts 32 c.args.line.now (Some (c.in_ok-number.number, c.in_ok-number.rest)) c.in_ok-number.ensures.cases (omega arith) in
    let none = split_parts 32 c.in_ok-number.rest.now None c.in_err-moment.ensures.cases (omega arith) in
    rw c.from_residual-in_err-moment.ensures (no_end_once c.args.line.now c.in_ok-number.number.now c.in_ok-number.rest.now first.0 first.1 none)

pub returns-in_err-number-2 : goal.returns-in_err-number-2
returns-in_err-number-2 c =
    let number = c.in_ok-number.number.now in
    let first = split_parts 32 c.args.line.now (Some (c.in_ok-number.number, c.in_ok-number.rest)) c.in_ok-number.ensures.cases (omega arith) in
    let none = λ (n : ℕ) (h : n < 2 ^ 64) (e : number ≡ decimal n). c.in_err-number-2.ensures n h (c.as_bytes.ensures.value ∙ e) in
    rw c.from_residual-in_err-number-2.ensures (no_end_number c.args.line.now number c.in_ok-number.rest.now first.0 first.1 none)

pub returns-in_err-moment-2 : goal.returns-in_err-moment-2
returns-in_err-moment-2 c =
    let number = c.in_ok-number.number.now in
    let moment = c.in_ok-moment.moment.now in
    let first = split_parts 32 c.args.line.now (Some (c.in_ok-number.number, c.in_ok-number.rest)) c.in_ok-number.ensures.cases (omega arith) in
    let second = split_parts 32 c.in_ok-number.rest.now (Some (c.in_ok-moment.moment, c.in_ok-moment.how)) c.in_ok-moment.ensures.cases (omega arith) in
    let is = first.0 ∙ ap (λ t. number ++ 32 ∷ t) second.0 in
    let none = λ (n : ℕ) (h : n < 2 ^ 64) (e : moment ≡ decimal n). c.in_err-moment-2.ensures n h (c.as_bytes-2.ensures.value ∙ e) in
    rw c.from_residual-in_err-moment-2.ensures (no_end_moment c.args.line.now number moment c.in_ok-moment.how.now is first.1 second.1 none)
