use Rattle.std.proofs.Common.{◌≡◌, ℕ, ◌+◌, List, false, zero-add, add-zero, add_assoc, sym, ap, subst, ◌∙◌, arith, rules}
use Rattle.um_model.specs.Text.{trim_start, is_empty}
use Rattle.um_model.proofs.ValuesLaws.{nothing, part, trim_start-trim_start, sum-untrimmed, sum-trimmed, sum-first, one_time}
use Rattle.um_model.specs.ValueSpellings.{AddUpTo, IsTime}
use Rattle.um_value.proofs.SpanLemmas.{some_from, none_from}
use Rattle.um_value.proofs.spans.sum_of_parts.Goals as goal
use Rattle.um_model.specs.FileForms.{past_part, digits_of, unit_of}

pub loop-rest-init : goal.loop-rest-init
loop-rest-init c =
    let text = c.args.text.now in
    let value = c.trim_start-rest.ensures.value in
    record {
      utf8 = search rules;
      trimmed = ap trim_start value ∙ trim_start-trim_start text ∙ sym value;
      small = omega arith;
      found = λ n sum. subst (AddUpTo text) (sym (ap (λ z. z + n) c.from_micros-total.ensures ∙ zero-add n)) (sum-untrimmed text n (subst (λ x. AddUpTo x n) value sum));
      only = λ n sum. (n, subst (λ x. AddUpTo x n) (sym value) (sum-trimmed text n sum), omega arith);
    }

-- the part at the front, as the code and the definition cut it
same_part : (digits unit text : List ℕ) (n : ℕ) → digits ≡ digits_of text → unit ≡ unit_of text → IsTime (digits_of text) (unit_of text) n → IsTime digits unit n
same_part digits unit text n e f time = rw (e, f) time

first_part : (digits unit text : List ℕ) (n : ℕ) → digits ≡ digits_of text → unit ≡ unit_of text → IsTime digits unit n → IsTime (digits_of text) (unit_of text) n
first_part digits unit text n e f time = rw (← f, ← e) time

pub returns-in_err-time-clause-none : goal.returns-in_err-time-clause-none
returns-in_err-time-clause-none c = rw c.from_residual.ensures (λ n span.
    let rest = c.loop-rest.rest.now in
    let part = c.split_part-part in
    let r = c.loop-rest.invariant.only n span.1 in
    let q = sum-first rest r.0 c.loop-rest.invariant.trimmed (some_from rest (sym c.loop-rest-test.ensures)) r.1 in
    c.in_err-time.ensures.none q.0 (omega arith) (same_part part.result.digits.now part.result.unit.now rest q.0 part.ensures.digits part.ensures.unit q.2))

pub returns-in_err-total-clause-none : goal.returns-in_err-total-clause-none
returns-in_err-total-clause-none c = rw c.from_residual-in_err-total.ensures (λ n span.
    let rest = c.loop-rest.rest.now in
    let part = c.split_part-part in
    let r = c.loop-rest.invariant.only n span.1 in
    let q = sum-first rest r.0 c.loop-rest.invariant.trimmed (some_from rest (sym c.loop-rest-test.ensures)) r.1 in
    let time = same_part part.result.digits.now part.result.unit.now rest q.0 part.ensures.digits part.ensures.unit q.2 in
    let same = one_time part.result.digits.now part.result.unit.now q.0 c.in_ok-time.field-0 time c.in_ok-time.ensures.found.0 in
    let past = c.in_err-total.ensures in
    omega arith)

pub loop-rest-preserved : goal.loop-rest-preserved
loop-rest-preserved c =
    let text = c.args.text.now in
    let rest = c.loop-rest.rest.now in
    let cut = c.split_part-part in
    let micros = c.in_ok-time.field-0 in
    let time : IsTime (digits_of rest) (unit_of rest) micros = first_part cut.result.digits.now cut.result.unit.now rest micros cut.ensures.digits cut.ensures.unit c.in_ok-time.ensures.found.0 in
    let total : c.in_ok-total.total ≡ c.loop-rest.total + micros = omega arith in
    let value : c.trim_start-rest-in-loop-rest.result.now ≡ trim_start (past_part rest) = c.trim_start-rest-in-loop-rest.ensures.value ∙ ap trim_start cut.ensures.rest in
    record {
      utf8 = search rules;
      trimmed = ap trim_start value ∙ trim_start-trim_start (past_part rest) ∙ sym value;
      small = omega arith;
      found = λ n sum. subst (AddUpTo text) (sym (ap (λ z. z + n) total ∙ add_assoc c.loop-rest.total micros n)) (c.loop-rest.invariant.found (micros + n)
          (part rest micros n time (sum-untrimmed (past_part rest) n (subst (λ x. AddUpTo x n) value sum))));
      only = λ n sum.
          let r = c.loop-rest.invariant.only n sum in
          let q = sum-first rest r.0 c.loop-rest.invariant.trimmed (some_from rest (sym c.loop-rest-test.ensures)) r.1 in
          let same = one_time (digits_of rest) (unit_of rest) q.0 micros q.2 time in
          (q.1, subst (λ x. AddUpTo x q.1) (sym value) (sum-trimmed (past_part rest) q.1 q.3), omega arith);
    }

pub returns-clause-found : goal.returns-clause-found
returns-clause-found c =
    let rest = c.loop-rest.rest.now in
    let empty = none_from rest (sym c.loop-rest-test.ensures) in (
      subst (λ x. is_empty x ≡ false) c.trim_start-rest.ensures.value (some_from c.trim_start-rest.result.now (sym c.if-is_empty.ensures)),
      subst (AddUpTo c.args.text.now) (add-zero c.loop-rest.total) (c.loop-rest.invariant.found 0 (subst (λ x. AddUpTo x 0) (sym empty) nothing)),
      omega arith,
    )
