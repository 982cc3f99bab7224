use Rattle.std.proofs.Common.{◌≡◌, ◌+◌, ℕ, List, Option, None, Some, drop, arith, ap, refl, sym, ◌∙◌}
use Rattle.std.proofs.lemmas.List.{drop-drop}
use Rattle.um_model.proofs.BytesLaws.{at_some, at_none}
use Rattle.um_model.specs.InputSpellings.{input_with}
use Rattle.um_state.proofs.Fronts.{behind_two}
use Rattle.um_state.proofs.InputArms.{told, input_here, input_short, unprofiled}
use Rattle.um_state.specs.View.{input_of, timed_of}
use Rattle.um_state.proofs.input_bytes.InputCanon.get.Goals as goal

-- a value that is read is put into another form, and none stays none
told_so : {A B : Type 0} (to : A → B) (o : Option (A × List ℕ)) (a : A) (rest : List ℕ) → o ≡ Some (a, rest) → told to o ≡ Some (to a, rest)
told_so to o a rest is = rw is refl

told_none : {A B : Type 0} (to : A → B) (o : Option (A × List ℕ)) → o ≡ None → told to o ≡ None
told_none to o none = rw none refl

pub returns-in_default-clause-read : goal.returns-in_default-clause-read
returns-in_default-clause-read c = input_short c.args.bytes.now (omega (arith, c.in_default.len_below))

pub returns-in_default-from_tag-clause-read : goal.returns-in_default-from_tag-clause-read
returns-in_default-from_tag-clause-read c = unprofiled c.args.bytes.now c.in-len2-up.len_at_least (sym c.in_default-from_tag.ensures)

pub returns-in-Some-2-clause-read : goal.returns-in-Some-2-clause-read
returns-in-Some-2-clause-read c =
    let bytes = c.args.bytes.now in
    let long = c.in-len2-up.len_at_least in
    let profile = c.in-Some.profile in
    let n = c.in-Some-2.n in
    let rest = behind_two bytes long in
    let read = at_some timed_of _ _ _ c.in-Some-2.timed n c.in_ok-timed.ensures.read c.in-Some-2.is in
    let there = rw rest at read in
    let sum : 2 + n ≡ n + 2 = omega arith in
    input_here bytes long profile (sym c.in-Some.ensures)
    ∙ (told_so (λ t. input_with (profile, t)) _ _ _ there
    ∙ (ap (λ i. Some (i, drop n (drop 2 bytes))) (sym c.input_with.ensures)
    ∙ ap (λ r. Some (input_of c.input_with.result, r)) (drop-drop n 2 bytes ∙ ap (λ m. drop m bytes) sum)))

pub returns-in-None-clause-read : goal.returns-in-None-clause-read
returns-in-None-clause-read c =
    let bytes = c.args.bytes.now in
    let long = c.in-len2-up.len_at_least in
    let profile = c.in-Some.profile in
    let rest = behind_two bytes long in
    let read = at_none timed_of _ _ _ c.in_ok-timed.ensures.read c.in-None.is in
    let there = rw rest at read in
    input_here bytes long profile (sym c.in-Some.ensures) ∙ told_none (λ t. input_with (profile, t)) _ there
