use Rattle.std.proofs.Common.{drop, sym, ap, ◌∙◌}
use Rattle.std.specs.Option.{option_map}
use Rattle.um_model.proofs.BytesLaws.{at_none, at_some}
use Rattle.um_state.proofs.StateFields.{found_here, no_fields}
use Rattle.um_state.specs.View.{state_of}
use Rattle.um_state.proofs.state_bytes.StateCanon.get.Goals as goal

pub returns-in-Some-2-clause-read : goal.returns-in-Some-2-clause-read
returns-in-Some-2-clause-read c =
    let bytes = c.args.bytes.now in
    let read = at_some _ _ _ _ c.in-Some.fields c.in-Some.n c.in_ok-fields.ensures.read c.in-Some.is in
    found_here bytes _ c.in-Some.n read (state_of c.in_ok-read.read) c.in_ok-read.ensures
    ∙ ap (option_map (λ s. (s, drop c.in-Some.n bytes))) (sym c.in_ok-state.ensures ∙ ap (option_map state_of) c.in-Some-2.is)

pub returns-in-None-clause-read : goal.returns-in-None-clause-read
returns-in-None-clause-read c =
    let bytes = c.args.bytes.now in
    let read = at_some _ _ _ _ c.in-Some.fields c.in-Some.n c.in_ok-fields.ensures.read c.in-Some.is in
    found_here bytes _ c.in-Some.n read (state_of c.in_ok-read.read) c.in_ok-read.ensures
    ∙ ap (option_map (λ s. (s, drop c.in-Some.n bytes))) (sym c.in_ok-state.ensures ∙ ap (option_map state_of) c.in-None.is)

pub returns-in_default-clause-read : goal.returns-in_default-clause-read
returns-in_default-clause-read c = no_fields c.args.bytes.now (at_none _ _ _ _ c.in_ok-fields.ensures.read c.in_default.is)
