use Rattle.std.proofs.Common.{rules, ◌≡◌, true, false, Some, drop, ap, sym, ◌∙◌}
use Rattle.um_model.proofs.BytesLaws.{at_some}
use Rattle.um_laws.proofs.NameMaps.{seen}
use Rattle.um_model.proofs.StateSpellingsLaws.{known_is_tidy}
use Rattle.um_model.specs.StateSpellings.{are_known}
use Rattle.um_state.proofs.UnitsRead.{same_map, units_here, units_unknown}
use Rattle.um_state.proofs.unit_bytes.UnitsCanon.get.Goals as goal

pub returns-then-not-are_known-clause-read : goal.returns-then-not-are_known-clause-read
returns-then-not-are_known-clause-read c =
    let bytes = c.args.bytes.now in
    let units = seen c.in-Some.entries in
    let read = at_some _ bytes _ _ c.in-Some.entries c.in-Some.n c.in_ok-entries.ensures.read c.in-Some.is in
    let unknown : are_known units ≡ false = search rules in
    units_unknown bytes units (drop c.in-Some.n bytes) (read ∙ ap (λ m. Some (m, drop c.in-Some.n bytes)) (same_map c.in-Some.entries.entries)) unknown

pub returns-clause-read : goal.returns-clause-read
returns-clause-read c =
    let bytes = c.args.bytes.now in
    let units = seen c.in-Some.entries in
    let read = at_some _ bytes _ _ c.in-Some.entries c.in-Some.n c.in_ok-entries.ensures.read c.in-Some.is in
    let known : are_known units ≡ true = search rules in
    let same = c.in_ok-units.ensures (known_is_tidy units known) in
    units_here bytes units (drop c.in-Some.n bytes) (read ∙ ap (λ m. Some (m, drop c.in-Some.n bytes)) (same_map c.in-Some.entries.entries)) known
    ∙ ap (λ m. Some (m, drop c.in-Some.n bytes)) (sym same)
