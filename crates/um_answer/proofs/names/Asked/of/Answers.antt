use Rattle.std.proofs.Common.{◌≡◌, ◌∙◌, List, ℕ, IfOk, Result, Ok, Err, ap, sym}
use Rattle.um_model.proofs.OwnNameLaws.{named_by_loading}
use Rattle.um_model.specs.Profiles.{ReadTree}
use Rattle.um_model.specs.Units.{Loading, load as load_in, name_in, unit_named}
use Rattle.um_unit.specs.View.{tree_read}
use Rattle.um_answer.proofs.names.Asked.of.Goals as goal

if_ok : {A E : Type 0} {P Q : A → Type 0} (result : Result A E) → ((x : A) → P x → Q x) → IfOk result P → IfOk result Q
if_ok (Ok x) more said = more x said
if_ok (Err e) more said = said

-- the name that counts, by the loading found in the tree, is the unit's
named_so : (tree : ReadTree) (asked : List ℕ) (found : Loading) → found ≡ load_in tree asked → name_in asked found ≡ unit_named tree.entries asked
named_so tree asked found is = ap (name_in asked) is ∙ sym (named_by_loading tree asked)

pub returns-in-Some-clause-unit : goal.returns-in-Some-clause-unit
returns-in-Some-clause-unit c loads =
    let tree = tree_read c.args.reading in
    if_ok c.by.result (λ a is. is ∙ named_so tree c.args.asked.now _ (c.in-Some.ensures tree loads)) c.by.ensures.unit

pub returns-clause-unit : goal.returns-clause-unit
returns-clause-unit c loads =
    let tree = tree_read c.args.reading in
    if_ok c.by-2.result (λ a is. is ∙ named_so tree c.args.asked.now _ c.in_ok-load.ensures) c.by-2.ensures.unit
