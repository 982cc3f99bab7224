use Rattle.std.proofs.Common.{◌≡◌, [], map, MatchOption, Some, sym, ◌∙◌, subst}
use Rattle.std.specs.Prelude.{IsPermutation}
use Rattle.um_model.specs.Names.{named}
use Rattle.um_model.specs.Tree.{Tree}
use Rattle.um_verify.specs.Findings.{tree_with}
use Rattle.um_verify.specs.View.{LooksAt, findings_in}
use Rattle.um_verify.specs.declared.reasons.Looked.{Looked}
use Rattle.um_verify.proofs.units.verify_files.Goals as goal

pub returns : goal.returns
returns c =
    let found = c.in_ok-found.found.items in
    let tree = tree_with (map (λ f. (f.0.now, f.1.now)) c.args.files.now) in
    let after = c.told_of.new.tree in
    let name : named c.args.name.now ≡ Some c.in-Some.unit = sym c.in_ok-unit.ensures ∙ c.in-Some.is in
    let told = c.in_ok-found.ensures in
    let looks = subst (λ t. LooksAt t after c.in-Some.unit told.0) c.in_ok-tree.ensures told.1 in
    subst (λ o. MatchOption o (found ≡ []) (λ unit. (end : Tree) × (l : Looked) × LooksAt tree end unit l × IsPermutation (findings_in l) found)) (sym name)
    (after, told.0, looks, told.2)
