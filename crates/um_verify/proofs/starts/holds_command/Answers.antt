use Rattle.std.proofs.Common.{◌≡◌, ◌∙◌, ◌++◌, ◌∷◌, [], ap, codes}
use Rattle.um_model.specs.Profiles.{current, read_by}
use Rattle.um_model.specs.Units.{load}
use Rattle.um_verify.specs.Findings.{holds_command, is_loaded, tree_with}
use Rattle.um_verify.proofs.starts.holds_command.Goals as goal

pub returns : goal.returns
unfolding holds_command
returns c =
    let unit = c.args.unit.now in
    let path : c.as_str.result.now ≡ codes "lib/" ++ unit = c.as_str.ensures.value ∙ c.in_ok-path.ensures.ok ∙ ap (λ name. codes "lib/" ++ name) c.as_str-name.ensures.value in
    let text = c.as_str-2.ensures.value ∙ c.in_ok-text.ensures.ok in
    let tree = c.in_ok-tree.ensures ∙ (λ i. tree_with ((path i, text i) ∷ [])) in
    c.is_loaded.ensures ∙ ap is_loaded (c.in_ok-loading.ensures ∙ ap (λ t. load t unit) (c.read_now.ensures ∙ ap (read_by current) tree))
