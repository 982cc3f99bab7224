use Rattle.std.proofs.Common.{◌≢◌, ◌≡◌, Err, map as each, string_bytes, ap, sym, ◌∙◌, rules}
use Rattle.std.specs.FinMap as map
use Rattle.um_model.specs.Tree.{put_link}
use Rattle.um_tree.proofs.TextMaps.{entries-map_of}
use Rattle.um_wire.specs.Refusal.{refused_of}
use Rattle.um_wire.specs.declared.refusal.Refusal.TheVariants.{NoMemory}
use Rattle.um_install.specs.Changes.{and_then, linked}
use Rattle.um_install.specs.View.{path_and_target, targets_of}
use Rattle.um_install.proofs.enabling.with_links.Goals as goal

pub returns-in_err-link : goal.returns-in_err-link
returns-in_err-link c =
    let tree = c.args.tree.now in
    let all = c.into_iter-path-iterator.ensures.into_iter_gives ∙ c.iter-path-items.ensures.rest in
    let step : c.in_err-link.field-0.0 ≢ NoMemory → linked tree (map.entries (targets_of c.args.targets.now.entries)) ≡ Err (refused_of c.in_err-link.field-0.0) =
    λ differs.
    ap (linked tree) (entries-map_of string_bytes c.args.targets.now c.iter-path-items.ensures.ordered ∙ sym (ap (each path_and_target) all))
    ∙ sym c.loop-path.invariant
    ∙ ap (λ es. linked c.loop-path.linked (each path_and_target es)) c.in-Some.ensures.steps
    ∙ ap (λ r. and_then r (λ next. linked next (each path_and_target c.next.new.self)))
    (ap (λ p. put_link c.loop-path.linked p (string_bytes c.in-Some.target.now)) (sym c.as_str.ensures.value)
    ∙ ap (put_link c.loop-path.linked c.as_str.result.now) (sym c.as_str-in-loop-path.ensures.value)
    ∙ c.in_err-link.ensures.refused differs) in
    search (rules, step)

pub returns : goal.returns
returns c =
    let tree = c.args.tree.now in
    let all = c.into_iter-path-iterator.ensures.into_iter_gives ∙ c.iter-path-items.ensures.rest in
    ap (linked tree) (entries-map_of string_bytes c.args.targets.now c.iter-path-items.ensures.ordered ∙ sym (ap (each path_and_target) all))
    ∙ sym c.loop-path.invariant
    ∙ ap (λ es. linked c.loop-path.linked (each path_and_target es)) c.in-None.ensures.steps.0
