use Rattle.std.proofs.Common.{map as each, ap, sym, ◌++◌, ◌∙◌, append-nil}
use Rattle.std.specs.List.{flat_map}
use Rattle.um_model.specs.Install as model
use Rattle.um_unit.specs.View.{loading_of}
use Rattle.um_install.specs.View.{link_of}
use Rattle.um_install.proofs.Members.{values_seen}
use Rattle.um_install.proofs.links.links_of.Goals as goal

pub returns : goal.returns
returns c =
    let all = c.into_iter-loading-iterator.ensures.into_iter_gives ∙ c.values-loading-items.ensures.rest in
    sym (append-nil (each link_of c.loop-loading.links.items))
    ∙ ap (λ ls. each link_of c.loop-loading.links.items ++ flat_map model.links_of (each loading_of ls)) (sym c.in-None.ensures.steps.0)
    ∙ c.loop-loading.invariant ∙ ap (λ ls. flat_map model.links_of (each loading_of ls)) all
    ∙ ap (flat_map model.links_of) (values_seen loading_of c.args.units.now c.values-loading-items.ensures.ordered)
