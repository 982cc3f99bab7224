use Rattle.um_engine.proofs.NamesLaws.{names_by_same, same_by_names}
use Rattle.um_engine.proofs.between.knows_the_same.Goals as goal

pub returns : goal.returns
returns c =
    let s = c.args.served.now.state in
    let t = c.args.after.now.state in
    let names = c.in_ok-names.names in
    let others = c.in_ok-others.others in (
      λ told. same_by_names s t names others c.in_ok-names.ensures.known c.in_ok-others.ensures.known (c.is_same_names.ensures.0 told),
      λ same. c.is_same_names.ensures.1 (names_by_same s t names others c.in_ok-names.ensures.ascending c.in_ok-others.ensures.ascending c.in_ok-names.ensures.known c.in_ok-others.ensures.known same),
    )
