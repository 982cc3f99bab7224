use Rattle.std.proofs.Common.{rules, ◌≡◌, ◌∙◌, ap}
use Rattle.std.specs.List.{list_any}
use Rattle.std.specs.Str.{bytes_eq}
use Rattle.um_graph.specs.Edges.{names_of}
use Rattle.um_graph.proofs.PlaceLaws.{same_order}
use Rattle.um_graph.proofs.units.Units.names.Goals as goal

pub returns : goal.returns
returns c =
    let names = names_of c.args.self.now.units.items in
    let all : c.as_slice.result.now ≡ names = search rules in
    same_order c.in_ok-names.names names c.in_ok-names.ensures.ascending c.requires (λ x. c.in_ok-names.ensures.whole x ∙ ap (list_any (bytes_eq x)) all)
