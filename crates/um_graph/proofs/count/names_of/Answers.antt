use Rattle.std.proofs.Common.{◌++◌, ◌∷◌, [], ◌∙◌, ap, append_assoc, sym}
use Rattle.std.specs.Map.{keys_of}
use Rattle.um_graph.proofs.count.names_of.Goals as goal

pub loop-entry-preserved : goal.loop-entry-preserved
loop-entry-preserved c =
    let names = c.loop-entry.names.items in
    let left = c.next.new.self in
    ap (λ ns. ns ++ keys_of left) (c.in_ok-push.ensures.items ∙ ap (λ name. names ++ name ∷ []) c.name_of.ensures)
    ∙ (append_assoc names (c.in-Some.entry.0 ∷ []) (keys_of left)
    ∙ (ap (λ es. names ++ keys_of es) (sym c.in-Some.ensures.steps) ∙ c.loop-entry.invariant))
