use Rattle.std.proofs.Common.{rules, tests, ◌∙◌, List, ℕ, Bor, is_some}
use Rattle.std.proofs.lemmas.Iterator.{YieldsList-from_slice}
use Rattle.std.proofs.lemmas.Iterator.Search.{all_from_yields_List}
use Rattle.serde_json.specs.Find.{get}
use Rattle.serde_json.specs.View.{view}
use Rattle.um_proto.proofs.Keys.{list_all-map}
use Rattle.um_proto.proofs.fields.has_each.Goals as goal

pub returns : goal.returns
returns c =
    let stands = λ (name : List ℕ). is_some (get name (view c.args.value.now)) in
    all_from_yields_List (λ (s : Bor (List ℕ)). stands s.now) _ _ c.all.result c.all.ensures.ran
    (YieldsList-from_slice c.args.names.now cc) (λ x b q k. search (rules, tests))
    ∙ list_all-map stands (λ (s : Bor (List ℕ)). s.now) c.args.names.now
