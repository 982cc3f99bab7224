use Rattle.std.proofs.Common.{rules, tests, ◌∙◌}
use Rattle.std.proofs.lemmas.Iterator.{YieldsList-from_slice}
use Rattle.std.proofs.lemmas.Iterator.Search.{all_from_yields_List}
use Rattle.serde_json.specs.View.{view}
use Rattle.serde_json.specs.declared.value.Value.{Value}
use Rattle.um_ctl.specs.Told.{is_text}
use Rattle.um_proto.proofs.Keys.{list_all-map}
use Rattle.um_ctl.proofs.reply.are_texts.Goals as goal

pub returns : goal.returns
returns c =
    let is_it = λ (v : Value). is_text (view v) in
    all_from_yields_List is_it _ _ c.all.result c.all.ensures.ran (YieldsList-from_slice c.args.values.now cc) (λ x b q k. search (rules, tests))
    ∙ list_all-map is_text view c.args.values.now
