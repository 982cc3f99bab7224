use Rattle.std.proofs.Common.{rules, tests, ◌∙◌, sym}
use Rattle.std.specs.Str.{bytes_eq}
use Rattle.std.proofs.lemmas.Iterator.{YieldsList-from_slice}
use Rattle.std.proofs.lemmas.Iterator.Adapters.{option_map_id}
use Rattle.std.proofs.lemmas.Iterator.Consumers.{YieldsList-from_copied}
use Rattle.std.proofs.lemmas.Iterator.Search.{find_from_yields_List}
use Rattle.um_model.specs.Values.{restart_text, policy_named}
use Rattle.um_model.specs.declared.settings.RestartPolicy.{RestartPolicy}
use Rattle.um_value.proofs.policies.restart.Goals as goal
use Rattle.um_model.specs.FileForms.{policies}

pub returns : goal.returns
unfolding policy_named
returns c =
    let named = λ (policy : RestartPolicy). bytes_eq c.args.text.now (restart_text policy) in
    sym (option_map_id c.find.result)
    ∙ find_from_yields_List named _ _ c.find.result c.find.ensures.ran (YieldsList-from_copied (YieldsList-from_slice policies (cc))) (λ x b q k. search (rules, tests))
