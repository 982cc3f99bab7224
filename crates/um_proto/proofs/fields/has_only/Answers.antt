use Rattle.std.proofs.Common.{rules, tests, ◌∙◌, ap, [], String, Global, string_bytes}
use Rattle.std.specs.List.{list_all}
use Rattle.std.specs.Map.{keys_of}
use Rattle.std.specs.Option.{option_map_or}
use Rattle.std.proofs.lemmas.Iterator.Consumers.{YieldsList-from_rest}
use Rattle.std.proofs.lemmas.Iterator.Search.{all_from_yields_List}
use Rattle.um_model.specs.Requests.{may_have, row_of, member_keys}
use Rattle.um_proto.proofs.Keys.{keys_seen}
use Rattle.um_proto.proofs.fields.has_only.Goals as goal

pub returns-in-Some : goal.returns-in-Some
returns-in-Some c =
    let may = may_have c.args.mode (row_of c.args.verb) in
    let entries = c.in-Some.members.now.entries in
    all_from_yields_List (λ (k : String Global). may_have c.args.mode (row_of c.args.verb) (string_bytes k)) _ _ c.all.result c.all.ensures.ran
    (YieldsList-from_rest (keys_of entries) c.keys.ensures.rest) (λ x b q k. search (rules, tests))
    ∙ keys_seen may entries ∙ ap (λ o. list_all may (option_map_or member_keys o [])) c.in-Some.ensures
