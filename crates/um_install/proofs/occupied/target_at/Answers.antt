use Rattle.std.proofs.Common.{Some, ap, sym, ◌∙◌, option_map, string_bytes}
use Rattle.um_tree.proofs.TextMaps.{get-map_of}
use Rattle.um_install.proofs.occupied.target_at.Goals as goal

pub returns-in-Some : goal.returns-in-Some
returns-in-Some c = ap Some c.as_str.ensures.value ∙ ap (option_map string_bytes) c.in-Some.ensures.value ∙ sym (get-map_of string_bytes c.args.targets.now c.args.path.now)

pub returns-in-None : goal.returns-in-None
returns-in-None c = ap (option_map string_bytes) c.in-None.ensures.value ∙ sym (get-map_of string_bytes c.args.targets.now c.args.path.now)
