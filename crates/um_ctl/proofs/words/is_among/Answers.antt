use Rattle.std.proofs.Common.{rules, tests, ◌∙◌, List, ℕ, Bor}
use Rattle.std.specs.Str.{bytes_eq}
use Rattle.std.proofs.lemmas.Iterator.{YieldsList-from_slice}
use Rattle.std.proofs.lemmas.Iterator.Search.{any_from_yields_List}
use Rattle.um_proto.proofs.Keys.{list_any-map}
use Rattle.um_ctl.proofs.words.is_among.Goals as goal

pub returns : goal.returns
returns c =
    let is_it = λ (s : Bor (List ℕ)). bytes_eq c.args.text.now s.now in
    any_from_yields_List is_it _ _ c.any.result c.any.ensures.ran (YieldsList-from_slice c.args.texts.now cc) (λ x b q k. search (rules, tests))
    ∙ list_any-map (bytes_eq c.args.text.now) (λ (s : Bor (List ℕ)). s.now) c.args.texts.now
