use Rattle.std.proofs.Common.{◌≡◌, ◌++◌, [], ◌∷◌, map, take, string_bytes, sym, ap, subst, ◌∙◌}
use Rattle.std.proofs.lemmas.List.{nil_from_length, take_all}
use Rattle.std.specs.List.{flat_map}
use Rattle.um_model.specs.Substitution.{AreSubstituted, no_words}
use Rattle.um_words.specs.Environment.{variables_of}
use Rattle.um_words.specs.Substituted.{becomes, substituted}
use Rattle.um_words.proofs.CountLemmas.{are_substituted}
use Rattle.um_words.proofs.substitution.substitute.Goals as goal

pub returns-in_default : goal.returns-in_default
returns-in_default c =
    let environment = variables_of c.args.environment.now in
    let none = nil_from_length c.args.words.now c.in_default.ensures.cases in
    subst (λ words. AreSubstituted environment (map string_bytes words) (map string_bytes c.new-substituted.result.items)) (sym none)
    (subst (λ out. AreSubstituted environment [] (map string_bytes out)) (sym c.new-substituted.ensures.items) no_words)

pub returns : goal.returns
returns c =
    let environment = variables_of c.args.environment.now in
    let words = map string_bytes c.args.words.now in
    let first = string_bytes c.in-Some.first.now in
    let others = c.in-Some.others.now in
    let pushed : map string_bytes c.push.new.self.items ≡ first ∷ [] =
    ap (map string_bytes) (c.in_ok-push.ensures.items ∙ ap (λ r. r ++ c.in_ok-clone.field-0 ∷ []) c.new-substituted.ensures.items)
    ∙ ap (λ t. t ∷ []) c.in_ok-clone.ensures.cases in
    let out : map string_bytes c.loop-word.substituted.items ≡ substituted environment words =
    c.loop-word.invariant
    ∙ ap (λ r. r ++ flat_map (becomes environment) (map string_bytes (take c.loop-word.word-index others))) pushed
    ∙ ap (λ ws. first ∷ flat_map (becomes environment) (map string_bytes ws)) (take_all c.loop-word.word-index others c.loop-word-test.false)
    ∙ ap (λ ws. substituted environment (map string_bytes ws)) (sym c.in-Some.ensures.cases.0) in
    subst (AreSubstituted environment words) (sym out) (are_substituted environment words)
