use Rattle.std.proofs.Common.{◌≡◌, None, Some, option_map, sym, ap, ◌∙◌}
use Rattle.std.specs.Map.{lookup}
use Rattle.std.specs.Option.{option_or}
use Rattle.std.specs.Str.{bytes_eq}
use Rattle.um_sentences.specs.Sentences.{begins_with, refused_fronts, refused_keys}
use Rattle.um_sentences.proofs.keys.key_why.Goals as goal

pub returns-in-Some : goal.returns-in-Some
returns-in-Some c =
    let some : lookup (bytes_eq c.args.key.now) refused_keys ≡ Some c.in-Some.why.now = sym c.why_named.ensures ∙ ap (option_map (λ s. s.now)) c.in-Some.is in
    ap (λ o. option_or o (lookup (begins_with c.args.key.now) refused_fronts)) (sym some)

pub returns-in-None : goal.returns-in-None
returns-in-None c =
    let none : lookup (bytes_eq c.args.key.now) refused_keys ≡ None = sym c.why_named.ensures ∙ ap (option_map (λ s. s.now)) c.in-None.is in
    c.why_begun.ensures ∙ ap (λ o. option_or o (lookup (begins_with c.args.key.now) refused_fronts)) (sym none)
