use Rattle.std.proofs.Common.{◌≡◌, map, drop}
use Rattle.std.specs.Map.{lookup}
use Rattle.um_sentences.specs.Sentences.{begins_with}
use Rattle.um_sentences.proofs.keys.why_begun.Given as goal

-- the key begins with none of those so far
abbrev pub invariant-loop-front : goal.invariant-loop-front
invariant-loop-front l = lookup (begins_with l.key) (map (λ k. (k.0.now, k.1.now)) (drop l.front-index l.known)) ≡ lookup (begins_with l.key) (map (λ k. (k.0.now, k.1.now)) l.known)
