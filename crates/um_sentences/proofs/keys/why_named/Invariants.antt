use Rattle.std.proofs.Common.{◌≡◌, map, drop}
use Rattle.std.specs.Map.{lookup}
use Rattle.std.specs.Str.{bytes_eq}
use Rattle.um_sentences.proofs.keys.why_named.Given as goal

-- the key is none of those so far
abbrev pub invariant-loop-name : goal.invariant-loop-name
invariant-loop-name l = lookup (bytes_eq l.key) (map (λ k. (k.0.now, k.1.now)) (drop l.name-index l.known)) ≡ lookup (bytes_eq l.key) (map (λ k. (k.0.now, k.1.now)) l.known)
