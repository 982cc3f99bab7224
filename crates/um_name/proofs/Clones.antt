-- A map whose entries were all cloned is the same map.
use Rattle.std.proofs.Common.{◌≡◌, ℕ, List, [], ◌∷◌, refl}
use Rattle.std.specs.List.{AllZip}

pub same_entries : {V : Type 0} (old new : List (List ℕ × V)) → AllZip (λ p q. (q.0 ≡ p.0) × (q.1 ≡ p.1)) old new → new ≡ old
same_entries [] [] h = refl
same_entries [] (y ∷ ys) h = absurd h
same_entries (x ∷ xs) [] h = absurd h
same_entries (x ∷ xs) (y ∷ ys) h = rw (h.0.0, h.0.1, same_entries xs ys h.1) refl
