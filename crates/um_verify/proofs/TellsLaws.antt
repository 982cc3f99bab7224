-- One more reason is reported after others.
use Rattle.std.proofs.Common.{ℕ, List, [], ◌∷◌, ◌++◌, refl, subst, sym}
use Rattle.um_model.specs.Tree.{Tree}
use Rattle.um_verify.specs.Findings.{TakesOut, Tells, Told}

pub tells_more : (before mid after : Tree) (unit : List ℕ) (told : List Told) (one : Told) → Tells before unit told mid → TakesOut mid after unit one
    → Tells before unit (told ++ one ∷ []) after
tells_more before mid after unit [] one same takes = (after, subst (λ t. TakesOut t after unit one) (sym same) takes, refl)
tells_more before mid after unit (t ∷ ts) one (next, first, others) takes = (next, first, tells_more next mid after unit ts one others takes)
