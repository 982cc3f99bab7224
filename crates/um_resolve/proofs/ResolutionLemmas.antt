-- Where a name leads by one step and the remaining hops.
use Rattle.std.proofs.Common.{◌≡◌, ℕ, zero, suc, List, arith}
use Rattle.um_model.specs.Tree.{Tree}
use Rattle.um_model.specs.Resolution.{Resolution, Nowhere, held, resolution_at, resolved}

-- a step that needs no hop
pub ended : (hops : ℕ) (tree : Tree) (unit : List ℕ) (end : Resolution) → ((follow : List ℕ → Resolution) → end ≡ resolution_at unit (held tree unit) follow) → end ≡ resolved hops tree unit
ended zero tree unit end told = told (λ other. Nowhere)
ended (suc hops) tree unit end told = told (resolved hops tree)

-- a hop
pub led_on : (hops left : ℕ) (tree : Tree) (unit other : List ℕ) → ((follow : List ℕ → Resolution) → follow other ≡ resolution_at unit (held tree unit) follow) → hops ≡ suc left → resolved left tree other ≡ resolved hops tree unit
led_on zero left tree unit other told e = absurd (omega (arith, e))
led_on (suc hops) left tree unit other told e = let same : left ≡ hops = omega (arith, e) in rw same (told (resolved hops tree))
