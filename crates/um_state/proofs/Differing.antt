-- Whether one of two things differs, when one is compared after the other.
use Rattle.std.proofs.Common.{◌≡◌, ◌∙◌, Bool, true, false, true≢false, not, ◌&&◌, sym}

-- the first one differs
pub differs_first : (found first second : Bool) → found ≡ true → found ≡ not first → found ≡ not (first && second)
differs_first found true second is e = absurd (true≢false (sym is ∙ e))
differs_first found false second is e = e

-- the first one doesn't, so the second decides
pub differs_second : (found other first second : Bool) → found ≡ false → found ≡ not first → other ≡ not second → other ≡ not (first && second)
differs_second found other true second is e told = told
differs_second found other false second is e told = absurd (true≢false (sym e ∙ is))
