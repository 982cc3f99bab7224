-- Whether a text is empty, by its length, and when it spells no span.
use Rattle.std.proofs.Common.{◌≡◌, ◌≢◌, ℕ, true, false, eqb, List, [], ◌∷◌, Option, Some, None, IfNone, codes, length, refl, arith}
use Rattle.std.proofs.lemmas.Bool.{eqb-true, true≢false}
use Rattle.um_model.specs.Text.{is_empty}
use Rattle.um_model.specs.ValueSpellings.{IsSpan}
use Rattle.um_model.specs.declared.settings.TimeSpan.{TimeSpan}

pub some_from : (text : List ℕ) → eqb (length text) 0 ≡ false → is_empty text ≡ false
some_from [] e = absurd (true≢false e)
some_from (b ∷ bs) e = refl

pub none_from : (text : List ℕ) → eqb (length text) 0 ≡ true → text ≡ []
none_from [] e = refl
none_from (b ∷ bs) e = absurd (omega (arith, eqb-true (length (b ∷ bs)) 0 e))

-- a text other than `infinity` whose parts add up to nothing spells no span
pub none_said : (text : List ℕ) (found : Option TimeSpan) → text ≢ codes "infinity" → IfNone found ((n : ℕ) → ¬ (IsSpan text (Some n)))
    → IfNone found ((span : Option ℕ) → ¬ (IsSpan text span))
none_said text (Some span) other none = tt
none_said text None other none = none_of
  where
    none_of : (span : Option ℕ) → ¬ (IsSpan text span)
    none_of None = other
    none_of (Some n) = none n
