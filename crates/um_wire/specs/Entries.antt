-- The entries of a map beside those of the definitions.
-- No manual page has it: it is how a map of the code is seen.
-- The bytes of maps stand on this file.
use Rattle.std.specs.Prelude.{ℕ, List, map}

-- the texts of the keys and the values, as the definitions have them
abbrev pub seen : {K X Y : Type 0} → (K → List ℕ) → (X → Y) → List (K × X) → List (List ℕ × Y)
seen text value entries = map (λ e. (text e.0, value e.1)) entries
