-- The units to which names lead, as the code remembers them.
-- Follows the definition of where a name leads.
-- The search by names stands on this file.
use Rattle.std.specs.Prelude.{◌≡◌, ℕ, List, Some}
use Rattle.std.specs.Str.{bytes_eq}
use Rattle.indexmap.specs.IndexMap.{IndexMap, get}
use Rattle.um_model.specs.Tree.{Tree}
use Rattle.um_model.specs.Units.{unit_named}

-- each name that is remembered leads to the unit that stands beside it
abbrev pub LeadSo : {S : Type 0} → Tree → IndexMap (List ℕ) (List ℕ) S → Type 0
LeadSo tree units = (name unit : List ℕ) → get bytes_eq units name ≡ Some unit → unit ≡ unit_named tree name
