-- The set of the names that were followed.
-- Follows no manual page: it is how the code finds them.
-- The search for known units stands on this file.
use Rattle.std.specs.Prelude.{◌≡◌, ℕ, List, is_some}
use Rattle.std.specs.HashSet.{HashSet, contains}
use Rattle.std.specs.Str.{bytes_eq}
use Rattle.um_graph.specs.Known.{Loaded, loading_at}

-- the set has just the names that were followed
abbrev pub AreFollowed : {S : Type 0} → Loaded → HashSet (List ℕ) S → Type 0
AreFollowed loaded names = (x : List ℕ) → contains bytes_eq names x ≡ is_some (loading_at loaded x)
