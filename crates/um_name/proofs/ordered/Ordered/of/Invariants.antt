use Rattle.std.proofs.Common.{◌≡◌, ℕ, List, take}
use Rattle.std.specs.List.{list_any}
use Rattle.std.specs.Str.{bytes_eq}
use Rattle.um_name.proofs.ordered.Ordered.of.Given as goal

abbrev pub invariant-loop-name : goal.invariant-loop-name
invariant-loop-name l = (x : List ℕ) → list_any (bytes_eq x) l.set.keys ≡ list_any (bytes_eq x) (take l.name-index l.given)
