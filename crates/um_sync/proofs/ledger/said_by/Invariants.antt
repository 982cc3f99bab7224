use Rattle.std.proofs.Common.{◌≡◌, drop, map, take, Some}
use Rattle.std.specs.List.{list_any}
use Rattle.um_sync.specs.Sync.{says, says_nothing}
use Rattle.um_sync.specs.View.{said_of}
use Rattle.um_sync.proofs.ledger.said_by.Given as goal

-- the meanings of the lines so far; one of the rest has none exactly if one of all has none
abbrev pub invariant-loop-line : goal.invariant-loop-line
invariant-loop-line l =
    (map Some (map said_of l.said.items) ≡ map says (map (λ line. line.now) (take l.line-index l.lines)))
    × (list_any says_nothing (map (λ line. line.now) (drop l.line-index l.lines)) ≡ list_any says_nothing (map (λ line. line.now) l.lines))
