use Rattle.std.proofs.Common.{◌≡◌, ℕ, List, map, take}
use Rattle.um_sync.specs.Sync.{is_owed, last_mark}
use Rattle.um_sync.specs.View.{mark_at, said_of}
use Rattle.um_sync.proofs.ledger.Ledger.of_lines.Given as goal

-- the record of the lines so far
abbrev pub invariant-loop-line : goal.invariant-loop-line
invariant-loop-line l =
    ((path : List ℕ) → mark_at l.ledger path ≡ last_mark path (map said_of (take l.line-index l.lines)))
    × (l.ledger.owes_reload ≡ is_owed (map said_of (take l.line-index l.lines)))
