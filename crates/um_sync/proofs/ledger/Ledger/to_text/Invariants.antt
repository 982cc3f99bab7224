use Rattle.std.proofs.Common.{◌≡◌, ◌++◌, flat_map, map, string_bytes}
use Rattle.um_sync.specs.Sync.{mark_line}
use Rattle.um_sync.specs.View.{marked_path}
use Rattle.um_sync.proofs.ledger.Ledger.to_text.Given as goal

-- the lines so far and those of the rest are all
abbrev pub invariant-loop-path : goal.invariant-loop-path
invariant-loop-path l =
    string_bytes l.text ++ flat_map (λ e. mark_line e.0 e.1) (map marked_path l.path-iterator) ≡ flat_map (λ e. mark_line e.0 e.1) (map marked_path l.initial.path-iterator)
