use Rattle.std.proofs.Common.{◌≡◌, string_bytes}
use Rattle.std.proofs.lemmas.Map.Text.{btree_map_updates_text}
use Rattle.std.proofs.lemmas.Result.{IfOk-at_ok}
use Rattle.um_sync.proofs.ledger.Ledger.note.Goals as goal

-- the key has the path's bytes, so that `insert` set the mark of the path
pub returns-in_ok-insert-in-Some-clause-marks : goal.returns-in_ok-insert-in-Some-clause-marks
returns-in_ok-insert-in-Some-clause-marks c = λ other.
    let key = IfOk-at_ok (λ s. string_bytes s ≡ c.args.path.now) c.in_ok-path-in-Some.was c.from_str.ensures.ok in
    let sets = btree_map_updates_text (string_bytes c.in_ok-path-in-Some.path) c.args.self.now.marks c.insert.new.self _ c.in_ok-insert-in-Some.ensures.updates other in
    rw c.in-Some.is (rw key at sets)

pub returns-in-None-clause-marks : goal.returns-in-None-clause-marks
returns-in-None-clause-marks c = λ other.
    rw c.in-None.is (btree_map_updates_text c.args.path.now c.args.self.now.marks c.remove.new.self _ c.remove.ensures.updates other)
