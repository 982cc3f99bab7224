use Rattle.std.proofs.Common.{rules, ◌≡◌, sym, ◌∙◌}
use Rattle.std.specs.Prelude.{count_by}
use Rattle.um_sector.specs.Unsynced.{is_sync}
use Rattle.um_sector.specs.Noted.{call_of}
use Rattle.um_sector.proofs.Notes.{sync_count-notes}
use Rattle.um_sector.proofs.memory.MemDisk.syncs.Goals as goal

pub returns : goal.returns
returns c =
    let counted : c.count.result ≡ count_by (λ note. is_sync (call_of note)) c.args.self.now.noted.items = search rules in
    counted ∙ sym (sync_count-notes c.args.self.now.noted.items)
