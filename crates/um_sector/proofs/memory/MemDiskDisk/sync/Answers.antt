use Rattle.std.proofs.Common.{◌≡◌, ◌-◌, cond, not, List, [], ◌∷◌, ◌++◌, length, drop, take, get_or, sym, ◌∙◌, ap}
use Rattle.std.proofs.Math.Seq.{take-length}
use Rattle.std.proofs.lemmas.List.{with_items_is}
use Rattle.um_model.specs.Disk.{Sector, seen, candidates}
use Rattle.um_sector.specs.declared.noted.Noted.{Noted}
use Rattle.um_sector.specs.declared.noted.Noted.TheVariants.{Sync}
use Rattle.um_sector.specs.Noted.{past_of}
use Rattle.um_sector.proofs.Behind.{seen_synced, at_sync_replayed, none_behind}
use Rattle.um_sector.proofs.memory.MemDiskDisk.sync.Goals as goal

pub invariant_of-self-2-clause-shown : goal.invariant_of-self-2-clause-shown
invariant_of-self-2-clause-shown c k =
    let disk = c.args.self.now in
    let noted : c.push.new.self.items ≡ disk.noted.items ++ Sync ∷ [] =
    c.push.ensures.items ∙ ap (λ b. cond b (disk.noted.items ++ Sync ∷ []) disk.noted.items) (c.is_err.ensures.negation ∙ ap not c.if-is_err.false) in
    disk.shown k ∙ sym (ap (λ (l : List Noted). seen (past_of disk.start.items l) k) noted ∙ seen_synced disk.start.items disk.noted.items k)

pub invariant_of-self-2-clause-at_sync : goal.invariant_of-self-2-clause-at_sync
invariant_of-self-2-clause-at_sync c k =
    let disk = c.args.self.now in
    let start = disk.start.items in
    let notes = disk.noted.items in
    let sectors = disk.synced.items in
    let noted : c.push.new.self.items ≡ notes ++ Sync ∷ [] = c.push.ensures.items ∙ ap (λ b. cond b (notes ++ Sync ∷ []) notes) (c.is_err.ensures.negation ∙ ap not c.if-is_err.false) in
    let all : take c.len-self.result c.push.new.self.items ≡ notes ++ Sync ∷ [] =
    ap (λ n. take n c.push.new.self.items) (c.len-self.ensures ∙ c.push.new.self.ok.0) ∙ take-length c.push.new.self.items ∙ noted in
    let end : c.len-end.result ≡ length notes = c.len-end.ensures ∙ disk.noted.ok.0 in
    let made = with_items_is disk.synced c.replay.new.sectors (c.replay.ensures.long ∙ c.deref_mut.ensures.len) in
    ap (λ (l : List Noted). candidates (past_of start l) k) all
    ∙ at_sync_replayed start sectors c.replay.new.sectors notes disk.since disk.noted_since disk.at_sync
    (λ j. c.replay.ensures.shown j
    ∙ ap (λ (s : List Sector). seen (past_of s (take (c.len-end.result - disk.since) (drop disk.since c.deref.result.now))) j) c.deref_mut.ensures.value
    ∙ ap (λ (l : List Noted). seen (past_of sectors (take (c.len-end.result - disk.since) (drop disk.since l))) j) (c.deref.ensures.value ∙ noted)
    ∙ ap (λ n. seen (past_of sectors (take (n - disk.since) (drop disk.since (notes ++ Sync ∷ [])))) j) end)
    k
    ∙ ap (λ (l : List Sector). get_or l k [] ∷ []) (sym made)

pub invariant_of-self-2-clause-behind : goal.invariant_of-self-2-clause-behind
invariant_of-self-2-clause-behind c = none_behind (length c.args.self.now.start.items) c.push.new.self.items c.len-self.result (c.len-self.ensures ∙ c.push.new.self.ok.0)
