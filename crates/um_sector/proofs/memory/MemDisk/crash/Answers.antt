use Rattle.std.proofs.Common.{◌∙◌, drop, length, sym, subst}
use Rattle.std.specs.List.{AllPass}
use Rattle.um_sector.specs.Left.{IsLeftBy}
use Rattle.um_sector.specs.Memory.{history}
use Rattle.um_sector.specs.Noted.{past_of, is_write_within}
use Rattle.um_sector.proofs.Leaving.{if_both, left_by}
use Rattle.um_sector.proofs.memory.MemDisk.crash.Goals as goal

pub returns-clause-found : goal.returns-clause-found
returns-clause-found c =
    let disk = c.args.self.now in
    if_both c.holding.result _ _ _ c.holding.ensures.start c.holding.ensures.fresh (λ made start fresh.
    subst (λ notes. IsLeftBy (history disk) (past_of made.start.items notes)) (sym fresh)
    (left_by disk.start.items disk.synced.items made.start.items disk.noted.items disk.since (length disk.held.items) c.args.picks.now
    (disk.same_size.1 ∙ sym disk.same_size.0) disk.at_sync
    (subst (λ n. AllPass (is_write_within n) (drop disk.since disk.noted.items)) (sym disk.same_size.0) disk.behind) (start ∙ c.in_ok-picked.ensures)))
