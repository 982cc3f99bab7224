use Rattle.std.proofs.Common.{◌≡◌, ◌<◌, ◌≤◌, ◌++◌, ◌∷◌, [], length, sym, ◌∙◌, ap, subst, arith}
use Rattle.std.proofs.lemmas.Grind.{common_steps}
use Rattle.um_model.specs.Disk.{candidates}
use Rattle.um_sector.specs.Unsynced.{unsynced}
use Rattle.um_sector.specs.Noted.{past_of}
use Rattle.um_sector.proofs.Notes.{unsynced_yes, unsynced_no}
use Rattle.um_sector.proofs.memory.MemDisk.unsynced.Goals.{then-count-gt1+in_ok-push, else-count-gt1}
use Rattle.um_sector.proofs.memory.MemDisk.unsynced.Goals as goal

pub loop-k-preserved : goal.loop-k-preserved
loop-k-preserved c =
    let past = past_of c.args.self.now.start.items c.args.self.now.noted.items in
    let count : c.index-count.result.now ≡ length (candidates past c.loop-k.k) = grind (arith, common_steps, c.index-count.ensures, c.loop-k-test, c.in_ok-counts.ensures.counts c.loop-k.k) in
    elim c.if-count-gt1.branch [
      | then-count-gt1+in_ok-push w ↦
          ap (λ v. v.items) w.list-is ∙ w.in_ok-push.ensures.items ∙ ap (λ l. l ++ (c.loop-k.k, c.index-count.result.now) ∷ []) c.loop-k.invariant
          ∙ ap (λ n. unsynced past c.loop-k.k ++ (c.loop-k.k, n) ∷ []) count ∙ sym (unsynced_yes past c.loop-k.k (subst (λ n. 1 < n) count w.if-count-gt1.true))
      | else-count-gt1 w ↦
          ap (λ v. v.items) w.list-is ∙ c.loop-k.invariant ∙ sym (unsynced_no past c.loop-k.k (subst (λ n. n ≤ 1) count w.if-count-gt1.false))
    ]
