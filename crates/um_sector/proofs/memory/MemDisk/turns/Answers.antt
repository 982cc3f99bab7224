use Rattle.std.proofs.Common.{◌≡◌, ◌<◌, ◌≤◌, ◌+◌, ◌++◌, ◌∷◌, ℕ, [], length, sym, ◌∙◌, ap, subst, arith, zero-add, get_or, map}
use Rattle.std.specs.List.{range_with_len}
use Rattle.std.proofs.lemmas.Grind.{common_steps}
use Rattle.std.proofs.lemmas.List.FromFn.{map-range_with_len_more}
use Rattle.um_model.specs.Disk.{candidates}
use Rattle.um_sector.specs.Unsynced.{unsynced}
use Rattle.um_sector.specs.Noted.{past_of}
use Rattle.um_sector.proofs.Notes.{unsynced_no, turn_yes}
use Rattle.um_sector.proofs.memory.MemDisk.turns.Goals.{then-index-gt1, else-index-gt1}
use Rattle.um_sector.proofs.memory.MemDisk.turns.Goals as goal

pub loop-k-preserved : goal.loop-k-preserved
loop-k-preserved c =
    let past = past_of c.args.self.now.start.items c.args.self.now.noted.items in
    let k = c.loop-k.k in
    let pick : ℕ → ℕ = λ n. get_or c.args.picks.now (length (unsynced past n)) 0 in
    let count : c.index.result.now ≡ length (candidates past k) = grind (arith, common_steps, c.index.ensures, c.loop-k-test, c.in_ok-counts.ensures.counts k) in
    let picked : c.pick_at.result ≡ pick k = c.pick_at.ensures ∙ ap (λ n. get_or c.args.picks.now n 0) c.loop-k.invariant.turn in
    record {
      list = c.in_ok-push.ensures.items ∙ ap (λ l. l ++ c.pick_at.result ∷ []) c.loop-k.invariant.list
          ∙ ap (λ v. map pick (range_with_len 0 k) ++ v ∷ []) picked ∙ sym (map-range_with_len_more pick 0 k k (zero-add k));
      turn = elim c.if-index-gt1.branch [
        | then-index-gt1 w ↦ w.turn-is ∙ ap (λ n. n + 1) c.loop-k.invariant.turn ∙ sym (turn_yes past k (subst (λ n. 1 < n) count w.if-index-gt1.true))
        | else-index-gt1 w ↦ w.turn-is ∙ c.loop-k.invariant.turn ∙ sym (ap length (unsynced_no past k (subst (λ n. n ≤ 1) count w.if-index-gt1.false)))
      ];
      below = elim c.if-index-gt1.branch [
        | then-index-gt1 w ↦ omega (arith, w.turn-is, c.loop-k.invariant.below)
        | else-index-gt1 w ↦ omega (arith, w.turn-is, c.loop-k.invariant.below)
      ];
    }
