use Rattle.std.proofs.Common.{◌≡◌, ◌+◌, ◌<◌, length, take, set, get_or, sym, ◌∙◌, ap, subst, arith}
use Rattle.std.specs.List.{AllPass}
use Rattle.std.proofs.lemmas.Grind.{get_or_default_zero}
use Rattle.std.proofs.lemmas.List.{length-set}
use Rattle.um_model.specs.Disk.{Past, candidates}
use Rattle.um_sector.specs.Noted.{past_of, is_write_within}
use Rattle.um_sector.specs.declared.noted.Noted.TheVariants.{Write}
use Rattle.um_sector.proofs.Behind.{behind_is, past_more, written_within, only_writes, counts_more, most_more}
use Rattle.um_sector.proofs.memory.MemDisk.counts.Goals.{in-Write, in_default}
use Rattle.um_sector.proofs.memory.MemDisk.counts.Goals as goal

pub loop-call-preserved : goal.loop-call-preserved
loop-call-preserved c =
    let disk = c.args.self.now in
    let before = past_of disk.start.items (take (disk.since + c.loop-call.call-index) disk.noted.items) in
    let list = c.loop-call.list.items in
    let rest = behind_is c.deref.result.now disk.noted.items disk.since c.deref.ensures.value in
    let behind = subst (AllPass (is_write_within (length disk.start.items))) (sym rest) disk.behind in
    elim c.match-call.branch [
      | in-Write w ↦
          let j = w.in-Write.k in
          let v = w.in-Write.value in
          let here = written_within (length disk.start.items) _ c.loop-call.call-index _ behind c.loop-call-test.true j v w.in-Write.is in
          let within : j < length list = omega (arith, here, c.loop-call.invariant.long, disk.same_size.0) in
          let items : c.match-call.list.items ≡ set list j (get_or list j 0 + 1) =
          ap (λ x. x.items) w.list-is ∙ ap (λ n. set list j (n + 1)) (w.index_mut.ensures.value ∙ get_or_default_zero list j _ within) in
          let long : length c.match-call.list.items ≡ length list = ap length items ∙ length-set list j (get_or list j 0 + 1) in
          let next = past_more disk.start.items disk.noted.items _ disk.since c.loop-call.call-index (Write j v) _ rest c.loop-call-test.true w.in-Write.is in
          record {
            long = long ∙ c.loop-call.invariant.long;
            counts = λ k below. ap (λ l. get_or l k 0) items ∙ counts_more before list j v within c.loop-call.invariant.counts k (omega (arith, below, long))
                ∙ sym (ap (λ (p : Past). length (candidates p k)) next);
            most = λ k below. let at_most = most_more list j (c.loop-call.call-index + 1) within c.loop-call.invariant.most k (omega (arith, below, long)) in
                omega (arith, at_most, ap (λ l. get_or l k 0) items);
          }
      | in_default w ↦ absurd (only_writes (length disk.start.items) _ c.loop-call.call-index _ behind c.loop-call-test.true w.in_default.not-Write)
    ]
