use Rattle.std.proofs.Common.{◌≡◌, ◌+◌, ◌-◌, ◌<◌, ℕ, List, [], length, take, set, get_or, map, sym, ◌∙◌, ap, subst, arith, add-zero, zero-add}
use Rattle.std.specs.List.{AllPass, range_with_len}
use Rattle.std.proofs.lemmas.Grind.{get_or_default_zero}
use Rattle.std.proofs.lemmas.List.{length-set, get_or_default}
use Rattle.std.proofs.lemmas.List.FromFn.{length-map-range_with_len, get_or-map-range_with_len}
use Rattle.um_model.specs.Disk.{Sector, Past, candidates}
use Rattle.um_sector.specs.Noted.{past_of, is_write_within}
use Rattle.um_sector.specs.declared.noted.Noted.TheVariants.{Write}
use Rattle.um_sector.proofs.Behind.{behind_is, all_taken, past_more, written_within, only_writes, pick_of, left_at_first, choice_at_first, left_more, list_more, all_picked}
use Rattle.um_sector.proofs.memory.MemDisk.picked.Goals.{in-Write, in_default}
use Rattle.um_sector.proofs.memory.MemDisk.picked.Goals as goal

pub loop-call-init : goal.loop-call-init
loop-call-init c =
    let disk = c.args.self.now in
    let pick = pick_of (past_of disk.start.items disk.noted.items) c.args.picks.now in
    let before = past_of disk.start.items (take (disk.since + 0) disk.noted.items) in
    let one : (k : ℕ) → candidates before k ≡ _ = λ k. ap (λ n. candidates (past_of disk.start.items (take n disk.noted.items)) k) (add-zero disk.since) ∙ disk.at_sync k in
    let list : c.in_ok-list.list.items ≡ disk.synced.items = c.in_ok-list.ensures.items ∙ c.deref.ensures.value in
    let left : c.in_ok-left.left.items ≡ map pick (range_with_len 0 (length disk.held.items)) = c.in_ok-left.ensures in
    let long = ap length left ∙ length-map-range_with_len pick 0 (length disk.held.items) in
    record {
      held = ap length list ∙ disk.same_size.1 ∙ sym disk.same_size.0;
      long = long;
      left = λ k below. ap (λ l. get_or l k 0) left ∙ get_or-map-range_with_len pick 0 (length disk.held.items) k k 0 (omega (arith, below, long)) (zero-add k)
          ∙ left_at_first before k (get_or disk.synced.items k []) (one k) (pick k);
      list = λ k below. ap (λ l. get_or l k []) list ∙ choice_at_first before k (get_or disk.synced.items k []) (one k) (pick k);
    }

pub loop-call-preserved : goal.loop-call-preserved
loop-call-preserved c =
    let disk = c.args.self.now in
    let before = past_of disk.start.items (take (disk.since + c.loop-call.call-index) disk.noted.items) in
    let pick = pick_of (past_of disk.start.items disk.noted.items) c.args.picks.now in
    let left : List ℕ = c.loop-call.left.items in
    let list : List Sector = c.loop-call.list.items in
    let rest = behind_is c.deref-2.result.now disk.noted.items disk.since c.deref-2.ensures.value in
    let behind = subst (AllPass (is_write_within (length disk.start.items))) (sym rest) disk.behind in
    elim c.match-call.branch [
      | in-Write w ↦
          let j = w.in-Write.k in
          let v = w.in-Write.value in
          let here = written_within (length disk.start.items) _ c.loop-call.call-index _ behind c.loop-call-test.true j v w.in-Write.is in
          let in_list : j < length list = omega (arith, here, c.loop-call.invariant.held, disk.same_size.0) in
          let in_left : j < length left = omega (arith, here, c.loop-call.invariant.long, disk.same_size.0) in
          let next = past_more disk.start.items disk.noted.items _ disk.since c.loop-call.call-index (Write j v) _ rest c.loop-call-test.true w.in-Write.is in
          let was_left : w.index_mut.result.now ≡ get_or left j 0 = w.index_mut.ensures.value ∙ get_or_default_zero left j _ in_left in
          let was_listed : w.index_mut-in-Write.result.now ≡ get_or list j [] = w.index_mut-in-Write.ensures.value ∙ get_or_default list j _ [] in_list in
          let new_left : c.match-call.left.items ≡ set left j (get_or left j 0 - 1) =
          ap (λ x. x.items) w.left-is ∙ ap (set left j) (w.take_turn.ensures.left ∙ ap (λ n. n - 1) was_left) in
          let new_list : c.match-call.list.items ≡ set list j w.take_turn.new.sector = ap (λ x. x.items) w.list-is in
          let left_long : length c.match-call.left.items ≡ length left = ap length new_left ∙ length-set left j (get_or left j 0 - 1) in
          let list_long : length c.match-call.list.items ≡ length list = ap length new_list ∙ length-set list j w.take_turn.new.sector in
          record {
            held = list_long ∙ c.loop-call.invariant.held;
            long = left_long ∙ c.loop-call.invariant.long;
            left = λ k below. ap (λ l. get_or l k 0) new_left ∙ left_more before pick left j v in_left c.loop-call.invariant.left k (omega (arith, below, left_long))
                ∙ sym (ap (λ (p : Past). pick k + 1 - length (candidates p k)) next);
            list = λ k below. ap (λ l. get_or l k []) new_list
                ∙ list_more before pick list j w.index_mut.result.now v w.take_turn.new.sector in_list (was_left ∙ c.loop-call.invariant.left j in_left)
                w.take_turn.ensures.last (λ ne. w.take_turn.ensures.other ne ∙ was_listed) c.loop-call.invariant.list k (omega (arith, below, list_long))
                ∙ sym (ap (λ (p : Past). get_or (candidates p k) (pick k) (get_or (candidates p k) 0 [])) next);
          }
      | in_default w ↦ absurd (only_writes (length disk.start.items) _ c.loop-call.call-index _ behind c.loop-call-test.true w.in_default.not-Write)
    ]

pub returns : goal.returns
returns c =
    let disk = c.args.self.now in
    let past = past_of disk.start.items disk.noted.items in
    let rest = behind_is c.deref-2.result.now disk.noted.items disk.since c.deref-2.ensures.value in
    let all = all_taken disk.noted.items _ disk.since c.loop-call.call-index rest disk.noted_since (omega (arith, c.loop-call-test.false, c.loop-call.auto.call-index-end)) in
    all_picked past c.args.picks.now c.loop-call.list.items (length disk.held.items) c.loop-call.invariant.held
    (λ k below. c.loop-call.invariant.list k below
    ∙ ap (λ l. let p = past_of disk.start.items l in get_or (candidates p k) (pick_of past c.args.picks.now k) (get_or (candidates p k) 0 [])) all)
