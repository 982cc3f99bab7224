use Rattle.std.proofs.Common.{rules, ◌≡◌, ◌∷◌, [], ◌++◌, Some, None, drop, map, arith, ◌∙◌}
use Rattle.std.proofs.lemmas.List.{map_push, drop-drop}
use Rattle.um_model.specs.Bytes.{many_at, number_at}
use Rattle.um_model.proofs.BytesLaws.{at_some, at_none}
use Rattle.um_wire.proofs.Items.{goes_on, ends, is_done, list_here}
use Rattle.um_wire.proofs.lists.VecCanon.get.Goals as goal

pub returns-in-None-clause-read : goal.returns-in-None-clause-read
returns-in-None-clause-read g c =
    let one = g.T.Canon.reading in
    let bytes = c.args.bytes.now in
    let counted : number_at 4 bytes ≡ Some (c.in-Some.count, drop c.in-Some.n bytes) = at_some (λ n. n) bytes _ _ _ _ c.in_ok-count.ensures.read c.in-Some.is in
    let none : one (drop c.loop.at bytes) ≡ None = rw (← c.split_at.ensures.back) (at_none g.T.Canon.value _ _ _ c.in_ok-item.ensures.read c.in-None.is) in
    list_here one bytes c.in-Some.count c.in-Some.n counted
    ∙ ends one (map g.T.Canon.value c.loop.items.items) c.in-Some.count c.loop.counter (drop c.loop.at bytes) (many_at one c.in-Some.count (drop c.in-Some.n bytes)) c.loop-test.true none c.loop.invariant.so_far

pub loop-preserved : goal.loop-preserved
loop-preserved g c =
    let one = g.T.Canon.reading in
    let bytes = c.args.bytes.now in
    let value = g.T.Canon.value in
    let read : one (drop c.loop.at bytes) ≡ Some (value c.in-Some-2.item, drop c.in-Some-2.n (drop c.loop.at bytes)) =
    rw (← c.split_at.ensures.back) (at_some value _ _ _ _ _ c.in_ok-item.ensures.read c.in-Some-2.is) in
    let e : map value c.push.new.self.items ≡ map value c.loop.items.items ++ value c.in-Some-2.item ∷ [] =
    rw c.in_ok-push-in-Some-2.ensures.items (map_push value c.loop.items.items c.in-Some-2.item) in
    record {
      within = search (rules, arith);
      so_far = rw (e, ← drop-drop c.in-Some-2.n c.loop.at bytes)
          (goes_on one (map value c.loop.items.items) c.in-Some.count c.loop.counter (drop c.loop.at bytes) (value c.in-Some-2.item) (drop c.in-Some-2.n (drop c.loop.at bytes)) (many_at one c.in-Some.count (drop c.in-Some.n bytes)) c.loop-test.true read c.loop.invariant.so_far);
    }

pub returns-clause-read : goal.returns-clause-read
returns-clause-read g c =
    let one = g.T.Canon.reading in
    let bytes = c.args.bytes.now in
    let counted : number_at 4 bytes ≡ Some (c.in-Some.count, drop c.in-Some.n bytes) = at_some (λ n. n) bytes _ _ _ _ c.in_ok-count.ensures.read c.in-Some.is in
    list_here one bytes c.in-Some.count c.in-Some.n counted
    ∙ is_done one (map g.T.Canon.value c.loop.items.items) c.in-Some.count c.loop.counter (drop c.loop.at bytes) (many_at one c.in-Some.count (drop c.in-Some.n bytes)) c.loop-test.false c.loop.invariant.so_far
