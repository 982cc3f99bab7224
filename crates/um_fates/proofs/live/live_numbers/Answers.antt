use Rattle.std.proofs.Common.{rules, refl}
use Rattle.std.proofs.lemmas.List.Sorted.{answers_always}
use Rattle.um_fates.proofs.Numbered.{live_sorted, same_numbers}
use Rattle.um_fates.proofs.live.live_numbers.Goals as goal

pub returns : goal.returns
returns c =
    live_sorted c.args.units.now.held _ (λ a b. refl) c.in_ok-numbers.numbers.items c.sort_by_key.new.self.items c.dedup.new.self.items (same_numbers _ _ c.in_ok-numbers.ensures)
    c.in_ok-sort_by_key.ensures.permutation (c.in_ok-sort_by_key.ensures.sorted (λ n. n) (answers_always _ _ _ (λ f a r g h. search rules))) c.dedup.ensures.filtered
