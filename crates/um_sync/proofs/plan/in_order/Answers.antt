use Rattle.std.proofs.Common.{◌≡◌, rules, is_lt, string_bytes}
use Rattle.std.proofs.lemmas.Cmp.{nat_list_cmp_total}
use Rattle.std.proofs.lemmas.Fn.{always_returns_same}
use Rattle.std.proofs.lemmas.List.Sorted.{ranks_by}
use Rattle.std.specs.Cmp.Lexicographic.{slice_cmp}
use Rattle.std.specs.Ordering.{nat_cmp}
use Rattle.um_sync.specs.declared.plan.Step.{Step}
use Rattle.um_sync.proofs.plan.in_order.Goals as goal

-- the closure compares the bytes of the paths, which are in a total order
pub returns-clause-sorted : goal.returns-clause-sorted
returns-clause-sorted c =
    c.in_ok-sort_by.ensures.sorted (λ x y. is_lt (slice_cmp nat_cmp (string_bytes x.path) (string_bytes y.path))) (ranks_by nat_list_cmp_total (λ (s : Step). string_bytes s.path))
    (always_returns_same _ (λ a r. is_lt r ≡ is_lt (slice_cmp nat_cmp (string_bytes a.0.now.path) (string_bytes a.1.0.now.path))) _ (λ a r q k. search rules))
