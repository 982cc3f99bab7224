use Rattle.std.proofs.Common.{◌≡◌, ◌||◌, [], ◌∷◌, subst}
use Rattle.std.specs.BTreeSet as sets
use Rattle.std.specs.Ordering.{nat_cmp}
use Rattle.um_fates.specs.Live.{has}
use Rattle.um_fates.proofs.Indexing.{entered}
use Rattle.um_fates.proofs.marks.enter.Goals as goal

pub returns-in-Ok : goal.returns-in-Ok
returns-in-Ok c = λ done n.
    let old = sets.contains nat_cmp c.args.index.now in
    let new = sets.contains nat_cmp c.insert.new.self in
    subst (λ k. new n ≡ (old n || has n (k ∷ []))) c.get.ensures.value (entered old new c.get.result c.in-Ok.ensures.updates.0 n)
