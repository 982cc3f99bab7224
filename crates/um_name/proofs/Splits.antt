-- A text parted at its first `@`.
use Rattle.std.proofs.Common.{◌≡◌, ℕ, List, Option, Some, None, Bor, ap, ◌∙◌, lit<}
use Rattle.std.proofs.lemmas.Str.Pattern.{IsSplitOnceResult, split_parts}
use Rattle.um_model.specs.Names.{before_at, after_at}
use Rattle.um_model.proofs.NamesLaws.{at_absent, at_found}

abbrev IsParted : List ℕ → Option (Bor (List ℕ) × Bor (List ℕ)) → Type 0
IsParted text None = (before_at text ≡ text) × (after_at text ≡ None)
IsParted text (Some (before, after)) = (before_at text ≡ before.now) × (after_at text ≡ Some after.now)

pub split_at : (text : List ℕ) (r : Option (Bor (List ℕ) × Bor (List ℕ))) → IsSplitOnceResult 64 text r → IsParted text r
split_at text None clause = at_absent text (split_parts 64 text None clause (lit< tt))
split_at text (Some (before, after)) clause =
    let parts = split_parts 64 text (Some (before, after)) clause (lit< tt) in
    let found = at_found before.now after.now parts.1 in
    (ap before_at parts.0 ∙ found.0, ap after_at parts.0 ∙ found.1)
