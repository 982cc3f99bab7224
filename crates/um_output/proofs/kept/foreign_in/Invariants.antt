use Rattle.std.proofs.Common.{◌≡◌, ◌<◌, ◌⊎◌, All, take}
use Rattle.um_model.specs.Moments.{process_limit}
use Rattle.um_output.specs.Kept.{IsGreatestFrom}
use Rattle.um_output.proofs.kept.foreign_in.Given as goal

-- it is the greatest of the files so far, or there is none
abbrev pub invariant-loop-file : goal.invariant-loop-file
invariant-loop-file l =
    ((l.greatest ≡ 0) × All (λ f. f.number < l.next) (take l.file-index l.files))
    ⊎ ((0 < l.greatest) × (l.greatest < process_limit) × IsGreatestFrom l.next l.greatest (take l.file-index l.files))
