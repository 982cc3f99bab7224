-- One sector more of a body.
use Rattle.std.specs.Prelude.{◌≡◌, ◌+◌, ◌-◌, ◌*◌, ◌<◌, ◌++◌, min, ℕ, suc, List, length, take}
use Rattle.std.proofs.Common.{sym, ◌∙◌, ap, ⊎_elim, arith, append_assoc}
use Rattle.std.proofs.Math.Seq.{take-append-add}
use Rattle.std.proofs.lemmas.Bool.{cases_lt}
use Rattle.std.proofs.lemmas.List.{take-append-le, take_all, append-nil, length-append, length-take}
use Rattle.um_model.specs.Disk.{Sector, Image}
use Rattle.um_model.specs.Store.{sector_count, joined}

-- the first bytes of a sector and of those after it
take_over : (n : ℕ) (sector rest : List ℕ) → length sector ≡ 512 → take n (sector ++ rest) ≡ take n sector ++ take (n - 512) rest
take_over n sector rest long = ⊎_elim
    (λ few. let none : n - 512 ≡ 0 = omega (arith, few) in take-append-le n sector rest (omega (arith, few, long)) ∙ sym (append-nil (take n sector)) ∙ ap (λ (k : ℕ). take n sector ++ take k rest) (sym none))
    (λ more. let count : n ≡ length sector + (n - 512) = omega (arith, more, long) in
    (λ i. take (count i) (sector ++ rest)) ∙ take-append-add sector rest (n - 512) ∙ ap (λ (l : List ℕ). l ++ take (n - 512) rest) (sym (take_all n sector (omega (arith, more, long)))))
    (cases_lt n 512)

-- the number of bytes that were read
pub long_more : (size i : ℕ) (body more sector : List ℕ) → i < sector_count size → length sector ≡ 512 → length body ≡ min (512 * i) size → more ≡ body ++ take (size - 512 * i) sector
    → length more ≡ min (512 * (i + 1)) size
long_more size i body more sector below long so_far grown =
    omega (arith, below, long, so_far, ap length grown, length-append body (take (size - 512 * i) sector), length-take (size - 512 * i) sector)

-- one sector more of a body
pub body_more : (size i : ℕ) (image : Image) (at : ℕ) (body more sector all : List ℕ) → i < sector_count size → length sector ≡ 512 → sector ≡ image (at + i)
    → body ++ take (size - 512 * i) (joined (sector_count size - i) image (at + i)) ≡ all → more ≡ body ++ take (size - 512 * i) sector
    → more ++ take (size - 512 * (i + 1)) (joined (sector_count size - (i + 1)) image (at + (i + 1))) ≡ all
body_more size i image at body more sector all below long is so_far grown =
    let rest = joined (sector_count size - (i + 1)) image (at + (i + 1)) in
    let n = size - 512 * i in
    let e : sector_count size - i ≡ suc (sector_count size - (i + 1)) = omega (arith, below) in
    let a : suc (at + i) ≡ at + (i + 1) = omega arith in
    let m : size - 512 * (i + 1) ≡ n - 512 = omega arith in
    let split : joined (sector_count size - i) image (at + i) ≡ sector ++ rest =
    (λ t. joined (e t) image (at + i)) ∙ (λ t. image (at + i) ++ joined (sector_count size - (i + 1)) image (a t)) ∙ ap (λ (s : Sector). s ++ rest) (sym is) in
    (λ t. grown t ++ take (m t) rest) ∙ append_assoc body (take n sector) (take (n - 512) rest)
    ∙ ap (λ (l : List ℕ). body ++ l) (sym (take_over n sector rest long)) ∙ ap (λ (l : List ℕ). body ++ take n l) (sym split) ∙ so_far
