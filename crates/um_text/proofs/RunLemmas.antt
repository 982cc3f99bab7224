-- Runs of a class, about lists alone.
use Rattle.std.proofs.Common.{◌≡◌, ◌<◌, ℕ, ◌-◌, true, List, get_or, subst, inl, inr, arith}
use Rattle.std.proofs.lemmas.Bool.{cases_lt}
use Rattle.std.proofs.lemmas.Bool.Decides.{nat_tests}
use Rattle.std.specs.List.{prefix_len}
use Rattle.std.specs.Str.{IsUtf8, IsCharBoundary}
use Rattle.std.proofs.lemmas.List.Sums.{prefix_len-le-length, prefix_len_passes}
use Rattle.std.proofs.lemmas.Str.{IsCharBoundary-start, IsCharBoundary-after_ascii}
use Rattle.um_text.specs.declared.classes.Class.{Class}
use Rattle.um_text.specs.declared.classes.Class.TheVariants.{Space, Digit, SmallLetter, Letter}
use Rattle.um_text.specs.Class.{is_of}

-- each class has only ASCII characters
ascii : (class : Class) (b : ℕ) → is_of class b ≡ true → b < 128
ascii Space b e = grind (arith, nat_tests)
ascii Digit b e = grind (arith, nat_tests)
ascii SmallLetter b e = grind (arith, nat_tests)
ascii Letter b e = grind (arith, nat_tests)

-- so a text may be cut after a run
pub boundary_behind_run : (class : Class) (text : List ℕ) → IsUtf8 text → IsCharBoundary text (prefix_len (is_of class) text)
boundary_behind_run class text utf8 =
    let run = prefix_len (is_of class) text in
    elim (cases_lt 0 run) [
      | inl some ↦ subst (IsCharBoundary text) (omega arith)
          (IsCharBoundary-after_ascii text (run - 1) utf8 (omega (arith, prefix_len-le-length (is_of class) text))
          (ascii class (get_or text (run - 1) 0) (prefix_len_passes (is_of class) text (run - 1) 0 (omega arith))))
      | inr none ↦ subst (IsCharBoundary text) (omega arith) (IsCharBoundary-start text utf8)
    ]
