-- The count of a unit in the row of another is the count of that one in the first one's row.
use Rattle.std.proofs.Common.{◌≡◌, ◌∙◌, ◌↔◌, ◌&&◌, ◌==◌, ℕ, Bool, true, false, List, refl, sym}
use Rattle.std.specs.List.{list_any}
use Rattle.std.proofs.lemmas.Bool.{and_from, and_parts, eqb-true}
use Rattle.um_model.specs.declared.jobs.UnitJobs.{UnitJobs}
use Rattle.um_graph.specs.Graph.{GraphView, IsGraph, Holds, row_of}
use Rattle.um_graph.specs.Kinds.{after_bit, before_bit, has}
use Rattle.um_graph.specs.declared.row.Neighbour.{Neighbour}
use Rattle.um_jobs.specs.Counts.{Counting, ahead, behind, sum_of}
use Rattle.um_jobs.proofs.ReadyLaws.{any_in, in_any}
use Rattle.um_jobs.proofs.SumLaws.{same_number, sum_of_once}

alike : (a b : Bool) → (a ≡ true → b ≡ true) → (b ≡ true → a ≡ true) → a ≡ b
alike true b f g = sym (f refl)
alike false true f g = g refl
alike false false f g = refl

abbrev bit_in : ℕ → ℕ → List Neighbour → Bool
bit_in bit x row = list_any (λ (n : Neighbour). (n.unit == x) && has bit n.kinds) row

held_told : (row : List Neighbour) (bit x : ℕ) → Holds row bit x → bit_in bit x row ≡ true
held_told row bit x h = any_in (λ (n : Neighbour). (n.unit == x) && has bit n.kinds) row h.neighbour h.listed
    (and_from (h.neighbour.unit == x) (has bit h.neighbour.kinds) (same_number h.neighbour.unit x h.is) h.kind)

told_held : (row : List Neighbour) (bit x : ℕ) → bit_in bit x row ≡ true → Holds row bit x
told_held row bit x t =
    let r = in_any (λ (n : Neighbour). (n.unit == x) && has bit n.kinds) row t in
    let p = and_parts (r.0.unit == x) (has bit r.0.kinds) r.2 in
    record { neighbour = r.0; listed = r.1; is = eqb-true r.0.unit x p.0; kind = p.1 }

told_alike : (r s : List Neighbour) (a b x y : ℕ) → Holds r a x ↔ Holds s b y → bit_in a x r ≡ bit_in b y s
told_alike r s a b x y h = alike (bit_in a x r) (bit_in b y s) (λ t. held_told s b y (h.0 (told_held r a x t))) (λ t. held_told r a x (h.1 (told_held s b y t)))

pub mirror : (g : GraphView) → IsGraph g → (counting : Counting) (j : UnitJobs) → counting j false false ≡ 0 → (x u : ℕ)
    → sum_of (ahead counting j) x (row_of g.rows u) ≡ sum_of (behind counting j) u (row_of g.rows x)
mirror g is counting j z x u =
    let here = row_of g.rows u in
    let there = row_of g.rows x in
    let before : bit_in before_bit x here ≡ bit_in after_bit u there = sym (told_alike there here after_bit before_bit u x (is.ordered x u)) in
    let after : bit_in after_bit x here ≡ bit_in before_bit u there = told_alike here there after_bit before_bit x u (is.ordered u x) in
    sum_of_once (counting j) z (λ n. has before_bit n.kinds) (λ n. has after_bit n.kinds) x here (is.once u)
    ∙ ((λ i. counting j (before i) (after i))
    ∙ sym (sum_of_once (counting j) z (λ n. has after_bit n.kinds) (λ n. has before_bit n.kinds) u there (is.once x)))
