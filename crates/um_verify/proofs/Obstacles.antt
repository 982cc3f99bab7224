-- Reports on files and assignments, carried over to others that are the same.
use Rattle.std.proofs.Common.{◌≡◌, List, ℕ, Option, Some, None, Result, Ok, Err, IfOk, IfSome, string_bytes, subst}
use Rattle.std.specs.declared.alloc.AllocError.{AllocError}
use Rattle.um_model.specs.Resolution.{UnitFile}
use Rattle.um_verify.specs.Findings.{Spot, Told}
use Rattle.um_verify.specs.View.{IsObstacle, told_of}
use Rattle.um_verify.specs.declared.obstacle.Obstacle.{Obstacle}

pub by_parts : (R : List UnitFile → List Spot → Type 0) (files seen : List UnitFile) (spots known : List Spot) → files ≡ seen → spots ≡ known → R files spots → R seen known
by_parts R files seen spots known same alike holds = subst (λ s. R seen s) alike (subst (λ f. R f spots) same holds)

-- a report that satisfies one condition satisfies the other
pub told_so : (A B : Told → List ℕ → Type 0) → ((t : Told) (text : List ℕ) → A t text → B t text) → (r : Result (Option Obstacle) AllocError)
    → IfOk r (λ o. IfSome o (IsObstacle A)) → IfOk r (λ o. IfSome o (IsObstacle B))
told_so A B more (Ok (Some o)) (tells, stops) = (more (told_of o.finding) (string_bytes o.text) tells, stops)
told_so A B more (Ok None) holds = holds
told_so A B more (Err e) holds = holds
