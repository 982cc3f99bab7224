-- Of causes of refusal in their order one refuses or none; and a result is one tree or one refusal.
use Rattle.std.proofs.Common.{◌≡◌, ◌⊎◌, ◌∙◌, ℕ, List, Result, Ok, Err, sym, ap, subst, inl, inr}
use Rattle.um_model.specs.Least.{IsLeast, IsNamedBefore, NamesLeast}
use Rattle.um_model.specs.Refusals.{Refused, FirstCause, at_first, at_second}
use Rattle.um_model.specs.Tree.{Tree}
use Rattle.um_model.proofs.LeastLaws.{one_least}
use Rattle.um_model.proofs.TimersLaws.{same_name, names_one_way}

-- ---- causes in their order

-- one of these refusals is there, or none
abbrev pub OneOrNone : (Refused → Type 0) → Type 0
OneOrNone Causes = ((r : Refused) × Causes r) ⊎ ((r : Refused) → ¬ (Causes r))

-- the second cause counts only if the first doesn't hold
pub first_or_then : (A B : Refused → Type 0) → OneOrNone A → (((r : Refused) → ¬ (A r)) → OneOrNone B) → OneOrNone (FirstCause A B)
first_or_then A B (inl found) other = inl (found.0, at_first found.1)
first_or_then A B (inr none) other = by_other (other none)
  where
    neither_cause : ((r : Refused) → ¬ (B r)) → (r : Refused) → ¬ (FirstCause A B r)
    neither_cause neither r (at_first h) = none r h
    neither_cause neither r (at_second h k) = neither r k

    by_other : OneOrNone B → OneOrNone (FirstCause A B)
    by_other (inl found) = inl (found.0, at_second none found.1)
    by_other (inr neither) = inr (neither_cause neither)

pub first_or_none : (A B : Refused → Type 0) → OneOrNone A → OneOrNone B → OneOrNone (FirstCause A B)
first_or_none A B one other = first_or_then A B one (λ _. other)

-- of causes that have one refusal each the first that holds has one
pub one_first : (A B : Refused → Type 0) → ((r q : Refused) → A r → A q → r ≡ q) → ((r q : Refused) → B r → B q → r ≡ q)
    → (r q : Refused) → FirstCause A B r → FirstCause A B q → r ≡ q
one_first A B one other r q (at_first h) (at_first k) = one r q h k
one_first A B one other r q (at_first h) (at_second none k) = absurd (none r h)
one_first A B one other r q (at_second none h) (at_first k) = absurd (none q k)
one_first A B one other r q (at_second none h) (at_second neither k) = other r q h k

-- ---- the least name that has a property

-- no thing has the property, or one is the least that has it
abbrev pub NoneOrLeast : (List ℕ → Type 0) → Type 0
NoneOrLeast Has = ((name : List ℕ) → ¬ (Has name)) ⊎ ((name : List ℕ) × IsLeast IsNamedBefore Has name)

-- a refusal names the least name that has it, or none has it
pub named_or_none : (Has : List ℕ → Type 0) (Tells : List ℕ → Refused → Type 0) → ((name : List ℕ) → Has name → (r : Refused) × Tells name r) → NoneOrLeast Has
    → OneOrNone (NamesLeast Has Tells)
named_or_none Has Tells tells (inl none) = inr (λ r h. none h.name h.least.has)
named_or_none Has Tells tells (inr found) = let told = tells found.0 found.1.has in inl (told.0, record { name = found.0; least = found.1; told = told.1 })

-- if each name has one refusal, so has the least
pub one_named : (Has : List ℕ → Type 0) (Tells : List ℕ → Refused → Type 0) → ((name : List ℕ) (r q : Refused) → Tells name r → Tells name q → r ≡ q)
    → (r q : Refused) → NamesLeast Has Tells r → NamesLeast Has Tells q → r ≡ q
one_named Has Tells one r q h k =
    let same = one_least IsNamedBefore Has names_one_way same_name k.name h.name k.least h.least in
    one h.name r q h.told (subst (λ name. Tells name q) same k.told)

-- ---- a result is a tree or a refusal

tree_or : Tree → Result Tree Refused → Tree
tree_or d (Ok t) = t
tree_or d (Err r) = d

pub same_ok : (r : Result Tree Refused) (a b : Tree) → r ≡ Ok a → r ≡ Ok b → a ≡ b
unfolding tree_or
same_ok r a b e f = ap (tree_or a) (sym e ∙ f)

refusal_or : Refused → Result Tree Refused → Refused
refusal_or d (Ok t) = d
refusal_or d (Err r) = r

pub same_err : (r : Result Tree Refused) (a b : Refused) → r ≡ Err a → r ≡ Err b → a ≡ b
unfolding refusal_or
same_err r a b e f = ap (refusal_or a) (sym e ∙ f)
