-- The units of which a state holds anything, found by the numbers of a graph that serves for it.
use Rattle.std.proofs.Common.{◌≡◌, ◌⊎◌, ◌↔◌, ◌∙◌, ◌+◌, ◌<◌, ◌≤◌, ◌++◌, ◌∷◌, ℕ, List, [], Contains, length, sym, ap, subst, inl, inr, arith}
use Rattle.std.proofs.lemmas.Bool.{cases_lt}
use Rattle.std.proofs.lemmas.Option.{same_Some}
use Rattle.std.specs.Prelude.{slice_get}
use Rattle.um_model.specs.Machine.{State, IsHeld}
use Rattle.um_graph.specs.Graph.{GraphView, IsNumberOf}
use Rattle.um_graph.specs.Named.{name_at}
use Rattle.um_graph.proofs.NamedLaws.{got_within, name_got}
use Rattle.um_falling.specs.Over.{Serves}
use Rattle.um_falling.proofs.AlongLaws.{number_by}
use Rattle.um_engine.specs.Filled.{AddsHeld}
use Rattle.um_engine.proofs.NumberedLaws.{with_named}

-- a unit with a number below n of which something is held
abbrev pub IsHeldBelow : GraphView → State → ℕ → List ℕ → Type 0
IsHeldBelow g s n x = (i : ℕ) × (i < n) × IsNumberOf g i x × IsHeld s x

-- these are the names of those
abbrev pub AreHeldBelow : GraphView → State → ℕ → List (List ℕ) → Type 0
AreHeldBelow g s n names = (x : List ℕ) → Contains names x ↔ IsHeldBelow g s n x

pub held_none : (g : GraphView) (s : State) → AreHeldBelow g s 0 []
held_none g s x = (λ c. absurd (omega (arith, c.1)), λ h. absurd (omega (arith, h.1)))

module _ (g : GraphView) (s : State) (n : ℕ) (names more : List (List ℕ)) (low : n < length g.names) (each : AreHeldBelow g s n names) where
  abbrev here : List ℕ
  here = name_at g.names n

  number : IsNumberOf g n here
  number = name_got g.names n low

  pub held_more : ((name : List ℕ) → IsNumberOf g n name → AddsHeld s name names more) → AreHeldBelow g s (n + 1) more
  held_more adds x = (
    λ c. elim ((adds here number x).0 c) as (λ _. IsHeldBelow g s (n + 1) x) [
      | inl among ↦ let (i, below, is, held) = (each x).0 among in (i, omega (arith, below), is, held)
      | inr last ↦ (n, omega arith, subst (IsNumberOf g n) (sym last.0) number, subst (IsHeld s) (sym last.0) last.1)
    ],
    λ (i, below, is, held). (adds here number x).1 (by i below is held),
  )
    where
      by : (i : ℕ) → i < n + 1 → IsNumberOf g i x → IsHeld s x → Contains names x ⊎ ((x ≡ here) × IsHeld s here)
      by i below is held = elim (cases_lt i n) as (λ _. Contains names x ⊎ ((x ≡ here) × IsHeld s here)) [
        | inl lower ↦ inl ((each x).1 (i, lower, is, held))
        | inr past ↦
            let at : i ≡ n = omega arith in
            let same : x ≡ here = same_Some x here (sym is ∙ (ap (slice_get g.names) at ∙ number)) in
            inr (same, subst (IsHeld s) same held)
      ]

pub held_all : (g : GraphView) (s : State) (n : ℕ) (names : List (List ℕ)) → Serves g s → AreHeldBelow g s n names → length g.names ≤ n → (x : List ℕ) → Contains names x ↔ IsHeld s x
held_all g s n names serves each past x = (
  λ c. ((each x).0 c).3,
  λ held. let (i, is) = number_by g x (serves.held x held) in (each x).1 (i, (let within = got_within g.names i x is in omega (arith, within, past)), is, held),
)

-- ---- of one unit

-- nothing is held of it, and no name is added
pub adds_none : (s : State) (name : List ℕ) (names : List (List ℕ)) → ¬ IsHeld s name → AddsHeld s name names names
adds_none s name names none x = (λ c. inl c, λ h. elim h as (λ _. Contains names x) [ inl among ↦ among | inr last ↦ absurd (none last.1) ])

-- something is, and its name is added
pub adds_one : (s : State) (name : List ℕ) (names more : List (List ℕ)) → IsHeld s name → more ≡ names ++ name ∷ [] → AddsHeld s name names more
adds_one s name names more held is x =
    let each = with_named (Contains names) names more name is (λ y. (λ c. c, λ c. c)) x in (
      λ c. elim (each.0 c) as (λ _. Contains names x ⊎ ((x ≡ name) × IsHeld s name)) [ inl among ↦ inl among | inr last ↦ inr (last, held) ],
      λ h. each.1 (elim h as (λ _. Contains names x ⊎ (x ≡ name)) [ inl among ↦ inl among | inr last ↦ inr last.0 ]),
    )
