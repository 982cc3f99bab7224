-- Runs and inputs of two lists, one after the other: the result of both, and the state between them.
use Rattle.std.specs.Prelude.{◌≡◌, ℕ, List, [], ◌∷◌, ◌++◌, Option, Some, None, refl}
use Rattle.std.proofs.Common.{sym, ◌∙◌, ap}
use Rattle.std.proofs.lemmas.Option.{same_Some}
use Rattle.um_model.specs.Bytes.{◌>>=◌, nothing_left}
use Rattle.um_model.specs.InputSpellings.{input_at}
use Rattle.um_model.specs.Machine.{State, Input, Run, rests, goes}
use Rattle.um_model.specs.Stands.{inputs_of}
use Rattle.um_laws.proofs.StandsLaws.{bound}

-- a run over the first list, and from where it ends one over the second
pub record Between (size : ℕ) (s : State) (xs ys : List Input) (u : State) : Type 0 where
  pub state : State
  pub first : Run size s xs state
  pub second : Run size state ys u

-- A run over both lists has such a state.
pub run_split : (size : ℕ) (s u : State) (xs ys : List Input) → Run size s (xs ++ ys) u → Between size s xs ys u
run_split size s u [] ys run = record { state = s; first = rests; second = run }
run_split size s u (x ∷ xs) ys (goes {t = t} reply actions step run) =
    let rest = run_split size t u xs ys run in
    record { state = rest.state; first = goes reply actions step rest.first; second = rest.second }

-- the inputs of each list of records
pub record Parts (a b : List (List ℕ)) (all : List Input) : Type 0 where
  pub front : List Input
  pub behind : List Input
  pub front_are : inputs_of a ≡ Some front
  pub behind_are : inputs_of b ≡ Some behind
  pub all_are : all ≡ front ++ behind

-- Both lists of records spell the inputs of the first, and then those of the second.
pub inputs_split : (a b : List (List ℕ)) (all : List Input) → inputs_of (a ++ b) ≡ Some all → Parts a b all
inputs_split [] b all is = record { front = []; behind = all; front_are = refl; behind_are = is; all_are = refl }
inputs_split (bytes ∷ a) b all is =
    let (input, here, more) = bound (nothing_left (input_at bytes)) (λ i. inputs_of (a ++ b) >>= λ is. Some (i ∷ is)) all is in
    let (others, there, both) = bound (inputs_of (a ++ b)) (λ is. Some (input ∷ is)) all more in
    let rest = inputs_split a b others there in
    record {
      front = input ∷ rest.front;
      behind = rest.behind;
      front_are = (λ k. here k >>= λ i. rest.front_are k >>= λ is. Some (i ∷ is));
      behind_are = rest.behind_are;
      all_are = sym (same_Some (input ∷ others) all both) ∙ ap (λ (l : List Input). input ∷ l) rest.all_are;
    }

-- and back
pub inputs_join : (a b : List (List ℕ)) (xs ys : List Input) → inputs_of a ≡ Some xs → inputs_of b ≡ Some ys → inputs_of (a ++ b) ≡ Some (xs ++ ys)
inputs_join [] b xs ys are later = later ∙ ap (λ (l : List Input). Some (l ++ ys)) (same_Some [] xs are)
inputs_join (bytes ∷ a) b xs ys are later =
    let (input, here, more) = bound (nothing_left (input_at bytes)) (λ i. inputs_of a >>= λ is. Some (i ∷ is)) xs are in
    let (others, there, both) = bound (inputs_of a) (λ is. Some (input ∷ is)) xs more in
    let rest = inputs_join a b others ys there later in
    (λ k. here k >>= λ i. rest k >>= λ is. Some (i ∷ is)) ∙ ap (λ (l : List Input). Some (l ++ ys)) (same_Some (input ∷ others) xs both)
