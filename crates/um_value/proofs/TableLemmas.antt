-- An entry of a table passes each test that the whole table passes.
use Rattle.std.proofs.Common.{◌≡◌, ◌<◌, ℕ, Bool, true, false, cond, List, [], ◌∷◌, Option, Some, None, IfSome, refl, sym, ap, ◌∙◌}
use Rattle.std.specs.Prelude.{nat_lt}
use Rattle.std.specs.Map.{lookup}
use Rattle.std.specs.List.{list_all}
use Rattle.std.specs.Str.{bytes_eq}
use Rattle.std.proofs.lemmas.Bool.{and_parts, ltb-true}
use Rattle.std.proofs.lemmas.Option.{same_Some, none-some}
use Rattle.um_model.specs.Values.{signals, time_units}
use Rattle.um_model.specs.FileForms.{unit_size}
use Rattle.um_value.specs.ExitSet.{signal_number}

found_here : {N : Type 0} (p : N → Bool) (b : Bool) (here : N) (rest : Option N) (n : N) → p here ≡ true → ((m : N) → rest ≡ Some m → p m ≡ true)
    → cond b (Some here) rest ≡ Some n → p n ≡ true
found_here p true here rest n passes later e = ap p (sym (same_Some here n e)) ∙ passes
found_here p false here rest n passes later e = later n e

found_passes : {N : Type 0} (p : N → Bool) (table : List (List ℕ × N)) (name : List ℕ) → list_all (λ row. p row.1) table ≡ true
    → (n : N) → lookup (bytes_eq name) table ≡ Some n → p n ≡ true
found_passes p [] name all n e = absurd (none-some n e)
found_passes p (row ∷ rows) name all n e =
    let both = and_parts (p row.1) (list_all (λ r. p r.1) rows) all in
    found_here p (bytes_eq name row.0) row.1 (lookup (bytes_eq name) rows) n both.0 (found_passes p rows name both.1) e

-- no signal has a number past 15
pub small_signal : (o : Option ℕ) (word : List ℕ) → o ≡ signal_number word → IfSome o (λ number. number < 16)
small_signal None word e = tt
small_signal (Some n) word e = ltb-true n 16 (found_passes (λ m. nat_lt m 16) signals word refl n (sym e))

-- each unit of time is longer than nothing
pub positive_unit : (o : Option ℕ) (unit : List ℕ) → o ≡ unit_size unit → IfSome o (λ size. 0 < size)
positive_unit None unit e = tt
positive_unit (Some n) unit e = ltb-true 0 n (found_passes (λ m. nat_lt 0 m) time_units unit refl n (sym e))
