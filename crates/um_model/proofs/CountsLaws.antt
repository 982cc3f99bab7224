-- Settings and warnings read values alike: a value counts in full exactly if it gives no warning.
use Rattle.std.proofs.Common.{◌≡◌, ◌∙◌, ℕ, List, [], ◌∷◌, Result, Ok, Err, is_none, refl}
use Rattle.std.specs.Result.{result_err}
use Rattle.um_model.specs.Readings.{all_read}
use Rattle.um_model.specs.Results.{result_map}
use Rattle.um_model.specs.Units.{value_readings, value_warning}
use Rattle.um_model.specs.declared.units.ValueKind.{ValueKind}
use Rattle.um_model.specs.declared.warnings.WarningKind.{WarningKind}
use Rattle.um_model.specs.Units.{are_read, counts}

with_first : {A : Type 0} (a : A) (r : Result (List A) WarningKind) → is_none (result_err r) ≡ is_none (result_err (result_map (λ rest. a ∷ rest) r))
with_first a (Ok rest) = refl
with_first a (Err w) = refl

all_or_err : {A : Type 0} (readings : List (Result A WarningKind)) → are_read readings ≡ is_none (result_err (all_read readings))
all_or_err [] = refl
all_or_err (Ok a ∷ others) = all_or_err others ∙ with_first a (all_read others)
all_or_err (Err w ∷ others) = refl

-- a value counts exactly if it gives no warning
pub a_value_counts_or_warns : (unit : List ℕ) (k : ValueKind) (value : List ℕ) → counts unit k value ≡ is_none (value_warning unit k value)
unfolding value_warning
a_value_counts_or_warns unit k value = all_or_err (value_readings unit k value)
