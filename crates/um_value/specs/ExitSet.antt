-- The ends that an exit set holds.
use Rattle.std.specs.Prelude.{ℕ, Bool, true, false, List, Option, slice_index_or, nat_lt}
use Rattle.std.specs.Map.{lookup}
use Rattle.std.specs.Str.{bytes_eq}
use Rattle.um_model.specs.Values.{signals}
use Rattle.um_model.specs.declared.service.End.{End}
use Rattle.um_model.specs.declared.service.End.TheVariants.{Code, Signal, Lost}
use Rattle.um_value.specs.declared.exits.ExitSet.{ExitSet}

-- the set holds this end
abbrev pub holds : ExitSet → End → Bool
holds set (Code code) = slice_index_or set.codes code false
holds set (Signal number) = slice_index_or set.signals number false
holds set Lost = false

-- a set has room for this end
abbrev pub fits : End → Bool
fits (Code code) = true
fits (Signal number) = nat_lt number 16
fits Lost = false

-- the number of the signal of that name
abbrev pub signal_number : List ℕ → Option ℕ
signal_number word = lookup (bytes_eq word) signals
