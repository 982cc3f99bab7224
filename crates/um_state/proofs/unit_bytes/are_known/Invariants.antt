use Rattle.std.proofs.Common.{◌≡◌, not}
use Rattle.std.specs.List.{list_all}
use Rattle.um_model.specs.Service.{holds_nothing}
use Rattle.um_state.proofs.unit_bytes.are_known.Given as goal

-- something is known of all exactly if it is of those that are left
abbrev pub invariant-loop-unit : goal.invariant-loop-unit
invariant-loop-unit l = list_all (λ e. not (holds_nothing e.1)) l.unit-iterator ≡ list_all (λ e. not (holds_nothing e.1)) l.initial.unit-iterator
