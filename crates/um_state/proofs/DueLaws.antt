-- No deadline is due if and only if the test of each entry says so.
use Rattle.std.proofs.Common.{ℕ, ◌≡◌, ◌∙◌, ◌<◌, true, List, Option, Some, None, unwrap_or, refl, ap, subst}
use Rattle.std.specs.FinMap as map
use Rattle.std.proofs.lemmas.Bool.{ltb-true}
use Rattle.std.proofs.lemmas.Bool.Decides.{Decides-ltb}
use Rattle.std.proofs.lemmas.Option.{none-some, same_Some}
use Rattle.um_model.specs.Service.{ByUnit, dead_unit, state_of_unit}
use Rattle.um_model.specs.declared.service.UnitState.{UnitState}
use Rattle.um_model.proofs.EntriesLaws.{at_each, from_each}
use Rattle.um_state.specs.Due.{NoneDue, is_later, are_later}

later_at : (t : ℕ) (o : Option ℕ) (d : ℕ) → is_later t o ≡ true → o ≡ Some d → t < d
later_at t None d h is = absurd (none-some d is)
later_at t (Some e) d h is = subst (λ n. t < n) (same_Some e d is) (ltb-true t e h)

at_later : (t : ℕ) (o : Option ℕ) → ((d : ℕ) → o ≡ Some d → t < d) → is_later t o ≡ true
at_later t None each = refl
at_later t (Some e) each = (Decides-ltb t e).1 (each e refl)

module _ (t : ℕ) (units : ByUnit UnitState) where
  held : (o : Option UnitState) (unit : List ℕ) → map.get units unit ≡ o → are_later t units ≡ true → is_later t (unwrap_or o dead_unit).deadline ≡ true
  held None unit is all = refl
  held (Some u) unit is all = at_each (λ e. is_later t e.1.deadline) units all unit u is

  pub later_none_due : are_later t units ≡ true → NoneDue t units
  later_none_due all unit deadline is = later_at t (state_of_unit units unit).deadline deadline (held (map.get units unit) unit refl all) is

  pub none_due_later : NoneDue t units → are_later t units ≡ true
  none_due_later none =
      from_each (λ e. is_later t e.1.deadline) units
      (λ unit u is. at_later t u.deadline (λ d e. none unit d (ap (λ (o : Option UnitState). (unwrap_or o dead_unit).deadline) is ∙ e)))
