-- Which refusals are of a store, its device or the children, and never of a step.
-- Follows no manual page: the refusals are this project's own protocol (docs/FORMATS.md, "Refusals").
-- The engine's contracts about refusals stand on this file.
use Rattle.std.specs.Prelude.{Bool, true, false}
use Rattle.um_wire.specs.declared.refusal.Refusal.{Refusal}
use Rattle.um_wire.specs.declared.refusal.Refusal.TheVariants.{Device, Reopen, Damaged, NotFormatted, GenerationsSpent, OtherLayout}

-- E16 to E20, and E22
abbrev pub is_of_store : Refusal → Bool
is_of_store Device = true
is_of_store Reopen = true
is_of_store (Damaged sector) = true
is_of_store NotFormatted = true
is_of_store GenerationsSpent = true
is_of_store OtherLayout = true
is_of_store other = false
