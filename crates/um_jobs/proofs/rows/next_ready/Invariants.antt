use Rattle.std.proofs.Common.{◌≡◌, ◌<◌, ℕ, None}
use Rattle.um_jobs.specs.RowReady.{ready_kind}
use Rattle.um_jobs.proofs.rows.next_ready.Given as goal

-- of the units so far none has a ready job
abbrev pub invariant-loop-unit : goal.invariant-loop-unit
invariant-loop-unit l = (u : ℕ) → u < l.unit → ready_kind l.graph (record { graph = l.graph; units = l.units; held = l.held }) u ≡ None
