-- Parts of a service's settings that are read together.
use Rattle.std.specs.Prelude.{◌≡◌}
use Rattle.um_model.specs.Settings as model
use Rattle.um_unit.specs.declared.settings.Exits.{Exits}
use Rattle.um_unit.specs.declared.settings.Times.{Times}
use Rattle.um_value.specs.ExitSet.{holds}

-- the times of these settings
pub record AreTimes (t : Times) (s : model.ServiceSettings) : Type 0 where
  pub delay : t.restart_delay ≡ s.restart_delay
  pub start : t.timeout_start ≡ s.timeout_start
  pub stop : t.timeout_stop ≡ s.timeout_stop
  pub interval : t.limit_interval ≡ s.limit_interval

-- the sets of ends of these settings
pub record AreExits (e : Exits) (s : model.ServiceSettings) : Type 0 where
  pub success : holds e.success ≡ s.success
  pub prevents : holds e.prevents_restart ≡ s.prevents_restart
  pub forces : holds e.forces_restart ≡ s.forces_restart
