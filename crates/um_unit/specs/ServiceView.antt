-- The code's settings for a unit's processes, as those of the definitions.
use Rattle.um_model.specs.Settings as model
use Rattle.um_unit.specs.declared.service_settings.ServiceSettings.{ServiceSettings}
use Rattle.um_value.specs.ExitSet.{holds}
use Rattle.um_words.specs.Commands.{commands_seen}
use Rattle.um_words.specs.Environment.{variables_of}

abbrev pub service_settings_of : ServiceSettings → model.ServiceSettings
service_settings_of s = record {
  kind = s.kind;
  start_pre = commands_seen s.start_pre.items;
  start = commands_seen s.start.items;
  stop = commands_seen s.stop.items;
  environment = variables_of s.environment.items;
  remains = s.remains;
  restart = s.restart;
  restart_delay = s.restart_delay;
  timeout_start = s.timeout_start;
  timeout_stop = s.timeout_stop;
  limit_interval = s.limit_interval;
  limit_burst = s.limit_burst;
  success = holds s.success;
  prevents_restart = holds s.prevents_restart;
  forces_restart = holds s.forces_restart;
}
