-- Units of the code as the units of the definitions.
use Rattle.std.specs.Prelude.{ℕ, List, None, option_map, map, string_bytes}
use Rattle.std.specs.List.{flat_map}
use Rattle.um_model.specs.Resolution.{Resolution, AtFile, AtNoFile, AtMask, Nowhere}
use Rattle.um_model.specs.FileForms.{without_install}
use Rattle.um_model.specs.Profiles.{ReadTree, read_by}
use Rattle.um_model.specs.Units as model
use Rattle.um_model.specs.declared.profile.Profile.{Profile}
use Rattle.um_unit.specs.ServiceView.{service_settings_of}
use Rattle.um_unit.specs.declared.reading.Reading.{Reading}
use Rattle.um_unit.specs.declared.warnings.FileWarnings.{FileWarnings}
use Rattle.um_unit.specs.declared.warnings.Warning.{Warning}
use Rattle.um_unit.specs.declared.settings.Dependencies.{Dependencies}
use Rattle.um_unit.specs.declared.settings.InstallSettings.{InstallSettings}
use Rattle.um_unit.specs.declared.settings.Settings.{Settings}
use Rattle.um_unit.specs.declared.singles.TypeSaid.{TypeSaid}
use Rattle.um_unit.specs.declared.singles.TypeSaid.TheVariants as said
use Rattle.um_unit.specs.declared.loaded.LoadedUnit.{LoadedUnit}
use Rattle.um_unit.specs.declared.loaded.Loading.{Loading}
use Rattle.um_unit.specs.declared.loaded.Loading.TheVariants as loading

-- the tree that is read so
abbrev pub tree_read : Reading → ReadTree
tree_read r = read_by r.profile r.tree.now

-- a warning of the file at the path
abbrev pub warning_of : List ℕ → Warning → model.Warning
warning_of path w = record { kind = w.kind; path = path; line = w.line }

-- the warnings of a file
abbrev pub warned_by : FileWarnings → List model.Warning
warned_by f = map (warning_of (string_bytes f.path)) f.warnings.items

-- the warnings of several files
abbrev pub warnings_seen : List FileWarnings → List model.Warning
warnings_seen files = flat_map warned_by files

abbrev pub said_of : TypeSaid → model.TypeSaid
said_of said.Unsaid = model.Unsaid
said_of (said.Served kind) = model.Served kind
said_of said.Unserved = model.Unserved

abbrev pub dependencies_of : Dependencies → model.Dependencies
dependencies_of d = record {
  after = map string_bytes d.after.items;
  before = map string_bytes d.before.items;
  wants = map string_bytes d.wants.items;
  required = map string_bytes d.required.items;
  binds_to = map string_bytes d.binds_to.items;
  part_of = map string_bytes d.part_of.items;
  conflicts = map string_bytes d.conflicts.items;
  default_dependencies = d.default_dependencies;
}

abbrev pub install_of : InstallSettings → model.InstallSettings
install_of i = record {
  alias = map string_bytes i.alias.items;
  wanted_by = map string_bytes i.wanted_by.items;
  required_by = map string_bytes i.required_by.items;
  also = map string_bytes i.also.items;
  default_instance = option_map string_bytes i.default_instance;
}

abbrev pub settings_of : Settings → model.Settings
settings_of s = record {
  description = string_bytes s.description;
  dependencies = dependencies_of s.dependencies;
  service = service_settings_of s.service.value;
  install = install_of s.install;
}

abbrev pub unit_of : LoadedUnit → model.LoadedUnit
unit_of u = record { name = u.name; path = option_map string_bytes u.path; settings = settings_of u.settings; warnings = warnings_seen u.warnings.value.items }

abbrev pub loading_of : Loading → model.Loading
loading_of (loading.Found u) = model.Found (unit_of u)
loading_of (loading.Masked unit) = model.Masked unit
loading_of loading.NotFound = model.NotFound
loading_of (loading.BadSetting unit reason) = model.BadSetting unit (string_bytes reason)

-- the outcome for a name that leads there, with these files
abbrev pub loading_with : Profile → Resolution → List model.Source → model.Loading
loading_with profile (AtFile unit path text) sources = model.loading_by_file profile unit path sources
loading_with profile (AtNoFile unit) sources = model.Found (without_install (model.unit_by profile unit None sources))
loading_with profile (AtMask unit) sources = model.Masked unit
loading_with profile Nowhere sources = model.NotFound
