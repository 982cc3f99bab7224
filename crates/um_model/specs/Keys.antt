-- The sections and keys of unit files, and what kind of value each key takes.
-- Follows systemd.unit(5), "[Unit] Section Options" and "[Install] Section Options", and systemd.service(5), "Options".
-- Settings and warnings depend on this file.
use Rattle.std.specs.Prelude.{ℕ, Bool, not, ◌&&◌, ◌||◌, if◌then◌else◌, nat_eq, List, [], ◌∷◌, Option, Some, codes}
use Rattle.std.specs.Map.{lookup}
use Rattle.std.specs.List.{list_any, starts_with}
use Rattle.std.specs.Str.{bytes_eq}
use Rattle.um_model.specs.Profiles.{serves_start_pre}
use Rattle.um_model.specs.declared.names.Suffix.{Suffix}
use Rattle.um_model.specs.declared.names.Suffix.TheVariants.{Service}
use Rattle.um_model.specs.declared.profile.Profile.{Profile}
use Rattle.um_model.specs.declared.units.ValueKind.{ValueKind}
use Rattle.um_model.specs.declared.units.ValueKind.TheVariants.{Text, Unused, Units, Aliases, Instance, Truth, Span, Number, Commands}
use Rattle.um_model.specs.declared.units.ValueKind.TheVariants.{Environment, Exits, Policy, ServiceType, Refused}

-- the keys of [Unit], [Install] and [Service], each with the kind of its values
abbrev pub keys_of : List ℕ → List (List ℕ × ValueKind)
keys_of section =
    if bytes_eq section (codes "Unit") then
    (codes "Description", Text) ∷ (codes "Documentation", Unused) ∷ (codes "After", Units) ∷ (codes "Before", Units) ∷ (codes "Wants", Units)
    ∷ (codes "Requires", Units) ∷ (codes "BindsTo", Units) ∷ (codes "PartOf", Units) ∷ (codes "Conflicts", Units)
    ∷ (codes "DefaultDependencies", Truth) ∷ (codes "StartLimitIntervalSec", Span) ∷ (codes "StartLimitBurst", Number) ∷ []
    else (if bytes_eq section (codes "Install") then
    (codes "Alias", Aliases) ∷ (codes "WantedBy", Units) ∷ (codes "RequiredBy", Units) ∷ (codes "Also", Units) ∷ (codes "DefaultInstance", Instance) ∷ []
    else
    (codes "Type", ServiceType) ∷ (codes "ExecStartPre", Commands) ∷ (codes "ExecStart", Commands) ∷ (codes "ExecStop", Commands)
    ∷ (codes "Environment", Environment) ∷ (codes "RemainAfterExit", Truth) ∷ (codes "Restart", Policy) ∷ (codes "RestartSec", Span)
    ∷ (codes "TimeoutStartSec", Span) ∷ (codes "TimeoutStopSec", Span) ∷ (codes "TimeoutSec", Span) ∷ (codes "SuccessExitStatus", Exits)
    ∷ (codes "RestartPreventExitStatus", Exits) ∷ (codes "RestartForceExitStatus", Exits) ∷ (codes "StartLimitInterval", Span)
    ∷ (codes "StartLimitBurst", Number) ∷ [])

-- a key that no unit may have, in any section, as a start that ignored it would do what its author didn't write: one of these, or one that
-- begins with Condition or Assert
abbrev pub is_never_served : List ℕ → Bool
is_never_served key =
    list_any (λ refused. bytes_eq key refused) (
    codes "User" ∷ codes "Group" ∷ codes "DynamicUser" ∷ codes "RootDirectory" ∷ codes "WorkingDirectory" ∷ codes "EnvironmentFile"
    ∷ codes "ExecCondition" ∷ codes "ExecStartPost" ∷ codes "ExecStopPost" ∷ codes "Requisite" ∷ codes "Upholds"
    ∷ codes "OnFailure" ∷ codes "OnSuccess" ∷ [])
    || starts_with nat_eq key (codes "Condition") || starts_with nat_eq key (codes "Assert")

-- the same for a unit that is read by this profile, which may not serve ExecStartPre= either
abbrev pub is_refused_key : Profile → List ℕ → Bool
is_refused_key profile key = bytes_eq key (codes "ExecStartPre") && not (serves_start_pre profile) || is_never_served key

-- a section or a key that isn't ours
abbrev pub is_foreign : List ℕ → Bool
is_foreign text = starts_with nat_eq text (codes "X-")

-- [Unit] and [Install], and in a service [Service]
abbrev pub is_known_section : Option Suffix → List ℕ → Bool
is_known_section (Some Service) section = bytes_eq section (codes "Unit") || bytes_eq section (codes "Install") || bytes_eq section (codes "Service")
is_known_section other section = bytes_eq section (codes "Unit") || bytes_eq section (codes "Install")

-- the kind of a key's values in a known section, if the profile knows the key
unfoldable pub kind_of_key : Profile → List ℕ → List ℕ → Option ValueKind
kind_of_key profile section key = if is_refused_key profile key then Some Refused else lookup (bytes_eq key) (keys_of section)
