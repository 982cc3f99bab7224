-- What a demand on a unit brings with it: the required set, and the demanded set with the units that are wanted along.
-- Follows systemd.unit(5), "Requires=", "BindsTo=", "PartOf=", "Conflicts=" and "Wants=".
-- Transactions depend on this file.
use Rattle.std.specs.Prelude.{◌≡◌}
use Rattle.um_model.specs.Reached.{Reached}
use Rattle.um_model.specs.declared.dependencies.Demand.{Demand}
use Rattle.um_model.specs.declared.dependencies.Demand.TheVariants.{Start, Stop, Restart}
use Rattle.um_model.specs.declared.dependencies.DependencyKind.{DependencyKind}
use Rattle.um_model.specs.declared.dependencies.DependencyKind.TheVariants.{Wants, Requires, BindsTo, PartOf, Conflicts}

-- the demand starts or restarts
pub data IsStarting : Demand → Type 0 where
  starts : IsStarting Start
  restarts : IsStarting Restart

-- by these dependencies, y leans on x: it requires x, binds itself to x or is part of x
pub data LeansOn {U : Type 0} (Depends : DependencyKind → U → U → Type 0) (y x : U) : Type 0 where
  requires : Depends Requires y x → LeansOn Depends y x
  binds : Depends BindsTo y x → LeansOn Depends y x
  is_part : Depends PartOf y x → LeansOn Depends y x

-- a demand on a unit brings another
pub data Brings {U : Type 0} (Depends : DependencyKind → U → U → Type 0) (IsActive : U → Type 0) : Demand × U → Demand × U → Type 0 where
  -- x is started or restarted and requires y or binds itself to y: y is started
  required : {d : Demand} {x y : U} → IsStarting d → Depends Requires x y → Brings Depends IsActive (d, x) (Start, y)
  bound : {d : Demand} {x y : U} → IsStarting d → Depends BindsTo x y → Brings Depends IsActive (d, x) (Start, y)
  -- x is started or restarted and in conflict with y either way: y is stopped
  conflicting : {d : Demand} {x y : U} → IsStarting d → Depends Conflicts x y → Brings Depends IsActive (d, x) (Stop, y)
  conflicted : {d : Demand} {x y : U} → IsStarting d → Depends Conflicts y x → Brings Depends IsActive (d, x) (Stop, y)
  -- x is stopped and y leans on x: y is stopped
  stopped : {x y : U} → LeansOn Depends y x → Brings Depends IsActive (Stop, x) (Stop, y)
  -- x is restarted and an active y leans on x: y is restarted
  restarted : {x y : U} → LeansOn Depends y x → IsActive y → Brings Depends IsActive (Restart, x) (Restart, y)

-- the required set: the demand on the unit, and all that its members bring
abbrev pub IsRequired : {U : Type 0} → (DependencyKind → U → U → Type 0) → (U → Type 0) → Demand × U → Demand × U → Type 0
IsRequired Depends IsActive root = Reached (λ p. p ≡ root) (Brings Depends IsActive)

-- a unit can be started along: each unit that its start starts can be loaded, and none is both started and stopped
pub record IsStartable {U : Type 0} (Depends : DependencyKind → U → U → Type 0) (IsActive IsLoadable : U → Type 0) (w : U) : Type 0 where
  pub loadable : (y : U) → IsRequired Depends IsActive (Start, w) (Start, y) → IsLoadable y
  pub apart : (y : U) → IsRequired Depends IsActive (Start, w) (Start, y) → ¬ IsRequired Depends IsActive (Start, w) (Stop, y)

-- a demand brings another, or the start of a unit that is wanted along
pub data BringsAlong {U : Type 0} (Depends : DependencyKind → U → U → Type 0) (IsActive IsLoadable : U → Type 0) : Demand × U → Demand × U → Type 0 where
  needed : {p q : Demand × U} → Brings Depends IsActive p q → BringsAlong Depends IsActive IsLoadable p q
  -- x is started or restarted and wants w, which can be started along: w is started
  wanted : {d : Demand} {x w : U} → IsStarting d → Depends Wants x w → IsStartable Depends IsActive IsLoadable w
      → BringsAlong Depends IsActive IsLoadable (d, x) (Start, w)

-- the demanded set
abbrev pub IsDemanded : {U : Type 0} → (DependencyKind → U → U → Type 0) → (U → Type 0) → (U → Type 0) → Demand × U → Demand × U → Type 0
IsDemanded Depends IsActive IsLoadable root = Reached (λ p. p ≡ root) (BringsAlong Depends IsActive IsLoadable)
