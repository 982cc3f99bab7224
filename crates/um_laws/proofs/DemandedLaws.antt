-- Of finitely many units it is decided which demands a demand requires and demands, and which unit can be started along; a list has just
-- the demanded ones.
use Rattle.std.proofs.Common.{◌≡◌, ◌⊎◌, List, [], ◌∷◌, refl, sym, ap, subst, inl, inr}
use Rattle.um_model.specs.Reached.{first, next}
use Rattle.um_model.specs.Demands.{IsStarting, starts, restarts, LeansOn, requires, binds, is_part, Brings, required, bound, conflicting, conflicted, stopped, restarted}
use Rattle.um_model.specs.Demands.{IsRequired, IsStartable, BringsAlong, needed, wanted, IsDemanded}
use Rattle.um_model.specs.declared.dependencies.Demand.{Demand}
use Rattle.um_model.specs.declared.dependencies.Demand.TheVariants.{Start, Stop, Restart}
use Rattle.um_model.specs.declared.dependencies.DependencyKind.{DependencyKind}
use Rattle.um_model.specs.declared.dependencies.DependencyKind.TheVariants.{Wants, Requires, BindsTo, PartOf, Conflicts}
use Rattle.um_laws.proofs.AmongLaws.{AnyOf, any_decided, both_decided, decided_as, either_decided, not_decided}
use Rattle.um_model.proofs.LeastLaws.{IsDecided, Among}
use Rattle.um_laws.proofs.ReachedLaws.{reached_or_not}

-- a demand is another one or not
pub same_demand : (d e : Demand) → IsDecided (d ≡ e)
same_demand Start Start = inl refl
same_demand Stop Stop = inl refl
same_demand Restart Restart = inl refl
same_demand Start Stop = inr (λ is. cc)
same_demand Start Restart = inr (λ is. cc)
same_demand Stop Start = inr (λ is. cc)
same_demand Stop Restart = inr (λ is. cc)
same_demand Restart Start = inr (λ is. cc)
same_demand Restart Stop = inr (λ is. cc)

-- a demand starts or doesn't
pub starting_or_not : (d : Demand) → IsDecided (IsStarting d)
starting_or_not Start = inl starts
starting_or_not Stop = inr (λ s. elim s [ ])
starting_or_not Restart = inl restarts

module _ {U : Type 0} (Depends : DependencyKind → U → U → Type 0) (IsActive IsLoadable : U → Type 0) (units : List U)
    (within : (kind : DependencyKind) (x y : U) → Depends kind x y → Among units x × Among units y) (same : (x y : U) → IsDecided (x ≡ y))
    (depends : (kind : DependencyKind) (x y : U) → IsDecided (Depends kind x y)) (active : (x : U) → IsDecided (IsActive x)) (loadable : (x : U) → IsDecided (IsLoadable x)) where
  -- the demands on each of these
  abbrev demands_on : List U → List (Demand × U)
  demands_on [] = []
  demands_on (x ∷ xs) = (Start, x) ∷ (Stop, x) ∷ (Restart, x) ∷ demands_on xs

  among_first : (d : Demand) (x : U) (xs : List U) → Among (demands_on (x ∷ xs)) (d, x)
  among_first Start x xs = inl refl
  among_first Stop x xs = inr (inl refl)
  among_first Restart x xs = inr (inr (inl refl))

  among_demands : (d : Demand) (xs : List U) (x : U) → Among xs x → Among (demands_on xs) (d, x)
  among_demands d [] x none = none
  among_demands d (y ∷ xs) x (inl is) = subst (λ z. Among (demands_on (y ∷ xs)) (d, z)) (sym is) (among_first d y xs)
  among_demands d (y ∷ xs) x (inr later) = inr (inr (inr (among_demands d xs x later)))

  same_pair : (p q : Demand × U) → IsDecided (p ≡ q)
  same_pair p q = by_parts (same_demand p.0 q.0) (same p.1 q.1)
    where
      by_parts : IsDecided (p.0 ≡ q.0) → IsDecided (p.1 ≡ q.1) → IsDecided (p ≡ q)
      by_parts (inl is) (inl too) = inl (λ i. (is i, too i))
      by_parts (inr isnt) other = inr (λ e. isnt (ap (λ x. x.0) e))
      by_parts (inl is) (inr isnt) = inr (λ e. isnt (ap (λ x. x.1) e))

  -- ---- the demands that a demand brings

  leans_or_not : (y x : U) → IsDecided (LeansOn Depends y x)
  leans_or_not y x = decided_as there back (either_decided (depends Requires y x) (either_decided (depends BindsTo y x) (depends PartOf y x)))
    where
      there : Depends Requires y x ⊎ (Depends BindsTo y x ⊎ Depends PartOf y x) → LeansOn Depends y x
      there (inl d) = requires d
      there (inr (inl d)) = binds d
      there (inr (inr d)) = is_part d

      back : LeansOn Depends y x → Depends Requires y x ⊎ (Depends BindsTo y x ⊎ Depends PartOf y x)
      back (requires d) = inl d
      back (binds d) = inr (inl d)
      back (is_part d) = inr (inr d)

  -- a start of x brings a start of y
  abbrev BringsStart : U → U → Type 0
  BringsStart x y = Depends Requires x y ⊎ Depends BindsTo x y

  abbrev BringsStop : U → U → Type 0
  BringsStop x y = Depends Conflicts x y ⊎ Depends Conflicts y x

  abbrev BringsBy : Demand → Demand → U → U → Type 0
  BringsBy Start Start x y = BringsStart x y
  BringsBy Start Stop x y = BringsStop x y
  BringsBy Start Restart x y = ⊥
  BringsBy Stop Start x y = ⊥
  BringsBy Stop Stop x y = LeansOn Depends y x
  BringsBy Stop Restart x y = ⊥
  BringsBy Restart Start x y = BringsStart x y
  BringsBy Restart Stop x y = BringsStop x y
  BringsBy Restart Restart x y = LeansOn Depends y x × IsActive y

  by_start : (d : Demand) (x y : U) → IsStarting d → BringsStart x y → BringsBy d Start x y
  by_start d x y starts b = b
  by_start d x y restarts b = b

  by_stop : (d : Demand) (x y : U) → IsStarting d → BringsStop x y → BringsBy d Stop x y
  by_stop d x y starts b = b
  by_stop d x y restarts b = b

  brings_by : (p q : Demand × U) → Brings Depends IsActive p q → BringsBy p.0 q.0 p.1 q.1
  brings_by p q (required {d = d} {x = x} {y = y} s h) = by_start d x y s (inl h)
  brings_by p q (bound {d = d} {x = x} {y = y} s h) = by_start d x y s (inr h)
  brings_by p q (conflicting {d = d} {x = x} {y = y} s h) = by_stop d x y s (inl h)
  brings_by p q (conflicted {d = d} {x = x} {y = y} s h) = by_stop d x y s (inr h)
  brings_by p q (stopped l) = l
  brings_by p q (restarted l a) = (l, a)

  brings_start : (d : Demand) (x y : U) → IsStarting d → BringsStart x y → Brings Depends IsActive (d, x) (Start, y)
  brings_start d x y s (inl h) = required s h
  brings_start d x y s (inr h) = bound s h

  brings_stop : (d : Demand) (x y : U) → IsStarting d → BringsStop x y → Brings Depends IsActive (d, x) (Stop, y)
  brings_stop d x y s (inl h) = conflicting s h
  brings_stop d x y s (inr h) = conflicted s h

  by_brings : (d e : Demand) (x y : U) → BringsBy d e x y → Brings Depends IsActive (d, x) (e, y)
  by_brings Start Start x y b = brings_start Start x y starts b
  by_brings Start Stop x y b = brings_stop Start x y starts b
  by_brings Start Restart x y never = absurd never
  by_brings Stop Start x y never = absurd never
  by_brings Stop Stop x y l = stopped l
  by_brings Stop Restart x y never = absurd never
  by_brings Restart Start x y b = brings_start Restart x y restarts b
  by_brings Restart Stop x y b = brings_stop Restart x y restarts b
  by_brings Restart Restart x y both = restarted both.0 both.1

  by_or_not : (d e : Demand) (x y : U) → IsDecided (BringsBy d e x y)
  by_or_not Start Start x y = either_decided (depends Requires x y) (depends BindsTo x y)
  by_or_not Start Stop x y = either_decided (depends Conflicts x y) (depends Conflicts y x)
  by_or_not Start Restart x y = inr (λ never. never)
  by_or_not Stop Start x y = inr (λ never. never)
  by_or_not Stop Stop x y = leans_or_not y x
  by_or_not Stop Restart x y = inr (λ never. never)
  by_or_not Restart Start x y = either_decided (depends Requires x y) (depends BindsTo x y)
  by_or_not Restart Stop x y = either_decided (depends Conflicts x y) (depends Conflicts y x)
  by_or_not Restart Restart x y = both_decided (leans_or_not y x) (active y)

  brings_or_not : (p q : Demand × U) → IsDecided (Brings Depends IsActive p q)
  brings_or_not p q = decided_as (by_brings p.0 q.0 p.1 q.1) (brings_by p q) (by_or_not p.0 q.0 p.1 q.1)

  leans_within : (y x : U) → LeansOn Depends y x → Among units y
  leans_within y x (requires h) = (within Requires y x h).0
  leans_within y x (binds h) = (within BindsTo y x h).0
  leans_within y x (is_part h) = (within PartOf y x h).0

  brought_within : (p q : Demand × U) → Brings Depends IsActive p q → Among units q.1
  brought_within p q (required {x = x} {y = y} s h) = (within Requires x y h).1
  brought_within p q (bound {x = x} {y = y} s h) = (within BindsTo x y h).1
  brought_within p q (conflicting {x = x} {y = y} s h) = (within Conflicts x y h).1
  brought_within p q (conflicted {x = x} {y = y} s h) = (within Conflicts y x h).0
  brought_within p q (stopped {x = x} {y = y} l) = leans_within y x l
  brought_within p q (restarted {x = x} {y = y} l a) = leans_within y x l

  -- ---- the required set

  abbrev Required : Demand × U → Demand × U → Type 0
  Required = IsRequired Depends IsActive

  required_within : (root p : Demand × U) → Required root p → Among (root.1 ∷ units) p.1
  required_within root p (first e) = inl (ap (λ x. x.1) e)
  required_within root p (next {a = a} r h) = inr (brought_within a p h)

  -- it is required or not
  pub required_or_not : (root p : Demand × U) → IsDecided (IsRequired Depends IsActive root p)
  required_or_not root p =
      reached_or_not (λ q. q ≡ root) (Brings Depends IsActive) (demands_on (root.1 ∷ units))
      (λ q r. among_demands q.0 (root.1 ∷ units) q.1 (required_within root q r)) (λ q. same_pair q root) brings_or_not p

  -- the unit's start would start one that can't be loaded, or stop one that it starts
  abbrev Spoils : U → U → Type 0
  Spoils w y = Required (Start, w) (Start, y) × ((¬ (IsLoadable y)) ⊎ Required (Start, w) (Stop, y))

  spoils_or_not : (w y : U) → IsDecided (Spoils w y)
  spoils_or_not w y =
      both_decided (required_or_not (Start, w) (Start, y)) (either_decided (not_decided (loadable y)) (required_or_not (Start, w) (Stop, y)))

  -- a unit can be started along or not
  pub startable_or_not : (w : U) → IsDecided (IsStartable Depends IsActive IsLoadable w)
  startable_or_not w = by_any (any_decided (Spoils w) (spoils_or_not w) (w ∷ units))
    where
      loads : ¬ (AnyOf (Spoils w) (w ∷ units)) → (y : U) → Required (Start, w) (Start, y) → IsDecided (IsLoadable y) → IsLoadable y
      loads none y r (inl is) = is
      loads none y r (inr isnt) = absurd (none (y, required_within (Start, w) (Start, y) r, (r, inl isnt)))

      spoilt : (y : U) → Spoils w y → ¬ (IsStartable Depends IsActive IsLoadable w)
      spoilt y (r, inl isnt) good = isnt (good.loadable y r)
      spoilt y (r, inr stops) good = good.apart y r stops

      by_any : IsDecided (AnyOf (Spoils w) (w ∷ units)) → IsDecided (IsStartable Depends IsActive IsLoadable w)
      by_any (inl any) = inr (spoilt any.0 any.2)
      by_any (inr none) = inl (record {
        loadable = λ y r. loads none y r (loadable y);
        apart = λ y r stops. none (y, required_within (Start, w) (Start, y) r, (r, inr stops));
      })

  -- ---- the demanded set

  -- a unit that is wanted along is started
  abbrev WantsBy : Demand → Demand → U → U → Type 0
  WantsBy d Start x w = IsStarting d × (Depends Wants x w × IsStartable Depends IsActive IsLoadable w)
  WantsBy d Stop x w = ⊥
  WantsBy d Restart x w = ⊥

  abbrev AlongBy : Demand × U → Demand × U → Type 0
  AlongBy p q = Brings Depends IsActive p q ⊎ WantsBy p.0 q.0 p.1 q.1

  along_by : (p q : Demand × U) → BringsAlong Depends IsActive IsLoadable p q → AlongBy p q
  along_by p q (needed b) = inl b
  along_by p q (wanted s h good) = inr (s, (h, good))

  by_wants : (d e : Demand) (x w : U) → WantsBy d e x w → BringsAlong Depends IsActive IsLoadable (d, x) (e, w)
  by_wants d Start x w h = wanted h.0 h.1.0 h.1.1
  by_wants d Stop x w never = absurd never
  by_wants d Restart x w never = absurd never

  by_along : (p q : Demand × U) → AlongBy p q → BringsAlong Depends IsActive IsLoadable p q
  by_along p q (inl b) = needed b
  by_along p q (inr h) = by_wants p.0 q.0 p.1 q.1 h

  wants_or_not : (d e : Demand) (x w : U) → IsDecided (WantsBy d e x w)
  wants_or_not d Start x w = both_decided (starting_or_not d) (both_decided (depends Wants x w) (startable_or_not w))
  wants_or_not d Stop x w = inr (λ never. never)
  wants_or_not d Restart x w = inr (λ never. never)

  along_or_not : (p q : Demand × U) → IsDecided (BringsAlong Depends IsActive IsLoadable p q)
  along_or_not p q = decided_as (by_along p q) (along_by p q) (either_decided (brings_or_not p q) (wants_or_not p.0 q.0 p.1 q.1))

  along_within : (p q : Demand × U) → BringsAlong Depends IsActive IsLoadable p q → Among units q.1
  along_within p q (needed b) = brought_within p q b
  along_within p q (wanted {x = x} {w = w} s h good) = (within Wants x w h).1

  -- each demand that is demanded is on the root's unit or on one of the units
  pub demanded_within : (root p : Demand × U) → IsDemanded Depends IsActive IsLoadable root p → Among (root.1 ∷ units) p.1
  demanded_within root p (first e) = inl (ap (λ x. x.1) e)
  demanded_within root p (next {a = a} r h) = inr (along_within a p h)

  demanded_cover : (root p : Demand × U) → IsDemanded Depends IsActive IsLoadable root p → Among (demands_on (root.1 ∷ units)) p
  demanded_cover root p r = among_demands p.0 (root.1 ∷ units) p.1 (demanded_within root p r)

  -- it is demanded or not
  pub demanded_or_not : (root p : Demand × U) → IsDecided (IsDemanded Depends IsActive IsLoadable root p)
  demanded_or_not root p =
      reached_or_not (λ q. q ≡ root) (BringsAlong Depends IsActive IsLoadable) (demands_on (root.1 ∷ units)) (demanded_cover root) (λ q. same_pair q root) along_or_not p
