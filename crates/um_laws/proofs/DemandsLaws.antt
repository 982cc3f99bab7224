-- Demands in two situations that correspond, unit for unit: the same is demanded in both.
use Rattle.std.proofs.Common.{◌≡◌, ◌↔◌, refl, sym, ap, subst}
use Rattle.um_model.specs.Reached.{Reached, first, next}
use Rattle.um_model.specs.Demands.{LeansOn, requires, binds, is_part, Brings, required, bound, conflicting, conflicted, stopped, restarted}
use Rattle.um_model.specs.Demands.{IsRequired, IsStartable, BringsAlong, needed, wanted, IsDemanded}
use Rattle.um_model.specs.declared.dependencies.Demand.{Demand}
use Rattle.um_model.specs.declared.dependencies.Demand.TheVariants.{Start, Stop, Restart}
use Rattle.um_model.specs.declared.dependencies.DependencyKind.{DependencyKind}
use Rattle.um_model.specs.declared.dependencies.DependencyKind.TheVariants.{Wants, Requires, BindsTo, PartOf, Conflicts}

-- the least set lies in every closed one
pub reached_in : {A : Type 0} {First : A → Type 0} {Next : A → A → Type 0} (P : A → Type 0) → ((a : A) → First a → P a) → ((a b : A) → P a → Next a b → P b)
    → (a : A) → Reached First Next a → P a
reached_in P begins more a (first h) = begins a h
reached_in P begins more b (next {a = a} r h) = more a b (reached_in P begins more a r) h

-- least sets along a map that carries a rule over, there and back
module _ {A B : Type 0} (f : A → B) (Inside : A → Type 0) (P : A → A → Type 0) (Q : B → B → Type 0)
    (forth : (a b : A) → Inside a → P a b → Inside b × Q (f a) (f b)) (back : (a : A) (y : B) → Inside a → Q (f a) y → (b : A) × (f b ≡ y) × P a b)
    (root : A) (in_root : Inside root) where
  reached_forth : (a : A) → Reached (λ p. p ≡ root) P a → Inside a × Reached (λ p. p ≡ f root) Q (f a)
  reached_forth a (first e) = (subst Inside (sym e) in_root, first (ap f e))
  reached_forth b (next {a = a} r h) = let i = reached_forth a r in let g = forth a b i.0 h in (g.0, next i.1 g.1)

  reached_back : (y : B) → Reached (λ p. p ≡ f root) Q y → (a : A) × (f a ≡ y) × Inside a × Reached (λ p. p ≡ root) P a
  reached_back y (first e) = (root, sym e, in_root, first refl)
  reached_back y (next {a = x} r h) =
      let i = reached_back x r in
      let b = back i.0 y i.2 (subst (λ z. Q z y) (sym i.1) h) in
      (b.0, b.1, (forth i.0 b.0 i.2 b.2).0, next i.3 b.2)

-- the units of one situation under names of the other: each name is that of one unit, and the two situations say the same of both
module _ {U V : Type 0} (name : U → V) (Inside : U → Type 0) (Depends : DependencyKind → U → U → Type 0) (Depends' : DependencyKind → V → V → Type 0)
    (IsActive : U → Type 0) (IsActive' : V → Type 0) (IsLoadable : U → Type 0) (IsLoadable' : V → Type 0)
    (one : (i j : U) → Inside i → Inside j → name i ≡ name j → i ≡ j)
    (within : (kind : DependencyKind) (i j : U) → Depends kind i j → Inside i × Inside j)
    (forth : (kind : DependencyKind) (i j : U) → Depends kind i j → Depends' kind (name i) (name j))
    (back : (kind : DependencyKind) (x y : V) → Depends' kind x y → (i : U) × (j : U) × (name i ≡ x) × (name j ≡ y) × Depends kind i j)
    (active : (i : U) → Inside i → IsActive i ↔ IsActive' (name i)) (loadable : (i : U) → Inside i → IsLoadable i ↔ IsLoadable' (name i)) where
  abbrev named : Demand × U → Demand × V
  named p = (p.0, name p.1)

  -- the units on which a unit depends
  depends_on : (kind : DependencyKind) (i : U) (y : V) → Inside i → Depends' kind (name i) y → (j : U) × (name j ≡ y) × Depends kind i j
  depends_on kind i y h d =
      let b = back kind (name i) y d in
      (b.1, b.3, subst (λ u. Depends kind u b.1) (one b.0 i (within kind b.0 b.1 b.4).0 h b.2) b.4)

  -- the units that depend on a unit
  depend_on : (kind : DependencyKind) (j : U) (x : V) → Inside j → Depends' kind x (name j) → (i : U) × (name i ≡ x) × Depends kind i j
  depend_on kind j x h d =
      let b = back kind x (name j) d in
      (b.0, b.2, subst (λ u. Depends kind b.0 u) (one b.1 j (within kind b.0 b.1 b.4).1 h b.3) b.4)

  leans_forth : (j i : U) → LeansOn Depends j i → Inside j × LeansOn Depends' (name j) (name i)
  leans_forth j i (requires d) = ((within Requires j i d).0, requires (forth Requires j i d))
  leans_forth j i (binds d) = ((within BindsTo j i d).0, binds (forth BindsTo j i d))
  leans_forth j i (is_part d) = ((within PartOf j i d).0, is_part (forth PartOf j i d))

  leans_back : (y : V) (i : U) → Inside i → LeansOn Depends' y (name i) → (j : U) × (name j ≡ y) × LeansOn Depends j i
  leans_back y i h (requires d) = let b = depend_on Requires i y h d in (b.0, b.1, requires b.2)
  leans_back y i h (binds d) = let b = depend_on BindsTo i y h d in (b.0, b.1, binds b.2)
  leans_back y i h (is_part d) = let b = depend_on PartOf i y h d in (b.0, b.1, is_part b.2)

  abbrev Forth : Demand × U → Demand × U → Type 0
  Forth p q = Inside q.1 × Brings Depends' IsActive' (named p) (named q)

  brings_forth : (p q : Demand × U) → Inside p.1 → Brings Depends IsActive p q → Forth p q
  brings_forth p q h (required {x = i} {y = j} s d) = ((within Requires i j d).1, required s (forth Requires i j d))
  brings_forth p q h (bound {x = i} {y = j} s d) = ((within BindsTo i j d).1, bound s (forth BindsTo i j d))
  brings_forth p q h (conflicting {x = i} {y = j} s d) = ((within Conflicts i j d).1, conflicting s (forth Conflicts i j d))
  brings_forth p q h (conflicted {x = i} {y = j} s d) = ((within Conflicts j i d).0, conflicted s (forth Conflicts j i d))
  brings_forth p q h (stopped {x = i} {y = j} l) = let g = leans_forth j i l in (g.0, stopped g.1)
  brings_forth p q h (restarted {x = i} {y = j} l a) = let g = leans_forth j i l in (g.0, restarted g.1 ((active j g.0).0 a))

  abbrev Back : Demand → U → Demand × V → Type 0
  Back d i q = (b : Demand × U) × (named b ≡ q) × Brings Depends IsActive (d, i) b

  brings_from : (p q : Demand × V) (i : U) → p.1 ≡ name i → Inside i → Brings Depends' IsActive' p q → Back p.0 i q
  brings_from p q i e h (required {y = y} s d) =
      let b = depends_on Requires i y h (subst (λ z. Depends' Requires z y) e d) in ((Start, b.0), ap (λ v. (Start, v)) b.1, required s b.2)
  brings_from p q i e h (bound {y = y} s d) =
      let b = depends_on BindsTo i y h (subst (λ z. Depends' BindsTo z y) e d) in ((Start, b.0), ap (λ v. (Start, v)) b.1, bound s b.2)
  brings_from p q i e h (conflicting {y = y} s d) =
      let b = depends_on Conflicts i y h (subst (λ z. Depends' Conflicts z y) e d) in ((Stop, b.0), ap (λ v. (Stop, v)) b.1, conflicting s b.2)
  brings_from p q i e h (conflicted {y = y} s d) =
      let b = depend_on Conflicts i y h (subst (λ z. Depends' Conflicts y z) e d) in ((Stop, b.0), ap (λ v. (Stop, v)) b.1, conflicted s b.2)
  brings_from p q i e h (stopped {y = y} l) =
      let b = leans_back y i h (subst (λ z. LeansOn Depends' y z) e l) in ((Stop, b.0), ap (λ v. (Stop, v)) b.1, stopped b.2)
  brings_from p q i e h (restarted {y = y} l a) =
      let b = leans_back y i h (subst (λ z. LeansOn Depends' y z) e l) in
      let j = (leans_forth b.0 i b.2).0 in
      ((Restart, b.0), ap (λ v. (Restart, v)) b.1, restarted b.2 ((active b.0 j).1 (subst IsActive' (sym b.1) a)))

  -- a demand on this name is one on its unit
  at_name : (T : Demand × U → Type 0) (d : Demand) (y : V) → (q : Demand × U) × (named q ≡ (d, y)) × Inside q.1 × T q → (j : U) × (name j ≡ y) × Inside j × T (d, j)
  at_name T d y b = (b.0.1, ap (λ p. p.1) b.1, b.2, subst (λ e. T (e, b.0.1)) (ap (λ p. p.0) b.1) b.3)

  -- and if the name is a unit's
  at_unit : (T : Demand × U → Type 0) (d : Demand) (i : U) → Inside i → (j : U) × (name j ≡ name i) × Inside j × T (d, j) → T (d, i)
  at_unit T d i h b = subst (λ u. T (d, u)) (one b.0 i b.2 h b.1) b.3

  -- ---- the required set
  required_forth : (root : Demand × U) → Inside root.1 → (q : Demand × U) → IsRequired Depends IsActive root q → Inside q.1 × IsRequired Depends' IsActive' (named root) (named q)
  required_forth root h q r =
      reached_forth named (λ p. Inside p.1) (Brings Depends IsActive) (Brings Depends' IsActive') (λ a b i g. brings_forth a b i g)
      (λ a y i g. brings_from (named a) y a.1 refl i g) root h q r

  required_back : (root : Demand × U) → Inside root.1 → (d : Demand) (y : V) → IsRequired Depends' IsActive' (named root) (d, y)
      → (j : U) × (name j ≡ y) × Inside j × IsRequired Depends IsActive root (d, j)
  required_back root h d y r =
      at_name (IsRequired Depends IsActive root) d y
      (reached_back named (λ p. Inside p.1) (Brings Depends IsActive) (Brings Depends' IsActive') (λ a b i g. brings_forth a b i g)
      (λ a z i g. brings_from (named a) z a.1 refl i g) root h (d, y) r)

  required_at : (root : Demand × U) → Inside root.1 → (d : Demand) (j : U) → Inside j → IsRequired Depends' IsActive' (named root) (d, name j) → IsRequired Depends IsActive root (d, j)
  required_at root h d j i r = at_unit (IsRequired Depends IsActive root) d j i (required_back root h d (name j) r)

  -- ---- the units that can be started along
  startable_forth : (w : U) → Inside w → IsStartable Depends IsActive IsLoadable w → IsStartable Depends' IsActive' IsLoadable' (name w)
  startable_forth w h s = record {
    loadable = λ y r. let b = required_back (Start, w) h Start y r in subst IsLoadable' b.1 ((loadable b.0 b.2).0 (s.loadable b.0 b.3));
    apart = λ y r t.
        let b = required_back (Start, w) h Start y r in
        s.apart b.0 b.3 (required_at (Start, w) h Stop b.0 b.2 (subst (λ z. IsRequired Depends' IsActive' (Start, name w) (Stop, z)) (sym b.1) t));
  }

  startable_back : (w : U) → Inside w → IsStartable Depends' IsActive' IsLoadable' (name w) → IsStartable Depends IsActive IsLoadable w
  startable_back w h s = record {
    loadable = λ j r. let g = required_forth (Start, w) h (Start, j) r in (loadable j g.0).1 (s.loadable (name j) g.1);
    apart = λ j r t. s.apart (name j) (required_forth (Start, w) h (Start, j) r).1 (required_forth (Start, w) h (Stop, j) t).1;
  }

  -- ---- the demanded set
  along_forth : (p q : Demand × U) → Inside p.1 → BringsAlong Depends IsActive IsLoadable p q → Inside q.1 × BringsAlong Depends' IsActive' IsLoadable' (named p) (named q)
  along_forth p q h (needed b) = let g = brings_forth p q h b in (g.0, needed g.1)
  along_forth p q h (wanted {x = i} {w = w} s d good) = let j = (within Wants i w d).1 in (j, wanted s (forth Wants i w d) (startable_forth w j good))

  along_from : (p q : Demand × V) (i : U) → p.1 ≡ name i → Inside i → BringsAlong Depends' IsActive' IsLoadable' p q
      → (b : Demand × U) × (named b ≡ q) × BringsAlong Depends IsActive IsLoadable (p.0, i) b
  along_from p q i e h (needed b) = let r = brings_from p q i e h b in (r.0, r.1, needed r.2)
  along_from p q i e h (wanted {w = w} s d good) =
      let b = depends_on Wants i w h (subst (λ z. Depends' Wants z w) e d) in
      let j = (within Wants i b.0 b.2).1 in
      ((Start, b.0), ap (λ v. (Start, v)) b.1, wanted s b.2 (startable_back b.0 j (subst (IsStartable Depends' IsActive' IsLoadable') (sym b.1) good)))

  pub demanded_forth : (root : Demand × U) → Inside root.1 → (q : Demand × U) → IsDemanded Depends IsActive IsLoadable root q
      → Inside q.1 × IsDemanded Depends' IsActive' IsLoadable' (root.0, name root.1) (q.0, name q.1)
  demanded_forth root h q r =
      reached_forth named (λ p. Inside p.1) (BringsAlong Depends IsActive IsLoadable) (BringsAlong Depends' IsActive' IsLoadable') (λ a b i g. along_forth a b i g)
      (λ a y i g. along_from (named a) y a.1 refl i g) root h q r

  pub demanded_back : (root : Demand × U) → Inside root.1 → (d : Demand) (y : V) → IsDemanded Depends' IsActive' IsLoadable' (root.0, name root.1) (d, y)
      → (j : U) × (name j ≡ y) × Inside j × IsDemanded Depends IsActive IsLoadable root (d, j)
  demanded_back root h d y r =
      at_name (IsDemanded Depends IsActive IsLoadable root) d y
      (reached_back named (λ p. Inside p.1) (BringsAlong Depends IsActive IsLoadable) (BringsAlong Depends' IsActive' IsLoadable') (λ a b i g. along_forth a b i g)
      (λ a z i g. along_from (named a) z a.1 refl i g) root h (d, y) r)
