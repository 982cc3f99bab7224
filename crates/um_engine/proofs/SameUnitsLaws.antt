-- A graph is that of other units beside the tree where the same units are known with them.
use Rattle.std.proofs.Common.{◌⊎◌, ◌↔◌, ℕ, List, inl, inr}
use Rattle.um_model.specs.Profiles.{ReadTree, lasting_tree}
use Rattle.um_model.specs.Dependencies.{IsKnown, CountsFor, KnowsSoMany, KnowsTooMany, Depends, IsDeclared, PullsIn, Orders, Precedes, declared, pulled_in, ending, extra}
use Rattle.um_model.specs.Reached.{first}
use Rattle.um_model.specs.declared.dependencies.DependencyKind.{DependencyKind}
use Rattle.um_model.specs.declared.dependencies.DependencyKind.TheVariants as kinds
use Rattle.um_laws.proofs.KnownLaws.{known_grows, more_known}
use Rattle.um_graph.specs.Graph.{GraphView, IsGraphOf}
use Rattle.um_engine.specs.Known.{IsFull, IsGraphFor}

-- with the ones the same units are known as with the others
pub record KnowsSame (tree : ReadTree) (E F : List ℕ → Type 0) : Type 0 where
  pub into : (x : List ℕ) → E x → IsKnown tree F x
  pub back : (x : List ℕ) → F x → IsKnown tree E x

pub same_back : (tree : ReadTree) (E F : List ℕ → Type 0) → KnowsSame tree E F → KnowsSame tree F E
same_back tree E F h = record { into = h.back; back = h.into }

-- where they are the same
pub same_extra : (tree : ReadTree) (E F : List ℕ → Type 0) → ((x : List ℕ) → E x ↔ F x) → KnowsSame tree E F
same_extra tree E F h = record { into = λ x e. first (extra ((h x).0 e)); back = λ x f. first (extra ((h x).1 f)) }

module _ (tree : ReadTree) (E F : List ℕ → Type 0) (h : KnowsSame tree E F) where
  known_too : (x : List ℕ) → IsKnown tree E x → IsKnown tree F x
  known_too = known_grows tree E F h.into

  depends_too : (kind : DependencyKind) (x y : List ℕ) → Depends tree E kind x y → Depends tree F kind x y
  depends_too kind x y d = record { name = d.name; known = known_too d.name d.known; gives = d.gives; apart = d.apart }

  declared_too : (x y : List ℕ) → IsDeclared tree E x y → IsDeclared tree F x y
  declared_too x y d = record { name = d.name; known = known_too d.name d.known; declares = d.declares }

  pulled_too : (x y : List ℕ) → PullsIn tree E x y → PullsIn tree F x y
  pulled_too x y p = record { target = p.target; depends = either p.depends; accepts = p.accepts; too = p.too }
    where
      either : Depends tree E kinds.Wants x y ⊎ Depends tree E kinds.Requires x y → Depends tree F kinds.Wants x y ⊎ Depends tree F kinds.Requires x y
      either (inl d) = inl (depends_too kinds.Wants x y d)
      either (inr d) = inr (depends_too kinds.Requires x y d)

  too_many_too : KnowsTooMany tree E → KnowsTooMany tree F
  too_many_too = more_known tree E F h.into

module _ (tree : ReadTree) (E F : List ℕ → Type 0) (h : KnowsSame tree E F) where
  orders_too : (x y : List ℕ) → Orders tree E x y → Orders tree F x y
  orders_too x y (declared d) = declared (declared_too tree E F h x y d)
  orders_too y x (pulled_in p isnt) = pulled_in (pulled_too tree E F h x y p) (λ d. isnt (declared_too tree F E (same_back tree E F h) x y d))
  orders_too _ _ (ending k l d) = ending (known_too tree E F h _ k) l d

  precedes_too : (x y : List ℕ) → Precedes tree E x y → Precedes tree F x y
  precedes_too x y p = record { orders = orders_too x y p.orders; apart = p.apart }

  so_many_too : (count : ℕ) → KnowsSoMany tree E count → KnowsSoMany tree F count
  so_many_too count k = record {
    names = k.names;
    whole = λ x. (λ c. known_too tree E F h x ((k.whole x).0 c), λ n. (k.whole x).1 (known_too tree F E (same_back tree E F h) x n));
    apart = k.apart;
    long = k.long;
  }

module _ (tree : ReadTree) (E F : List ℕ → Type 0) (h : KnowsSame tree E F) where
  pub graph_too : (g : GraphView) → IsGraphOf tree E g → IsGraphOf tree F g
  graph_too g of =
      let b = same_back tree E F h in
      record {
        known = λ x. (λ c. known_too tree E F h x ((of.known x).0 c), λ k. (of.known x).1 (known_too tree F E b x k));
        sorted = of.sorted;
        loaded = of.loaded;
        depends = λ kind i j x y m n. let o = of.depends kind i j x y m n in (λ s. depends_too tree E F h kind x y (o.0 s), λ d. o.1 (depends_too tree F E b kind x y d));
        needed = λ kind i j x y m n. let o = of.needed kind i j x y m n in (λ s. depends_too tree E F h kind y x (o.0 s), λ d. o.1 (depends_too tree F E b kind y x d));
        before = λ i j x y m n. let o = of.before i j x y m n in (λ s. precedes_too tree E F h x y (o.0 s), λ d. o.1 (precedes_too tree F E b x y d));
        after = λ i j x y m n. let o = of.after i j x y m n in (λ s. precedes_too tree E F h y x (o.0 s), λ d. o.1 (precedes_too tree F E b y x d));
        within = of.within;
        rowed = of.rowed;
      }

module _ (tree : ReadTree) (E F : List ℕ → Type 0) (h : KnowsSame tree E F) (lasting : KnowsSame (lasting_tree tree) E F) where
  pub count_same : (count : ℕ) → CountsFor tree E count → CountsFor tree F count
  count_same count c = record {
    held = c.held;
    lasting = c.lasting;
    by_tree = so_many_too tree E F h c.held c.by_tree;
    by_rest = so_many_too (lasting_tree tree) E F lasting c.lasting c.by_rest;
    greater = c.greater;
  }

  pub full_same : IsFull tree E → IsFull tree F
  full_same (inl many) = inl (too_many_too tree E F h many)
  full_same (inr many) = inr (too_many_too (lasting_tree tree) E F lasting many)

module _ (tree : ReadTree) (E F : List ℕ → Type 0) (h : KnowsSame tree E F) (lasting : KnowsSame (lasting_tree tree) E F) where
  pub graph_same : (g : GraphView) → IsGraphFor tree E g → IsGraphFor tree F g
  graph_same g made = record {
    graph = made.graph;
    of = graph_too tree E F h g made.of;
    count = count_same tree E F h lasting g.count made.count;
    few = λ full. made.few (full_same tree F E (same_back tree E F h) (same_back (lasting_tree tree) E F lasting) full);
  }

-- the units are the same with and without those under `run/`
module _ (tree : ReadTree) (E F : List ℕ → Type 0) (is : (x : List ℕ) → E x ↔ F x) where
  pub graph_by : (g : GraphView) → IsGraphFor tree E g → IsGraphFor tree F g
  graph_by = graph_same tree E F (same_extra tree E F is) (same_extra (lasting_tree tree) E F is)

  pub count_by : (count : ℕ) → CountsFor tree E count → CountsFor tree F count
  count_by = count_same tree E F (same_extra tree E F is) (same_extra (lasting_tree tree) E F is)

  pub full_by : IsFull tree E → IsFull tree F
  full_by = full_same tree E F (same_extra tree E F is) (same_extra (lasting_tree tree) E F is)
