-- The `Known` of a state, from the results of its tests.
use Rattle.std.proofs.Common.{◌≡◌, ◌⊎◌, ◌↔◌, ◌∙◌, ◌<◌, ◌≤◌, ℕ, List, [], Contains, Option, Some, None, Result, Ok, Err, is_some, Bool, true, true≢false, refl, sym, ap, subst, inl, inr, arith}
use Rattle.std.specs.Prelude.{IfErr, IfOk, MatchOption, slice_get, unwrap_or}
use Rattle.std.specs.Result.{IsErrAnd}
use Rattle.std.proofs.lemmas.List.{get_or_default}
use Rattle.std.proofs.lemmas.Option.{get_or_from_slice_get, none-some}
use Rattle.um_graph.proofs.NamedLaws.{got_within}
use Rattle.um_model.specs.declared.profile.Profile.{Profile}
use Rattle.um_model.specs.Profiles.{ReadTree, read_by, lasting_tree}
use Rattle.um_model.specs.Dependencies.{CountsFor, IsKnown, KnowsTooMany, extra}
use Rattle.um_model.specs.Servable.{IsFew}
use Rattle.um_model.specs.Machine.{State, IsHeld, IsHeldOr, IsTooHeavy, Settles, booted, PutFile, PutLink, Remove, Changes, puts, links, removes}
use Rattle.um_model.specs.Reached.{first}
use Rattle.um_model.specs.Tree.{Tree}
use Rattle.um_model.specs.Weight.{weight_of}
use Rattle.um_laws.proofs.FewLaws.{booted_none}
use Rattle.um_model.specs.Live.{HoldsNoMore}
use Rattle.um_laws.proofs.KeepsLaws.{settles_keeps}
use Rattle.um_laws.proofs.KnownLaws.{more_known}
use Rattle.um_laws.proofs.SceneLaws.{one_count}
use Rattle.um_model.proofs.TreeLaws.{without_run_twice}
use Rattle.um_name.specs.Names.{IsApart}
use Rattle.um_model.specs.declared.refusals.Limit.TheVariants as limits
use Rattle.um_wire.specs.declared.refusal.Refusal.{Refusal}
use Rattle.um_wire.specs.declared.refusal.Refusal.TheVariants as refusals
use Rattle.um_graph.specs.Graph.{GraphView, IsGraphOf}
use Rattle.um_state.specs.View.{state_of}
use Rattle.um_falling.specs.Over.{Serves}
use Rattle.um_falling.specs.Work.{Goes, Keeps, WorkView}
use Rattle.um_engine.specs.Known.{AreLasting, IsHeldWith, IsGraphFor, KnownView, KnowsFor}
use Rattle.um_engine.specs.Served.{ServedView, WorksOn}
use Rattle.um_engine.proofs.SameUnitsLaws.{KnowsSame, count_by, graph_same, graph_too}

module _ (s : State) (k : KnownView) (named : Option (List ℕ)) (knows : KnowsFor k s) (made : (x : List ℕ) → Contains k.extra x → IsHeldWith s named x)
    (known : (x : List ℕ) → named ≡ Some x → Contains k.graph.names x) where
  held_known : (o : Option (List ℕ)) → named ≡ o → (x : List ℕ) → IsHeldWith s o x → IsKnown s.loaded (Contains k.extra) x
  held_known None e x held = (knows.made.of.known x).0 (knows.held x held)
  held_known (Some n) e x (inl held) = (knows.made.of.known x).0 (knows.held x held)
  held_known (Some n) e x (inr is) = (knows.made.of.known x).0 (known x (e ∙ ap Some (sym is)))

  same_here : KnowsSame s.loaded (Contains k.extra) (IsHeldWith s named)
  same_here = record { into = λ x e. first (extra (made x e)); back = λ x h. held_known named refl x h }

  module _ (lasts : (x : List ℕ) → Contains k.graph.names x → IsHeldWith s named x → Contains k.lasting x) where
    same_without : KnowsSame (lasting_tree s.loaded) (Contains k.extra) (IsHeldWith s named)
    same_without = record {
      into = λ x e. first (extra (made x e));
      back = λ x h. (knows.lasting x).0 (lasts x ((knows.made.of.known x).1 (held_known named refl x h)) h);
    }

    -- the graph is exactly that of the units that count
    pub fits_for : IsGraphFor s.loaded (IsHeldWith s named) k.graph
    fits_for = graph_same s.loaded (Contains k.extra) (IsHeldWith s named) same_here same_without k.graph knows.made

-- where the state holds all for which the graph was made, it is that of just the units that are known for the state
pub exact_for : (s : State) (k : KnownView) → KnowsFor k s → ((x : List ℕ) → Contains k.extra x → IsHeld s x) → IsGraphOf s.loaded (IsHeld s) k.graph
exact_for s k knows made =
    graph_too s.loaded (Contains k.extra) (IsHeld s) (same_here s k None knows made (λ x e. absurd (none-some x e))) k.graph knows.made.of

-- the `Known` of a state serves for it
pub serves_for : (k : KnownView) (s : State) → KnowsFor k s → Serves k.graph s
serves_for k s h = record { extra = k.extra; graph = h.made.graph; of = h.made.of; held = h.held }

-- no name that has no number in the graph is held
pub none_apart : (k : KnownView) (s : State) → KnowsFor k s → (names : List (List ℕ)) → names ≡ k.graph.names → (x : List ℕ) → IsApart names x → IsHeld s x → ⊥
none_apart k s h names same x apart held =
    let there = h.held x held in
    subst (λ ns. IsApart ns x) same apart there.0 there.1 (get_or_default k.graph.names there.0 [] x there.1 ∙ there.2)

-- and stays so where the graph serves and the same tree is loaded
pub knows_still : (k : KnownView) (s u : State) → KnowsFor k s → u.loaded ≡ s.loaded → ((unit : List ℕ) → IsHeld u unit → Contains k.graph.names unit) → KnowsFor k u
knows_still k s u h same held = record {
  made = subst (λ tree. IsGraphFor tree (Contains k.extra) k.graph) (sym same) h.made;
  lasting = subst (λ tree. (unit : List ℕ) → Contains k.lasting unit ↔ IsKnown (lasting_tree tree) (Contains k.extra) unit) (sym same) h.lasting;
  held = held;
}

-- where all that the state holds is known without the entries under `run/` too, no more units are known for it than may be
pub few_known : (k : KnownView) (s : State) → KnowsFor k s → ((x : List ℕ) → Contains k.graph.names x → IsHeld s x → Contains k.lasting x) → IsFew s
few_known k s knows lasts r crowded = knows.made.few (by_tree crowded.many)
  where
    by_tree : KnowsTooMany s.loaded (IsHeld s) ⊎ KnowsTooMany (lasting_tree s.loaded) (IsHeld s)
        → KnowsTooMany s.loaded (Contains k.extra) ⊎ KnowsTooMany (lasting_tree s.loaded) (Contains k.extra)
    by_tree (inl many) = inl (more_known s.loaded (IsHeld s) (Contains k.extra) (λ x is. (knows.made.of.known x).0 (knows.held x is)) many)
    by_tree (inr many) =
        inr (more_known (lasting_tree s.loaded) (IsHeld s) (Contains k.extra) (λ x is. (knows.lasting x).0 (lasts x (knows.held x is) is)) many)

-- nor after a boot: nothing is held then, and the entries under `run/` are gone
pub few_booted : (k : KnownView) (s : State) (boot : List ℕ) → KnowsFor k s → IsFew (booted boot s)
few_booted k s boot knows r crowded = knows.made.few (inr (by_tree crowded.many))
  where
    fewer : KnowsTooMany (lasting_tree s.loaded) (IsHeld (booted boot s)) → KnowsTooMany (lasting_tree s.loaded) (Contains k.extra)
    fewer = more_known (lasting_tree s.loaded) (IsHeld (booted boot s)) (Contains k.extra) (λ x is. absurd (booted_none boot s x is))

    by_tree : KnowsTooMany (lasting_tree s.loaded) (IsHeld (booted boot s)) ⊎ KnowsTooMany (lasting_tree (lasting_tree s.loaded)) (IsHeld (booted boot s))
        → KnowsTooMany (lasting_tree s.loaded) (Contains k.extra)
    by_tree (inl many) = fewer many
    by_tree (inr many) = fewer (subst (λ entries. KnowsTooMany (read_by s.loaded.profile entries) (IsHeld (booted boot s))) (without_run_twice s.loaded.entries) many)

pub knows_less : (k : KnownView) (s u : State) → KnowsFor k s → HoldsNoMore s u → KnowsFor k u
knows_less k s u h less = knows_still k s u h less.loaded (λ x held. h.held x (less.held x held))

-- a unit that has a number is known
pub known_by : (names : List (List ℕ)) (o : Option ℕ) (x y : List ℕ) (b : Bool) → b ≡ is_some o → MatchOption o (¬ Contains names x) (λ i. slice_get names i ≡ Some x) → x ≡ y → b ≡ true
    → Contains names y
known_by names None x y b e found is t = absurd (true≢false (sym t ∙ e))
known_by names (Some i) x y b e found is t = (i, got_within names i y (found ∙ ap Some is), get_or_from_slice_get names i y y (found ∙ ap Some is))

-- if it is known for the state with a tree that may be loaded, it is known for the state that loads it; of the tree this holds by itself
pub knows_loaded : (k : KnownView) (s u : State) (hand : Tree) (tree : ReadTree) → KnowsFor k (record s { loaded = tree }) → u ≡ record s { tree = hand; loaded = tree } → KnowsFor k u
knows_loaded k s u hand tree knows is = subst (KnowsFor k) (sym is) (record { made = knows.made; lasting = knows.lasting; held = knows.held })

pub knows_named : (k : KnownView) (s : State) (named : List ℕ) → IsGraphFor s.loaded (Contains k.extra) k.graph
    → ((unit : List ℕ) → Contains k.lasting unit ↔ IsKnown (lasting_tree s.loaded) (Contains k.extra) unit) → ((unit : List ℕ) → Contains k.extra unit ↔ IsHeldOr s named unit)
    → KnowsFor k s
knows_named k s named made lasting extras = record { made = made; lasting = lasting; held = λ unit held. (made.of.known unit).1 (first (extra ((extras unit).1 (inl held)))) }

pub knows_of : (k : KnownView) (s : State) (tree : ReadTree) → tree ≡ s.loaded → KnowsFor k (record s { loaded = tree }) → KnowsFor k s
knows_of k s tree same knows = subst (λ t. KnowsFor k (record s { loaded = t })) same knows

pub knows_made : (k : KnownView) (s : State) (tree : ReadTree) → IsGraphFor tree (Contains k.extra) k.graph
    → ((unit : List ℕ) → Contains k.lasting unit ↔ IsKnown (lasting_tree tree) (Contains k.extra) unit) → ((unit : List ℕ) → Contains k.extra unit ↔ IsHeld s unit)
    → KnowsFor k (record s { loaded = tree })
knows_made k s tree made lasting extras = record { made = made; lasting = lasting; held = λ unit held. (made.of.known unit).1 (first (extra ((extras unit).1 held))) }

-- a command other than a plan that leaves the loaded tree makes the state hold nothing new
pub put_holds_no_more : {profile : Profile} (s u : State) (path text : List ℕ) → Changes profile s (PutFile path text) u → HoldsNoMore s u
put_holds_no_more s _ path text (puts e) = record { loaded = refl; held = λ x h. h }

pub link_holds_no_more : {profile : Profile} (s u : State) (path target : List ℕ) → Changes profile s (PutLink path target) u → HoldsNoMore s u
link_holds_no_more s _ path target (links e) = record { loaded = refl; held = λ x h. h }

pub remove_holds_no_more : {profile : Profile} (s u : State) (path : List ℕ) → Changes profile s (Remove path) u → HoldsNoMore s u
remove_holds_no_more s _ path (removes e) = record { loaded = refl; held = λ x h. h }

-- the count for the list of held units
pub count_found : {E : Type 0} (s : State) (tree : ReadTree) (names : List (List ℕ)) → tree ≡ s.loaded → ((x : List ℕ) → Contains names x ↔ IsHeld s x)
    → (result : Result ℕ E) → IfOk result (λ units. CountsFor tree (Contains names) units) → IfOk result (λ units. CountsFor s.loaded (IsHeld s) units)
count_found s tree names same held (Ok units) h = count_by s.loaded (Contains names) (IsHeld s) held units (subst (λ t. CountsFor t (Contains names) units) same h)
count_found s tree names same held (Err e) h = h

-- a state isn't too heavy if its weight by either count isn't
pub light_by : (size : ℕ) (s : State) (units weight : ℕ) → CountsFor s.loaded (IsHeld s) units → weight ≡ weight_of s.tree s.loaded.entries units → weight ≤ size → ¬ IsTooHeavy size s
light_by size s units weight counts is fits heavy =
    let same : heavy.units ≡ units = one_count s.loaded (IsHeld s) heavy.units units heavy.count counts in
    let over : size < weight_of s.tree s.loaded.entries units = subst (λ n. size < weight_of s.tree s.loaded.entries n) same heavy.heavy in
    let under : weight_of s.tree s.loaded.entries units ≤ size = subst (λ n. n ≤ size) is fits in
    omega (arith, over, under)

-- the units that are known without the entries under `run/`: those that were found apart, or those of the graph
pub lasting_known : (tree : ReadTree) (others : List (List ℕ)) (g : GraphView) (o : Option (List (List ℕ))) → IsGraphOf tree (Contains others) g → AreLasting tree others o
    → (unit : List ℕ) → Contains (unwrap_or o g.names) unit ↔ IsKnown (lasting_tree tree) (Contains others) unit
lasting_known tree others g None of same unit = subst (λ t. Contains g.names unit ↔ IsKnown t (Contains others) unit) (sym same) (of.known unit)
lasting_known tree others g (Some names) of each unit = each unit

-- ---- a step in a work over the served state

-- it does so still where the trees stay
pub works_still : (v : ServedView) (w x : WorkView) → WorksOn v w → Keeps w x → (state_of x.now).tree ≡ (state_of w.now).tree → (state_of x.now).loaded ≡ (state_of w.now).loaded → WorksOn v x
works_still v w x works keeps tree loaded = record {
  graph = keeps.graph ∙ works.graph;
  base = keeps.base ∙ works.base;
  tree = tree ∙ works.tree;
  loaded = loaded ∙ works.loaded;
}

pub works_settled : (v : ServedView) (w x : WorkView) (t : ℕ) → WorksOn v w → Keeps w x → Goes (Settles t (state_of w.now)) w x → WorksOn v x
works_settled v w x t works keeps (new, settles, is) =
    let kept = settles_keeps t (state_of w.now) new (state_of x.now) settles in
    works_still v w x works keeps kept.tree kept.loaded

-- units known for the first state are known for the one that the work has reached
pub works_knows : (v : ServedView) (w : WorkView) → KnowsFor v.known v.state → WorksOn v w → Serves w.graph (state_of w.now) → KnowsFor v.known (state_of w.now)
works_knows v w knows works serves =
    knows_still v.known v.state (state_of w.now) knows works.loaded (λ x held. subst (λ (g : GraphView). Contains g.names x) works.graph (serves.held x held))

-- a `Known` that was made for those held units that the tree doesn't make known by itself is known for the state
pub knows_by_named : (k : KnownView) (s : State) (tree : ReadTree) (held others : List (List ℕ)) → tree ≡ s.loaded → IsGraphFor tree (Contains k.extra) k.graph → k.extra ≡ others
    → ((unit : List ℕ) → Contains k.lasting unit ↔ IsKnown (lasting_tree tree) (Contains k.extra) unit) → ((unit : List ℕ) → Contains held unit ↔ IsHeld s unit)
    → ((unit : List ℕ) → Contains held unit → IsKnown tree (Contains others) unit) → KnowsFor k s
knows_by_named k s tree held others same made extras lasting is known = record {
  made = subst (λ t. IsGraphFor t (Contains k.extra) k.graph) same made;
  lasting = subst (λ t. (unit : List ℕ) → Contains k.lasting unit ↔ IsKnown (lasting_tree t) (Contains k.extra) unit) same lasting;
  held = λ unit h. (made.of.known unit).1 (subst (λ xs. IsKnown tree (Contains xs) unit) (sym extras) (known unit ((is unit).1 h)));
}

-- a call that passes on a refusal for too many units
pub full_on : {X : Type 0} (Full : Type 0) (result : Result X Refusal) (e : Refusal) → IsErrAnd result (λ f. f ≡ e) → (¬ (e ≡ refusals.NoMemory) → (e ≡ refusals.TooLarge limits.Units) × Full)
    → IfErr result (λ f. ¬ (f ≡ refusals.NoMemory) → (f ≡ refusals.TooLarge limits.Units) × Full)
full_on Full (Ok x) e on full = absurd on
full_on Full (Err f) e on full = subst (λ (r : Refusal). ¬ (r ≡ refusals.NoMemory) → (r ≡ refusals.TooLarge limits.Units) × Full) (sym on) full
