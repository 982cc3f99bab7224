-- The units that the code finds to fall with one that came to rest are those of the definition, by name.
use Rattle.um_falling.specs.Carrying.{Adds}
use Rattle.std.proofs.Common.{◌≡◌, ◌∙◌, ◌+◌, ◌==◌, ◌&&◌, ℕ, zero, suc, Bool, true, false, true≢false, cond, List, [], ◌∷◌, ◌++◌, length, map, Contains, Some, slice_get, unwrap_or, refl, sym, ap, subst, inl, inr, arith, append_assoc, append-nil}
use Rattle.std.proofs.lemmas.Bool.{and_parts}
use Rattle.std.proofs.lemmas.Bool.Decides.{Decides-eqb}
use Rattle.std.proofs.lemmas.List.{map-append}
use Rattle.std.proofs.lemmas.List.Kept.{AllPairs-cons}
use Rattle.std.proofs.lemmas.Option.{same_Some}
use Rattle.std.specs.Prelude.{All, AllPairs}
use Rattle.um_model.specs.Least.{IsNamedBefore}
use Rattle.um_model.specs.Machine.{State, AreByName, FallsWith, all_told, told_next}
use Rattle.um_model.specs.Dependencies.{Depends}
use Rattle.um_model.specs.Machine as model
use Rattle.um_model.specs.Service.{Action, dead_unit}
use Rattle.um_model.specs.declared.dependencies.DependencyKind.TheVariants.{BindsTo}
use Rattle.um_model.specs.declared.transition.UnitEvent.{UnitEvent}
use Rattle.um_model.specs.declared.transition.UnitEvent.TheVariants.{BoundStop}
use Rattle.um_laws.proofs.AmongLaws.{among_contained, contains_among}
use Rattle.um_laws.proofs.FallTotal.{goes_at, rest_told, rest_is}
use Rattle.um_model.specs.Transitions.{comes_to_rest}
use Rattle.um_model.proofs.LeastLaws.{Among}
use Rattle.um_laws.proofs.OnceLaws.{among_at}
use Rattle.um_laws.proofs.SceneLaws.{first_before, others_sorted}
use Rattle.um_graph.specs.Graph.{GraphView, IsNumberOf, row_of}
use Rattle.um_graph.specs.Kinds.{has, inverse_bit_of}
use Rattle.um_graph.specs.declared.row.Neighbour.{Neighbour}
use Rattle.um_falling.specs.Falling.{AddsFalling, AreNamed, falling, falling_from, goes, is_bound, is_bound_as, sub_of}
use Rattle.um_falling.specs.Over.{Serves}
use Rattle.um_falling.proofs.AlongLaws.{and_both, any_in, in_any, number_by}
use Rattle.um_falling.proofs.TakenLaws.{needed_by, needs_by}

-- ---- the names of those that are found

module _ (s : State) (around : List Neighbour) where
  abbrev pub named_from : ℕ → List (List ℕ) → List (List ℕ)
  named_from unit [] = []
  named_from unit (name ∷ names) = cond (is_bound around unit && goes s name) (name ∷ named_from (suc unit) names) (named_from (suc unit) names)

  -- one of them has a place, is bound, and is active or activating
  record IsFound (unit : ℕ) (names : List (List ℕ)) (name : List ℕ) : Type 0 where
    place : ℕ
    there : slice_get names place ≡ Some name
    bound : is_bound around (unit + place) ≡ true
    going : goes s name ≡ true

  found_later : (unit : ℕ) (first : List ℕ) (names : List (List ℕ)) (name : List ℕ) → IsFound (suc unit) names name → IsFound unit (first ∷ names) name
  found_later unit first names name f = record {
    place = suc f.place;
    there = f.there;
    bound = (let e : unit + suc f.place ≡ suc unit + f.place = omega arith in ap (is_bound around) e) ∙ f.bound;
    going = f.going;
  }

  found : (unit : ℕ) (names : List (List ℕ)) (name : List ℕ) → Among (named_from unit names) name → IsFound unit names name
  found unit [] name = λ none. absurd none
  found unit (first ∷ names) name = by (is_bound around unit && goes s first) refl (found (suc unit) names name)
    where
      by : (b : Bool) → (is_bound around unit && goes s first) ≡ b → (Among (named_from (suc unit) names) name → IsFound (suc unit) names name) → Among (cond b (first ∷ named_from (suc unit) names) (named_from (suc unit) names)) name
          → IsFound unit (first ∷ names) name
      by true t rest (inl is) =
          let p = and_parts (is_bound around unit) (goes s first) t in
          record {
            place = 0;
            there = ap Some (sym is);
            bound = (let e : unit + 0 ≡ unit = omega arith in ap (is_bound around) e) ∙ p.0;
            going = ap (goes s) is ∙ p.1;
          }
      by true t rest (inr later) = found_later unit first names name (rest later)
      by false t rest later = found_later unit first names name (rest later)

  find : (unit : ℕ) (names : List (List ℕ)) (name : List ℕ) (place : ℕ) → slice_get names place ≡ Some name → is_bound around (unit + place) ≡ true → goes s name ≡ true
      → Among (named_from unit names) name
  find unit [] name place there bound going = cc
  find unit (first ∷ names) name zero there bound going =
      let same : first ≡ name = same_Some first name there in
      let e : unit ≡ unit + 0 = omega arith in
      let t = and_both (is_bound around unit) (goes s first) (ap (is_bound around) e ∙ bound) (ap (goes s) same ∙ going) in
      subst (λ b. Among (cond b (first ∷ named_from (suc unit) names) (named_from (suc unit) names)) name) (sym t) (inl (sym same))
  find unit (first ∷ names) name (suc place) there bound going =
      let e : suc unit + place ≡ unit + suc place = omega arith in
      by (is_bound around unit && goes s first) (find (suc unit) names name place there (ap (is_bound around) e ∙ bound) going)
    where
      by : (b : Bool) → Among (named_from (suc unit) names) name → Among (cond b (first ∷ named_from (suc unit) names) (named_from (suc unit) names)) name
      by true later = inr later
      by false later = later

  of_all : (unit : ℕ) (names : List (List ℕ)) (name : List ℕ) → Among (named_from unit names) name → Among names name
  of_all unit [] name = λ none. none
  of_all unit (first ∷ names) name = by (is_bound around unit && goes s first) (of_all (suc unit) names name)
    where
      by : (b : Bool) → (Among (named_from (suc unit) names) name → Among names name) → Among (cond b (first ∷ named_from (suc unit) names) (named_from (suc unit) names)) name → Among (first ∷ names) name
      by true rest (inl is) = inl is
      by true rest (inr later) = inr (rest later)
      by false rest later = inr (rest later)

  sorted_from : (unit : ℕ) (names : List (List ℕ)) → AllPairs IsNamedBefore names → AllPairs IsNamedBefore (named_from unit names)
  sorted_from unit [] sorted = sorted
  sorted_from unit (first ∷ names) sorted = by (is_bound around unit && goes s first) (sorted_from (suc unit) names (others_sorted first names sorted))
    where
      before : All (IsNamedBefore first) (named_from (suc unit) names)
      before k d few = first_before first names sorted _ (of_all (suc unit) names _ (among_at (named_from (suc unit) names) k d few))

      by : (b : Bool) → AllPairs IsNamedBefore (named_from (suc unit) names)
          → AllPairs IsNamedBefore (cond b (first ∷ named_from (suc unit) names) (named_from (suc unit) names))
      by true rest = AllPairs-cons IsNamedBefore first (named_from (suc unit) names) before rest
      by false rest = rest

  -- they are the names of those that are found by number
  named_so : (g : GraphView) (unit : ℕ) (names : List (List ℕ)) → ((i : ℕ) (x : List ℕ) → slice_get names i ≡ Some x → IsNumberOf g (unit + i) x)
      → AreNamed g (falling_from s around unit names) (named_from unit names)
  named_so g unit [] at = refl
  named_so g unit (first ∷ names) at =
      by (is_bound around unit && goes s first)
      (named_so g (suc unit) names (λ i x is. let e : unit + suc i ≡ suc unit + i = omega arith in subst (λ k. IsNumberOf g k x) e (at (suc i) x is)))
    where
      here : slice_get g.names unit ≡ Some first
      here = let e : unit + 0 ≡ unit = omega arith in subst (λ k. IsNumberOf g k first) e (at 0 first refl)

      by : (b : Bool) → AreNamed g (falling_from s around (suc unit) names) (named_from (suc unit) names) → AreNamed g (cond b (unit ∷ falling_from s around (suc unit) names) (falling_from s around (suc unit) names))
          (cond b (first ∷ named_from (suc unit) names) (named_from (suc unit) names))
      by true rest = ap (λ o. o ∷ map (slice_get g.names) (falling_from s around (suc unit) names)) here ∙ ap (λ l. Some first ∷ l) rest
      by false rest = rest

-- ---- those that fall with a unit of the graph

module _ (g : GraphView) (s u : State) (serves : Serves g s) (holds : Serves g u) (name : List ℕ) (unit : ℕ) (number : IsNumberOf g unit name) where
  abbrev around : List Neighbour
  around = row_of g.rows unit

  bound_so : (other : ℕ) (x : List ℕ) → IsNumberOf g other x → is_bound around other ≡ true → Depends s.loaded (λ y. Unit {0}) BindsTo x name
  bound_so other x is t =
      let (n, c, h) = in_any (is_bound_as other) around t in
      let p = and_parts (n.unit == other) (has (inverse_bit_of BindsTo) n.kinds) h in
      needed_by g s serves BindsTo unit other name x number is (record { neighbour = n; listed = c; is = (Decides-eqb n.unit other).0 p.0; kind = p.1 })

  so_bound : (other : ℕ) (x : List ℕ) → IsNumberOf g other x → Depends s.loaded (λ y. Unit {0}) BindsTo x name → is_bound around other ≡ true
  so_bound other x is d =
      let stands = needs_by g s serves BindsTo unit other name x number is d in
      any_in (is_bound_as other) around stands.neighbour stands.listed
      (and_both (stands.neighbour.unit == other) (has (inverse_bit_of BindsTo) stands.neighbour.kinds) ((Decides-eqb stands.neighbour.unit other).1 stands.is) stands.kind)

  abbrev those : Bool → List (List ℕ)
  those b = cond b (named_from u around 0 g.names) []

  going_known : (other : List ℕ) → goes u other ≡ true → Contains g.names other
  going_known other going = holds.held other (goes_held u other going)
    where
      goes_held : (c : State) (x : List ℕ) → goes c x ≡ true → model.IsHeld c x
      goes_held c x t = inl (λ e. true≢false (sym t ∙ ap (λ o. goes_at (unwrap_or o dead_unit).sub) e))

  falls_so : (b : Bool) → comes_to_rest (sub_of s name) (sub_of u name) ≡ b → AreByName (FallsWith s u name) (those b)
  falls_so true rests = record {
    each = λ other. (
      λ c.
          let f = found u around 0 g.names other (among_contained (those true) other c) in
          let rest = rest_told (sub_of s name) (sub_of u name) rests in
          record { rests = rest.0; anew = rest.1; goes = f.going; bound = bound_so (0 + f.place) other (by_place f.place other f.there) f.bound },
      λ h.
          let (i, is) = number_by g other (going_known other h.goes) in
          contains_among (those true) other (find u around 0 g.names other i is (so_bound (0 + i) other (by_place i other is) h.bound) h.goes),
    );
    sorted = sorted_from u around 0 g.names holds.graph.sorted;
  }
    where
      by_place : (i : ℕ) (x : List ℕ) → IsNumberOf g i x → IsNumberOf g (0 + i) x
      by_place i x is = let e : i ≡ 0 + i = omega arith in subst (λ k. IsNumberOf g k x) e is
  falls_so false rests = record {
    each = λ other. (λ c. absurd (omega (arith, c.1)), λ h. absurd (true≢false (sym (rest_is (sub_of s name) (sub_of u name) h.rests h.anew) ∙ rests)));
    sorted = λ i j d less few. absurd (omega arith);
  }

  those_named : (b : Bool) → AreNamed g (cond b (falling_from u around 0 g.names) []) (those b)
  those_named true = named_so u around g 0 g.names (λ i x is. let e : i ≡ 0 + i = omega arith in subst (λ k. IsNumberOf g k x) e is)
  those_named false = refl

  -- they are named, and fall
  pub falling_named : (names : List (List ℕ)) × AreNamed g (falling g u (sub_of s name) name unit) names × AreByName (FallsWith s u name) names
  falling_named =
      let b = comes_to_rest (sub_of s name) (sub_of u name) in
      (those b, those_named b, falls_so b refl)

-- ---- stopping goes on

-- one is stopped, with those that fall with it, and then the others
pub falls_more : (t : ℕ) (name : List ℕ) (units falling : List (List ℕ)) (s u v : State) (before between after : List Action)
    → Adds (model.Carries t name BoundStop s) before u between → AreByName (FallsWith s u name) falling → Adds (model.FallDown t (falling ++ units) u) between v after
    → Adds (model.FallDown t (name ∷ units) s) before v after
falls_more t name units falling s u v before between after (first, carries, is) falls (more, later, all) =
    (first ++ more, told_next carries falls later, all ∙ (ap (λ l. l ++ more) is ∙ append_assoc before first more))

-- all are stopped
pub all_fell : (t : ℕ) (s : State) (before : List Action) → Adds (model.FallDown t [] s) before s before
all_fell t s before = ([], all_told, sym (append-nil before))

-- an event happens, and those that fall with the unit are stopped
pub happens_so : (t : ℕ) (name : List ℕ) (event : UnitEvent) (falling : List (List ℕ)) (s u v : State) (before between after : List Action)
    → Adds (model.Carries t name event s) before u between → AreByName (FallsWith s u name) falling → Adds (model.FallDown t falling u) between v after → Adds (model.Happens t name event s) before v after
happens_so t name event falling s u v before between after (first, carries, is) falls (more, later, all) =
    (first ++ more, model.Happens.happens carries falls later, all ∙ (ap (λ l. l ++ more) is ∙ append_assoc before first more))

-- names of a list that goes on
first_named : (g : GraphView) (unit : ℕ) (rest : List ℕ) (names : List (List ℕ)) → AreNamed g (unit ∷ rest) names
    → (name : List ℕ) × (others : List (List ℕ)) × (names ≡ name ∷ others) × IsNumberOf g unit name × AreNamed g rest others
first_named g unit rest [] are = cc
first_named g unit rest (name ∷ others) are = (name, others, refl, cons_first are, cons_rest are)
  where
    cons_first : map (slice_get g.names) (unit ∷ rest) ≡ map Some (name ∷ others) → slice_get g.names unit ≡ Some name
    cons_first e = cc

    cons_rest : map (slice_get g.names) (unit ∷ rest) ≡ map Some (name ∷ others) → map (slice_get g.names) rest ≡ map Some others
    cons_rest e = cc

both_named : (g : GraphView) (front back : List ℕ) (names others : List (List ℕ)) → AreNamed g front names → AreNamed g back others → AreNamed g (front ++ back) (names ++ others)
both_named g front back names others h k =
    map-append (slice_get g.names) front back
    ∙ (ap (λ l. l ++ map (slice_get g.names) back) h ∙ (ap (λ l. map Some names ++ l) k ∙ sym (map-append Some names others)))

none_named : (g : GraphView) (names : List (List ℕ)) → AreNamed g [] names → names ≡ []
none_named g [] are = refl
none_named g (name ∷ names) are = cc

-- the rest of a list to be stopped: a run in which these numbers fall is one in which all fall
pub record IsOnTheWay (g : GraphView) (t : ℕ) (names : List (List ℕ)) (s u : State) (before between : List Action) (list : List ℕ) : Type 0 where
  pub names_now : List (List ℕ)
  pub named : AreNamed g list names_now
  pub whole : (v : State) (after : List Action) → Adds (model.FallDown t names_now u) between v after → Adds (model.FallDown t names s) before v after
  pub serves : Serves g u

-- none is stopped yet
pub way_begins : (g : GraphView) (t : ℕ) (names : List (List ℕ)) (s : State) (before : List Action) (list : List ℕ) → AreNamed g list names → Serves g s
    → IsOnTheWay g t names s s before before list
way_begins g t names s before list named serves = record { names_now = names; named = named; whole = λ v after h. h; serves = serves }

-- one more is stopped
pub way_goes_on : (g : GraphView) (t : ℕ) (names : List (List ℕ)) (s u v : State) (before between after : List Action) (list rest next : List ℕ) (unit : ℕ)
    → IsOnTheWay g t names s u before between list → list ≡ unit ∷ rest
    → ((name : List ℕ) → IsNumberOf g unit name → Serves g u → Adds (model.Carries t name BoundStop u) between v after × Serves g v)
    → ((name : List ℕ) → IsNumberOf g unit name → AddsFalling g v (sub_of u name) name rest next)
    → IsOnTheWay g t names s v before after next
way_goes_on g t names s u v before between after list rest next unit way is carries adds =
    let (name, others, all, number, left) = first_named g unit rest way.names_now (subst (λ l. AreNamed g l way.names_now) is way.named) in
    let (carried, serves_then) = carries name number way.serves in
    let (falling, called, falls) = falling_named g u v way.serves serves_then name unit number in
    record {
      names_now = falling ++ others;
      named = subst (λ l. AreNamed g l (falling ++ others)) (sym (adds name number unit number)) (both_named g _ rest falling others called left);
      whole = λ w end later.
          way.whole w end (subst (λ l. Adds (model.FallDown t l u) between w end) (sym all) (falls_more t name others falling u v w between after end carried falls later));
      serves = serves_then;
    }

-- none is left
pub way_ends : (g : GraphView) (t : ℕ) (names : List (List ℕ)) (s u : State) (before between : List Action) (list : List ℕ)
    → IsOnTheWay g t names s u before between list → list ≡ [] → Adds (model.FallDown t names s) before u between × Serves g u
way_ends g t names s u before between list way is = (
  way.whole u between
      (subst (λ l. Adds (model.FallDown t l u) between u between) (sym (none_named g way.names_now (subst (λ l. AreNamed g l way.names_now) is way.named))) (all_fell t u between)),
  way.serves,
)

-- an event happened to a unit of the graph, and the units that fall with it fell
pub happened : (g : GraphView) (t : ℕ) (name : List ℕ) (event : UnitEvent) (s u v : State) (before between after : List Action) (list : List ℕ)
    → Adds (model.Carries t name event s) before u between × Serves g u → Serves g s → Contains g.names name → AddsFalling g u (sub_of s name) name [] list
    → ((names : List (List ℕ)) → AreNamed g list names → Serves g u → Adds (model.FallDown t names u) between v after × Serves g v)
    → Adds (model.Happens t name event s) before v after × Serves g v
happened g t name event s u v before between after list (carries, serves_then) serves known adds falls =
    let (unit, number) = number_by g name known in
    let (falling, called, are) = falling_named g s u serves serves_then name unit number in
    let named = subst (λ l. AreNamed g l falling) (sym (adds unit number ∙ append-nil _)) called in
    let (fell, serves_on) = falls falling named serves_then in
    (happens_so t name event falling s u v before between after carries are fell, serves_on)

-- ---- lists of numbers

pub length_none : (list : List ℕ) → length list ≡ 0 → list ≡ []
length_none [] none = refl
length_none (unit ∷ rest) none = absurd (omega arith)

pub none_listed : {P : Type 0} (unit : ℕ) (list rest : List ℕ) → list ≡ unit ∷ rest → list ≡ [] → P
none_listed unit list rest is none = let long = ap length (sym is ∙ none) in absurd (omega arith)
