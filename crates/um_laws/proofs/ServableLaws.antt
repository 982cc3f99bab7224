-- Each step leaves a state that a store may hold such that it still may.
use Rattle.std.proofs.Common.{ℕ, Contains, ◌≡◌, ◌∙◌, ◌≤◌, List, [], ◌∷◌, length, refl, sym, ap, subst, inl, arith}
use Rattle.std.specs.Prelude.{map as each}
use Rattle.std.specs.List.{sum}
use Rattle.std.specs.Cmp.Lexicographic.{slice_cmp}
use Rattle.std.specs.FinMap as map
use Rattle.std.specs.Ordering.{nat_cmp}
use mathlib.Core.HLevel.{Π_prop, ×₃_prop, ⊥_prop}
use Rattle.um_model.specs.Profiles.{ReadTree, read_by}
use Rattle.um_model.specs.Tree.{without_run}
use Rattle.um_model.specs.declared.profile.Profile.{Profile}
use Rattle.um_model.specs.Dependencies.{IsKnown, KnowsSoMany, CountsFor}
use Rattle.um_model.specs.Machine.{State, Commanded, Happening, Happened, Event, Input, Reply, IsHeld, CausesOfLoad, IsTooHeavy, HasNoRoom, reply_after, moment_of, Step, taken, TakesEffect}
use Rattle.um_model.specs.Refusals.{Refused, at_first, at_second}
use Rattle.um_model.specs.Servable.{IsBlank, IsFew, IsFree, IsServable}
use Rattle.um_model.specs.Service.{Action}
use Rattle.um_model.specs.Tree.{Entry}
use Rattle.um_model.specs.Weight.{entry_weight, tree_weight}
use Rattle.um_laws.proofs.AmongLaws.{contains_among}
use Rattle.um_laws.proofs.CrowdedLaws.{a_count}
use Rattle.um_laws.proofs.DemandsLaws.{reached_in}
use Rattle.um_laws.proofs.FewLaws.{step_few, none_named, blank_none, empty_same, blank_few}
use Rattle.um_laws.proofs.FreeLaws.{loads_free, step_free, blank_free}
use Rattle.um_laws.proofs.LightLaws.{happening_light}
use Rattle.um_laws.proofs.SceneLaws.{held_list}

-- ---- there is one way at most for a state to be servable

abbrev Parts : ℕ → State → Type 0
Parts size s = (¬ IsTooHeavy size s) × IsFew s × IsFree s

of_parts : (size : ℕ) (s : State) → Parts size s → IsServable size s
of_parts size s (light, few, free) = record { light = light; few = few; free = free }

parts_once : (size : ℕ) (s : State) → IsProp (Parts size s)
parts_once size s = ×₃_prop (Π_prop (λ _. ⊥_prop)) (Π_prop (λ _. Π_prop (λ _. ⊥_prop))) (Π_prop (λ _. Π_prop (λ _. ⊥_prop)))

pub servable_once : (size : ℕ) (s : State) → IsProp (IsServable size s)
unfolding of_parts
servable_once size s p q = ap (of_parts size s) (parts_once size s (p.light, p.few, p.free) (q.light, q.few, q.free))

-- ---- a state is servable if it has room and a load of its loaded tree isn't refused

pub loads_servable : (size : ℕ) (s : State) → ((r : Refused) → ¬ CausesOfLoad s s.loaded r) → ¬ IsTooHeavy size s → IsServable size s
loads_servable size s none light = record { light = light; few = λ r crowded. none r (at_first crowded); free = loads_free s s.loaded none }

pub refused_unservable : (size : ℕ) (s : State) (r : Refused) → CausesOfLoad s s.loaded r → ¬ IsServable size s
refused_unservable size s r (at_first crowded) h = h.few r crowded
refused_unservable size s r (at_second none circle) h = h.free circle.cycle circle.closed

-- ---- a state in which nothing is held

-- no unit counts for an empty tree if nothing is held
module _ (tree : ReadTree) (empty : tree.entries ≡ map.empty) (Extra : List ℕ → Type 0) (none : (x : List ℕ) → ¬ Extra x) where
  none_long : (n : ℕ) → KnowsSoMany tree Extra n → n ≡ 0
  none_long n k = sym k.long ∙ by k.names (λ x is. (k.whole x).0 is)
    where
      by : (names : List (List ℕ)) → ((x : List ℕ) → Contains names x → IsKnown tree Extra x) → length names ≡ 0
      by [] known = refl
      by (x ∷ xs) known = absurd (reached_in (λ _. ⊥) (none_named tree empty Extra none) (λ a b is mentions. is) x (known x (contains_among (x ∷ xs) x (inl refl))))

  none_counted : (n : ℕ) → CountsFor tree Extra n → n ≡ 0
  none_counted n k =
      let held = none_long k.held k.by_tree in
      let lasting = none_long k.lasting (subst (λ entries. KnowsSoMany (read_by tree.profile entries) Extra k.lasting) (ap without_run empty ∙ (empty_same ∙ sym empty)) k.by_rest) in
      omega (arith, held, lasting, k.greater)

none_weighs : (es : List (List ℕ × Entry)) → length es ≡ 0 → sum (each (λ e. entry_weight e.0 e.1) es) ≡ 0
none_weighs [] none = refl
none_weighs (e ∷ es) none = cc

empty_weight : tree_weight map.empty ≡ 0
empty_weight = none_weighs (map.entries map.empty) (sym (map.len-entries map.empty) ∙ map.len-empty (slice_cmp nat_cmp) Entry)

blank_light : (size : ℕ) (s : State) → 256 ≤ size → IsBlank s → ¬ IsTooHeavy size s
blank_light size s room blank h =
    let units = none_counted s.loaded blank.loaded (IsHeld s) (blank_none s blank) h.units h.count in
    let tree : tree_weight s.tree ≡ 0 = ap tree_weight blank.tree ∙ empty_weight in
    let loaded : tree_weight s.loaded.entries ≡ 0 = ap tree_weight blank.loaded ∙ empty_weight in
    omega (arith, h.heavy, units, tree, loaded, room)

-- a store of 256 bytes or more may hold a state in which nothing is held
pub blank_servable : (size : ℕ) (s : State) → 256 ≤ size → IsBlank s → IsServable size s
blank_servable size s room blank = record { light = blank_light size s room blank; few = blank_few s blank; free = blank_free s blank }

-- ---- a step

-- a happening leaves room: the state weighs no more after it
happening_keeps_light : {profile : Profile} (size : ℕ) (s : State) (moment : ℕ) (happening : Happening) (reply : Reply) (actions : List Action) (t : State)
    → Step size s (record { profile = profile; moment = moment; event = Happened happening }) reply actions t → ¬ IsTooHeavy size s → ¬ IsTooHeavy size t
happening_keeps_light size s moment happening reply actions t step light h = by (a_count (IsHeld s) (held_list s).0 (held_list s).1 s.loaded)
  where
    by : (n : ℕ) × CountsFor s.loaded (IsHeld s) n → ⊥
    by (n, counts) =
        let less = happening_light size s moment happening reply actions t step h.units n h.count counts in
        light (record { units = n; count = counts; heavy = omega (arith, less, h.heavy) })

-- a command that is taken left room
step_light : (size : ℕ) (s : State) (input : Input) (reply : Reply) (actions : List Action) (t : State) → Step size s input reply actions t
    → ¬ IsTooHeavy size s → ¬ IsTooHeavy size t
step_light size s input reply actions t (Step.refused e) light = light
step_light size s input reply actions t (Step.crowded_out h heavy) light = light
step_light size s input reply actions t (Step.idle e) light = light
step_light size s input reply actions t (taken {profile = profile} {moment = moment} {event = event} {u = u} takes room) light = by event takes room
  where
    by : (e : Event) → TakesEffect profile (moment_of s moment) s e actions u → ¬ HasNoRoom size e u → ¬ IsTooHeavy size (record u { clock = moment_of s moment })
    by (Commanded command) takes room h = room (record { units = h.units; count = h.count; heavy = h.heavy })
    by (Happened happening) takes room h =
        happening_keeps_light size s moment happening (reply_after (Happened happening) s.tree u.tree) actions (record u { clock = moment_of s moment }) (taken takes room) light h

-- a step leaves a servable state servable
pub step_servable : (size : ℕ) (s : State) (input : Input) (reply : Reply) (actions : List Action) (t : State) → Step size s input reply actions t
    → IsServable size s → IsServable size t
step_servable size s input reply actions t step h = record {
  light = step_light size s input reply actions t step h.light;
  few = step_few size s input reply actions t step h.few;
  free = step_free size s input reply actions t step h.free;
}
