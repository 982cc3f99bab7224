-- A happening never raises the weight of the state, and is never refused.
use Rattle.std.proofs.Common.{ℕ, ◌≡◌, ◌∙◌, ◌+◌, ◌*◌, ◌≤◌, List, refl, subst, inl, arith}
use Rattle.um_model.specs.declared.profile.Profile.{Profile}
use Rattle.um_model.specs.Dependencies.{KnowsSoMany, CountsFor, extra}
use Rattle.um_model.specs.Machine.{State, Happening, Happened, Reply, Done, IsHeld, booted, Follows, end_of, moment_of, Step, TakesEffect}
use Rattle.um_model.specs.Reached.{first}
use Rattle.um_model.specs.Servable.{WeighsNoMore}
use Rattle.um_model.specs.Service.{Action, state_of_unit}
use Rattle.um_model.specs.Profiles.{ReadTree, read_by, lasting_tree}
use Rattle.um_model.specs.Tree.{without_run}
use Rattle.um_model.specs.Weight.{tree_weight}
use Rattle.um_model.specs.declared.transition.UnitEvent.TheVariants.{Executed}
use Rattle.um_laws.proofs.AmongLaws.{contains_among, among_contained}
use Rattle.um_laws.proofs.FewLaws.{same_no_more, happened_no_more, fires_no_more, number_held, booted_none}
use Rattle.um_model.specs.Live.{HoldsNoMore}
use Rattle.um_laws.proofs.KeepsLaws.{happens_keeps, settles_keeps, fires_keeps}
use Rattle.um_laws.proofs.KnownLaws.{known_grows}
use Rattle.um_laws.proofs.OnceLaws.{no_more}
use Rattle.um_model.proofs.TreeLaws.{without_run_twice}
use Rattle.um_model.proofs.WeightLaws.{without_run_light}

-- ---- fewer units are known

-- if all that the one names besides the tree is named by the other
module _ (Fewer Extra : List ℕ → Type 0) (within : (x : List ℕ) → Fewer x → Extra x) where
  fewer_known : (tree : ReadTree) (m n : ℕ) → KnowsSoMany tree Fewer m → KnowsSoMany tree Extra n → m ≤ n
  fewer_known tree m n h k =
      let grows = known_grows tree Fewer Extra (λ x is. first (extra (within x is))) in
      let few = no_more h.names k.names h.apart (λ z there. among_contained k.names z ((k.whole z).1 (grows z ((h.whole z).0 (contains_among h.names z there))))) in
      omega (arith, few, h.long, k.long)

  fewer_counted : (tree : ReadTree) (m n : ℕ) → CountsFor tree Fewer m → CountsFor tree Extra n → m ≤ n
  fewer_counted tree m n h k =
      let held = fewer_known tree h.held k.held h.by_tree k.by_tree in
      let lasting = fewer_known (lasting_tree tree) h.lasting k.lasting h.by_rest k.by_rest in
      let most = h.greater in
      let least = k.greater in
      omega (arith, held, lasting, most, least)

  -- and by the tree without its entries under `run/`
  fewer_after_boot : (tree : ReadTree) (m n : ℕ) → CountsFor (lasting_tree tree) Fewer m → CountsFor tree Extra n → m ≤ n
  fewer_after_boot tree m n h k =
      let held = fewer_known (lasting_tree tree) h.held k.lasting h.by_tree k.by_rest in
      let rest = subst (λ entries. KnowsSoMany (read_by tree.profile entries) Fewer h.lasting) (without_run_twice tree.entries) h.by_rest in
      let lasting = fewer_known (lasting_tree tree) h.lasting k.lasting rest k.by_rest in
      let most = h.greater in
      let least = k.greater in
      omega (arith, held, lasting, most, least)

-- ---- and the state weighs no more

lighter : (a b c d m n : ℕ) → a ≤ b → c ≤ d → m ≤ n → 256 + a + c + 2048 * m ≤ 256 + b + d + 2048 * n
lighter a b c d m n e f g = omega arith

-- with the same tree a state that holds nothing new weighs no more
no_more_light : (s t : State) → HoldsNoMore s t → t.tree ≡ s.tree → WeighsNoMore t s
no_more_light s t less same m n h k =
    let by_loaded = subst (λ tree. CountsFor tree (IsHeld t) m) less.loaded h in
    let few = fewer_counted (IsHeld t) (IsHeld s) less.held s.loaded m n by_loaded k in
    lighter (tree_weight t.tree) (tree_weight s.tree) (tree_weight t.loaded.entries) (tree_weight s.loaded.entries) m n
    (subst (λ tree. tree_weight t.tree ≤ tree_weight tree) same (omega arith)) (subst (λ (tree : ReadTree). tree_weight t.loaded.entries ≤ tree_weight tree.entries) less.loaded (omega arith)) few

-- so does one after a boot
booted_light : (boot : List ℕ) (s : State) → WeighsNoMore (booted boot s) s
booted_light boot s m n h k =
    lighter (tree_weight (without_run s.tree)) (tree_weight s.tree) (tree_weight (without_run s.loaded.entries)) (tree_weight s.loaded.entries) m n (without_run_light s.tree) (without_run_light s.loaded.entries)
    (fewer_after_boot (IsHeld (booted boot s)) (IsHeld s) (λ x is. absurd (booted_none boot s x is)) s.loaded m n h k)

-- and one after any happening
follows_light : (t : ℕ) (s : State) (happening : Happening) (actions : List Action) (v : State) → Follows t s happening actions v → WeighsNoMore v s
follows_light t s happening actions v (Follows.ends {number = number} {end = end} {first = x} {more = y} {u = u} unit is h k) =
    let event = end_of (state_of_unit s.units unit) number end in
    no_more_light s v (happened_no_more t unit event s x y u v (inl (number_held s number unit is)) h k) ((settles_keeps t u y v k).tree ∙ (happens_keeps t unit event s x u h).tree)
follows_light t s happening actions v (Follows.reports {number = number} {first = x} {more = y} {u = u} unit is awaits h k) =
    no_more_light s v (happened_no_more t unit Executed s x y u v (inl (number_held s number unit is)) h k)
    ((settles_keeps t u y v k).tree ∙ (happens_keeps t unit Executed s x u h).tree)
follows_light t s happening actions v (Follows.ticks timers are h) = no_more_light s v (fires_no_more t timers s actions v h) (fires_keeps t timers s actions v h).tree
follows_light t s happening actions v (Follows.boots {boot = boot}) = booted_light boot s

same_light : (s : State) → WeighsNoMore s s
same_light s = no_more_light s s (same_no_more s) refl

takes_light : {profile : Profile} (t : ℕ) (s : State) (happening : Happening) (actions : List Action) (v : State) → TakesEffect profile t s (Happened happening) actions v → WeighsNoMore v s
takes_light t s happening actions v (TakesEffect.meets effect h) = follows_light t s happening actions v h

-- after a step in which something happens the state weighs no more than before it
pub happening_light : {profile : Profile} (size : ℕ) (s : State) (moment : ℕ) (happening : Happening) (reply : Reply) (actions : List Action) (t : State)
    → Step size s (record { profile = profile; moment = moment; event = Happened happening }) reply actions t → WeighsNoMore t s
happening_light size s moment happening reply actions t (Step.crowded_out h heavy) = same_light s
happening_light size s moment happening reply actions t (Step.idle e) = same_light s
happening_light size s moment happening reply actions t (Step.taken {u = u} h light) = takes_light (moment_of s moment) s happening actions u h

-- and a happening is never refused
pub happening_done : {profile : Profile} (size : ℕ) (s : State) (moment : ℕ) (happening : Happening) (reply : Reply) (actions : List Action) (t : State)
    → Step size s (record { profile = profile; moment = moment; event = Happened happening }) reply actions t → reply ≡ Done
happening_done size s moment happening reply actions t (Step.crowded_out h heavy) = absurd heavy
happening_done size s moment happening reply actions t (Step.idle e) = refl
happening_done size s moment happening reply actions t (Step.taken h light) = refl
