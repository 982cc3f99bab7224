-- Lives of managers that follow one another are one run over their kept inputs, in which stand the reports to their
-- clients and the processes started.
use Rattle.std.proofs.Common.{◌≡◌, ◌∙◌, ◌≤◌, ℕ, List, [], ◌∷◌, ◌++◌, map, flat_map, append_assoc, append-nil, refl, sym, ap, subst}
use Rattle.std.specs.List.{AllByRecursion, All}
use Rattle.std.proofs.lemmas.List.Elements.{All-weaker}
use Rattle.um_keeper.specs.Finished.{RepeatsNone}
use Rattle.um_keeper.specs.Opening.{IsTakenUp, IsUntaken}
use Rattle.um_laws.proofs.BegunLaws.{begun_next}
use Rattle.um_laws.proofs.LivesLaws.{one_life, run_of, kept_of, life_has_answered}
use Rattle.um_laws.proofs.NumbersLaws.{run_numbers_rise}
use Rattle.um_laws.proofs.StandsLaws.{one_state, one_layout}
use Rattle.um_model.specs.Begun.{Begun, WasNext, begun_in}
use Rattle.um_model.specs.Children.{Call, orders}
use Rattle.um_model.specs.Disk.{Image, Past, IsImage, Images, seen}
use Rattle.um_model.specs.Jobs.{Job, IsReady}
use Rattle.um_model.specs.Least.{IsLeast}
use Rattle.um_model.specs.Lives.{MayLeave, RunsOver, answered_in, HasInOrder, Offer}
use Rattle.um_model.specs.Machine.{State, Input, Run, goes, IsBefore}
use Rattle.um_model.specs.Numbers.{AreNew, started_numbers, actions_in}
use Rattle.um_model.specs.Service.{Action}
use Rattle.um_model.specs.Stands.{StandsFor, IsStoreOf}
use Rattle.um_model.specs.Store.{body_limit, store_sectors}
use Rattle.um_model.specs.declared.layout.Layout.{Layout}
use Rattle.um_model.specs.declared.layout.Slot.{Slot}
use Rattle.um_sector.specs.Left.{IsLeftBy}
use Rattle.um_wire.specs.declared.refusal.Refusal.{Refusal}
use Rattle.um_wire.specs.declared.refusal.Refusal.TheVariants.{GenerationsSpent}
use Rattle.um_manager.proofs.Carried.{stand_none, stand_both, starts_both, no_starts, starts_new, same_run, run_both, actions_both, done_both}
use Rattle.um_manager.specs.Done.{Told}
use Rattle.um_manager.specs.Lives.{FollowOnDisk, FollowInCalls, DiskPremises, ChildrenPremises, RunsThroughAll, at_end, and_on, StandIn, too, starts_in, done_in, MayBegin, BeginsInTurn, EachInTurn, Outlives}
use Rattle.um_manager.specs.Living.{ManagerLife, offers_of, told_of, IsByChildren}

-- ---- one life

-- each image is a store of some state
abbrev pub HasStores : Layout → Past → Type 0
HasStores layout disk = Images disk (λ image. (s : State) × IsStoreOf layout image s)

-- the facts that a run over a life's kept inputs carries: the reports to its clients, and the processes started in it
pub record Carries (size : ℕ) (life : ManagerLife) (s : State) (here : List Input) (t : State) : Type 0 where
  pub run : Run size s here t
  pub told : (k : ℕ) → StandIn (told_of k life.way) (done_in run)
  pub starts : IsByChildren life.way life.calls → (before : List Action) → StandIn (starts_in (orders life.before)) before
      → StandIn (starts_in (orders life.calls)) (before ++ starts_in (actions_in run))

-- the source of an image that the stop of a life leaves
pub record ComesFrom (layout : Layout) (life : ManagerLife) (image : Image) : Type 0 where
  pub from : Image
  pub was : IsImage life.disk from
  pub state : State
  pub store : IsStoreOf layout from state
  pub leaves : MayLeave layout state (offers_of life.way) image
  pub carries : (here : List Input) (t : State) → RunsOver (body_limit layout) state (offers_of life.way) here t → Carries (body_limit layout) life state here t

-- the facts of a life that is opened on stores, where a read gives one of them
abbrev pub MayLead : Layout → ManagerLife → Type 0
MayLead layout life =
    HasStores layout life.disk → IsImage life.disk (seen life.disk) → (image : Image) → IsImage life.stop image → ComesFrom layout life image

left_stores : (layout : Layout) (life : ManagerLife) → ((image : Image) → IsImage life.stop image → ComesFrom layout life image) → HasStores layout life.stop
left_stores layout life leads image there =
    let comes = leads image there in
    let (b, t, run, store) = one_life layout comes.state (offers_of life.way) image comes.leaves in
    (t, store)

-- ---- all lives

-- the same of all lives
record CarryAll (size : ℕ) (lives : List ManagerLife) (s : State) (kept : List Input) (t : State) : Type 0 where
  run : Run size s kept t
  told : (k : ℕ) → StandIn (flat_map (λ (life : ManagerLife). told_of k life.way) lives) (done_in run)
  starts : (calls all : List Call) → FollowInCalls calls lives all → AllByRecursion (λ (life : ManagerLife). IsByChildren life.way life.calls) lives → (before : List Action) → StandIn (starts_in (orders calls)) before
      → StandIn (starts_in (orders all)) (before ++ starts_in (actions_in run))

carry_none : (size : ℕ) (s : State) → CarryAll size [] s [] s
carry_none size s = record {
  run = Run.rests;
  told = λ k. stand_none [];
  starts = λ calls all follow each before had.
      subst (λ l. StandIn (starts_in (orders all)) l) (sym (append-nil before)) (subst (λ l. StandIn (starts_in (orders l)) before) (sym follow) had);
}

carry_more : (size : ℕ) (life : ManagerLife) (lives : List ManagerLife) (s t u : State) (here more : List Input) → Carries size life s here t → CarryAll size lives t more u
    → CarryAll size (life ∷ lives) s (here ++ more) u
carry_more size life lives s t u here more first rest = record {
  run = run_both first.run rest.run;
  told = λ k. subst (λ l. StandIn (told_of k life.way ++ flat_map (λ (life : ManagerLife). told_of k life.way) lives) l) (sym (done_both first.run rest.run))
      (stand_both (told_of k life.way) (done_in first.run) (flat_map (λ (life : ManagerLife). told_of k life.way) lives) (done_in rest.run) (first.told k) (rest.told k));
  starts = λ calls all follow each before had.
      let actions = actions_both first.run rest.run in
      let both = ap starts_in actions ∙ starts_both (actions_in first.run) (actions_in rest.run) in
      let one = first.starts each.0 before (subst (λ l. StandIn (starts_in (orders l)) before) (sym follow.0) had) in
      let two = rest.starts life.calls all follow.1 each.1 (before ++ starts_in (actions_in first.run)) one in
      subst (λ l. StandIn (starts_in (orders all)) l)
      (append_assoc before (starts_in (actions_in first.run)) (starts_in (actions_in rest.run)) ∙ ap (λ l. before ++ l) (sym both)) two;
}

-- the facts of all lives, of one image that the last stop leaves
record AllCome (layout : Layout) (disk : Past) (lives : List ManagerLife) (last : Image) : Type 0 where
  first : Image
  was : IsImage disk first
  s : State
  begun : IsStoreOf layout first s
  kept : List Input
  t : State
  run : RunsThroughAll (body_limit layout) s (map (λ (life : ManagerLife). offers_of life.way) lives) kept t
  carry : CarryAll (body_limit layout) lives s kept t
  store : IsStoreOf layout last t

one_more : (layout : Layout) (disk : Past) (life : ManagerLife) (lives : List ManagerLife) (last : Image) → IsLeftBy disk life.disk
    → ((image : Image) → IsImage life.stop image → ComesFrom layout life image) → AllCome layout life.stop lives last → AllCome layout disk (life ∷ lives) last
one_more layout disk life lives last found leads all =
    let comes = leads all.first all.was in
    let (b, t, over, store) = one_life layout comes.state (offers_of life.way) all.first comes.leaves in
    let same : t ≡ all.s = one_state layout all.first t all.s store.stands all.begun.stands in
    let to_there : RunsOver (body_limit layout) comes.state (offers_of life.way) b all.s = subst (λ u. RunsOver (body_limit layout) comes.state (offers_of life.way) b u) same over in
    record {
      first = comes.from;
      was = found.no_other comes.from comes.was;
      s = comes.state;
      begun = comes.store;
      kept = b ++ all.kept;
      t = all.t;
      run = and_on to_there all.run;
      carry = carry_more (body_limit layout) life lives comes.state all.s all.t b all.kept (comes.carries b all.s to_there) all.carry;
      store = all.store;
    }

all_come : (layout : Layout) (disk : Past) (lives : List ManagerLife) (stop : Past) → HasStores layout disk → FollowOnDisk disk lives stop → AllByRecursion (MayLead layout) lives
    → (last : Image) → IsImage stop last → AllCome layout disk lives last
all_come layout disk [] stop stores follow lead last there =
    let here : IsImage disk last = subst (λ p. IsImage p last) follow there in
    let (s, store) = stores last here in
    record { first = last; was = here; s = s; begun = store; kept = []; t = s; run = at_end; carry = carry_none (body_limit layout) s; store = store }
all_come layout disk (life ∷ lives) stop stores follow lead last there =
    let found = follow.0 in
    let leads = lead.0 (λ image is. stores image (found.no_other image is)) found.read in
    one_more layout disk life lives last found leads (all_come layout life.stop lives stop (left_stores layout life leads) follow.1 lead.1 last there)

-- ---- the facts that outlive all stops

in_order : (some all : List Input) → HasInOrder some all → StandIn some all
in_order some all HasInOrder.no_others = StandIn.no_others
in_order some all (HasInOrder.has {some = less} {all = more} rest) = too (in_order less more rest)
in_order some all (HasInOrder.between {all = more} rest) = StandIn.between (in_order some more rest)

has_answered : {size : ℕ} {s t : State} {lives : List (List Offer)} {kept : List Input} → RunsThroughAll size s lives kept t → StandIn (flat_map answered_in lives) kept
has_answered at_end = stand_none []
has_answered (and_on {offers = offers} {lives = lives} {here = here} {more = more} over run) =
    stand_both (answered_in offers) here (flat_map answered_in lives) more (in_order (answered_in offers) here (life_has_answered offers here (kept_of over))) (has_answered run)

-- a job that begins next may begin, and is the least that may
in_turn : (b : Begun) → WasNext b → BeginsInTurn b
in_turn b next = record {
  may = record {
    waits = next.has.waits;
    none_before = λ other before pends. next.has.free other (record { pends = pends; waits = next.has.waits; goes = before });
    settled = next.has.still;
  };
  least = λ other may. next.first other (record { waits = may.waits; free = λ third comes. may.none_before third comes.goes comes.pends; still = may.settled });
}

pub each_in_turn : {size : ℕ} {s t : State} {inputs : List Input} (run : Run size s inputs t) → EachInTurn run
each_in_turn Run.rests = tt
each_in_turn (goes reply actions step run) = (λ k d lt. in_turn _ (begun_next step k d lt), each_in_turn run)

-- the facts of an image that is opened, by um_keeper's laws
pub record Opens : Type 0 where
  pub stands : (count : ℕ) (layout : Layout) (image : Image) (slot : Slot) (generation : ℕ) (s : State) → IsTakenUp count image layout slot generation s → StandsFor layout image s
  pub spent : (count : ℕ) (layout : Layout) (image : Image) (s : State) (e : Refusal) → store_sectors layout ≤ count → StandsFor layout image s → IsUntaken count image e → e ≡ GenerationsSpent

-- Of lives that follow one another, from a store of an empty state on, each leading as far as a life does.
pub outlives : ((size : ℕ) (s t : State) (inputs : List Input) (run : Run size s inputs t) → RepeatsNone run) → Opens → (layout : Layout) (start : State) (lives : List ManagerLife) (stop : Past)
    → (given : DiskPremises layout start lives stop) → AllByRecursion (MayLead layout) lives → (image : Image) → IsImage stop image → Outlives layout start lives image
outlives repeats_none opening layout start lives stop given lead image there =
    let all = all_come layout given.made lives stop (λ one was. (start, given.created one was)) given.follow lead image there in
    let same : all.s ≡ start = one_state layout all.first all.s start all.begun.stands (given.created all.first all.was).stands in
    let run : RunsThroughAll (body_limit layout) start (map (λ (life : ManagerLife). offers_of life.way) lives) all.kept all.t =
    subst (λ u. RunsThroughAll (body_limit layout) u (map (λ (life : ManagerLife). offers_of life.way) lives) all.kept all.t) same all.run in
    let carry : CarryAll (body_limit layout) lives start all.kept all.t = subst (λ u. CarryAll (body_limit layout) lives u all.kept all.t) same all.carry in
    record {
      kept = all.kept;
      state = all.t;
      store = all.store;
      run = run;
      opens = λ count of slot generation s taken.
          let stands = opening.stands count of image slot generation s taken in
          one_state layout image s all.t (subst (λ l. StandsFor l image s) (one_layout stands.format all.store.stands.format of layout image stands.first all.store.stands.first) stands) all.store.stands;
      reopens = λ count e room untaken. opening.spent count layout image all.t e room all.store.stands untaken;
      answered = has_answered run;
      told = λ k other. subst (λ l. StandIn (flat_map (λ (life : ManagerLife). told_of k life.way) lives) l) (same_run (body_limit layout) start start all.t all.t all.kept refl carry.run other).1 (carry.told k);
      ready = each_in_turn;
      finished = repeats_none (body_limit layout) start all.t all.kept;
      started = λ calls children. starts_new start.next all.t.next (orders calls) (actions_in carry.run)
          (carried_by carry children) (run_numbers_rise (body_limit layout) start all.t all.kept carry.run);
      carried = λ calls children other.
          subst (λ l. StandIn (starts_in (orders calls)) (starts_in l)) (same_run (body_limit layout) start start all.t all.t all.kept refl carry.run other).0 (carried_by carry children);
    }
  where
    carried_by : {size : ℕ} {s t : State} {kept : List Input} {calls : List Call} (carry : CarryAll size lives s kept t) → ChildrenPremises lives calls
        → StandIn (starts_in (orders calls)) (starts_in (actions_in carry.run))
    carried_by {calls = calls} carry children =
        carry.starts children.before calls children.follow children.each []
        (subst (λ l. StandIn l []) (sym (no_starts (orders children.before) children.unstarted)) (stand_none []))
