-- What outlives a crash: the last image stands for the state that the kept inputs lead to, and these hold all that were answered.
use Rattle.std.proofs.Common.{◌≡◌, ℕ, List, [], ◌∷◌, ◌++◌, refl, sym, subst}
use Rattle.um_model.specs.Disk.{Image}
use Rattle.um_model.specs.Machine.{State, Input, Run, rests, goes}
use Rattle.um_model.specs.Stands.{IsStoreOf}
use Rattle.um_model.specs.Store.{body_limit}
use Rattle.um_model.specs.Lives.{Outcome, answered, turned_away, unanswered, Offer, Life, AreUnanswered, none, turned, lost, MayLeave, holds, takes, turns_away, Lived, ended, lived, IsKept, no_more, keeps, passes, AreKept, all_kept, and_life}
use Rattle.um_model.specs.Lives.{RunsOver, stays, steps, leaves_out, RunsThrough, at_end, and_on, where_answered, answered_in, all_answered, HasInOrder, no_others, has, between}
use Rattle.um_model.specs.declared.layout.Layout.{Layout}
use Rattle.um_laws.proofs.MachineLaws.{run-append}
use Rattle.um_laws.proofs.StandsLaws.{one_state}

-- ---- one life

-- the image that a life left is a store of the state at the end of a run over the inputs kept
pub one_life : (layout : Layout) (s : State) (offers : List Offer) (image : Image) → MayLeave layout s offers image
    → (b : List Input) × (t : State) × RunsOver (body_limit layout) s offers b t × IsStoreOf layout image t
one_life layout s offers image (holds store none_answered) = ([], s, stays none_answered, store)
one_life layout s (offer ∷ offers) image (takes reply actions may step leaves) =
    let (b, t, run, store) = one_life layout _ offers image leaves in
    (offer.input ∷ b, t, steps reply actions may step run, store)
one_life layout s (offer ∷ offers) image (turns_away leaves) =
    let (b, t, run, store) = one_life layout s offers image leaves in
    (b, t, leaves_out run, store)

-- the inputs that it runs over are kept, and it is a run
pub kept_of : {size : ℕ} {s t : State} {offers : List Offer} {b : List Input} → RunsOver size s offers b t → IsKept offers b
kept_of (stays none_answered) = no_more none_answered
kept_of (steps reply actions may step run) = keeps reply may (kept_of run)
kept_of (leaves_out run) = passes (kept_of run)

pub run_of : {size : ℕ} {s t : State} {offers : List Offer} {b : List Input} → RunsOver size s offers b t → Run size s b t
run_of (stays none_answered) = rests
run_of (steps reply actions may step run) = goes reply actions step (run_of run)
run_of (leaves_out run) = run_of run

-- ---- all lives

-- All lives are one run over the inputs kept of them, from the state that the first image stands for; the last image stands for its end.
pub lives_run : (layout : Layout) (first last : Image) (lives : List Life) (s : State) → IsStoreOf layout first s → Lived layout first lives last
    → (b : List Input) × (t : State) × RunsThrough (body_limit layout) s lives b t × IsStoreOf layout last t
lives_run layout first last [] s store ended = ([], s, at_end, store)
lives_run layout first last (life ∷ lives) s store (lived {s = begun} opened leaves more) =
    let same : begun ≡ s = one_state layout first begun s opened.stands store.stands in
    let (here, t, run, left) = one_life layout s life.offers life.image (subst (λ x. MayLeave layout x life.offers life.image) same leaves) in
    let (others, u, later, stands) = lives_run layout life.image last lives t left more in
    (here ++ others, u, and_on run later, stands)

pub all_kept_of : {size : ℕ} {s t : State} {lives : List Life} {b : List Input} → RunsThrough size s lives b t → AreKept lives b
all_kept_of at_end = all_kept
all_kept_of (and_on run later) = and_life (kept_of run) (all_kept_of later)

pub whole_run_of : {size : ℕ} {s t : State} {lives : List Life} {b : List Input} → RunsThrough size s lives b t → Run size s b t
whole_run_of at_end = rests
whole_run_of (and_on run later) = run-append _ _ _ _ _ _ (run_of run) (whole_run_of later)

-- so the last image stands for the state that the kept inputs lead to
pub lives_from : (layout : Layout) (first last : Image) (lives : List Life) (s : State) → IsStoreOf layout first s → Lived layout first lives last
    → (b : List Input) × AreKept lives b × (t : State) × Run (body_limit layout) s b t × IsStoreOf layout last t
lives_from layout first last all s store led =
    let (b, t, run, stands) = lives_run layout first last all s store led in
    (b, all_kept_of run, t, whole_run_of run, stands)

-- ---- answered inputs are kept

-- nothing was answered
none_had : (offers : List Offer) → AreUnanswered offers → answered_in offers ≡ []
none_had [] none = refl
none_had (_ ∷ offers) (turned more) = none_had offers more
none_had (_ ∷ offers) (lost more) = none_had offers more

-- two such lists, one after the other
in_order_both : (a b c d : List Input) → HasInOrder a b → HasInOrder c d → HasInOrder (a ++ c) (b ++ d)
in_order_both a b c d no_others more = more
in_order_both a b c d (has {some = some} {all = all} rest) more = has (in_order_both some all c d rest more)
in_order_both a b c d (between {all = all} rest) more = between (in_order_both a all c d rest more)

-- The inputs kept of a life hold all that were answered in it, in their order.
pub life_has_answered : (offers : List Offer) (b : List Input) → IsKept offers b → HasInOrder (answered_in offers) b
life_has_answered offers [] (no_more none_answered) = subst (λ l. HasInOrder l []) (sym (none_had offers none_answered)) no_others
life_has_answered (offer ∷ offers) (_ ∷ b) (keeps reply may kept) = by offer.outcome (life_has_answered offers b kept)
  where
    by : (o : Outcome) → HasInOrder (answered_in offers) b → HasInOrder (where_answered o offer.input ++ answered_in offers) (offer.input ∷ b)
    by (answered r) rest = has rest
    by turned_away rest = between rest
    by unanswered rest = between rest
life_has_answered (offer ∷ offers) b (passes kept) = life_has_answered offers b kept

-- The inputs kept of all lives hold all that were answered, in their order.
pub has_answered : (all : List Life) (b : List Input) → AreKept all b → HasInOrder (all_answered all) b
has_answered all b all_kept = no_others
has_answered all b (and_life {life = life} {lives = more_lives} {here = here} {more = more} kept rest) =
    in_order_both (answered_in life.offers) here (all_answered more_lives) more (life_has_answered life.offers here kept) (has_answered more_lives more rest)
