-- One round after another.
use Rattle.std.proofs.Common.{◌≡◌, ◌≢◌, ◌⊎◌, ◌↔◌, inl, inr, ◌∙◌, ◌++◌, ◌∷◌, [], ◌≤◌, ◌<◌, ℕ, zero, suc, List, Bool, true, false, IsTrue, Result, Ok, Err, is_ok, refl, sym, ap, append_assoc, append-nil, true≢false, ◌||◌, length, rules, arith}
use Rattle.um_backlog.specs.Backlog.{Waits}
use Rattle.um_gate.specs.Events.{Event, Logs, Ticks}
use Rattle.um_manager.specs.Places.{Place, LogEnd, place, is_trusted}
use Rattle.um_manager.proofs.Turning.{turned_less}
use Rattle.um_manager.specs.Turns.{Now, now, Turns}
use Rattle.um_model.specs.Children.{Call}
use Rattle.um_model.specs.Disk.{Past}
use Rattle.um_model.specs.Machine.{State}
use Rattle.um_model.specs.Sessions.{Session}
use Rattle.um_manager.specs.declared.pieces.Piece.{Piece}
use Rattle.um_model.specs.declared.layout.Layout.{Layout}
use Rattle.um_serve.specs.Rounds.{Round, Trust, trust, Served, served, Gathers, AreHeldBack, heard_in, has_come, SaysBelow, any_stirred, IsRound, IsUntaken, ServesOne, Serves, EmptiesAll, is_want}
use Rattle.um_serve.specs.Sleep.{has_changed}
use Rattle.um_wire.specs.declared.refusal.Refusal.{Refusal}
use Rattle.um_wire.specs.declared.refusal.Refusal.TheVariants as refusal

wanted : (result : Result Unit Refusal) → is_want result ≡ true → result ≡ Err refusal.NoMemory
wanted (Ok u) w = absurd (true≢false (sym w))
wanted (Err refusal.BadRequest) w = absurd (true≢false (sym w))
wanted (Err (refusal.UnknownVerb x)) w = absurd (true≢false (sym w))
wanted (Err (refusal.BadName x)) w = absurd (true≢false (sym w))
wanted (Err (refusal.NotFound x)) w = absurd (true≢false (sym w))
wanted (Err (refusal.Masked x)) w = absurd (true≢false (sym w))
wanted (Err (refusal.BadSetting x y)) w = absurd (true≢false (sym w))
wanted (Err (refusal.NotLoaded x)) w = absurd (true≢false (sym w))
wanted (Err (refusal.Clash x)) w = absurd (true≢false (sym w))
wanted (Err (refusal.OrderingCycle x)) w = absurd (true≢false (sym w))
wanted (Err (refusal.JobConflict x)) w = absurd (true≢false (sym w))
wanted (Err (refusal.Exists x)) w = absurd (true≢false (sym w))
wanted (Err (refusal.BadPath x)) w = absurd (true≢false (sym w))
wanted (Err (refusal.TooLarge x)) w = absurd (true≢false (sym w))
wanted (Err refusal.NoRoom) w = absurd (true≢false (sym w))
wanted (Err refusal.NoMemory) w = refl
wanted (Err refusal.Device) w = absurd (true≢false (sym w))
wanted (Err refusal.Reopen) w = absurd (true≢false (sym w))
wanted (Err (refusal.Damaged x)) w = absurd (true≢false (sym w))
wanted (Err refusal.NotFormatted) w = absurd (true≢false (sym w))
wanted (Err refusal.GenerationsSpent) w = absurd (true≢false (sym w))
wanted (Err (refusal.NoSuchJob x)) w = absurd (true≢false (sym w))
wanted (Err refusal.OtherLayout) w = absurd (true≢false (sym w))

-- a turn that wants memory is the last of its rounds
pub wanting : (trust : Trust) (place : Place) (result : Result Unit Refusal) (r : Round) (x y : Served) → is_want result ≡ true → IsUntaken trust r x y
    → ServesOne trust place result x y
wanting trust place result r x y want untaken =
    inr (r, inr (record { refused = λ q. true≢false (sym want ∙ ap is_want q); untaken = λ _. untaken; is = λ not. absurd (not (wanted result want)) }))

-- a turn that wants none ends a round
pub gone : (trust : Trust) (place : Place) (result : Result Unit Refusal) (r : Round) (x y : Served) → is_want result ≡ false → IsRound trust place result r x y
    → ServesOne trust place result x y
gone trust place (Ok tt) r x y not is = inr (r, inl (refl, is))
gone trust place (Err e) r x y not is =
    inr (r, inr (record { refused = λ q. true≢false (sym (ap is_ok q)); untaken = λ q. absurd (true≢false (sym (ap is_want q) ∙ not)); is = λ _. is }))

pub same_place : {m n : ℕ} {k l : Layout} {h i f g : Bool} → n ≡ m → l ≡ k → i ≡ h → g ≡ f → place n l (is_trusted i g) ≡ place m k (is_trusted h f)
same_place {m} {n} {k} {l} {h} {i} {f} {g} size layout honest failed =
    ap (λ x. place x l (is_trusted i g)) size ∙ ap (λ (x : Layout). place m x (is_trusted i g)) layout ∙ ap (λ x. place m k (is_trusted x g)) honest ∙ ap (λ x. place m k (is_trusted h x)) failed

answered_no_device : {r : Result Unit Refusal} {u : Unit} → r ≡ Ok u → r ≡ Err refusal.Device → ⊥
answered_no_device p q = cc

-- a round that is answered fails no call
pub same_failed : {r : Result Unit Refusal} {u : Unit} {o n : Bool} → r ≡ Ok u → ((n ≡ true) ↔ ((o ≡ true) ⊎ (r ≡ Err refusal.Device))) → n ≡ o
same_failed {o = true} is failed = failed.1 (inl refl)
same_failed {o = false} {n = false} is failed = refl
same_failed {o = false} {n = true} is failed = elim (failed.0 refl) [ inl was ↦ sym was | inr device ↦ absurd (answered_no_device is device) ]

-- ---- one round

-- where there was no room nothing was done
pub unserved : {old new : List Event} {given : List ℕ} {waits left : List Waits} {was busy : Bool} {turned later : ℕ} {lost lost_then : Bool} {a : Now} → new ≡ old → left ≡ waits
    → busy ≡ was → later ≡ turned → lost_then ≡ lost → served new given left busy later lost_then a ≡ served old given waits was turned lost a
unserved {old} {new} {given} {waits} {left} {was} {busy} {turned} {later} {lost} {lost_then} {a} past rest quiet turn same =
    ap (λ es. served es given left busy later lost_then a) past ∙ ap (λ ws. served old given ws busy later lost_then a) rest
    ∙ ap (λ b. served old given waits b later lost_then a) quiet ∙ ap (λ m. served old given waits was m lost_then a) turn
    ∙ ap (λ b. served old given waits was turned b a) same

pub same_now : {s t : State} {p q : List Call} {m n : List ℕ} {d e : Past} {k l : LogEnd} (us vs : List Session) → t ≡ s → q ≡ p → n ≡ m → e ≡ d → l ≡ k
    → now t q n vs e l ≡ record (now s p m us d k) { sessions = vs }
same_now {s} {t} {p} {q} {m} {n} {d} {e} {k} {l} us vs state past marks disk log =
    ap (λ x. now x q n vs e l) state ∙ ap (λ x. now s x n vs e l) past ∙ ap (λ x. now s p x vs e l) marks ∙ ap (λ x. now s p m vs x l) disk
    ∙ ap (λ (x : LogEnd). now s p m vs d x) log

-- the reads of a round
abbrev round_at : {honest whole busy : Bool} {held : List Bool} {pieces : List Piece} {old new : List Event} {waits left : List Waits} → Gathers honest whole held pieces old new waits left busy
    → ℕ → Round
round_at {held = held} {pieces = pieces} g moment = record { which = g.which; held = held; pieces = pieces; moment = moment }

-- a turn that found no memory
pub untaken_round : {children calls gate events clock moments busy lost : Bool} {held : List Bool} {pieces : List Piece} {waits left : List Waits} {given more : List ℕ} {moment : ℕ} {a b : Now}
    → (was : Bool) (old new : List Event) (turned later : ℕ) (at : Place) (result : Result Unit Refusal) → Gathers gate events held pieces old new waits left busy
    → AreHeldBack a.sessions waits held → Ticks clock moments given more (moment ∷ []) → Turns at result children calls moment pieces a b → is_want result ≡ true → later ≡ turned → lost ≡ false
    → ServesOne (trust children calls gate events clock moments) at result (served old given waits was turned lost a) (served new more left busy later true b)
untaken_round {moment = moment} was old new turned later at result g are ticks turns want turn working =
    let r = round_at g moment in
    wanting _ at result r _ _ want
    (record {
      working = working;
      hears = record {
        only_open = g.only_open;
        are_held = are;
        none_of_held = g.none_of_held;
        past = λ h w. g.past h w ∙ ap (λ es. old ++ es) (sym (append-nil (heard_in r)));
        given = ticks;
        forgets = g.forgets;
      };
      untouched = turns.0 (wanted result want);
      busy = g.busy_is;
      moment_is = turn;
      lost = refl;
    })

-- a turn that was taken, and the output handed to the gate then
pub done_round : {children calls taken gate later_gate before events clock moments busy came stirred changed lost lost_then : Bool} {held : List Bool} {pieces : List Piece} {waits forgot left : List Waits} {given more : List ℕ} {moment : ℕ}
    {a b d : Now} → (was : Bool) (old new later said : List Event) (turned : ℕ) (at : Place) (result : Result Unit Refusal) → Gathers gate before held pieces old new waits forgot came
    → (IsTrue gate → IsTrue later_gate) → (IsTrue events → IsTrue before) → AreHeldBack a.sessions waits held → Ticks clock moments given more (moment ∷ [])
    → Turns at result children taken moment pieces a b → (IsTrue calls → IsTrue taken) → is_want result ≡ false → SaysBelow 64 b.sessions forgot said left
    → Logs later_gate events new later said → busy ≡ (came || (stirred || changed)) → stirred ≡ any_stirred 64 b.sessions forgot left → changed ≡ has_changed a.state d.state → EmptiesAll b.sessions d.sessions
    → d ≡ record b { sessions = d.sessions } → lost ≡ false → lost_then ≡ lost
    → ServesOne (trust children calls gate events clock moments) at result (served old given waits was turned lost a) (served later more left busy moment lost_then d)
done_round {stirred = stirred} {changed = changed} {pieces = pieces} {forgot = forgot} {left = left} {moment = moment} {b = b} was old new later said turned at result g honest whole are ticks turns kept want says handed was_busy stirs changes empties rest working same =
    let r = round_at g moment in
    gone _ at result r _ _ want
    (record {
      working = working;
      said = said;
      waits = forgot;
      hears = record {
        only_open = g.only_open;
        are_held = are;
        none_of_held = g.none_of_held;
        past = λ h w. handed (honest h) w ∙ ap (λ es. es ++ said) (g.past h (whole w)) ∙ append_assoc old (heard_in r) said;
        given = ticks;
        forgets = g.forgets;
      };
      turn = b;
      turns = (turns.0, λ not. turned_less (λ h. h) kept (turns.1 not));
      says = says;
      empties = empties;
      rest = rest;
      busy = was_busy ∙ ap (λ x. x || (stirred || changed)) g.busy_is ∙ ap (λ x. has_come pieces || (x || changed)) stirs
          ∙ ap (λ x. has_come pieces || (any_stirred 64 b.sessions forgot left || x)) changes;
      moment_is = refl;
      none_lost = same ∙ working;
    })

-- ---- rounds

-- a round that is answered is one
pub round_of : (trust : Trust) (place : Place) (u : Unit) (x y : Served) → ServesOne trust place (Ok u) x y → ((r : Round) × IsRound trust place (Ok tt) r x y)
round_of trust at tt x y (inl p) = absurd (true≢false (ap is_ok p.0))
round_of trust at tt x y (inr (r, inl p)) = (r, p.1)
round_of trust at tt x y (inr (r, inr p)) = absurd (p.refused refl)

-- a round that is refused is the last
pub last_of : (trust : Trust) (place : Place) (e : Refusal) (x y : Served) → ServesOne trust place (Err e) x y
    → ((rs : List Round) × (length rs ≤ 1) × Serves trust place rs (Err e) x y)
last_of trust at e x y (inl p) = ([], search rules, (inr p.0, p.1))
last_of trust at e x y (inr (r, inl p)) = absurd (true≢false (sym (ap is_ok p.0)))
last_of trust at e x y (inr (r, inr p)) = (r ∷ [], search rules, inr (refl, p))

-- where all rounds were answered none is refused because of an earlier call
pub all_rounds : (limit count : ℕ) (failed : Bool) → (0 < count → failed ≡ false) → count ≡ limit
    → (◌≡◌ {A = Result Unit Refusal} (Ok tt) (Err refusal.Reopen)) ↔ ((failed ≡ true) × (limit ≢ 0))
all_rounds zero count failed worked done = ((λ is. cc), (λ p. absurd (p.1 refl)))
all_rounds (suc n) count failed worked done = ((λ is. cc), (λ p. absurd (true≢false (sym p.0 ∙ worked (omega (arith, done))))))

-- the last round is refused so exactly where a call failed before them all
pub last_round : {r : Result Unit Refusal} {f h : Bool} (limit count : ℕ) → f ≡ h → count < limit → (r ≢ Err refusal.NoMemory → (r ≡ Err refusal.Reopen) ↔ (f ≡ true))
    → r ≢ Err refusal.NoMemory → (r ≡ Err refusal.Reopen) ↔ ((h ≡ true) × (limit ≢ 0))
last_round limit count same within exactly other =
    let both = exactly other in ((λ is. (sym same ∙ both.0 is, λ e. absurd (omega (arith, within, e)))), (λ p. both.1 (same ∙ p.0)))
