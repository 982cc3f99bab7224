-- The parts of a turn, taken together.
use Rattle.std.specs.Prelude.{IfErr}
use Rattle.std.proofs.Common.{◌≡◌, ◌⊎◌, ◌||◌, inl, inr, ℕ, List, [], ◌∷◌, ◌++◌, length, drop, map, flat_map, Bool, IsTrue, Option, Result, Ok, Err, cond, refl, sym, ap, subst, ◌∙◌, append_assoc, append-nil}
use Rattle.um_keeper.specs.Answering.{all_asked, taken, AreSpentAsMeant}
use Rattle.um_keeper.specs.Keeping.{IsBegun}
use Rattle.um_model.specs.Children.{Call, Tale, orders, orders_in, tales, tales_in, refused, refusals_in}
use Rattle.um_model.specs.Service.{ByUnit, Action}
use Rattle.um_model.specs.declared.service.UnitState.{UnitState}
use Rattle.um_model.specs.Machine.{State, Input, Reply}
use Rattle.um_model.specs.Store.{body_limit}
use Rattle.um_model.specs.Sessions.{Session, Does, Room}
use Rattle.um_model.specs.Stands.{IsStoreOf}
use Rattle.um_laws.proofs.DiskLaws.{started, at_end}
use Rattle.um_proto.specs.declared.request.Request.{Request}
use Rattle.um_sector.specs.Refused.{IsLost}
use Rattle.um_wire.specs.declared.refusal.Refusal.{Refusal}
use Rattle.um_wire.specs.declared.refusal.Refusal.TheVariants.{Device, Reopen}
use Rattle.um_manager.specs.Connections.{AllSame, TakesPiece, CutsAll, Took, inputs_asked, due_of}
use Rattle.um_fates.specs.Fates.{Heard, asks_for, unexecuted, tick_at}
use Rattle.um_fates.specs.Live.{has, AreLive, HasFewLive}
use Rattle.um_children.specs.History.{lets_go, lets_any}
use Rattle.um_manager.specs.Orders.{Grew, LetGo}
use Rattle.um_manager.proofs.Letting.{spares_all, nothing_came}
use Rattle.std.specs.List.{list_any}
use Rattle.std.proofs.lemmas.List.Concat.{flat_map-append}
use Rattle.std.proofs.lemmas.List.Folds.{list_any-append}
use Rattle.um_manager.specs.Places.{Place}
use Rattle.um_manager.specs.Replies.{PaysAll}
use Rattle.um_manager.specs.Stores.{Submits}
use Rattle.um_manager.proofs.Stepping.{all_begun, and_behind, few_behind, fewer_behind}
use Rattle.um_manager.specs.Turns.{Now, now, firsts, inputs_of, Answers, Tells, MakesFewCalls, MakesFewerCalls, with_step, Leaves, WritesOn, Called, Turned}
use Rattle.um_manager.specs.declared.pieces.Piece.{Piece}
use Rattle.um_manager.specs.declared.pieces.Piece.TheVariants.{Nothing, Bytes, Closed}
use Rattle.um_manager.specs.declared.taking.Due.{Due}

pub all_same : (ts : List Session) → AllSame ts ts
all_same [] = tt
all_same (t ∷ ts) = ((refl, refl, refl), all_same ts)

-- room for a piece changes nothing of the state that follows it
takes_roomy : (t r u : Session) (p : Piece) → Does t Room r → TakesPiece r p u → TakesPiece t p u
takes_roomy t r u Nothing same takes = (takes.0 ∙ same.0, takes.1 ∙ same.1, takes.2 ∙ same.2)
takes_roomy t r u (Bytes bytes) same takes = (takes.0 ∙ ap (λ b. cond b r.rest (r.rest ++ bytes.items)) same.2 ∙ ap (λ rest. cond t.failed rest (rest ++ bytes.items)) same.0, takes.1 ∙ same.1, takes.2 ∙ same.2)
takes_roomy t r u Closed same takes = takes

cuts_roomy : (ts rs us : List Session) (ps : List Piece) (qs : List (Option (Result Request Refusal))) → AllSame ts rs → CutsAll rs ps qs us → CutsAll ts ps qs us
cuts_roomy [] [] us ps qs same cuts = cuts
cuts_roomy [] (r ∷ rs) us ps qs same cuts = absurd same
cuts_roomy (t ∷ ts) [] us ps qs same cuts = absurd same
cuts_roomy (t ∷ ts) (r ∷ rs) [] [] [] same cuts = absurd cuts
cuts_roomy (t ∷ ts) (r ∷ rs) [] [] (q ∷ qs) same cuts = absurd cuts
cuts_roomy (t ∷ ts) (r ∷ rs) [] (p ∷ ps) [] same cuts = absurd cuts
cuts_roomy (t ∷ ts) (r ∷ rs) [] (p ∷ ps) (q ∷ qs) same cuts = absurd cuts
cuts_roomy (t ∷ ts) (r ∷ rs) (u ∷ us) [] [] same cuts = absurd cuts
cuts_roomy (t ∷ ts) (r ∷ rs) (u ∷ us) [] (q ∷ qs) same cuts = absurd cuts
cuts_roomy (t ∷ ts) (r ∷ rs) (u ∷ us) (p ∷ ps) [] same cuts = absurd cuts
cuts_roomy (t ∷ ts) (r ∷ rs) (u ∷ us) (p ∷ ps) (q ∷ qs) same cuts =
    ((cuts.0.0, takes_roomy t r cuts.0.0 p same.0 cuts.0.1, cuts.0.2), cuts_roomy ts rs us ps qs same.1 cuts.1)

-- the calls of a turn: those that ask, those that order, and those that let numbers go
pub called : (units : ByUnit UnitState) (store : Result Unit Refusal) (told : List Tale) (actions : List Action) (old heard grown new : List Call) (marks marked : List ℕ) → HasFewLive units
    → heard ≡ old ++ map asks_for told → Grew units heard grown marks marked actions → LetGo units grown new → ((e : Refusal) → store ≡ Err e → new ≡ grown)
    → Called units store told actions old new marks marked
called units store told actions old heard grown new marks marked few asked grew let_go still = record {
  given = grew.given ++ let_go.given;
  past_is = let_go.past_is ∙ ap (λ l. l ++ let_go.given) (grew.past_is ∙ ap (λ l. l ++ grew.given) asked ∙ append_assoc old (map asks_for told) grew.given)
      ∙ append_assoc old (map asks_for told ++ grew.given) let_go.given ∙ ap (λ l. old ++ l) (append_assoc (map asks_for told) grew.given let_go.given);
  orders_are = flat_map-append orders_in grew.given let_go.given ∙ ap (λ l. l ++ orders let_go.given) grew.orders_are ∙ ap (λ l. actions ++ l) let_go.no_order ∙ append-nil actions;
  no_tale = flat_map-append tales_in grew.given let_go.given ∙ ap (λ l. l ++ tales let_go.given) grew.no_tale ∙ let_go.no_tale;
  spared = λ n live. list_any-append (lets_go n) grew.given let_go.given ∙ ap (λ b. b || list_any (lets_go n) let_go.given) (spares_all n grew.given grew.kept) ∙ let_go.spared n live;
  kept = λ e is. ap (λ l. list_any lets_any (grew.given ++ l)) (nothing_came grown let_go.given (sym (still e is) ∙ let_go.past_is)) ∙ ap (list_any lets_any) (append-nil grew.given) ∙ grew.kept;
  marks_are = λ n live. grew.marks_are few n live ∙ ap (λ l. has n marks || has n l)
      (sym (flat_map-append refusals_in grew.given let_go.given ∙ ap (λ l. refused grew.given ++ l) let_go.no_refusal ∙ append-nil (refused grew.given)));
}

pub turned : (place at : Place) (store result : Result Unit Refusal) (moment : ℕ) (pieces : List Piece) (a m b : Now) (live : List ℕ) (past grown : List Call) (roomy cut : List Session)
    (heard ticked inputs : List Input) (count : ℕ) (owed : List Due) (replies rest : List Reply) (h k w n y : Bool)
    → AreLive a.state.units live → HasFewLive m.state.units → AllSame a.sessions roomy
    → Heard unexecuted moment (λ n. has n a.marks) h n a.past past live [] heard → ticked ≡ heard ++ tick_at moment ∷ [] → count ≡ length ticked
    → Took moment roomy pieces cut ticked inputs [] owed
    → Submits place store inputs replies k w (now a.state past a.marks [] a.disk a.log) (now m.state grown b.marks [] m.disk m.log)
    → WritesOn at store result m (now b.state [] [] [] b.disk b.log) → at.layout ≡ place.layout → (IsTrue place.trusted → store ≡ Ok tt → IsTrue at.trusted)
    → place.size ≡ body_limit place.layout
    → (IsTrue k → IsTrue y → LetGo m.state.units grown b.past) → ((e : Refusal) → store ≡ Err e → b.past ≡ grown) → rest ≡ drop count replies → PaysAll m.state owed rest cut b.sessions → k ≡ h → (IsTrue w → IsTrue n) → (IsTrue y → IsTrue w) → Turned place h y result moment pieces a b
turned place at store result moment pieces a m b live past grown roomy cut heard ticked inputs count owed replies rest h k w n y are_live few room told tick counted took submits writes there sure sized lets still_there rest_is pays same fewer still =
    let sub = submits.1 in
    let first : ticked ≡ firsts moment told.told = tick ∙ ap (λ l. l ++ tick_at moment ∷ []) told.inputs_are in
    let all : inputs ≡ inputs_of moment told.told took.requests = took.inputs_are ∙ ap (λ l. l ++ flat_map (inputs_asked moment) took.requests) first in
    let begun = IsBegun place.layout a.state (taken inputs sub.answers) in
    let on = and_behind place at store result m (now b.state [] [] [] b.disk b.log) writes there in
    subst (λ (s : State). Turned place h y result moment pieces a (record b { state = s })) (sym writes.state)
    (record {
      live = live;
      are_live = are_live;
      told = told.told;
      of_live = told.of_live;
      requests = took.requests;
      cut = cut;
      cuts = cuts_roomy a.sessions roomy cut pieces took.requests room took.cuts;
      store = store;
      behind = writes.behind;
      result_is = writes.result_is;
      behind_is = writes.behind_is;
      answers = sub.answers;
      answered = subst (λ l. Answers place a.state l sub.answers m.state) all sub.answered;
      tells = subst (λ l. Tells store place.size a.state l sub.answers m.state) all sub.tells;
      order = sub.order;
      spent = λ from free. subst (λ l. AreSpentAsMeant place.layout b.log.generation place.size from a.state l sub.answers) all
          (subst (λ g. AreSpentAsMeant place.layout g place.size from a.state inputs sub.answers) (sym writes.generation) (sub.spent from free));
      few = λ ok. subst (λ l. MakesFewCalls place a.state l sub.answers m.state (with_step a.log) b.log) all
          (few_behind place at store result a.state m.state inputs sub.answers a.log m (now b.state [] [] [] b.disk b.log) writes (sub.few ok));
      fewer = λ ok. subst (λ l. MakesFewerCalls place a.state l sub.answers m.state (with_step a.log) b.log) all
          (fewer_behind place at store result a.state m.state inputs sub.answers a.log m (now b.state [] [] [] b.disk b.log) writes (sub.fewer ok));
      paid = subst (λ l. PaysAll m.state (map due_of took.requests) l cut b.sessions)
          (rest_is ∙ ap (λ n. drop n replies) (counted ∙ ap length first) ∙ ap (λ l. drop (length (firsts moment told.told)) l) sub.replies_are)
          (subst (λ l. PaysAll m.state l rest cut b.sessions) took.due_are pays);
      left = λ t. subst (λ l. Leaves place a.state l sub.answers a.disk b.disk) all
          (on (sure t) a.disk begun (λ ok image store_of. all_begun place.layout place.size a.state m.state inputs sub.answers image sized (sub.tells.ok ok) store_of) (sub.left t));
      stored = λ t ok. at_end m.disk b.disk (λ image. IsStoreOf place.layout image m.state)
          (on (sure t) m.disk (λ image. IsStoreOf place.layout image m.state) (λ so image store_of. store_of) (started m.disk (λ image. IsStoreOf place.layout image m.state) (sub.stored t ok)));
      offered = m.disk;
      meanwhile = λ t.
          let first = sub.left t in
          let later = on (sure t) m.disk (λ image. Unit) (λ so image store_of. tt) (started m.disk (λ image. Unit) (λ image is. tt)) in
          record { calls = first.calls; later = later.calls; at_is = first.is; new_is = later.is };
      steady = λ t ok. on (sure t) m.disk (λ image. IsStoreOf place.layout image m.state) (λ so image store_of. store_of)
          (started m.disk (λ image. IsStoreOf place.layout image m.state) (sub.stored t ok));
      called = λ honest whole.
          called m.state.units store told.told (all_asked sub.answers) a.past past grown b.past a.marks b.marks few (told.past_is honest (fewer (still whole)))
          (sub.grew (subst IsTrue (sym same) honest) (still whole)) (lets (subst IsTrue (sym same) honest) whole) still_there;
    })

-- the same turn, of a history of which less is known
pub turned_less : {place : Place} {h k w v : Bool} {result : Result Unit Refusal} {moment : ℕ} {pieces : List Piece} {a b : Now} → (IsTrue k → IsTrue h) → (IsTrue v → IsTrue w)
    → Turned place h w result moment pieces a b → Turned place k v result moment pieces a b
turned_less less fewer t = record {
  live = t.live;
  are_live = t.are_live;
  told = t.told;
  of_live = t.of_live;
  requests = t.requests;
  cut = t.cut;
  cuts = t.cuts;
  store = t.store;
  behind = t.behind;
  result_is = t.result_is;
  behind_is = t.behind_is;
  answers = t.answers;
  answered = t.answered;
  tells = t.tells;
  order = t.order;
  spent = t.spent;
  few = t.few;
  fewer = t.fewer;
  paid = t.paid;
  left = t.left;
  stored = t.stored;
  offered = t.offered;
  meanwhile = t.meanwhile;
  steady = t.steady;
  called = λ honest whole. t.called (less honest) (fewer whole);
}

pub not_refused : (r : Result Unit Refusal) (u : Unit) (e : Refusal) → r ≡ Ok u → r ≡ Err e → ⊥
not_refused r u e p q = cc
