-- A connection is served since it was opened: each request is one of its own frames, and each reply is put out for it.
use Rattle.std.proofs.Common.{◌≡◌, ◌≢◌, ◌⊎◌, ◌∙◌, inl, inr, ℕ, List, [], ◌∷◌, ◌++◌, map, flat_map, Bool, true, false, Option, Some, None, Result, Ok, Err, slice_get, append_assoc, append-nil, refl, sym, ap, subst}
use Rattle.std.proofs.lemmas.List.Concat.{flat_map-append}
use Rattle.um_model.specs.Machine.{Reply}
use Rattle.um_model.specs.Sessions.{Session, Deed, Room, Take, Does, Lives, goes_on, bytes_fed, readings, IsReadOf}
use Rattle.um_model.specs.Sessions as model
use Rattle.um_laws.proofs.SessionsLaws.{session_reads}
use Rattle.um_wire.specs.declared.refusal.Refusal.{Refusal}
use Rattle.um_manager.proofs.Clients.{none_some, some_same, joined, one_turn, closed_turn, Story, put_more, given_join, map_join}
use Rattle.um_manager.specs.Clients.{Exchange, AreGiven, frame_in, ArePut, bytes_in, IsSameAt, HasHad, opens, closes, turns, takes, rests, AreHad, with_taken, IsServed}
use Rattle.um_manager.specs.Connections.{IsNew}
use Rattle.um_manager.specs.Replies.{IsOutput}
use Rattle.um_manager.specs.Turns.{Now}

-- the facts known of a connection
record Known (bytes taken : List ℕ) (exchanges : List Exchange) (t : Session) : Type 0 where
  first : Session
  is_new : IsNew first
  deeds : List Deed
  lives : Lives first deeds t
  fed : flat_map bytes_fed deeds ≡ bytes
  asked : List model.Asked
  reads : flat_map readings deeds ≡ asked
  given : AreGiven (map (λ (x : Exchange). x.0) exchanges) asked
  put : ArePut [] (map (λ (x : Exchange). x.1) exchanges) (with_taken taken t)

known_new : (t : Session) → IsNew t → Known [] [] [] t
known_new t new = record { first = t; is_new = new; deeds = []; lives = Lives.rests; fed = refl; asked = []; reads = refl; given = tt; put = inl new.1 }

-- the output of a turn, with the bytes taken before
put_with : (taken : List ℕ) (t u : Session) (replies : List Reply) → ArePut t.output replies u → ArePut (taken ++ t.output) replies (with_taken taken u)
put_with taken t u replies (inl e) = inl (ap (λ l. taken ++ l) e ∙ sym (append_assoc taken t.output (flat_map frame_in replies)))
put_with taken t u replies (inr (failed, most, last, is, e)) =
    inr (failed, most, last, is, ap (λ l. taken ++ l) e ∙ sym (append_assoc taken t.output (flat_map frame_in most)))

known_turn : (bytes taken more : List ℕ) (all here : List Exchange) (t u : Session) → Known bytes taken all t → Story t u more here
    → Known (bytes ++ more) taken (all ++ here) u
known_turn bytes taken more all here t u known story = record {
  first = known.first;
  is_new = known.is_new;
  deeds = known.deeds ++ story.deeds;
  lives = joined known.lives story.lives;
  fed = flat_map-append bytes_fed known.deeds story.deeds ∙ ap (λ l. l ++ flat_map bytes_fed story.deeds) known.fed ∙ ap (λ l. bytes ++ l) story.fed;
  asked = known.asked ++ story.asked;
  reads = flat_map-append readings known.deeds story.deeds ∙ ap (λ l. l ++ flat_map readings story.deeds) known.reads ∙ ap (λ l. known.asked ++ l) story.reads;
  given = given_join all here known.asked story.asked known.given story.given;
  put = subst (λ l. ArePut [] l (with_taken taken u)) (sym (map_join (λ (x : Exchange). x.1) all here))
      (put_more [] (map (λ (x : Exchange). x.1) all) (map (λ (x : Exchange). x.1) here) (with_taken taken t) (with_taken taken u) known.put
      (put_with taken t u (map (λ (x : Exchange). x.1) here) story.put)
      (λ failed. let none = story.stuck failed in (ap (map (λ (x : Exchange). x.1)) none.0, none.1, ap (λ l. taken ++ l) none.2)));
}

put_same : (replies : List Reply) (t u : Session) → u.output ≡ t.output → u.failed ≡ t.failed → ArePut [] replies t → ArePut [] replies u
put_same replies t u output failed (inl e) = inl (output ∙ e)
put_same replies t u output failed (inr (is, most, last, are, e)) = inr (failed ∙ is, most, last, are, output ∙ e)

-- one deed that feeds and reads nothing
known_deed : (bytes taken out : List ℕ) (all : List Exchange) (t u : Session) (deed : Deed) → Known bytes taken all t → Does t deed u → bytes_fed deed ≡ []
    → readings deed ≡ [] → (with_taken out u).output ≡ (with_taken taken t).output → u.failed ≡ t.failed → Known bytes out all u
known_deed bytes taken out all t u deed known does fed read output failed = record {
  first = known.first;
  is_new = known.is_new;
  deeds = known.deeds ++ (deed ∷ []);
  lives = joined known.lives (goes_on does Lives.rests);
  fed = flat_map-append bytes_fed known.deeds (deed ∷ []) ∙ ap (λ l. flat_map bytes_fed known.deeds ++ (l ++ [])) fed ∙ append-nil (flat_map bytes_fed known.deeds) ∙ known.fed;
  asked = known.asked;
  reads = flat_map-append readings known.deeds (deed ∷ []) ∙ ap (λ l. flat_map readings known.deeds ++ (l ++ [])) read ∙ append-nil (flat_map readings known.deeds) ∙ known.reads;
  given = known.given;
  put = put_same (map (λ (x : Exchange). x.1) all) (with_taken taken t) (with_taken out u) output failed known.put;
}

-- ---- a connection at a moment

record At {k : ℕ} {bytes taken : List ℕ} {a : Now} (had : HasHad k bytes taken a) : Type 0 where
  t : Session
  at : slice_get a.sessions k ≡ Some t
  all : List Exchange
  are : AreHad had all
  known : Known bytes taken all t

out_at : (t u : Option Session) (out : List ℕ) (failed : Bool) (x : Session) → t ≡ Some x → IsOutput t out failed u
    → (y : Session) × (u ≡ Some y) × Does x (Take out) y
out_at None u out failed x at output = absurd (none_some at)
out_at (Some t) None out failed x at output = absurd output
out_at (Some t) (Some u) out failed x at output = (u, refl, subst (λ z. Does z (Take out) u) (some_same at) output.0)

pub same_at : (t u : Option Session) (x : Session) → t ≡ Some x → IsSameAt t u → (y : Session) × (u ≡ Some y) × Does x Room y
same_at None u x at same = absurd (none_some at)
same_at (Some t) None x at same = absurd same
same_at (Some t) (Some u) x at same = (u, refl, subst (λ z. Does z Room u) (some_same at) same)

had_at : {k : ℕ} {bytes taken : List ℕ} {a : Now} (had : HasHad k bytes taken a) → At had
had_at (opens {t = t} there new) = record { t = t; at = there; all = []; are = refl; known = known_new t new }
had_at {k = k} (closes had turned closed) =
    let here = had_at had in
    let (u, at, new) = closed_turn turned k here.t here.at closed in
    record { t = u; at = at; all = []; are = refl; known = known_new u new }
had_at {k = k} (turns {pieces = pieces} {bytes = bytes} {taken = taken} had turned open_still) =
    let here = had_at had in
    let (u, at, one) = one_turn turned k here.t here.at open_still in
    record {
      t = u;
      at = at;
      all = here.all ++ one.here;
      are = (here.all, one.here, here.are, one.is, refl);
      known = known_turn bytes taken (bytes_in (slice_get pieces k)) here.all one.here here.t u here.known one.story;
    }
had_at {k = k} (takes {bytes} {taken} {a} {b} out failed had output) =
    let here = had_at had in
    let (u, at, does) = out_at (slice_get a.sessions k) (slice_get b.sessions k) out failed here.t here.at output in
    record {
      t = u;
      at = at;
      all = here.all;
      are = here.are;
      known = known_deed bytes taken (taken ++ out) here.all here.t u (Take out) here.known does refl refl
          (ap (λ l. (taken ++ out) ++ l) does.1 ∙ append-nil (taken ++ out) ∙ ap (λ l. taken ++ l) does.3) does.2;
    }
had_at {k = k} (rests {bytes} {taken} {a} {b} had same) =
    let here = had_at had in
    let (u, at, does) = same_at (slice_get a.sessions k) (slice_get b.sessions k) here.t here.at same in
    record {
      t = u;
      at = at;
      all = here.all;
      are = here.are;
      known = known_deed bytes taken taken here.all here.t u Room here.known does refl refl (ap (λ l. taken ++ l) does.1) does.2;
    }

-- Each connection is served.
pub is_served : (k : ℕ) (bytes taken : List ℕ) (a : Now) (had : HasHad k bytes taken a) → (t : Session) × (slice_get a.sessions k ≡ Some t) × IsServed had t
is_served k bytes taken a had =
    let here = had_at had in
    let known = here.known in (
      here.t,
      here.at,
      record {
        exchanges = here.all;
        are = here.are;
        asked = known.asked;
        given = known.given;
        read = subst (λ l. IsReadOf bytes l here.t) known.reads (subst (λ l. IsReadOf l (flat_map readings known.deeds) here.t) known.fed
            (session_reads known.first here.t known.deeds known.is_new.0 known.is_new.2 known.lives));
        put = known.put;
      },
    )
