-- One client over turns that follow each other.
use Rattle.std.proofs.Common.{◌≡◌, ◌≢◌, inl, inr, ◌∙◌, ◌+◌, ℕ, zero, suc, List, [], ◌∷◌, ◌++◌, map, take, drop, length, Bool, true, false, Option, Some, None, Result, Ok, Err, slice_get, append_assoc, append-nil, refl, sym, ap, subst, arith, true≢false}
use Rattle.std.specs.List.{flat_map}
use Rattle.std.proofs.lemmas.List.{length-append}
use Rattle.std.proofs.lemmas.List.Concat.{flat_map-append}
use Rattle.um_model.specs.Frames.{BeginsWith, BeginsTooLong}
use Rattle.um_model.specs.Machine.{State, Input, Reply}
use Rattle.um_model.specs.Machine as model_machine
use Rattle.um_model.specs.Replies.{reply_text}
use Rattle.um_model.specs.Sessions.{Session, Deed, Room, Feed, Read, Put, GiveUp, Does, Lives, rests, goes_on, Reads, waits, takes, refuses, bytes_fed, readings, IsReadOf}
use Rattle.um_model.specs.Sessions as model
use Rattle.um_laws.proofs.SessionsLaws.{session_reads}
use Rattle.um_keeper.specs.Answering.{Answer}
use Rattle.um_proto.specs.View.{request_of}
use Rattle.um_proto.specs.declared.request.Asked.{Asked}
use Rattle.um_proto.specs.declared.request.Asked.TheVariants as asks
use Rattle.um_proto.specs.declared.request.Request.{Request}
use Rattle.um_session.specs.Readings.{IsGiven}
use Rattle.um_state.specs.View.{query_of, reply_of}
use Rattle.um_wire.specs.Gives.{Gives}
use Rattle.um_wire.specs.Refusal.{refused_of}
use Rattle.um_wire.specs.declared.refusal.Refusal.{Refusal}
use Rattle.um_wire.specs.declared.refusal.Refusal.TheVariants as refusal
use Rattle.um_manager.specs.Clients.{Exchange, place_of, IsReplyAsked, IsReplyOf, IsExchange, AllTurned, no_turn, and_turn, bytes_in, AreGiven, frame_in, ArePut}
use Rattle.um_manager.specs.Connections.{IsNew, TakesPiece, Cuts, CutsAll, inputs_of_asked, inputs_asked, due_of_asked, due_of}
use Rattle.um_manager.specs.Places.{Place}
use Rattle.um_manager.specs.Replies.{reply_in, Puts, TellsOf, replies_due, replies_owed, Pays, PaysAll}
use Rattle.um_manager.specs.Scripts.{Runs}
use Rattle.um_manager.specs.Turns.{Now, firsts, Turned}
use Rattle.um_manager.specs.declared.pieces.Piece.{Piece}
use Rattle.um_manager.specs.declared.pieces.Piece.TheVariants.{Nothing, Bytes, Closed}
use Rattle.um_manager.specs.declared.script.Step.{Step}
use Rattle.um_manager.specs.declared.taking.Due.{Due}
use Rattle.um_manager.specs.declared.taking.Due.TheVariants as owes

pub none_some : {X : Type 0} {x : X} → None ≡ Some x → ⊥
none_some e = cc

abbrev or_else : {X : Type 0} → X → Option X → X
or_else d (Some x) = x
or_else d None = d

pub some_same : {X : Type 0} {x y : X} → Some x ≡ Some y → x ≡ y
some_same {x = x} e = ap (or_else x) e

-- ---- of all connections that of one

-- the bytes that are taken of the connection
pub cuts_at : (ts : List Session) (ps : List Piece) (rs : List (Option (Result Request Refusal))) (us : List Session) (k : ℕ) (t : Session) → CutsAll ts ps rs us → slice_get ts k ≡ Some t
    → (p : Piece) × (r : Option (Result Request Refusal)) × (u : Session) × (slice_get ps k ≡ Some p) × (slice_get rs k ≡ Some r) × (slice_get us k ≡ Some u) × Cuts t p r u
cuts_at [] ps rs us k x cuts is = absurd (none_some is)
cuts_at (t ∷ ts) [] [] [] k x cuts is = absurd cuts
cuts_at (t ∷ ts) [] [] (u ∷ us) k x cuts is = absurd cuts
cuts_at (t ∷ ts) [] (r ∷ rs) [] k x cuts is = absurd cuts
cuts_at (t ∷ ts) [] (r ∷ rs) (u ∷ us) k x cuts is = absurd cuts
cuts_at (t ∷ ts) (p ∷ ps) [] [] k x cuts is = absurd cuts
cuts_at (t ∷ ts) (p ∷ ps) [] (u ∷ us) k x cuts is = absurd cuts
cuts_at (t ∷ ts) (p ∷ ps) (r ∷ rs) [] k x cuts is = absurd cuts
cuts_at (t ∷ ts) (p ∷ ps) (r ∷ rs) (u ∷ us) zero x cuts is = (p, r, u, refl, refl, refl, subst (λ y. Cuts y p r u) (some_same is) cuts.0)
cuts_at (t ∷ ts) (p ∷ ps) (r ∷ rs) (u ∷ us) (suc k) x cuts is = cuts_at ts ps rs us k x cuts.1 is

-- the reply that is paid, if the first reply at hand is the one at this place
abbrev PaidAt : State → Due → List Reply → ℕ → Session → Session → Type 0
PaidAt s owes.Nothing replies at t u = u ≡ t
PaidAt s owes.Input replies at t u = (reply : Reply) × (slice_get replies at ≡ Some reply) × Puts t reply u
PaidAt s (owes.Query query) replies at t u = (reply : Reply) × TellsOf s (query_of query) reply × Puts t reply u
PaidAt s (owes.Reply reply) replies at t u = Puts t (reply_of reply) u

zero_more : (n : ℕ) → 0 + n ≡ n
zero_more n = omega arith

one_more : (n : ℕ) → 1 + n ≡ suc n
one_more n = omega arith

suc_more : (m n : ℕ) → suc m + n ≡ suc (m + n)
suc_more m n = omega arith

paid_first : (s : State) (d : Due) (replies left : List Reply) (t u : Session) → Pays s d replies left t u → PaidAt s d replies 0 t u
paid_first s owes.Nothing replies left t u pays = pays.1
paid_first s owes.Input replies left t u pays = (pays.0, ap (λ l. slice_get l 0) pays.1, pays.2)
paid_first s (owes.Query query) replies left t u pays = pays.1
paid_first s (owes.Reply reply) replies left t u pays = pays.1

pub at_left : (s : State) (d : Due) (replies left : List Reply) (t u : Session) (n : ℕ) → Pays s d replies left t u → slice_get left n ≡ slice_get replies (replies_due d + n)
at_left s owes.Nothing replies left t u n pays = ap (λ l. slice_get l n) pays.0 ∙ ap (slice_get replies) (sym (zero_more n))
at_left s owes.Input replies left t u n pays = ap (slice_get (pays.0 ∷ left)) (sym (one_more n)) ∙ ap (λ l. slice_get l (1 + n)) (sym pays.1)
at_left s (owes.Query query) replies left t u n pays = ap (λ l. slice_get l n) pays.0 ∙ ap (slice_get replies) (sym (zero_more n))
at_left s (owes.Reply reply) replies left t u n pays = ap (λ l. slice_get l n) pays.0 ∙ ap (slice_get replies) (sym (zero_more n))

paid_later : (s : State) (d : Due) (replies left : List Reply) (m n : ℕ) (t u : Session) → slice_get left n ≡ slice_get replies m → PaidAt s d left n t u → PaidAt s d replies m t u
paid_later s owes.Nothing replies left m n t u same paid = paid
paid_later s owes.Input replies left m n t u same paid = (paid.0, sym same ∙ paid.1, paid.2)
paid_later s (owes.Query query) replies left m n t u same paid = paid
paid_later s (owes.Reply reply) replies left m n t u same paid = paid

pays_at : (s : State) (ds : List Due) (replies : List Reply) (ts us : List Session) (k : ℕ) (d : Due) (t : Session) → PaysAll s ds replies ts us → slice_get ds k ≡ Some d
    → slice_get ts k ≡ Some t → (u : Session) × (slice_get us k ≡ Some u) × PaidAt s d replies (replies_owed (take k ds)) t u
pays_at s [] replies ts us k d t pays due at = absurd (none_some due)
pays_at s (x ∷ ds) replies [] [] k d t pays due at = absurd pays
pays_at s (x ∷ ds) replies [] (u ∷ us) k d t pays due at = absurd pays
pays_at s (x ∷ ds) replies (y ∷ ts) [] k d t pays due at = absurd pays
pays_at s (x ∷ ds) replies (y ∷ ts) (u ∷ us) zero d t pays due at =
    (u, refl, subst (λ z. PaidAt s d replies 0 z u) (some_same at) (subst (λ z. PaidAt s z replies 0 y u) (some_same due) (paid_first s x replies pays.0 y u pays.1)))
pays_at s (x ∷ ds) replies (y ∷ ts) (u ∷ us) (suc k) d t pays due at =
    let rest = pays_at s ds pays.0 ts us k d t pays.2 due at in
    (rest.0, rest.1, paid_later s d replies pays.0 (replies_due x + replies_owed (take k ds)) (replies_owed (take k ds)) t rest.0 (at_left s x replies pays.0 y u (replies_owed (take k ds)) pays.1) rest.2)

-- ---- places

pub get_drop : {X : Type 0} (n : ℕ) (l : List X) (i : ℕ) → slice_get (drop n l) i ≡ slice_get l (n + i)
get_drop zero l i = ap (slice_get l) (sym (zero_more i))
get_drop (suc n) [] i = refl
get_drop (suc n) (x ∷ xs) i = get_drop n xs i ∙ ap (slice_get (x ∷ xs)) (sym (suc_more n i))

pub mapped_at : {X Y : Type 0} (f : X → Y) (xs : List X) (i : ℕ) (y : Y) → slice_get (map f xs) i ≡ Some y → (x : X) × (slice_get xs i ≡ Some x) × (y ≡ f x)
mapped_at f [] i y is = absurd (none_some is)
mapped_at f (x ∷ xs) zero y is = (x, refl, sym (some_same is))
mapped_at f (x ∷ xs) (suc i) y is = mapped_at f xs i y is

pub at_mapped : {X Y : Type 0} (f : X → Y) (xs : List X) (i : ℕ) (x : X) → slice_get xs i ≡ Some x → slice_get (map f xs) i ≡ Some (f x)
at_mapped f [] i x is = absurd (none_some is)
at_mapped f (y ∷ xs) zero x is = ap (λ z. Some (f z)) (some_same is)
at_mapped f (y ∷ xs) (suc i) x is = at_mapped f xs i x is

due_asked : (moment : ℕ) (asked : Asked) → replies_due (due_of_asked asked) ≡ length (inputs_of_asked moment asked)
due_asked moment (asks.Event event) = refl
due_asked moment (asks.Query query) = refl
due_asked moment asks.Actions = refl

due_inputs : (moment : ℕ) (r : Option (Result Request Refusal)) → replies_due (due_of r) ≡ length (inputs_asked moment r)
due_inputs moment None = refl
due_inputs moment (Some (Ok request)) = due_asked moment request.asked
due_inputs moment (Some (Err e)) = refl

-- as many replies as inputs are before a connection's
pub owed_inputs : (moment : ℕ) (rs : List (Option (Result Request Refusal))) (k : ℕ) → replies_owed (take k (map due_of rs)) ≡ length (flat_map (inputs_asked moment) (take k rs))
owed_inputs moment rs zero = refl
owed_inputs moment [] (suc k) = refl
owed_inputs moment (r ∷ rs) (suc k) =
    ap (λ n. n + replies_owed (take k (map due_of rs))) (due_inputs moment r) ∙ ap (λ n. length (inputs_asked moment r) + n) (owed_inputs moment rs k)
    ∙ sym (length-append (inputs_asked moment r) (flat_map (inputs_asked moment) (take k rs)))

-- ---- the reply

reply_asked : (s : State) (answers : List Answer) (at : ℕ) (replies : List Reply) (n : ℕ) (asked : Asked) (t u : Session)
    → ((reply : Reply) → slice_get replies n ≡ Some reply → (answer : Answer) × (slice_get answers at ≡ Some answer) × (reply ≡ reply_in answer))
    → PaidAt s (due_of_asked asked) replies n t u → (reply : Reply) × IsReplyAsked s answers at asked reply × Puts t reply u
reply_asked s answers at replies n (asks.Event event) t u finds paid = (paid.0, finds paid.0 paid.1, paid.2)
reply_asked s answers at replies n (asks.Query query) t u finds paid = paid
reply_asked s answers at replies n asks.Actions t u finds paid = (model_machine.Refusal (refused_of refusal.BadRequest), refl, paid)

reply_paid : (s : State) (answers : List Answer) (at : ℕ) (replies : List Reply) (n : ℕ) (request : Result Request Refusal) (t u : Session)
    → ((reply : Reply) → slice_get replies n ≡ Some reply → (answer : Answer) × (slice_get answers at ≡ Some answer) × (reply ≡ reply_in answer))
    → PaidAt s (due_of (Some request)) replies n t u → (reply : Reply) × IsReplyOf s answers at request reply × Puts t reply u
reply_paid s answers at replies n (Ok request) t u finds paid = reply_asked s answers at replies n request.asked t u finds paid
reply_paid s answers at replies n (Err e) t u finds paid = (model_machine.Refusal (refused_of e), refl, paid)

-- ---- the session

pub joined : {s t u : Session} {xs ys : List Deed} → Lives s xs t → Lives t ys u → Lives s (xs ++ ys) u
joined rests q = q
joined (goes_on does p) q = goes_on does (joined p q)

pub reads_output : {s t : Session} {asked : Option model.Asked} → Reads s t asked → t.output ≡ s.output
reads_output (waits cause e) = ap (λ x. x.output) e
reads_output (takes working begins e) = ap (λ x. x.output) e
reads_output (refuses working begins e) = ap (λ x. x.output) e

reads_failed : {s t : Session} {asked : Option model.Asked} → Reads s t asked → s.failed ≡ true → (asked ≡ None) × (t.failed ≡ true)
reads_failed (waits cause e) failed = (refl, ap (λ x. x.failed) e ∙ failed)
reads_failed (takes working begins e) failed = absurd (true≢false (sym failed ∙ working))
reads_failed (refuses working begins e) failed = absurd (true≢false (sym failed ∙ working))

-- bytes arrive, or none
record Fed (t : Session) (p : Piece) (fed : Session) : Type 0 where
  deed : Deed
  does : Does t deed fed
  bytes : bytes_fed deed ≡ bytes_in (Some p)
  nothing_read : readings deed ≡ []
  output : fed.output ≡ t.output
  failed : fed.failed ≡ t.failed

feeding : (t : Session) (p : Piece) (fed : Session) → (p ≡ Closed → ⊥) → TakesPiece t p fed → Fed t p fed
feeding t Nothing fed open_still came = record { deed = Room; does = came; bytes = refl; nothing_read = refl; output = came.1; failed = came.2 }
feeding t (Bytes bytes) fed open_still came = record { deed = Feed bytes.items; does = came; bytes = refl; nothing_read = refl; output = came.1; failed = came.2 }
feeding t Closed fed open_still came = absurd (open_still refl)

-- ---- replies put out

pub map_join : {X Y : Type 0} (f : X → Y) (xs ys : List X) → map f (xs ++ ys) ≡ map f xs ++ map f ys
map_join f [] ys = refl
map_join f (x ∷ xs) ys = ap (λ l. f x ∷ l) (map_join f xs ys)

pub put_more : (o : List ℕ) (xs ys : List Reply) (u w : Session) → ArePut o xs u → ArePut u.output ys w
    → (u.failed ≡ true → (ys ≡ []) × (w.failed ≡ true) × (w.output ≡ u.output)) → ArePut o (xs ++ ys) w
put_more o xs ys u w (inl e) (inl f) stuck =
    inl (f ∙ ap (λ l. l ++ flat_map frame_in ys) e ∙ append_assoc o (flat_map frame_in xs) (flat_map frame_in ys) ∙ ap (λ l. o ++ l) (sym (flat_map-append frame_in xs ys)))
put_more o xs ys u w (inl e) (inr (failed, most, last, is, f)) stuck = inr (
  failed,
  xs ++ most,
  last,
  ap (λ l. xs ++ l) is ∙ sym (append_assoc xs most (last ∷ [])),
  f ∙ ap (λ l. l ++ flat_map frame_in most) e ∙ append_assoc o (flat_map frame_in xs) (flat_map frame_in most) ∙ ap (λ l. o ++ l) (sym (flat_map-append frame_in xs most)),
)
put_more o xs ys u w (inr (failed, most, last, is, e)) put stuck =
    let none = stuck failed in
    inr (none.1, most, last, ap (λ l. xs ++ l) none.0 ∙ append-nil xs ∙ is, none.2 ∙ e)

put_none : (t u : Session) → u.output ≡ t.output → ArePut t.output [] u
put_none t u e = inl (e ∙ sym (append-nil t.output))

pub given_join : (xs ys : List Exchange) (ls bs : List model.Asked) → AreGiven (map (λ (x : Exchange). x.0) xs) ls → AreGiven (map (λ (x : Exchange). x.0) ys) bs
    → AreGiven (map (λ (x : Exchange). x.0) (xs ++ ys)) (ls ++ bs)
given_join [] ys [] bs p q = q
given_join [] ys (a ∷ ls) bs p q = absurd p
given_join (x ∷ xs) ys [] bs p q = absurd p
given_join (x ∷ xs) ys (a ∷ ls) bs p q = (p.0, given_join xs ys ls bs p.1 q)

-- ---- one turn

pub record Story (t u : Session) (bytes : List ℕ) (exchanges : List Exchange) : Type 0 where
  pub deeds : List Deed
  pub lives : Lives t deeds u
  pub fed : flat_map bytes_fed deeds ≡ bytes
  pub asked : List model.Asked
  pub reads : flat_map readings deeds ≡ asked
  pub given : AreGiven (map (λ (x : Exchange). x.0) exchanges) asked
  pub put : ArePut t.output (map (λ (x : Exchange). x.1) exchanges) u
  pub stuck : t.failed ≡ true → (exchanges ≡ []) × (u.failed ≡ true) × (u.output ≡ t.output)

-- no whole frame is there
waited : (t fed c u : Session) (p : Piece) → Fed t p fed → Reads fed c None → u ≡ c → Story t u (bytes_in (Some p)) []
waited t fed c u p f r same =
    let output : u.output ≡ t.output = ap (λ x. x.output) same ∙ reads_output r ∙ f.output in
    record {
      deeds = f.deed ∷ Read None ∷ [];
      lives = subst (λ x. Lives t (f.deed ∷ Read None ∷ []) x) (sym same) (goes_on f.does (goes_on r rests));
      fed = append-nil (bytes_fed f.deed) ∙ f.bytes;
      asked = [];
      reads = append-nil (readings f.deed) ∙ f.nothing_read;
      given = tt;
      put = put_none t u output;
      stuck = λ failed. (refl, ap (λ x. x.failed) same ∙ (reads_failed r (f.failed ∙ failed)).1, output);
    }

-- a frame was read, and its reply is put out
put_out : (t fed c u : Session) (p : Piece) (asked : model.Asked) (request : Result Request Refusal) (reply : Reply) → Fed t p fed → Reads fed c (Some asked)
    → Gives request_of request asked → Puts c reply u → Story t u (bytes_in (Some p)) ((request, reply) ∷ [])
put_out t fed c u p asked request reply f r given (inl does) = record {
  deeds = f.deed ∷ Read (Some asked) ∷ Put (reply_text reply) ∷ [];
  lives = goes_on f.does (goes_on r (goes_on does rests));
  fed = append-nil (bytes_fed f.deed) ∙ f.bytes;
  asked = asked ∷ [];
  reads = ap (λ l. l ++ asked ∷ []) f.nothing_read;
  given = (given, tt);
  put = inl (does.1 ∙ ap (λ l. l ++ frame_in reply) (reads_output r ∙ f.output) ∙ ap (λ l. t.output ++ l) (sym (append-nil (frame_in reply))));
  stuck = λ failed. absurd (none_some (sym ((reads_failed r (f.failed ∙ failed)).0)));
}
put_out t fed c u p asked request reply f r given (inr does) = record {
  deeds = f.deed ∷ Read (Some asked) ∷ GiveUp ∷ [];
  lives = goes_on f.does (goes_on r (goes_on does rests));
  fed = append-nil (bytes_fed f.deed) ∙ f.bytes;
  asked = asked ∷ [];
  reads = ap (λ l. l ++ asked ∷ []) f.nothing_read;
  given = (given, tt);
  put = inr (does.2, [], reply, refl, does.1 ∙ reads_output r ∙ f.output ∙ sym (append-nil t.output));
  stuck = λ failed. absurd (none_some (sym ((reads_failed r (f.failed ∙ failed)).0)));
}

-- ---- one turn for one connection

pub record ToldOf (s : State) (answers : List Answer) (at : ℕ) (found : Option (Option (Result Request Refusal))) (t u : Session) (bytes : List ℕ) : Type 0 where
  pub here : List Exchange
  pub is : IsExchange s answers at found here
  pub story : Story t u bytes here

told : (s : State) (answers : List Answer) (at : ℕ) (replies : List Reply) (n : ℕ) (p : Piece) (r : Option (Result Request Refusal)) (asked : Option model.Asked) (t fed c u : Session)
    → ((reply : Reply) → slice_get replies n ≡ Some reply → (answer : Answer) × (slice_get answers at ≡ Some answer) × (reply ≡ reply_in answer))
    → Fed t p fed → Reads fed c asked → IsGiven r asked → PaidAt s (due_of r) replies n c u → ToldOf s answers at (Some r) t u (bytes_in (Some p))
told s answers at replies n p None None t fed c u finds f reads given paid = record { here = []; is = refl; story = waited t fed c u p f reads paid }
told s answers at replies n p None (Some asked) t fed c u finds f reads given paid = absurd given
told s answers at replies n p (Some request) None t fed c u finds f reads given paid = absurd given
told s answers at replies n p (Some request) (Some asked) t fed c u finds f reads given paid =
    let (reply, is, puts) = reply_paid s answers at replies n request c u finds paid in
    record { here = (request, reply) ∷ []; is = (reply, is, refl); story = put_out t fed c u p asked request reply f reads given puts }

pub one_turn : {place : Place} {h w : Bool} {result : Result Unit Refusal} {moment : ℕ} {pieces : List Piece} {a b : Now} (turned : Turned place h w result moment pieces a b) (k : ℕ) (t : Session)
    → slice_get a.sessions k ≡ Some t
    → slice_get pieces k ≢ Some Closed
    → (u : Session) × (slice_get b.sessions k ≡ Some u) × ToldOf b.state turned.answers (place_of turned k) (slice_get turned.requests k) t u (bytes_in (slice_get pieces k))
one_turn {moment = moment} {pieces} {a} {b} turned k t at stays =
    let (p, r, c, p_at, r_at, c_at, (fed, came, (asked, reads, given))) = cuts_at a.sessions pieces turned.requests turned.cut k t turned.cuts at in
    let count = length (firsts moment turned.told) in
    let replies = drop count (map reply_in turned.answers) in
    let n = replies_owed (take k (map due_of turned.requests)) in
    let (u, u_at, paid) = pays_at b.state (map due_of turned.requests) replies turned.cut b.sessions k (due_of r) c turned.paid (at_mapped due_of turned.requests k r r_at) c_at in
    let finds : (reply : Reply) → slice_get replies n ≡ Some reply → (answer : Answer) × (slice_get turned.answers (place_of turned k) ≡ Some answer) × (reply ≡ reply_in answer) =
    λ reply found. mapped_at reply_in turned.answers (place_of turned k) reply
    (ap (λ m. slice_get (map reply_in turned.answers) (count + m)) (sym (owed_inputs moment turned.requests k)) ∙ sym (get_drop count (map reply_in turned.answers) n) ∙ found) in
    let one = told b.state turned.answers (place_of turned k) replies n p r asked t fed c u finds
    (feeding t p fed (λ closed. stays (p_at ∙ ap Some closed)) came) reads given paid in (
      u,
      u_at,
      subst (λ o. ToldOf b.state turned.answers (place_of turned k) (slice_get turned.requests k) t u (bytes_in o)) (sym p_at)
          (subst (λ o. ToldOf b.state turned.answers (place_of turned k) o t u (bytes_in (Some p))) (sym r_at) one),
    )

-- ---- all turns

story_none : (t : Session) → Story t t [] []
story_none t = record { deeds = []; lives = rests; fed = refl; asked = []; reads = refl; given = tt; put = put_none t t refl; stuck = λ failed. (refl, failed, refl) }

story_more : (t u w : Session) (xs ys : List ℕ) (here later : List Exchange) → Story t u xs here → Story u w ys later → Story t w (xs ++ ys) (here ++ later)
story_more t u w xs ys here later p q = record {
  deeds = p.deeds ++ q.deeds;
  lives = joined p.lives q.lives;
  fed = flat_map-append bytes_fed p.deeds q.deeds ∙ ap (λ l. l ++ flat_map bytes_fed q.deeds) p.fed ∙ ap (λ l. xs ++ l) q.fed;
  asked = p.asked ++ q.asked;
  reads = flat_map-append readings p.deeds q.deeds ∙ ap (λ l. l ++ flat_map readings q.deeds) p.reads ∙ ap (λ l. p.asked ++ l) q.reads;
  given = given_join here later p.asked q.asked p.given q.given;
  put = subst (λ l. ArePut t.output l w) (sym (map_join (λ (x : Exchange). x.1) here later))
      (put_more t.output (map (λ (x : Exchange). x.1) here) (map (λ (x : Exchange). x.1) later) u w p.put q.put
      (λ failed. let none = q.stuck failed in (ap (map (λ (x : Exchange). x.1)) none.0, none.1, none.2)));
  stuck = λ failed.
      let first = p.stuck failed in
      let then = q.stuck first.1 in
      (ap (λ l. l ++ later) first.0 ∙ then.0, then.1, then.2 ∙ first.2);
}

-- a run that ends Ok is one turn after another
pub all_turned : (place : Place) (h w : Bool) (steps : List Step) (a b : Now) → Runs place h w steps (Ok tt) a b → AllTurned place h w steps a b
all_turned place h w [] a b run = subst (λ x. AllTurned place h w [] a x) (sym run.1) no_turn
all_turned place h w (step ∷ steps) a b (inl stops) = absurd (stops.0 refl)
all_turned place h w (step ∷ steps) a b (inr (mid, turned, run)) = and_turn turned (all_turned place h w steps mid b run)

-- ---- a turn that is informed that the connection closed

empty_header : (h r : List ℕ) → h ++ r ≡ [] → length h ≡ 4 → ⊥
empty_header [] r e four = omega (arith, four)
empty_header (x ∷ h) r e four = cc

begins_not : (stream bytes rest : List ℕ) → stream ≡ [] → BeginsWith stream bytes rest → ⊥
begins_not stream bytes rest none begins = empty_header begins.header (bytes ++ rest) (sym begins.whole ∙ none) begins.four

too_long_not : (stream : List ℕ) → stream ≡ [] → BeginsTooLong stream → ⊥
too_long_not stream none begins = empty_header begins.header begins.rest (sym begins.whole ∙ none) begins.four

-- nothing is read of a new session
new_reads : {s t : Session} {asked : Option model.Asked} → IsNew s → Reads s t asked → (asked ≡ None) × (t ≡ s)
new_reads new (waits cause e) = (refl, e)
new_reads {s} new (takes {bytes = bytes} {rest = rest} working begins e) = absurd (begins_not s.rest bytes rest new.0 begins)
new_reads {s} new (refuses working begins e) = absurd (too_long_not s.rest new.0 begins)

-- the session is new after it
pub closed_turn : {place : Place} {h w : Bool} {result : Result Unit Refusal} {moment : ℕ} {pieces : List Piece} {a b : Now} (turned : Turned place h w result moment pieces a b) (k : ℕ) (t : Session)
    → slice_get a.sessions k ≡ Some t → slice_get pieces k ≡ Some Closed → (u : Session) × (slice_get b.sessions k ≡ Some u) × IsNew u
closed_turn {moment = moment} {pieces} {a} {b} turned k t at closed =
    let (p, r, c, p_at, r_at, c_at, (fed, came, (asked, reads, given))) = cuts_at a.sessions pieces turned.requests turned.cut k t turned.cuts at in
    let new : IsNew fed = subst (λ x. TakesPiece t x fed) (some_same (sym p_at ∙ closed)) came in
    let none = new_reads new reads in
    let count = length (firsts moment turned.told) in
    let (u, u_at, paid) = pays_at b.state (map due_of turned.requests) (drop count (map reply_in turned.answers)) turned.cut b.sessions k (due_of r) c turned.paid (at_mapped due_of turned.requests k r r_at) c_at in
    (u, u_at, subst IsNew (sym (unpaid b.state r asked _ _ c u none.0 given paid ∙ none.1)) new)
  where
    unpaid : (s : State) (r : Option (Result Request Refusal)) (asked : Option model.Asked) (replies : List Reply) (n : ℕ) (c u : Session) → asked ≡ None → IsGiven r asked
        → PaidAt s (due_of r) replies n c u → u ≡ c
    unpaid s None asked replies n c u none given paid = paid
    unpaid s (Some request) None replies n c u none given paid = absurd given
    unpaid s (Some request) (Some asked) replies n c u none given paid = cc
