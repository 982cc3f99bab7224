-- The output of a connection is, taken or not, the frames of the replies that the history names.
use Rattle.std.proofs.Common.{◌≡◌, ◌<◌, ◌∙◌, inl, inr, ℕ, zero, suc, List, [], ◌∷◌, ◌++◌, map, flat_map, drop, length, Bool, Option, Some, None, Result, slice_get, append_assoc, append-nil, refl, sym, ap, subst, arith}
use Rattle.std.proofs.lemmas.List.Concat.{flat_map-append}
use Rattle.um_model.specs.Children.{Call}
use Rattle.um_model.specs.Disk.{Past}
use Rattle.um_model.specs.Machine.{State, Input, Reply}
use Rattle.um_model.specs.Sessions.{Session}
use Rattle.um_state.specs.View.{query_of, reply_of}
use Rattle.um_wire.specs.declared.refusal.Refusal.{Refusal}
use Rattle.um_manager.proofs.Clients.{none_some, some_same, cuts_at, reads_output}
use Rattle.um_manager.proofs.Having.{new_at}
use Rattle.um_manager.specs.Clients.{frame_in}
use Rattle.um_manager.specs.Connections.{TakesPiece, due_of}
use Rattle.um_manager.specs.Done.{Told, PutOut, put_out_in, told_by, IsTaken}
use Rattle.um_manager.specs.Had.{since_closed, taken_now, taken_of, put_out_of, frames_of}
use Rattle.um_manager.specs.Histories.{History, opens, turns, takes, told_to}
use Rattle.um_manager.specs.Places.{Place}
use Rattle.um_manager.specs.Replies.{reply_in, Puts, where_put, Pays, put_by, PaysAll, put_at}
use Rattle.um_manager.specs.Turns.{Now, firsts, Turned}
use Rattle.um_manager.specs.declared.pieces.Piece.{Piece}
use Rattle.um_manager.specs.declared.pieces.Piece.TheVariants.{Nothing, Bytes, Closed}
use Rattle.um_manager.specs.declared.taking.Due.{Due}
use Rattle.um_manager.specs.declared.taking.Due.TheVariants as owes

-- ---- in a turn

out_where : (t u : Session) (reply : Reply) (puts : Puts t reply u) → u.output ≡ t.output ++ flat_map frame_in (where_put t u reply puts)
out_where t u reply (inl put) = put.1 ∙ ap (λ l. t.output ++ l) (sym (append-nil (frame_in reply)))
out_where t u reply (inr given_up) = given_up.1 ∙ sym (append-nil t.output)

out_by : (s : State) (d : Due) (replies left : List Reply) (t u : Session) (paid : Pays s d replies left t u)
    → u.output ≡ t.output ++ flat_map frame_in (put_by s d replies left t u paid)
out_by s owes.Nothing replies left t u paid = ap (λ (z : Session). z.output) paid.1 ∙ sym (append-nil t.output)
out_by s owes.Input replies left t u paid = out_where t u paid.0 paid.2
out_by s (owes.Query query) replies left t u paid = out_where t u paid.1.0 paid.1.2
out_by s (owes.Reply reply) replies left t u paid = out_where t u (reply_of reply) paid.1

out_paid : (k : ℕ) (s : State) (ds : List Due) (replies : List Reply) (ts us : List Session) (paid : PaysAll s ds replies ts us) (t : Session) → slice_get ts k ≡ Some t
    → (u : Session) × (slice_get us k ≡ Some u) × (u.output ≡ t.output ++ flat_map frame_in (put_at k s ds replies ts us paid))
out_paid k s [] replies [] us paid t at = absurd (none_some at)
out_paid k s [] replies (y ∷ ts) [] paid t at = absurd paid
out_paid k s [] replies (y ∷ ts) (u ∷ us) paid t at = absurd paid
out_paid k s (d ∷ ds) replies [] us paid t at = absurd (none_some at)
out_paid k s (d ∷ ds) replies (y ∷ ts) [] paid t at = absurd paid
out_paid zero s (d ∷ ds) replies (y ∷ ts) (u ∷ us) paid t at =
    (u, refl, out_by s d replies paid.0 y u paid.1 ∙ ap (λ (z : Session). z.output ++ flat_map frame_in (put_by s d replies paid.0 y u paid.1)) (some_same at))
out_paid (suc k) s (d ∷ ds) replies (y ∷ ts) (u ∷ us) paid t at = out_paid k s ds paid.0 ts us paid.2 t at

out_fed : (t : Session) (p : Piece) (fed : Session) → TakesPiece t p fed → fed.output ≡ since_closed (Some p) t.output
out_fed t Nothing fed came = came.1
out_fed t (Bytes bytes) fed came = came.1
out_fed t Closed fed came = came.1

frames_put : (command : List Input) (replies : List Reply) → flat_map frame_in replies ≡ frames_of (map (λ reply. record { command = command; reply = reply }) replies)
frames_put command [] = refl
frames_put command (reply ∷ replies) = ap (λ l. frame_in reply ++ l) (frames_put command replies)

-- a turn puts out these frames after the output that is there, or after none if it was informed that the connection
-- closed
pub turned_out : {place : Place} {honest whole : Bool} {result : Result Unit Refusal} {moment : ℕ} {pieces : List Piece} {a b : Now} (turned : Turned place honest whole result moment pieces a b)
    (k : ℕ) (t : Session) → slice_get a.sessions k ≡ Some t
    → (u : Session) × (slice_get b.sessions k ≡ Some u) × (u.output ≡ since_closed (slice_get pieces k) t.output ++ frames_of (put_out_in k turned))
turned_out {moment = moment} {pieces = pieces} {a = a} {b = b} turned k t at =
    let (p, r, c, p_at, r_at, c_at, (fed, came, (asked, reads, given))) = cuts_at a.sessions pieces turned.requests turned.cut k t turned.cuts at in
    let replies = drop (length (firsts moment turned.told)) (map reply_in turned.answers) in
    let put = put_at k b.state (map due_of turned.requests) replies turned.cut b.sessions turned.paid in
    let (u, u_at, is) = out_paid k b.state (map due_of turned.requests) replies turned.cut b.sessions turned.paid c c_at in
    let cut : c.output ≡ since_closed (slice_get pieces k) t.output = reads_output reads ∙ out_fed t p fed came ∙ ap (λ o. since_closed o t.output) (sym p_at) in
    (u, u_at, is ∙ ap (λ l. l ++ flat_map frame_in put) cut ∙ ap (λ l. since_closed (slice_get pieces k) t.output ++ l) (frames_put _ put))

-- ---- since it was opened

more_out : (taken out new : List ℕ) (puts here : List PutOut) → taken ++ out ≡ frames_of puts → new ≡ out ++ frames_of here → taken ++ new ≡ frames_of (puts ++ here)
more_out taken out new puts here are is =
    ap (λ l. taken ++ l) is ∙ sym (append_assoc taken out (frames_of here)) ∙ ap (λ l. l ++ frames_of here) are
    ∙ sym (flat_map-append (λ (put : PutOut). frame_in put.reply) puts here)

after_turn : (p : Option Piece) (taken out new : List ℕ) (puts here : List PutOut) → taken ++ out ≡ frames_of puts → new ≡ since_closed p out ++ frames_of here
    → since_closed p taken ++ new ≡ frames_of (since_closed p puts ++ here)
after_turn (Some Closed) taken out new puts here are is = is
after_turn (Some Nothing) taken out new puts here are is = more_out taken out new puts here are is
after_turn (Some (Bytes bytes)) taken out new puts here are is = more_out taken out new puts here are is
after_turn None taken out new puts here are is = more_out taken out new puts here are is

taken_out : (taken frames : List ℕ) (t : Session) (x y : Option Session) (is : IsTaken x y) → x ≡ Some t → taken ++ t.output ≡ frames
    → (u : Session) × (y ≡ Some u) × ((taken ++ taken_now x y is) ++ u.output ≡ frames)
taken_out taken frames t None y is at are = absurd (none_some at)
taken_out taken frames t (Some s) None is at are = absurd is
taken_out taken frames t (Some s) (Some u) (inl same) at are =
    (u, refl, ap (λ l. l ++ u.output) (append-nil taken) ∙ ap (λ l. taken ++ l) (same.1 ∙ ap (λ (z : Session). z.output) (some_same at)) ∙ are)
taken_out taken frames t (Some s) (Some u) (inr (out, does)) at are =
    (u, refl, ap (λ l. (taken ++ out) ++ l) does.1 ∙ append-nil (taken ++ out) ∙ ap (λ l. taken ++ l) (does.3 ∙ ap (λ (z : Session). z.output) (some_same at)) ∙ are)

pub out_of : (k : ℕ) (low : k < 64) {disk : Past} {before : List Call} {b : Now} (past : History disk before b)
    → (t : Session) × (slice_get b.sessions k ≡ Some t) × (taken_of k low past ++ t.output ≡ frames_of (put_out_of k past))
out_of k low (opens sessions opened anew) =
    let (t, at, new) = new_at k sessions (omega (arith, low, anew.0)) anew.1 in
    (t, at, new.1)
out_of k low (turns {pieces = pieces} past turned) =
    let (t, t_at, are) = out_of k low past in
    let (u, u_at, is) = turned_out turned k t t_at in
    (u, u_at, after_turn (slice_get pieces k) (taken_of k low past) t.output u.output (put_out_of k past) (put_out_in k turned) are is)
out_of k low (takes {a = a} {b = b} past out) =
    let (t, t_at, are) = out_of k low past in
    taken_out (taken_of k low past) (frames_of (put_out_of k past)) t (slice_get a.sessions k) (slice_get b.sessions k) (out.each k low) t_at are

-- ---- the reports to it

told_more : (told earlier : List Told) (puts here : List PutOut) → told ≡ earlier ++ flat_map told_by puts → told ++ flat_map told_by here ≡ earlier ++ flat_map told_by (puts ++ here)
told_more told earlier puts here is =
    ap (λ l. l ++ flat_map told_by here) is ∙ append_assoc earlier (flat_map told_by puts) (flat_map told_by here) ∙ ap (λ l. earlier ++ l) (sym (flat_map-append told_by puts here))

told_step : (p : Option Piece) (told earlier : List Told) (puts here : List PutOut) → told ≡ earlier ++ flat_map told_by puts
    → (before : List Told) × (told ++ flat_map told_by here ≡ before ++ flat_map told_by (since_closed p puts ++ here))
told_step (Some Closed) told earlier puts here is = (told, refl)
told_step (Some Nothing) told earlier puts here is = (earlier, told_more told earlier puts here is)
told_step (Some (Bytes bytes)) told earlier puts here is = (earlier, told_more told earlier puts here is)
told_step None told earlier puts here is = (earlier, told_more told earlier puts here is)

pub told_since : (k : ℕ) {disk : Past} {before : List Call} {b : Now} (past : History disk before b)
    → (earlier : List Told) × (told_to k past ≡ earlier ++ flat_map told_by (put_out_of k past))
told_since k (opens sessions opened anew) = ([], refl)
told_since k (turns {pieces = pieces} past turned) =
    let (earlier, is) = told_since k past in
    told_step (slice_get pieces k) (told_to k past) earlier (put_out_of k past) (put_out_in k turned) is
told_since k (takes past out) = told_since k past
