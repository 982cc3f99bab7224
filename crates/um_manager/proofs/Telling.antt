-- A turn's reports to its clients that commands were done are the commands that the answers of its store did.
use Rattle.std.proofs.Common.{◌≡◌, ◌⊎◌, ◌∙◌, ◌+◌, inl, inr, ℕ, zero, suc, List, [], ◌∷◌, ◌++◌, map, take, drop, length, flat_map, Bool, Option, Some, None, Result, Ok, Err, slice_get, append-nil, refl, sym, ap, subst, arith}
use Rattle.std.proofs.lemmas.List.{length-append}
use Rattle.um_keeper.specs.Answering.{Answer}
use Rattle.um_model.specs.Machine.{State, Input, Reply}
use Rattle.um_model.specs.Sessions.{Session}
use Rattle.um_proto.specs.declared.request.Asked.{Asked}
use Rattle.um_proto.specs.declared.request.Asked.TheVariants as asks
use Rattle.um_proto.specs.declared.request.Request.{Request}
use Rattle.um_wire.specs.declared.refusal.Refusal.{Refusal}
use Rattle.um_manager.proofs.Carried.{stand_none, stand_front, stand_both, stand_all, done_by, all_done}
use Rattle.um_manager.proofs.Clients.{none_some, some_same, at_left, get_drop, mapped_at, at_mapped, owed_inputs}
use Rattle.um_manager.specs.Clients.{place_of}
use Rattle.um_manager.specs.Connections.{inputs_of_asked, inputs_asked, due_of, due_of_asked}
use Rattle.um_manager.specs.Done.{Told, where_done, command_in, PutOut, told_by, told_in}
use Rattle.um_manager.specs.Offered.{offered_in}
use Rattle.um_manager.specs.Lives.{StandIn}
use Rattle.um_manager.specs.Places.{Place}
use Rattle.um_manager.specs.Replies.{reply_in, Puts, where_put, replies_due, replies_owed, Pays, put_by, PaysAll, put_at}
use Rattle.um_manager.specs.Turns.{Now, firsts, Turned}
use Rattle.um_manager.specs.declared.pieces.Piece.{Piece}
use Rattle.um_manager.specs.declared.taking.Due.{Due}
use Rattle.um_manager.specs.declared.taking.Due.TheVariants as owes

-- ---- which reply is put out

put_once : (t u : Session) (reply : Reply) (puts : Puts t reply u) → (where_put t u reply puts ≡ []) ⊎ (where_put t u reply puts ≡ reply ∷ [])
put_once t u reply (inl put) = inr refl
put_once t u reply (inr given_up) = inl refl

-- the reply that is put out where an input's is due
record IsPut (put replies : List Reply) (n : ℕ) : Type 0 where
  reply : Reply
  is : put ≡ reply ∷ []
  at : slice_get replies n ≡ Some reply

later_put : (put left replies : List Reply) (n m : ℕ) → slice_get left n ≡ slice_get replies m → (put ≡ []) ⊎ IsPut put left n → (put ≡ []) ⊎ IsPut put replies m
later_put put left replies n m same (inl none) = inl none
later_put put left replies n m same (inr one) = inr (record { reply = one.reply; is = one.is; at = sym same ∙ one.at })

put_is : (k : ℕ) (s : State) (ds : List Due) (replies : List Reply) (ts us : List Session) (paid : PaysAll s ds replies ts us) → slice_get ds k ≡ Some owes.Input
    → (put_at k s ds replies ts us paid ≡ []) ⊎ IsPut (put_at k s ds replies ts us paid) replies (replies_owed (take k ds))
put_is k s [] replies ts us paid due = absurd (none_some due)
put_is zero s (d ∷ ds) replies [] [] paid due = absurd paid
put_is zero s (d ∷ ds) replies [] (u ∷ us) paid due = absurd paid
put_is zero s (d ∷ ds) replies (t ∷ ts) [] paid due = absurd paid
put_is zero s (owes.Nothing ∷ ds) replies (t ∷ ts) (u ∷ us) paid due = inl refl
put_is zero s (owes.Query query ∷ ds) replies (t ∷ ts) (u ∷ us) paid due = cc
put_is zero s (owes.Reply reply ∷ ds) replies (t ∷ ts) (u ∷ us) paid due = cc
put_is zero s (owes.Input ∷ ds) replies (t ∷ ts) (u ∷ us) paid due = elim (put_once t u paid.1.0 paid.1.2) [
  | inl none ↦ inl none
  | inr one ↦ inr (record { reply = paid.1.0; is = one; at = ap (λ l. slice_get l 0) paid.1.1 })
]
put_is (suc k) s (d ∷ ds) replies [] [] paid due = absurd paid
put_is (suc k) s (d ∷ ds) replies [] (u ∷ us) paid due = absurd paid
put_is (suc k) s (d ∷ ds) replies (t ∷ ts) [] paid due = absurd paid
put_is (suc k) s (d ∷ ds) replies (t ∷ ts) (u ∷ us) paid due =
    later_put (put_at k s ds paid.0 ts us paid.2) paid.0 replies (replies_owed (take k ds)) (replies_due d + replies_owed (take k ds))
    (at_left s d replies paid.0 t u (replies_owed (take k ds)) paid.1) (put_is k s ds paid.0 ts us paid.2 due)

-- ---- where an input stands

at_behind : {X : Type 0} (xs ys : List X) (j : ℕ) → slice_get (xs ++ ys) (length xs + j) ≡ slice_get ys j
at_behind [] ys j = ap (slice_get ys) (zero_more j)
  where
    zero_more : (n : ℕ) → 0 + n ≡ n
    zero_more n = omega arith
at_behind (x ∷ xs) ys j = ap (slice_get (x ∷ (xs ++ ys))) (suc_more (length xs) j) ∙ at_behind xs ys j
  where
    suc_more : (m n : ℕ) → suc m + n ≡ suc (m + n)
    suc_more m n = omega arith

at_request : (moment : ℕ) (requests : List (Option (Result Request Refusal))) (k : ℕ) (r : Option (Result Request Refusal)) (input : Input) → slice_get requests k ≡ Some r
    → inputs_asked moment r ≡ input ∷ []
    → slice_get (flat_map (inputs_asked moment) requests) (length (flat_map (inputs_asked moment) (take k requests))) ≡ Some input
at_request moment [] k r input at is = absurd (none_some at)
at_request moment (q ∷ requests) zero r input at is =
    ap (λ l. slice_get (l ++ flat_map (inputs_asked moment) requests) 0) (ap (inputs_asked moment) (some_same at) ∙ is)
at_request moment (q ∷ requests) (suc k) r input at is =
    ap (slice_get (inputs_asked moment q ++ flat_map (inputs_asked moment) requests)) (length-append (inputs_asked moment q) (flat_map (inputs_asked moment) (take k requests)))
    ∙ at_behind (inputs_asked moment q) (flat_map (inputs_asked moment) requests) (length (flat_map (inputs_asked moment) (take k requests)))
    ∙ at_request moment requests k r input at is

-- the command that the answer to one input did stands among those of all
done_at : (inputs : List Input) (answers : List Answer) (i : ℕ) (input : Input) (answer : Answer) → slice_get inputs i ≡ Some input → slice_get answers i ≡ Some answer
    → StandIn (done_by input answer) (all_done inputs answers)
done_at [] answers i input answer at told = absurd (none_some at)
done_at (x ∷ inputs) [] i input answer at told = absurd (none_some told)
done_at (x ∷ inputs) (y ∷ answers) zero input answer at told =
    subst (λ l. StandIn l (done_by x y ++ all_done inputs answers)) (ap (λ z. done_by z y) (some_same at) ∙ ap (done_by input) (some_same told))
    (stand_front (done_by x y) (done_by x y) (all_done inputs answers) (stand_all (done_by x y)))
done_at (x ∷ inputs) (y ∷ answers) (suc i) input answer at told =
    stand_both [] (done_by x y) (done_by input answer) (all_done inputs answers) (stand_none (done_by x y)) (done_at inputs answers i input answer at told)

-- a reply that is put out is that of the answer
done_is : (input : Input) (answer : Answer) → where_done input (reply_in answer) ≡ done_by input answer
done_is input (Ok given) = refl
done_is input (Err e) = refl

-- replies that are put out for a command, or for none
abbrev puts : List Input → List Reply → List PutOut
puts command replies = map (λ reply. record { command = command; reply = reply }) replies

-- those for none report none
no_told : (replies : List Reply) → flat_map told_by (puts [] replies) ≡ []
no_told [] = refl
no_told (reply ∷ replies) = no_told replies

-- ---- a turn

pub told_at : (k : ℕ) {at : Place} {honest whole : Bool} {result : Result Unit Refusal} {moment : ℕ} {pieces : List Piece} {a b : Now}
    (turned : Turned at honest whole result moment pieces a b) → StandIn (told_in k turned) (all_done (offered_in turned) turned.answers)
told_at k {moment = moment} {a = a} {b = b} turned = by (slice_get turned.requests k) refl
  where
    replies : List Reply
    replies = drop (length (firsts moment turned.told)) (map reply_in turned.answers)

    put : List Reply
    put = put_at k b.state (map due_of turned.requests) replies turned.cut b.sessions turned.paid

    all : List Told
    all = all_done (offered_in turned) turned.answers

    at_place : (i : ℕ) (reply : Reply) → slice_get replies (replies_owed (take k (map due_of turned.requests))) ≡ Some reply
        → (answer : Answer) × (slice_get turned.answers (place_of turned k) ≡ Some answer) × (reply ≡ reply_in answer)
    at_place i reply found =
        mapped_at reply_in turned.answers (place_of turned k) reply
        (ap (λ m. slice_get (map reply_in turned.answers) (length (firsts moment turned.told) + m)) (sym (owed_inputs moment turned.requests k))
        ∙ sym (get_drop (length (firsts moment turned.told)) (map reply_in turned.answers) (replies_owed (take k (map due_of turned.requests)))) ∙ found)

    one : (input : Input) (r : Option (Result Request Refusal)) → slice_get turned.requests k ≡ Some r → due_of r ≡ owes.Input → inputs_asked moment r ≡ input ∷ []
        → StandIn (flat_map told_by (puts (input ∷ []) put)) all
    one input r there due asked = elim (put_is k b.state (map due_of turned.requests) replies turned.cut b.sessions turned.paid (at_mapped due_of turned.requests k r there ∙ ap Some due)) [
      | inl none ↦ subst (λ l. StandIn (flat_map told_by (puts (input ∷ []) l)) all) (sym none) (stand_none all)
      | inr is ↦
          let (answer, answered, same) = at_place k is.reply is.at in
          subst (λ l. StandIn (flat_map told_by (puts (input ∷ []) l)) all) (sym is.is)
          (subst (λ l. StandIn l all) (sym (append-nil (where_done input is.reply ++ []) ∙ append-nil (where_done input is.reply)))
          (subst (λ l. StandIn l all) (sym (ap (where_done input) same ∙ done_is input answer))
          (done_at (offered_in turned) turned.answers (place_of turned k) input answer
          (at_behind (firsts moment turned.told) (flat_map (inputs_asked moment) turned.requests) (length (flat_map (inputs_asked moment) (take k turned.requests)))
          ∙ at_request moment turned.requests k r input there asked) answered)))
    ]

    nothing_told : StandIn (flat_map told_by (puts [] put)) all
    nothing_told = subst (λ l. StandIn l all) (sym (no_told put)) (stand_none all)

    by_asked : (request : Request) (asked : Asked) → request.asked ≡ asked → slice_get turned.requests k ≡ Some (Some (Ok request))
        → StandIn (flat_map told_by (puts (inputs_of_asked moment asked) put)) all
    by_asked request (asks.Event event) is there = one _ (Some (Ok request)) there (ap (λ x. due_of_asked x) is) (ap (inputs_of_asked moment) is)
    by_asked request (asks.Query query) is there = nothing_told
    by_asked request asks.Actions is there = nothing_told

    by : (r : Option (Option (Result Request Refusal))) → slice_get turned.requests k ≡ r → StandIn (flat_map told_by (puts (command_in moment r) put)) all
    by None there = nothing_told
    by (Some None) there = nothing_told
    by (Some (Some (Err e))) there = nothing_told
    by (Some (Some (Ok request))) there = by_asked request request.asked refl there
