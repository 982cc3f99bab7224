-- The replies that are put out for the connections.
-- No manual page has this: it is the project's own protocol (docs/FORMATS.md, "Replies").
-- The turn of the manager stands on this file.
use Rattle.std.specs.Prelude.{◌≡◌, ◌⊎◌, ◌+◌, ℕ, zero, suc, List, [], ◌∷◌, Bool, Option, Some, Ok, Err, ⊤}
use mathlib.Core.Logic.{inl, inr}
use Rattle.um_keeper.specs.Answering.{Answer}
use Rattle.um_model.specs.Machine.{State, Query, Reply, Refusal, IsReplyTo}
use Rattle.um_model.specs.Refusals.{no_memory}
use Rattle.um_model.specs.Replies.{reply_text}
use Rattle.um_model.specs.Sessions.{Session, Does, Put, GiveUp, Take}
use Rattle.um_state.specs.View.{query_of, reply_of}
use Rattle.um_wire.specs.Refusal.{refused_of}
use Rattle.um_manager.specs.declared.taking.Due.{Due}
use Rattle.um_manager.specs.declared.taking.Due.TheVariants as due

-- the reply that an answer of the store gives
abbrev pub reply_in : Answer → Reply
reply_in (Ok accepted) = accepted.0
reply_in (Err e) = Refusal (refused_of e)

-- a reply's frame is put out; or it finds no memory, and its session has failed with nothing of it put out
abbrev pub Puts : Session → Reply → Session → Type 0
Puts t reply u = Does t (Put (reply_text reply)) u ⊎ Does t GiveUp u

-- the reply to a query, or that it finds no memory
abbrev pub TellsOf : State → Query → Reply → Type 0
TellsOf s query reply = IsReplyTo s query reply ⊎ (reply ≡ Refusal no_memory)

-- how many replies of inputs are due
abbrev pub replies_due : Due → ℕ
replies_due due.Input = 1
replies_due other = 0

abbrev pub replies_owed : List Due → ℕ
replies_owed [] = 0
replies_owed (d ∷ ds) = replies_due d + replies_owed ds

-- the due reply is put out: an input's is the first of the replies at hand, a query's is the one of the state
abbrev pub Pays : State → Due → (replies left : List Reply) → Session → Session → Type 0
Pays s due.Nothing replies left t u = (left ≡ replies) × (u ≡ t)
Pays s due.Input replies left t u = (reply : Reply) × (replies ≡ reply ∷ left) × Puts t reply u
Pays s (due.Query query) replies left t u = (left ≡ replies) × ((reply : Reply) × TellsOf s (query_of query) reply × Puts t reply u)
Pays s (due.Reply reply) replies left t u = (left ≡ replies) × Puts t (reply_of reply) u

-- the same of each connection, ascending
abbrev pub PaysAll : State → List Due → List Reply → List Session → List Session → Type 0
PaysAll s [] replies [] [] = ⊤
PaysAll s (d ∷ ds) replies (t ∷ ts) (u ∷ us) = (left : List Reply) × Pays s d replies left t u × PaysAll s ds left ts us
PaysAll s ds replies ts us = ⊥

-- the reply, where its frame was put out
abbrev pub where_put : (t u : Session) (reply : Reply) → Puts t reply u → List Reply
where_put t u reply (inl put) = reply ∷ []
where_put t u reply (inr given_up) = []

-- the reply that was put out of those that were due
abbrev pub put_by : (s : State) (d : Due) (replies left : List Reply) (t u : Session) → Pays s d replies left t u → List Reply
put_by s due.Nothing replies left t u paid = []
put_by s due.Input replies left t u paid = where_put t u paid.0 paid.2
put_by s (due.Query query) replies left t u paid = where_put t u paid.1.0 paid.1.2
put_by s (due.Reply reply) replies left t u paid = where_put t u (reply_of reply) paid.1

-- the reply whose frame was put out for a connection, if any
abbrev pub put_at : ℕ → (s : State) (ds : List Due) (replies : List Reply) (ts us : List Session) → PaysAll s ds replies ts us → List Reply
put_at zero s (d ∷ ds) replies (t ∷ ts) (u ∷ us) paid = put_by s d replies paid.0 t u paid.1
put_at (suc k) s (d ∷ ds) replies (t ∷ ts) (u ∷ us) paid = put_at k s ds paid.0 ts us paid.2
put_at k s ds replies ts us paid = []

-- the output of a connection is taken, with whether its session has failed
abbrev pub IsOutput : Option Session → List ℕ → Bool → Option Session → Type 0
IsOutput (Some t) bytes failed (Some u) = Does t (Take bytes) u × (failed ≡ u.failed)
IsOutput t bytes failed u = ⊥
