-- The bytes that the gate took for one client of the manager's output for it, as the manager's history records them.
-- No manual page has this: it is the project's own (docs/HEADLINE.md, "Which call gives what").
-- The law of what a client reads stands on this file.
use Rattle.std.specs.Prelude.{◌≡◌, ℕ, List, [], ◌++◌, Bool, false, Some, Result, slice_get}
use Rattle.um_backlog.specs.Backlog.{Waits}
use Rattle.um_manager.specs.Had.{since_closed, put_out_of, frames_of}
use Rattle.um_manager.specs.Histories.{History}
use Rattle.um_manager.specs.Places.{Place}
use Rattle.um_model.specs.Children.{Call}
use Rattle.um_model.specs.Disk.{Past}
use Rattle.um_model.specs.Sessions.{Session}
use Rattle.um_serve.specs.Clients.{taken_of}
use Rattle.um_serve.specs.Histories.{AreRounds, no_round, and_round, last_round, lost_round}
use Rattle.um_serve.specs.Rounds.{Round, Trust, Served}
use Rattle.um_wire.specs.declared.refusal.Refusal.{Refusal}

-- the bytes that the gate took for a connection in these rounds, after those it had taken before, since it was last
-- heard to be closed
abbrev pub took_in_rounds : {trust : Trust} {at : Place} {disk : Past} {before : List Call} {rs : List Round} {result : Result Unit Refusal} {x y : Served}
    {past : History disk before x.now} {all : History disk before y.now} → ℕ → List ℕ → AreRounds trust at rs result x y past all → List ℕ
took_in_rounds k took no_round = took
took_in_rounds k took (and_round {r = r} round found out rest) =
    took_in_rounds k (since_closed (slice_get r.pieces k) took ++ taken_of k round.said) rest
took_in_rounds k took (last_round {r = r} refused round found out) = since_closed (slice_get r.pieces k) took ++ taken_of k round.said
took_in_rounds k took (lost_round untaken out) = took

-- between two rounds nothing is left in the session of a connection, and the output that wasn't taken waits, unless its
-- client was given up
pub record WaitsAt (k : ℕ) (x : Served) (rest : List ℕ) : Type 0 where
  pub session : Session
  pub at : slice_get x.now.sessions k ≡ Some session
  pub empty : session.output ≡ []
  pub waits : Waits
  pub there : slice_get x.waits k ≡ Some waits
  pub are : waits.is_over ≡ false → waits.bytes ≡ rest

-- The bytes that the gate took for a connection are a beginning of the frames that its manager put out for it; the rest
-- waits, unless a read was lost.
pub record IsTakenBy (k : ℕ) (took : List ℕ) (x : Served) {disk : Past} {before : List Call} (past : History disk before x.now) : Type 0 where
  pub rest : List ℕ
  pub all : took ++ rest ≡ frames_of (put_out_of k past)
  pub waiting : x.lost ≡ false → WaitsAt k x rest
