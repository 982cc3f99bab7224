-- When two outcomes of one step, and two texts written for one stream, are the same but for the cycles that refusals name.
-- Follows no manual page: which cycle a refusal names is left open.
-- The laws of one outcome in um_engine and um_memory depend on this file.
use Rattle.std.specs.Prelude.{◌≡◌, ℕ, List, ◌++◌}
use Rattle.um_model.specs.Frames.{frame_of, last_reply}
use Rattle.um_model.specs.Machine.{State, Reply, Refusal}
use Rattle.um_model.specs.Refusals.{Refused, ordering_cycle}
use Rattle.um_model.specs.Replies.{reply_text}
use Rattle.um_model.specs.Service.{Action}
use Rattle.um_model.specs.declared.frames.Ending.{Ending}

-- a refusal names a cycle
abbrev pub NamesACycle : Refused → Type 0
NamesACycle r = (units : List (List ℕ)) × (r ≡ ordering_cycle units)

-- two replies are the same, or both are refusals that name a cycle
pub data AlikeBut : Reply → Reply → Type 0 where
  the_same : {r q : Reply} → r ≡ q → AlikeBut r q
  both_name : {r q : Refused} → NamesACycle r → NamesACycle q → AlikeBut (Refusal r) (Refusal q)

-- two outcomes are one, but for the cycle that a refusal names
pub record IsSameOutcome (r q : Reply) (a b : List Action) (s t : State) : Type 0 where
  pub reply : AlikeBut r q
  pub actions : a ≡ b
  pub state : s ≡ t

-- equally many replies stand in both, each pair the same or both refusals that name a cycle, and the same end
pub data AreAlikeBut (ending : Ending) : (out other : List ℕ) → Type 0 where
  at_last : AreAlikeBut ending (last_reply ending) (last_reply ending)
  and_reply : {r q : Reply} {out other : List ℕ} → AlikeBut r q → AreAlikeBut ending out other
      → AreAlikeBut ending (frame_of (reply_text r) ++ out) (frame_of (reply_text q) ++ other)
