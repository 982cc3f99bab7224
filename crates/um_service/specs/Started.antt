-- The words and the environment that a process is started with, and how long they may be.
-- Follows systemd.service(5), "Command lines", and execve(2), "Limits on size of arguments and environment".
-- Actions, orders and the children stand on this file.
use Rattle.std.specs.Prelude.{ℕ, Bool, List, [], ◌++◌, Option, Some, None, not, slice_get, if◌then◌else◌}
use Rattle.um_model.specs.Commands.{Command}
use Rattle.um_model.specs.Settings as model
use Rattle.um_model.specs.Substitution.{Variable}
use Rattle.um_model.specs.declared.transition.CommandList.{CommandList}
use Rattle.um_words.specs.Rooms.{fits}
use Rattle.um_words.specs.Substituted.{substituted}
use Rattle.um_words.specs.declared.room.Room.{Room}

-- the words that a command is started with: its variables stand for their values, unless it is written with `:`
abbrev pub started_words : List Variable → Option Command → List (List ℕ)
started_words environment None = []
started_words environment (Some c) = if c.substitutes then substituted environment c.words else c.words

-- the words and the environment of a started process
pub record Started : Type 0 where
  pub words : List (List ℕ)
  pub environment : List (List ℕ)

-- the command at this place of these settings, as it is started
abbrev pub started_at : model.ServiceSettings → CommandList → ℕ → Started
started_at s which i = record {
  words = started_words s.environment (slice_get (model.commands_in s which) i);
  environment = model.environment_texts s;
}

-- the limits of execve(2): two MiB in all, and 128 KiB in one text, each with its zero byte
abbrev pub arguments : Room
arguments = record { total = 2097152; longest = 131072; beside = 1 }

-- no process can be started with these texts: they are too long
abbrev pub is_too_long : (words environment : List (List ℕ)) → Bool
is_too_long words environment = not (fits arguments (words ++ environment))
