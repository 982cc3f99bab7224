-- The words and the environment of a started process agree with the definitions.
use Rattle.std.proofs.Common.{◌≡◌, ◌↔◌, ℕ, Bool, true, false, cond, List, Option, Some, None, refl, subst}
use Rattle.um_model.specs.Commands.{Command}
use Rattle.um_model.specs.Substitution.{Variable}
use Rattle.um_model.specs.Transitions.{AreStarted, no_command, substituted as with_variables, as_written}
use Rattle.um_laws.proofs.TransitionLaws.{same_started}
use Rattle.um_service.specs.Started.{started_words}
use Rattle.um_words.proofs.CountLemmas.{are_substituted}
use Rattle.um_words.specs.Substituted.{substituted}

started_by : (environment : List Variable) (c : Command) (b : Bool) → c.substitutes ≡ b → AreStarted environment (Some c) (cond b (substituted environment c.words) c.words)
started_by environment c true is = with_variables c (substituted environment c.words) is (are_substituted environment c.words)
started_by environment c false is = as_written c is

-- the function finds the words that a command is started with
pub are_started : (environment : List Variable) (command : Option Command) → AreStarted environment command (started_words environment command)
are_started environment None = no_command
are_started environment (Some c) = started_by environment c c.substitutes refl

pub started_is : (environment : List Variable) (command : Option Command) (words : List (List ℕ)) → (started_words environment command ≡ words) ↔ AreStarted environment command words
started_is environment command words = (
  λ e. subst (AreStarted environment command) e (are_started environment command),
  λ are. same_started environment command (started_words environment command) words (are_started environment command) are,
)
