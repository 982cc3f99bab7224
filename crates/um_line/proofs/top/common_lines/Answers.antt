use Rattle.std.proofs.Common.{refl, ◌≡◌, ◌∷◌, ℕ, List, [], codes}
use Rattle.clap.proofs.OnLiterals.{clap_on_literals}
use Rattle.clap.specs.declared.error.kind.ErrorKind.TheVariants as kind
use Rattle.um_line.specs.Line.{mistakes_of}
use Rattle.um_line.proofs.top.common_lines.Goals as goal

memory_is : (name : List ℕ) → mistakes_of (name ∷ codes "--memory" ∷ []) ≡ []
unfolding clap_on_literals
memory_is name = refl

help_is : (name : List ℕ) → mistakes_of (name ∷ codes "--help" ∷ []) ≡ kind.DisplayHelp ∷ []
unfolding clap_on_literals
help_is name = refl

version_is : (name : List ℕ) → mistakes_of (name ∷ codes "--version" ∷ []) ≡ kind.DisplayVersion ∷ []
unfolding clap_on_literals
version_is name = refl

nothing_is : (name : List ℕ) → mistakes_of (name ∷ []) ≡ kind.MissingRequiredArgument ∷ []
unfolding clap_on_literals
nothing_is name = refl

twice_is : (name : List ℕ) → mistakes_of (name ∷ codes "--memory" ∷ codes "--memory" ∷ []) ≡ kind.ArgumentConflict ∷ []
unfolding clap_on_literals
twice_is name = refl

other_is : (name : List ℕ) → mistakes_of (name ∷ codes "--memory" ∷ codes "x" ∷ []) ≡ kind.UnknownArgument ∷ []
unfolding clap_on_literals
other_is name = refl

pub returns : goal.returns
returns c = record { memory = memory_is; help = help_is; version = version_is; nothing = nothing_is; twice = twice_is; other = other_is }
