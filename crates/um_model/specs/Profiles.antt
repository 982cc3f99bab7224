-- By which rules the files of units are read, and a tree as it is read.
-- No manual page has it: which keys are served is this project's own, and a later profile serves more of them.
-- Units, dependencies, enabling and the state depend on this file.
use Rattle.std.specs.Prelude.{Bool, true, false}
use Rattle.um_model.specs.Tree.{Tree, without_run}
use Rattle.um_model.specs.declared.profile.Profile.{Profile}
use Rattle.um_model.specs.declared.profile.Profile.TheVariants.{One, Two}

-- the later of two profiles
abbrev pub later : Profile → Profile → Profile
later One other = other
later Two other = Two

-- the profile serves ExecStartPre=, so that a unit may be in start-pre
abbrev pub serves_start_pre : Profile → Bool
serves_start_pre One = false
serves_start_pre Two = true

-- the profile of inputs that are submitted now, by which queries read the tree in hand too
abbrev pub current : Profile
current = Two

-- a tree as it is read
pub record ReadTree : Type 0 where
  pub entries : Tree
  pub profile : Profile

-- these entries, read by that profile
abbrev pub read_by : Profile → Tree → ReadTree
read_by profile entries = record { entries = entries; profile = profile }

-- the tree as it comes out of a boot: it is read as it was
abbrev pub lasting_tree : ReadTree → ReadTree
lasting_tree tree = record tree { entries = without_run tree.entries }
