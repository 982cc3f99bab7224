-- Inputs whose texts have a length that four bytes hold.
use Rattle.std.specs.Prelude.{ℕ, ◌<◌, ◌^◌, ⊤, List, length}
use Rattle.um_model.specs.Machine as model

-- fewer than 2^32 bytes
abbrev pub IsShort : List ℕ → Type 0
IsShort text = length text < 2 ^ 32

-- the texts of a command are
abbrev pub AreShort : model.Command → Type 0
AreShort (model.PutFile path text) = IsShort path × IsShort text
AreShort (model.PutLink path target) = IsShort path × IsShort target
AreShort (model.Remove path) = IsShort path
AreShort model.DaemonReload = ⊤
AreShort (model.ForUnit verb unit mode) = ⊤
AreShort (model.Cancel unit) = ⊤
AreShort (model.ResetFailed unit) = ⊤
AreShort (model.Install verb unit) = ⊤

-- a happening has no such text
abbrev pub HasShortTexts : model.Event → Type 0
HasShortTexts (model.Commanded command) = AreShort command
HasShortTexts (model.Happened happening) = ⊤
