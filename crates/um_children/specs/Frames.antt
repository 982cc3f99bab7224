-- The frame of a call over children: the parts it leaves as they were, whatever else it does and whatever it answers.
-- No manual page has it: it is the project's own.
-- The calls of um_fates, the manager's and the server's stand on this file.
use Rattle.std.specs.Prelude.{◌≡◌, IsTrue}
use Rattle.um_children.specs.declared.children.Children as children

-- Children after a call are as honest as before it; and if no call is missing from their history after it, none was
-- before.
pub record KeepsChildren {C : Type 0} (c : children.Ghosts C) (old new : C) : Type 0 where
  pub honest : c.honest new ≡ c.honest old
  pub whole : IsTrue (c.whole new) → IsTrue (c.whole old)
