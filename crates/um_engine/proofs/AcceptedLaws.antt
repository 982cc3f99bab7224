-- A command that isn't refused isn't answered as a refusal.
use Rattle.std.proofs.Common.{◌≡◌}
use Rattle.um_model.specs.Machine as model
use Rattle.um_model.specs.Refusals.{Refused}
use Rattle.um_model.specs.Tree.{Tree}

pub never_refused : (command : model.Command) (before after : Tree) (r : Refused) → model.reply_after (model.Commanded command) before after ≡ model.Refusal r → ⊥
never_refused (model.Install verb unit) before after r e = cc
never_refused (model.PutFile path text) before after r e = cc
never_refused (model.PutLink path target) before after r e = cc
never_refused (model.Remove path) before after r e = cc
never_refused model.DaemonReload before after r e = cc
never_refused (model.ForUnit verb unit mode) before after r e = cc
never_refused (model.Cancel unit) before after r e = cc
never_refused (model.ResetFailed unit) before after r e = cc
