use Rattle.std.proofs.Common.{length}
use Rattle.um_ctl.proofs.writing.+tell_arguments.Given as goal

-- each call has one name less
abbrev pub decreases-tell_arguments : goal.decreases-tell_arguments
decreases-tell_arguments l = length l.names.now
