use Rattle.std.proofs.Common.{length}
use Rattle.um_manager.proofs.taking.+room_all.Given as goal

abbrev pub decreases-room_all : goal.decreases-room_all
decreases-room_all l = length l.sessions.now
