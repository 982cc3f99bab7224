use Rattle.std.proofs.Common.{◌≡◌, map, drop}
use Rattle.std.specs.List.{flat_map}
use Rattle.um_state.specs.View.{action_of}
use Rattle.um_words.specs.Rooms.{left}
use Rattle.um_proto.specs.Written.{words_told}
use Rattle.um_proto.proofs.write.room_after_all.Given as goal

-- the words of the remaining actions leave of the free room the same as all words leave of the whole room
abbrev pub invariant-loop-action : goal.invariant-loop-action
invariant-loop-action l = left l.free (flat_map words_told (map action_of (drop l.action-index l.actions))) ≡ left l.fn.room (flat_map words_told (map action_of l.actions))
