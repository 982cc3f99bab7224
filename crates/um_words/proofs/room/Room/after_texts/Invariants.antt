use Rattle.std.proofs.Common.{◌≡◌, map, drop, string_bytes}
use Rattle.um_words.specs.Rooms.{left}
use Rattle.um_words.proofs.room.Room.after_texts.Given as goal

-- the remaining texts leave of the free room the same as all of them leave of the whole room
abbrev pub invariant-loop-text : goal.invariant-loop-text
invariant-loop-text l = left l.free (map string_bytes (drop l.text-index l.texts)) ≡ left l.fn.self (map string_bytes l.texts)
