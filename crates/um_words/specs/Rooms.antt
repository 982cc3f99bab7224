-- How much room texts take, one after another.
-- No manual page has this: it is execve(2)'s count of the arguments, where a zero byte follows each.
-- The words that a process is started with, and the length of replies, stand on this file.
use Rattle.std.specs.Prelude.{ℕ, ◌+◌, ◌-◌, Bool, ◌&&◌, nat_le, List, length, Option, Some, None, if◌then◌else◌}
use Rattle.std.specs.List.{list_all, sum_by}
use Rattle.um_words.specs.declared.room.Room.{Room}

-- the room of a text: its bytes, and `beside` more
abbrev pub size_of : ℕ → List ℕ → ℕ
size_of beside text = length text + beside

-- the room of several texts
abbrev pub sizes_of : ℕ → List (List ℕ) → ℕ
sizes_of beside texts = sum_by (size_of beside) texts

-- each takes at most the longest allowed, and all together at most the room's total
abbrev pub fits : Room → List (List ℕ) → Bool
fits room texts = list_all (λ text. nat_le (size_of room.beside text) room.longest) texts && nat_le (sizes_of room.beside texts) room.total

-- the room that texts leave, if they fit
abbrev pub left : Room → List (List ℕ) → Option Room
left room texts = if fits room texts then Some (record room { total = room.total - sizes_of room.beside texts }) else None
