use Rattle.std.proofs.Common.{◌≡◌, List, ◌∷◌, map, drop, string_bytes}
use Rattle.std.specs.List.{flat_map}
use Rattle.um_model.specs.Substitution.{Variable}
use Rattle.um_words.specs.Rooms.{left}
use Rattle.um_words.specs.Substituted.{becomes, substituted}
use Rattle.um_words.specs.Values.{Holds}
use Rattle.um_words.proofs.counting.after_words.Given as goal

-- the results of the remaining words leave of the free room the same as all results leave of the whole room
abbrev pub invariant-loop-word : goal.invariant-loop-word
invariant-loop-word l =
    (environment : List Variable) → Holds environment l.values
    → left l.free (flat_map (becomes environment) (map string_bytes (drop l.word-index l.others))) ≡ left l.fn.room (substituted environment (l.first ∷ map string_bytes l.others))
