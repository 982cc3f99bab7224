use Rattle.std.proofs.Common.{◌≡◌, Bool, not, true≢false, map, Option, Some, None, refl, sym, ap, ◌∙◌}
use Rattle.std.specs.Prelude.{IsTrue, is_some}
use Rattle.um_state.specs.View.{action_of}
use Rattle.um_proto.proofs.Lengths.{not_whole}
use Rattle.um_proto.proofs.write.are_too_long.Goals as goal

none_there : {A : Type 0} (o : Option A) (b : Bool) → is_some o ≡ not b → IsTrue b → o ≡ None
none_there None b e told = refl
none_there (Some x) b e told = absurd (true≢false (e ∙ ap not told))

pub returns : goal.returns
returns c = λ told.
    let room = c.room_of_words.ensures in
    let none = none_there c.in_ok-free.free c.is_none.result c.is_none.ensures told in
    not_whole c.room_of_words.result (map action_of c.args.actions.now) room.total room.longest room.beside (sym c.in_ok-free.ensures ∙ none)
