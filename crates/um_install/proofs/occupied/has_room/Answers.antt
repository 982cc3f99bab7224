use Rattle.std.proofs.Common.{map as each, is_none, string_bytes, nat_le, ap, sym, ◌∙◌, ◌≡◌, ◌-◌, true, String, Global, List, ℕ}
use Rattle.std.specs.FinMap as map
use Rattle.um_model.specs.Tree.{entry_limit}
use Rattle.um_install.specs.Checks.{new_paths}
use Rattle.um_install.proofs.Members.{keys_seen}
use Rattle.um_install.proofs.StepLaws.{none_to_fit, no_room_left}
use Rattle.um_install.proofs.occupied.has_room.Goals as goal

abbrev path_of : String Global × String Global → List ℕ
path_of e = string_bytes e.0

pub returns-then-room-eq0-clause-room : goal.returns-then-room-eq0-clause-room
returns-then-room-eq0-clause-room c =
    let tree = c.args.tree.now in
    let all = c.into_iter-path-iterator.ensures.into_iter_gives ∙ c.iter-path-items.ensures.rest in
    let new : is_none (map.get tree (string_bytes c.in-Some.path.now)) ≡ true = ap (λ p. is_none (map.get tree p)) (sym c.as_str.ensures.value) ∙ sym c.if-is_new.ensures in
    sym (no_room_left _ (new_paths tree (each path_of c.next.new.self)) c.loop-path.room new c.if-room-eq0.true)
    ∙ sym (ap (λ es. nat_le (new_paths tree (each path_of es)) c.loop-path.room) c.in-Some.ensures.steps)
    ∙ c.loop-path.invariant
    ∙ ap (λ n. nat_le (new_paths tree (each path_of c.into_iter-path-iterator.result)) (entry_limit - n)) c.len-room.ensures.len
    ∙ ap (λ es. nat_le (new_paths tree (each path_of es)) (entry_limit - map.len tree)) all
    ∙ ap (λ ks. nat_le (new_paths tree ks) (entry_limit - map.len tree)) (keys_seen string_bytes c.args.targets.now c.iter-path-items.ensures.ordered)

pub returns-clause-room : goal.returns-clause-room
returns-clause-room c =
    let tree = c.args.tree.now in
    let all = c.into_iter-path-iterator.ensures.into_iter_gives ∙ c.iter-path-items.ensures.rest in
    sym (none_to_fit c.loop-path.room)
    ∙ sym (ap (λ es. nat_le (new_paths tree (each path_of es)) c.loop-path.room) c.in-None.ensures.steps.0)
    ∙ c.loop-path.invariant
    ∙ ap (λ n. nat_le (new_paths tree (each path_of c.into_iter-path-iterator.result)) (entry_limit - n)) c.len-room.ensures.len
    ∙ ap (λ es. nat_le (new_paths tree (each path_of es)) (entry_limit - map.len tree)) all
    ∙ ap (λ ks. nat_le (new_paths tree ks) (entry_limit - map.len tree)) (keys_seen string_bytes c.args.targets.now c.iter-path-items.ensures.ordered)
