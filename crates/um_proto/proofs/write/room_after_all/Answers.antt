use Rattle.std.proofs.Common.{rules, ◌≡◌, ◌+◌, ◌∷◌, drop, map, sym, ap, ◌∙◌}
use Rattle.std.specs.List.{flat_map}
use Rattle.std.proofs.lemmas.List.{drop_more}
use Rattle.um_state.specs.View.{action_of}
use Rattle.um_words.proofs.RoomLemmas.{left_more, left_no_more}
use Rattle.um_proto.specs.Written.{words_told}
use Rattle.um_proto.proofs.write.room_after_all.Goals as goal

pub returns-in_default : goal.returns-in_default
returns-in_default c =
    let actions = c.args.actions.now in
    let i = c.loop-action.action-index in
    let action = c.action-item.result in
    let here : drop i actions ≡ action ∷ drop (i + 1) actions =
    drop_more actions i action c.loop-action-test.true ∙ ap (λ a. a ∷ drop (i + 1) actions) (search (rules, c.action-item.is)) in
    left_no_more c.loop-action.free (words_told (action_of action)) (flat_map words_told (map action_of (drop (i + 1) actions))) _ _
    (ap (λ xs. flat_map words_told (map action_of xs)) here) (sym c.in_ok-less.ensures ∙ c.in_default.is) c.loop-action.invariant

pub loop-action-preserved : goal.loop-action-preserved
loop-action-preserved c =
    let actions = c.args.actions.now in
    let i = c.loop-action.action-index in
    let action = c.action-item.result in
    let here : drop i actions ≡ action ∷ drop (i + 1) actions =
    drop_more actions i action c.loop-action-test.true ∙ ap (λ a. a ∷ drop (i + 1) actions) (search (rules, c.action-item.is)) in
    left_more c.loop-action.free c.in-Some.less (words_told (action_of action)) (flat_map words_told (map action_of (drop (i + 1) actions))) _ _
    (ap (λ xs. flat_map words_told (map action_of xs)) here) (sym c.in_ok-less.ensures ∙ c.in-Some.is) c.loop-action.invariant
