use Rattle.std.proofs.Common.{rules, ◌≡◌, ◌+◌, ◌∷◌, [], drop, map, string_bytes, sym, ap, ◌∙◌}
use Rattle.std.proofs.lemmas.List.{drop_more}
use Rattle.um_words.proofs.RoomLemmas.{left_more}
use Rattle.um_words.proofs.room.Room.after_texts.Goals as goal

pub loop-text-preserved : goal.loop-text-preserved
loop-text-preserved c =
    let texts = c.args.texts.now in
    let i = c.loop-text.text-index in
    let text = c.text-item.result in
    let here : drop i texts ≡ text ∷ drop (i + 1) texts =
    drop_more texts i text c.loop-text-test.true ∙ ap (λ t. t ∷ drop (i + 1) texts) (search (rules, c.text-item.is)) in
    left_more c.loop-text.free c.in_ok-free.free (string_bytes text ∷ []) (map string_bytes (drop (i + 1) texts)) (map string_bytes (drop i texts)) _
    (ap (map string_bytes) here) (sym (c.after.ensures (string_bytes text) (search rules)) ∙ c.in_ok-free.was) c.loop-text.invariant
