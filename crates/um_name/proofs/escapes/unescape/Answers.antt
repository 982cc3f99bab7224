use Rattle.std.proofs.Common.{◌≡◌, ◌-◌, ◌++◌, [], ◌∷◌, None, Some, append-nil, length, take, drop, sym, ap, ◌∙◌}
use Rattle.std.proofs.lemmas.List.{take_rest, nil_from_length}
use Rattle.um_model.specs.Names.{unescape_front}
use Rattle.um_model.specs.Pieces.{Unreadable, Gives}
use Rattle.um_model.proofs.PiecesLaws.{prefixed, reading, reading_more, reading_none, no_reading, StandsForText-reading}
use Rattle.um_name.proofs.escapes.unescape.Goals as goal

pub returns-in_default-read_front : goal.returns-in_default-read_front
returns-in_default-read_front c =
    let rest : c.loop-first.rest.now ≡ c.in-Some.first.now ∷ c.in-Some.more.now = c.in-Some.ensures.cases.0 in
    let front : unescape_front c.in-Some.first.now c.in-Some.more.now ≡ Unreadable = sym c.in_default-read_front.ensures.front in
    let none : reading unescape_front c.args.text.now ≡ None =
    sym c.loop-first.invariant ∙ ap (λ r. prefixed c.loop-first.bytes.items (reading unescape_front r)) rest
    ∙ reading_none unescape_front c.in-Some.first.now c.in-Some.more.now c.loop-first.bytes.items front in
    λ bytes. no_reading unescape_front c.args.text.now bytes none

pub overflow_sub-rest : goal.overflow_sub-rest
overflow_sub-rest c = c.in-Some-read_front.ensures.some

pub loop-first-preserved : goal.loop-first-preserved
loop-first-preserved c =
    let rest : c.loop-first.rest.now ≡ c.in-Some.first.now ∷ c.in-Some.more.now = c.in-Some.ensures.cases.0 in
    let piece = c.in-Some-read_front.piece in
    let front : unescape_front c.in-Some.first.now c.in-Some.more.now ≡ Gives (piece.byte ∷ []) piece.size = sym c.in-Some-read_front.ensures.front in
    let items : c.push.new.self.items ≡ c.loop-first.bytes.items ++ (piece.byte ∷ []) = c.in_ok-push.ensures.items in
    ap (λ bytes. prefixed bytes (reading unescape_front (take (length c.in-Some.more.now - (piece.size - 1)) (drop (piece.size - 1) c.in-Some.more.now)))) items
    ∙ ap (λ r. prefixed (c.loop-first.bytes.items ++ (piece.byte ∷ [])) (reading unescape_front r)) (take_rest c.in-Some.more.now (piece.size - 1))
    ∙ sym (reading_more unescape_front c.in-Some.first.now piece.size c.in-Some.more.now (piece.byte ∷ []) c.loop-first.bytes.items front)
    ∙ ap (λ r. prefixed c.loop-first.bytes.items (reading unescape_front r)) (sym rest)
    ∙ c.loop-first.invariant

pub returns : goal.returns
returns c =
    let rest : c.loop-first.rest.now ≡ [] = nil_from_length c.loop-first.rest.now c.in_default.ensures.cases in
    StandsForText-reading unescape_front c.args.text.now c.loop-first.bytes.items
    (sym c.loop-first.invariant ∙ ap (λ r. prefixed c.loop-first.bytes.items (reading unescape_front r)) rest ∙ ap Some (append-nil c.loop-first.bytes.items))
